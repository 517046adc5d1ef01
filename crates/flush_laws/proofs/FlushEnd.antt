-- A flush's end: the objects at their final places, key by key, are the objects by place.
-- What stays lies below the flushed regions. In each flushed region the payload objects lie side by side from its start on, and behind them, side by
-- side too, the overflow objects of the class; and a region takes what its class has.
use mathlib.Core.Path.{◌≡◌, refl, sym, ap, ◌∙◌}
use mathlib.Core.Bool.{true, false, cond, not, ◌&&◌}
use mathlib.Core.List.{List, [], ◌∷◌}
use Prim.Native.Nat.{ℕ, zero, suc, ◌+◌, ◌-◌, ◌*◌, ◌≤◌, ◌<◌}
use native.Mathlib.Omega.{arith}
use lib.ListN.{length, get_or}
use lib.Dec.{ltb, eqb}
use borrow.Author.Tests.{ltb-true, ltb-false, lt-ltb, le-ltb, eqb-true, eqb-false, eq-eqb, ne_eqb}
use Rattle.rules.specs.House.{classes}
use Rattle.rules.specs.Classes.{Obj, cls, class_of, end_of, placed, volume_of, filter, by_place}
use Rattle.rules.specs.Regions.{start_of}
use Rattle.rules.specs.Columns.{listed, picked, stays, of_payload, of_overflow}
use Rattle.rules.specs.Flush.{Start, live, rebound, in_flush, payloads, overflow, overflow_end, settled, plan, played}
use Rattle.rules.proofs.Lists.{All, all_map, filter_all}
use Rattle.rules.proofs.Facts.{Chain}
use Rattle.rules.proofs.Geometry.{climbs, starts_rise}
use Rattle.rules.proofs.Insertion.{filter_chain}
use Rattle.rules.proofs.Runs.{listed_at}
use Rattle.rules.proofs.Rebound.{rebound_above, rebound_starts}
use Rattle.rules.proofs.RestKept.{classed}
use Rattle.rules.proofs.Homes.{Classed, Window, settled_window, settled_classed}
use Rattle.rules.proofs.Names.{kinds, all_kinds}
use Rattle.rules.proofs.Plays.{moves_left}
use Rattle.rules.proofs.Ends.{payload_finals, overflow_finals, played_kinds}
use Rattle.rules.proofs.Begin.{Begins, floor_of, untouched, untouched_low}
use Rattle.rules.proofs.Finals.{suffices, payloads_classed, over_window, over_class}
use Rattle.rules.proofs.FlushSafe.{Settled, plan_safe}
use Rattle.rules.proofs.Laid.{Laid, flush_laid}
use Rattle.rules.proofs.SettledKept.{safe_ends, settled_rest}
use Rattle.edits.proofs.Runs.{object_at, listed_run, run_length}
use Rattle.edits.proofs.Finds.{filter_none}
use Rattle.orders.specs.Orders.{key_of, keyed, by_key}
use Rattle.flush_laws.proofs.KeyChain.{Stretch, keys_sorted}

-- one object more of the class, or of another
own_more : (c : ℕ) (o : Obj) (os : List Obj) → eqb (cls o) c ≡ true → volume_of c (o ∷ os) ≡ o.len + volume_of c os
unfolding volume_of
own_more c o os e = rw e

own_same : (c : ℕ) (o : Obj) (os : List Obj) → eqb (cls o) c ≡ false → volume_of c (o ∷ os) ≡ volume_of c os
unfolding volume_of
own_same c o os e = rw e (omega arith)

own_none : (c : ℕ) → volume_of c [] ≡ 0
unfolding volume_of
own_none c = refl

-- the final places of one class lie side by side
class_chain : (home : ℕ → ℕ) (c : ℕ) (before os : List Obj)
    → Chain (home c + volume_of c before) (filter (λ o. eqb (cls o) c) (settled home before os))
unfolding settled filter
class_chain home c before [] = tt
class_chain home c before (o ∷ os) = (elim (eqb (cls o) c) as (λ b. eqb (cls o) c ≡ b
    → Chain (home c + volume_of c before)
    (cond b (placed o (home (cls o) + volume_of (cls o) before) ∷ filter (λ x. eqb (cls x) c) (settled home (o ∷ before) os))
    (filter (λ x. eqb (cls x) c) (settled home (o ∷ before) os)))) [
      | true ↦ λ e.
          let q : home (cls o) + volume_of (cls o) before ≡ home c + volume_of c before = ap (λ (x : ℕ). home x + volume_of x before) (eqb-true _ _ e) in
          let k : home c + volume_of c (o ∷ before) ≡ home (cls o) + volume_of (cls o) before + o.len = omega (arith, own_more c o before e) in
          (omega arith, rw k at (class_chain home c (o ∷ before) os))
      | false ↦ λ e. rw (own_same c o before e) at (class_chain home c (o ∷ before) os)
    ]) refl

-- keys tell kinds and classes apart
module _ (k c κ d : ℕ) (some : 1 ≤ c) (one : 1 ≤ d) (few : k ≤ 1) (most : κ ≤ 1) where
  same_key : eqb (2 * c + k - 1) (2 * d + κ - 1) ≡ eqb (suc k) (suc κ) && eqb c d
  same_key = (elim (eqb (suc k) (suc κ)) as (λ b. eqb (suc k) (suc κ) ≡ b → eqb (2 * c + k - 1) (2 * d + κ - 1) ≡ b && eqb c d) [
    | true ↦ λ e. (elim (eqb c d) as (λ b. eqb c d ≡ b → eqb (2 * c + k - 1) (2 * d + κ - 1) ≡ b) [
      | true ↦ λ f. eq-eqb (2 * c + k - 1) (2 * d + κ - 1) (let x = eqb-true (suc k) (suc κ) e in let y = eqb-true c d f in omega arith)
      | false ↦ λ f. ne_eqb (2 * c + k - 1) (2 * d + κ - 1) (λ h. let x = eqb-true (suc k) (suc κ) e in eqb-false c d f (omega arith))
    ]) refl
    | false ↦ λ e. ne_eqb (2 * c + k - 1) (2 * d + κ - 1) (λ h. eqb-false (suc k) (suc κ) e (omega arith))
  ]) refl

key_of_lem : (kind c κ d : ℕ) → 1 ≤ c → 1 ≤ d → kind ≤ 2 → κ ≤ 1 → eqb (key_of kind c) (2 * d + κ - 1) ≡ eqb kind (suc κ) && eqb c d
key_of_lem zero c κ d s o f m = ne_eqb 0 (2 * d + κ - 1) (λ e. omega arith) ∙ rw (ne_eqb 0 (suc κ) (λ e. omega arith))
key_of_lem (suc k) c κ d s o f m = same_key k c κ d s o (omega arith) m

key_zero : (kind c : ℕ) → 1 ≤ c → eqb (key_of kind c) 0 ≡ eqb kind 0
key_zero zero c s = refl
key_zero (suc k) c s = ne_eqb (2 * c + k - 1) 0 (λ e. omega arith) ∙ sym (ne_eqb (suc k) 0 (λ e. omega arith))

key_few : (kind c : ℕ) → 1 ≤ c → c ≤ classes → kind ≤ 2 → key_of kind c < suc (2 * classes)
key_few zero c s m f = omega arith
key_few (suc k) c s m f = omega arith

-- columns of kinds and keys
module _ (sorts names finals lens of : List ℕ) where
  key_picked : (key κ c m i : ℕ)
      → ((j : ℕ) → i ≤ j → j < i + m → eqb (get_or of j 0) key ≡ eqb (get_or sorts j 0) κ && eqb (class_of (get_or lens j 0)) c)
      → keyed of key i (listed names finals lens i m) ≡ filter (λ o. eqb (cls o) c) (picked sorts κ names finals lens i m)
  unfolding keyed listed picked filter
  key_picked key κ c zero i h = refl
  key_picked key κ c (suc m) i h =
      let ih = key_picked key κ c m (suc i) (λ j a b. h j (omega arith) (omega arith)) in
      rw (h i (omega arith) (omega arith), ih)
      (elim (eqb (get_or sorts i 0) κ) as (λ b.
      cond (b && eqb (class_of (get_or lens i 0)) c)
      (object_at names finals lens i ∷ filter (λ o. eqb (cls o) c) (picked sorts κ names finals lens (suc i) m))
      (filter (λ o. eqb (cls o) c) (picked sorts κ names finals lens (suc i) m))
      ≡ filter (λ o. eqb (cls o) c) (cond b (object_at names finals lens i ∷ picked sorts κ names finals lens (suc i) m)
      (picked sorts κ names finals lens (suc i) m))) [
        | true ↦ refl
        | false ↦ refl
      ])

  stay_picked : (m i : ℕ) → ((j : ℕ) → i ≤ j → j < i + m → eqb (get_or of j 0) 0 ≡ eqb (get_or sorts j 0) stays)
      → keyed of 0 i (listed names finals lens i m) ≡ picked sorts stays names finals lens i m
  unfolding keyed listed picked
  stay_picked zero i h = refl
  stay_picked (suc m) i h = rw (h i (omega arith) (omega arith), stay_picked m (suc i) (λ j a b. h j (omega arith) (omega arith)))

-- where the objects of a class go: none below the boundary
abbrev low_of : ℕ → Start → ℕ → ℕ
low_of q s c = cond (ltb c s.boundary) (floor_of q s) (start_of q (rebound s).sizes c)

abbrev mid_of : ℕ → Start → ℕ → ℕ
mid_of q s c = cond (ltb c s.boundary) (floor_of q s) (start_of q (rebound s).sizes c + volume_of c (payloads q s))

-- final places of a class below the boundary: none
class_none : (b c : ℕ) (fs : List Obj) → c < b → All (Classed b) fs → filter (λ o. eqb (cls o) c) fs ≡ []
class_none b c fs h k = filter_none (λ o. eqb (cls o) c) fs (all_map (λ o l. ne_eqb (cls o) c (λ e. omega (arith, l.0))) fs k)

-- the end of those of a class
class_ends : (home u v : ℕ → ℕ) (c : ℕ) (fs : List Obj) → All (Window home u v) fs
    → All (λ o. end_of o ≤ home c + v c) (filter (λ o. eqb (cls o) c) fs)
class_ends home u v c fs w =
    all_map (λ o k. let e : home (cls o) + v (cls o) ≡ home c + v c = ap (λ (x : ℕ). home x + v x) (eqb-true _ _ k.1) in omega (arith, k.0.1))
    (filter (λ o. eqb (cls o) c) fs)
    (filter_all (Window home u v) (λ o. eqb (cls o) c) fs w)

all_weaken : (x y : ℕ) (fs : List Obj) → x ≤ y → All (λ o. end_of o ≤ x) fs → All (λ o. end_of o ≤ y) fs
all_weaken x y fs l h = all_map (λ o k. omega arith) fs h

module _ {q : ℕ} {s : Start} (g : Begins q s) where
  low_below : (c : ℕ) → c < s.boundary → low_of q s c ≡ floor_of q s
  low_below c l = rw (lt-ltb c s.boundary l)

  low_from : (c : ℕ) → s.boundary ≤ c → low_of q s c ≡ start_of q (rebound s).sizes c
  low_from c l = rw (le-ltb c s.boundary l)

  mid_below : (c : ℕ) → c < s.boundary → mid_of q s c ≡ floor_of q s
  mid_below c l = rw (lt-ltb c s.boundary l)

  mid_from : (c : ℕ) → s.boundary ≤ c → mid_of q s c ≡ start_of q (rebound s).sizes c + volume_of c (payloads q s)
  mid_from c l = rw (le-ltb c s.boundary l)

  low_floor : (c : ℕ) → floor_of q s ≤ low_of q s c
  low_floor c = (elim (ltb c s.boundary) as (λ b. ltb c s.boundary ≡ b → floor_of q s ≤ cond b (floor_of q s) (start_of q (rebound s).sizes c)) [
    | true ↦ λ e. omega arith
    | false ↦ λ e. omega (
      arith,
      rebound_starts q s s.boundary (omega (arith, g.high)) (omega arith),
      starts_rise q (rebound s).sizes s.boundary c g.low (ltb-false c s.boundary e),
    )
  ]) refl

  -- a region takes what its class has
  takes : (c : ℕ) → s.boundary ≤ c → c ≤ classes → start_of q (rebound s).sizes c + volume_of c (live s) ≤ start_of q (rebound s).sizes (suc c)
  takes c a b = omega (arith, climbs q (rebound s).sizes c (suc c) (omega (arith, g.low)) (omega arith), (rebound_above s c b a).size_is)

  module _ (of : List ℕ) (now : List Obj) (c first : ℕ) (some : 1 ≤ c) (most : c ≤ classes)
      (payload : keyed of first 0 now ≡ filter (λ o. eqb (cls o) c) (payload_finals q s))
      (over : keyed of (suc first) 0 now ≡ filter (λ o. eqb (cls o) c) (overflow_finals q s)) where
    below : c < s.boundary → Stretch of now (low_of q s) (mid_of q s) first c
    below l =
        let p = payload ∙ class_none s.boundary c (payload_finals q s) l
        (settled_classed (start_of q (rebound s).sizes) s.boundary [] (payloads q s) (payloads_classed g)) in
        let o = over ∙ class_none s.boundary c (overflow_finals q s) l (over_class g) in
        record {
          rises = omega (arith, low_below c l, mid_below c l);
          ends = omega (arith, mid_below c l, low_floor (suc c));
          payload = rw p tt;
          payload_ends = rw p tt;
          over = rw o tt;
          over_ends = rw o tt;
        }

    from : s.boundary ≤ c → Stretch of now (low_of q s) (mid_of q s) first c
    from l =
        let home = start_of q (rebound s).sizes in
        let z : home c + volume_of c [] ≡ home c = omega (arith, own_none c) in
        let n : s.boundary ≤ suc c = omega arith in
        record {
          rises = omega (arith, low_from c l, mid_from c l);
          ends = omega (arith, mid_from c l, low_from (suc c) n, takes c l most, suffices g c);
          payload = rw (payload, low_from c l, ← z) (class_chain home c [] (payloads q s));
          payload_ends = rw (payload, mid_from c l) (class_ends home (λ x. volume_of x []) (λ x. volume_of x (payloads q s)) c (payload_finals q s)
              (settled_window home (λ x. volume_of x (payloads q s)) [] (payloads q s) (λ x. omega (arith, own_none x))));
          over = rw (over, mid_from c l) (class_chain home c (payloads q s) (overflow q s));
          over_ends = rw (over, low_from (suc c) n)
              (all_weaken (home c + volume_of c (live s)) (home (suc c)) (filter (λ o. eqb (cls o) c) (overflow_finals q s)) (takes c l most)
              (class_ends home (λ x. volume_of x (payloads q s)) (λ x. volume_of x (live s)) c (overflow_finals q s) (over_window g)));
        }

    stretch : Stretch of now (low_of q s) (mid_of q s) first c
    stretch = (elim (ltb c s.boundary) as (λ b. ltb c s.boundary ≡ b → Stretch of now (low_of q s) (mid_of q s) first c) [
      | true ↦ λ e. below (ltb-true c s.boundary e)
      | false ↦ λ e. from (ltb-false c s.boundary e)
    ]) refl

  untouched_chain : Chain 0 (untouched q s)
  unfolding untouched
  untouched_chain = filter_chain (λ o. not (in_flush q s o)) s.old 0 g.rest.apart

  -- AT A FLUSH'S END the objects key by key are the objects by place
  module _ (sorts names places lens of : List ℕ) (n : ℕ)
      (end : Settled q s (listed names places lens 0 n)) (laid : Laid (overflow_end q s) (listed names places lens 0 n))
      (same : kinds (live s) ≡ kinds (listed names places lens 0 n))
      (staying : picked sorts stays names places lens 0 n ≡ untouched q s)
      (packed : picked sorts of_payload names places lens 0 n ≡ payload_finals q s)
      (lifted : picked sorts of_overflow names places lens 0 n ≡ overflow_finals q s)
      (sorted : (k : ℕ) → k < n → get_or sorts k 0 ≤ 2)
      (key-is : (k : ℕ) → k < n → get_or of k 0 ≡ key_of (get_or sorts k 0) (class_of (get_or lens k 0))) where
    now_sized : All (λ (o : Obj). (1 ≤ cls o) × (cls o ≤ classes) × (1 ≤ o.len)) (listed names places lens 0 n)
    now_sized = all_kinds (λ k l. (1 ≤ class_of l) × (class_of l ≤ classes) × (1 ≤ l)) (live s) (listed names places lens 0 n) same
        (all_map (λ o f. ((classed o f).0, (classed o f).1, f.some_length)) (live s) g.fits)

    class_at : (k : ℕ) → k < n → (1 ≤ class_of (get_or lens k 0)) × (class_of (get_or lens k 0) ≤ classes) × (1 ≤ get_or lens k 0)
    class_at k l =
        listed_at (λ (o : Obj). (1 ≤ cls o) × (cls o ≤ classes) × (1 ≤ o.len)) names places lens n 0 now_sized k (omega arith) (omega arith)

    of_kind : (κ c : ℕ) → κ ≤ 1 → 1 ≤ c
        → keyed of (2 * c + κ - 1) 0 (listed names places lens 0 n) ≡ filter (λ o. eqb (cls o) c) (picked sorts (suc κ) names places lens 0 n)
    of_kind κ c m o = key_picked sorts names places lens of (2 * c + κ - 1) (suc κ) c n 0 (λ j a b.
        let l : j < n = omega arith in
        ap (λ (x : ℕ). eqb x (2 * c + κ - 1)) (key-is j l) ∙ key_of_lem (get_or sorts j 0) (class_of (get_or lens j 0)) κ c (class_at j l).0 o (sorted j l) m)

    of_none : keyed of 0 0 (listed names places lens 0 n) ≡ untouched q s
    of_none = stay_picked sorts names places lens of n 0 (λ j a b.
        let l : j < n = omega arith in
        ap (λ (x : ℕ). eqb x 0) (key-is j l) ∙ key_zero (get_or sorts j 0) (class_of (get_or lens j 0)) (class_at j l).0) ∙ staying

    at_class : (d : ℕ) → d < classes → Stretch of (listed names places lens 0 n) (low_of q s) (mid_of q s) (1 + 2 * d) (1 + d)
    at_class d l =
        let a : 2 * (1 + d) + 0 - 1 ≡ 1 + 2 * d = omega arith in
        let b : 2 * (1 + d) + 1 - 1 ≡ suc (1 + 2 * d) = omega arith in
        stretch of (listed names places lens 0 n) (1 + d) (1 + 2 * d) (omega arith) (omega arith)
        (rw a at (of_kind 0 (1 + d) (omega arith) (omega arith)) ∙ ap (filter (λ o. eqb (cls o) (1 + d))) packed)
        (rw b at (of_kind 1 (1 + d) (omega arith) (omega arith)) ∙ ap (filter (λ o. eqb (cls o) (1 + d))) lifted)

    pub flush_sorted : by_place (listed names places lens 0 n) ≡ by_key of (listed names places lens 0 n)
    flush_sorted =
        keys_sorted of (listed names places lens 0 n) (low_of q s) (mid_of q s) classes
        (rw of_none untouched_chain) (rw of_none (all_weaken (floor_of q s) (low_of q s 1) (untouched q s) (low_floor 1) (untouched_low g)))
        at_class
        (λ j l. let m : j < n = omega (arith, ap length (listed_run names places lens n 0), run_length (object_at names places lens) n 0) in
        rw (key-is j m) (key_few (get_or sorts j 0) (class_of (get_or lens j 0)) (class_at j m).0 (class_at j m).1 (sorted j m)))
        (settled_rest g (listed names places lens 0 n) end laid same).apart
        (all_map (λ o k. k.2) (listed names places lens 0 n) now_sized)

  -- the same of the objects as the whole plan leaves them
  pub plan_sorted : (sorts names places lens of : List ℕ) (n : ℕ)
      → listed names places lens 0 n ≡ played (plan q s) (moves_left (plan q s)) (live s)
      → picked sorts stays names places lens 0 n ≡ untouched q s
      → picked sorts of_payload names places lens 0 n ≡ payload_finals q s
      → picked sorts of_overflow names places lens 0 n ≡ overflow_finals q s
      → ((k : ℕ) → k < n → get_or sorts k 0 ≤ 2)
      → ((k : ℕ) → k < n → get_or of k 0 ≡ key_of (get_or sorts k 0) (class_of (get_or lens k 0)))
      → by_place (played (plan q s) (moves_left (plan q s)) (live s)) ≡ by_key of (listed names places lens 0 n)
  plan_sorted sorts names places lens of n now staying packed lifted sorted key-is =
      ap by_place (sym now)
      ∙ flush_sorted sorts names places lens of n (rw now (safe_ends (Settled q s) (plan q s) (live s) [] (plan_safe g [] tt)))
      (rw now (flush_laid g (moves_left (plan q s))))
      (rw now (sym (played_kinds (plan q s) (moves_left (plan q s)) (live s)))) staying packed lifted sorted key-is

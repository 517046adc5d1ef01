-- Phase 3 of a flush: the packed objects in rising order to their final places, in runs whose targets span a bounded distance.
-- The final places end `limit` bytes below where the packed objects end, so the next target always begins `limit` bytes or more below the next packed
-- object. A run reaches at most that far, so no target touches what was seen since the run began.
use mathlib.Core.Path.{◌≡◌, refl, ap}
use mathlib.Core.Logic.{◌⊎◌, inl, inr}
use mathlib.Core.List.{List, [], ◌∷◌, ◌++◌, reverse_aux}
use Prim.Native.Nat.{ℕ, ◌+◌, ◌-◌, ◌≤◌}
use native.Mathlib.Omega.{arith}
use native.Mathlib.Nat.{sub-zero}
use borrow.Author.Tests.{le-leb, lt-leb}
use Rattle.rules.specs.Classes.{Obj, end_of, placed, volume}
use Rattle.rules.specs.Flush.{moved, moves, packed, by_span, runs}
use Rattle.rules.proofs.Tables.{below_or_not}
use Rattle.rules.proofs.Lists.{All, In, all_in_lem, all_map, all_append}
use Rattle.rules.proofs.Safe.{Misses, Apart, target, Safe, Twins, onto, Divided, first, shift}
use Rattle.rules.proofs.Packing.{Sized}

-- rising, with gaps, from t up to ceil
abbrev pub Spread : ℕ → ℕ → List Obj → Type 0
Spread t ceil [] = t ≤ ceil
Spread t ceil (f ∷ fs) = (t ≤ f.at) × Spread (end_of f) ceil fs

-- side by side, from lo up to hi
abbrev pub Rising : ℕ → ℕ → List Obj → Type 0
Rising lo hi [] = lo ≡ hi
Rising lo hi (o ∷ os) = (o.at ≡ lo) × Rising (end_of o) hi os

spread_volume : (t ceil : ℕ) (fs : List Obj) → Spread t ceil fs → t + volume fs ≤ ceil
unfolding volume
spread_volume t ceil [] s = omega arith
spread_volume t ceil (f ∷ fs) s = omega (arith, spread_volume (end_of f) ceil fs s.1)

-- each place ends by the ceiling
pub spread_within : (t ceil : ℕ) (fs : List Obj) → Spread t ceil fs → (f : Obj) → In f fs → end_of f ≤ ceil
spread_within t ceil [] s f m = absurd m
spread_within t ceil (x ∷ xs) s f (inl e) = rw e (omega (arith, spread_volume (end_of x) ceil xs s.1))
spread_within t ceil (x ∷ xs) s f (inr m) = spread_within (end_of x) ceil xs s.1 f m

rising_volume : (lo hi : ℕ) (os : List Obj) → Rising lo hi os → lo + volume os ≡ hi
unfolding volume
rising_volume lo hi [] r = omega arith
rising_volume lo hi (o ∷ os) r = omega (arith, rising_volume (end_of o) hi os r.1)

rising_above : (lo hi : ℕ) (os : List Obj) → Rising lo hi os → (o : Obj) → In o os → lo ≤ o.at
rising_above lo hi [] r o m = absurd m
rising_above lo hi (x ∷ xs) r o (inl e) = rw e (omega arith)
rising_above lo hi (x ∷ xs) r o (inr m) = omega (arith, rising_above (end_of x) hi xs r.1 o m)

twins_volume : (os fs : List Obj) → Twins os fs → volume os ≡ volume fs
unfolding volume
twins_volume [] [] w = refl
twins_volume [] (f ∷ fs) w = absurd w
twins_volume (h ∷ os) [] w = absurd w
twins_volume (h ∷ os) (f ∷ fs) w = omega (arith, w.0.1, twins_volume os fs w.1)

-- what is packed, lowest first, lies side by side
pub packed_rising : (hi edge : ℕ) (os done : List Obj) → volume os ≤ edge → Rising edge hi done
    → Rising (edge - volume os) hi (reverse_aux (packed edge os) done)
unfolding packed volume
packed_rising hi edge [] done v r = rw sub-zero r
packed_rising hi edge (o ∷ os) done v r =
    let e : edge - (o.len + volume os) ≡ edge - o.len - volume os = omega arith in
    let l : edge - o.len + o.len ≡ edge = omega arith in
    rw e (packed_rising hi (edge - o.len) os (placed o (edge - o.len) ∷ done) (omega arith) (refl, rw l r))

module _ (limit goal ceil : ℕ) where
  -- a run goes on: it may reach up to `reach`, the next target is at t or above, the next packed object at s
  record Spreading (reach hi t s : ℕ) (todo fs rest now seen : List Obj) : Type 0 where
    held : Divided todo rest now
    twins : Twins todo fs
    spread : Spread t ceil fs
    packed : Rising s goal todo
    sized : All (Sized limit) todo
    aside : (o : Obj) → In o rest → Misses t goal o
    clear : All (Misses t hi) seen
    room : reach ≤ hi
    ahead : hi ≤ s
    top : ceil + limit ≤ goal

  module _ {reach hi t s : ℕ} {todo fs rest now seen : List Obj} (p : Spreading reach hi t s todo fs rest now seen) where
    -- what is held now is clear of all bytes from t up to the next packed object
    clear_now : All (Misses t s) now
    clear_now = all_in_lem (Misses t s) now (λ o m. gap o (p.held.sorted o m))
      where
        gap : (o : Obj) → In o todo ⊎ In o rest → Misses t s o
        gap o (inl m) x a b c d = omega (arith, rising_above s goal todo p.packed o m)
        gap o (inr m) x a b c d = p.aside o m x a b c (omega (arith, rising_volume s goal todo p.packed))

    -- the next target begins a whole limit below the next packed object
    lead : t + limit ≤ s
    lead = omega (arith, spread_volume t ceil fs p.spread, rising_volume s goal todo p.packed, twins_volume todo fs p.twins)

  module _ {reach hi t s : ℕ} {h f : Obj} {os fs rest now seen : List Obj} (p : Spreading reach hi t s (h ∷ os) (f ∷ fs) rest now seen) where
    after_wait : Spreading (f.at + limit) s f.at s (h ∷ os) (f ∷ fs) rest now now
    after_wait =
        let go : Spread f.at ceil (f ∷ fs) = (omega arith, p.spread.1) in
        record {
          held = p.held;
          twins = p.twins;
          spread = go;
          packed = p.packed;
          sized = p.sized;
          aside = λ o m x a b c d. p.aside o m x a b (omega arith) d;
          clear = all_map (λ o k x a b c d. k x a b (omega arith) d) now (clear_now p);
          room = omega (
            arith,
            spread_volume f.at ceil (f ∷ fs) go,
            rising_volume s goal (h ∷ os) p.packed,
            twins_volume (h ∷ os) (f ∷ fs) p.twins,
          );
          ahead = omega arith;
          top = p.top;
        }

    module _ (fits : f.at + h.len ≤ reach) where
      apart_now : All (Apart (target (onto h f))) now
      apart_now = all_map (λ o k x a b c d. k x a b (omega arith) (omega arith)) now (clear_now p)

      apart_seen : All (Apart (target (onto h f))) seen
      apart_seen = all_map (λ o k x a b c d. k x a b (omega arith) (omega arith)) seen p.clear

      other : (x : Obj) → In x os ⊎ In x rest → x ≡ h → ⊥
      other x (inl m) e = omega (arith, rising_above (end_of h) goal os p.packed.1 x m, ap (λ (y : Obj). y.at) e, p.sized.0.0)
      other x (inr m) e =
          p.aside x m h.at (omega (arith, ap (λ (y : Obj). y.at) e)) (omega (arith, ap (λ (y : Obj). end_of y) e, p.sized.0.0))
          (omega (arith, lead p)) (omega (arith, p.sized.0.0, rising_volume (end_of h) goal os p.packed.1))

      after_move : Spreading reach hi (end_of f) (end_of h) os fs (f ∷ rest) (moved (onto h f) now) (now ++ seen)
      after_move = record {
        held = shift p.held p.twins.0 other;
        twins = p.twins.1;
        spread = p.spread.1;
        packed = p.packed.1;
        sized = p.sized.1;
        aside = landed;
        clear = all_append (Misses (end_of f) hi) now seen
            (all_map (λ o k x a b c d. k x a b (omega arith) (omega arith)) now (clear_now p))
            (all_map (λ o k x a b c d. k x a b (omega arith) d) seen p.clear);
        room = p.room;
        ahead = omega arith;
        top = p.top;
      }
        where
          landed : (o : Obj) → In o (f ∷ rest) → Misses (end_of f) goal o
          landed o (inl e) x a b c d = omega (arith, ap (λ (y : Obj). end_of y) e)
          landed o (inr m) x a b c d = p.aside o m x a b (omega arith) d

  module _ (Post : List Obj → List Obj → Type 0) where
    go_on : (todo fs : List Obj) {reach hi t s : ℕ} {rest now seen : List Obj} → Spreading reach hi t s todo fs rest now seen
        → ((now' : List Obj) → Divided [] (reverse_aux fs rest) now' → Post now' now')
        → Safe (by_span limit reach (moves todo fs)) Post now seen
    unfolding by_span moves
    go_on [] [] {now} p next = next now p.held
    go_on [] (f ∷ fs) p next = absurd p.twins
    go_on (h ∷ os) [] p next = absurd p.twins
    go_on (h ∷ os) (f ∷ fs) {reach} {hi} {t} {s} {rest} {now} {seen} p next =
        elim (below_or_not reach (f.at + h.len)) [
          | inl l ↦
              let r = after_wait p in
              let k : f.at + h.len ≤ f.at + limit = omega (arith, p.sized.0.1) in
              rw lt-leb (first r.held, apart_now r k, apart_seen r k, go_on os fs (after_move r k) next)
          | inr k ↦ rw le-leb (first p.held, apart_now p k, apart_seen p k, go_on os fs (after_move p k) next)
        ]

    -- the whole phase, from a checkpoint on, is safe, and ends with a wait and each object at its final place
    pub spreading_safe : (floor s : ℕ) (todo fs : List Obj) {rest now : List Obj}
        → Divided todo rest now → Twins todo fs → Spread floor ceil fs → Rising s goal todo → All (Sized limit) todo
        → ((o : Obj) → In o rest → Misses floor goal o)
        → ceil + limit ≤ goal → ((now' : List Obj) → Divided [] (reverse_aux fs rest) now' → Post now' now')
        → Safe (runs (moves todo fs) (λ m. by_span limit (m.to + limit) (moves todo fs))) Post now now
    unfolding moves
    spreading_safe floor s [] [] {now} held w sp ri si aside top next = next now held
    spreading_safe floor s [] (f ∷ fs) held w sp ri si aside top next = absurd w
    spreading_safe floor s (h ∷ os) [] held w sp ri si aside top next = absurd w
    spreading_safe floor s (h ∷ os) (f ∷ fs) {rest} {now} held w sp ri si aside top next = go_on (h ∷ os) (f ∷ fs) (after_wait start) next
      where
        start : Spreading floor floor floor s (h ∷ os) (f ∷ fs) rest now []
        start = record {
          held = held;
          twins = w;
          spread = sp;
          packed = ri;
          sized = si;
          aside = aside;
          clear = tt;
          room = omega arith;
          ahead = omega (arith, spread_volume floor ceil (f ∷ fs) sp, rising_volume s goal (h ∷ os) ri, twins_volume (h ∷ os) (f ∷ fs) w);
          top = top;
        }

-- The rules at rest are kept by the requests that stay at rest: an insert above the top class, an insert into a buffer, and a
-- delete with a record. A new object's bytes were unused, so that it lies beside all others; the balance is Balance.antt's.
use mathlib.Core.Path.{◌≡◌, refl, sym, ap, ◌∙◌}
use mathlib.Core.Logic.{inl, inr}
use mathlib.Core.Bool.{true, false, cond, not}
use mathlib.Core.List.{List, [], ◌∷◌}
use Prim.Native.Nat.{ℕ, zero, ◌+◌, ◌/◌, ◌≤◌, ◌<◌}
use native.Mathlib.Omega.{arith}
use native.Mathlib.Nat.{zero-div, div-le_self, lt_of_not-le}
use lib.Dec.{eqb}
use borrow.Author.Tests.{eq-eqb, ne_eqb}
use Rattle.rules.specs.House.{classes}
use Rattle.rules.specs.Classes.{Obj, cls, class_of, end_of, volume_of, filter, insert_by_place}
use Rattle.rules.specs.Regions.{Regions, col, buffer_size, start_of, buffer_start, footprint, top_class}
use Rattle.rules.specs.Placing.{lower_of, entered, raised}
use Rattle.rules.specs.Sound.{live_at}
use Rattle.rules.specs.Calls.{named, others}
use Rattle.rules.proofs.Lists.{All, In, all_map, in_all}
use Rattle.rules.proofs.Tables.{more, more_at, more_off, more_le, span_same}
use Rattle.rules.proofs.Puts.{put_here, put_off, same_or_not, lower_class, lower_some}
use Rattle.rules.proofs.Facts.{Buffered, Lies, Chain, Balanced, Rest, Fits, Distinct}
use Rattle.rules.proofs.ClassLaws.{class_bounds}
use Rattle.rules.proofs.Balance.{used_more, low_here, low_falls, entry_balanced, record_balanced, raised_balanced}
use Rattle.rules.proofs.Insertion.{insert_all, insert_volume_of, insert_chain, Beside, no_shared_byte, filter_keeps, filter_chain, parts_volume_of}
use Rattle.rules.proofs.Clear.{Unused, Clear, held_clear, entry_unused, bare, raised_start, raised_below}

-- an object's class is some class
pub classed : (o : Obj) → Fits o → (1 ≤ cls o) × (cls o ≤ classes)
classed o f = class_bounds o.len f.some_length f.length_fits

-- held objects are clear
pub all_clear : (q : ℕ) (t : Regions) (os : List Obj) (gone : ℕ) → Rest q t os gone → All Fits os → All (Clear q t) os
all_clear q t os gone r f = both os r.lies f
  where
    both : (xs : List Obj) → All (Lies q t) xs → All Fits xs → All (Clear q t) xs
    both [] l f = tt
    both (x ∷ xs) l f = (held_clear q t r.used_fits_lem x (classed x f.0).0 (classed x f.0).1 l.0, both xs l.1 f.1)

-- an object on unused bytes lies beside one that is clear
pub unused_beside : (q : ℕ) (t : Regions) (o x : Obj) → 1 ≤ o.len → 1 ≤ x.len
    → ((y : ℕ) → o.at ≤ y → y < end_of o → Unused q t y) → Clear q t x → Beside o x
unused_beside q t o x a b free clear = no_shared_byte o x a b (λ y c d e f. clear y e f (free y c d))

-- its own class has the object's length more
class_more : (o : Obj) (f : ℕ → ℕ) (i : ℕ) → cond (eqb (cls o) i) o.len 0 + f i ≡ more (cls o) o.len f i
class_more o f i = elim (same_or_not i (cls o)) [
  | inl e ↦ rw (eq-eqb (cls o) i (sym e)) (sym (more_at (cls o) o.len f i e))
  | inr d ↦ rw (ne_eqb (cls o) i (λ e. d (sym e))) (omega (arith, more_off (cls o) o.len f i d))
]

-- nothing deleted counts nothing
nothing_gone : (i : ℕ) → cond (eqb (class_of 0) i) 0 0 ≡ zero
nothing_gone i = elim (eqb (class_of 0) i) as (λ b. cond b 0 0 ≡ zero) [ true ↦ refl | false ↦ refl ]

pub live_more : (o : Obj) (os : List Obj) (i : ℕ) → live_at (insert_by_place o os) 0 i ≡ more (cls o) o.len (live_at os 0) i
live_more o os i = omega (arith, nothing_gone i, insert_volume_of i o os, class_more o (live_at os 0) i)

-- an entry or a record of n bytes and class c goes into buffer j
module _ (q : ℕ) (t : Regions) (j c n : ℕ) (low : 1 ≤ c) (up : c ≤ j) (last : j ≤ classes) (some : 0 < n)
    (room : col t.useds j + n ≤ buffer_size q t.sizes j) {os : List Obj} {gone : ℕ} (r : Rest q t os gone) where
  abbrev after : Regions
  after = entered t j c n

  entered_fits : (i : ℕ) → 1 ≤ i → i ≤ classes → col after.useds i ≤ buffer_size q after.sizes i
  entered_fits i a b = elim (same_or_not i j) [
    | inl e ↦ rw e (omega (arith, put_here j (col t.useds j + n) t.useds last, room))
    | inr d ↦ omega (arith, put_off j (col t.useds j + n) t.useds i b d, r.used_fits_lem i a b)
  ]

  entered_none : (i : ℕ) → 1 ≤ i → i ≤ classes → col after.useds i ≡ 0 → col after.lowests i ≡ 0
  entered_none i a b z = elim (same_or_not i j) [
    | inl e ↦ absurd (omega (arith, ap (col after.useds) e, put_here j (col t.useds j + n) t.useds last))
    | inr d ↦ put_off j (lower_of (col t.lowests j) c) t.lowests i b d
        ∙ r.lowest_none i a b (sym (put_off j (col t.useds j + n) t.useds i b d) ∙ z)
  ]

  entered_some : (i : ℕ) → 1 ≤ i → i ≤ classes → 0 < col after.useds i → (1 ≤ col after.lowests i) × (col after.lowests i ≤ i)
  entered_some i a b u = elim (same_or_not i j) [
    | inl e ↦
        let h = put_here j (lower_of (col t.lowests j) c) t.lowests last in
        rw e (omega (arith, h, lower_some (col t.lowests j) c low), omega (arith, h, lower_class (col t.lowests j) c))
    | inr d ↦
        let h = put_off j (lower_of (col t.lowests j) c) t.lowests i b d in
        let s = r.lowest_some i a b (omega (arith, put_off j (col t.useds j + n) t.useds i b d)) in
        (omega (arith, s.0), omega (arith, s.1))
  ]

  entered_lies : (o : Obj) → Fits o → Lies q t o → Lies q after o
  entered_lies o f (inl p) = inl p
  entered_lies o f (inr b) =
      let i = b.number in
      let u : 0 < col t.useds i = omega (arith, f.some_length, b.inside.from, b.inside.upto) in
      inr (record {
        number = i;
        least = b.least;
        most = b.most;
        inside = record {
          low = omega (arith, b.inside.low, low_falls t j c n up last some r.lowest_some i b.least b.most u);
          up = b.inside.up;
          from = b.inside.from;
          upto = omega (arith, b.inside.upto, used_more t j c n up last some r.lowest_some i b.most, more_le j n (col t.useds) i);
        };
      })

  -- the rules at rest over the entered regions, for objects that lie well and apart and a balance that holds
  entered_rest : (now : List Obj) → All (Lies q after) now → Chain 0 now → Balanced after (live_at now 0) → Rest q after now 0
  entered_rest now l a b = record {
    used_fits_lem = entered_fits;
    lowest_none = entered_none;
    lowest_some = entered_some;
    lies = l;
    apart = a;
    balance = b;
  }

lies_kept : (q : ℕ) (t u : Regions) (os : List Obj) → ((o : Obj) → Fits o → Lies q t o → Lies q u o) → All (Lies q t) os → All Fits os
    → All (Lies q u) os
lies_kept q t u [] f l k = tt
lies_kept q t u (o ∷ os) f l k = (f o k.0 l.0, lies_kept q t u os f l.1 k.1)

all_beside : (q : ℕ) (t : Regions) (o : Obj) → 1 ≤ o.len → ((y : ℕ) → o.at ≤ y → y < end_of o → Unused q t y)
    → (os : List Obj) → All (Clear q t) os → All Fits os → All (λ (x : Obj). Beside o x × (1 ≤ x.len)) os
all_beside q t o l free [] c f = tt
all_beside q t o l free (x ∷ xs) c f =
    ((unused_beside q t o x l f.0.some_length free c.0, f.0.some_length), all_beside q t o l free xs c.1 f.1)

-- INSERT INTO BUFFER j
pub into_rest : (q : ℕ) (t : Regions) (os : List Obj) (o : Obj) (j : ℕ) → Rest q t os 0 → All Fits os → Fits o → cls o ≤ j → j ≤ classes
    → col t.useds j + o.len ≤ buffer_size q t.sizes j → o.at ≡ buffer_start q t.sizes j + col t.useds j
    → Rest q (entered t j (cls o) o.len) (insert_by_place o os) 0
into_rest q t os o j r f fo up last room here =
    let c = classed o fo in
    let some : 0 < o.len = fo.some_length in
    let new : Buffered q (entered t j (cls o) o.len) o = record {
      number = j;
      least = omega arith;
      most = last;
      inside = record {
        low = low_here t j (cls o) o.len up last some r.lowest_some;
        up = up;
        from = omega arith;
        upto = omega (arith, put_here j (col t.useds j + o.len) t.useds last);
      };
    } in
    entered_rest q t j (cls o) o.len c.0 up last some room r (insert_by_place o os)
    (insert_all (Lies q (entered t j (cls o) o.len)) o os (inr new)
    (lies_kept q t (entered t j (cls o) o.len) os (entered_lies q t j (cls o) o.len c.0 up last some room r) r.lies f))
    (insert_chain o fo.some_length os 0 (omega arith)
    (all_beside q t o fo.some_length (λ y a b. entry_unused q t j o.len (omega arith) last room y (omega arith) (omega arith)) os
    (all_clear q t os 0 r f) f)
    r.apart)
    (entry_balanced t j (cls o) o.len up last some r.lowest_some (live_at os 0) (live_at (insert_by_place o os) 0) (λ i a b. live_more o os i) r.balance)

-- INSERT ABOVE THE TOP CLASS
module _ (q : ℕ) (t : Regions) (os : List Obj) (o : Obj) (r : Rest q t os 0) (f : All Fits os) (fo : Fits o) (top : top_class t.sizes < cls o)
    (here : o.at ≡ footprint q t.sizes) where
  low : 1 ≤ cls o
  low = (classed o fo).0

  high : cls o ≤ classes
  high = (classed o fo).1

  start : start_of q (raised t (cls o) o.len).sizes (cls o) ≡ footprint q t.sizes
  start = raised_start q t (cls o) o.len low high top

  none : (i : ℕ) → cls o ≤ i → i ≤ classes → col t.sizes i ≡ 0
  none = bare q t (cls o) o.len low high top

  raised_fits : (i : ℕ) → 1 ≤ i → i ≤ classes → col t.useds i ≤ buffer_size q (raised t (cls o) o.len).sizes i
  raised_fits i a b = elim (same_or_not i (cls o)) [
    | inl e ↦ omega (arith, r.used_fits_lem i a b, ap (λ (x : ℕ). x / q) (none i (omega arith) b), zero-div q)
    | inr d ↦ omega (arith, r.used_fits_lem i a b, ap (λ (x : ℕ). x / q) (put_off (cls o) o.len t.sizes i b d))
  ]

  -- a class with a payload is below the new one, and its region is the old one
  below : (i : ℕ) → i ≤ classes → 1 ≤ col t.sizes i → i < cls o
  below i b p = lt_of_not-le (λ l. omega (arith, none i l b))

  raised_lies : (x : Obj) → Fits x → Lies q t x → Lies q (raised t (cls o) o.len) x
  raised_lies x k (inl p) =
      let c = classed x k in
      let l = below (cls x) c.1 (omega (arith, k.some_length, p.0, p.1)) in
      let s = raised_below q t (cls o) o.len low high top (cls x) (omega arith) in
      let z = put_off (cls o) o.len t.sizes (cls x) c.1 (λ e. omega arith) in
      inl (omega (arith, p.0), omega (arith, p.1))
  raised_lies x k (inr b) =
      let i = b.number in
      let l = below i b.most (some_size (omega (arith, k.some_length, b.inside.from, b.inside.upto))) in
      let s = raised_below q t (cls o) o.len low high top i (omega arith) in
      let z = put_off (cls o) o.len t.sizes i b.most (λ e. omega arith) in
      inr (record {
        number = i;
        least = b.least;
        most = b.most;
        inside = record { low = b.inside.low; up = b.inside.up; from = omega (arith, b.inside.from); upto = omega (arith, b.inside.upto) };
      })
    where
      some_size : 1 ≤ col t.useds b.number → 1 ≤ col t.sizes b.number
      some_size u = omega (arith, r.used_fits_lem b.number b.least b.most, div-le_self (col t.sizes b.number) q)

  pub above_rest : Rest q (raised t (cls o) o.len) (insert_by_place o os) 0
  above_rest = record {
    used_fits_lem = raised_fits;
    lowest_none = r.lowest_none;
    lowest_some = r.lowest_some;
    lies =
        insert_all (Lies q (raised t (cls o) o.len)) o os (inl (omega (arith, start), omega (arith, start, put_here (cls o) o.len t.sizes high)))
        (lies_kept q t (raised t (cls o) o.len) os raised_lies r.lies f);
    apart = insert_chain o fo.some_length os 0 (omega arith)
        (all_beside q t o fo.some_length (λ y a b. inr (omega arith)) os (all_clear q t os 0 r f) f) r.apart;
    balance = raised_balanced t (cls o) o.len (live_at os 0) (live_at (insert_by_place o os) 0) (none (cls o) (omega arith) high) (λ i a b. live_more o os i)
        r.balance;
  }

-- the object of a name is the one with that name
pub named_one : (o : Obj) (os : List Obj) → Distinct os → In o os → named o.name os ≡ o ∷ []
unfolding named filter
named_one o [] d m = absurd m
named_one o (x ∷ xs) d (inl e) =
    rw (eq-eqb x.name o.name (ap (λ (y : Obj). y.name) (sym e)))
    (ap (λ (l : List Obj). x ∷ l) (none_named o.name xs (all_map (λ y n p. n (p ∙ ap (λ (z : Obj). z.name) e)) xs d.0))
    ∙ ap (λ (y : Obj). y ∷ []) (sym e))
  where
    none_named : (n : ℕ) (ys : List Obj) → All (λ (y : Obj). y.name ≡ n → ⊥) ys → filter (λ y. eqb y.name n) ys ≡ []
    none_named n [] h = refl
    none_named n (y ∷ ys) h = rw (ne_eqb y.name n h.0) (none_named n ys h.1)
named_one o (x ∷ xs) d (inr m) =
    rw (ne_eqb x.name o.name (λ e. in_all (λ (y : Obj). y.name ≡ x.name → ⊥) xs d.0 o m (sym e))) (named_one o xs d.1 m)

-- with the object gone its class has its length less
pub live_less : (o : Obj) (os : List Obj) → Distinct os → In o os → (i : ℕ)
    → volume_of i os ≡ cond (eqb (cls o) i) o.len 0 + volume_of i (others o.name os)
unfolding named others volume_of
live_less o os d m i = omega (arith, parts_volume_of i (λ x. eqb x.name o.name) os, ap (volume_of i) (named_one o os d m))

-- DELETE WITH A RECORD in buffer j
pub record_rest : (q : ℕ) (t : Regions) (os : List Obj) (o : Obj) (j : ℕ) → Rest q t os 0 → All Fits os → Distinct os → In o os → cls o ≤ j
    → j ≤ classes
    → col t.useds j + o.len ≤ buffer_size q t.sizes j → Rest q (entered t j (cls o) o.len) (others o.name os) 0
unfolding others
record_rest q t os o j r f d m up last room =
    let fo = in_all Fits os f o m in
    let c = classed o fo in
    let some : 0 < o.len = fo.some_length in
    entered_rest q t j (cls o) o.len c.0 up last some room r (others o.name os)
    (filter_keeps (Lies q (entered t j (cls o) o.len)) (λ x. not (eqb x.name o.name)) os
    (lies_kept q t (entered t j (cls o) o.len) os (entered_lies q t j (cls o) o.len c.0 up last some room r) r.lies f))
    (filter_chain (λ x. not (eqb x.name o.name)) os 0 r.apart)
    (record_balanced t j (cls o) o.len up last some r.lowest_some (live_at os 0) (live_at (others o.name os) 0)
    (λ i a b. omega (arith, live_less o os d m i, class_more o (live_at (others o.name os) 0) i)) r.balance)

-- DELETE WITH A FLUSH: the rules hold at its start, the deleted length counted
pub gone_rest : (q : ℕ) (t : Regions) (os : List Obj) (o : Obj) → Rest q t os 0 → Distinct os → In o os → Rest q t (others o.name os) o.len
unfolding others
gone_rest q t os o r d m = record {
  used_fits_lem = r.used_fits_lem;
  lowest_none = r.lowest_none;
  lowest_some = r.lowest_some;
  lies = filter_keeps (Lies q t) (λ x. not (eqb x.name o.name)) os r.lies;
  apart = filter_chain (λ x. not (eqb x.name o.name)) os 0 r.apart;
  balance = λ k n a b c e. omega (
    arith,
    r.balance k n a b c e,
    span_same (live_at os 0) (live_at (others o.name os) o.len) k n (λ i x y. omega (arith, live_less o os d m i, nothing_gone i)),
  );
}

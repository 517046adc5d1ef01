-- Soundness read as facts: each test of specs/Sound.antt beside what it says, both ways.
use mathlib.Core.Path.{◌≡◌, refl, ap}
use mathlib.Core.Logic.{◌⊎◌, inl, inr}
use mathlib.Core.Bool.{Bool, true, false, cond, not, ◌&&◌, ◌||◌}
use mathlib.Core.List.{List, [], ◌∷◌}
use Prim.Native.Nat.{ℕ, zero, suc, ◌+◌, ◌-◌, ◌≤◌, ◌<◌}
use native.Mathlib.Omega.{arith}
use native.Mathlib.Nat.{eq-or-lt_of_le}
use lib.ListN.{length}
use lib.Dec.{leb, ltb, eqb}
use borrow.Author.Tests.{leb-true, leb-false, le-leb, ltb-true, lt-ltb, eqb-true, eqb-false, eq-eqb, ne_eqb, not-true}
use Rattle.rules.specs.House.{classes, longest, most_objects, area_fits, quota_of, least_area, most_area, most_name}
use Rattle.rules.specs.Classes.{Obj, cls, end_of, volume}
use Rattle.rules.specs.Regions.{Regions, col, span, every, up_from, buffer_size, start_of, buffer_start}
use Rattle.rules.specs.Boundary.{reaches, clean}
use Rattle.rules.specs.Flush.{within, in_payload}
use Rattle.rules.specs.Sound.{each, object_fits, names_differ, within_quota, limits_hold, used_fits, lowest_fits, apart_from, in_buffer, in_some_buffer}
use Rattle.rules.specs.Sound.{lies_well, live_at, enough, if_clean, balanced, rest_rules}
use Rattle.rules.proofs.Lists.{clash, is_false, and_true, true_and, or_true, or_left, or_right, All, Pairs, all_map, each_all, all_each}
use Rattle.rules.proofs.Tables.{every_at, at_every}

-- an object lies within n bytes from `from` on
pub within_fact : (from n : ℕ) (o : Obj) → within from n o ≡ true → (from ≤ o.at) × (end_of o ≤ from + n)
within_fact from n o e =
    let p = and_true (leb from o.at) (leb (end_of o) (from + n)) e in
    (leb-true from o.at p.0, leb-true (end_of o) (from + n) p.1)

pub within_test : (from n : ℕ) (o : Obj) → from ≤ o.at → end_of o ≤ from + n → within from n o ≡ true
within_test from n o a b = true_and (leb from o.at) (leb (end_of o) (from + n)) (le-leb _ _ a) (le-leb _ _ b)

-- in the payload of its class
abbrev pub Payload : ℕ → Regions → Obj → Type 0
Payload q t o = (start_of q t.sizes (cls o) ≤ o.at) × (end_of o ≤ start_of q t.sizes (cls o) + col t.sizes (cls o))

-- in the used part of buffer j, of a class from its lowest up to j
pub record InBuffer (q : ℕ) (t : Regions) (o : Obj) (j : ℕ) : Type 0 where
  pub low : col t.lowests j ≤ cls o
  pub up : cls o ≤ j
  pub from : buffer_start q t.sizes j ≤ o.at
  pub upto : end_of o ≤ buffer_start q t.sizes j + col t.useds j

-- in some buffer
pub record Buffered (q : ℕ) (t : Regions) (o : Obj) : Type 0 where
  pub number : ℕ
  pub least : 1 ≤ number
  pub most : number ≤ classes
  pub inside : InBuffer q t o number

-- where an object may lie
abbrev pub Lies : ℕ → Regions → Obj → Type 0
Lies q t o = Payload q t o ⊎ Buffered q t o

in_buffer_fact : (q : ℕ) (t : Regions) (o : Obj) (j : ℕ) → in_buffer q t o j ≡ true → InBuffer q t o j
in_buffer_fact q t o j e =
    let p = and_true (leb (col t.lowests j) (cls o) && leb (cls o) j) (within (buffer_start q t.sizes j) (col t.useds j) o) e in
    let c = and_true (leb (col t.lowests j) (cls o)) (leb (cls o) j) p.0 in
    let w = within_fact (buffer_start q t.sizes j) (col t.useds j) o p.1 in
    record { low = leb-true _ _ c.0; up = leb-true _ _ c.1; from = w.0; upto = w.1 }

in_buffer_test : (q : ℕ) (t : Regions) (o : Obj) (j : ℕ) → InBuffer q t o j → in_buffer q t o j ≡ true
in_buffer_test q t o j b =
    true_and (leb (col t.lowests j) (cls o) && leb (cls o) j) (within (buffer_start q t.sizes j) (col t.useds j) o)
    (true_and (leb (col t.lowests j) (cls o)) (leb (cls o) j) (le-leb _ _ b.low) (le-leb _ _ b.up))
    (within_test (buffer_start q t.sizes j) (col t.useds j) o b.from b.upto)

some_buffer_fact : (q : ℕ) (t : Regions) (o : Obj) (j n : ℕ) → 1 ≤ j → j + n ≤ suc classes → in_some_buffer q t o j n ≡ true → Buffered q t o
unfolding in_some_buffer
some_buffer_fact q t o j zero a b e = absurd (clash e refl)
some_buffer_fact q t o j (suc n) a b e = elim (or_true (in_buffer q t o j) (in_some_buffer q t o (suc j) n) e) [
  | inl h ↦ record { number = j; least = a; most = omega arith; inside = in_buffer_fact q t o j h }
  | inr h ↦ some_buffer_fact q t o (suc j) n (omega arith) (omega arith) h
]

some_buffer_test : (q : ℕ) (t : Regions) (o : Obj) (i j n : ℕ) → j ≤ i → i < j + n → InBuffer q t o i → in_some_buffer q t o j n ≡ true
unfolding in_some_buffer
some_buffer_test q t o i j zero a b h = absurd (omega arith)
some_buffer_test q t o i j (suc n) a b h = elim (eq-or-lt_of_le a) [
  | inl e ↦ or_left (in_buffer q t o j) (in_some_buffer q t o (suc j) n) (rw e (in_buffer_test q t o i h))
  | inr l ↦ or_right (in_buffer q t o j) (in_some_buffer q t o (suc j) n) (some_buffer_test q t o i (suc j) n l (omega arith) h)
]

pub lies_fact : (q : ℕ) (t : Regions) (o : Obj) → lies_well q t o ≡ true → Lies q t o
lies_fact q t o e = elim (or_true (in_payload q t o) (in_some_buffer q t o 1 classes) e) [
  | inl h ↦ inl (within_fact (start_of q t.sizes (cls o)) (col t.sizes (cls o)) o h)
  | inr h ↦ inr (some_buffer_fact q t o 1 classes (omega arith) (omega arith) h)
]

pub lies_test : (q : ℕ) (t : Regions) (o : Obj) → Lies q t o → lies_well q t o ≡ true
lies_test q t o (inl h) =
    or_left (in_payload q t o) (in_some_buffer q t o 1 classes) (within_test (start_of q t.sizes (cls o)) (col t.sizes (cls o)) o h.0 h.1)
lies_test q t o (inr b) =
    or_right (in_payload q t o) (in_some_buffer q t o 1 classes) (some_buffer_test q t o b.number 1 classes b.least (omega (arith, b.most)) b.inside)

-- each object ends before the next begins, and the first begins at lo or above
abbrev pub Chain : ℕ → List Obj → Type 0
Chain lo [] = Unit {0}
Chain lo (o ∷ os) = (lo ≤ o.at) × Chain (end_of o) os

pub chain_fact : (lo : ℕ) (os : List Obj) → apart_from lo os ≡ true → Chain lo os
unfolding apart_from
chain_fact lo [] e = tt
chain_fact lo (o ∷ os) e = let p = and_true (leb lo o.at) (apart_from (end_of o) os) e in (leb-true _ _ p.0, chain_fact (end_of o) os p.1)

pub chain_test : (lo : ℕ) (os : List Obj) → Chain lo os → apart_from lo os ≡ true
unfolding apart_from
chain_test lo [] h = refl
chain_test lo (o ∷ os) h = true_and (leb lo o.at) (apart_from (end_of o) os) (le-leb _ _ h.0) (chain_test (end_of o) os h.1)

-- no buffer numbered k or above with anything used reaches below class k
abbrev pub Clean : Regions → ℕ → Type 0
Clean t k = (i : ℕ) → k ≤ i → i ≤ classes → 0 < col t.useds i → k ≤ col t.lowests i

pub clean_fact : (t : Regions) (k : ℕ) → clean t.useds t.lowests k ≡ true → Clean t k
unfolding clean
clean_fact t k e i a b u =
    elim (leb k (col t.lowests i)) as (λ x. leb k (col t.lowests i) ≡ x → k ≤ col t.lowests i) [
      | true ↦ λ h. leb-true _ _ h
      | false ↦ λ h. absurd (clash
          (true_and (ltb 0 (col t.useds i)) (ltb (col t.lowests i) k) (lt-ltb _ _ u) (lt-ltb (col t.lowests i) k (leb-false k (col t.lowests i) h)))
          (not-true (reaches t.useds t.lowests k i) (every_at (λ j. not (reaches t.useds t.lowests k j)) k (up_from k) e i a (omega arith))))
    ] refl

pub clean_test : (t : Regions) (k : ℕ) → Clean t k → clean t.useds t.lowests k ≡ true
unfolding clean
clean_test t k h = at_every (λ j. not (reaches t.useds t.lowests k j)) k (up_from k) (λ i a b. off i a (omega arith))
  where
    off : (i : ℕ) → k ≤ i → i ≤ classes → not (reaches t.useds t.lowests k i) ≡ true
    off i a b = ap not (is_false (reaches t.useds t.lowests k i) (λ e.
        let p = and_true (ltb 0 (col t.useds i)) (ltb (col t.lowests i) k) e in
        omega (arith, h i a b (ltb-true 0 (col t.useds i) p.0), ltb-true (col t.lowests i) k p.1)))

-- enough between each two clean classes; one past the last class is clean
abbrev pub Balanced : Regions → (ℕ → ℕ) → Type 0
Balanced t has =
    (k n : ℕ) → 1 ≤ k → k + n ≤ suc classes → Clean t k → Clean t (k + n)
    → span (col t.sizes) k n ≤ span has k n + span (col t.useds) k n

if_clean_fact : (t : Regions) (k : ℕ) (b : Bool) → if_clean t k b ≡ true → Clean t k → b ≡ true
if_clean_fact t k b e c = elim (or_true (not (clean t.useds t.lowests k)) b e) [
  | inl n ↦ absurd (clash (clean_test t k c) (not-true (clean t.useds t.lowests k) n))
  | inr h ↦ h
]

if_clean_test : (t : Regions) (k : ℕ) (b : Bool) → (Clean t k → b ≡ true) → if_clean t k b ≡ true
if_clean_test t k b f = elim (clean t.useds t.lowests k) as (λ x. clean t.useds t.lowests k ≡ x → (not x || b) ≡ true) [
  | true ↦ λ e. f (clean_fact t k e)
  | false ↦ λ e. refl
] refl

pub balanced_fact : (t : Regions) (os : List Obj) (gone : ℕ) → balanced t os gone ≡ true → Balanced t (live_at os gone)
unfolding balanced span
balanced_fact t os gone e k zero a b c d = omega arith
balanced_fact t os gone e k (suc n) a b c d =
    let inner = every_at (λ i. if_clean t i (every (λ l. if_clean t l (enough t os gone i l)) (suc i) (up_from i))) 1 classes e k a (omega arith) in
    let row = if_clean_fact t k (every (λ l. if_clean t l (enough t os gone k l)) (suc k) (up_from k)) inner c in
    let cell = if_clean_fact t (k + suc n) (enough t os gone k (k + suc n))
    (every_at (λ l. if_clean t l (enough t os gone k l)) (suc k) (up_from k) row (k + suc n) (omega arith) (omega arith)) d in
    let m : k + suc n - k ≡ suc n = omega arith in
    rw m at (leb-true (span (col t.sizes) k (k + suc n - k)) (span (live_at os gone) k (k + suc n - k) + span (col t.useds) k (k + suc n - k)) cell)

pub balanced_test : (t : Regions) (os : List Obj) (gone : ℕ) → Balanced t (live_at os gone) → balanced t os gone ≡ true
unfolding balanced
balanced_test t os gone h =
    at_every (λ i. if_clean t i (every (λ l. if_clean t l (enough t os gone i l)) (suc i) (up_from i))) 1 classes (λ k a b.
    if_clean_test t k (every (λ l. if_clean t l (enough t os gone k l)) (suc k) (up_from k)) (λ c.
    at_every (λ l. if_clean t l (enough t os gone k l)) (suc k) (up_from k) (λ l d f.
    if_clean_test t l (enough t os gone k l) (λ g.
    let m : k + (l - k) ≡ l = omega arith in
    le-leb _ _ (h k (l - k) a (omega arith) c (rw m g))))))

-- THE RULES AT REST, a deleted length counted
pub record Rest (q : ℕ) (t : Regions) (os : List Obj) (gone : ℕ) : Type 0 where
  pub used_fits_lem : (i : ℕ) → 1 ≤ i → i ≤ classes → col t.useds i ≤ buffer_size q t.sizes i
  pub lowest_none : (i : ℕ) → 1 ≤ i → i ≤ classes → col t.useds i ≡ 0 → col t.lowests i ≡ 0
  pub lowest_some : (i : ℕ) → 1 ≤ i → i ≤ classes → 0 < col t.useds i → (1 ≤ col t.lowests i) × (col t.lowests i ≤ i)
  pub lies : All (Lies q t) os
  pub apart : Chain 0 os
  pub balance : Balanced t (live_at os gone)

lowest_zero : (t : Regions) (i : ℕ) → lowest_fits t i ≡ true → col t.useds i ≡ 0 → col t.lowests i ≡ 0
lowest_zero t i e z = eqb-true _ _ (rw (eq-eqb (col t.useds i) 0 z) at e)

lowest_more : (t : Regions) (i : ℕ) → lowest_fits t i ≡ true → 0 < col t.useds i → (1 ≤ col t.lowests i) × (col t.lowests i ≤ i)
lowest_more t i e p =
    let h = and_true (leb 1 (col t.lowests i)) (leb (col t.lowests i) i) (rw (ne_eqb (col t.useds i) 0 (λ z. omega arith)) at e) in
    (leb-true _ _ h.0, leb-true _ _ h.1)

lowest_test : (t : Regions) (i : ℕ) → (col t.useds i ≡ 0 → col t.lowests i ≡ 0)
    → (0 < col t.useds i → (1 ≤ col t.lowests i) × (col t.lowests i ≤ i)) → lowest_fits t i ≡ true
lowest_test t i none some = elim (eqb (col t.useds i) 0) as (λ x. eqb (col t.useds i) 0 ≡ x
    → cond x (eqb (col t.lowests i) 0) (leb 1 (col t.lowests i) && leb (col t.lowests i) i) ≡ true) [
      | true ↦ λ e. eq-eqb _ _ (none (eqb-true _ _ e))
      | false ↦ λ e. let p = some (pos (col t.useds i) (eqb-false _ _ e)) in
          true_and (leb 1 (col t.lowests i)) (leb (col t.lowests i) i) (le-leb _ _ p.0) (le-leb _ _ p.1)
    ] refl
  where
    pos : (n : ℕ) → (n ≡ 0 → ⊥) → 0 < n
    pos zero f = absurd (f refl)
    pos (suc n) f = omega arith

pub rest_facts : (q : ℕ) (t : Regions) (os : List Obj) (gone : ℕ) → rest_rules q t os gone ≡ true → Rest q t os gone
unfolding rest_rules
rest_facts q t os gone e =
    let a = and_true (every (used_fits q t) 1 classes && every (lowest_fits t) 1 classes)
    ((each (lies_well q t) os && apart_from 0 os) && balanced t os gone) e in
    let b = and_true (every (used_fits q t) 1 classes) (every (lowest_fits t) 1 classes) a.0 in
    let c = and_true (each (lies_well q t) os && apart_from 0 os) (balanced t os gone) a.1 in
    let d = and_true (each (lies_well q t) os) (apart_from 0 os) c.0 in
    record {
      used_fits_lem = λ i l m. leb-true _ _ (every_at (used_fits q t) 1 classes b.0 i l (omega arith));
      lowest_none = λ i l m z. lowest_zero t i (every_at (lowest_fits t) 1 classes b.1 i l (omega arith)) z;
      lowest_some = λ i l m p. lowest_more t i (every_at (lowest_fits t) 1 classes b.1 i l (omega arith)) p;
      lies = all_map (λ o h. lies_fact q t o h) os (each_all (lies_well q t) os d.0);
      apart = chain_fact 0 os d.1;
      balance = balanced_fact t os gone c.1;
    }

pub rest_test : (q : ℕ) (t : Regions) (os : List Obj) (gone : ℕ) → Rest q t os gone → rest_rules q t os gone ≡ true
unfolding rest_rules
rest_test q t os gone r =
    true_and (every (used_fits q t) 1 classes && every (lowest_fits t) 1 classes) ((each (lies_well q t) os && apart_from 0 os) && balanced t os gone)
    (true_and (every (used_fits q t) 1 classes) (every (lowest_fits t) 1 classes)
    (at_every (used_fits q t) 1 classes (λ i a b. le-leb _ _ (r.used_fits_lem i a (omega arith))))
    (at_every (lowest_fits t) 1 classes (λ i a b. lowest_test t i (r.lowest_none i a (omega arith)) (r.lowest_some i a (omega arith)))))
    (true_and (each (lies_well q t) os && apart_from 0 os) (balanced t os gone)
    (true_and (each (lies_well q t) os) (apart_from 0 os)
    (all_each (lies_well q t) os (all_map (λ o h. lies_test q t o h) os r.lies))
    (chain_test 0 os r.apart))
    (balanced_test t os gone r.balance))

-- names and lengths in their limits
pub record Fits (o : Obj) : Type 0 where
  pub some_name : 1 ≤ o.name
  pub name_fits : o.name ≤ most_name
  pub some_length : 1 ≤ o.len
  pub length_fits : o.len ≤ longest

-- two names differ, and those of each two
abbrev pub Differ : Obj → Obj → Type 0
Differ o x = x.name ≡ o.name → ⊥

abbrev pub Distinct : List Obj → Type 0
Distinct = Pairs Differ

-- THE LIMITS
pub record Limits (q a : ℕ) (os : List Obj) : Type 0 where
  pub area_least : least_area ≤ a
  pub area_most : a ≤ most_area
  pub few : length os ≤ most_objects
  pub fits : All Fits os
  pub differ : Distinct os
  pub quota : volume os ≤ quota_of q longest a

fits_fact : (o : Obj) → object_fits o ≡ true → Fits o
fits_fact o e =
    let a = and_true (leb 1 o.name && leb o.name most_name) (leb 1 o.len && leb o.len longest) e in
    let b = and_true (leb 1 o.name) (leb o.name most_name) a.0 in
    let c = and_true (leb 1 o.len) (leb o.len longest) a.1 in
    record { some_name = leb-true _ _ b.0; name_fits = leb-true _ _ b.1; some_length = leb-true _ _ c.0; length_fits = leb-true _ _ c.1 }

pub fits_test : (o : Obj) → Fits o → object_fits o ≡ true
fits_test o f =
    true_and (leb 1 o.name && leb o.name most_name) (leb 1 o.len && leb o.len longest)
    (true_and (leb 1 o.name) (leb o.name most_name) (le-leb _ _ f.some_name) (le-leb _ _ f.name_fits))
    (true_and (leb 1 o.len) (leb o.len longest) (le-leb _ _ f.some_length) (le-leb _ _ f.length_fits))

pub differ_fact : (os : List Obj) → names_differ os ≡ true → Distinct os
unfolding names_differ
differ_fact [] e = tt
differ_fact (o ∷ os) e =
    let p = and_true (each (λ x. not (eqb x.name o.name)) os) (names_differ os) e in (
      all_map (λ x h. eqb-false _ _ (not-true (eqb x.name o.name) h)) os (each_all (λ x. not (eqb x.name o.name)) os p.0),
      differ_fact os p.1,
    )

pub differ_test : (os : List Obj) → Distinct os → names_differ os ≡ true
unfolding names_differ
differ_test [] d = refl
differ_test (o ∷ os) d =
    true_and (each (λ x. not (eqb x.name o.name)) os) (names_differ os)
    (all_each (λ x. not (eqb x.name o.name)) os (all_map (λ x h. ap not (ne_eqb _ _ h)) os d.0)) (differ_test os d.1)

pub limits_facts : (q a : ℕ) (os : List Obj) → limits_hold q a os ≡ true → Limits q a os
unfolding limits_hold
limits_facts q a os e =
    let x = and_true (area_fits a && leb (length os) most_objects) ((each object_fits os && names_differ os) && within_quota q a os 0) e in
    let y = and_true (area_fits a) (leb (length os) most_objects) x.0 in
    let z = and_true (leb least_area a) (leb a most_area) y.0 in
    let u = and_true (each object_fits os && names_differ os) (within_quota q a os 0) x.1 in
    let w = and_true (each object_fits os) (names_differ os) u.0 in
    record {
      area_least = leb-true _ _ z.0;
      area_most = leb-true _ _ z.1;
      few = leb-true _ _ y.1;
      fits = all_map (λ o h. fits_fact o h) os (each_all object_fits os w.0);
      differ = differ_fact os w.1;
      quota = omega (arith, leb-true (volume os + 0) (quota_of q longest a) u.1);
    }

pub limits_test : (q a : ℕ) (os : List Obj) → Limits q a os → limits_hold q a os ≡ true
unfolding limits_hold
limits_test q a os l =
    true_and (area_fits a && leb (length os) most_objects) ((each object_fits os && names_differ os) && within_quota q a os 0)
    (true_and (area_fits a) (leb (length os) most_objects)
    (true_and (leb least_area a) (leb a most_area) (le-leb _ _ l.area_least) (le-leb _ _ l.area_most))
    (le-leb _ _ l.few))
    (true_and (each object_fits os && names_differ os) (within_quota q a os 0)
    (true_and (each object_fits os) (names_differ os) (all_each object_fits os (all_map (λ o h. fits_test o h) os l.fits)) (differ_test os l.differ))
    (le-leb (volume os + 0) (quota_of q longest a) (omega (arith, l.quota))))

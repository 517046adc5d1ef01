-- Payload objects fit below overflow. Those with any bytes are of classes from b on, whose new sizes count them, so their volume is within F' and so within G.
use mathlib.Core.Path.{◌≡◌, refl, ◌∙◌}
use mathlib.Core.Logic.{◌⊎◌, inl, inr}
use mathlib.Core.Bool.{Bool, true, false, cond, ◌&&◌}
use mathlib.Core.List.{List, [], ◌∷◌}
use Prim.Native.Nat.{ℕ, zero, suc, ◌+◌, ◌≤◌, ◌<◌}
use native.Mathlib.Omega.{arith}
use native.Mathlib.Nat.{eq-or-lt_of_le}
use lib.Dec.{ltb, eqb}
use borrow.Author.Tests.{leb-true, ltb-true, eqb-true}
use Rattle.rules.specs.House.{share, classes, longest}
use Rattle.rules.specs.Classes.{Obj, cls, volume, volume_of, filter}
use Rattle.rules.specs.Regions.{Regions, col, span, extent, start_of}
use Rattle.rules.specs.Flush.{Start, live, rebound, overflow_start, in_flush, in_payload, payloads}
use Rattle.rules.proofs.Lists.{and_true, All, all_map, filter_all, volume_of_append}
use Rattle.rules.proofs.Tables.{column_at, span_le, span_same, more, more_le, span_more_in}
use Rattle.rules.proofs.ClassLaws.{class_bounds}
use Rattle.rules.proofs.Facts.{within_fact}
use Rattle.rules.proofs.Geometry.{region_from}
use Rattle.rules.proofs.Volumes.{volume_of_cons}
use Rattle.rules.proofs.ClassLaws.{class_few}
use Rattle.layout.proofs.KeyBounds.{class_some}

-- an object with any bytes is of a class from b on
abbrev Flushed : ℕ → Obj → Type 0
Flushed b o = 1 ≤ o.len → (b ≤ cls o) × (cls o ≤ classes)

none_or_some : (n : ℕ) → (n ≡ 0) ⊎ (1 ≤ n)
none_or_some zero = inl refl
none_or_some (suc n) = inr (omega arith)

-- a filter takes no more of a class than there is
filter_less : (c : ℕ) (f : Obj → Bool) (os : List Obj) → volume_of c (filter f os) ≤ volume_of c os
unfolding filter volume_of
filter_less c f [] = omega arith
filter_less c f (o ∷ os) = elim (f o) as (λ t. volume_of c (cond t (o ∷ filter f os) (filter f os)) ≤ cond (eqb (cls o) c) o.len 0 + volume_of c os) [
  | true ↦ omega (arith, filter_less c f os)
  | false ↦ omega (arith, filter_less c f os)
]

-- nothing below class b
below_none : (b c : ℕ) → c < b → (os : List Obj) → All (Flushed b) os → volume_of c os ≡ 0
unfolding volume_of
below_none b c l [] h = refl
below_none b c l (o ∷ os) h = (elim (eqb (cls o) c) as (λ t. eqb (cls o) c ≡ t → cond t o.len 0 + volume_of c os ≡ 0) [
  | true ↦ λ e. elim (none_or_some o.len) [
    | inl z ↦ omega (arith, below_none b c l os h.1)
    | inr some ↦ absurd (omega (arith, (h.0 some).0, eqb-true (cls o) c e))
  ]
  | false ↦ λ e. omega (arith, below_none b c l os h.1)
]) refl

-- the classes' volumes make the volume
classes_make : (b : ℕ) → 1 ≤ b → (os : List Obj) → All (Flushed b) os → volume os ≤ span (λ c. volume_of c os) 1 classes
unfolding volume
classes_make b l [] h = omega arith
classes_make b l (o ∷ os) h =
    let cons = span_same (λ c. volume_of c (o ∷ os)) (more (cls o) o.len (λ c. volume_of c os)) 1 classes (λ i p q. volume_of_cons o os i) in
    elim (none_or_some o.len) [
      | inl z ↦ omega (
        arith,
        classes_make b l os h.1,
        span_le (λ c. volume_of c os) (λ c. volume_of c (o ∷ os)) 1 classes (λ i p q. omega (
          arith,
          volume_of_cons o os i,
          more_le (cls o) o.len (λ c. volume_of c os) i,
        )),
      )
      | inr some ↦ omega (
        arith,
        cons,
        classes_make b l os h.1,
        span_more_in (cls o) o.len (λ c. volume_of c os) 1 classes (omega (arith, (h.0 some).0)) (omega (arith, (h.0 some).1)),
      )
    ]

-- an object in the payload of its class, with any bytes, is of no class past the last
abbrev pub Inside : Regions → Obj → Type 0
Inside t o = in_payload share t o ≡ true → 1 ≤ o.len → cls o ≤ classes

-- since the column of sizes says 0 there
pub column_inside : (t : Regions) → col t.sizes (suc classes) ≡ 0 → (o : Obj) → Inside t o
column_inside t last o e some = elim (eq-or-lt_of_le (class_few o.len)) [
  | inl q ↦ absurd (let z : col t.sizes (cls o) ≡ 0 = rw q last in omega (
    arith,
    within_fact (start_of share t.sizes (cls o)) (col t.sizes (cls o)) o e,
    z,
  ))
  | inr l ↦ omega arith
]

-- or since no length is beyond the last class
pub length_inside : (t : Regions) (o : Obj) → o.len ≤ longest → Inside t o
length_inside t o short e some = (class_bounds o.len some short).1

module _ (s : Start) (least : 1 ≤ s.boundary) (inside : All (Inside s.regions) s.old) where
  flushed : (o : Obj) → Inside s.regions o → (in_flush share s o && in_payload share s.regions o) ≡ true → Flushed s.boundary o
  flushed o h e some =
      let p = and_true (in_flush share s o) (in_payload share s.regions o) e in
      let low = leb-true (start_of share s.regions.sizes s.boundary) o.at p.0 in
      let w = within_fact (start_of share s.regions.sizes (cls o)) (col s.regions.sizes (cls o)) o p.1 in
      (region_from share s.regions.sizes s.boundary (cls o) (class_some o.len some) (omega (arith, low, w)), h p.1 some)

  payloads_flushed : All (Flushed s.boundary) (payloads share s)
  unfolding payloads
  payloads_flushed =
      all_map {P = λ o. Inside s.regions o × ((in_flush share s o && in_payload share s.regions o) ≡ true)} (λ o h. flushed o h.0 h.1)
      (payloads share s)
      (filter_all (Inside s.regions) (λ o. in_flush share s o && in_payload share s.regions o) s.old inside)

  taken : (c : ℕ) → volume_of c (payloads share s) ≤ volume_of c s.old
  unfolding payloads
  taken c = filter_less c (λ o. in_flush share s o && in_payload share s.regions o) s.old

  -- the new size of a class counts its payload objects
  counted : (c : ℕ) → 1 ≤ c → c < 1 + classes → volume_of c (payloads share s) ≤ extent share (rebound s).sizes c
  unfolding rebound
  counted c l m =
      let is = column_at (λ i. cond (ltb i s.boundary) (col s.regions.sizes i) (volume_of i (live s))) c (omega arith) in
      (elim (ltb c s.boundary) as (λ t. ltb c s.boundary ≡ t → volume_of c (payloads share s) ≤ extent share (rebound s).sizes c) [
        | true ↦ λ e. omega (arith, below_none s.boundary c (ltb-true c s.boundary e) (payloads share s) payloads_flushed)
        | false ↦ λ e. let new : col (rebound s).sizes c ≡ volume_of c (live s) = is ∙ rw e in
            omega (arith, new, volume_of_append c s.old s.new, taken c)
      ]) refl

  -- payload objects fit below overflow
  pub payloads_fit : volume (payloads share s) ≤ overflow_start share s
  unfolding overflow_start
  payloads_fit =
      omega (
        arith,
        classes_make s.boundary least (payloads share s) payloads_flushed,
        span_le (λ c. volume_of c (payloads share s)) (extent share (rebound s).sizes) 1 classes (λ c a b. counted c a b),
      )

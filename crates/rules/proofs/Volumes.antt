-- Volumes by class and by place: the classes' volumes are within the volume, and objects that lie apart in the used parts of buffers take no more
-- than what is used there.
use mathlib.Core.Path.{◌≡◌, refl, sym, ap}
use mathlib.Core.Logic.{inl, inr}
use mathlib.Core.Bool.{Bool, true, false, cond}
use mathlib.Core.List.{List, [], ◌∷◌}
use Prim.Native.Nat.{ℕ, suc, ◌+◌, ◌-◌, ◌≤◌}
use native.Mathlib.Omega.{arith}
use lib.Dec.{eqb}
use borrow.Author.Tests.{eq-eqb, ne_eqb}
use Rattle.rules.specs.House.{classes}
use Rattle.rules.specs.Classes.{Obj, cls, class_of, end_of, volume, volume_of, filter}
use Rattle.rules.specs.Regions.{Regions, col, span, up_from, start_of, buffer_start, buffer_size}
use Rattle.rules.specs.Sound.{live_at}
use Rattle.rules.proofs.Lists.{clash, All}
use Rattle.rules.proofs.Tables.{span_add, span_same, span_zero, more, more_at, more_off, span_more_in, span_more_out, in_span, trio}
use Rattle.rules.proofs.Puts.{same_or_not}
use Rattle.rules.proofs.Geometry.{region_from}
use Rattle.rules.proofs.Facts.{Chain}

-- n bytes of class c count for class i
counted : (c n : ℕ) (f : ℕ → ℕ) (i : ℕ) → cond (eqb c i) n 0 + f i ≡ more c n f i
counted c n f i = elim (same_or_not i c) [
  | inl e ↦ rw (eq-eqb c i (sym e), more_at c n f i e)
  | inr d ↦ rw (ne_eqb c i (λ e. d (sym e)), more_off c n f i d) (omega arith)
]

-- an object is one of its class
pub volume_of_cons : (o : Obj) (os : List Obj) (i : ℕ) → volume_of i (o ∷ os) ≡ more (cls o) o.len (λ c. volume_of c os) i
unfolding volume_of
volume_of_cons o os i = counted (cls o) o.len (λ c. volume_of c os) i

-- a deleted length counts in its class
pub live_gone : (os : List Obj) (gone i : ℕ) → live_at os gone i ≡ more (class_of gone) gone (λ c. volume_of c os) i
live_gone os gone i = omega (arith, counted (class_of gone) gone (λ c. volume_of c os) i)

-- where none is deleted, the live volume is that of the objects
pub live_zero : (os : List Obj) (i : ℕ) → live_at os 0 i ≡ volume_of i os
live_zero os i = elim (eqb (class_of 0) i) as (λ b. volume_of i os + cond b 0 0 ≡ volume_of i os) [ true ↦ omega arith | false ↦ omega arith ]

span_more_most : (j x : ℕ) (f : ℕ → ℕ) (k n : ℕ) → span (more j x f) k n ≤ x + span f k n
span_more_most j x f k n = elim (in_span k n j) [
  | inl w ↦ omega (arith, span_more_in j x f k n w.0 w.1)
  | inr o ↦ omega (arith, span_more_out j x f k n o)
]

module _ (k n : ℕ) where
  cons_span : (o : Obj) (os : List Obj) → span (λ c. volume_of c (o ∷ os)) k n ≡ span (more (cls o) o.len (λ c. volume_of c os)) k n
  cons_span o os = span_same (λ c. volume_of c (o ∷ os)) (more (cls o) o.len (λ c. volume_of c os)) k n (λ i a b. volume_of_cons o os i)

  nil_span : span (λ c. volume_of c []) k n ≡ 0
  unfolding volume_of
  nil_span = span_zero k n

  -- some classes have no more than the volume
  pub classes_within : (os : List Obj) → span (λ c. volume_of c os) k n ≤ volume os
  unfolding volume
  classes_within [] = omega (arith, nil_span)
  classes_within (o ∷ os) = omega (arith, cons_span o os, span_more_most (cls o) o.len (λ c. volume_of c os) k n, classes_within os)

  -- nor, a deleted length counted, than the volume with it
  pub live_within : (os : List Obj) (gone : ℕ) → span (live_at os gone) k n ≤ volume os + gone
  live_within os gone =
      omega (
        arith,
        span_same (live_at os gone) (more (class_of gone) gone (λ c. volume_of c os)) k n (λ i a b. live_gone os gone i),
        span_more_most (class_of gone) gone (λ c. volume_of c os) k n,
        classes_within os,
      )

  -- a test that takes every object of some classes takes their volume
  pub classes_taken : (f : Obj → Bool) (os : List Obj) → All (λ o. k ≤ cls o → f o ≡ true) os
      → span (λ c. volume_of c os) k n ≤ volume (filter f os)
  unfolding volume filter
  classes_taken f [] h = omega (arith, nil_span)
  classes_taken f (o ∷ os) h = (elim (f o) as
      (λ b. f o ≡ b → span (λ c. volume_of c (o ∷ os)) k n ≤ volume (cond b (o ∷ filter f os) (filter f os))) [
        | true ↦ λ e. omega (arith, cons_span o os, span_more_most (cls o) o.len (λ c. volume_of c os) k n, classes_taken f os h.1)
        | false ↦ λ e. omega (
          arith,
          cons_span o os,
          span_more_out (cls o) o.len (λ c. volume_of c os) k n (λ a b. clash (h.0 a) e),
          classes_taken f os h.1,
        )
      ]) refl

-- the sum from a class up, its own number taken out
pub up_first : (f : ℕ → ℕ) (k : ℕ) → k ≤ classes → span f k (up_from k) ≡ f k + span f (suc k) (up_from (suc k))
unfolding span
up_first f k l =
    let e : up_from k ≡ suc (up_from (suc k)) = omega arith in
    ap (span f k) e

-- the sum from a later class up is no more
pub up_falls : (f : ℕ → ℕ) (k j : ℕ) → k ≤ j → j ≤ suc classes → span f j (up_from j) ≤ span f k (up_from k)
up_falls f k j l m =
    let e : (j - k) + up_from j ≡ up_from k = omega arith in
    let d : k + (j - k) ≡ j = omega arith in
    let p = rw (e, d) at (span_add f k (j - k) (up_from j)) in
    omega arith

-- an object in the used part of some buffer
pub record InUsed (q : ℕ) (t : Regions) (o : Obj) : Type 0 where
  pub number : ℕ
  pub least : 1 ≤ number
  pub most : number ≤ classes
  pub some : 1 ≤ o.len
  pub from : buffer_start q t.sizes number ≤ o.at
  pub upto : end_of o ≤ buffer_start q t.sizes number + col t.useds number

module _ (q : ℕ) (t : Regions) (used_fits_lem : (i : ℕ) → 1 ≤ i → i ≤ classes → col t.useds i ≤ buffer_size q t.sizes i) where
  above : (o : Obj) (u : InUsed q t o) (b : ℕ) → start_of q t.sizes b ≤ o.at → b ≤ u.number
  above o u b l = region_from q t.sizes b u.number u.least (omega (arith, u.some, u.upto, used_fits_lem u.number u.least u.most))

  -- from a place in buffer k's used part on
  rest_volume : (os : List Obj) (lo k : ℕ) → k ≤ classes → buffer_start q t.sizes k ≤ lo → lo ≤ buffer_start q t.sizes k + col t.useds k
      → Chain lo os → All (InUsed q t) os
      → volume os + lo ≤ buffer_start q t.sizes k + col t.useds k + span (col t.useds) (suc k) (up_from (suc k))
  unfolding volume
  rest_volume [] lo k m a b c h = omega arith
  rest_volume (o ∷ os) lo k m a b c h =
      let u = h.0 in
      let r = rest_volume os (end_of o) u.number u.most (omega (arith, u.from)) u.upto c.1 h.1 in
      elim (trio k u.number) [
        | inl l ↦ omega (
          arith,
          c.0,
          u.from,
          up_first (col t.useds) u.number u.most,
          up_falls (col t.useds) (suc k) u.number l (omega (arith, u.most)),
        )
        | inr e ↦ elim e [
          | inl e ↦ rw e (omega (arith, c.0))
          | inr l ↦ absurd (omega (arith, above o u k (omega (arith, c.0))))
        ]
      ]

  -- objects that lie apart in used parts, from region b's start on
  pub used_volume : (os : List Obj) (b : ℕ) → b ≤ suc classes → Chain (start_of q t.sizes b) os → All (InUsed q t) os
      → volume os ≤ span (col t.useds) b (up_from b)
  unfolding volume
  used_volume [] b m c h = omega arith
  used_volume (o ∷ os) b m c h =
      let u = h.0 in
      let r = rest_volume os (end_of o) u.number u.most (omega (arith, u.from)) u.upto c.1 h.1 in
      omega (
        arith,
        u.from,
        up_first (col t.useds) u.number u.most,
        up_falls (col t.useds) b u.number (above o u b c.0) (omega (arith, u.most)),
      )

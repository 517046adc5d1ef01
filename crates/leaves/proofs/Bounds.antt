-- The bounds of the classes: entry i of the list is 2^i, by one test that antt computes over the whole list.
-- The search for a class compares a length with them one by one.
use mathlib.Core.Path.{◌≡◌, refl, sym, ap, ◌∙◌}
use mathlib.Core.Bool.{Bool, true, false, cond, not}
use mathlib.Core.List.{List, [], ◌∷◌, ◌++◌}
use Prim.Native.Nat.{ℕ, suc, ◌+◌, ◌^◌, ◌≤◌, ◌<◌}
use native.Mathlib.Omega.{arith}
use native.Mathlib.Nat.{zero-add}
use borrow.Author.Tests.{eqb-true, eq-eqb, ne_eqb, ltb-true, ltb-false, lt-ltb, le-ltb}
use lib.Dec.{eqb, ltb}
use lib.ListN.{length, get_or}
use Rattle.std.specs.Prelude.{Option, position, nat_lt, Some, None}
use Rattle.std.proofs.lemmas.List.Folds.{position_or_len_push}
use Rattle.std.specs.List.{position_or_len}
use Rattle.std.proofs.lemmas.List.Sums.{prefix_len-le-length}
use Rattle.rules.specs.House.{classes, longest}
use Rattle.rules.specs.Classes.{class_from, class_of}
use Rattle.rules.specs.Regions.{every}
use Rattle.rules.proofs.Tables.{every_at}

-- the list that stands in the code: the proof of `class_of` compares with this one what the code reads
abbrev pub bounds : List ℕ
bounds = 1 ∷ 2 ∷ 4 ∷ 8 ∷ 16 ∷ 32 ∷ 64 ∷ 128 ∷ 256 ∷ 512 ∷ 1024 ∷ 2048 ∷ []

-- the same, with the first length beyond
abbrev ends : List ℕ
ends = bounds ++ (suc longest ∷ [])

-- its test: entry i is 2^i, for each class
are_powers : every (λ i. eqb (get_or ends i 0) (2 ^ i)) 0 (suc classes) ≡ true
unfolding every
are_powers = refl

-- so each entry is
bound_power : (i : ℕ) → i < suc classes → get_or ends i 0 ≡ 2 ^ i
bound_power i l = eqb-true _ _ (every_at (λ k. eqb (get_or ends k 0) (2 ^ k)) 0 (suc classes) are_powers i (omega arith) (omega arith))

-- the search of such a list comes to the class
class_position : (len : ℕ) (xs : List ℕ) (i : ℕ) → ((k : ℕ) → k < length xs → get_or xs k 0 ≡ 2 ^ (i + k))
    → class_from len i (length xs) ≡ i + position_or_len (nat_lt len) xs
unfolding class_from
class_position len [] i h = omega arith
class_position len (x ∷ xs) i h =
    let next = class_position len xs (suc i) (λ k l. let e : suc i + k ≡ i + suc k = omega arith in rw e (h (suc k) (omega arith))) in
    let here : x ≡ 2 ^ i = (let e : i + 0 ≡ i = omega arith in rw e at (h 0 (omega arith))) in
    rw (← here) ((elim (nat_lt len x) as
    (λ b. cond b i (class_from len (suc i) (length xs)) ≡ i + cond (not b) (1 + position_or_len (nat_lt len) xs) 0) [
      | true ↦ omega arith
      | false ↦ omega arith
    ]))

-- the first that passes in a list with one entry more
module _ (p : ℕ → Bool) (xs : List ℕ) (y : ℕ) where
  first_some : (k : ℕ) → position p xs ≡ Some k → k ≡ position_or_len p (xs ++ (y ∷ []))
  first_some k =
      let f = position_or_len p xs in
      (elim (ltb f (length xs)) as (λ b. ltb f (length xs) ≡ b → ◌≡◌ {A = Option ℕ} (cond b (Some f) None) (Some k)
      → k ≡ position_or_len p (xs ++ (y ∷ []))) [
        | true ↦ λ e q.
            let same : f ≡ k = cc in
            rw (position_or_len_push p xs y, ne_eqb f (length xs) (λ z. omega (arith, ltb-true f (length xs) e))) (sym same)
        | false ↦ λ e q. cc
      ]) refl

  first_none : (t : Bool) → p y ≡ t → position p xs ≡ None → length xs + cond t 0 1 ≡ position_or_len p (xs ++ (y ∷ []))
  first_none t h =
      let f = position_or_len p xs in
      let high = prefix_len-le-length (λ x. not (p x)) xs in
      (elim (ltb f (length xs)) as (λ b. ltb f (length xs) ≡ b → ◌≡◌ {A = Option ℕ} (cond b (Some f) None) None
      → length xs + cond t 0 1 ≡ position_or_len p (xs ++ (y ∷ []))) [
        | true ↦ λ e q. cc
        | false ↦ λ e q. rw (position_or_len_push p xs y, eq-eqb f (length xs) (omega (arith, ltb-false f (length xs) e)), h)
      ]) refl

module _ (len : ℕ) where
  ends_class : position_or_len (nat_lt len) ends ≡ class_of len
  unfolding class_of
  ends_class = sym (class_position len ends 0 (λ k l. bound_power k l ∙ ap (λ (i : ℕ). 2 ^ i) (sym (zero-add k))) ∙ zero-add _)

  -- the index of the first bound above the length is the class
  pub class_found : (k : ℕ) → position (nat_lt len) bounds ≡ Some k → k ≡ class_of len
  class_found k e = first_some (nat_lt len) bounds (suc longest) k e ∙ ends_class

  -- where there is none it is the last class, or beyond
  module _ (e : position (nat_lt len) bounds ≡ None) where
    pub class_last : len ≤ longest → classes ≡ class_of len
    class_last h = first_none (nat_lt len) bounds (suc longest) true (lt-ltb len (suc longest) (omega arith)) e ∙ ends_class

    pub class_beyond : longest < len → suc classes ≡ class_of len
    class_beyond h = first_none (nat_lt len) bounds (suc longest) false (le-ltb len (suc longest) (omega arith)) e ∙ ends_class

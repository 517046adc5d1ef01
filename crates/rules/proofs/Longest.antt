-- D, the length of the longest live object. The laws know two things of it: it is at least each live length, so that every run can take any object;
-- and no greater than it must be for that, so at most the longest length allowed, for which the quota leaves room.
use mathlib.Core.Path.{◌≡◌, sym, ◌∙◌}
use mathlib.Core.List.{List, [], ◌∷◌, ◌++◌}
use Prim.Native.Nat.{ℕ, ◌≤◌, max}
use native.Mathlib.Omega.{arith}
use Rattle.rules.specs.Classes.{Obj, placed}
use Rattle.rules.specs.Flush.{longest_in}
use Rattle.rules.proofs.Lists.{All, all_map}

-- D is at least each length
pub longest_least : (os : List Obj) → All (λ o. o.len ≤ longest_in os) os
unfolding longest_in
longest_least [] = tt
longest_least (o ∷ os) = (omega arith, all_map (λ x h. omega arith) os (longest_least os))

-- and at most any number that is at least each
pub longest_most : (n : ℕ) (os : List Obj) → All (λ o. o.len ≤ n) os → longest_in os ≤ n
unfolding longest_in
longest_most n [] h = omega arith
longest_most n (o ∷ os) h = omega (arith, h.0, longest_most n os h.1)

longest_append : (xs ys : List Obj) → longest_in (xs ++ ys) ≡ max (longest_in xs) (longest_in ys)
unfolding longest_in
longest_append [] ys = omega arith
longest_append (x ∷ xs) ys = omega (arith, longest_append xs ys)

-- where the last object lies does not change D
pub longest_placed : (os : List Obj) (o : Obj) (x : ℕ) → longest_in (os ++ (placed o x ∷ [])) ≡ longest_in (os ++ (o ∷ []))
unfolding longest_in
longest_placed os o x = longest_append os (placed o x ∷ []) ∙ sym (longest_append os (o ∷ []))

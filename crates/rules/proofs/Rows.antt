-- Rows of objects: who is in a row that is turned round in front of another, and rows that rise or fall.
use mathlib.Core.Path.{◌≡◌, ap, ◌∙◌}
use mathlib.Core.Logic.{◌⊎◌, inl, inr}
use mathlib.Core.List.{List, [], ◌∷◌, ◌++◌, reverse, reverse_aux}
use Prim.Native.Nat.{ℕ, ◌+◌, ◌≤◌}
use native.Mathlib.Omega.{arith}
use native.Mathlib.Nat.{add-zero, add_assoc}
use Rattle.rules.specs.Classes.{Obj, end_of, placed, volume}
use Rattle.rules.specs.Flush.{stacked}
use Rattle.rules.proofs.Lists.{All, In, all_map}
use Rattle.rules.proofs.Facts.{Chain}
use Rattle.rules.proofs.Names.{in_left, in_right, in_either}
use Rattle.rules.proofs.Safe.{Divided, regroup}
use Rattle.rules.proofs.Packing.{Falling}
use Rattle.rules.proofs.Lifting.{Disjoint}

-- in a row turned round in front of another, or in that other
pub in_reverse : (o : Obj) (xs ys : List Obj) → In o xs ⊎ In o ys → In o (reverse_aux xs ys)
in_reverse o [] ys (inl m) = absurd m
in_reverse o [] ys (inr m) = m
in_reverse o (x ∷ xs) ys (inl (inl e)) = in_reverse o xs (x ∷ ys) (inr (inl e))
in_reverse o (x ∷ xs) ys (inl (inr m)) = in_reverse o xs (x ∷ ys) (inl m)
in_reverse o (x ∷ xs) ys (inr m) = in_reverse o xs (x ∷ ys) (inr (inr m))

-- and back
pub reverse_in : (o : Obj) (xs ys : List Obj) → In o (reverse_aux xs ys) → In o xs ⊎ In o ys
reverse_in o [] ys m = inr m
reverse_in o (x ∷ xs) ys m = elim (reverse_in o xs (x ∷ ys) m) [
  | inl k ↦ inl (inr k)
  | inr k ↦ elim k [ inl e ↦ inl (inl e) | inr l ↦ inr l ]
]

-- of the rest, a middle part is to be moved next
pub next_up : (a b c : List Obj) {todo now : List Obj} → Divided todo (reverse_aux a (reverse_aux b c)) now → Divided (todo ++ b) (reverse_aux a c) now
next_up a b c {todo} {now} s = regroup s back forth
  where
    back : (o : Obj) → In o (todo ++ b) ⊎ In o (reverse_aux a c) → In o todo ⊎ In o (reverse_aux a (reverse_aux b c))
    back o (inl m) = elim (in_either o todo b m) [
      | inl k ↦ inl k
      | inr k ↦ inr (in_reverse o a (reverse_aux b c) (inr (in_reverse o b c (inl k))))
    ]
    back o (inr m) = inr (in_reverse o a (reverse_aux b c) (elim (reverse_in o a c m) [ inl k ↦ inl k | inr k ↦ inr (in_reverse o b c (inr k)) ]))

    forth : (o : Obj) → In o todo ⊎ In o (reverse_aux a (reverse_aux b c)) → In o (todo ++ b) ⊎ In o (reverse_aux a c)
    forth o (inl m) = inl (in_left o todo b m)
    forth o (inr m) = elim (reverse_in o a (reverse_aux b c) m) [
      | inl k ↦ inr (in_reverse o a c (inl k))
      | inr k ↦ elim (reverse_in o b c k) [ inl l ↦ inl (in_right o todo b l) | inr l ↦ inr (in_reverse o a c (inr l)) ]
    ]

-- what is to be moved, turned round
pub turned : (todo : List Obj) {rest now : List Obj} → Divided todo rest now → Divided (reverse todo) rest now
turned todo {rest} s = regroup s back (λ o m. elim m [ inl k ↦ inl (in_reverse o todo [] (inl k)) | inr k ↦ inr k ])
  where
    back : (o : Obj) → In o (reverse todo) ⊎ In o rest → In o todo ⊎ In o rest
    back o (inl m) = elim (reverse_in o todo [] m) [ inl k ↦ inl k | inr k ↦ absurd k ]
    back o (inr m) = inr m

-- two rows side by side are one behind the other
pub stacked_append : (from : ℕ) (xs ys : List Obj) → stacked from (xs ++ ys) ≡ stacked from xs ++ stacked (from + volume xs) ys
unfolding stacked volume
stacked_append from [] ys = rw add-zero
stacked_append from (x ∷ xs) ys = ap (λ l. placed x from ∷ l) (stacked_append (from + x.len) xs ys ∙ rw add_assoc)

-- objects side by side rise
pub stacked_chain : (from : ℕ) (os : List Obj) → Chain from (stacked from os)
unfolding stacked
stacked_chain from [] = tt
stacked_chain from (o ∷ os) = (omega arith, stacked_chain (from + o.len) os)

-- they take just their volume
pub stacked_within : (from : ℕ) (os : List Obj) → All (λ o. (from ≤ o.at) × (end_of o ≤ from + volume os)) (stacked from os)
unfolding stacked volume
stacked_within from [] = tt
stacked_within from (o ∷ os) = (
  (omega arith, omega arith),
  all_map (λ x h. (omega arith, omega arith)) (stacked (from + o.len) os) (stacked_within (from + o.len) os),
)

-- and miss one another
pub stacked_pairs : (from : ℕ) (os : List Obj) → Disjoint (stacked from os)
unfolding stacked
stacked_pairs from [] = tt
stacked_pairs from (o ∷ os) = (
  all_map (λ g h x a b c d. omega arith) (stacked (from + o.len) os) (stacked_within (from + o.len) os),
  stacked_pairs (from + o.len) os,
)

falling_up : (floor a b : ℕ) (os : List Obj) → a ≤ b → Falling floor a os → Falling floor b os
falling_up floor a b [] l f = omega arith
falling_up floor a b (o ∷ os) l f = (omega arith, f.1)

-- a row that rises falls when it is turned round
pub chain_falling : (floor lo top : ℕ) (os done : List Obj) → Falling floor lo done → lo ≤ top → Chain lo os
    → All (λ (o : Obj). end_of o ≤ top) os → Falling floor top (reverse_aux os done)
chain_falling floor lo top [] done f l c h = falling_up floor lo top done l f
chain_falling floor lo top (o ∷ os) done f l c h = chain_falling floor (end_of o) top os (o ∷ done)
    (omega arith, falling_up floor lo o.at done c.0 f) h.0 c.1 h.1

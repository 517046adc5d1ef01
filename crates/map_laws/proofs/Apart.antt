-- No two objects share a byte: the test as facts on each two of a list, which hold in any order of it.
use mathlib.Core.Path.{◌≡◌, refl}
use mathlib.Core.Bool.{true}
use mathlib.Core.List.{List, [], ◌∷◌}
use mathlib.Core.Logic.{inl, inr, ⊎_elim}
use borrow.Author.Tests.{leb-true, le-leb}
use lib.Dec.{leb}
use Rattle.rules.specs.Classes.{Obj, end_of}
use Rattle.rules.proofs.Lists.{All, Pairs, and_true, true_and, or_true, or_right}
use Rattle.rules.proofs.Insertion.{Beside}
use Rattle.mapform.specs.Reading.{misses, clear_of, apart}

pub misses_test : (o x : Obj) → Beside o x → misses o.at (end_of o) x ≡ true
misses_test o x (inl h) = rw (le-leb (end_of o) x.at h)
misses_test o x (inr h) = or_right (leb (end_of o) x.at) (leb (end_of x) o.at) (le-leb (end_of x) o.at h)

pub misses_fact : (o x : Obj) → misses o.at (end_of o) x ≡ true → Beside o x
misses_fact o x e =
    ⊎_elim (λ h. inl (leb-true (end_of o) x.at h)) (λ h. inr (leb-true (end_of x) o.at h)) (or_true (leb (end_of o) x.at) (leb (end_of x) o.at) e)

pub clear_fact : (o : Obj) (xs : List Obj) → clear_of o.at (end_of o) xs ≡ true → All (Beside o) xs
unfolding clear_of
clear_fact o [] e = tt
clear_fact o (x ∷ xs) e = let p = and_true (misses o.at (end_of o) x) (clear_of o.at (end_of o) xs) e in (misses_fact o x p.0, clear_fact o xs p.1)

pub clear_test : (o : Obj) (xs : List Obj) → All (Beside o) xs → clear_of o.at (end_of o) xs ≡ true
unfolding clear_of
clear_test o [] d = refl
clear_test o (x ∷ xs) d = true_and (misses o.at (end_of o) x) (clear_of o.at (end_of o) xs) (misses_test o x d.0) (clear_test o xs d.1)

-- each two of a list
abbrev pub Apart : List Obj → Type 0
Apart = Pairs Beside

pub apart_fact : (os : List Obj) → apart os ≡ true → Apart os
unfolding apart
apart_fact [] e = tt
apart_fact (o ∷ os) e = let p = and_true (clear_of o.at (end_of o) os) (apart os) e in (clear_fact o os p.0, apart_fact os p.1)

pub apart_test : (os : List Obj) → Apart os → apart os ≡ true
unfolding apart
apart_test [] d = refl
apart_test (o ∷ os) d = true_and (clear_of o.at (end_of o) os) (apart os) (clear_test o os d.0) (apart_test os d.1)

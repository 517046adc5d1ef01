-- The objects lie well also in the middle of a flush: apart, and within the end of overflow. They do where it begins: the old ones stand in a row
-- below F, and a new one lies in overflow. A move of a safe plan takes its object to a place that misses every place held, so they do after any
-- number of moves.
use mathlib.Core.Path.{◌≡◌, refl, sym, ap, ◌∙◌}
use mathlib.Core.Logic.{◌⊎◌, inl, inr}
use mathlib.Core.List.{List, [], ◌∷◌, ◌++◌}
use Prim.Native.Nat.{ℕ, zero, suc, ◌≤◌}
use native.Mathlib.Omega.{arith}
use lib.ListN.{length}
use Rattle.rules.specs.Classes.{Obj, end_of, placed, volume}
use Rattle.rules.specs.Regions.{footprint}
use Rattle.rules.specs.Flush.{Start, Act, Move, move, wait, live, overflow_end, new_place, buffered, plan, moved, played}
use Rattle.rules.specs.History.{Every}
use Rattle.rules.proofs.Lists.{All, In, in_all, all_in_lem, all_map, volume_append}
use Rattle.rules.proofs.Facts.{Chain, Distinct}
use Rattle.rules.proofs.Geometry.{region_ends}
use Rattle.rules.proofs.Insertion.{Beside, beside_turn, no_shared_byte, Pairwise}
use Rattle.rules.proofs.Names.{all_kinds, kinds_moved, distinct_moved, unique, in_either}
use Rattle.rules.proofs.Plays.{moves_of}
use Rattle.rules.proofs.Safe.{Apart, target, Safe, came}
use Rattle.rules.proofs.Lifting.{chain_above}
use Rattle.rules.proofs.Begin.{Begins, all_inside}
use Rattle.rules.proofs.FlushSafe.{plan_safe}
use Rattle.rules.proofs.StepWithin.{By, MovesBy, old_below, plan_by_lem}

-- each two objects of a list, told apart by their names, lie beside each other
abbrev pub Besides : List Obj → Type 0
Besides os = (o x : Obj) → In o os → In x os → (o.name ≡ x.name → ⊥) → Beside o x

-- in a row they do
pub chain_besides : (lo : ℕ) (os : List Obj) → Chain lo os → Besides os
chain_besides lo [] c o x m n d = absurd m
chain_besides lo (y ∷ ys) c o x (inl e) (inl k) d = absurd (d (ap (λ (z : Obj). z.name) (e ∙ sym k)))
chain_besides lo (y ∷ ys) c o x (inl e) (inr n) d = inl (rw e (chain_above (end_of y) ys c.1 x n))
chain_besides lo (y ∷ ys) c o x (inr m) (inl k) d = inr (rw k (chain_above (end_of y) ys c.1 o m))
chain_besides lo (y ∷ ys) c o x (inr m) (inr n) d = chain_besides (end_of y) ys c.1 o x m n d

-- where names differ they do pair by pair
pub besides_pairwise : (os : List Obj) → Distinct os → All (λ o. 1 ≤ o.len) os → Besides os → Pairwise os
besides_pairwise [] d some h = tt
besides_pairwise (o ∷ os) d some h = (
  some.0,
  all_in_lem (λ x. Beside o x × (1 ≤ x.len)) os (λ x m. (
    h o x (inl refl) (inr m) (λ e. in_all (λ y. y.name ≡ o.name → ⊥) os d.0 x m (sym e)),
    in_all (λ y. 1 ≤ y.len) os some.1 x m,
  )),
  besides_pairwise os d.1 some.1 (λ a b i j. h a b (inr i) (inr j)),
)

-- HOW OBJECTS LIE: names differ, none is empty, each two lie beside each other, and all end by a place
pub record Laid (top : ℕ) (os : List Obj) : Type 0 where
  pub differ : Distinct os
  pub some : All (λ o. 1 ≤ o.len) os
  pub beside : Besides os
  pub by : All (By top) os

-- a move to a place that misses all others
module _ (top : ℕ) (m : Move) (os : List Obj) (l : Laid top os) (there : In m.object os) (miss : All (Apart (target m)) os) where
  -- after it an object is the one moved, or as it was
  after : (o : Obj) → In o (moved m os) → (o ≡ target m) ⊎ In o os
  after o k = let r = came m o os k in elim r.2 [
    | inl p ↦ inl (p.1 ∙ ap (λ (y : Obj). placed y m.to) (unique os l.differ r.0 m.object r.1 there p.0))
    | inr p ↦ inr (rw p.1 r.1)
  ]

  some_at : (o : Obj) → In o os → 1 ≤ o.len
  some_at o k = in_all (λ y. 1 ≤ y.len) os l.some o k

  off : (o : Obj) → In o os → Beside (target m) o
  off o k = no_shared_byte (target m) o (some_at m.object there) (some_at o k) (λ y a b c d. in_all (Apart (target m)) os miss o k y c d a b)

  two : (o x : Obj) → (o ≡ target m) ⊎ In o os → (x ≡ target m) ⊎ In x os → (o.name ≡ x.name → ⊥) → Beside o x
  two o x (inl p) (inl k) d = absurd (d (ap (λ (y : Obj). y.name) (p ∙ sym k)))
  two o x (inl p) (inr k) d = rw p (off x k)
  two o x (inr p) (inl k) d = rw k (beside_turn (target m) o (off o p))
  two o x (inr p) (inr k) d = l.beside o x p k d

  ends : (o : Obj) → By top (target m) → (o ≡ target m) ⊎ In o os → By top o
  ends o e (inl p) = rw p e
  ends o e (inr k) = in_all (By top) os l.by o k

  moved_laid : MovesBy top m → Laid top (moved m os)
  moved_laid e = record {
    differ = distinct_moved m os l.differ;
    some = all_kinds (λ n k. 1 ≤ k) os (moved m os) (sym (kinds_moved m os)) l.some;
    beside = λ o x a b d. two o x (after o a) (after x b) d;
    by = all_in_lem (By top) (moved m os) (λ o k. ends o e.0 (after o k));
  }

-- AFTER ANY NUMBER OF MOVES of a safe plan they lie so
played_laid : (top : ℕ) (Post : List Obj → List Obj → Type 0) (acts : List Act) (n : ℕ) (now seen : List Obj) → Safe acts Post now seen
    → Every (MovesBy top) (moves_of acts)
    → Laid top now → Laid top (played acts n now)
unfolding played moves_of
played_laid top Post acts zero now seen s e l = l
played_laid top Post [] (suc n) now seen s e l = l
played_laid top Post (wait ∷ acts) (suc n) now seen s e l = played_laid top Post acts (suc n) now now s e l
played_laid top Post (move m ∷ acts) (suc n) now seen s e l = played_laid top Post acts n (moved m now) (now ++ seen) s.3 e.1
    (moved_laid top m now l s.0 s.1 e.0)

-- a list of at most one has no two
one_alone : (os : List Obj) → length os ≤ 1 → (o x : Obj) → In o os → In x os → o ≡ x
one_alone (y ∷ []) one o x (inr x14) b = elim x14 [ ]
one_alone (y ∷ []) one o x (inl a) (inr x14) = elim x14 [ ]
one_alone [] one o x a b = elim a [ ]
one_alone (y ∷ []) one o x (inl a) (inl b) = a ∙ sym b
one_alone (y ∷ z ∷ os) one o x a b = absurd (omega arith)

-- the objects of a flush where it begins: the old ones below F, a new one in overflow
module _ {q : ℕ} {s : Start} (g : Begins q s) where
  old_by : All (By (footprint q s.regions.sizes)) s.old
  old_by = all_map (λ o i. omega (arith, i.upto, region_ends q s.regions.sizes i.region i.least i.most)) s.old (all_inside g)

  new_at_lem : (o : Obj) → In o s.new → o.at ≡ new_place q s
  new_at_lem o m = in_all (λ x. x.at ≡ new_place q s) s.new (all_map (λ x k. k.0) s.new g.new_there) o m

  new_length : (os : List Obj) (o : Obj) → In o os → o.len ≤ volume os
  unfolding volume
  new_length [] o x' = elim x' [ ]
  new_length (x ∷ os) o (inl e) = rw e (omega arith)
  new_length (x ∷ os) o (inr m) = omega (arith, new_length os o m)

  old_ends : (o : Obj) → In o s.old → end_of o ≤ footprint q s.regions.sizes
  old_ends o m = in_all (By (footprint q s.regions.sizes)) s.old old_by o m

  apart : (o x : Obj) → In o s.old ⊎ In o s.new → In x s.old ⊎ In x s.new → (o.name ≡ x.name → ⊥) → Beside o x
  apart o x (inl a) (inl b) d = chain_besides 0 s.old g.rest.apart o x a b d
  apart o x (inl a) (inr b) d = inl (omega (arith, old_ends o a, old_below g, new_at_lem x b))
  apart o x (inr a) (inl b) d = inr (omega (arith, old_ends x b, old_below g, new_at_lem o a))
  apart o x (inr a) (inr b) d = absurd (d (ap (λ (y : Obj). y.name) (one_alone s.new g.one o x a b)))

  ends_by : (o : Obj) → In o s.old ⊎ In o s.new → By (overflow_end q s) o
  ends_by o (inl a) = omega (arith, old_ends o a, old_below g)
  ends_by o (inr a) = omega (arith, new_at_lem o a, new_length s.new o a, volume_append (buffered q s) s.new)

  live_laid : Laid (overflow_end q s) (live s)
  live_laid = record {
    differ = g.differ;
    some = all_map (λ o f. f.some_length) (live s) g.fits;
    beside = λ o x a b d. apart o x (in_either o s.old s.new a) (in_either x s.old s.new b) d;
    by = all_in_lem (By (overflow_end q s)) (live s) (λ o m. ends_by o (in_either o s.old s.new m));
  }

  -- so they lie well at any time of the flush
  pub flush_laid : (n : ℕ) → Laid (overflow_end q s) (played (plan q s) n (live s))
  flush_laid n = played_laid (overflow_end q s) _ (plan q s) n (live s) [] (plan_safe g [] tt) (plan_by_lem g) live_laid

-- After all moves of a plan an object that stays lies where it lay, and any other at its final place.
-- The last two phases take each payload and each overflow object to its final place, and no phase takes objects of another kind.
use mathlib.Core.Path.{◌≡◌, refl, sym, ap, ◌∙◌}
use mathlib.Core.Logic.{◌⊎◌, inl, inr}
use mathlib.Core.Bool.{Bool, true, false, cond}
use mathlib.Core.List.{List, [], ◌∷◌}
use Prim.Native.Nat.{ℕ, zero, suc, ◌+◌, ◌-◌, ◌≤◌, ◌<◌}
use native.Mathlib.Omega.{arith}
use native.Mathlib.Nat.{eq-or-lt_of_le}
use lib.Dec.{eqb}
use lib.ListN.{length, get_or, set, length-set}
use lib.Seq.{get_or-set_same, get_or-set_other, take_all}
use borrow.Author.Tests.{eq-eqb, eqb-true, eqb-false}
use Rattle.rules.specs.Columns.{stays, of_payload, of_overflow, picked}
use Rattle.rules.specs.History.{Every}
use Rattle.plan.specs.declared.Phase.{Phase}
use Rattle.plan.specs.Turns.{lifting, packing, spreading, settling, keep, order_from, order, moved_to, phase_moved, places_after, total_moves}
use Rattle.plan.proofs.Orders.{order_every}

-- an index is one of a list
abbrev Has : ℕ → List ℕ → Type 0
Has j [] = ⊥
Has j (i ∷ is) = (j ≡ i) ⊎ Has j is

has_keep : (b : Bool) (j i : ℕ) (is : List ℕ) → Has j is → Has j (keep b i is)
has_keep true j i is h = inr h
has_keep false j i is h = h

-- the rising order has every index of its kind
order_has : (kinds : List ℕ) (kind count j : ℕ) → get_or kinds j 0 ≡ kind → (m i : ℕ) → i ≤ j → j < i + m
    → Has j (order_from kinds kind false count i m)
unfolding order_from
order_has kinds kind count j e zero i a b = absurd (omega arith)
order_has kinds kind count j e (suc m) i a b = elim (eq-or-lt_of_le a) [
  | inl q ↦ let t : eqb (get_or kinds i 0) kind ≡ true = eq-eqb (get_or kinds i 0) kind (ap (λ (x : ℕ). get_or kinds x 0) q ∙ e) in rw t (inl (sym q))
  | inr l ↦ has_keep (eqb (get_or kinds i 0) kind) j i (order_from kinds kind false count (suc i) m) (order_has kinds kind count j e m (suc i) l (omega arith))
]

module _ (to : List ℕ) where
  moved_length : (is places : List ℕ) → length (moved_to to is places) ≡ length places
  unfolding moved_to
  moved_length [] places = refl
  moved_length (i ∷ is) places = moved_length is (set places i (get_or to i 0)) ∙ length-set places i (get_or to i 0)

  -- an object that is not moved lies where it lay
  moved_off : (j : ℕ) (is places : List ℕ) → Every (λ i. i ≡ j → ⊥) is → get_or (moved_to to is places) j 0 ≡ get_or places j 0
  unfolding moved_to
  moved_off j [] places h = refl
  moved_off j (i ∷ is) places h = moved_off j is (set places i (get_or to i 0)) h.1 ∙ get_or-set_other places i j (get_or to i 0) 0 (λ q. h.0 (sym q))

  -- one at its target stays there
  moved_kept : (j : ℕ) (is places : List ℕ) → j < length places → get_or places j 0 ≡ get_or to j 0 → get_or (moved_to to is places) j 0 ≡ get_or to j 0
  unfolding moved_to
  moved_kept j [] places l h = h
  moved_kept j (i ∷ is) places l h = moved_kept j is (set places i (get_or to i 0)) (omega (arith, length-set places i (get_or to i 0)))
      ((elim (eqb j i) as (λ b. eqb j i ≡ b → get_or (set places i (get_or to i 0)) j 0 ≡ get_or to j 0) [
        | true ↦ λ q. let d : i ≡ j = sym (eqb-true j i q) in rw d (get_or-set_same places j (get_or to j 0) 0 l)
        | false ↦ λ q. get_or-set_other places i j (get_or to i 0) 0 (eqb-false j i q) ∙ h
      ]) refl)

  -- one that is moved comes to its target
  moved_in : (j : ℕ) (is places : List ℕ) → j < length places → Has j is → get_or (moved_to to is places) j 0 ≡ get_or to j 0
  unfolding moved_to
  moved_in j [] places l h = absurd h
  moved_in j (i ∷ is) places l (inl q) = moved_kept j is (set places i (get_or to i 0)) (omega (arith, length-set places i (get_or to i 0)))
      (rw (sym q) (get_or-set_same places j (get_or to j 0) 0 l))
  moved_in j (i ∷ is) places l (inr h) = moved_in j is (set places i (get_or to i 0)) (omega (arith, length-set places i (get_or to i 0))) h

  -- a phase leaves objects of other kinds alone
  phase_off : (kinds : List ℕ) (p : Phase) (j : ℕ) (places : List ℕ) → (get_or kinds j 0 ≡ p.kind → ⊥)
      → get_or (moved_to to (order kinds p) places) j 0 ≡ get_or places j 0
  phase_off kinds p j places h = moved_off j (order kinds p) places
      (order_every kinds p.kind (λ i. i ≡ j → ⊥) p.falling p.count (λ i l k q. h (ap (λ (x : ℕ). get_or kinds x 0) (sym q) ∙ k)) 0
      p.count (omega arith))

-- a phase that is moved whole
whole : (kinds to : List ℕ) (p : Phase) (made : ℕ) (places : List ℕ) → length (order kinds p) ≤ made
    → phase_moved kinds to p made places ≡ moved_to to (order kinds p) places
whole kinds to p made places l = ap (λ (is : List ℕ). moved_to to is places) (take_all made (order kinds p) l)

module _ (kinds starts middles finals : List ℕ) (old n : ℕ) where
  abbrev lifted : List ℕ
  lifted = moved_to middles (order kinds (lifting old)) starts

  abbrev packed : List ℕ
  packed = moved_to middles (order kinds (packing n)) lifted

  abbrev spread : List ℕ
  spread = moved_to finals (order kinds (spreading n)) packed

  -- the places after all moves
  places_end : places_after kinds starts middles finals old n (total_moves kinds old n) ≡ moved_to finals (order kinds (settling n)) spread
  unfolding places_after
  places_end = rw (
    whole kinds middles (lifting old) (total_moves kinds old n) starts (omega arith),
    whole kinds middles (packing n) (total_moves kinds old n - length (order kinds (lifting old))) lifted (omega arith),
    whole kinds finals (spreading n) (total_moves kinds old n - length (order kinds (lifting old)) - length (order kinds (packing n))) packed (omega arith),
    whole kinds finals (settling n)
        (total_moves kinds old n - length (order kinds (lifting old)) - length (order kinds (packing n)) - length (order kinds (spreading n))) spread
        (omega arith),
  )

  abbrev ends : List ℕ
  ends = places_after kinds starts middles finals old n (total_moves kinds old n)

  long : n ≤ length starts → n ≤ length spread
  long h = omega (
    arith,
    moved_length middles (order kinds (lifting old)) starts,
    moved_length middles (order kinds (packing n)) lifted,
    moved_length finals (order kinds (spreading n)) packed,
  )

  -- what stays
  pub stays_there : (j : ℕ) → get_or kinds j 0 ≡ stays → get_or ends j 0 ≡ get_or starts j 0
  stays_there j e =
      rw places_end (phase_off finals kinds (settling n) j spread (λ q. omega arith)
      ∙ phase_off finals kinds (spreading n) j packed (λ q. omega arith)
      ∙ phase_off middles kinds (packing n) j lifted (λ q. omega arith)
      ∙ phase_off middles kinds (lifting old) j starts (λ q. omega arith))

  -- payload objects
  pub payload_there : n ≤ length starts → (j : ℕ) → j < n → get_or kinds j 0 ≡ of_payload → get_or ends j 0 ≡ get_or finals j 0
  payload_there h j l e =
      rw places_end (phase_off finals kinds (settling n) j spread (λ q. omega arith)
      ∙ moved_in finals j (order kinds (spreading n)) packed (omega (arith, long h, moved_length finals (order kinds (spreading n)) packed))
      (order_has kinds of_payload n j e n 0 (omega arith) (omega arith)))

  -- overflow objects
  pub overflow_there : n ≤ length starts → (j : ℕ) → j < n → get_or kinds j 0 ≡ of_overflow → get_or ends j 0 ≡ get_or finals j 0
  overflow_there h j l e =
      rw places_end (moved_in finals j (order kinds (settling n)) spread (omega (arith, long h))
      (order_has kinds of_overflow n j e n 0 (omega arith) (omega arith)))

-- the same places of a kind, the same objects picked
pub picked_same : (kinds : List ℕ) (k : ℕ) (names ps qs lens : List ℕ) (m i : ℕ)
    → ((j : ℕ) → i ≤ j → j < i + m → get_or kinds j 0 ≡ k → get_or ps j 0 ≡ get_or qs j 0)
    → picked kinds k names ps lens i m ≡ picked kinds k names qs lens i m
unfolding picked
picked_same kinds k names ps qs lens zero i h = refl
picked_same kinds k names ps qs lens (suc m) i h =
    rw (picked_same kinds k names ps qs lens m (suc i) (λ j a b. h j (omega arith) (omega arith)))
    ((elim (eqb (get_or kinds i 0) k) as (λ b. eqb (get_or kinds i 0) k ≡ b
    → cond b (record {
      name = get_or names i 0;
      at = get_or ps i 0;
      len = get_or lens i 0;
    } ∷ picked kinds k names qs lens (suc i) m) (picked kinds k names qs lens (suc i) m)
    ≡ cond b (record {
      name = get_or names i 0;
      at = get_or qs i 0;
      len = get_or lens i 0;
    } ∷ picked kinds k names qs lens (suc i) m) (picked kinds k names qs lens (suc i) m)) [
      | true ↦ λ e. rw (h i (omega arith) (omega arith) (eqb-true (get_or kinds i 0) k e))
      | false ↦ λ e. refl
    ]) refl)

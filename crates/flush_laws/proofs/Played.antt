-- The places as a plan of turns is played. The rules move the object of a name, the columns the object of an index; where names differ these
-- are the same, move by move. The places by phases are those of the plan's first turns, since a phase takes as many turns as it has.
use mathlib.Core.Path.{◌≡◌, refl, sym, ap, ◌∙◌}
use mathlib.Core.Logic.{inl, inr}
use mathlib.Core.Bool.{Bool, true, false, cond, not}
use mathlib.Core.List.{List, [], ◌∷◌, ◌++◌}
use Prim.Native.Nat.{ℕ, zero, suc, ◌+◌, ◌-◌, ◌≤◌, ◌<◌}
use native.Mathlib.Nat.{eq-or-lt_of_le}
use native.Mathlib.Omega.{arith}
use borrow.Author.Tests.{leb-true, leb-false, eqb-true, eqb-false, eq-eqb, ne_eqb}
use lib.Dec.{leb, eqb}
use lib.ListN.{length, take, get_or, set, length-set}
use lib.Seq.{get_or-set_same, get_or-set_other}
use Rattle.rules.specs.Classes.{Obj, placed}
use Rattle.rules.specs.Flush.{Act, Move, move, close_unless, or_wait, moved, played}
use Rattle.rules.specs.Columns.{object_at, listed}
use Rattle.rules.specs.History.{Every}
use Rattle.rules.proofs.Facts.{Distinct}
use Rattle.rules.proofs.Runs.{listed_at}
use Rattle.plan.specs.declared.Cut.{Cut}
use Rattle.plan.specs.declared.Phase.{Phase}
use Rattle.plan.specs.declared.Turn.{Turn}
use Rattle.plan.specs.Turns.{lifting, packing, spreading, settling, order, room_after, move_of, cut_turns, phase_turns, plan_turns, moved_to, phase_moved}
use Rattle.plan.specs.Turns.{left_after, places_after}
use Rattle.plan.proofs.Whole.{length_cut}
use Rattle.flush_laws.proofs.Link.{later, acts}

-- the places after these turns
unfoldable pub placed_by : List Turn → List ℕ → List ℕ
placed_by [] places = places
placed_by (t ∷ ts) places = placed_by ts (set places t.index t.to)

-- names at two indices differ
abbrev pub Apart : List ℕ → ℕ → Type 0
Apart names n = (i j : ℕ) → i < n → j < n → (i ≡ j → ⊥) → get_or names i 0 ≡ get_or names j 0 → ⊥

module _ (names lens : List ℕ) where
  apart_from_lem : (places : List ℕ) (i m : ℕ) → Distinct (listed names places lens i m) → (j k : ℕ) → i ≤ j → j < k → k < i + m
      → get_or names k 0 ≡ get_or names j 0 → ⊥
  unfolding listed
  apart_from_lem places i zero d j k a b c = absurd (omega arith)
  apart_from_lem places i (suc m) d j k a b c = elim (eq-or-lt_of_le a) [
    | inl e ↦ λ q. listed_at (λ o. o.name ≡ get_or names i 0 → ⊥) names places lens m (suc i) d.0 k (omega arith) (omega arith) (q ∙ rw e)
    | inr l ↦ apart_from_lem places (suc i) m d.1 j k l b (omega arith)
  ]

  pub distinct_apart : (places : List ℕ) (n : ℕ) → Distinct (listed names places lens 0 n) → Apart names n
  distinct_apart places n d i j a b ne e =
      elim (leb i j) as (λ x. leb i j ≡ x → ⊥) [
        | true ↦ λ q. elim (eq-or-lt_of_le (leb-true i j q)) [
          | inl s ↦ ne s
          | inr l ↦ apart_from_lem places 0 n d i j (omega arith) l (omega arith) (sym e)
        ]
        | false ↦ λ q. apart_from_lem places 0 n d j i (omega arith) (leb-false i j q) (omega arith) e
      ] refl

  module _ (n : ℕ) (apart : Apart names n) where
    -- one move, by name and by index
    moved_object : (places : List ℕ) (j to : ℕ) → j < n → n ≤ length places → (i : ℕ) → i < n
        → cond (eqb (get_or names i 0) (get_or names j 0)) (placed (object_at names places lens i) to) (object_at names places lens i)
        ≡ object_at names (set places j to) lens i
    moved_object places j to below fit i h =
        elim (eqb i j) as (λ b. eqb i j ≡ b
        → cond (eqb (get_or names i 0) (get_or names j 0)) (placed (object_at names places lens i) to) (object_at names places lens i)
        ≡ object_at names (set places j to) lens i) [
          | true ↦ λ e. let q : i ≡ j = eqb-true i j e in rw (q, eq-eqb (get_or names j 0) (get_or names j 0) refl, get_or-set_same places j to 0 (omega arith))
          | false ↦ λ e. rw (
            ne_eqb (get_or names i 0) (get_or names j 0) (apart i j h below (eqb-false i j e)),
            get_or-set_other places j i to 0 (eqb-false i j e),
          )
        ] refl

    moved_listed : (places : List ℕ) (t : Turn) → t.index < n → n ≤ length places → (i m : ℕ) → i + m ≤ n
        → moved (move_of names lens t) (listed names places lens i m) ≡ listed names (set places t.index t.to) lens i m
    unfolding moved listed
    moved_listed places t below fit i zero h = refl
    moved_listed places t below fit i (suc m) h =
        rw (moved_object places t.index t.to below fit i (omega arith), moved_listed places t below fit (suc i) m (omega arith))

    played_close : (b : Bool) (m : Move) (xs : List Act) (k : ℕ) (os : List Obj)
        → played (close_unless b (move m ∷ xs)) (suc k) os ≡ played xs k (moved m os)
    unfolding played
    played_close true m xs k os = refl
    played_close false m xs k os = refl

    played_later : (ts : List Turn) (k : ℕ) (places : List ℕ) → Every (λ t. t.index < n) ts → n ≤ length places
        → played (later names lens ts) k (listed names places lens 0 n) ≡ listed names (placed_by (take k ts) places) lens 0 n
    unfolding later played placed_by
    played_later [] zero places h fit = refl
    played_later [] (suc k) places h fit = refl
    played_later (t ∷ ts) zero places h fit = refl
    played_later (t ∷ ts) (suc k) places h fit =
        played_close (not t.begins) (move_of names lens t) (later names lens ts) k (listed names places lens 0 n)
        ∙ ap (played (later names lens ts) k) (moved_listed places t h.0 fit 0 n (omega arith))
        ∙ played_later ts k (set places t.index t.to) h.1 (omega (arith, length-set places t.index t.to))

    pub played_acts : (ts : List Turn) (k : ℕ) (places : List ℕ) → Every (λ t. t.index < n) ts → n ≤ length places
        → played (or_wait (acts names lens ts)) k (listed names places lens 0 n) ≡ listed names (placed_by (take k ts) places) lens 0 n
    unfolding played placed_by
    played_acts [] zero places h fit = refl
    played_acts [] (suc k) places h fit = refl
    played_acts (t ∷ ts) zero places h fit = refl
    played_acts (t ∷ ts) (suc k) places h fit =
        ap (played (later names lens ts) k) (moved_listed places t h.0 fit 0 n (omega arith))
        ∙ played_later ts k (set places t.index t.to) h.1 (omega (arith, length-set places t.index t.to))

-- the first of two lists of turns takes as many as it has
take_append : (xs ys : List Turn) (m : ℕ) → take m (xs ++ ys) ≡ take m xs ++ take (m - length xs) ys
take_append [] ys zero = refl
take_append [] ys (suc m) = let e : suc m - 0 ≡ suc m = omega arith in rw e
take_append (x ∷ xs) ys zero = let e : 0 - length (x ∷ xs) ≡ 0 = omega arith in rw e
take_append (x ∷ xs) ys (suc m) =
    let e : suc m - length (x ∷ xs) ≡ m - length xs = omega arith in
    rw e (ap (λ (l : List Turn). x ∷ l) (take_append xs ys m))

placed_append : (xs ys : List Turn) (places : List ℕ) → placed_by (xs ++ ys) places ≡ placed_by ys (placed_by xs places)
unfolding placed_by
placed_append [] ys places = refl
placed_append (x ∷ xs) ys places = placed_append xs ys (set places x.index x.to)

module _ (kinds from to lens : List ℕ) (limit : ℕ) where
  placed_cut : (cut : Cut) (room m : ℕ) (is places : List ℕ)
      → placed_by (take m (cut_turns from to lens limit cut room is)) places ≡ moved_to to (take m is) places
  unfolding cut_turns placed_by moved_to
  placed_cut cut room zero is places = refl
  placed_cut cut room (suc m) [] places = refl
  placed_cut cut room (suc m) (i ∷ is) places =
      placed_cut cut (room_after cut limit room (get_or to i 0) (get_or lens i 0)) m is (set places i (get_or to i 0))

  -- a phase, and what comes behind it
  placed_phase : (p : Phase) (rest : List Turn) (m : ℕ) (places : List ℕ)
      → placed_by (take m (phase_turns kinds from to lens limit p ++ rest)) places
      ≡ placed_by (take (left_after kinds p m) rest) (phase_moved kinds to p m places)
  placed_phase p rest m places =
      let ts = phase_turns kinds from to lens limit p in
      ap (λ (l : List Turn). placed_by l places) (take_append ts rest m)
      ∙ placed_append (take m ts) (take (m - length ts) rest) places
      ∙ rw (length_cut from to lens limit p.cut 0 (order kinds p), placed_cut p.cut 0 m (order kinds p) places)

pub placed_plan : (kinds starts middles finals lens : List ℕ) (limit old n made : ℕ)
    → places_after kinds starts middles finals old n made ≡ placed_by (take made (plan_turns kinds starts middles finals lens limit old n)) starts
unfolding plan_turns places_after
placed_plan kinds starts middles finals lens limit old n made =
    let two = left_after kinds (lifting old) made in
    let three = left_after kinds (packing n) two in
    let four = left_after kinds (spreading n) three in
    let a = phase_moved kinds middles (lifting old) made starts in
    let b = phase_moved kinds middles (packing n) two a in
    let c = phase_moved kinds finals (spreading n) three b in
    sym (placed_phase kinds starts middles lens limit (lifting old) _ made starts
    ∙ placed_phase kinds starts middles lens limit (packing n) _ two a
    ∙ placed_phase kinds middles finals lens limit (spreading n) _ three b
    ∙ placed_cut kinds middles finals lens limit (settling n).cut 0 four (order kinds (settling n)) c)

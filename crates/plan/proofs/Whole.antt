-- The plan's turns, phase by phase: a phase has one turn for each of its objects, so a number below that finds its turn in the phase, and
-- one above it in the phases behind. What holds of the turns of every object holds of every turn of the plan.
use mathlib.Core.Path.{◌≡◌, refl, sym, ap, ◌∙◌}
use mathlib.Core.Bool.{Bool}
use mathlib.Core.List.{List, [], ◌∷◌, ◌++◌}
use Prim.Native.Nat.{ℕ, zero, suc, ◌+◌, ◌-◌, ◌≤◌, ◌<◌}
use native.Mathlib.Nat.{zero-add, suc-add}
use native.Mathlib.Omega.{arith}
use lib.ListN.{length, get_or, length-append}
use Rattle.rules.specs.History.{Every}
use Rattle.rules.proofs.Lists.{every_append}
use Rattle.std.specs.Prelude.{Option, IfSome}
use Rattle.plan.specs.declared.Cut.{Cut}
use Rattle.plan.specs.declared.Phase.{Phase}
use Rattle.plan.specs.declared.Turn.{Turn}
use Rattle.plan.specs.Turns.{lifting, packing, spreading, settling, order, begins, room_after, turn_of, cut_turns, phase_turns, plan_turns}
use Rattle.plan.specs.Turns.{nth_turn, turn_at, total_moves}
use Rattle.plan.proofs.Orders.{order_every}

-- turn number m of two lists behind one another is one of the first, or else of the second
nth_front : (xs ys : List Turn) (m : ℕ) → m < length xs → nth_turn (xs ++ ys) m ≡ nth_turn xs m
nth_front [] ys m h = absurd (omega arith)
nth_front (x ∷ xs) ys zero h = refl
nth_front (x ∷ xs) ys (suc m) h = nth_front xs ys m (omega arith)

nth_back : (xs ys : List Turn) (m : ℕ) → nth_turn (xs ++ ys) (length xs + m) ≡ nth_turn ys m
nth_back [] ys m = rw (zero-add m)
nth_back (x ∷ xs) ys m = rw (suc-add (length xs) m) (nth_back xs ys m)

module _ (from to lens : List ℕ) (limit : ℕ) (cut : Cut) where
  pub length_cut : (room : ℕ) (is : List ℕ) → length (cut_turns from to lens limit cut room is) ≡ length is
  unfolding cut_turns
  length_cut room [] = refl
  length_cut room (i ∷ is) = ap suc (length_cut (room_after cut limit room (get_or to i 0) (get_or lens i 0)) is)

module _ (kinds from to lens : List ℕ) (limit : ℕ) (p q : Phase) (same : p ≡ q) (rest : List Turn) (k m : ℕ) (many : k ≡ length (order kinds p)) where
  length_phase : length (phase_turns kinds from to lens limit p) ≡ k
  length_phase = length_cut from to lens limit p.cut 0 (order kinds p) ∙ sym many

  whole : nth_turn (phase_turns kinds from to lens limit p ++ rest) m ≡ nth_turn (phase_turns kinds from to lens limit q ++ rest) m
  whole = ap (λ (x : Phase). nth_turn (phase_turns kinds from to lens limit x ++ rest) m) same

  pub in_phase : m < k → nth_turn (phase_turns kinds from to lens limit p) m ≡ nth_turn (phase_turns kinds from to lens limit q ++ rest) m
  in_phase h = sym (nth_front (phase_turns kinds from to lens limit p) rest m (rw length_phase h)) ∙ whole

  pub past_phase : k ≤ m → nth_turn rest (m - k) ≡ nth_turn (phase_turns kinds from to lens limit q ++ rest) m
  past_phase h =
      let e : length (phase_turns kinds from to lens limit p) + (m - k) ≡ m = omega (arith, length_phase) in
      sym (nth_back (phase_turns kinds from to lens limit p) rest (m - k))
      ∙ ap (nth_turn (phase_turns kinds from to lens limit p ++ rest)) e
      ∙ whole

-- what holds of the turn of every object holds of every turn of a list
each_cut : (P : Turn → Type 0) (from to lens : List ℕ) (limit : ℕ) (cut : Cut) (room : ℕ) (is : List ℕ)
    → Every (λ i. (b : Bool) → P (turn_of from to i b)) is → Every P (cut_turns from to lens limit cut room is)
unfolding cut_turns
each_cut P from to lens limit cut room [] h = tt
each_cut P from to lens limit cut room (i ∷ is) h = (
  h.0 (begins cut room (get_or to i 0) (get_or lens i 0)),
  each_cut P from to lens limit cut (room_after cut limit room (get_or to i 0) (get_or lens i 0)) is h.1,
)

module _ (kinds starts middles finals lens : List ℕ) (limit old n : ℕ) where
  pub length_plan : length (plan_turns kinds starts middles finals lens limit old n) ≡ total_moves kinds old n
  unfolding plan_turns
  length_plan =
      let one = phase_turns kinds starts middles lens limit (lifting old) in
      let two = phase_turns kinds starts middles lens limit (packing n) in
      let three = phase_turns kinds middles finals lens limit (spreading n) in
      let four = phase_turns kinds middles finals lens limit (settling n) in
      omega (
        arith,
        length-append one (two ++ (three ++ four)),
        length-append two (three ++ four),
        length-append three four,
        length_cut starts middles lens limit (lifting old).cut 0 (order kinds (lifting old)),
        length_cut starts middles lens limit (packing n).cut 0 (order kinds (packing n)),
        length_cut middles finals lens limit (spreading n).cut 0 (order kinds (spreading n)),
        length_cut middles finals lens limit (settling n).cut 0 (order kinds (settling n)),
      )

  pub plan_each : (P : Turn → Type 0) → old ≤ n
      → ((i : ℕ) → i < n → (b : Bool) → P (turn_of starts middles i b)) → ((i : ℕ) → i < n → (b : Bool) → P (turn_of middles finals i b))
      → Every P (plan_turns kinds starts middles finals lens limit old n)
  unfolding plan_turns
  plan_each P some_old f g =
      every_append P (phase_turns kinds starts middles lens limit (lifting old)) _ (phase starts middles (lifting old) (λ i h b. f i (omega arith) b))
      (every_append P (phase_turns kinds starts middles lens limit (packing n)) _ (phase starts middles (packing n) f)
      (every_append P (phase_turns kinds middles finals lens limit (spreading n)) _ (phase middles finals (spreading n) g)
      (phase middles finals (settling n) g)))
    where
      phase : (from to : List ℕ) (p : Phase) → ((i : ℕ) → i < p.count → (b : Bool) → P (turn_of from to i b))
          → Every P (phase_turns kinds from to lens limit p)
      phase from to p h =
          each_cut P from to lens limit p.cut 0 (order kinds p)
          (order_every kinds p.kind (λ i. (b : Bool) → P (turn_of from to i b)) p.falling p.count (λ i below e. h i below) 0 p.count
          (omega arith))

-- a turn of a list whose turns are of indices below n
index_of : (n : ℕ) (ts : List Turn) (m : ℕ) → Every (λ t. t.index < n) ts → IfSome (nth_turn ts m) (λ t. t.index < n)
index_of n [] m h = tt
index_of n (t ∷ ts) zero h = h.0
index_of n (t ∷ ts) (suc m) h = index_of n ts m h.1

-- the next turn, if there is one, is of an index below n
pub turn_known : (kinds starts middles finals lens : List ℕ) (limit old n : ℕ) → old ≤ n → (made : ℕ) (r : Option Turn)
    → r ≡ turn_at kinds starts middles finals lens limit old n made
    → (r ≡ turn_at kinds starts middles finals lens limit old n made) × IfSome r (λ t. t.index < n)
turn_known kinds starts middles finals lens limit old n some_old made r e = (
  e,
  rw e (index_of n (plan_turns kinds starts middles finals lens limit old n) made
      (plan_each kinds starts middles finals lens limit old n (λ t. t.index < n) some_old (λ i h b. h) (λ i h b. h))),
)

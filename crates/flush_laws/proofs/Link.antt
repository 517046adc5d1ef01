-- The turns of a plan are the plan of the rules: a turn that begins a run has a wait before it, unless it is the first of all, and a wait
-- ends the plan. Within a phase the mark says what the rules' cut tests, since room is 1 more than what the rules carry.
use mathlib.Core.Path.{◌≡◌, refl, ap, ◌∙◌}
use mathlib.Core.Bool.{Bool, true, false, cond, not}
use mathlib.Core.List.{List, [], ◌∷◌, ◌++◌, reverse}
use Prim.Native.Nat.{ℕ, suc, ◌+◌, ◌-◌, ◌≤◌, ◌<◌}
use native.Mathlib.Omega.{arith}
use borrow.Author.Tests.{le-leb, leb-true, leb-false, lt-ltb, le-ltb}
use lib.Dec.{leb, ltb}
use lib.ListN.{get_or}
use Rattle.rules.specs.Flush.{Act, move, wait, close_unless, one_run, by_volume, by_span, runs, or_wait, moves}
use Rattle.rules.specs.Columns.{Places, of_payload, of_overflow, picked, phases_of, plan_by}
use Rattle.rules.specs.History.{Every}
use Rattle.plan.specs.declared.Cut.{Cut}
use Rattle.plan.specs.declared.Cut.TheVariants.{Whole, Volumes, Spans}
use Rattle.plan.specs.declared.Turn.{Turn}
use Rattle.plan.specs.Turns.{lifting, packing, spreading, settling, order_from, order, level, spent, room_after}
use Rattle.plan.specs.Turns.{move_of, cut_turns, phase_turns, plan_turns}
use Rattle.plan.proofs.Orders.{order_every, falling_order, move_at, moves_at, picked_order, moves_objects, objects_reverse}

-- where the objects lie, as the rules take it
abbrev pub places_of : List ℕ → List ℕ → List ℕ → Places
places_of starts middles finals = record { starts = starts; middles = middles; finals = finals }

-- a move asks for some room, however runs are cut
level_some : (cut : Cut) (to bytes : ℕ) → 0 < level cut to bytes
unfolding level
level_some Whole to bytes = omega arith
level_some Volumes to bytes = omega arith
level_some Spans to bytes = omega arith

module _ (names lens : List ℕ) where
  -- the acts of turns that are not the plan's first: a wait before each that begins a run, and one at the end
  unfoldable pub later : List Turn → List Act
  later [] = wait ∷ []
  later (t ∷ ts) = close_unless (not t.begins) (move (move_of names lens t) ∷ later ts)

  -- the acts of all turns
  abbrev pub acts : List Turn → List Act
  acts [] = []
  acts (t ∷ ts) = move (move_of names lens t) ∷ later ts

  -- the first of these turns, if there is one, begins a run
  abbrev Opens : List Turn → Type 0
  Opens [] = Unit {0}
  Opens (t ∷ ts) = t.begins ≡ true

  close_append : (b : Bool) (x : Act) (xs ys : List Act) → close_unless b (x ∷ (xs ++ ys)) ≡ close_unless b (x ∷ xs) ++ ys
  close_append true x xs ys = refl
  close_append false x xs ys = refl

  later_append : (xs ys : List Turn) → Opens ys → later (xs ++ ys) ≡ later xs ++ acts ys
  unfolding later
  later_append [] [] o = refl
  later_append [] (y ∷ ys) o = rw o
  later_append (x ∷ xs) ys o = rw (later_append xs ys o) (close_append (not x.begins) (move (move_of names lens x)) (later xs) (acts ys))

  acts_append : (xs ys : List Turn) → Opens ys → acts (xs ++ ys) ≡ acts xs ++ acts ys
  acts_append [] ys o = refl
  acts_append (x ∷ xs) ys o = ap (λ (l : List Act). move (move_of names lens x) ∷ l) (later_append xs ys o)

  opens_append : (xs ys : List Turn) → Opens xs → Opens ys → Opens (xs ++ ys)
  opens_append [] ys o k = k
  opens_append (x ∷ xs) ys o k = o

  module _ (from to : List ℕ) (limit : ℕ) where
    opens_cut : (cut : Cut) (is : List ℕ) → Opens (cut_turns from to lens limit cut 0 is)
    unfolding cut_turns
    opens_cut cut [] = tt
    opens_cut cut (i ∷ is) = lt-ltb 0 (level cut (get_or to i 0) (get_or lens i 0)) (level_some cut (get_or to i 0) (get_or lens i 0))

    one_later : (is : List ℕ) → later (cut_turns from to lens limit Whole 1 is) ≡ one_run (moves_at names lens from to is)
    unfolding later cut_turns one_run level spent room_after
    one_later [] = refl
    one_later (i ∷ is) = ap (λ (l : List Act). move (move_at names lens from to i) ∷ l) (one_later is)

    one_acts : (is : List ℕ)
        → acts (cut_turns from to lens limit Whole 0 is) ≡ runs (moves_at names lens from to is) (λ m. one_run (moves_at names lens from to is))
    unfolding cut_turns one_run level spent room_after
    one_acts [] = refl
    one_acts (i ∷ is) = ap (λ (l : List Act). move (move_at names lens from to i) ∷ l) (one_later is)

    -- no object is longer than a run
    abbrev Short : List ℕ → Type 0
    Short is = Every (λ i. get_or lens i 0 ≤ limit) is

    volume_later : (is : List ℕ) (left : ℕ) → Short is
        → later (cut_turns from to lens limit Volumes (suc left) is) ≡ by_volume limit left (moves_at names lens from to is)
    unfolding later cut_turns by_volume level spent room_after
    volume_later [] left h = refl
    volume_later (i ∷ is) left h =
        let len = get_or lens i 0 in
        (elim (leb len left) as (λ b. leb len left ≡ b
        → close_unless (not (ltb (suc left) (suc len)))
        (move (move_at names lens from to i) ∷ later (cut_turns from to lens limit Volumes (cond (ltb (suc left) (suc len)) (suc limit) (suc left) - len) is))
        ≡ close_unless b (move (move_at names lens from to i) ∷ by_volume limit (cond b left limit - len) (moves_at names lens from to is))) [
          | true ↦ λ e.
              let k : len ≤ left = leb-true len left e in
              let q : suc left - len ≡ suc (left - len) = omega arith in
              rw (le-ltb (suc left) (suc len) (omega arith), q, volume_later is (left - len) h.1)
          | false ↦ λ e.
              let k : left < len = leb-false len left e in
              let q : suc limit - len ≡ suc (limit - len) = omega (arith, h.0) in
              rw (lt-ltb (suc left) (suc len) (omega arith), q, volume_later is (limit - len) h.1)
        ]) refl

    volume_acts : (is : List ℕ) → Short is
        → acts (cut_turns from to lens limit Volumes 0 is)
        ≡ runs (moves_at names lens from to is) (λ m. by_volume limit limit (moves_at names lens from to is))
    unfolding cut_turns by_volume level spent room_after
    volume_acts [] h = refl
    volume_acts (i ∷ is) h =
        let len = get_or lens i 0 in
        let q : suc limit - len ≡ suc (limit - len) = omega (arith, h.0) in
        rw (lt-ltb 0 (suc len) (omega arith), le-leb len limit h.0, q, volume_later is (limit - len) h.1)

    span_later : (is : List ℕ) (reach : ℕ)
        → later (cut_turns from to lens limit Spans (suc reach) is) ≡ by_span limit reach (moves_at names lens from to is)
    unfolding later cut_turns by_span level spent room_after
    span_later [] reach = refl
    span_later (i ∷ is) reach =
        let end = get_or to i 0 + get_or lens i 0 in
        (elim (leb end reach) as (λ b. leb end reach ≡ b
        → close_unless (not (ltb (suc reach) (suc end)))
        (move (move_at names lens from to i) ∷ later
        (cut_turns from to lens limit Spans (cond (ltb (suc reach) (suc end)) (suc (get_or to i 0 + limit)) (suc reach) - 0) is))
        ≡ close_unless b (move (move_at names lens from to i) ∷ by_span limit (cond b reach (get_or to i 0 + limit)) (moves_at names lens from to is))) [
          | true ↦ λ e.
              let k : end ≤ reach = leb-true end reach e in
              let q : suc reach - 0 ≡ suc reach = omega arith in
              rw (le-ltb (suc reach) (suc end) (omega arith), q, span_later is reach)
          | false ↦ λ e.
              let k : reach < end = leb-false end reach e in
              let q : suc (get_or to i 0 + limit) - 0 ≡ suc (get_or to i 0 + limit) = omega arith in
              rw (lt-ltb (suc reach) (suc end) (omega arith), q, span_later is (get_or to i 0 + limit))
        ]) refl

    span_acts : (is : List ℕ) → Short is
        → acts (cut_turns from to lens limit Spans 0 is)
        ≡ runs (moves_at names lens from to is) (λ m. by_span limit (m.to + limit) (moves_at names lens from to is))
    unfolding cut_turns by_span level spent room_after
    span_acts [] h = refl
    span_acts (i ∷ is) h =
        let end = get_or to i 0 + get_or lens i 0 in
        let q : suc (get_or to i 0 + limit) - 0 ≡ suc (get_or to i 0 + limit) = omega arith in
        rw (lt-ltb 0 (suc end) (omega arith), le-leb end (get_or to i 0 + limit) (omega (arith, h.0)), q, span_later is (get_or to i 0 + limit))

  module _ (kinds starts middles finals : List ℕ) (limit old n : ℕ) where
    -- the moves of the objects of a kind, in rising and in falling order
    rising_moves : (kind count : ℕ) (from to : List ℕ)
        → moves (picked kinds kind names from lens 0 count) (picked kinds kind names to lens 0 count)
        ≡ moves_at names lens from to (order_from kinds kind false count 0 count)
    rising_moves kind count from to =
        rw (picked_order names lens kinds kind from count 0 count, picked_order names lens kinds kind to count 0 count)
        (moves_objects names lens from to (order_from kinds kind false count 0 count))

    falling_moves : (kind count : ℕ) (from to : List ℕ)
        → moves (reverse (picked kinds kind names from lens 0 count)) (reverse (picked kinds kind names to lens 0 count))
        ≡ moves_at names lens from to (order_from kinds kind true count 0 count)
    falling_moves kind count from to =
        let is = order_from kinds kind false count 0 count in
        rw (
          picked_order names lens kinds kind from count 0 count,
          picked_order names lens kinds kind to count 0 count,
          objects_reverse names lens from is,
          objects_reverse names lens to is,
          falling_order kinds kind count,
        )
        (moves_objects names lens from to (reverse is))

    -- THE LINK: the acts of the turns are the plan
    pub plan_acts : ((i : ℕ) → i < n → get_or kinds i 0 ≡ of_payload → get_or lens i 0 ≤ limit)
        → plan_by limit (phases_of kinds names (places_of starts middles finals) lens old n)
        ≡ or_wait (acts (plan_turns kinds starts middles finals lens limit old n))
    unfolding plan_by plan_turns
    plan_acts short =
        let one = phase_turns kinds starts middles lens limit (lifting old) in
        let two = phase_turns kinds starts middles lens limit (packing n) in
        let three = phase_turns kinds middles finals lens limit (spreading n) in
        let four = phase_turns kinds middles finals lens limit (settling n) in
        let opens4 = opens_cut middles finals limit Whole (order kinds (settling n)) in
        let opens3 = opens_append three four (opens_cut middles finals limit Spans (order kinds (spreading n))) opens4 in
        let opens2 = opens_append two (three ++ four) (opens_cut starts middles limit Volumes (order kinds (packing n))) opens3 in
        let down = order_every kinds of_payload (λ i. get_or lens i 0 ≤ limit) true n short 0 n (omega arith) in
        let up = order_every kinds of_payload (λ i. get_or lens i 0 ≤ limit) false n short 0 n (omega arith) in
        let all : acts (one ++ (two ++ (three ++ four))) ≡ acts one ++ (acts two ++ (acts three ++ acts four)) =
        acts_append one (two ++ (three ++ four)) opens2 ∙ rw (acts_append two (three ++ four) opens3, acts_append three four opens4) in
        rw (
          rising_moves of_overflow old starts middles,
          falling_moves of_payload n starts middles,
          rising_moves of_payload n middles finals,
          rising_moves of_overflow n middles finals,
          all,
          one_acts starts middles limit (order kinds (lifting old)),
          volume_acts starts middles limit (order kinds (packing n)) down,
          span_acts middles finals limit (order kinds (spreading n)) up,
          one_acts middles finals limit (order kinds (settling n)),
        )

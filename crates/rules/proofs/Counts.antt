-- The shape of a plan: runs, each of one or more moves and then its wait, or a single wait. A cut closes a run only before a move, and the first
-- move of a phase always fits its run, since no object is longer than D; so no run is empty.
use mathlib.Core.Path.{◌≡◌, refl, sym, ap, ◌∙◌}
use mathlib.Core.Logic.{◌⊎◌, inl, inr}
use mathlib.Core.Bool.{Bool, true, false, cond, ◌&&◌}
use mathlib.Core.List.{List, [], ◌∷◌, ◌++◌, reverse}
use Prim.Native.Nat.{ℕ, zero, suc, ◌+◌, ◌-◌, ◌≤◌}
use native.Mathlib.Omega.{arith}
use lib.Dec.{leb}
use borrow.Author.Tests.{le-leb}
use Rattle.rules.specs.Classes.{Obj}
use Rattle.rules.specs.Flush.{Start, live, longest_of, limit, overflow_start, in_flush, in_payload, payloads, packed, finals, Move, Act, move, wait, moves}
use Rattle.rules.specs.Flush.{lifting, packing, spreading, settling, close_unless, one_run, by_volume, by_span, runs, or_wait, plan, ahead}
use Rattle.rules.proofs.Lists.{All, all_map, all_left, filter_all}
use Rattle.rules.proofs.Longest.{longest_least}
use Rattle.rules.proofs.Names.{all_reverse, kinds_turned, all_kinds}
use Rattle.rules.proofs.Plays.{moves_of}

-- runs, each of one or more moves and then its wait; true: of the first one a move is behind already
abbrev pub RunsFrom : Bool → List Act → Type 0
RunsFrom true [] = ⊥
RunsFrom false [] = Unit {0}
RunsFrom true (move m ∷ acts) = RunsFrom true acts
RunsFrom false (move m ∷ acts) = RunsFrom true acts
RunsFrom true (wait ∷ acts) = RunsFrom false acts
RunsFrom false (wait ∷ acts) = ⊥

-- whole runs
abbrev pub Runs : List Act → Type 0
Runs acts = RunsFrom false acts

-- the rest of a run, and whole runs behind it
abbrev pub Within : List Act → Type 0
Within acts = RunsFrom true acts

-- runs, at least one, or the single wait
abbrev pub Planned : List Act → Type 0
Planned [] = ⊥
Planned (move m ∷ acts) = Within acts
Planned (wait ∷ acts) = acts ≡ []

runs_append : (b : Bool) (xs ys : List Act) → RunsFrom b xs → Runs ys → RunsFrom b (xs ++ ys)
runs_append true [] ys h k = absurd h
runs_append false [] ys h k = k
runs_append true (move m ∷ xs) ys h k = runs_append true xs ys h k
runs_append false (move m ∷ xs) ys h k = runs_append true xs ys h k
runs_append true (wait ∷ xs) ys h k = runs_append false xs ys h k
runs_append false (wait ∷ xs) ys h k = absurd h

-- the cuts, within a run
within_one : (ms : List Move) → Within (one_run ms)
unfolding one_run
within_one [] = tt
within_one (m ∷ ms) = within_one ms

within_unless : (b : Bool) (m : Move) (acts : List Act) → Within acts → Within (close_unless b (move m ∷ acts))
within_unless true m acts h = h
within_unless false m acts h = h

within_volume : (most left : ℕ) (ms : List Move) → Within (by_volume most left ms)
unfolding by_volume
within_volume most left [] = tt
within_volume most left (m ∷ ms) =
    let on = leb m.object.len left in
    within_unless on m (by_volume most (cond on left most - m.object.len) ms) (within_volume most (cond on left most - m.object.len) ms)

within_span : (most reach : ℕ) (ms : List Move) → Within (by_span most reach ms)
unfolding by_span
within_span most reach [] = tt
within_span most reach (m ∷ ms) =
    let on = leb (m.to + m.object.len) reach in
    within_unless on m (by_span most (cond on reach (m.to + most)) ms) (within_span most (cond on reach (m.to + most)) ms)

-- the phases, whole
runs_one : (ms : List Move) → Runs (runs ms (λ m. one_run ms))
unfolding one_run
runs_one [] = tt
runs_one (m ∷ ms) = within_one ms

runs_volume : (most : ℕ) (xs ys : List Obj) → All (λ o. o.len ≤ most) xs → Runs (runs (moves xs ys) (λ m. by_volume most most (moves xs ys)))
unfolding moves by_volume
runs_volume most [] ys h = tt
runs_volume most (x ∷ xs) [] h = tt
runs_volume most (x ∷ xs) (y ∷ ys) h = rw (le-leb x.len most h.0) (within_volume most (most - x.len) (moves xs ys))

runs_span : (most : ℕ) (xs ys : List Obj) → All (λ o. o.len ≤ most) xs → Runs (runs (moves xs ys) (λ m. by_span most (m.to + most) (moves xs ys)))
unfolding moves by_span
runs_span most [] ys h = tt
runs_span most (x ∷ xs) [] h = tt
runs_span most (x ∷ xs) (y ∷ ys) h = rw (le-leb (y.at + x.len) (y.at + most) (omega (arith, h.0))) (within_span most (y.at + most) (moves xs ys))

-- the rest of a run, from its start
pub planned_within : (acts : List Act) → Planned acts → Within acts
planned_within [] h = absurd h
planned_within (move m ∷ acts) h = h
planned_within (wait ∷ acts) h = rw h tt

planned : (acts : List Act) → Runs acts → Planned (or_wait acts)
planned [] h = refl
planned (move m ∷ acts) h = h
planned (wait ∷ acts) h = absurd h

-- the runs of the four phases
abbrev lifts : ℕ → Start → List Act
lifts q s = runs (lifting q s) (λ m. one_run (lifting q s))

abbrev packs : ℕ → Start → List Act
packs q s = runs (packing q s) (λ m. by_volume (limit q s) (limit q s) (packing q s))

abbrev spreads : ℕ → Start → List Act
spreads q s = runs (spreading q s) (λ m. by_span (limit q s) (m.to + limit q s) (spreading q s))

abbrev settles : ℕ → Start → List Act
settles q s = runs (settling q s) (λ m. one_run (settling q s))

-- a run can take any object of a payload
pub short_payloads : (q : ℕ) (s : Start) → All (λ o. o.len ≤ limit q s) (payloads q s)
unfolding payloads
short_payloads q s =
    all_map (λ o h. omega (arith, h.0)) (payloads q s)
    (filter_all (λ o. o.len ≤ longest_of s) (λ o. in_flush q s o && in_payload q s.regions o) s.old
    (all_left (λ o. o.len ≤ longest_of s) s.old s.new (longest_least (live s))))

-- every plan has that shape
pub plan_shape : (q : ℕ) (s : Start) → Planned (plan q s)
unfolding plan
plan_shape q s =
    let back = reverse (payloads q s) in
    let tight = packed (overflow_start q s) back in
    let short = short_payloads q s in
    planned (lifts q s ++ (packs q s ++ (spreads q s ++ settles q s)))
    (runs_append false (lifts q s) (packs q s ++ (spreads q s ++ settles q s)) (runs_one (lifting q s))
    (runs_append false (packs q s) (spreads q s ++ settles q s)
    (runs_volume (limit q s) back tight (all_reverse (λ o. o.len ≤ limit q s) (payloads q s) [] short tt))
    (runs_append false (spreads q s) (settles q s)
    (runs_span (limit q s) (reverse tight) (finals q s [] (payloads q s))
    (all_kinds (λ n l. l ≤ limit q s) (payloads q s) (reverse tight) (sym (kinds_turned (overflow_start q s) (payloads q s))) short))
    (runs_one (settling q s)))))

-- so no two waits follow one another
pub waits_apart : (xs ys : List Act) → Planned (xs ++ (wait ∷ wait ∷ ys)) → ⊥
waits_apart xs ys h = go true xs (planned_within (xs ++ (wait ∷ wait ∷ ys)) h)
  where
    go : (b : Bool) (zs : List Act) → RunsFrom b (zs ++ (wait ∷ wait ∷ ys)) → ⊥
    go true [] h = h
    go false [] h = h
    go true (move m ∷ zs) h = go true zs h
    go false (move m ∷ zs) h = go true zs h
    go true (wait ∷ zs) h = go false zs h
    go false (wait ∷ zs) h = h

-- and the last act is a wait
pub ends_in_wait : (acts : List Act) → Planned acts → (xs : List Act) × (acts ≡ xs ++ (wait ∷ []))
ends_in_wait [] h = elim h [ ]
ends_in_wait (wait ∷ acts) h = ([], ap (λ xs. wait ∷ xs) h)
ends_in_wait (move m ∷ acts) h = let r = within acts h in (move m ∷ r.0, ap (λ xs. move m ∷ xs) r.1)
  where
    within : (zs : List Act) → Within zs → (xs : List Act) × (zs ≡ xs ++ (wait ∷ []))
    within (wait ∷ (wait ∷ zs)) h = elim h [ ]
    within [] h = elim h [ ]
    within (move m ∷ zs) h = let r = within zs h in (move m ∷ r.0, ap (λ xs. move m ∷ xs) r.1)
    within (wait ∷ []) h = ([], refl)
    within (wait ∷ move m ∷ zs) h = let r = within zs h in (wait ∷ move m ∷ r.0, ap (λ xs. wait ∷ move m ∷ xs) r.1)

-- after a move, what is ahead is the rest of a run, or nothing
later_within : (b : Bool) (acts : List Act) (n : ℕ) → RunsFrom b acts → (ahead acts (suc n) ≡ []) ⊎ Within (ahead acts (suc n))
unfolding ahead
later_within b [] n h = inl refl
later_within true (wait ∷ acts) n h = later_within false acts n h
later_within false (wait ∷ acts) n h = absurd h
later_within true (move m ∷ acts) zero h = inr h
later_within false (move m ∷ acts) zero h = inr h
later_within true (move m ∷ acts) (suc n) h = later_within true acts n h
later_within false (move m ∷ acts) (suc n) h = later_within true acts n h

-- what is ahead in a plan is the rest of a run, or nothing
pub ahead_within : (acts : List Act) (n : ℕ) → Planned acts → (ahead acts n ≡ []) ⊎ Within (ahead acts n)
unfolding ahead
ahead_within acts zero h = inr (planned_within acts h)
ahead_within acts (suc n) h = later_within true acts n (planned_within acts h)

-- a cut leaves out no move
of_append : (xs ys : List Act) → moves_of (xs ++ ys) ≡ moves_of xs ++ moves_of ys
unfolding moves_of
of_append [] ys = refl
of_append (wait ∷ xs) ys = of_append xs ys
of_append (move m ∷ xs) ys = ap (λ ms. m ∷ ms) (of_append xs ys)

of_one : (ms : List Move) → moves_of (one_run ms) ≡ ms
unfolding moves_of one_run
of_one [] = refl
of_one (m ∷ ms) = ap (λ xs. m ∷ xs) (of_one ms)

of_unless : (b : Bool) (acts : List Act) → moves_of (close_unless b acts) ≡ moves_of acts
unfolding moves_of
of_unless true acts = refl
of_unless false acts = refl

of_volume : (most left : ℕ) (ms : List Move) → moves_of (by_volume most left ms) ≡ ms
unfolding moves_of by_volume
of_volume most left [] = refl
of_volume most left (m ∷ ms) =
    let on = leb m.object.len left in
    let next = cond on left most - m.object.len in
    of_unless on (move m ∷ by_volume most next ms) ∙ ap (λ xs. m ∷ xs) (of_volume most next ms)

of_span : (most reach : ℕ) (ms : List Move) → moves_of (by_span most reach ms) ≡ ms
unfolding moves_of by_span
of_span most reach [] = refl
of_span most reach (m ∷ ms) =
    let on = leb (m.to + m.object.len) reach in
    let next = cond on reach (m.to + most) in
    of_unless on (move m ∷ by_span most next ms) ∙ ap (λ xs. m ∷ xs) (of_span most next ms)

of_runs : (ms : List Move) (cut : Move → List Act) → ((m : Move) → moves_of (cut m) ≡ ms) → moves_of (runs ms cut) ≡ ms
unfolding moves_of
of_runs [] cut h = refl
of_runs (m ∷ ms) cut h = h m

of_or_wait : (acts : List Act) → moves_of (or_wait acts) ≡ moves_of acts
unfolding moves_of
of_or_wait [] = refl
of_or_wait (a ∷ acts) = refl

-- the moves of a plan are those of its phases
pub plan_moves : (q : ℕ) (s : Start) → moves_of (plan q s) ≡ lifting q s ++ (packing q s ++ (spreading q s ++ settling q s))
unfolding plan
plan_moves q s =
    let one = of_runs (lifting q s) (λ m. one_run (lifting q s)) (λ m. of_one (lifting q s)) in
    let two = of_runs (packing q s) (λ m. by_volume (limit q s) (limit q s) (packing q s)) (λ m. of_volume (limit q s) (limit q s) (packing q s)) in
    let three = of_runs (spreading q s) (λ m. by_span (limit q s) (m.to + limit q s) (spreading q s))
    (λ m. of_span (limit q s) (m.to + limit q s) (spreading q s)) in
    let four = of_runs (settling q s) (λ m. one_run (settling q s)) (λ m. of_one (settling q s)) in
    of_or_wait (lifts q s ++ (packs q s ++ (spreads q s ++ settles q s)))
    ∙ rw (
      of_append (lifts q s) (packs q s ++ (spreads q s ++ settles q s)),
      of_append (packs q s) (spreads q s ++ settles q s),
      of_append (spreads q s) (settles q s),
      one,
      two,
      three,
      four,
    )

-- How long a plan is. No phase has more moves than there are objects, and no two waits follow one another; so the turns to rest are bounded by the
-- house numbers.
use mathlib.Core.Path.{◌≡◌, refl, sym, ap, ◌∙◌}
use mathlib.Core.Logic.{◌⊎◌, inl, inr}
use mathlib.Core.Bool.{Bool, true, false, cond, not, ◌&&◌}
use mathlib.Core.List.{List, [], ◌∷◌, ◌++◌, reverse}
use Prim.Native.Nat.{ℕ, suc, ◌+◌, ◌*◌, ◌≤◌}
use native.Mathlib.Omega.{arith}
use lib.ListN.{length, length-append, length-reverse}
use Rattle.rules.specs.House.{share}
use Rattle.rules.specs.Classes.{Obj}
use Rattle.rules.specs.Flush.{Start, live, overflow_start, in_flush, in_payload, payloads, buffered, overflow, stacked, packed, finals, Act, move, wait}
use Rattle.rules.specs.Flush.{moves, lifting, packing, spreading, settling, plan}
use Rattle.rules.specs.Stores.{Store, Stage, resting, flushing, start_in, ahead_of, held_at, held_by}
use Rattle.rules.specs.Sound.{sound}
use Rattle.rules.specs.Sums.{waits_in}
use Rattle.rules.proofs.Insertion.{filter_length}
use Rattle.rules.proofs.Names.{kinds, kinds_length, kinds_packed, kinds_stacked}
use Rattle.rules.proofs.Facts.{limits_facts}
use Rattle.rules.proofs.Starts.{sound_parts}
use Rattle.rules.proofs.Plays.{moves_left, moves_of, moves_ahead}
use Rattle.rules.proofs.Counts.{RunsFrom, Within, plan_moves, plan_shape, ahead_within}
use Rattle.rules.proofs.Steps.{todo, todo_at}
use Rattle.to_rest.specs.Runs.{fuel}

counted : (acts : List Act) → moves_left acts ≡ length (moves_of acts)
unfolding moves_left moves_of
counted [] = refl
counted (wait ∷ acts) = counted acts
counted (move m ∷ acts) = ap suc (counted acts)

moves_few : (xs ys : List Obj) → length (moves xs ys) ≤ length xs
unfolding moves
moves_few [] ys = omega arith
moves_few (x ∷ xs) [] = omega arith
moves_few (x ∷ xs) (y ∷ ys) = omega (arith, moves_few xs ys)

-- lists of the same names and lengths have as many objects
as_many : (xs ys : List Obj) → kinds xs ≡ kinds ys → length xs ≡ length ys
as_many xs ys e = sym (kinds_length xs) ∙ ap length e ∙ kinds_length ys

-- the four phases
module _ (q : ℕ) (s : Start) where
  few_buffered : length (buffered q s) ≤ length s.old
  unfolding buffered
  few_buffered = filter_length (λ o. in_flush q s o && not (in_payload q s.regions o)) s.old

  few_payloads : length (payloads q s) ≤ length s.old
  unfolding payloads
  few_payloads = filter_length (λ o. in_flush q s o && in_payload q s.regions o) s.old

  few_lifted : length (lifting q s) ≤ length s.old
  few_lifted = omega (arith, moves_few (buffered q s) (stacked (overflow_start q s) (buffered q s)), few_buffered)

  few_packed : length (packing q s) ≤ length s.old
  few_packed =
      let back = reverse (payloads q s) in
      omega (arith, moves_few back (packed (overflow_start q s) back), length-reverse (payloads q s), few_payloads)

  few_spread : length (spreading q s) ≤ length s.old
  few_spread =
      let back = reverse (payloads q s) in
      let tight = packed (overflow_start q s) back in
      omega (
        arith,
        moves_few (reverse tight) (finals q s [] (payloads q s)),
        length-reverse tight,
        as_many tight back (kinds_packed (overflow_start q s) back),
        length-reverse (payloads q s),
        few_payloads,
      )

  few_settled : length (settling q s) ≤ length (live s)
  few_settled =
      let at = overflow_start q s in
      omega (
        arith,
        moves_few (stacked at (overflow q s)) (finals q s (payloads q s) (overflow q s)),
        as_many (stacked at (overflow q s)) (overflow q s) (kinds_stacked at (overflow q s)),
        length-append (buffered q s) s.new,
        length-append s.old s.new,
        few_buffered,
      )

  -- a plan has at most four moves for each object
  pub plan_few : moves_left (plan q s) ≤ 4 * length (live s)
  plan_few =
      let rest = spreading q s ++ settling q s in
      omega (
        arith,
        counted (plan q s),
        ap length (plan_moves q s),
        length-append (lifting q s) (packing q s ++ rest),
        length-append (packing q s) rest,
        length-append (spreading q s) (settling q s),
        few_lifted,
        few_packed,
        few_spread,
        few_settled,
        length-append s.old s.new,
      )

-- a wait comes after a move, but for the end of a run that began before
waits_few : (b : Bool) (acts : List Act) → RunsFrom b acts → waits_in acts ≤ moves_left acts + cond b 1 0
unfolding moves_left waits_in
waits_few true [] h = absurd h
waits_few false [] h = omega arith
waits_few true (move m ∷ acts) h = omega (arith, waits_few true acts h)
waits_few false (move m ∷ acts) h = omega (arith, waits_few true acts h)
waits_few true (wait ∷ acts) h = omega (arith, waits_few false acts h)
waits_few false (wait ∷ acts) h = absurd h

-- a wait that is behind is none to do
todo_less : (acts : List Act) (due : Bool) → (moves_left (todo acts due) ≡ moves_left acts) × (waits_in (todo acts due) ≤ waits_in acts)
unfolding moves_left waits_in
todo_less acts true = (refl, omega arith)
todo_less [] false = (refl, omega arith)
todo_less (move m ∷ acts) false = (refl, omega arith)
todo_less (wait ∷ acts) false = (refl, omega arith)

ahead_few : (acts : List Act) → (acts ≡ []) ⊎ Within acts → waits_in acts ≤ suc (moves_left acts)
unfolding waits_in
ahead_few acts (inl e) = omega (arith, ap waits_in e)
ahead_few acts (inr w) = omega (arith, waits_few true acts w)

todo_few : (q : ℕ) (s : Store) (g : Stage) → moves_left (todo_at q s g) + waits_in (todo_at q s g) ≤ suc (2 * (4 * length (held_at s g)))
unfolding moves_left waits_in
todo_few q s resting = omega arith
todo_few q s (flushing f) =
    let start = start_in s f in
    let acts = ahead_of q s f in
    let less = todo_less acts f.due in
    omega (
      arith,
      less.0,
      less.1,
      ahead_few acts (ahead_within (plan q start) f.made (plan_shape q start)),
      moves_ahead (plan q start) f.made,
      plan_few q start,
    )

-- THE TURNS TO REST of a sound store are no more than the house numbers give
pub fuel_enough : (s : Store) → sound share s ≡ true → moves_left (todo_at share s s.stage) + waits_in (todo_at share s s.stage) ≤ fuel
fuel_enough s holds =
    omega (
      arith,
      todo_few share s s.stage,
      (limits_facts share s.area (held_by s) (sound_parts share s s.stage refl holds).0).few,
    )

-- Step and confirm against the plan. Of what is ahead of the moves made, a wait that is not due is behind; what is left of it is yet to be done. A step takes
-- its first move, a due confirmation its first wait, and due afterwards says whether a wait is next: so the two go through the plan act by act.
use mathlib.Core.Path.{◌≡◌, refl, ap, ◌∙◌}
use mathlib.Core.Logic.{◌⊎◌, inl, inr}
use mathlib.Core.Bool.{Bool, true, false, ◌&&◌}
use mathlib.Core.List.{List, [], ◌∷◌}
use Prim.Native.Nat.{ℕ, suc, ◌<◌}
use native.Mathlib.Omega.{arith}
use lib.ListN.{take, drop}
use lib.Dec.{eqb}
use Rattle.rules.specs.Boundary.{boundary_of}
use Rattle.rules.specs.Flush.{Move, Act, move, wait, moved, plan, ahead, at_wait}
use Rattle.rules.specs.Stores.{Store, Stage, resting, flushing, Flush, Request, request_class, at_stage, start_by, start_in, begun, ahead_of}
use Rattle.rules.specs.Stores.{advanced, waited, places_now, settled_store}
use Rattle.rules.specs.Sound.{start_holds, due_fits, stage_holds, sound}
use Rattle.rules.specs.Calls.{storing_at, next_move, step_in, confirm_in}
use Rattle.rules.specs.declared.Answer.TheVariants.{Running}
use Rattle.rules.proofs.Lists.{clash, and_true}
use Rattle.rules.proofs.Starts.{sound_parts}
use Rattle.rules.proofs.Plays.{moves_left, moves_ahead, made_most, Next, next_ahead, next_played}
use Rattle.rules.proofs.Counts.{Runs, Within, Planned, planned_within, plan_shape, ahead_within}

-- what is yet to be done, of what is ahead: a wait that is not due is behind
abbrev pub todo : List Act → Bool → List Act
todo acts true = acts
todo [] false = []
todo (move m ∷ acts) false = move m ∷ acts
todo (wait ∷ acts) false = acts

-- a flush on course: what is due fits the moves made
pub record OnCourse (q : ℕ) (s : Store) (f : Flush) : Type 0 where
  pub fits : due_fits (ahead_of q s f) f.due ≡ true

-- what is yet to be done, by stage
abbrev pub todo_at : ℕ → Store → Stage → List Act
todo_at q s resting = []
todo_at q s (flushing f) = todo (ahead_of q s f) f.due

-- at rest, or in a flush on course
abbrev pub OnCourseAt : ℕ → Store → Stage → Type 0
OnCourseAt q s resting = Unit {0}
OnCourseAt q s (flushing f) = OnCourse q s f

-- within a run, at its end or not
fits_within : (acts : List Act) (n : ℕ) (due : Bool) → Planned acts → due_fits (ahead acts n) due ≡ true → Within (ahead acts n)
fits_within acts n due h e = elim (ahead_within acts n h) [
  | inl z ↦ absurd (clash e (rw z))
  | inr w ↦ w
]

within_fits : (acts : List Act) → Within acts → due_fits acts (at_wait acts) ≡ true
within_fits [] w = absurd w
within_fits (move m ∷ acts) w = refl
within_fits (wait ∷ []) w = refl
within_fits (wait ∷ a ∷ acts) w = refl

-- after a move the whole rest is yet to be done
pub todo_now : (acts : List Act) → todo acts (at_wait acts) ≡ acts
todo_now [] = refl
todo_now (move m ∷ acts) = refl
todo_now (wait ∷ acts) = refl

-- the next move, where nothing is due
record Found (acts : List Act) : Type 0 where
  pub next : Move
  pub rest : List Act
  pub first : Next acts next rest
  pub single : next_move acts ≡ next ∷ []
  pub left : todo acts false ≡ move next ∷ rest
  pub within : Within rest

found : (acts : List Act) → Within acts → due_fits acts false ≡ true → Found acts
found [] w e = absurd w
found (move m ∷ acts) w e = record { next = m; rest = acts; first = inl refl; single = refl; left = refl; within = w }
found (wait ∷ []) w e = absurd (clash e refl)
found (wait ∷ wait ∷ acts) w e = absurd w
found (wait ∷ move m ∷ acts) w e = record { next = m; rest = acts; first = inr refl; single = refl; left = refl; within = w }

-- the wait, where one is due
at_wait_lem : (acts : List Act) → Within acts → due_fits acts true ≡ true → (rest : List Act) × (acts ≡ wait ∷ rest) × Runs rest
at_wait_lem [] w e = absurd w
at_wait_lem (move m ∷ acts) w e = absurd (clash e refl)
at_wait_lem (wait ∷ acts) w e = (acts, refl, w)

-- what a step comes to: it writes the bytes of the next move of the plan, the objects lie as that move leaves them, and the rest is yet to be done
pub record Stepped (q : ℕ) (s : Store) (f : Flush) : Type 0 where
  pub next : Move
  pub rest : List Act
  pub first : Next (ahead_of q s f) next rest
  pub taken : todo (ahead_of q s f) f.due ≡ move next ∷ rest
  pub outcome : (area : List ℕ) → step_in q s area (flushing f)
      ≡ storing_at (at_stage s (flushing (advanced q s f))) Running next.to (take next.object.len (drop next.object.at area))
  pub places : places_now q s (advanced q s f) ≡ moved next (places_now q s f)
  pub left : todo (ahead_of q s (advanced q s f)) (advanced q s f).due ≡ rest
  pub on : OnCourse q (at_stage s (flushing (advanced q s f))) (advanced q s f)

-- what a confirmation that is due comes to: it closes the wait that is ahead; where every move is made, and only there, it ends the flush
pub record Closed (q : ℕ) (s : Store) (f : Flush) : Type 0 where
  pub rest : List Act
  pub first : ahead_of q s f ≡ wait ∷ rest
  pub outcome : ((f.made ≡ moves_left (plan q (start_in s f))) × (rest ≡ []) × (confirm_in q s (flushing f) ≡ settled_store q s f))
      ⊎ ((f.made < moves_left (plan q (start_in s f))) × (confirm_in q s (flushing f) ≡ at_stage s (flushing (waited f)))
      × OnCourse q (at_stage s (flushing (waited f))) (waited f))

-- a confirmation that is not due changes nothing
pub confirm_early : (q : ℕ) (s : Store) (f : Flush) → f.due ≡ false → confirm_in q s (flushing f) ≡ s
confirm_early q s f e = rw e

module _ (q : ℕ) (s : Store) (f : Flush) (c : OnCourse q s f) where
  shape : Planned (plan q (start_in s f))
  shape = plan_shape q (start_in s f)

  here : Within (ahead_of q s f)
  here = fits_within (plan q (start_in s f)) f.made f.due shape c.fits

  -- where nothing is due, a step makes the next move
  pub step_law : f.due ≡ false → Stepped q s f
  step_law e =
      let g = found (ahead_of q s f) here (rw e at c.fits) in
      let a = next_ahead (plan q (start_in s f)) f.made g.next g.rest g.first in
      record {
        next = g.next;
        rest = g.rest;
        first = g.first;
        taken = ap (todo (ahead_of q s f)) e ∙ g.left;
        outcome = λ area. rw g.single;
        places = next_played (plan q (start_in s f)) f.made g.next g.rest g.first _;
        left = rw a (todo_now g.rest);
        on = record { fits = rw a (within_fits g.rest g.within) };
      }

  -- a confirmation that is due closes the wait that is ahead
  pub confirm_law : f.due ≡ true → Closed q s f
  unfolding moves_left
  confirm_law e = let w = at_wait_lem (ahead_of q s f) here (rw e at c.fits) in closes w.0 w.1 w.2
    where
      closes : (rest : List Act) → ahead_of q s f ≡ wait ∷ rest → Runs rest → Closed q s f
      closes [] a r =
          let l = made_most (plan q (start_in s f)) f.made wait [] a in
          let n : moves_left (ahead_of q s f) ≡ 0 = ap moves_left a in
          record { rest = []; first = a; outcome = inl (omega (arith, moves_ahead (plan q (start_in s f)) f.made), refl, rw (e, a)) }
      closes (wait ∷ acts) a r = absurd r
      closes (move m ∷ acts) a r =
          let n : moves_left (ahead_of q s f) ≡ suc (moves_left acts) = ap moves_left a in
          record {
            rest = move m ∷ acts;
            first = a;
            outcome = inr (omega (arith, moves_ahead (plan q (start_in s f)) f.made), rw (e, a), record { fits = rw a });
          }

-- a sound store is at rest, or in a flush on course
pub sound_on : (q : ℕ) (s : Store) → sound q s ≡ true → OnCourseAt q s s.stage
unfolding stage_holds
sound_on q s e = go s.stage (sound_parts q s s.stage refl e).1
  where
    go : (g : Stage) → stage_holds q s g ≡ true → OnCourseAt q s g
    go resting h = tt
    go (flushing f) h =
        let start = start_holds q s f f.request in
        let fit = due_fits (ahead_of q s f) f.due in
        let boundary = eqb f.boundary (boundary_of s.regions.useds s.regions.lowests (request_class f.request)) in
        record { fits = (and_true start fit (and_true boundary (start && fit) h).1).1 }

-- a flush that begins is on course
pub begun_on : (q : ℕ) (s : Store) (r : Request) (b : ℕ) → OnCourseAt q (begun q s r b) (begun q s r b).stage
unfolding ahead
begun_on q s r b =
    let start = start_by s.regions s.objects r b in
    record { fits = within_fits (plan q start) (planned_within (plan q start) (plan_shape q start)) }

-- The turns of a host until a flush rests. Each step taken is one move less to do and each due confirmation one wait less; refused steps and early
-- confirmations leave the store as it is; and in a flush something is yet to be done. So rest comes after exactly the moves and the waits of the
-- plan.
use mathlib.Core.Path.{◌≡◌, refl, sym, ap, subst, ◌∙◌}
use mathlib.Core.Logic.{◌⊎◌, inl, inr}
use mathlib.Core.Bool.{true, false, cond}
use mathlib.Core.List.{List, [], ◌∷◌}
use Prim.Native.Nat.{ℕ, zero, suc, ◌+◌, ◌≤◌}
use native.Mathlib.Omega.{arith}
use Rattle.rules.specs.Flush.{Act, wait, plan, ahead}
use Rattle.rules.specs.Stores.{Store, Stage, resting, flushing, Flush, Request, at_stage, start_by, begun, ahead_of, advanced, waited}
use Rattle.rules.specs.Calls.{running, due_in, step_in, confirm_in}
use Rattle.rules.specs.Sums.{waits_in}
use Rattle.rules.proofs.Plays.{moves_left}
use Rattle.rules.proofs.Steps.{todo, todo_at, todo_now, OnCourseAt, Stepped, Closed, step_law, confirm_early, confirm_law, begun_on}

-- what a host does: a step, the area lent, or a confirmation
pub data Turn : Type 0 where
  stepping : List ℕ → Turn
  confirming : Turn

-- the store after a turn; a step while a checkpoint is due is refused
abbrev pub turned : ℕ → Store → Stage → Turn → Store
turned q s g (stepping area) = cond (due_in g) s (step_in q s area g).store
turned q s g confirming = confirm_in q s g

-- the store after turns
unfoldable pub after_turns : ℕ → Store → List Turn → Store
after_turns q s [] = s
after_turns q s (t ∷ ts) = after_turns q (turned q s s.stage t) ts

-- a step that a flush takes
abbrev pub step_taken : Stage → Turn → ℕ
step_taken g (stepping area) = cond (running g) (cond (due_in g) 0 1) 0
step_taken g confirming = 0

-- a confirmation that was due
abbrev pub wait_closed : Stage → Turn → ℕ
wait_closed g (stepping area) = 0
wait_closed g confirming = cond (due_in g) 1 0

-- how often turns do one of these
unfoldable pub tally : (Stage → Turn → ℕ) → ℕ → Store → List Turn → ℕ
tally does q s [] = 0
tally does q s (t ∷ ts) = does s.stage t + tally does q (turned q s s.stage t) ts

-- what turns have done and what is yet to be done, against what was to be done before
pub record Counted (q : ℕ) (before : List Act) (steps closed : ℕ) (s : Store) : Type 0 where
  pub on : OnCourseAt q s s.stage
  pub moves : moves_left before ≡ steps + moves_left (todo_at q s s.stage)
  pub waits : waits_in before ≡ closed + waits_in (todo_at q s s.stage)

same : (q : ℕ) (s : Store) (g : Stage) → s.stage ≡ g → OnCourseAt q s g → Counted q (todo_at q s g) 0 0 s
same q s g e c = record {
  on = subst (OnCourseAt q s) (sym e) c;
  moves = omega (arith, ap (λ x. moves_left (todo_at q s x)) e);
  waits = omega (arith, ap (λ x. waits_in (todo_at q s x)) e);
}

module _ (q : ℕ) (s : Store) (f : Flush) where
  after_step : Stepped q s f → Counted q (todo (ahead_of q s f) f.due) 1 0 (at_stage s (flushing (advanced q s f)))
  unfolding moves_left waits_in
  after_step r = record {
    on = r.on;
    moves = omega (arith, ap moves_left r.taken, ap moves_left r.left);
    waits = omega (arith, ap waits_in r.taken, ap waits_in r.left);
  }

  after_wait : f.due ≡ true → Closed q s f → Counted q (todo (ahead_of q s f) f.due) 0 1 (confirm_in q s (flushing f))
  unfolding moves_left waits_in
  after_wait e r = elim r.outcome [
    | inl k ↦ rw k.2 (record {
      on = tt;
      moves = omega (arith, ap moves_left before, ap moves_left k.1);
      waits = omega (arith, ap waits_in before, ap waits_in k.1);
    })
    | inr k ↦ rw k.1 (record {
      on = k.2;
      moves = omega (arith, ap moves_left before, ap moves_left behind);
      waits = omega (arith, ap waits_in before, ap waits_in behind);
    })
  ]
    where
      before : todo (ahead_of q s f) f.due ≡ wait ∷ r.rest
      before = ap (todo (ahead_of q s f)) e ∙ r.first

      behind : todo (ahead_of q s (waited f)) false ≡ r.rest
      behind = ap (λ acts. todo acts false) r.first

one_turn : (q : ℕ) (s : Store) (g : Stage) (t : Turn) → s.stage ≡ g → OnCourseAt q s g
    → Counted q (todo_at q s g) (step_taken g t) (wait_closed g t) (turned q s g t)
one_turn q s resting (stepping area) e c = same q s resting e c
one_turn q s resting confirming e c = same q s resting e c
one_turn q s (flushing f) (stepping area) e c =
    elim f.due as (λ b. f.due ≡ b → Counted q (todo (ahead_of q s f) f.due) (cond b 0 1) 0 (cond b s (step_in q s area (flushing f)).store)) [
      | true ↦ λ d. same q s (flushing f) e c
      | false ↦ λ d. let r = step_law q s f c d in rw (r.outcome area) (after_step q s f r)
    ] refl
one_turn q s (flushing f) confirming e c =
    elim f.due as (λ b. f.due ≡ b → Counted q (todo (ahead_of q s f) f.due) 0 (cond b 1 0) (confirm_in q s (flushing f))) [
      | true ↦ λ d. after_wait q s f d (confirm_law q s f c d)
      | false ↦ λ d. rw (confirm_early q s f d) (same q s (flushing f) e c)
    ] refl

-- what turns have done, and what is yet to be done, make up what was to be done
pub all_turns : (q : ℕ) (s : Store) (ts : List Turn) → OnCourseAt q s s.stage
    → Counted q (todo_at q s s.stage) (tally step_taken q s ts) (tally wait_closed q s ts) (after_turns q s ts)
unfolding after_turns tally
all_turns q s [] c = same q s s.stage refl c
all_turns q s (t ∷ ts) c =
    let a = one_turn q s s.stage t refl c in
    let b = all_turns q (turned q s s.stage t) ts a.on in
    record { on = b.on; moves = omega (arith, a.moves, b.moves); waits = omega (arith, a.waits, b.waits) }

-- in a flush something is to be done
busy : (q : ℕ) (s : Store) (g : Stage) → OnCourseAt q s g → moves_left (todo_at q s g) ≡ 0 → waits_in (todo_at q s g) ≡ 0 → g ≡ resting
unfolding moves_left waits_in
busy q s resting c m w = refl
busy q s (flushing f) c m w = absurd (elim f.due as (λ b. f.due ≡ b → ⊥) [
  | true ↦ λ d. omega (arith, ap waits_in (ap (todo (ahead_of q s f)) d ∙ (confirm_law q s f c d).first))
  | false ↦ λ d. omega (arith, ap moves_left (step_law q s f c d).taken)
] refl)

-- whatever the turns, a store rests after so many steps taken and so many waits closed, and not before
abbrev pub RestsAfter : ℕ → Store → ℕ → ℕ → Type 0
RestsAfter q s steps waits = (ts : List Turn)
    → ((after_turns q s ts).stage ≡ resting → (tally step_taken q s ts ≡ steps) × (tally wait_closed q s ts ≡ waits))
    × (tally step_taken q s ts ≡ steps → tally wait_closed q s ts ≡ waits → (after_turns q s ts).stage ≡ resting)

-- a store rests after the moves and the waits that are yet to be done, whatever other turns come between
pub rests_after : (q : ℕ) (s : Store) → OnCourseAt q s s.stage → RestsAfter q s (moves_left (todo_at q s s.stage)) (waits_in (todo_at q s s.stage))
unfolding moves_left waits_in
rests_after q s c ts =
    let a = all_turns q s ts c in (
      λ e. (
        omega (arith, a.moves, ap (λ g. moves_left (todo_at q (after_turns q s ts) g)) e),
        omega (arith, a.waits, ap (λ g. waits_in (todo_at q (after_turns q s ts) g)) e),
      ),
      λ m w. busy q (after_turns q s ts) (after_turns q s ts).stage a.on (omega (arith, a.moves)) (omega (arith, a.waits)),
    )

-- the number of steps and of confirmations is fixed when a flush begins: those of its plan
pub flush_rests : (q : ℕ) (s : Store) (r : Request) (b : ℕ)
    → RestsAfter q (begun q s r b) (moves_left (plan q (start_by s.regions s.objects r b))) (waits_in (plan q (start_by s.regions s.objects r b)))
unfolding ahead
flush_rests q s r b = rw (todo_now (plan q (start_by s.regions s.objects r b))) at (rests_after q (begun q s r b) (begun_on q s r b))

-- the turn that takes a flush on: a confirmation where one is due, else a step
abbrev pub on_turn : Stage → List ℕ → Turn
on_turn g area = cond (due_in g) confirming (stepping area)

-- n such turns, whatever areas are lent
unfoldable pub onward : (ℕ → List ℕ) → ℕ → Store → ℕ → List Turn
onward areas q s zero = []
onward areas q s (suc n) = let t = on_turn s.stage (areas n) in t ∷ onward areas q (turned q s s.stage t) n

takes_on : (q : ℕ) (s : Store) (g : Stage) (area : List ℕ) → (todo_at q s g ≡ []) ⊎ (step_taken g (on_turn g area) + wait_closed g (on_turn g area) ≡ 1)
takes_on q s resting area = inl refl
takes_on q s (flushing f) area =
    inr (elim f.due as (λ b. f.due ≡ b → step_taken (flushing f) (cond b confirming (stepping area)) + wait_closed (flushing f)
    (cond b confirming (stepping area)) ≡ 1) [
      | true ↦ λ d. rw d
      | false ↦ λ d. rw d
    ] refl)

-- a host that goes on so reaches rest
pub reaches_rest : (areas : ℕ → List ℕ) (q : ℕ) (s : Store) (n : ℕ) → OnCourseAt q s s.stage
    → moves_left (todo_at q s s.stage) + waits_in (todo_at q s s.stage) ≤ n → (after_turns q s (onward areas q s n)).stage ≡ resting
unfolding after_turns onward moves_left waits_in
reaches_rest areas q s zero c l = busy q s s.stage c (omega arith) (omega arith)
reaches_rest areas q s (suc n) c l =
    let t = on_turn s.stage (areas n) in
    let a = one_turn q s s.stage t refl c in
    reaches_rest areas q (turned q s s.stage t) n a.on (elim (takes_on q s s.stage (areas n)) [
      | inl z ↦ omega (arith, a.moves, a.waits, ap moves_left z, ap waits_in z)
      | inr o ↦ omega (arith, a.moves, a.waits, o)
    ])

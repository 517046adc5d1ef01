-- What each call comes to. The first test that applies gives the answer, so where the answer is an acceptance no test applied; and
-- where it is a refusal, the outcome is the same store and no write. So a law of a call's outcome is proved by these cases.
use mathlib.Core.Path.{◌≡◌, refl, sym, ap, ◌∙◌, subst}
use mathlib.Core.Bool.{Bool, true, false, cond, not, ◌&&◌, ◌||◌}
use mathlib.Core.List.{List, [], ◌∷◌, ◌++◌}
use Prim.Native.Nat.{ℕ, zero, suc, ◌≤◌}
use native.Mathlib.Omega.{arith}
use lib.ListN.{length, take, drop}
use lib.Dec.{ltb, eqb}
use borrow.Author.Tests.{ltb-false, leb-false, eqb-true, eqb-false, not-false}
use Rattle.rules.specs.House.{share, most_name}
use Rattle.rules.specs.Classes.{volume}
use Rattle.rules.specs.Stores.{Store, Stage, resting, flushing, Flush, at_stage, resting_at, ahead_of, advanced, waited, settled_store, held_by, held_at}
use Rattle.rules.specs.Sound.{sound}
use Rattle.rules.specs.Answers.{Test, first, accepted}
use Rattle.rules.specs.Calls.{Outcome, answering, storing_at, unless_refused, test, from_refused, running, due_in, held, named, store_tests, name_tests}
use Rattle.rules.specs.Calls.{insert_tests, inserted, insert_of, deleted, delete_of, step_in, step_of, last_ahead, confirm_in, confirm_of, map_size}
use Rattle.rules.specs.declared.Answer.{Answer}
use Rattle.rules.specs.declared.Answer.TheVariants.{Done, Running, Unsound, WrongArea, Busy, NameZero, BadLength, NameHeld, NotHeld, Full}
use Rattle.rules.specs.declared.Answer.TheVariants.{OverQuota, CheckpointDue, ShortBuffer}
use Rattle.rules.proofs.Lists.{clash}
use Rattle.rules.proofs.Limits.{not_held, is_held, Held}
use Rattle.rules.proofs.RestKept.{named_one}
use Rattle.rules.proofs.SoundKept.{AtRest, sound_rest, resting_eta, MayInsert}
use Rattle.rules.proofs.Steps.{OnCourseAt, Stepped, step_law, sound_on}

-- a test that refuses did not apply
passes : (b : Bool) (a : Answer) (ts : List Test) → accepted a ≡ false → accepted (first (test b a ∷ ts)) ≡ true
    → (b ≡ false) × (accepted (first ts) ≡ true)
unfolding first
passes true a ts refuses e = absurd (clash e refuses)
passes false a ts refuses e = (refl, e)

or_false : (a b : Bool) → (a || b) ≡ false → (a ≡ false) × (b ≡ false)
or_false true b e = absurd (clash refl e)
or_false false b e = (refl, e)

-- what every accepted call was tested for, and what is left to test
record Passed (s : Store) (lent : ℕ) (ts : List Test) : Type 0 where
  pub is_sound : sound share s ≡ true
  pub own : lent ≡ s.area
  pub later : accepted (first ts) ≡ true

store_passes : (s : Store) (lent : ℕ) (ts : List Test) → accepted (first (store_tests s lent ++ ts)) ≡ true → Passed s lent ts
store_passes s lent ts e =
    let p = passes (not (from_refused s) && not (sound share s)) Unsound (test (from_refused s || not (eqb lent s.area)) WrongArea ∷ ts) refl e in
    let k = passes (from_refused s || not (eqb lent s.area)) WrongArea ts refl p.1 in
    let r = or_false (from_refused s) (not (eqb lent s.area)) k.0 in
    record {
      is_sound = not-false (sound share s) (second (from_refused s) (not (sound share s)) r.0 p.0);
      own = eqb-true lent s.area (not-false (eqb lent s.area) r.1);
      later = k.1;
    }
  where
    second : (a b : Bool) → a ≡ false → (not a && b) ≡ false → b ≡ false
    second true b p e = absurd (clash refl p)
    second false b p e = e

not_running : (g : Stage) → running g ≡ false → g ≡ resting
not_running resting e = refl
not_running (flushing f) e = absurd (clash refl e)

some_number : (n : ℕ) → eqb n 0 ≡ false → 1 ≤ n
some_number zero e = absurd (eqb-false 0 0 e refl)
some_number (suc n) e = omega arith

-- INSERT
pub record MayStore (s : Store) (lent n : ℕ) (page : List ℕ) : Type 0 where
  pub own : lent ≡ s.area
  pub rests : s.stage ≡ resting
  pub at_rest : AtRest share s.area s.regions s.objects
  pub may : MayInsert share s.area s.objects n page

-- a sound store at rest
pub sound_resting : (q : ℕ) (s : Store) → s.stage ≡ resting → sound q s ≡ true → AtRest q s.area s.regions s.objects
sound_resting q s rests e = sound_rest q s.area s.regions s.objects (subst (λ (w : Store). sound q w ≡ true) (resting_eta s rests) e)

pub insert_passes : (s : Store) (lent n : ℕ) (page : List ℕ) → n ≤ most_name → accepted (first (insert_tests s lent n page)) ≡ true
    → MayStore s lent n page
insert_passes s lent n page small e =
    let a = store_passes s lent _ e in
    let b = passes _ Busy _ refl a.later in
    let c = passes _ NameZero _ refl b.1 in
    let d = passes _ BadLength _ refl c.1 in
    let f = passes _ NameHeld _ refl d.1 in
    let g = passes _ Full _ refl f.1 in
    let h = passes _ OverQuota _ refl g.1 in
    let l = or_false _ _ d.0 in
    let r = not_running s.stage b.0 in
    let os : held_by s ≡ s.objects = ap (held_at s) r in
    record {
      own = a.own;
      rests = r;
      at_rest = sound_resting share s r a.is_sound;
      may = record {
        some_name = some_number n c.0;
        name_fits = small;
        some_length = some_number (length page) l.0;
        length_fits = omega (arith, ltb-false, l.1);
        new = not_held n s.objects (rw os at f.0);
        few = omega (arith, leb-false, g.0, ap length os);
        quota = omega (arith, ltb-false, h.0, ap volume os);
      };
    }

-- DELETE
pub record MayDelete (s : Store) (n : ℕ) : Type 0 where
  pub rests : s.stage ≡ resting
  pub at_rest : AtRest share s.area s.regions s.objects
  pub found : Held n s.objects

pub delete_passes : (s : Store) (n : ℕ) → accepted (first (store_tests s s.area ++ (test (running s.stage) Busy ∷ name_tests s n))) ≡ true
    → MayDelete s n
delete_passes s n e =
    let a = store_passes s s.area (test (running s.stage) Busy ∷ name_tests s n) e in
    let b = passes (running s.stage) Busy (name_tests s n) refl a.later in
    let c = passes (eqb n 0) NameZero (test (not (held s n)) NotHeld ∷ []) refl b.1 in
    let d = passes (not (held s n)) NotHeld [] refl c.1 in
    let r = not_running s.stage b.0 in
    record {
      rests = r;
      at_rest = sound_resting share s r a.is_sound;
      found = subst (λ (g : Stage). Held n (held_at s g)) r (is_held n (held_by s) (not-false (held s n) d.0));
    }

-- CONFIRM: an accepted one is of a sound store, and has room for the map
pub confirm_passes : (s : Store) (room : ℕ) → accepted (confirm_of s room).answer ≡ true
    → (sound share s ≡ true) × (map_size (length (held_by s)) ≤ room)
unfolding confirm_of
confirm_passes s room e =
    let size = map_size (length (held_by s)) in
    let short = test (ltb room size) ShortBuffer in
    let p =
    store_passes s s.area (short ∷ []) (passed (first (store_tests s s.area ++ (short ∷ []))) (answering (confirm_in share s s.stage) Done) e) in
    (p.is_sound, ltb-false room size (passes (ltb room size) ShortBuffer [] refl p.later).0)
  where
    passed : (a : Answer) (done : Outcome) → accepted (unless_refused s a done).answer ≡ true → accepted a ≡ true
    passed a done = (elim (accepted a) as
        (λ b. accepted a ≡ b → accepted
        (cond b done (answering s a)).answer ≡ true → accepted a ≡ true) [ true ↦ λ q k. q | false ↦ λ q k. k ]) refl

-- a confirmation in a flush ends it, closes a wait, or changes nothing
pub confirmed_cases : (P : Store → Type 0) (q : ℕ) (s : Store) (f : Flush)
    → (confirm_in q s (flushing f) ≡ settled_store q s f → P (settled_store q s f))
    → P (at_stage s (flushing (waited f))) → P s → P (confirm_in q s (flushing f))
confirmed_cases P q s f ended closed same =
    let last = last_ahead (ahead_of q s f) in
    elim f.due as (λ b. f.due ≡ b → P (cond b (cond last (settled_store q s f) (at_stage s (flushing (waited f)))) s)) [
      | true ↦ λ e. elim last as (λ b. last ≡ b → P (cond b (settled_store q s f) (at_stage s (flushing (waited f))))) [
        | true ↦ λ l. ended (rw (e, l))
        | false ↦ λ l. closed
      ] refl
      | false ↦ λ e. same
    ] refl

-- what holds of the outcome of a refused call, and of what it comes to where it is accepted, holds of its outcome
module _ (P : Outcome → Type 0) (s : Store) (refused : (a : Answer) → accepted a ≡ false → P (answering s a)) where
  pub unless : (a : Answer) (done : Outcome) → (accepted a ≡ true → P done) → P (unless_refused s a done)
  unless a done f = (elim (accepted a) as (λ b. accepted a ≡ b → P (cond b done (answering s a))) [ true ↦ f | false ↦ refused a ]) refl

  pub insert_cases : (lent n : ℕ) (page : List ℕ) → n ≤ most_name
      → (MayStore s lent n page → P (inserted share (resting_at s.area s.regions s.objects) n page))
      → P (insert_of s lent n page)
  unfolding insert_of
  insert_cases lent n page small f = unless (first (insert_tests s lent n page)) (inserted share s n page) (λ e.
      let p = insert_passes s lent n page small e in
      subst (λ (w : Store). P (inserted share w n page)) (sym (resting_eta s p.rests)) (f p))

  pub delete_cases : (n : ℕ)
      → ((p : MayDelete s n) → P (deleted share (resting_at s.area s.regions s.objects) p.found.object.name p.found.object.len))
      → P (delete_of s n)
  unfolding delete_of volume
  delete_cases n f =
      unless (first (store_tests s s.area ++ (test (running s.stage) Busy ∷ name_tests s n))) (deleted share s n (volume (named n s.objects))) (λ e.
      let p = delete_passes s n e in
      let o = p.found.object in
      let one : named n s.objects ≡ o ∷ [] = subst (λ (k : ℕ). named k s.objects ≡ o ∷ []) p.found.called
      (named_one o s.objects p.at_rest.limits.differ p.found.among) in
      let len : volume (named n s.objects) ≡ o.len = ap volume one ∙ omega arith in
      subst (λ (w : Store). P (deleted share w n (volume (named n s.objects)))) (sym (resting_eta s p.rests))
      (rw len (subst (λ (k : ℕ). P (deleted share (resting_at s.area s.regions s.objects) k o.len)) p.found.called (f p))))

  -- STEP: at rest, or in a flush where nothing is due
  pub step_cases : (area : List ℕ) → P (answering s Done)
      → ((f : Flush) → s.stage ≡ flushing f → sound share s ≡ true → length area ≡ s.area → (law : Stepped share s f)
      → P (storing_at (at_stage s (flushing (advanced share s f))) Running law.next.to (take law.next.object.len (drop law.next.object.at area))))
      → P (step_of s area)
  unfolding step_of
  step_cases area rest flush =
      unless (first (store_tests s (length area) ++ (test (due_in s.stage) CheckpointDue ∷ []))) (step_in share s area s.stage) (λ e.
      let p = store_passes s (length area) (test (due_in s.stage) CheckpointDue ∷ []) e in
      by_stage s.stage refl (passes (due_in s.stage) CheckpointDue [] refl p.later).0 p.is_sound p.own)
    where
      by_stage : (g : Stage) → s.stage ≡ g → due_in g ≡ false → sound share s ≡ true → length area ≡ s.area → P (step_in share s area g)
      by_stage resting r e holds own = rest
      by_stage (flushing f) r e holds own =
          let law = step_law share s f (subst (OnCourseAt share s) r (sound_on share s holds)) e in
          subst P (sym (law.outcome area)) (flush f r holds own law)

  -- CONFIRM: at rest, or in a flush
  pub confirm_cases : (room : ℕ) → (s.stage ≡ resting → sound share s ≡ true → P (answering s Done))
      → ((f : Flush) → s.stage ≡ flushing f → sound share s ≡ true → P (answering (confirm_in share s (flushing f)) Done))
      → P (confirm_of s room)
  unfolding confirm_of
  confirm_cases room rest flush =
      let short = test (ltb room (map_size (length (held_by s)))) ShortBuffer in
      unless (first (store_tests s s.area ++ (short ∷ []))) (answering (confirm_in share s s.stage) Done) (λ e.
      by_stage s.stage refl (store_passes s s.area (short ∷ []) e).is_sound)
    where
      by_stage : (g : Stage) → s.stage ≡ g → sound share s ≡ true → P (answering (confirm_in share s g) Done)
      by_stage resting r holds = rest r holds
      by_stage (flushing f) r holds = flush f r holds

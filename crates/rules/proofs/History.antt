-- Law 9 over a history: whatever calls come after an opening, refused ones too, the store stays sound, and each call changes its volume by what it
-- stores and what it deletes. A refused call leaves the store as it was; after a refused opening every call is refused.
use mathlib.Core.Path.{◌≡◌, refl, sym, ap, ◌∙◌, subst}
use mathlib.Core.Bool.{true, false, cond}
use mathlib.Core.List.{List, [], ◌∷◌, ◌++◌, append-nil}
use Prim.Native.Nat.{ℕ, ◌+◌}
use native.Mathlib.Omega.{arith}
use lib.ListN.{length, take}
use lib.Dec.{leb, ltb}
use borrow.Author.Tests.{leb-true}
use Rattle.rules.specs.House.{share, area_fits, least_area, most_area}
use Rattle.rules.specs.Classes.{Obj, volume}
use Rattle.rules.specs.Regions.{Regions, no_regions}
use Rattle.rules.specs.Flush.{live, Move, plan}
use Rattle.rules.specs.Stores.{Store, Stage, resting, flushing, Flush, resting_at, start_in, ahead_of, places_now, held_at, held_by}
use Rattle.rules.specs.Sound.{sound}
use Rattle.rules.specs.Answers.{first, accepted}
use Rattle.rules.specs.Calls.{Outcome, answering, unless_refused, test, running, due_in, named, others, store_tests, name_tests, insert_tests, next_move}
use Rattle.rules.specs.Calls.{stepped, step_in, map_size, open_store, insert_above, insert_into, insert_flush, inserted, insert_of, deleted, delete_of}
use Rattle.rules.specs.Calls.{step_of, confirm_in, confirm_of, find_answer, read_answer, read_of, ask_answer}
use Rattle.rules.specs.History.{Call, insert, delete, step, confirm, outcome_of, History, opening, served, serve, after, Named, AllNamed}
use Rattle.rules.specs.History.{bytes_under, stored_by, deleted_by}
use Rattle.rules.specs.declared.Answer.{Answer}
use Rattle.rules.specs.declared.Answer.TheVariants.{Done, WrongArea, Busy, CheckpointDue, ShortBuffer}
use Rattle.rules.proofs.Lists.{clash, and_true, In, volume_append}
use Rattle.rules.proofs.Facts.{Distinct}
use Rattle.rules.proofs.Insertion.{insert_volume, sort_volume}
use Rattle.rules.proofs.Limits.{inserted_cases, deleted_cases}
use Rattle.rules.proofs.SoundKept.{rest_sound, open_rest}
use Rattle.rules.proofs.BegunKept.{gone_volume}
use Rattle.rules.proofs.Accepted.{unless, insert_cases, delete_cases, step_cases, confirmed_cases, confirm_cases}
use Rattle.rules.proofs.CallsKept.{insert_keeps, delete_keeps}
use Rattle.rules.proofs.FlushKept.{step_keeps}
use Rattle.rules.proofs.ConfirmKept.{confirm_keeps}
use Rattle.rules.proofs.Writes.{EndsIn}
use Rattle.rules.proofs.StepWithin.{insert_writes, step_writes}
use Rattle.rules.proofs.Ends.{played_kinds}
use Rattle.rules.proofs.SettledKept.{kinds_volume}

-- AN OPENED STORE IS SOUND
pub open_sound : (q a : ℕ) → area_fits a ≡ true → sound q (open_store a) ≡ true
unfolding volume
open_sound q a e =
    let h = and_true (leb least_area a) (leb a most_area) e in
    rw e (rest_sound q a no_regions [] (record {
      limits = record {
        area_least = leb-true least_area a h.0;
        area_most = leb-true a most_area h.1;
        few = omega arith;
        fits = tt;
        differ = tt;
        quota = omega arith;
      };
      rest = open_rest q;
    }))

-- AFTER A REFUSED OPENING every call is refused, with answer 1
pub refused_opening : (a : ℕ) (area : List ℕ) (c : Call) → area_fits a ≡ false → outcome_of (open_store a) area c ≡ answering (open_store a) WrongArea
unfolding insert_of delete_of step_of confirm_of first
refused_opening a area (insert lent n page) e = rw e
refused_opening a area (delete n) e = rw e
refused_opening a area (step lent) e = rw e
refused_opening a area (confirm room) e = rw e

-- and every question too
pub refused_asking : (a : ℕ) → area_fits a ≡ false → let s = open_store a in
    ((n : ℕ) → find_answer s n ≡ WrongArea) × ((lent n : ℕ) → read_answer s lent n ≡ WrongArea) × (ask_answer s ≡ WrongArea)
    × ((area blank : List ℕ) (n : ℕ) → read_of s area blank n ≡ blank)
unfolding find_answer read_answer ask_answer read_of first
refused_asking a e = (λ n. rw e, λ lent n. rw e, rw e, λ area blank n. rw e)

-- EVERY CALL KEEPS SOUNDNESS
pub call_keeps : (s : Store) (area : List ℕ) (c : Call) → Named c → sound share s ≡ true → sound share (outcome_of s area c).store ≡ true
call_keeps s area (insert lent n page) small holds = insert_keeps s (length (take lent area)) n page small holds
call_keeps s area (delete n) small holds = delete_keeps s n holds
call_keeps s area (step lent) small holds = step_keeps s (take lent area) holds
call_keeps s area (confirm room) small holds = confirm_keeps s room holds

-- what is done where a call is accepted is no refusal
pub inserted_accepted : (q : ℕ) (s : Store) (n : ℕ) (page : List ℕ) → accepted (inserted q s n page).answer ≡ true
unfolding insert_above insert_into insert_flush
inserted_accepted q s n page = inserted_cases (λ o. accepted o.answer ≡ true) q s n page (λ top. refl) (λ j r. refl) refl

pub deleted_accepted : (q : ℕ) (s : Store) (n len : ℕ) → accepted (deleted q s n len).answer ≡ true
deleted_accepted q s n len = deleted_cases (λ o. accepted o.answer ≡ true) q s n len (λ j r. refl) refl

pub stepped_accepted : (q : ℕ) (s : Store) (area : List ℕ) (g : Stage) → accepted (step_in q s area g).answer ≡ true
stepped_accepted q s area resting = refl
stepped_accepted q s area (flushing f) = by_move (next_move (ahead_of q s f))
  where
    by_move : (ms : List Move) → accepted (stepped q s f area ms).answer ≡ true
    by_move [] = refl
    by_move (m ∷ ms) = refl

same : (s : Store) (a : Answer) (o : Outcome) → accepted o.answer ≡ true → accepted (unless_refused s a o).answer ≡ false
    → unless_refused s a o ≡ answering s (unless_refused s a o).answer
same s a o k = unless (λ w. accepted w.answer ≡ false → w ≡ answering s w.answer) s (λ a e r. refl) a o (λ e r. absurd (clash k r))

-- A REFUSED CALL hands back the same store and writes nothing
pub refused_same : (s : Store) (area : List ℕ) (c : Call) → accepted (outcome_of s area c).answer ≡ false
    → outcome_of s area c ≡ answering s (outcome_of s area c).answer
unfolding insert_of delete_of step_of confirm_of
refused_same s area (insert lent n page) = same s (first (insert_tests s (length (take lent area)) n page)) (inserted share s n page)
    (inserted_accepted share s n page)
refused_same s area (delete n) = same s (first (store_tests s s.area ++ (test (running s.stage) Busy ∷ name_tests s n)))
    (deleted share s n (volume (named n s.objects))) (deleted_accepted share s n (volume (named n s.objects)))
refused_same s area (step lent) = same s (first (store_tests s (length (take lent area)) ++ (test (due_in s.stage) CheckpointDue ∷ [])))
    (step_in share s (take lent area) s.stage) (stepped_accepted share s (take lent area) s.stage)
refused_same s area (confirm room) = same s (first (store_tests s s.area ++ (test (ltb room (map_size (length (held_by s)))) ShortBuffer ∷ [])))
    (answering (confirm_in share s s.stage) Done) refl

-- A DELETE OR A CONFIRMATION writes nothing
pub delete_silent : (s : Store) (n : ℕ) → (delete_of s n).write ≡ record { at = 0; bytes = [] }
delete_silent s n = delete_cases (λ o. o.write ≡ record { at = 0; bytes = [] }) s (λ a e. refl) n (λ p.
    deleted_cases (λ o. o.write ≡ record {
      at = 0;
      bytes = [];
    }) share (resting_at s.area s.regions s.objects) p.found.object.name p.found.object.len (λ j r. refl) refl)

pub confirm_silent : (s : Store) (room : ℕ) → (confirm_of s room).write ≡ record { at = 0; bytes = [] }
confirm_silent s room = confirm_cases (λ o. o.write ≡ record { at = 0; bytes = [] }) s (λ a e. refl) room (λ r k. refl) (λ f runs k. refl)

-- WHATEVER A CALL WRITES is within the area
pub call_writes : (s : Store) (area : List ℕ) (c : Call) → Named c → EndsIn s.area (outcome_of s area c).write
call_writes s area (insert lent n page) small = insert_writes s (length (take lent area)) n page small
call_writes s area (delete n) small = rw (delete_silent s n) (omega arith)
call_writes s area (step lent) small = step_writes s (take lent area)
call_writes s area (confirm room) small = rw (confirm_silent s room) (omega arith)

-- THE AREA'S LENGTH stays
pub call_area : (s : Store) (area : List ℕ) (c : Call) → Named c → (outcome_of s area c).store.area ≡ s.area
unfolding insert_above insert_into insert_flush
call_area s area (insert lent n page) small = insert_cases (λ o. o.store.area ≡ s.area) s (λ a e. refl) (length (take lent area)) n page small (λ p.
    inserted_cases (λ o. o.store.area ≡ s.area) share (resting_at s.area s.regions s.objects) n page (λ top. refl) (λ j r. refl) refl)
call_area s area (delete n) small = delete_cases (λ o. o.store.area ≡ s.area) s (λ a e. refl) n (λ p.
    deleted_cases (λ o. o.store.area ≡ s.area) share (resting_at s.area s.regions s.objects) p.found.object.name p.found.object.len
    (λ j r. refl) refl)
call_area s area (step lent) small = step_cases (λ o. o.store.area ≡ s.area) s (λ a e. refl) (take lent area) refl (λ f runs holds own law. refl)
call_area s area (confirm room) small = confirm_cases (λ o. o.store.area ≡ s.area) s (λ a e. refl) room (λ r k. refl) (λ f runs k.
    confirmed_cases (λ w. w.area ≡ s.area) share s f (λ e. refl) refl refl)

-- the volume after an accepted insert
inserted_volume : (q a : ℕ) (t : Regions) (os : List Obj) (n : ℕ) (page : List ℕ)
    → volume (held_by (inserted q (resting_at a t os) n page).store) ≡ volume os + length page
unfolding insert_above insert_into insert_flush volume
inserted_volume q a t os n page = inserted_cases (λ o. volume (held_by o.store) ≡ volume os + length page) q (resting_at a t os) n page
    (λ top. insert_volume _ os ∙ omega arith) (λ j r. insert_volume _ os ∙ omega arith) (volume_append os _ ∙ omega arith)

-- and after an accepted delete
deleted_volume : (q a : ℕ) (t : Regions) (os : List Obj) (o : Obj) → Distinct os → In o os
    → volume (held_by (deleted q (resting_at a t os) o.name o.len).store) + o.len ≡ volume os
deleted_volume q a t os o d m = deleted_cases (λ w. volume (held_by w.store) + o.len ≡ volume os) q (resting_at a t os) o.name o.len
    (λ j r. gone_volume os o d m) (ap (λ xs. volume xs + o.len) (append-nil (others o.name os)) ∙ gone_volume os o d m)

-- a confirmation in a flush keeps the volume
confirmed_volume : (q : ℕ) (s : Store) (f : Flush) → s.stage ≡ flushing f → volume (held_by (confirm_in q s (flushing f))) ≡ volume (held_by s)
confirmed_volume q s f runs =
    let held : volume (held_by s) ≡ volume (live (start_in s f)) = ap (λ g. volume (held_at s g)) runs in
    confirmed_cases (λ w. volume (held_by w) ≡ volume (held_by s)) q s f
    (λ e. sort_volume (places_now q s f) ∙ sym (kinds_volume (places_now q s f))
    ∙ ap volume (played_kinds (plan q (start_in s f)) f.made (live (start_in s f))) ∙ kinds_volume (live (start_in s f)) ∙ sym held)
    (sym held) refl

-- THE VOLUME after a call, where each object held is as long as the page stored under its name
pub call_volume : (h : History) (c : Call) → Named c → ((o : Obj) → In o (held_by h.store) → length (bytes_under o.name h.ledger) ≡ o.len)
    → volume (held_by (serve h c).store) + deleted_by h c ≡ volume (held_by h.store) + stored_by h c
call_volume h (insert lent n page) small long =
    let s = h.store in
    insert_cases (λ o. volume (held_by o.store) + 0 ≡ volume (held_by s) + cond (accepted o.answer) (length page) 0) s
    (λ a e. rw e) (length (take lent h.area)) n page small (λ p.
    rw (inserted_accepted share (resting_at s.area s.regions s.objects) n page)
    (omega (arith, inserted_volume share s.area s.regions s.objects n page, ap (λ g. volume (held_at s g)) p.rests)))
call_volume h (delete n) small long =
    let s = h.store in
    delete_cases (λ o. volume (held_by o.store) + cond (accepted o.answer) (length (bytes_under n h.ledger)) 0 ≡ volume (held_by s) + 0) s
    (λ a e. rw e) n (λ p.
    let o = p.found.object in
    rw (deleted_accepted share (resting_at s.area s.regions s.objects) o.name o.len)
    (omega (
      arith,
      deleted_volume share s.area s.regions s.objects o p.at_rest.limits.differ p.found.among,
      long o (subst (λ g. In o (held_at s g)) (sym p.rests) p.found.among),
      ap (λ k. length (bytes_under k h.ledger)) p.found.called,
      ap (λ g. volume (held_at s g)) p.rests,
    )))
call_volume h (step lent) small long = step_cases (λ o. volume (held_by o.store) + 0 ≡ volume (held_by h.store) + 0) h.store (λ a e. refl)
    (take lent h.area) refl
    (λ f runs holds own law. ap (λ g. volume (held_at h.store g) + 0) (sym runs))
call_volume h (confirm room) small long = confirm_cases (λ o. volume (held_by o.store) + 0 ≡ volume (held_by h.store) + 0) h.store
    (λ a e. refl) room (λ r holds. refl)
    (λ f runs holds. ap (λ n. n + 0) (confirmed_volume share h.store f runs))

-- SOUNDNESS over a history
pub after_sound : (h : History) (cs : List Call) → AllNamed cs → sound share h.store ≡ true → sound share (after h cs).store ≡ true
unfolding after
after_sound h [] small holds = holds
after_sound h (c ∷ cs) small holds = after_sound (serve h c) cs small.1 (call_keeps h.store h.area c small.0 holds)

-- a refused call leaves the history as it was
pub refused_served : (h : History) (c : Call) (a : Answer) → accepted a ≡ false → served h c (answering h.store a) ≡ h
refused_served h c a e = rw e

-- so a history from a refused opening stays as it began
pub serve_refused : (area : List ℕ) (c : Call) → area_fits (length area) ≡ false → serve (opening area) c ≡ opening area
serve_refused area c e = ap (served (opening area) c) (refused_opening (length area) area c e) ∙ refused_served (opening area) c WrongArea refl

pub after_refused : (area : List ℕ) (cs : List Call) → area_fits (length area) ≡ false → after (opening area) cs ≡ opening area
unfolding after
after_refused area [] e = refl
after_refused area (c ∷ cs) e = ap (λ h. after h cs) (serve_refused area c e) ∙ after_refused area cs e

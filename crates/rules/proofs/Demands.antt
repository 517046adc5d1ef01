-- From what every history keeps to the demands: an opening promises it, or is refused and then nothing is stored and no map is kept; so what follows
-- from it holds after any calls.
use mathlib.Core.Path.{◌≡◌, refl, sym, ap, ◌∙◌, subst}
use mathlib.Core.Logic.{◌⊎◌, inl, inr}
use mathlib.Core.Bool.{true, false}
use mathlib.Core.List.{List, [], ◌∷◌}
use Prim.Native.Nat.{ℕ, ◌+◌, ◌≤◌}
use native.Mathlib.Omega.{arith}
use lib.ListN.{length, take, drop, length-drop}
use lib.Seq.{length-take-le}
use lib.Dec.{ltb}
use borrow.Author.Tests.{ne_eqb}
use Rattle.rules.specs.House.{share, area_fits}
use Rattle.rules.specs.Classes.{Obj, volume}
use Rattle.rules.specs.Stores.{Store, resting, held_by, list_now}
use Rattle.rules.specs.Answers.{first}
use Rattle.rules.specs.Calls.{step_of, written, held, named, name_tests, read_answer, read_of, ask_answer, volume_held}
use Rattle.rules.specs.History.{Call, insert, delete, step, confirm, lent_by, outcome_of, History, opening, serve, after, Named, AllNamed, Reached}
use Rattle.rules.specs.History.{opened, called, stored_by, deleted_by, total, listed, bytes_under, with_bytes, objects_of, Cut, LiesIn, ReadsBack}
use Rattle.rules.specs.History.{Every}
use Rattle.rules.specs.declared.Answer.TheVariants.{Done}
use Rattle.rules.proofs.Lists.{every_map, clash, is_false, In, in_all}
use Rattle.rules.proofs.Facts.{Fits}
use Rattle.rules.proofs.Names.{kinds, twin}
use Rattle.rules.proofs.RestKept.{named_one}
use Rattle.rules.proofs.Limits.{is_held}
use Rattle.rules.proofs.Clear.{Clear}
use Rattle.rules.proofs.CallTurns.{own_tests}
use Rattle.rules.proofs.Writes.{EndsIn, insert_within}
use Rattle.rules.proofs.StepWithin.{By, step_writes}
use Rattle.rules.proofs.Accepted.{insert_cases, step_cases}
use Rattle.rules.proofs.History.{delete_silent, confirm_silent, open_sound, call_writes, call_volume, serve_refused}
use Rattle.rules.proofs.Now.{list_kinds, list_distinct, list_fits_lem, list_within}
use Rattle.rules.proofs.Cuts.{bytes_at, Spared, pages_stay, torn_cut}
use Rattle.rules.proofs.Ledger.{every_object, objects_of_map, StoredIn, find_listed, own_bytes, held_in}
use Rattle.rules.proofs.Guarded.{Guarded}
use Rattle.rules.proofs.Promised.{Promised, call_keeps_all}

-- AN ACCEPTED OPENING promises it
pub open_promised : (area : List ℕ) → area_fits (length area) ≡ true → Promised (opening area)
unfolding list_now
open_promised area fits =
    record { holds = open_sound share (length area) fits; own = rw fits; stored = tt; listing = tt; some = tt; guarded = tt; lie = tt }

-- ANY CALLS keep it
pub after_promised : (h : History) (cs : List Call) → AllNamed cs → Promised h → Promised (after h cs)
unfolding after
after_promised h [] small p = p
after_promised h (c ∷ cs) small p = after_promised (serve h c) cs small.1 (call_keeps_all h c small.0 p).later

pub accepted_opening : (area : List ℕ) (cs : List Call) → area_fits (length area) ≡ true → AllNamed cs → Promised (after (opening area) cs)
accepted_opening area cs fits small = after_promised (opening area) cs small (open_promised area fits)

-- A HISTORY REACHED has kept it, or is a refused opening as it began;
data Standing : History → Type 0 where
  keeps : {h : History} → Promised h → Standing h
  shut : (area : List ℕ) → area_fits (length area) ≡ false → Standing (opening area)

stands : {h : History} → Reached h → Standing h
stands (opened area) = (elim (area_fits (length area)) as (λ b. area_fits (length area) ≡ b → Standing (opening area)) [
  | true ↦ λ e. keeps (open_promised area e)
  | false ↦ λ e. shut area e
]) refl
stands (called c small r) = on c small (stands r)
  where
    on : {h : History} (c : Call) → Named c → Standing h → Standing (serve h c)
    on c small (keeps p) = keeps (call_keeps_all _ c small p).later
    on c small (shut area e) = rw (serve_refused area c e) (shut area e)

-- so what holds where it is promised, and of a refused opening, holds of every history reached
pub reached : (P : History → Type 0) → ((h : History) → Promised h → P h)
    → ((area : List ℕ) → area_fits (length area) ≡ false → P (opening area))
    → (h : History) → Reached h → P h
reached P promised refused h r = by (stands r)
  where
    by : {h : History} → Standing h → P h
    by (keeps p) = promised _ p
    by (shut area e) = refused area e

-- any calls after an opening reach a history
pub after_reached : (h : History) (cs : List Call) → AllNamed cs → Reached h → Reached (after h cs)
unfolding after
after_reached h [] small r = r
after_reached h (c ∷ cs) small r = after_reached (serve h c) cs small.1 (called c small.0 r)

-- whatever a call writes lies in what it was lent
pub lent_ends : (s : Store) (area : List ℕ) (c : Call) → Named c → EndsIn (length (take (lent_by c) area)) (outcome_of s area c).write
lent_ends s area (insert lent n page) small = insert_cases (λ o. EndsIn (length (take lent area)) o.write) s (λ a e. omega arith)
    (length (take lent area)) n page small (λ p.
    omega (arith, p.own, insert_within share s.area s.regions s.objects n page (omega arith) p.at_rest p.may))
lent_ends s area (delete n) small = rw (delete_silent s n) (omega arith)
lent_ends s area (step lent) small = elim own [ inl k ↦ omega (arith, k) | inr k ↦ omega (arith, k, step_writes s (take lent area)) ]
  where
    own : EndsIn 0 (step_of s (take lent area)).write ⊎ (length (take lent area) ≡ s.area)
    own = step_cases (λ o. EndsIn 0 o.write ⊎ (length (take lent area) ≡ s.area)) s (λ a e. inl (omega arith)) (take lent area) (inl (omega arith))
        (λ f runs holds own law. inr own)
lent_ends s area (confirm room) small = rw (confirm_silent s room) (omega arith)

-- DEMAND 3, from what is promised
pub cut_holds : (h : History) → Promised h → (c : Call) → Named c → (cut : List ℕ) → Cut h.area (outcome_of h.store h.area c).write cut
    → Every (LiesIn cut) h.kept
cut_holds h p c small cut k =
    let w = (outcome_of h.store h.area c).write in
    pages_stay h.area w cut h.kept k (every_object (Spared w) h.kept (call_keeps_all h c small p).spares) p.lie

pub torn_holds : (h : History) → Promised h → (c : Call) → Named c → let w = (outcome_of h.store h.area c).write in
    (bytes : List ℕ) → length bytes ≡ length w.bytes → Every (LiesIn (written h.area (record { at = w.at; bytes = bytes }))) h.kept
torn_holds h p c small bytes e =
    let w = (outcome_of h.store h.area c).write in
    cut_holds h p c small (written h.area (record { at = w.at; bytes = bytes }))
    (torn_cut h.area w bytes (omega (arith, call_writes h.store h.area c small, p.own)) e)

pub done_holds : (h : History) → Promised h → (c : Call) → Named c → Every (LiesIn (serve h c).area) h.kept
done_holds h p c small = torn_holds h p c small (outcome_of h.store h.area c).write.bytes refl

-- at rest no byte of a page kept is unused
pub kept_clear : (h : History) → Promised h → h.store.stage ≡ resting → Every (λ q. Clear share h.store.regions q.object) h.kept
kept_clear h p rests = every_object (Clear share h.store.regions) h.kept (subst (λ g. Guarded h.store g (objects_of h.kept)) rests p.guarded)

-- DEMAND 2, from what is promised: an object of the list is read where it lies
module _ (h : History) (p : Promised h) (o : Obj) (m : In o (list_now share h.store)) where
  some_name : 1 ≤ o.name
  some_name = (in_all Fits (list_now share h.store) (list_fits_lem share h.store p.holds) o m).some_name

  is_there : held h.store o.name ≡ true
  is_there =
      let t = twin (held_by h.store) (list_now share h.store) (sym (list_kinds share h.store)) o m in
      subst (λ n. ltb 0 (length (named n (held_by h.store))) ≡ true) t.2 (held_in t.0 (held_by h.store) t.1)

  pub read_done : read_answer h.store (length h.area) o.name ≡ Done
  unfolding read_answer first
  read_done = own_tests h.store (length h.area) (name_tests h.store o.name) p.holds p.own ∙ rw (
    ne_eqb o.name 0 (λ e. omega (arith, some_name)),
    is_there,
  )

  pub read_bytes : (blank : List ℕ) → read_of h.store h.area blank o.name ≡ bytes_at h.area o
  unfolding read_of
  read_bytes blank = rw (read_done, named_one o (list_now share h.store) (list_distinct share h.store p.holds) m)

-- each page of the ledger reads back
pub ledger_reads : (h : History) → Promised h → Every (ReadsBack h) h.ledger
ledger_reads h p = every_map (λ q k. (
  ap (read_answer h.store (length h.area)) (sym k.2) ∙ read_done h p k.0 k.1,
  λ blank. ap (read_of h.store h.area blank) (sym k.2) ∙ read_bytes h p k.0 k.1 blank ∙ k.3,
)) h.ledger p.stored

-- the names held are those of the ledger
pub names_held : (h : History) → Promised h → (n : ℕ) → held h.store n ≡ listed n h.ledger
names_held h p n = (elim (listed n h.ledger) as (λ b. listed n h.ledger ≡ b → held h.store n ≡ b) [
  | true ↦ λ e.
      let f = find_listed (StoredIn h.area (list_now share h.store)) n h.ledger p.stored e in
      subst (λ k. held h.store k ≡ true) (f.passes.2 ∙ f.called) (is_there h p f.passes.0 f.passes.1)
  | false ↦ λ e. is_false (held h.store n) (λ k. clash (heard k) e)
]) refl
  where
    heard : held h.store n ≡ true → listed n h.ledger ≡ true
    heard k =
        let x = is_held n (held_by h.store) k in
        let t = twin (list_now share h.store) (held_by h.store) (list_kinds share h.store) x.object x.among in
        subst (λ i. listed i h.ledger ≡ true) (t.2 ∙ x.called)
        (in_all (λ y. listed y.name h.ledger ≡ true) (list_now share h.store) p.listing t.0 t.1)

-- a name held reads back what was stored under it
pub held_reads : (h : History) → Promised h → (n : ℕ) → held h.store n ≡ true → (blank : List ℕ)
    → read_of h.store h.area blank n ≡ bytes_under n h.ledger
held_reads h p n e blank =
    let f = find_listed (ReadsBack h) n h.ledger (ledger_reads h p) (sym (names_held h p n) ∙ e) in
    ap (read_of h.store h.area blank) (sym f.called) ∙ f.passes.1 blank ∙ sym f.has

-- an object held is as long as the page stored under its name
held_length : (h : History) → Promised h → (o : Obj) → In o (held_by h.store) → length (bytes_under o.name h.ledger) ≡ o.len
held_length h p o m =
    let os = list_now share h.store in
    let t = twin os (held_by h.store) (list_kinds share h.store) o m in
    let x = t.0 in
    let ends = in_all (By h.store.area) os (list_within share h.store p.holds (omega arith)) x t.1 in
    let named = in_all (λ y. listed y.name h.ledger ≡ true) os p.listing x t.1 in
    ap (λ n. length (bytes_under n h.ledger)) (sym t.2)
    ∙ ap length (sym (own_bytes h.area os h.ledger (list_distinct share h.store p.holds) p.stored x t.1 named))
    ∙ length-take-le x.len (drop x.at h.area) (omega (arith, length-drop x.at h.area, ends, p.own))
    ∙ t.3

-- THE VOLUME over a history
pub after_volume : (h : History) (cs : List Call) → AllNamed cs → Promised h
    → volume (held_by (after h cs).store) + total deleted_by h cs ≡ volume (held_by h.store) + total stored_by h cs
unfolding after total
after_volume h [] small p = refl
after_volume h (c ∷ cs) small p = omega (
  arith,
  call_volume h c small.0 (held_length h p),
  after_volume (serve h c) cs small.1 (call_keeps_all h c small.0 p).later,
)

-- the volume told is that of the objects held
pub volume_told : (h : History) → Promised h → volume_held h.store ≡ volume (held_by h.store)
unfolding volume_held ask_answer first
volume_told h p = rw (own_tests h.store h.store.area [] p.holds refl)

-- the map of the list: its objects, and the bytes of each
pub confirmed_map : (h : History) → let k = with_bytes h.ledger (list_now share h.store) in
    (objects_of k ≡ list_now share h.store) × (kinds (objects_of k) ≡ kinds (held_by h.store))
    × Every (λ p. p.bytes ≡ bytes_under p.object.name h.ledger) k
unfolding with_bytes
confirmed_map h = (objects_of_map h.ledger os, ap kinds (objects_of_map h.ledger os) ∙ list_kinds share h.store, own os)
  where
    os : List Obj
    os = list_now share h.store

    own : (xs : List Obj) → Every (λ p. p.bytes ≡ bytes_under p.object.name h.ledger) (with_bytes h.ledger xs)
    own [] = tt
    own (x ∷ xs) = (refl, own xs)

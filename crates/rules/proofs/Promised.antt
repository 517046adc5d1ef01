-- What every history keeps: the store is sound, each page of the ledger lies at its object's place, and each page of the last map kept lies where the
-- map says and is guarded. Each call, accepted or refused, keeps all this and writes on no byte of a page kept.
use mathlib.Core.Path.{◌≡◌, refl, sym, ap, ◌∙◌, subst}
use mathlib.Core.Logic.{◌⊎◌, inl, inr}
use mathlib.Core.Bool.{true, false}
use mathlib.Core.List.{List, [], ◌∷◌}
use Prim.Native.Nat.{ℕ, ◌≤◌}
use native.Mathlib.Omega.{arith}
use lib.ListN.{length, take, drop, length-drop}
use lib.Seq.{length-take-le}
use lib.Dec.{eqb}
use borrow.Author.Tests.{eqb-true, eqb-false}
use Rattle.rules.specs.House.{share}
use Rattle.rules.specs.Classes.{Obj}
use Rattle.rules.specs.Flush.{Move, moved, plan}
use Rattle.rules.specs.Stores.{Store, resting, flushing, Flush, at_stage, resting_at, start_in, advanced, places_now, held_at, list_at, list_now}
use Rattle.rules.specs.Sound.{sound}
use Rattle.rules.specs.Answers.{accepted}
use Rattle.rules.specs.Calls.{Write, written, Outcome, answering, storing_at, object, inserted, deleted, confirm_in}
use Rattle.rules.specs.History.{Call, insert, delete, step, confirm, outcome_of, Stored, History, ledger_by, kept_by, served, Named, without, listed}
use Rattle.rules.specs.History.{objects_of, Cut, LiesIn, Every}
use Rattle.rules.specs.declared.Answer.{Answer}
use Rattle.rules.specs.declared.Answer.TheVariants.{Done, Running}
use Rattle.rules.proofs.Lists.{every_map, All, In, in_all, all_in_lem, all_map}
use Rattle.rules.proofs.Facts.{Distinct}
use Rattle.rules.proofs.Names.{kinds, unique, all_kinds}
use Rattle.rules.proofs.Clear.{Clear}
use Rattle.rules.proofs.Steps.{Stepped}
use Rattle.rules.proofs.Safe.{Apart, target, stays, arrives}
use Rattle.rules.proofs.Writes.{EndsIn, insert_within}
use Rattle.rules.proofs.StepWithin.{By, MovesBy, each_next, moves_within}
use Rattle.rules.proofs.FlushKept.{sound_at}
use Rattle.rules.proofs.CallsKept.{inserted_sound, deleted_sound}
use Rattle.rules.proofs.ConfirmKept.{confirm_sound}
use Rattle.rules.proofs.Accepted.{MayStore, MayDelete, insert_cases, delete_cases, step_cases, confirm_cases}
use Rattle.rules.proofs.History.{inserted_accepted, deleted_accepted, refused_served}
use Rattle.rules.proofs.KeptClear.{sound_clear, inserted_clear, deleted_clear, inserted_unused}
use Rattle.rules.proofs.Now.{list_kinds, list_distinct, list_fits_lem, list_within}
use Rattle.rules.proofs.Cuts.{bytes_at, Spared, cut_spares, pages_stay, written_there, written_length, written_cut, lent_whole}
use Rattle.rules.proofs.Ledger.{every_object, objects_of_map, StoredIn, every_without, listed_without, listed_more, map_lies}
use Rattle.rules.proofs.Guarded.{Shielded, Guarded, inserted_fresh, deleted_fresh, fresh_guarded, step_safe, step_guarded, confirm_guarded}
use Rattle.rules.proofs.Listing.{Grown, inserted_grown, Shrunk, deleted_shrunk, Relisted, confirmed_relisted}

-- WHAT EVERY HISTORY KEEPS
pub record Promised (h : History) : Type 0 where
  pub holds : sound share h.store ≡ true
  pub own : length h.area ≡ h.store.area
  pub stored : Every (StoredIn h.area (list_now share h.store)) h.ledger
  pub listing : All (λ o. listed o.name h.ledger ≡ true) (list_now share h.store)
  pub some : All (λ o. 1 ≤ o.len) (objects_of h.kept)
  pub guarded : Guarded h.store h.store.stage (objects_of h.kept)
  pub lie : Every (LiesIn h.area) h.kept

-- what a call comes to: it writes on no page kept, and what was promised is
pub record Keeps (h : History) (c : Call) (o : Outcome) : Type 0 where
  pub spares : All (Spared o.write) (objects_of h.kept)
  pub later : Promised (served h c o)

-- a write of nothing spares everything
silent_spares : (os : List Obj) → All (Spared (record { at = 0; bytes = [] })) os
silent_spares os = all_in_lem (Spared (record { at = 0; bytes = [] })) os (λ o m x a b c d. omega arith)

-- A REFUSED CALL
refused_keeps : (h : History) (c : Call) → Promised h → (a : Answer) → accepted a ≡ false → Keeps h c (answering h.store a)
refused_keeps h c p a e = record { spares = silent_spares (objects_of h.kept); later = subst Promised (sym (refused_served h c a e)) p }

-- the history after an accepted call
taken : (h : History) (c : Call) (o : Outcome) → accepted o.answer ≡ true
    → served h c o ≡ record { store = o.store; area = written h.area o.write; ledger = ledger_by h c; kept = kept_by h c }
taken h c o e = rw e

-- the list at rest, and in a flush
now_resting : (s : Store) → s.stage ≡ resting → list_now share s ≡ s.objects
unfolding list_now
now_resting s rests = ap (list_at share s) rests

now_flushing : (s : Store) (f : Flush) → s.stage ≡ flushing f → list_now share s ≡ places_now share s f
unfolding list_now
now_flushing s f runs = ap (list_at share s) runs

-- AN ACCEPTED INSERT
module _ (h : History) (p : Promised h) (lent n : ℕ) (page : List ℕ) (may : MayStore h.store (length (take lent h.area)) n page) where
  abbrev s : Store
  s = h.store

  abbrev into : Outcome
  into = inserted share (resting_at s.area s.regions s.objects) n page

  grown : Grown s.area n page s.objects into
  grown = inserted_grown s.area s.regions s.objects n page

  into_sound : sound share into.store ≡ true
  into_sound = inserted_sound share s.area s.regions s.objects n page may.at_rest may.may

  kept_clear : All (Clear share s.regions) (objects_of h.kept)
  kept_clear = subst (λ g. Guarded s g (objects_of h.kept)) may.rests p.guarded

  spared : (os : List Obj) → All (Clear share s.regions) os → All (Spared into.write) os
  spared os clear = all_map (λ o k x a b c d. k x a b (inserted_unused share s.area s.regions s.objects n page may.may x c d)) os clear

  fits : EndsIn (length h.area) into.write
  fits = omega (arith, p.own, insert_within share s.area s.regions s.objects n page (omega arith) may.at_rest may.may)

  whole : Cut h.area into.write (written h.area into.write)
  whole = written_cut h.area into.write fits

  still : (q : Stored) → StoredIn h.area (list_now share s) q → StoredIn (written h.area into.write) (list_now share into.store) q
  still q k =
      let m : In k.0 s.objects = rw (now_resting s may.rests) at k.1 in
      let miss = in_all (Spared into.write) s.objects (spared s.objects (sound_clear share s may.rests p.holds)) k.0 m in
      (k.0, grown.old k.0 m, k.2, cut_spares h.area into.write (written h.area into.write) k.0 whole miss ∙ k.3)

  named_there : (o : Obj) → (o ≡ object n into.write.at page) ⊎ In o s.objects
      → listed o.name (record { name = n; bytes = page } ∷ h.ledger) ≡ true
  named_there o (inl e) = listed_more (record { name = n; bytes = page }) o.name h.ledger (inl (ap (λ x. x.name) (sym e)))
  named_there o (inr m) = listed_more (record { name = n; bytes = page }) o.name h.ledger
      (inr (in_all (λ x. listed x.name h.ledger ≡ true) s.objects (rw (now_resting s may.rests) at p.listing) o m))

  insert_kept : Keeps h (insert lent n page) into
  insert_kept = record {
    spares = spared (objects_of h.kept) kept_clear;
    later = subst Promised (sym (taken h (insert lent n page) into (inserted_accepted share (resting_at s.area s.regions s.objects) n page))) (record {
      holds = into_sound;
      own = written_length h.area into.write fits ∙ p.own ∙ sym grown.long;
      stored = (
        (
          object n into.write.at page,
          grown.new,
          refl,
          subst (λ b. take (length b) (drop into.write.at (written h.area into.write)) ≡ b) grown.wrote
              (written_there h.area into.write fits),
        ),
        every_map still h.ledger p.stored,
      );
      listing = all_in_lem _ (list_now share into.store) (λ o m. named_there o (grown.only o m));
      some = p.some;
      guarded = fresh_guarded into.store into.store.stage refl into_sound (inserted_fresh (resting_at s.area s.regions s.objects) n page)
          (objects_of h.kept) p.some
          (inserted_clear share s.area s.regions s.objects n page (objects_of h.kept) may.may kept_clear);
      lie = pages_stay h.area into.write (written h.area into.write) h.kept whole
          (every_object (Spared into.write) h.kept (spared (objects_of h.kept) kept_clear)) p.lie;
    });
  }

-- AN ACCEPTED DELETE
delete_kept : (h : History) (p : Promised h) (n : ℕ) (may : MayDelete h.store n) → let s = h.store in
    Keeps h (delete n) (deleted share (resting_at s.area s.regions s.objects) may.found.object.name may.found.object.len)
delete_kept h p n may = subst (λ k. Keeps h (delete k) gone) may.found.called (record {
  spares = rw shrunk.silent (silent_spares (objects_of h.kept));
  later = subst Promised (sym (taken h (delete k) gone (deleted_accepted share (resting_at s.area s.regions s.objects) k may.found.object.len)))
      (rw shrunk.silent (record {
        holds = gone_sound;
        own = p.own ∙ sym shrunk.long;
        stored = every_map still (without k h.ledger) (every_without (StoredIn h.area (list_now share s)) k h.ledger p.stored);
        listing = all_in_lem _ (list_now share gone.store) (λ o m. let r = shrunk.only o m in
            listed_without k o.name h.ledger r.1
            (in_all (λ x. listed x.name h.ledger ≡ true) s.objects (rw (now_resting s may.rests) at p.listing) o r.0));
        some = p.some;
        guarded = fresh_guarded gone.store gone.store.stage refl gone_sound
            (deleted_fresh (resting_at s.area s.regions s.objects) k may.found.object.len) (objects_of h.kept) p.some
            (deleted_clear share (resting_at s.area s.regions s.objects) k may.found.object.len (objects_of h.kept)
            (subst (λ g. Guarded s g (objects_of h.kept)) may.rests p.guarded));
        lie = p.lie;
      }));
})
  where
    s : Store
    s = h.store

    k : ℕ
    k = may.found.object.name

    gone : Outcome
    gone = deleted share (resting_at s.area s.regions s.objects) k may.found.object.len

    shrunk : Shrunk s.area k s.objects gone
    shrunk = deleted_shrunk s.area s.regions s.objects k may.found.object.len

    gone_sound : sound share gone.store ≡ true
    gone_sound = deleted_sound share s.area s.regions s.objects may.found.object may.at_rest may.found.among

    still : (q : Stored) → StoredIn h.area (list_now share s) q × (q.name ≡ k → ⊥) → StoredIn h.area (list_now share gone.store) q
    still q x = let o = x.0 in (o.0, shrunk.old o.0 (rw (now_resting s may.rests) at o.1) (λ e. x.1 (sym o.2 ∙ e)), o.2, o.3)

-- AN ACCEPTED CONFIRMATION: the map kept is that of the list
confirm_kept : (h : History) → Promised h → (room : ℕ) (w : Store) → sound share w ≡ true → Relisted h.store.area (list_now share h.store) w
    → Guarded w w.stage (list_now share h.store) → Keeps h (confirm room) (answering w Done)
confirm_kept h p room w holds same guard =
    let os = list_now share h.store in
    record {
      spares = silent_spares (objects_of h.kept);
      later = record {
        holds = holds;
        own = p.own ∙ sym same.long;
        stored = every_map (λ q k. (k.0, same.old k.0 k.1, k.2, k.3)) h.ledger p.stored;
        listing = all_in_lem _ (list_now share w) (λ o m. in_all (λ x. listed x.name h.ledger ≡ true) os p.listing o (same.only o m));
        some = rw (objects_of_map h.ledger os) (all_map (λ o k. k.some_length) os (list_fits_lem share h.store p.holds));
        guarded = rw (objects_of_map h.ledger os) guard;
        lie = map_lies h.area os h.ledger (list_distinct share h.store p.holds) p.stored
            (subst (λ a. All (By a) os) (sym p.own) (list_within share h.store p.holds (omega arith))) os
            (all_in_lem _ os (λ o m. (m, in_all (λ x. listed x.name h.ledger ≡ true) os p.listing o m)));
      };
    }

-- AN ACCEPTED STEP in a flush
module _ (h : History) (p : Promised h) (f : Flush) (runs : h.store.stage ≡ flushing f) (law : Stepped share h.store f) where
  abbrev here : List Obj
  here = places_now share h.store f

  abbrev next : Move
  next = law.next

  abbrev moving : Write
  moving = record { at = next.to; bytes = bytes_at h.area next.object }

  abbrev beyond : Store
  beyond = at_stage h.store (flushing (advanced share h.store f))

  shield : Shielded h.store f (objects_of h.kept)
  shield = subst (λ g. Guarded h.store g (objects_of h.kept)) runs p.guarded

  by : MovesBy h.store.area next
  by = each_next (MovesBy h.store.area) (plan share (start_in h.store f)) f.made next law.rest
      (moves_within share h.store f (omega arith) runs p.holds) law.first

  wide : length moving.bytes ≡ next.object.len
  wide = length-take-le next.object.len (drop next.object.at h.area) (omega (arith, length-drop next.object.at h.area, by.1, p.own))

  reach : EndsIn (length h.area) moving
  reach = omega (arith, wide, by.0, p.own)

  clears : (o : Obj) → In o here ⊎ In o shield.seen → Spared moving o
  clears o m x a b c d = elim m [
    | inl k ↦ in_all (λ y. Apart (target next) y) here (step_safe h.store f (objects_of h.kept) shield law).1 o k x a b c (omega (arith, wide))
    | inr k ↦ in_all (λ y. Apart (target next) y) shield.seen (step_safe h.store f (objects_of h.kept) shield law).2 o k x a b c (omega (
      arith,
      wide,
    ))
  ]

  kept_spared : All (Spared moving) (objects_of h.kept)
  kept_spared = all_map clears (objects_of h.kept) shield.covered

  list_beyond : list_now share beyond ≡ moved next here
  unfolding list_now
  list_beyond = law.places

  done : Cut h.area moving (written h.area moving)
  done = written_cut h.area moving reach

  carried : (q : Stored) → StoredIn h.area here q → StoredIn (written h.area moving) (moved next here) q
  carried q k = elim (eqb k.0.name next.object.name) as
      (λ b. eqb k.0.name next.object.name ≡ b → StoredIn (written h.area moving) (moved next here) q) [
        | true ↦ λ e.
            let there = (step_safe h.store f (objects_of h.kept) shield law).0 in
            let same : k.0 ≡ next.object = unique here differ k.0 next.object k.1 there (eqb-true k.0.name next.object.name e) in (
              target next,
              arrives next here there,
              ap (λ o. o.name) (sym same) ∙ k.2,
              subst (λ n. take n (drop next.to (written h.area moving)) ≡ moving.bytes) wide (written_there h.area moving reach)
                  ∙ ap (bytes_at h.area) (sym same) ∙ k.3,
            )
        | false ↦ λ e. (
          k.0,
          stays next k.0 here (eqb-false k.0.name next.object.name e) k.1,
          k.2,
          cut_spares h.area moving (written h.area moving) k.0 done (clears k.0 (inl k.1)) ∙ k.3,
        )
      ] refl
    where
      differ : Distinct here
      differ = rw (now_flushing h.store f runs) at (list_distinct share h.store p.holds)

  step_kept : (lent : ℕ) → Keeps h (step lent) (storing_at beyond Running moving.at moving.bytes)
  step_kept lent = record {
    spares = kept_spared;
    later = record {
      holds = sound_at share h.store f (advanced share h.store f).made (advanced share h.store f).due runs p.holds law.on.fits;
      own = written_length h.area moving reach ∙ p.own;
      stored = rw list_beyond (every_map carried h.ledger (rw (now_flushing h.store f runs) at p.stored));
      listing = all_kinds (λ n l. listed n h.ledger ≡ true) (list_now share h.store) (list_now share beyond)
          (list_kinds share h.store ∙ ap (λ g. kinds (held_at h.store g)) runs ∙ sym (list_kinds share beyond)) p.listing;
      some = p.some;
      guarded = step_guarded h.store f (objects_of h.kept) shield law;
      lie = pages_stay h.area moving (written h.area moving) h.kept done (every_object (Spared moving) h.kept kept_spared) p.lie;
    };
  }

-- EVERY CALL keeps what was promised, and writes on no page kept
pub call_keeps_all : (h : History) (c : Call) → Named c → Promised h → Keeps h c (outcome_of h.store h.area c)
call_keeps_all h (insert lent n page) small p = insert_cases (Keeps h (insert lent n page)) h.store (refused_keeps h (insert lent n page) p)
    (length (take lent h.area)) n page small (insert_kept h p lent n page)
call_keeps_all h (delete n) small p = delete_cases (Keeps h (delete n)) h.store (refused_keeps h (delete n) p) n (delete_kept h p n)
call_keeps_all h (step lent) small p = step_cases (Keeps h (step lent)) h.store (refused_keeps h (step lent) p) (take lent h.area)
    (record { spares = silent_spares (objects_of h.kept); later = p })
    (λ f runs holds own law.
    subst (λ area. Keeps h (step lent)
    (storing_at (at_stage h.store (flushing (advanced share h.store f))) Running law.next.to
    (take law.next.object.len (drop law.next.object.at area))))
    (sym (lent_whole lent h.area (own ∙ sym p.own))) (step_kept h p f runs law lent))
call_keeps_all h (confirm room) small p = confirm_cases (Keeps h (confirm room)) h.store (refused_keeps h (confirm room) p) room
    (λ rests holds. confirm_kept h p room h.store holds (record { long = refl; old = λ x m. m; only = λ x m. m })
    (subst (λ g. Guarded h.store g (list_now share h.store)) (sym rests) (rw (now_resting h.store rests) (sound_clear share h.store rests holds))))
    (λ f runs holds. confirm_kept h p room (confirm_in share h.store (flushing f)) (confirm_sound share h.store f (omega arith) runs holds)
    (rw (now_flushing h.store f runs) (confirmed_relisted h.store f runs))
    (rw (now_flushing h.store f runs)
    (confirm_guarded h.store f (objects_of h.kept) runs holds (subst (λ g. Guarded h.store g (objects_of h.kept)) runs p.guarded))))

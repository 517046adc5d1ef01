-- DEMANDS 2 AND 3 OF THE RULES, each with its statement; the proofs are in the files named by the imports. Every one speaks of any history reached:
-- any area opened and any calls after it, accepted or refused. A history is made of insert_of, delete_of, step_of, confirm_of, list_now and written
-- (specs/History.antt), so places, bounds, runs and moves are those of the rules as it stands; laws 2 to 8 and 11 of Index.antt say what they are.
use mathlib.Core.Path.{◌≡◌, refl, ap, ◌∙◌}
use mathlib.Core.Bool.{true, false}
use mathlib.Core.List.{List, ◌++◌}
use Prim.Native.Nat.{ℕ, ◌+◌}
use native.Mathlib.Omega.{arith}
use lib.ListN.{length, take, drop}
use Rattle.rules.specs.House.{share, area_fits}
use Rattle.rules.specs.Classes.{volume, filter}
use Rattle.rules.specs.Stores.{Store, held_by, list_now}
use Rattle.rules.specs.Answers.{accepted}
use Rattle.rules.specs.Calls.{written, held, named, read_of, volume_held, confirm_of}
use Rattle.rules.specs.History.{Call, confirm, lent_by, outcome_of, History, opening, serve, served, after, Named, AllNamed, Reached, opened}
use Rattle.rules.specs.History.{stored_by, deleted_by, total, listed, bytes_under, objects_of, Cut, LiesIn, ReadsBack, Every}
use Rattle.rules.proofs.Lists.{clash}
use Rattle.rules.proofs.History.{refused_same, refused_served}
use Rattle.rules.proofs.Names.{kinds}
use Rattle.rules.proofs.Cuts.{lent_written}
use Rattle.rules.proofs.Promised.{Promised, call_keeps_all}
use Rattle.rules.proofs.Demands.{reached, after_reached, open_promised, accepted_opening, lent_ends, cut_holds, torn_holds, done_holds}
use Rattle.rules.proofs.Demands.{ledger_reads, names_held, held_reads, after_volume, volume_told, confirmed_map}

-- Any calls after an opening, one after another, reach a history.
pub reached_law : (area : List ℕ) (cs : List Call) → AllNamed cs → Reached (after (opening area) cs)
reached_law area cs small = after_reached (opening area) cs small (opened area)

-- DEMAND 2. Each page stored and not deleted reads back, at any time, in a flush too.
pub demand_2_read : (h : History) → Reached h → Every (ReadsBack h) h.ledger
demand_2_read = reached (λ h. Every (ReadsBack h) h.ledger) ledger_reads (λ area e. tt)

-- The names held are those of the pages stored and not deleted,
pub demand_2_names : (h : History) → Reached h → (n : ℕ) → held h.store n ≡ listed n h.ledger
unfolding named filter listed
demand_2_names = reached (λ h. (n : ℕ) → held h.store n ≡ listed n h.ledger) names_held (λ area e n. refl)

-- so a name held reads back the bytes stored under it.
pub demand_2_held : (h : History) → Reached h
    → (n : ℕ) → held h.store n ≡ true → (blank : List ℕ) → read_of h.store h.area blank n ≡ bytes_under n h.ledger
unfolding named filter
demand_2_held = reached (λ h. (n : ℕ) → held h.store n ≡ true → (blank : List ℕ) → read_of h.store h.area blank n ≡ bytes_under n
    h.ledger) held_reads
    (λ area e n k blank. absurd (clash k refl))

-- The volume told is the sum of the lengths accepted less those deleted, over the history.
pub demand_2_volume : (area : List ℕ) (cs : List Call) → area_fits (length area) ≡ true → AllNamed cs → let h = after (opening area) cs in
    volume_held h.store + total deleted_by (opening area) cs ≡ total stored_by (opening area) cs
unfolding volume
demand_2_volume area cs fits small =
    omega (arith, volume_told (after (opening area) cs) (accepted_opening area cs fits small), after_volume (opening area) cs small (open_promised area fits))

-- After an accepted confirmation the last map kept lists the objects at their places now, which have the names and lengths of those held, each with
-- the bytes stored under its name. That the bytes handed out are read back to these objects is `demand_2_map_bytes` of the crate map_laws.
pub demand_2_map : (h : History) (room : ℕ) → accepted (confirm_of h.store room).answer ≡ true → let k = (serve h (confirm room)).kept in
    (objects_of k ≡ list_now share h.store) × (kinds (objects_of k) ≡ kinds (held_by h.store))
    × Every (λ p. p.bytes ≡ bytes_under p.object.name h.ledger) k
demand_2_map h room e = rw e (confirmed_map h)

-- A refused call leaves store, area, ledger and last map as they were.
pub demand_2_refused : (h : History) (c : Call) → accepted (outcome_of h.store h.area c).answer ≡ false → serve h c ≡ h
demand_2_refused h c e = ap (served h c) (refused_same h.store h.area c e) ∙ refused_served h c (outcome_of h.store h.area c).answer e

-- DEMAND 3. Whatever a cut in any call leaves of the area, each page of the last map kept lies at its place with its bytes.
pub demand_3_cut : (h : History) → Reached h
    → (c : Call) → Named c → (cut : List ℕ) → Cut h.area (outcome_of h.store h.area c).write cut → Every (LiesIn cut) h.kept
demand_3_cut = reached (λ h. (c : Call) → Named c → (cut : List ℕ) → Cut h.area (outcome_of h.store h.area c).write cut → Every
    (LiesIn cut) h.kept) cut_holds (λ area e c small cut k. tt)

-- So it does with any bytes at all in the place that the call writes,
pub demand_3_torn : (h : History) → Reached h
    → (c : Call) → Named c → let w = (outcome_of h.store h.area c).write in
    (bytes : List ℕ) → length bytes ≡ length w.bytes → Every (LiesIn (written h.area (record { at = w.at; bytes = bytes }))) h.kept
demand_3_torn = reached (λ h. (c : Call) → Named c → let w = (outcome_of h.store h.area c).write in
    (bytes : List ℕ) → length bytes ≡ length w.bytes → Every (LiesIn (written h.area (record {
      at = w.at;
      bytes = bytes;
    }))) h.kept) torn_holds (λ area e c small bytes k. tt)

-- and after the whole call, also where that hands out the next map: a host that has not kept that one yet still has this one.
pub demand_3_done : (h : History) → Reached h → (c : Call) → Named c → Every (LiesIn (serve h c).area) h.kept
demand_3_done = reached (λ h. (c : Call) → Named c → Every (LiesIn (serve h c).area) h.kept) done_holds (λ area e c small. tt)

-- Once it is kept, each page of the next map does too.
pub demand_3_kept : (h : History) → Reached h → Every (LiesIn h.area) h.kept
demand_3_kept = reached (λ h. Every (LiesIn h.area) h.kept) (λ h p. p.lie) (λ area e. tt)

-- All this rests on what every call keeps, from any history of which it holds, whether an opening reaches it or not.
pub promised_law : (h : History) (c : Call) → Named c → Promised h → Promised (serve h c)
promised_law h c small p = (call_keeps_all h c small p).later

-- A history writes on the one area what a call writes on the bytes that it is lent: what lies behind these stays.
pub lent_law : (s : Store) (area : List ℕ) (c : Call) → Named c → let w = (outcome_of s area c).write in
    written (take (lent_by c) area) w ++ drop (lent_by c) area ≡ written area w
lent_law s area c small = lent_written (lent_by c) area (outcome_of s area c).write (lent_ends s area c small)

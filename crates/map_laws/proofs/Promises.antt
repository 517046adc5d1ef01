-- DEMANDS 2 AND 3 FOR THE BYTES THAT A HOST KEEPS: those that an accepted confirmation puts at the front of the buffer lent (`front_of`), over any history
-- reached, as those of crates/rules/proofs/Promises.antt.
use mathlib.Core.Path.{◌≡◌, sym, ap, ◌∙◌, subst}
use mathlib.Core.Bool.{true, false}
use mathlib.Core.List.{List}
use Prim.Native.Nat.{ℕ}
use lib.ListN.{length}
use Rattle.rules.specs.House.{share, area_fits}
use Rattle.rules.specs.Classes.{by_name}
use Rattle.rules.specs.Stores.{list_now}
use Rattle.rules.specs.Answers.{accepted}
use Rattle.rules.specs.Calls.{confirm_of}
use Rattle.rules.specs.History.{Call, confirm, outcome_of, History, opening, serve, after, Named, AllNamed, Reached, with_bytes, objects_of, Cut, LiesIn, Every}
use Rattle.rules.specs.declared.Answer.TheVariants.{Done}
use Rattle.rules.proofs.Lists.{clash}
use Rattle.rules.proofs.History.{refused_opening}
use Rattle.rules.proofs.Ledger.{objects_of_map}
use Rattle.rules.proofs.Promised.{Promised, call_keeps_all}
use Rattle.rules.proofs.Demands.{reached, after_promised, cut_holds}
use Rattle.mapform.specs.Reading.{map_answer, list_of}
use Rattle.map_laws.specs.Kept.{front_of, NoMap}
use Rattle.map_laws.proofs.Mappable.{front_accepted, front_read}
use Rattle.map_laws.proofs.Pages.{pages_by_name, kept_stays}

-- a refused opening confirms nothing
none_confirmed : (area : List ℕ) → area_fits (length area) ≡ false → (room : ℕ) → accepted (confirm_of (opening area).store room).answer ≡ true
    → ⊥
none_confirmed area e room k = clash k (ap (λ o. accepted o.answer) (refused_opening (length area) area (confirm room) e))

-- DEMAND 2. The bytes that an accepted confirmation hands out are an accepted map, and are read back to the objects of the last map kept, in name order.
abbrev pub MapRead : History → Type 0
MapRead h = (buf : List ℕ) → accepted (confirm_of h.store (length buf)).answer ≡ true
    → (map_answer (length h.area) (front_of h.store buf) ≡ Done)
    × (list_of (length h.area) (front_of h.store buf) ≡ by_name (objects_of (serve h (confirm (length buf))).kept))

pub demand_2_map_bytes : (h : History) → Reached h → MapRead h
demand_2_map_bytes = reached MapRead read (λ area e buf k. absurd (none_confirmed area e (length buf) k))
  where
    read : (h : History) → Promised h → MapRead h
    read h p buf e = rw (p.own, e)
        (front_accepted h.store buf e, front_read h.store buf e ∙ ap by_name (sym (objects_of_map h.ledger (list_now share h.store))))

-- DEMAND 3. Until the next map is handed out, whatever calls come and whatever a cut in one of them leaves: each object that is read from those bytes
-- lies where they say, with the bytes that were stored under its name when they were handed out.
abbrev pub MapLies : History → Type 0
MapLies h = (buf : List ℕ) → accepted (confirm_of h.store (length buf)).answer ≡ true → let k = serve h (confirm (length buf)) in
    (ds : List Call) → AllNamed ds → NoMap k ds → let l = after k ds in
    (c : Call) → Named c → (cut : List ℕ) → Cut l.area (outcome_of l.store l.area c).write cut
    → Every (LiesIn cut) (with_bytes h.ledger (list_of (length h.area) (front_of h.store buf)))

pub demand_3_map : (h : History) → Reached h → MapLies h
demand_3_map = reached MapLies lies (λ area e buf k. absurd (none_confirmed area e (length buf) k))
  where
    lies : (h : History) → Promised h → MapLies h
    lies h p buf e ds small none c named cut w =
        let k = serve h (confirm (length buf)) in
        let l = after k ds in
        let later = after_promised k ds small (call_keeps_all h (confirm (length buf)) tt p).later in
        let now = cut_holds l later c named cut w in
        let os = list_now share h.store in
        let kept : l.kept ≡ with_bytes h.ledger os = kept_stays k ds none ∙ rw e in
        rw (p.own, front_read h.store buf e) (pages_by_name (LiesIn cut) h.ledger os (subst (Every (LiesIn cut)) kept now))

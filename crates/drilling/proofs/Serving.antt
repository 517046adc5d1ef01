-- The desk after a call: the history that the call's contract speaks of is any that has come to this store and this area.
use mathlib.Core.Path.{◌≡◌, refl, ap, ◌∙◌}
use mathlib.Core.Bool.{true, false, cond}
use mathlib.Core.List.{List, [], ◌∷◌, ◌++◌}
use Prim.Native.Nat.{ℕ, ◌≤◌, min}
use native.Mathlib.Nat.{min-le_right}
use native.Mathlib.Omega.{arith}
use borrow.Author.Tests.{leb-true}
use lib.Dec.{leb}
use lib.ListN.{length, take, drop, replicate, length-append, length-drop, length-take, length-replicate}
use lib.Seq.{take_at}
use Rattle.rules.specs.House.{share}
use Rattle.rules.specs.Classes.{Obj}
use Rattle.rules.specs.Stores as stores
use Rattle.rules.specs.Answers.{number_of, accepted}
use Rattle.rules.specs.Calls.{confirm_of, read_answer, read_of, page_at, named, footprint_of, volume_held}
use Rattle.rules.specs.History.{Call, confirm, History}
use Rattle.mapform.specs.Maps.{map_of, put_into}
use Rattle.std.specs.Prelude.{Some, sum}
use Rattle.lines.specs.declared.Drill.TheVariants.{Confirm}
use Rattle.store.specs.Served.{model, map_into}
use Rattle.store.specs.declared.Served.{Served}
use Rattle.bridge.specs.Calling as bridge
use Rattle.replies.specs.Lines.{three, shown}
use Rattle.lines.specs.Requests.{most_room}
use Rattle.desks.specs.Desks.{unwritten, blank_page, called, sized, page_read}
use Rattle.desks.specs.Served.{desk_in, ServedAs}
use Rattle.replies.specs.declared.Reply.TheVariants.{Bytes}
use Rattle.desks.specs.declared.Desk.{Desk}
use Rattle.desks.proofs.Parts.{same_desk}
use Rattle.leaves.proofs.Parts.{take_same}

-- a history that has come to this store and this area
abbrev pub standing : Desk → List ℕ → History
standing d area = record { store = model d.store; area = area; ledger = []; kept = [] }

pub stands : (d : Desk) (area : List ℕ) → bridge.StandsAt (standing d area) d.store area
stands d area = record { at_store = refl; at_area = refl }

module _ (d : Desk) (area : List ℕ) (c : Call) (r : Served) (after : List ℕ) (k : bridge.ServedAs (standing d area) c r after) where
  -- the desk after a call
  pub desk_called : desk_in (record { store = r.store; opened = d.opened; lent = d.lent }) after ≡ called (desk_in d area) c
  desk_called = same_desk k.store refl refl k.area

  -- its answer with the sizes of the store
  pub said_sized : three (number_of r.answer) (footprint_of (model r.store)) (volume_held (model r.store)) ≡ sized (desk_in d area) c
  said_sized = rw (k.store, k.answer)

-- a confirmation keeps the buffer's length
pub into_long : (s : stores.Store) (buf : List ℕ) → length (map_into s buf) ≡ length buf
unfolding map_into
into_long s buf = elim (accepted (confirm_of s (length buf)).answer) as (λ b. length (cond b (put_into m buf) buf) ≡ length buf) [
  | true ↦ (elim (leb (length m) (length buf)) as
      (λ b. leb (length m) (length buf) ≡ b → length (cond b (m ++ drop (length m) buf) buf) ≡ length buf) [
        | true ↦ λ e. omega (arith, length-append m (drop (length m) buf), length-drop (length m) buf, leb-true (length m) (length buf) e)
        | false ↦ λ e. refl
      ]) refl
  | false ↦ refl
]
  where
    m : List ℕ
    m = map_of (stores.list_now share s)

-- a page that is read is no longer than what was lent
pub read_short : (s : stores.Store) (area blank : List ℕ) (n most : ℕ) → length area ≤ most → length blank ≤ most
    → length (read_of s area blank n) ≤ most
unfolding read_of
read_short s area blank n most p q =
    elim (accepted (read_answer s (length area) n)) as (λ b. length (cond b (page_at area blank (named n (stores.list_now share s))) blank) ≤ most) [
      | true ↦ by_found (named n (stores.list_now share s))
      | false ↦ q
    ]
  where
    by_found : (os : List Obj) → length (page_at area blank os) ≤ most
    by_found [] = q
    by_found (o ∷ os) = omega (arith, length-take o.len (drop o.at area), min-le_right o.len (length (drop o.at area)), length-drop o.at area)

-- a read's reply
pub page_said : (s : stores.Store) (part lent page : List ℕ) (name a total : ℕ) → part ≡ lent → a ≡ number_of (read_answer s (length part) name)
    → page ≡ read_of s part blank_page name → total ≡ sum page
    → three a (length page) total ≡ page_read s lent name
page_said s part lent page name a total p e f g = rw (g, f, e, p)

-- the part of a filled buffer that is lent from its start on
pub filled_part : (k byte : ℕ) (page first : List ℕ) → page ≡ replicate (length first) byte → k ≤ length first
    → take k page ≡ replicate k byte
filled_part k byte page first e h = rw e (take_same k (length first) byte h)

-- a confirmation's desk and reply
pub confirm_served : (d : Desk) (area : List ℕ) (n room a : ℕ) (r : Served) (after part rest filled : List ℕ) → room ≡ min n most_room
    → filled ≡ replicate most_room unwritten
    → bridge.ServedAs (standing d area) (confirm (length (take room filled))) r after → a ≡ number_of r.answer
    → part ≡ map_into (model d.store) (take room filled)
    → ServedAs (desk_in d area) (Some (Confirm n)) (record {
      desk = record { store = r.store; opened = d.opened; lent = d.lent };
      reply = Bytes a room;
    }) after (part ++ rest)
confirm_served d area n room a r after part rest filled e f k g p =
    let within : room ≤ most_room = omega (arith, e, min-le_right n most_room) in
    let whole : take room filled ≡ replicate room unwritten = rw f (take_same room most_room unwritten within) in
    let long : length (take room filled) ≡ min n most_room = ap length whole ∙ length-replicate room unwritten ∙ e in
    let k' : bridge.ServedAs (standing d area) (confirm (min n most_room)) r after = rw long at k in
    let map : part ≡ map_into (model d.store) (replicate room unwritten) = p ∙ ap (map_into (model d.store)) whole in
    let size : length part ≡ room = ap length map ∙ into_long (model d.store) (replicate room unwritten) ∙ length-replicate room unwritten in
    record {
      desk = desk_called d area (confirm (min n most_room)) r after k';
      reply = ap (λ bs. shown a bs) (take_at part rest room size ∙ map ∙ ap (λ m. map_into (model d.store) (replicate m unwritten)) e)
          ∙ ap (λ m. shown m (map_into (model d.store) (replicate (min n most_room) unwritten))) (g ∙ ap number_of k'.answer);
    }

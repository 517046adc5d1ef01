-- A history: one opening and the calls after it, accepted or refused, each on the store last handed back and the one area. Demands 2 and 3 speak of
-- every history. The calls that only ask (find, read, footprint, volume, due) hand back no store and write nothing, so they leave a history as it is.
use Rattle.std.specs.Prelude.{◌≡◌, ℕ, ◌+◌, ◌≤◌, ◌<◌, Bool, false, cond, ◌||◌, List, [], ◌∷◌, map, length, get_or, take, drop, eqb}
use Rattle.rules.specs.House.{share, most_name}
use Rattle.rules.specs.Classes.{Obj, end_of}
use Rattle.rules.specs.Stores.{Store, list_now}
use Rattle.rules.specs.Answers.{accepted}
use Rattle.rules.specs.Calls.{Write, written, Outcome, open_store, insert_of, delete_of, step_of, confirm_of, read_answer, read_of}
use Rattle.rules.specs.declared.Answer.TheVariants.{Done}

-- a call that may change the store. An insert lends so many bytes of the area, and gives a name and a page; a delete gives a name; a step lends so
-- many bytes of the area; a confirmation lends a buffer of so much room
pub data Call : Type 0 where
  insert : ℕ → ℕ → List ℕ → Call
  delete : ℕ → Call
  step : ℕ → Call
  confirm : ℕ → Call

-- the number of bytes of the area that a call lends
abbrev pub lent_by : Call → ℕ
lent_by (insert lent n page) = lent
lent_by (delete n) = 0
lent_by (step lent) = lent
lent_by (confirm room) = 0

-- what a call comes to, by the rule that its contract cites
abbrev pub outcome_of : Store → List ℕ → Call → Outcome
outcome_of s area (insert lent n page) = insert_of s (length (take lent area)) n page
outcome_of s area (delete n) = delete_of s n
outcome_of s area (step lent) = step_of s (take lent area)
outcome_of s area (confirm room) = confirm_of s room

-- a page stored: its name and its bytes
pub record Stored : Type 0 where
  pub name : ℕ
  pub bytes : List ℕ

-- a page of a map: an object at its place, and the bytes it was stored with
pub record Page : Type 0 where
  pub object : Obj
  pub bytes : List ℕ

-- a history: the store last handed back, the area's bytes, the pages stored and not deleted, and the last map kept
pub record History : Type 0 where
  pub store : Store
  pub area : List ℕ
  pub ledger : List Stored
  pub kept : List Page

-- an opening over any area: nothing is stored, and before the first map the list is empty
abbrev pub opening : List ℕ → History
opening area = record { store = open_store (length area); area = area; ledger = []; kept = [] }

-- the ledger without a name
unfoldable pub without : ℕ → List Stored → List Stored
without n [] = []
without n (p ∷ ps) = let rest = without n ps in cond (eqb p.name n) rest (p ∷ rest)

-- a name is in the ledger
unfoldable pub listed : ℕ → List Stored → Bool
listed n [] = false
listed n (p ∷ ps) = eqb p.name n || listed n ps

-- the bytes stored under a name, none if it is not there
unfoldable pub bytes_under : ℕ → List Stored → List ℕ
bytes_under n [] = []
bytes_under n (p ∷ ps) = let later = bytes_under n ps in cond (eqb p.name n) p.bytes later

-- the map of a list of objects, each with the bytes it was stored with
unfoldable pub with_bytes : List Stored → List Obj → List Page
with_bytes ledger [] = []
with_bytes ledger (o ∷ os) = record { object = o; bytes = bytes_under o.name ledger } ∷ with_bytes ledger os

-- the objects of a map
abbrev pub objects_of : List Page → List Obj
objects_of ps = map (λ p. p.object) ps

-- the ledger after an accepted call
abbrev pub ledger_by : History → Call → List Stored
ledger_by h (insert lent n page) = record { name = n; bytes = page } ∷ h.ledger
ledger_by h (delete n) = without n h.ledger
ledger_by h (step lent) = h.ledger
ledger_by h (confirm room) = h.ledger

-- the last map kept after an accepted call: the map that a confirmation hands out is kept before the next call
abbrev pub kept_by : History → Call → List Page
kept_by h (insert lent n page) = h.kept
kept_by h (delete n) = h.kept
kept_by h (step lent) = h.kept
kept_by h (confirm room) = with_bytes h.ledger (list_now share h.store)

-- a history after a call, by what the call came to
abbrev pub served : History → Call → Outcome → History
served h c o = record {
  store = o.store;
  area = written h.area o.write;
  ledger = cond (accepted o.answer) (ledger_by h c) h.ledger;
  kept = cond (accepted o.answer) (kept_by h c) h.kept;
}

-- a history after a call
abbrev pub serve : History → Call → History
serve h c = served h c (outcome_of h.store h.area c)

-- and after calls
unfoldable pub after : History → List Call → History
after h [] = h
after h (c ∷ cs) = after (serve h c) cs

-- a name to store under is at most the greatest
abbrev pub Named : Call → Type 0
Named (insert lent n page) = n ≤ most_name
Named (delete n) = Unit {0}
Named (step lent) = Unit {0}
Named (confirm room) = Unit {0}

-- it has in each of the calls
abbrev pub AllNamed : List Call → Type 0
AllNamed [] = Unit {0}
AllNamed (c ∷ cs) = Named c × AllNamed cs

-- a history is reached: an opening, or one call more, refused or not, on a history reached
pub data Reached : History → Type 0 where
  opened : (area : List ℕ) → Reached (opening area)
  called : {h : History} (c : Call) → Named c → Reached h → Reached (serve h c)

-- the length that a call stores
abbrev pub stored_by : History → Call → ℕ
stored_by h (insert lent n page) = cond (accepted (outcome_of h.store h.area (insert lent n page)).answer) (length page) 0
stored_by h (delete n) = 0
stored_by h (step lent) = 0
stored_by h (confirm room) = 0

-- the length that a call deletes: that of the page stored under its name
abbrev pub deleted_by : History → Call → ℕ
deleted_by h (insert lent n page) = 0
deleted_by h (delete n) = cond (accepted (delete_of h.store n).answer) (length (bytes_under n h.ledger)) 0
deleted_by h (step lent) = 0
deleted_by h (confirm room) = 0

-- the sum of what each of the calls does
unfoldable pub total : (History → Call → ℕ) → History → List Call → ℕ
total does h [] = 0
total does h (c ∷ cs) = does h c + total does (serve h c) cs

-- an area that a cut in a write may leave: as long as before, and the same outside the one place written; inside it stands anything
pub record Cut (area : List ℕ) (w : Write) (cut : List ℕ) : Type 0 where
  pub as_long : length cut ≡ length area
  pub outside : (x : ℕ) → (w.at ≤ x → x < w.at + length w.bytes → ⊥) → get_or cut x 0 ≡ get_or area x 0

-- a page lies in an area: its place is within it, and holds its bytes
abbrev pub LiesIn : List ℕ → Page → Type 0
LiesIn area p = (end_of p.object ≤ length area) × (take p.object.len (drop p.object.at area) ≡ p.bytes)

-- a page stored reads back: the answer is done, and the bytes are its own, whatever blank page is lent
abbrev pub ReadsBack : History → Stored → Type 0
ReadsBack h p =
    (read_answer h.store (length h.area) p.name ≡ Done) × ((blank : List ℕ) → read_of h.store h.area blank p.name ≡ p.bytes)

-- everything in a list passes
abbrev pub Every : {A : Type 0} → (A → Type 0) → List A → Type 0
Every P [] = Unit {0}
Every P (x ∷ xs) = P x × Every P xs

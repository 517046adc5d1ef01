-- The desk of `drill` by the rules: what each request does to it, and what it is answered, as the table of the programs has it.
use Rattle.std.specs.Prelude.{ℕ, ◌+◌, ◌*◌, min, List, [], ◌∷◌, length, take, replicate, sum, Option, Some, None}
use Rattle.lines.specs.Requests.{most_room}
use Rattle.rules.specs.House.{most_area}
use Rattle.rules.specs.Stores.{Store}
use Rattle.rules.specs.Answers.{number_of}
use Rattle.rules.specs.Calls.{written, open_store, open_answer, footprint_of, volume_held, read_answer, read_of}
use Rattle.rules.specs.History.{Call, insert, delete, step, confirm, outcome_of}
use Rattle.maps.specs.Finding.{Found, found_says}
use Rattle.asking.specs.Asked.{find_told}
use Rattle.store.specs.Served.{map_into}
use Rattle.replies.specs.Lines.{Said, one, three, shown, bad}
use Rattle.lines.specs.declared.Drill.{Drill}
use Rattle.lines.specs.declared.Drill.TheVariants.{Open, Lend, Insert, Delete, Step, Confirm, Find, Read, Sum}

-- a desk: the store, the length it was opened for, how many bytes of the area are lent, and the area's bytes
pub record Desk : Type 0 where
  pub store : Store
  pub opened : ℕ
  pub lent : ℕ
  pub area : List ℕ

-- the desk before the first opening, over an area
abbrev pub unopened : List ℕ → Desk
unopened area = record { store = open_store 0; opened = 0; lent = 0; area = area }

-- the desk after a call of its store
abbrev pub called : Desk → Call → Desk
called d c =
    let o = outcome_of d.store d.area c in
    record { store = o.store; opened = d.opened; lent = d.lent; area = written d.area o.write }

-- the desk after a request
abbrev pub after : Desk → Option Drill → Desk
after d (Some (Open n)) = record { store = open_store n; opened = min n most_area; lent = min n most_area; area = replicate (length d.area) 0 }
after d (Some (Lend n)) = record { store = d.store; opened = d.opened; lent = n; area = d.area }
after d (Some (Insert name len byte)) = called d (insert d.lent name (replicate len byte))
after d (Some (Delete name)) = called d (delete name)
after d (Some Step) = called d (step d.lent)
after d (Some (Confirm n)) = called d (confirm (min n most_room))
after d (Some (Find name)) = d
after d (Some (Read name)) = d
after d (Some Sum) = d
after d None = d

-- the sum of index x byte, the indices from i on
unfoldable pub weight_from : ℕ → List ℕ → ℕ
weight_from i [] = 0
weight_from i (b ∷ bs) = i * b + weight_from (i + 1) bs

-- a call's answer, and the store's sizes after it
abbrev pub sized : Desk → Call → Said
sized d c =
    let o = outcome_of d.store d.area c in
    three (number_of o.answer) (footprint_of o.store) (volume_held o.store)

-- the number, place and length that a find's answer says
abbrev pub placed : Found → Said
placed f = three (found_says f).0 (found_says f).1 (found_says f).2

-- the blank page lent to a read
abbrev pub blank_page : List ℕ
blank_page = 9 ∷ 9 ∷ 9 ∷ []

-- a read's answer, and the length and sum of the page handed back
abbrev pub page_read : Store → List ℕ → ℕ → Said
page_read s lent name = let page = read_of s lent blank_page name in three (number_of (read_answer s (length lent) name)) (length page) (sum page)

-- what a buffer lent to a confirmation holds before it
abbrev pub unwritten : ℕ
unwritten = 170

-- a confirmation's answer, and the whole buffer afterwards
abbrev pub confirmed : Desk → ℕ → Said
confirmed d room = shown (number_of (outcome_of d.store d.area (confirm room)).answer) (map_into d.store (replicate room unwritten))

-- what a request is answered
abbrev pub said_to : Desk → Option Drill → Said
said_to d (Some (Open n)) = one (number_of (open_answer n))
said_to d (Some (Lend n)) = one 0
said_to d (Some (Insert name len byte)) = sized d (insert d.lent name (replicate len byte))
said_to d (Some (Delete name)) = sized d (delete name)
said_to d (Some Step) = sized d (step d.lent)
said_to d (Some (Confirm n)) = confirmed d (min n most_room)
said_to d (Some (Find name)) = placed (find_told d.store name)
said_to d (Some (Read name)) = page_read d.store (take d.lent d.area) name
said_to d (Some Sum) = one (weight_from 1 (take d.opened d.area))
said_to d None = bad

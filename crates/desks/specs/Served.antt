-- What the values of this crate stand for, with the area and the buffer beside them, and the line that answers a request.
use Rattle.std.specs.Prelude.{◌≡◌, ℕ, List, Option}
use Rattle.lines.specs.declared.Drill.{Drill}
use Rattle.store.specs.Served.{model}
use Rattle.replies.specs.Lines.{line_of, said_in}
use Rattle.desks.specs.Desks as desks
use Rattle.desks.specs.Desks.{said_to}
use Rattle.desks.specs.declared.Desk.{Desk}
use Rattle.desks.specs.declared.Turn.{Turn}

-- the line that answers a request
abbrev pub answer_to : desks.Desk → Option Drill → List ℕ
answer_to d asked = line_of (said_to d asked)

-- a desk, with the area's bytes
abbrev pub desk_in : Desk → List ℕ → desks.Desk
desk_in d area = record { store = model d.store; opened = d.opened; lent = d.lent; area = area }

-- a request served: the desk, with the area's bytes, and the reply, with the buffer that it shows
pub record ServedAs (d : desks.Desk) (asked : Option Drill) (t : Turn) (area buf : List ℕ) : Type 0 where
  pub desk : desk_in t.desk area ≡ desks.after d asked
  pub reply : said_in t.reply buf ≡ said_to d asked

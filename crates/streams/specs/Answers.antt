-- A piece of a stream answered: it is cut into lines, and the answer to each is put behind the one before.
use Rattle.std.specs.Prelude.{ℕ, zero, suc, ◌≤◌, cond, ◌&&◌, List, [], ◌∷◌, length, take, ltb, leb}
use Rattle.texts.specs.Numbers.{put_into, place_behind}
use Rattle.lines.specs.Feeding.{fed_of, held_of}
use Rattle.lines.specs.declared.Fed.{Fed}
use Rattle.streams.specs.declared.Progress.{Progress}

-- what is answered to a line that comes after other lines
abbrev pub Says : Type 0
Says = List (List ℕ) → List ℕ → List ℕ

-- what is answered once a line has come
abbrev pub onward : Says → List ℕ → Says
onward says line = λ before. says (line ∷ before)

-- a stream: what it answers, the line buffer, the output, the place in the piece, how much is held of the line begun, and the
-- place behind the answers
pub record Stream : Type 0 where
  pub says : Says
  pub line : List ℕ
  pub out : List ℕ
  pub next : ℕ
  pub held : ℕ
  pub at : ℕ

-- a stream that has come so far
abbrev pub stream_of : Says → List ℕ → List ℕ → Progress → Stream
stream_of says line out p = record { says = says; line = line; out = out; next = p.next; held = p.held; at = p.at }

-- the stream after a line has been answered
abbrev pub answered : ℕ → Says → List ℕ → List ℕ → List ℕ → ℕ → Stream
answered next says line whole out at =
    let text = says [] whole in
    record { says = onward says whole; line = line; out = put_into out at text; next = next; held = 0; at = place_behind out at text }

-- the stream after a part of a line: the line is answered if it is complete
abbrev pub gone_on : Fed → Says → List ℕ → List ℕ → ℕ → Stream
gone_on fed says line out at =
    cond fed.done
    (answered fed.next says line (take fed.len line) out at)
    (record { says = says; line = line; out = out; next = fed.next; held = fed.len; at = at })

-- the stream after what a piece has for the present line
abbrev pub part_taken : List ℕ → Stream → Stream
part_taken piece s = gone_on (fed_of piece s.next (length s.line) s.held) s.says (held_of piece s.next s.line s.held) s.out s.at

-- the stream after at most n such parts, while the piece lasts and the answers are not past the place `full`
unfoldable pub taken_by : ℕ → ℕ → List ℕ → Stream → Stream
taken_by zero full piece s = s
taken_by (suc n) full piece s =
    let later = taken_by n full piece (part_taken piece s) in
    cond (ltb s.next (length piece) && leb s.at full) later s

-- the stream after a piece, or after as much of it as there was room for: each part has a byte at least
abbrev pub all_taken : ℕ → List ℕ → Stream → Stream
all_taken full piece s = taken_by (length piece) full piece s

-- the stream once the answers, where they are past the place `full`, were written out: none is held then
abbrev pub emptied : ℕ → Stream → Stream
emptied full s = record s { at = cond (ltb full s.at) 0 s.at }

-- the stream after at most n rounds, while the piece lasts: in each it is answered as far as there is room, and then `emptied`
unfoldable pub rounds : ℕ → ℕ → List ℕ → Stream → Stream
rounds zero full piece s = s
rounds (suc n) full piece s =
    let later = rounds n full piece (emptied full (all_taken full piece s)) in
    cond (ltb s.next (length piece)) later s

-- the stream after a whole piece, from its first byte on: each round takes a byte at least
abbrev pub whole_taken : ℕ → List ℕ → Stream → Stream
whole_taken full piece s = rounds (length piece) full piece (record s { next = 0 })

-- the line begun is held by the line buffer, and the answers not yet written by the output buffer
abbrev pub Within : Progress → List ℕ → List ℕ → Type 0
Within p line out = (p.held ≤ length line) × (p.at ≤ length out)

-- The answer lines: the numbers of a request that was served, parted by blanks, or `bad`; each ends with a line feed.
use Rattle.std.specs.Prelude.{ℕ, List, [], ◌∷◌, ◌++◌, replicate, Option, Some, None}
use Rattle.rules.specs.House.{least_area}
use Rattle.rules.specs.Answers.{number_of}
use Rattle.rules.specs.Calls.{open_store, footprint_of, volume_held}
use Rattle.rules.specs.Stores.{Store}
use Rattle.rules.specs.declared.Answer.{Answer}
use Rattle.lines.specs.Parts.{blank, line_feed}
use Rattle.lines.specs.Requests.{request_of}
use Rattle.lines.specs.Feeding.{lines_of}
use Rattle.lines.specs.declared.Request.{Request}
use Rattle.lines.specs.declared.Request.TheVariants.{Insert, Delete}
use Rattle.texts.specs.Fields.{field}
use Rattle.to_rest.specs.Runs.{Ran, ran_of}

-- answer, moves, waits, footprint and volume as an answer line
abbrev pub numbers_text : ℕ → ℕ → ℕ → ℕ → ℕ → List ℕ
numbers_text answer moves waits footprint volume =
    field answer blank ++ (field moves blank ++ (field waits blank ++ (field footprint blank ++ field volume line_feed)))

-- the answer line of a request with this answer, these moves and waits, and this store after it
abbrev pub ran_text : Answer → ℕ → ℕ → Store → List ℕ
ran_text a moves waits s = numbers_text (number_of a) moves waits (footprint_of s) (volume_held s)

-- "bad"
abbrev pub bad_text : List ℕ
bad_text = 98 ∷ 97 ∷ 100 ∷ line_feed ∷ []

-- the answer line of a request
abbrev pub reply_text : Option Request → Ran → List ℕ
reply_text (Some (Insert n m b)) r = ran_text r.answer r.moves r.waits r.store
reply_text (Some (Delete n)) r = ran_text r.answer r.moves r.waits r.store
reply_text None r = bad_text

-- the answer line to a line
abbrev pub reply_to : Store → List ℕ → List ℕ → List ℕ
reply_to s area line = reply_text (request_of line) (ran_of s area (request_of line))

-- "answer moves waits footprint volume"
abbrev pub header : List ℕ
header =
    97 ∷ 110 ∷ 115 ∷ 119 ∷ 101 ∷ 114 ∷ blank
    ∷ 109 ∷ 111 ∷ 118 ∷ 101 ∷ 115 ∷ blank
    ∷ 119 ∷ 97 ∷ 105 ∷ 116 ∷ 115 ∷ blank
    ∷ 102 ∷ 111 ∷ 111 ∷ 116 ∷ 112 ∷ 114 ∷ 105 ∷ 110 ∷ 116 ∷ blank
    ∷ 118 ∷ 111 ∷ 108 ∷ 117 ∷ 109 ∷ 101 ∷ line_feed
    ∷ []

-- the answer lines of lines, one by one
unfoldable pub replies_of : Store → List ℕ → List (List ℕ) → List ℕ
replies_of s area [] = []
replies_of s area (line ∷ lines) =
    let e = ran_of s area (request_of line) in
    reply_to s area line ++ replies_of e.store e.area lines

-- all that `replay` writes for an input
abbrev pub replay_of : List ℕ → List ℕ
replay_of input = header ++ replies_of (open_store least_area) (replicate least_area 0) (lines_of input)

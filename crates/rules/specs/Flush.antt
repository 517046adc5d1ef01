-- The flush, from its start: new bounds, overflow, final places, and the four phases as one plan of moves and waits.
use Rattle.std.specs.Prelude.{ℕ, zero, suc, ◌+◌, ◌-◌, max, Bool, true, false, cond, not, ◌&&◌, List, [], ◌∷◌, ◌++◌, reverse, leb, ltb, eqb}
use Rattle.rules.specs.Classes.{Obj, cls, end_of, placed, volume, volume_of, filter}
use Rattle.rules.specs.Regions.{Regions, col, column, span, up_from, buffer_size, start_of, footprint}

-- a flush's start: the old bounds, b, the old objects in rising place order, and the new object, if there is one
pub record Start : Type 0 where
  pub regions : Regions
  pub boundary : ℕ
  pub old : List Obj
  pub new : List Obj

-- the live objects, the new one included
abbrev pub live : Start → List Obj
live s = s.old ++ s.new

-- the greatest length among objects, 0 if there are none
unfoldable pub longest_in : List Obj → ℕ
longest_in [] = 0
longest_in (o ∷ os) = max o.len (longest_in os)

-- D: the length of the longest live object
abbrev pub longest_of : Start → ℕ
longest_of s = longest_in (live s)

-- the new bounds: from class b on P(i) = V(i), and the buffers are empty
unfoldable pub rebound : Start → Regions
rebound s = record {
  sizes = column (λ i. cond (ltb i s.boundary) (col s.regions.sizes i) (volume_of i (live s)));
  useds = column (λ i. cond (ltb i s.boundary) (col s.regions.useds i) 0);
  lowests = column (λ i. cond (ltb i s.boundary) (col s.regions.lowests i) 0);
}

-- F': the new end
abbrev pub new_footprint : ℕ → Start → ℕ
new_footprint q s = footprint q (rebound s).sizes

-- B: the old buffers from class b on
abbrev pub old_buffers : ℕ → Start → ℕ
old_buffers q s = span (buffer_size q s.regions.sizes) s.boundary (up_from s.boundary)

-- B + D: what a run may take
abbrev pub limit : ℕ → Start → ℕ
limit q s = old_buffers q s + longest_of s

-- G: where overflow starts
unfoldable pub overflow_start : ℕ → Start → ℕ
overflow_start q s = max (footprint q s.regions.sizes) (new_footprint q s) + limit q s

-- an object lies within the n bytes from `from` on
abbrev pub within : ℕ → ℕ → Obj → Bool
within from n o = leb from o.at && leb (end_of o) (from + n)

-- an object lies in the payload of its class
abbrev pub in_payload : ℕ → Regions → Obj → Bool
in_payload q t o = within (start_of q t.sizes (cls o)) (col t.sizes (cls o)) o

-- an object lies in a flushed region, b or above
abbrev pub in_flush : ℕ → Start → Obj → Bool
in_flush q s o = leb (start_of q s.regions.sizes s.boundary) o.at

-- payload objects of the flushed classes, in rising order
unfoldable pub payloads : ℕ → Start → List Obj
payloads q s = filter (λ o. in_flush q s o && in_payload q s.regions o) s.old

-- objects from the flushed buffers, in rising order
unfoldable pub buffered : ℕ → Start → List Obj
buffered q s = filter (λ o. in_flush q s o && not (in_payload q s.regions o)) s.old

-- overflow objects: those from buffers, then the new one
abbrev pub overflow : ℕ → Start → List Obj
overflow q s = buffered q s ++ s.new

-- the end of overflow
abbrev pub overflow_end : ℕ → Start → ℕ
overflow_end q s = overflow_start q s + volume (overflow q s)

-- where the new object goes: behind the objects from buffers
abbrev pub new_place : ℕ → Start → ℕ
new_place q s = overflow_start q s + volume (buffered q s)

-- objects side by side from `from` on
unfoldable pub stacked : ℕ → List Obj → List Obj
stacked from [] = []
stacked from (o ∷ os) = placed o from ∷ stacked (from + o.len) os

-- objects side by side, the first to end at `edge`, each next one below it
unfoldable pub packed : ℕ → List Obj → List Obj
packed edge [] = []
packed edge (o ∷ os) = placed o (edge - o.len) ∷ packed (edge - o.len) os

-- each object behind those of its class that came before it, from its region's start on
unfoldable pub settled : (ℕ → ℕ) → List Obj → List Obj → List Obj
settled home before [] = []
settled home before (o ∷ os) = placed o (home (cls o) + volume_of (cls o) before) ∷ settled home (o ∷ before) os

-- final places: payload objects first, then overflow objects
abbrev pub finals : ℕ → Start → List Obj → List Obj → List Obj
finals q s before os = settled (start_of q (rebound s).sizes) before os

-- a move takes a whole object, from where it lies, to a place
pub record Move : Type 0 where
  pub object : Obj
  pub to : ℕ

-- a flush moves, or it waits for a checkpoint
pub data Act : Type 0 where
  move : Move → Act
  wait : Act

-- the moves of the first list's objects to the second list's places
unfoldable pub moves : List Obj → List Obj → List Move
moves [] ys = []
moves (x ∷ xs) [] = []
moves (x ∷ xs) (y ∷ ys) = record { object = x; to = y.at } ∷ moves xs ys

-- phase 1: buffered objects to overflow
abbrev pub lifting : ℕ → Start → List Move
lifting q s = moves (buffered q s) (stacked (overflow_start q s) (buffered q s))

-- phase 2: payload objects in falling order, packed to end where overflow starts
abbrev pub packing : ℕ → Start → List Move
packing q s = moves (reverse (payloads q s)) (packed (overflow_start q s) (reverse (payloads q s)))

-- phase 3: the same objects in rising order to their final places
abbrev pub spreading : ℕ → Start → List Move
spreading q s = moves (reverse (packed (overflow_start q s) (reverse (payloads q s)))) (finals q s [] (payloads q s))

-- phase 4: overflow objects in rising order to their final places
abbrev pub settling : ℕ → Start → List Move
settling q s = moves (stacked (overflow_start q s) (overflow q s)) (finals q s (payloads q s) (overflow q s))

-- a run goes on, or a wait closes it first
abbrev pub close_unless : Bool → List Act → List Act
close_unless true acts = acts
close_unless false acts = wait ∷ acts

-- one run
unfoldable pub one_run : List Move → List Act
one_run [] = wait ∷ []
one_run (m ∷ ms) = move m ∷ one_run ms

-- runs of at most `most` bytes; the present one still takes `left`
unfoldable pub by_volume : ℕ → ℕ → List Move → List Act
by_volume most left [] = wait ∷ []
by_volume most left (m ∷ ms) =
    let on = leb m.object.len left in
    close_unless on (move m ∷ by_volume most (cond on left most - m.object.len) ms)

-- runs whose targets span at most `most` bytes; the present one may go up to `reach`
unfoldable pub by_span : ℕ → ℕ → List Move → List Act
by_span most reach [] = wait ∷ []
by_span most reach (m ∷ ms) =
    let on = leb (m.to + m.object.len) reach in
    close_unless on (move m ∷ by_span most (cond on reach (m.to + most)) ms)

-- the runs of a phase; empty ones are left out
abbrev pub runs : List Move → (Move → List Act) → List Act
runs [] cut = []
runs (m ∷ ms) cut = cut m

-- a plan with no move is one wait
abbrev pub or_wait : List Act → List Act
or_wait [] = wait ∷ []
or_wait (a ∷ acts) = a ∷ acts

-- the plan: the four phases cut into runs, a wait after each
unfoldable pub plan : ℕ → Start → List Act
plan q s =
    or_wait (runs (lifting q s) (λ m. one_run (lifting q s))
    ++ (runs (packing q s) (λ m. by_volume (limit q s) (limit q s) (packing q s))
    ++ (runs (spreading q s) (λ m. by_span (limit q s) (m.to + limit q s) (spreading q s))
    ++ runs (settling q s) (λ m. one_run (settling q s)))))

-- the objects after one move: the one of that name lies at its target
unfoldable pub moved : Move → List Obj → List Obj
moved m [] = []
moved m (o ∷ os) = cond (eqb o.name m.object.name) (placed o m.to) o ∷ moved m os

-- the objects after the first n moves
unfoldable pub played : List Act → ℕ → List Obj → List Obj
played acts zero os = os
played [] (suc n) os = os
played (wait ∷ acts) (suc n) os = played acts (suc n) os
played (move m ∷ acts) (suc n) os = played acts n (moved m os)

-- what is ahead after the first n moves
unfoldable pub ahead : List Act → ℕ → List Act
ahead acts zero = acts
ahead [] (suc n) = []
ahead (wait ∷ acts) (suc n) = ahead acts (suc n)
ahead (move m ∷ acts) (suc n) = ahead acts n

-- a run has ended: a wait is next
abbrev pub at_wait : List Act → Bool
at_wait [] = false
at_wait (wait ∷ acts) = true
at_wait (move m ∷ acts) = false

-- A name looked up: in a list, and by halves in the bytes of a map.
use Rattle.std.specs.Prelude.{ℕ, zero, suc, ◌+◌, ◌-◌, ◌/◌, cond, List, [], ◌∷◌, ltb, eqb, Result, Ok, Err}
use Rattle.rules.specs.Classes.{Obj}
use Rattle.rules.specs.Answers.{number_of}
use Rattle.rules.specs.Calls.{map_size}
use Rattle.rules.specs.declared.Answer.{Answer}
use Rattle.rules.specs.declared.Answer.TheVariants.{NameZero, NotHeld}
use Rattle.mapform.specs.Entries.{word_at, entry_at}
use Rattle.mapform.specs.Reading.{seen_count}
use Rattle.rules.specs.declared.Place.{Place}

-- what a name is found as: a place, or why not
abbrev pub Found : Type 0
Found = Result Place Answer

-- the number, place and length that an answer says: 0 and both, or the number of the refusal and zeros
abbrev pub found_says : Found → ℕ × ℕ × ℕ
found_says (Ok p) = (0, p.at.0, p.len)
found_says (Err a) = (number_of a, 0, 0)

-- an object that is held
abbrev pub held_as : Obj → Found
held_as o = Ok (record { at = record { 0 = o.at }; len = o.len })

-- the first object of a name
unfoldable pub seek : List Obj → ℕ → Found
seek [] x = Err NotHeld
seek (o ∷ os) x = let later = seek os x in cond (eqb o.name x) (held_as o) later

-- by halves, between the entries lo and hi
unfoldable pub bisect : ℕ → List ℕ → ℕ → ℕ → ℕ → Found
bisect zero s x lo hi = Err NotHeld
bisect (suc f) s x lo hi =
    let mid = lo + (hi - lo) / 2 in
    let y = word_at s (map_size mid) in
    let other = bisect f s x (cond (ltb y x) (mid + 1) lo) (cond (ltb y x) hi mid) in
    cond (ltb lo hi) (cond (eqb y x) (held_as (entry_at s (map_size mid))) other) (Err NotHeld)

-- what bytes and a count answer to a name, whatever they are
abbrev pub find_in : List ℕ → ℕ → ℕ → Found
find_in s count x = cond (eqb x 0) (Err NameZero) (bisect (seen_count s count) s x 0 (seen_count s count))

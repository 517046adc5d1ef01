-- Two outcomes that a public contract allows are equal: each contract gives the answer, and the buffer where one is lent, as a function of the arguments.
use Prim.Native.Nat.{ℕ}
use mathlib.Core.Path.{◌≡◌, sym, ◌∙◌}
use mathlib.Core.List.{List}
use Rattle.rules.specs.declared.Answer.{Answer}
use Rattle.mapform.specs.Maps.{map_as, map_of, objects_in, put_answer, put_into}
use Rattle.mapform.specs.Reading.{map_answer, count_of, seen_in}
use Rattle.maps.specs.Finding.{Found, find_in}

-- an answer and a buffer that a put of m allows
abbrev pub Put : List ℕ → List ℕ → Answer → List ℕ → Type 0
Put m buf r after = (r ≡ put_answer m buf) × (after ≡ put_into m buf)

pub put_one : (m buf : List ℕ) {r r' : Answer} {after after' : List ℕ} → Put m buf r after → Put m buf r' after'
    → (r ≡ r') × (after ≡ after')
put_one m buf p p' = (p.0 ∙ sym p'.0, p.1 ∙ sym p'.1)

pub write_map_one : (ns ps ls : List ℕ) (count : ℕ) (buf : List ℕ) {r r' : Answer} {after after' : List ℕ}
    → Put (map_of (objects_in ns ps ls count)) buf r after → Put (map_of (objects_in ns ps ls count)) buf r' after' → (r ≡ r') × (after ≡ after')
write_map_one ns ps ls count buf = put_one (map_of (objects_in ns ps ls count)) buf

pub write_in_one : (s : List ℕ) (count : ℕ) (buf : List ℕ) {r r' : Answer} {after after' : List ℕ}
    → Put (map_as (seen_in s count)) buf r after → Put (map_as (seen_in s count)) buf r' after' → (r ≡ r') × (after ≡ after')
write_in_one s count buf = put_one (map_as (seen_in s count)) buf

pub open_answer_one : (s : List ℕ) (a : ℕ) {r r' : Answer} → r ≡ map_answer a s → r' ≡ map_answer a s → r ≡ r'
open_answer_one s a e e' = e ∙ sym e'

pub count_in_one : (s : List ℕ) (a : ℕ) {r r' : ℕ} → r ≡ count_of a s → r' ≡ count_of a s → r ≡ r'
count_in_one s a e e' = e ∙ sym e'

pub find_in_one : (s : List ℕ) (count x : ℕ) {f f' : Found} → f ≡ find_in s count x → f' ≡ find_in s count x → f ≡ f'
find_in_one s count x e e' = e ∙ sym e'

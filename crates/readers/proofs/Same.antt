-- Two outcomes that a contract on readers allows are equal: each contract gives the answer, and the buffer where one is lent, as a function of the
-- arguments.
use Prim.Native.Nat.{ℕ}
use mathlib.Core.Path.{◌≡◌, sym, ◌∙◌}
use mathlib.Core.List.{List}
use denote.Ref.{Bor}
use Rattle.rules.specs.declared.Answer.{Answer}
use Rattle.mapform.specs.Reading.{list_of}
use Rattle.maps.specs.Finding.{Found}
use Rattle.maps.proofs.Same.{Put, put_one}
use Rattle.readers.specs.Readers.{look_up, opened, found_by, map_by}
use Rattle.readers.specs.declared.Reader.{Reader}

pub open_one : (b : Bor (List ℕ)) (a : ℕ) {r r' : Reader} → r ≡ opened a b → r' ≡ opened a b → r ≡ r'
open_one b a e e' = e ∙ sym e'

pub find_one : (d : Reader) (x : ℕ) {f f' : Found} → f ≡ found_by d x → f' ≡ found_by d x → f ≡ f'
find_one d x e e' = e ∙ sym e'

pub look_one : (s : List ℕ) (a x : ℕ) {f f' : Found} → f ≡ look_up (list_of a s) x → f' ≡ look_up (list_of a s) x → f ≡ f'
look_one s a x e e' = e ∙ sym e'

pub write_again_one : (d : Reader) (buf : List ℕ) {r r' : Answer} {after after' : List ℕ}
    → Put (map_by d) buf r after → Put (map_by d) buf r' after' → (r ≡ r') × (after ≡ after')
write_again_one d buf = put_one (map_by d) buf

-- Two outcomes that a public contract allows are equal: the answer, the store by what it stands for, and on a refusal as a value, and every
-- buffer lent; of a read the bytes, and where they start.
use mathlib.Core.Path.{◌≡◌, sym, ap, ◌∙◌}
use mathlib.Core.Bool.{false}
use mathlib.Core.List.{List}
use Prim.Native.Nat.{ℕ}
use lib.ListN.{length}
use Rattle.rules.specs.Answers.{accepted}
use Rattle.rules.specs.Calls.{Outcome, written, open_store, open_answer, insert_of, delete_of, step_of, confirm_of}
use Rattle.rules.specs.Calls.{read_answer, read_of, footprint_of, volume_held}
use Rattle.rules.specs.declared.Answer.{Answer}
use Rattle.maps.specs.Finding.{Found}
use Rattle.asking.specs.Asked.{Told, Checkpoint, find_told, told_of, checkpoint_of}
use Rattle.asking.specs.Lent.{read_from}
use Rattle.store.specs.Served.{model, map_into}
use Rattle.store.specs.declared.Store.{Store}
use Rattle.store.specs.declared.Served.{Served}

-- what a call may hand back by its contract
abbrev Allowed : Outcome → Store → Served → Type 0
Allowed o store r = (r.answer ≡ o.answer) × (model r.store ≡ o.store) × (accepted r.answer ≡ false → r.store ≡ store)

-- the same is handed back
abbrev Alike : Served → Served → Type 0
Alike r r' = (r.answer ≡ r'.answer) × (model r.store ≡ model r'.store) × (accepted r.answer ≡ false → r.store ≡ r'.store)

one : {A : Type 0} {x y z : A} → x ≡ z → y ≡ z → x ≡ y
one e e' = e ∙ sym e'

alike : (o : Outcome) (store : Store) {r r' : Served} → Allowed o store r → Allowed o store r' → Alike r r'
alike o store p p' = (one p.0 p'.0, one p.1 p'.1, λ q. one (p.2 q) (p'.2 (ap accepted (one p'.0 p.0) ∙ q)))

-- with a buffer lent, that is z afterwards
lent_alike : (o : Outcome) (store : Store) {z after after' : List ℕ} {r r' : Served}
    → Allowed o store r × (after ≡ z) → Allowed o store r' × (after' ≡ z) → Alike r r' × (after ≡ after')
lent_alike o store p p' = (alike o store p.0 p'.0, one p.1 p'.1)

-- THE CALLS
pub open_one : (a : ℕ) (r r' : Served) → (model r.store ≡ open_store a) × (r.answer ≡ open_answer a)
    → (model r'.store ≡ open_store a) × (r'.answer ≡ open_answer a)
    → (model r.store ≡ model r'.store) × (r.answer ≡ r'.answer)
open_one a r r' p p' = (one p.0 p'.0, one p.1 p'.1)

pub insert_one : (store : Store) (area : List ℕ) (n : ℕ) (page : List ℕ) {r r' : Served} {after after' : List ℕ}
    → let o = insert_of (model store) (length area) n page in
    Allowed o store r × (after ≡ written area o.write) → Allowed o store r' × (after' ≡ written area o.write) → Alike r r'
    × (after ≡ after')
insert_one store area n page = lent_alike (insert_of (model store) (length area) n page) store

pub delete_one : (store : Store) (n : ℕ) {r r' : Served} → Allowed (delete_of (model store) n) store r → Allowed (delete_of (model store) n) store r'
    → Alike r r'
delete_one store n = alike (delete_of (model store) n) store

pub step_one : (store : Store) (area : List ℕ) {r r' : Served} {after after' : List ℕ} → let o = step_of (model store) area in
    Allowed o store r × (after ≡ written area o.write) → Allowed o store r' × (after' ≡ written area o.write) → Alike r r'
    × (after ≡ after')
step_one store area = lent_alike (step_of (model store) area) store

pub confirm_one : (store : Store) (buf : List ℕ) {r r' : Served} {after after' : List ℕ} → let o = confirm_of (model store) (length buf) in
    Allowed o store r × (after ≡ map_into (model store) buf) → Allowed o store r' × (after' ≡ map_into (model store) buf) → Alike r r'
    × (after ≡ after')
confirm_one store buf = lent_alike (confirm_of (model store) (length buf)) store

-- THE QUERIES
pub find_one : (store : Store) (n : ℕ) {f f' : Found} → f ≡ find_told (model store) n → f' ≡ find_told (model store) n → f ≡ f'
find_one store n = one

pub read_answer_one : (store : Store) (area : List ℕ) (n : ℕ) {a a' : Answer} → a ≡ read_answer (model store) (length area) n
    → a' ≡ read_answer (model store) (length area) n → a ≡ a'
read_answer_one store area n = one

pub read_one : (store : Store) (area blank : List ℕ) (n : ℕ) {bs bs' : List ℕ} → bs ≡ read_of (model store) area blank n
    → bs' ≡ read_of (model store) area blank n → bs ≡ bs'
read_one store area blank n = one

pub read_start_one : (store : Store) (lent : ℕ) (area blank : ℕ × ℕ) (n : ℕ) {p p' : ℕ × ℕ}
    → p ≡ read_from (model store) lent area blank n → p' ≡ read_from (model store) lent area blank n → p ≡ p'
read_start_one store lent area blank n = one

pub footprint_one : (store : Store) {t t' : Told} → t ≡ told_of (model store) (footprint_of (model store))
    → t' ≡ told_of (model store) (footprint_of (model store)) → t ≡ t'
footprint_one store = one

pub volume_one : (store : Store) {t t' : Told} → t ≡ told_of (model store) (volume_held (model store))
    → t' ≡ told_of (model store) (volume_held (model store)) → t ≡ t'
volume_one store = one

pub due_one : (store : Store) {d d' : Checkpoint} → d ≡ checkpoint_of (model store) → d' ≡ checkpoint_of (model store) → d ≡ d'
due_one store = one

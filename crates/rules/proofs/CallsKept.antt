-- Law 9 for the requests: every insert and every delete, accepted or refused, gives a sound store from a sound one, and V goes
-- with what was stored and deleted.
use mathlib.Core.Path.{◌≡◌}
use mathlib.Core.Bool.{true}
use mathlib.Core.List.{List}
use Prim.Native.Nat.{ℕ, ◌≤◌}
use Rattle.rules.specs.House.{share, most_name}
use Rattle.rules.specs.Classes.{Obj}
use Rattle.rules.specs.Regions.{Regions}
use Rattle.rules.specs.Stores.{Store, resting_at}
use Rattle.rules.specs.Sound.{sound}
use Rattle.rules.specs.Calls.{inserted, insert_of, deleted, delete_of}
use Rattle.rules.proofs.Lists.{In}
use Rattle.rules.proofs.Limits.{inserted_cases, deleted_cases}
use Rattle.rules.proofs.SoundKept.{AtRest, MayInsert, above_sound, into_sound, record_sound}
use Rattle.rules.proofs.BegunKept.{insert_flush_sound, delete_flush_sound}
use Rattle.rules.proofs.Accepted.{insert_cases, delete_cases}

-- an accepted insert gives a sound store, whichever way it goes
pub inserted_sound : (q a : ℕ) (t : Regions) (os : List Obj) (n : ℕ) (page : List ℕ) → AtRest q a t os → MayInsert q a os n page
    → sound q (inserted q (resting_at a t os) n page).store ≡ true
inserted_sound q a t os n page s m = inserted_cases (λ o. sound q o.store ≡ true) q (resting_at a t os) n page
    (above_sound q a t os n page s m) (λ j r. into_sound q a t os n page j s m r) (insert_flush_sound q a t os n page s m)

-- INSERT keeps soundness
pub insert_keeps : (s : Store) (lent n : ℕ) (page : List ℕ) → n ≤ most_name → sound share s ≡ true
    → sound share (insert_of s lent n page).store ≡ true
insert_keeps s lent n page small holds = insert_cases (λ o. sound share o.store ≡ true) s (λ a e. holds) lent n page small (λ p.
    inserted_sound share s.area s.regions s.objects n page p.at_rest p.may)

-- an accepted delete gives a sound store, by a record or by a flush
pub deleted_sound : (q a : ℕ) (t : Regions) (os : List Obj) (o : Obj) → AtRest q a t os → In o os
    → sound q (deleted q (resting_at a t os) o.name o.len).store ≡ true
deleted_sound q a t os o s m = deleted_cases (λ w. sound q w.store ≡ true) q (resting_at a t os) o.name o.len
    (λ j r. record_sound q a t os o j s m r) (delete_flush_sound q a t os o s m)

-- DELETE keeps soundness
pub delete_keeps : (s : Store) (n : ℕ) → sound share s ≡ true → sound share (delete_of s n).store ≡ true
delete_keeps s n holds = delete_cases (λ o. sound share o.store ≡ true) s (λ a e. holds) n (λ p.
    deleted_sound share s.area s.regions s.objects p.found.object p.at_rest p.found.among)

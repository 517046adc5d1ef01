-- What a host keeps of a map: the bytes at the front of the buffer that it lent to a confirmation, until the next confirmation that is accepted.
use Rattle.std.specs.Prelude.{◌≡◌, ℕ, Bool, false, List, [], ◌∷◌, length, take}
use Rattle.rules.specs.House.{share}
use Rattle.rules.specs.Stores.{Store, held_by, list_now}
use Rattle.rules.specs.Answers.{accepted}
use Rattle.rules.specs.Calls.{confirm_of, map_size}
use Rattle.rules.specs.History.{Call, insert, delete, step, confirm, History, serve}
use Rattle.mapform.specs.Maps.{map_of, put_into}

-- the size of a store's map
abbrev pub size_of : Store → ℕ
size_of s = map_size (length (held_by s))

-- the front of the buffer after an accepted confirmation, as long as the map
abbrev pub front_of : Store → List ℕ → List ℕ
front_of s buf = take (size_of s) (put_into (map_of (list_now share s)) buf)

-- a call hands out a map: it is a confirmation, and accepted
abbrev pub gives_map : History → Call → Bool
gives_map h (insert lent n page) = false
gives_map h (delete n) = false
gives_map h (step lent) = false
gives_map h (confirm room) = accepted (confirm_of h.store room).answer

-- none of the calls does
abbrev pub NoMap : History → List Call → Type 0
NoMap h [] = Unit {0}
NoMap h (c ∷ cs) = (gives_map h c ≡ false) × NoMap (serve h c) cs

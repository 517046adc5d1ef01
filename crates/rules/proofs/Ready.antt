-- The four phases of a flush over numbers and lists, and what they ask for when the flush starts.
use mathlib.Core.Path.{◌≡◌}
use mathlib.Core.List.{List, ◌++◌, reverse, reverse_aux}
use Prim.Native.Nat.{ℕ, ◌+◌, ◌≤◌}
use Rattle.rules.specs.Classes.{Obj, end_of, volume}
use Rattle.rules.specs.Flush.{Act, moves, stacked, packed, one_run, by_volume, by_span, runs}
use Rattle.rules.proofs.Lists.{All, In}
use Rattle.rules.proofs.Facts.{Chain}
use Rattle.rules.proofs.Names.{kinds}
use Rattle.rules.proofs.Safe.{Apart, Divided}
use Rattle.rules.proofs.Packing.{Sized}
use Rattle.rules.proofs.Spreading.{Spread}
use Rattle.rules.proofs.Lifting.{Disjoint}

-- phase 1
abbrev pub lift : ℕ → List Obj → List Act
lift goal buffered = let ms = moves buffered (stacked goal buffered) in runs ms (λ m. one_run ms)

-- phase 2
abbrev pub pack : ℕ → ℕ → List Obj → List Act
pack limit goal payload = let ms = moves (reverse payload) (packed goal (reverse payload)) in runs ms (λ m. by_volume limit limit ms)

-- phase 3
abbrev pub spread : ℕ → ℕ → List Obj → List Obj → List Act
spread limit goal payload finals =
    let ms = moves (reverse (packed goal (reverse payload))) finals in
    runs ms (λ m. by_span limit (m.to + limit) ms)

-- phase 4
abbrev pub settle : ℕ → List Obj → List Obj → List Act
settle goal over overs = let ms = moves (stacked goal over) overs in runs ms (λ m. one_run ms)

-- the four of them
abbrev pub phases : ℕ → ℕ → List Obj → List Obj → List Obj → List Obj → List Obj → List Act
phases limit goal buffered payload fresh finals overs =
    lift goal buffered ++ (pack limit goal payload ++ (spread limit goal payload finals ++ settle goal (buffered ++ fresh) overs))

-- what holds when a flush starts: floor is the start of the flushed regions, old and new are their ends, goal the start of overflow
pub record Ready (limit floor old new goal : ℕ) (buffered payload fresh low finals overs now : List Obj) : Type 0 where
  -- the objects held, their lengths and places
  pub held : Divided buffered (reverse_aux payload (reverse_aux fresh low)) now
  pub other : (x h : Obj) → In x payload → In h buffered → x ≡ h → ⊥
  pub sized : All (Sized limit) payload
  pub some : All (λ (o : Obj). 1 ≤ o.len) (buffered ++ fresh)
  pub buffers : Chain floor buffered
  pub buffers_end : All (λ (o : Obj). end_of o ≤ old) buffered
  pub segments : Chain floor payload
  pub segments_end : All (λ (o : Obj). end_of o ≤ old) payload
  pub lows : All (λ (o : Obj). end_of o ≤ floor) low
  pub written : stacked (goal + volume buffered) fresh ≡ fresh
  -- the numbers
  pub rises : floor ≤ old
  pub below_old : old + limit ≤ goal
  pub below_new : new + limit ≤ goal
  -- the final places
  pub final_kinds : kinds payload ≡ kinds finals
  pub final_spread : Spread floor new finals
  pub over_kinds : kinds (buffered ++ fresh) ≡ kinds overs
  pub over_pairs : Disjoint overs
  pub over_inside : All (λ (f : Obj). (floor ≤ f.at) × (end_of f ≤ new)) overs
  pub over_apart : (f g : Obj) → In f overs → In g finals → Apart f g

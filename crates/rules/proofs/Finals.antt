-- The new bounds of a flush, and the final places in them.
-- From the boundary on each class has just its live volume, and the regions below it stay where they were; so the final places rise from the floor,
-- lie apart and end by the new footprint.
use mathlib.Core.Path.{◌≡◌}
use mathlib.Core.Bool.{Bool, true, false, cond, not, ◌&&◌}
use mathlib.Core.List.{List, [], ◌∷◌}
use Prim.Native.Nat.{ℕ, ◌+◌, ◌≤◌, ◌<◌}
use native.Mathlib.Omega.{arith}
use Rattle.rules.specs.House.{classes}
use Rattle.rules.specs.Classes.{Obj, cls, end_of, volume_of, filter}
use Rattle.rules.specs.Regions.{start_of}
use Rattle.rules.specs.Flush.{Start, live, rebound, new_footprint, new_place, in_payload, in_flush, payloads, buffered, overflow}
use Rattle.rules.proofs.Lists.{All, In, in_all, all_map, all_append, all_right, volume_of_append}
use Rattle.rules.proofs.Facts.{Fits}
use Rattle.rules.proofs.Geometry.{climbs, starts_rise, region_ends}
use Rattle.rules.proofs.Rebound.{rebound_above, rebound_starts}
use Rattle.rules.proofs.RestKept.{classed}
use Rattle.rules.proofs.Ends.{payload_finals, overflow_finals}
use Rattle.rules.proofs.Safe.{Apart}
use Rattle.rules.proofs.Spreading.{Spread}
use Rattle.rules.proofs.Lifting.{Disjoint}
use Rattle.rules.proofs.Homes.{Classed, Window, Suffices, settled_window, settled_classed, windows_apart, settled_pairs, settled_spread}
use Rattle.rules.proofs.Begin.{Begins, floor_of, payloads_flushed, buffered_flushed, payloads_ordered}

-- two parts of a list that share no object have no more volume than the list
parts_least : (c : ℕ) (f t : Obj → Bool) (os : List Obj)
    → volume_of c (filter (λ o. f o && t o) os) + volume_of c (filter (λ o. f o && not (t o)) os) ≤ volume_of c os
unfolding filter volume_of
parts_least c f t [] = omega arith
parts_least c f t (o ∷ os) =
    elim (f o) as (λ a. volume_of c (cond (a && t o) (o ∷ filter (λ x. f x && t x) os) (filter (λ x. f x && t x) os))
    + volume_of c (cond (a && not (t o)) (o ∷ filter (λ x. f x && not (t x)) os) (filter (λ x. f x && not (t x)) os)) ≤ volume_of c (o ∷ os)) [
      | true ↦ elim (t o) as (λ b. volume_of c (cond b (o ∷ filter (λ x. f x && t x) os) (filter (λ x. f x && t x) os))
          + volume_of c (cond (not b) (o ∷ filter (λ x. f x && not (t x)) os) (filter (λ x. f x && not (t x)) os)) ≤ volume_of c (o ∷ os)) [
            | true ↦ omega (arith, parts_least c f t os)
            | false ↦ omega (arith, parts_least c f t os)
          ]
      | false ↦ omega (arith, parts_least c f t os)
    ]

module _ {q : ℕ} {s : Start} (g : Begins q s) where
  home_floor : start_of q (rebound s).sizes s.boundary ≡ floor_of q s
  home_floor = rebound_starts q s s.boundary (omega (arith, g.high)) (omega arith)

  spaced : (c d : ℕ) → s.boundary ≤ c → c < d → d ≤ classes
      → start_of q (rebound s).sizes c + volume_of c (live s) ≤ start_of q (rebound s).sizes d
  spaced c d a b e = omega (arith, climbs q (rebound s).sizes c d (omega (arith, g.low)) b, (rebound_above s c (omega arith) a).size_is)

  ends : (c : ℕ) → s.boundary ≤ c → c ≤ classes → start_of q (rebound s).sizes c + volume_of c (live s) ≤ new_footprint q s
  ends c a b = omega (arith, region_ends q (rebound s).sizes c (omega (arith, g.low)) b, (rebound_above s c b a).size_is)

  starts : (c : ℕ) → s.boundary ≤ c → floor_of q s ≤ start_of q (rebound s).sizes c
  starts c a = omega (arith, home_floor, starts_rise q (rebound s).sizes s.boundary c g.low a)

  -- the payloads take all that is flushed
  pub suffices : Suffices (λ c. volume_of c (live s)) (payloads q s) (overflow q s)
  unfolding payloads buffered
  suffices c = omega (
    arith,
    volume_of_append c (filter (λ o. in_flush q s o && not (in_payload q s.regions o)) s.old) s.new,
    volume_of_append c s.old s.new,
    parts_least c (in_flush q s) (in_payload q s.regions) s.old,
  )

  pub payloads_classed : All (Classed s.boundary) (payloads q s)
  payloads_classed = all_map (λ o k. k.0.of) (payloads q s) (payloads_flushed g)

  overflow_classed : All (Classed s.boundary) (overflow q s)
  overflow_classed = all_append (Classed s.boundary) (buffered q s) s.new (all_map (λ o k. k.0.of) (buffered q s) (buffered_flushed g))
      (new s.new g.new_there (all_right Fits s.old s.new g.fits))
    where
      new : (os : List Obj) → All (λ o. (o.at ≡ new_place q s) × (s.boundary ≤ cls o)) os → All Fits os → All (Classed s.boundary) os
      new [] h f = tt
      new (o ∷ os) h f = ((h.0.1, (classed o f.0).1), new os h.1 f.1)

  -- final places of payload objects rise, from the floor up to the new footprint
  pub finals_spread : Spread (floor_of q s) (new_footprint q s) (payload_finals q s)
  unfolding volume_of
  finals_spread = settled_spread s.boundary (start_of q (rebound s).sizes) (λ c. volume_of c (live s)) spaced (new_footprint q s) ends [] (payloads q s)
      s.boundary (floor_of q s)
      (λ c. omega (arith, suffices c)) payloads_classed (payloads_ordered g) (λ c a b. omega (arith, starts c a))
      (omega (arith, starts s.boundary (omega arith), ends s.boundary (omega arith) g.high))

  -- those of overflow objects miss one another
  pub overs_disjoint : Disjoint (overflow_finals q s)
  overs_disjoint =
      settled_pairs s.boundary (start_of q (rebound s).sizes) (λ c. volume_of c (live s)) spaced (payloads q s) (overflow q s) suffices overflow_classed

  pub over_window : All (Window (start_of q (rebound s).sizes) (λ c. volume_of c (payloads q s)) (λ c. volume_of c (live s))) (overflow_finals q s)
  over_window = settled_window (start_of q (rebound s).sizes) (λ c. volume_of c (live s)) (payloads q s) (overflow q s) suffices

  pub over_class : All (Classed s.boundary) (overflow_finals q s)
  over_class = settled_classed (start_of q (rebound s).sizes) s.boundary (payloads q s) (overflow q s) overflow_classed

  -- they lie between the floor and the new footprint
  pub overs_inside : All (λ f. (floor_of q s ≤ f.at) × (end_of f ≤ new_footprint q s)) (overflow_finals q s)
  overs_inside = go (overflow_finals q s) over_window over_class
    where
      go : (fs : List Obj) → All (Window (start_of q (rebound s).sizes) (λ c. volume_of c (payloads q s)) (λ c. volume_of c (live s))) fs
          → All (Classed s.boundary) fs
          → All (λ f. (floor_of q s ≤ f.at) × (end_of f ≤ new_footprint q s)) fs
      go [] w k = tt
      go (f ∷ fs) w k = ((omega (arith, w.0.0, starts (cls f) k.0.0), omega (arith, w.0.1, ends (cls f) k.0.0 k.0.1)), go fs w.1 k.1)

  -- and they miss the final places of payload objects
  pub overs_apart : (f p : Obj) → In f (overflow_finals q s) → In p (payload_finals q s) → Apart f p
  unfolding volume_of
  overs_apart f p m n =
      windows_apart s.boundary (start_of q (rebound s).sizes) (λ c. volume_of c (live s)) spaced (λ c. volume_of c []) (λ c. volume_of c (payloads q s)) p f
      (λ c. omega (arith, suffices c))
      (in_all (Window (start_of q (rebound s).sizes) (λ c. volume_of c []) (λ c. volume_of c (payloads q s))) (payload_finals q s)
      (settled_window (start_of q (rebound s).sizes) (λ c. volume_of c (payloads q s)) [] (payloads q s) (λ c. omega arith)) p n)
      (in_all (Window (start_of q (rebound s).sizes) (λ c. volume_of c (payloads q s)) (λ c. volume_of c (live s))) (overflow_finals q s) over_window f m)
      (in_all (Classed s.boundary) (payload_finals q s) (settled_classed (start_of q (rebound s).sizes) s.boundary [] (payloads q s) payloads_classed) p n)
      (in_all (Classed s.boundary) (overflow_finals q s) over_class f m)

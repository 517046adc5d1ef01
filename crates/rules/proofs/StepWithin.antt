-- Law 5 for the calls: every byte that a call writes lies in the area. The moves of a flush take objects from below the end of overflow to places below it:
-- lifted objects stand in overflow, packed ones end where it starts, and final places end by the new footprint. An insert's part is in Writes.antt, and the
-- other calls write nothing.
use mathlib.Core.Path.{◌≡◌, sym, ◌∙◌, subst}
use mathlib.Core.Logic.{inl, inr}
use mathlib.Core.Bool.{true}
use mathlib.Core.List.{List, [], ◌∷◌, reverse}
use Prim.Native.Nat.{ℕ, zero, suc, ◌-◌, ◌≤◌}
use native.Mathlib.Omega.{arith}
use native.Mathlib.Nat.{min-le_left, le-max_left, le-max_right}
use lib.ListN.{length, drop, length-take}
use Rattle.rules.specs.House.{share, classes, most_name}
use Rattle.rules.specs.Classes.{Obj, end_of, volume}
use Rattle.rules.specs.Regions.{start_of, footprint}
use Rattle.rules.specs.Flush.{Start, live, rebound, new_footprint, overflow_start, payloads, buffered, overflow, overflow_end, stacked, packed, Move}
use Rattle.rules.specs.Flush.{Act, move, wait, moves, lifting, packing, spreading, settling, plan, ahead}
use Rattle.rules.specs.Stores.{Store, flushing, Flush, start_in}
use Rattle.rules.specs.Sound.{sound}
use Rattle.rules.specs.Calls.{insert_of, step_of}
use Rattle.rules.specs.History.{Every}
use Rattle.rules.proofs.Lists.{every_map, every_append, All, all_in_lem, all_map, volume_append}
use Rattle.rules.proofs.Facts.{limits_facts}
use Rattle.rules.proofs.Geometry.{starts_rise}
use Rattle.rules.proofs.Starts.{gone_by, sound_parts, sound_starts}
use Rattle.rules.proofs.Quota.{overflow_fits}
use Rattle.rules.proofs.Writes.{EndsIn, insert_within}
use Rattle.rules.proofs.Accepted.{insert_cases, step_cases}
use Rattle.rules.proofs.Names.{kinds, kinds_stacked, kinds_packed, kinds_settled, kinds_turned, all_reverse}
use Rattle.rules.proofs.Plays.{moves_of, Next}
use Rattle.rules.proofs.Counts.{plan_moves}
use Rattle.rules.proofs.Ends.{payload_finals, overflow_finals}
use Rattle.rules.proofs.Safe.{target, Twins, twins_of}
use Rattle.rules.proofs.Packing.{falling_volume}
use Rattle.rules.proofs.Spreading.{spread_within}
use Rattle.rules.proofs.Rows.{stacked_within, chain_falling}
use Rattle.rules.proofs.Begin.{Begins, floor_of, payloads_flushed, buffered_flushed, payloads_chain}
use Rattle.rules.proofs.Finals.{finals_spread, overs_inside}
use Rattle.rules.proofs.Begun.{sound_begins}

-- what every move of a plan passes, the next one does
pub each_next : (P : Move → Type 0) (acts : List Act) (n : ℕ) (m : Move) (rest : List Act) → Every P (moves_of acts) → Next (ahead acts n) m rest → P m
unfolding moves_of ahead
each_next P acts zero m rest h (inl e) = (subst (λ (xs : List Act). Every P (moves_of xs)) e h).0
each_next P acts zero m rest h (inr e) = (subst (λ (xs : List Act). Every P (moves_of xs)) e h).0
each_next P [] (suc n) m rest h (inl e) = let z : ◌≡◌ {A = ℕ} 0 1 = cc in absurd (omega arith)
each_next P [] (suc n) m rest h (inr e) = let z : ◌≡◌ {A = ℕ} 0 1 = cc in absurd (omega arith)
each_next P (wait ∷ acts) (suc n) m rest h k = each_next P acts (suc n) m rest h k
each_next P (move x ∷ acts) (suc n) m rest h k = each_next P acts n m rest h.1 k

-- an object ends by a place
abbrev pub By : ℕ → Obj → Type 0
By top o = end_of o ≤ top

-- a move ends by a place, where it takes its object and where it puts it
abbrev pub MovesBy : ℕ → Move → Type 0
MovesBy top m = (end_of (target m) ≤ top) × (end_of m.object ≤ top)

moves_by : (top : ℕ) (xs ys : List Obj) → kinds xs ≡ kinds ys → All (By top) xs → All (By top) ys → Every (MovesBy top) (moves xs ys)
unfolding moves
moves_by top xs ys e = go xs ys (twins_of xs ys e)
  where
    go : (xs ys : List Obj) → Twins xs ys → All (By top) xs → All (By top) ys → Every (MovesBy top) (moves xs ys)
    go [] ys w h k = tt
    go (x ∷ xs) [] w h k = tt
    go (x ∷ xs) (y ∷ ys) w h k = ((omega (arith, w.0.1, k.0), h.0), go xs ys w.1 h.1 k.1)

-- packed objects end by the edge
packed_by : (top edge : ℕ) (os : List Obj) → edge ≤ top → volume os ≤ edge → All (By top) (packed edge os)
unfolding packed volume
packed_by top edge [] l v = tt
packed_by top edge (o ∷ os) l v = (omega arith, packed_by top (edge - o.len) os (omega arith) (omega arith))

module _ {q : ℕ} {s : Start} (g : Begins q s) where
  -- the ends of regions and overflow's start are below overflow's end
  pub old_below : footprint q s.regions.sizes ≤ overflow_start q s
  unfolding overflow_start
  old_below = omega (arith, le-max_left (footprint q s.regions.sizes) (new_footprint q s))

  new_below : new_footprint q s ≤ overflow_start q s
  unfolding overflow_start
  new_below = omega (arith, le-max_right (footprint q s.regions.sizes) (new_footprint q s))

  payloads_by : All (By (footprint q s.regions.sizes)) (payloads q s)
  payloads_by = all_map (λ o k. k.0.upto) (payloads q s) (payloads_flushed g)

  tight_by : All (By (overflow_end q s)) (packed (overflow_start q s) (reverse (payloads q s)))
  tight_by =
      let falls = chain_falling (floor_of q s) (floor_of q s) (footprint q s.regions.sizes) (payloads q s) [] (omega arith)
      (starts_rise q s.regions.sizes s.boundary (suc classes) g.low (omega (arith, g.high))) (payloads_chain g) payloads_by in
      packed_by (overflow_end q s) (overflow_start q s) (reverse (payloads q s)) (omega arith) (omega (
        arith,
        falling_volume (floor_of q s) (footprint q s.regions.sizes) (reverse (payloads q s)) falls,
        old_below,
      ))

  -- EVERY MOVE OF A PLAN ends by the end of overflow, and so does its object where it lies
  pub plan_by_lem : Every (MovesBy (overflow_end q s)) (moves_of (plan q s))
  plan_by_lem =
      let top = overflow_end q s in
      let each = every_append (MovesBy top) in
      let up : (a : ℕ) → a ≤ overflow_start q s → (os : List Obj) → All (By a) os → All (By top) os = λ a l os h. all_map
      (λ o k. omega arith) os h in
      let paid = up (footprint q s.regions.sizes) old_below (payloads q s) payloads_by in
      let back = reverse (payloads q s) in
      let tight = packed (overflow_start q s) back in
      let one = moves_by top (buffered q s) (stacked (overflow_start q s) (buffered q s)) (sym (kinds_stacked (overflow_start q s) (buffered q s)))
      (up (footprint q s.regions.sizes) old_below (buffered q s) (all_map (λ o k. k.0.upto) (buffered q s) (buffered_flushed g)))
      (all_map (λ o k. omega (arith, k.1, volume_append (buffered q s) s.new)) (stacked (overflow_start q s) (buffered q s))
      (stacked_within (overflow_start q s) (buffered q s))) in
      let two = moves_by top back tight (sym (kinds_packed (overflow_start q s) back)) (all_reverse (By top) (payloads q s) [] paid tt) tight_by in
      let three = moves_by top (reverse tight) (payload_finals q s)
      (kinds_turned (overflow_start q s) (payloads q s) ∙ sym (kinds_settled (start_of q (rebound s).sizes) [] (payloads q s)))
      (all_reverse (By top) tight [] tight_by tt)
      (up (new_footprint q s) new_below (payload_finals q s)
      (all_in_lem (By (new_footprint q s)) (payload_finals q s) (spread_within (floor_of q s) (new_footprint q s) (payload_finals q s) (finals_spread g)))) in
      let four = moves_by top (stacked (overflow_start q s) (overflow q s)) (overflow_finals q s)
      (kinds_stacked (overflow_start q s) (overflow q s) ∙ sym (kinds_settled (start_of q (rebound s).sizes) (payloads q s) (overflow q s)))
      (all_map (λ o k. k.1) (stacked (overflow_start q s) (overflow q s)) (stacked_within (overflow_start q s) (overflow q s)))
      (up (new_footprint q s) new_below (overflow_finals q s) (all_map (λ o k. k.1) (overflow_finals q s) (overs_inside g))) in
      rw plan_moves (each (lifting q s) _ one (each (packing q s) _ two (each (spreading q s) (settling q s) three four)))

-- IN A FLUSH OF A SOUND STORE every move takes its object from a place in the area to a place in the area
pub moves_within : (q : ℕ) (s : Store) (f : Flush) → 3 ≤ q → s.stage ≡ flushing f → sound q s ≡ true
    → Every (MovesBy s.area) (moves_of (plan q (start_in s f)))
moves_within q s f three runs holds =
    every_map (λ m h. (omega (arith, fits, h.0), omega (arith, fits, h.1))) (moves_of (plan q (start_in s f)))
    (plan_by_lem (sound_begins q s f three runs holds))
  where
    fits : overflow_end q (start_in s f) ≤ s.area
    fits =
        let l = limits_facts q s.area (live (start_in s f)) (sound_parts q s (flushing f) runs holds).0 in
        overflow_fits q s.area (gone_by f.request) (start_in s f) (omega arith) (omega (arith, l.area_least)) (sound_starts q s f runs holds)

-- AN INSERT writes within the area
pub insert_writes : (s : Store) (lent n : ℕ) (page : List ℕ) → n ≤ most_name → EndsIn s.area (insert_of s lent n page).write
insert_writes s lent n page small = insert_cases (λ o. EndsIn s.area o.write) s (λ a e. omega arith) lent n page small (λ p.
    insert_within share s.area s.regions s.objects n page (omega arith) p.at_rest p.may)

-- A STEP writes within the area
pub step_writes : (s : Store) (area : List ℕ) → EndsIn s.area (step_of s area).write
step_writes s area = step_cases (λ o. EndsIn s.area o.write) s (λ a e. omega arith) area (omega arith) (λ f runs holds own law.
    let m = law.next in
    let by = each_next (MovesBy s.area) (plan share (start_in s f)) f.made m law.rest (moves_within share s f (omega arith) runs holds) law.first in
    omega (arith, by.0, length-take m.object.len (drop m.object.at area), min-le_left m.object.len (length (drop m.object.at area))))

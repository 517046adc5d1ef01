-- The quota keeps every byte below the area's end (law 5). The end of overflow is an end of regions, twice the buffers from b on and twice D, which is
-- at most the longest length allowed: by the footprint law, before the flush and after it, q - 1 times that is at most q + 3 quotas and 2 (q - 1)
-- longest lengths, and the quota is chosen so that this is at most q - 1 areas.
use mathlib.Core.Path.{◌≡◌, ap}
use mathlib.Core.List.{List, [], ◌∷◌}
use Prim.Native.Nat.{ℕ, zero, suc, ◌+◌, ◌-◌, ◌*◌, ◌≤◌, ◌<◌}
use native.Mathlib.Omega.{arith}
use native.Mathlib.Nat.{mul-div-le, mul-le-mul_left, le_of_mul-le-mul_left}
use Rattle.rules.specs.House.{classes, longest, quota_of}
use Rattle.rules.specs.Classes.{Obj, volume}
use Rattle.rules.specs.Regions.{Regions, col, up_from, buffer_size, buffer_start, footprint}
use Rattle.rules.specs.Flush.{Start, live, longest_of, rebound, new_footprint, old_buffers, limit, overflow_start, buffered, overflow, overflow_end}
use Rattle.rules.specs.Flush.{new_place}
use Rattle.rules.specs.Sound.{live_at}
use Rattle.rules.proofs.Lists.{volume_append}
use Rattle.rules.proofs.Facts.{Rest}
use Rattle.rules.proofs.Geometry.{region_ends}
use Rattle.rules.proofs.Volumes.{live_within, up_falls}
use Rattle.rules.proofs.Rebound.{rebound_used, rebound_some, flush_balanced}
use Rattle.rules.proofs.Footprint.{useds_within, footprint_balanced, footprint_law, buffers_law}
use Rattle.rules.proofs.Starts.{Starts}
use Rattle.rules.proofs.Buffered.{buffered_volume}

-- the quota times q + 3, at q = r + 1
quota_law : (r l a : ℕ) → 2 * l ≤ a → (r + 4) * quota_of (suc r) l a + r * (2 * l) ≤ r * a
unfolding quota_of
quota_law r l a h =
    let e : suc r - 1 ≡ r = omega arith in
    let d : (a - 2 * l) + 2 * l ≡ a = omega arith in
    rw e (omega (arith, mul-div-le (r * (a - 2 * l)) (suc r + 3), ap (λ (x : ℕ). r * x) d))

-- plain numbers: d any number up to the longest length, f an end of regions, b the buffers from the boundary on, w the volume of overflow
over : (r a l d quota f b w : ℕ) → 0 < r → (r + 4) * quota + r * (2 * l) ≤ r * a → d ≤ l → r * f ≤ (r + 2) * quota → r * b ≤ quota
    → w ≤ b + d → f + (b + d) + w ≤ a
over r a l d quota f b w pos fit short ends spared vol =
    le_of_mul-le-mul_left {k = r} (omega (arith, mul-le-mul_left r vol, mul-le-mul_left r short)) pos

module _ (r a gone : ℕ) (s : Start) (starts : Starts (suc r) a gone s) where
  new_end : r * new_footprint (suc r) s ≤ (r + 2) * volume (live s)
  new_end = omega (
    arith,
    footprint_balanced r (rebound s) (live_at (live s) 0) (λ i l m. rebound_used s i m (suc r) (starts.rest.used_fits_lem i l m))
        (λ i l m u. (rebound_some s i m (starts.rest.lowest_some i l m) u).0)
        (flush_balanced s gone starts.boundary_clean starts.new_class starts.gone_class starts.rest.balance),
    mul-le-mul_left (r + 2) (live_within 1 classes (live s) 0),
  )

  overflow_volume : volume (overflow (suc r) s) ≤ old_buffers (suc r) s + longest_of s
  overflow_volume =
      omega (
        arith,
        volume_append (buffered (suc r) s) s.new,
        starts.new_length,
        buffered_volume (suc r) s gone starts.rest starts.old_some (omega (arith, starts.boundary_most)),
        useds_within (suc r) s.regions starts.rest.used_fits_lem s.boundary (up_from s.boundary) starts.boundary_least (omega (
          arith,
          starts.boundary_most,
        )),
      )

  old_buffers_lem : r * old_buffers (suc r) s ≤ volume s.old + gone
  old_buffers_lem =
      let e : suc r - 1 ≡ r = omega arith in
      omega (
        arith,
        mul-le-mul_left r (up_falls (buffer_size (suc r) s.regions.sizes) 1 s.boundary starts.boundary_least (omega (arith, starts.boundary_most))),
        rw e at (buffers_law (suc r) s.regions s.old gone starts.rest),
      )

  -- what lies behind an end of regions: B + D, and overflow
  end_within : 0 < r → 2 * longest ≤ a → (f : ℕ) → r * f ≤ (r + 2) * quota_of (suc r) longest a
      → f + limit (suc r) s + volume (overflow (suc r) s) ≤ a
  end_within pos large f end =
      let quota = quota_of (suc r) longest a in
      let part : r * old_buffers (suc r) s ≤ quota = omega (arith, old_buffers_lem, starts.old_quota) in
      over r a longest (longest_of s) quota f (old_buffers (suc r) s) (volume (overflow (suc r) s)) pos (quota_law r longest a large) starts.longest_fits
      end part overflow_volume

  overflow_within : 0 < r → 2 * longest ≤ a → overflow_end (suc r) s ≤ a
  unfolding overflow_start
  overflow_within pos large =
      let e : suc r - 1 ≡ r = omega arith in
      let quota = quota_of (suc r) longest a in
      let before : r * footprint (suc r) s.regions.sizes ≤ (r + 2) * quota = omega (
        arith,
        rw e at (footprint_law (suc r) s.regions s.old gone starts.rest),
        mul-le-mul_left (r + 2) starts.old_quota,
      ) in
      let after : r * new_footprint (suc r) s ≤ (r + 2) * quota = omega (arith, new_end, mul-le-mul_left (r + 2) starts.live_quota) in
      omega (arith, end_within pos large (footprint (suc r) s.regions.sizes) before, end_within pos large (new_footprint (suc r) s) after)

-- THE END OF OVERFLOW is within the area
pub overflow_fits : (q a gone : ℕ) (s : Start) → 2 ≤ q → 2 * longest ≤ a → Starts q a gone s → overflow_end q s ≤ a
overflow_fits zero a gone s wide large starts = absurd (omega arith)
overflow_fits (suc r) a gone s wide large starts = overflow_within r a gone s starts (omega arith) large

-- so is the place of the new object
pub new_place_fits : (q a : ℕ) (s : Start) (o : Obj) → s.new ≡ o ∷ [] → overflow_end q s ≤ a → new_place q s + o.len ≤ a
unfolding volume
new_place_fits q a s o e l = omega (arith, volume_append (buffered q s) s.new, ap volume e)

module _ (q a : ℕ) (t : Regions) (os : List Obj) (wide : 2 ≤ q) (large : 2 * longest ≤ a) (rest : Rest q t os 0) where
  -- at rest n bytes from F on are within the area, if they are within the quota
  pub raise_fits : (n : ℕ) → volume os + n ≤ quota_of q longest a → footprint q t.sizes + n ≤ a
  raise_fits n within = fits q wide within (footprint_law q t os 0 rest)
    where
      fits : (q : ℕ) → 2 ≤ q → volume os + n ≤ quota_of q longest a → (q - 1) * footprint q t.sizes ≤ (q + 1) * (volume os + 0)
          → footprint q t.sizes + n ≤ a
      fits zero w h k = absurd (omega arith)
      fits (suc r) w h k =
          let e : suc r - 1 ≡ r = omega arith in
          let p = rw e at k in
          le_of_mul-le-mul_left {k = r} (omega (arith, quota_law r longest a large, mul-le-mul_left (r + 2) h)) (omega arith)

  -- so is F
  pub footprint_fits : volume os ≤ quota_of q longest a → footprint q t.sizes ≤ a
  footprint_fits within = omega (arith, raise_fits 0 (omega arith))

  -- and the unused space of a buffer
  pub entry_fits_lem : volume os ≤ quota_of q longest a → (j n : ℕ) → 1 ≤ j → j ≤ classes → col t.useds j + n ≤ buffer_size q t.sizes j
      → buffer_start q t.sizes j + col t.useds j + n ≤ a
  entry_fits_lem within j n l m room = omega (arith, footprint_fits within, region_ends q t.sizes j l m)

-- Law 9 where a flush ends: the store that the last confirmation gives is sound. After the whole plan the objects held are those
-- left alone and all others at their final places (law 6's end), which lie in the new payloads; they lie apart as after every move
-- (Laid.antt); names and lengths are as before (law 7); the balance is law 3's.
use mathlib.Core.Path.{◌≡◌, refl, sym, ap, ◌∙◌}
use mathlib.Core.Logic.{◌⊎◌, inl, inr}
use mathlib.Core.Bool.{cond, not}
use mathlib.Core.List.{List, [], ◌∷◌, ◌++◌}
use Prim.Native.Nat.{ℕ, zero, suc, ◌+◌, ◌≤◌, ◌<◌}
use native.Mathlib.Omega.{arith}
use native.Mathlib.Nat.{lt_of_not-le}
use lib.ListN.{length}
use lib.Dec.{eqb}
use Rattle.rules.specs.Classes.{Obj, cls, end_of, volume, volume_of, by_place}
use Rattle.rules.specs.Regions.{start_of}
use Rattle.rules.specs.Flush.{Start, Act, move, wait, live, rebound, in_flush, payloads, overflow_end, moved, played}
use Rattle.rules.specs.Sound.{live_at}
use Rattle.rules.proofs.Lists.{All, In, all_map, all_in_lem, in_all}
use Rattle.rules.proofs.Tables.{span_same}
use Rattle.rules.proofs.Facts.{Lies, Rest, Fits, Limits}
use Rattle.rules.proofs.Geometry.{starts_rise}
use Rattle.rules.proofs.Insertion.{sort_all, sort_chain, sort_distinct, sort_volume, sort_volume_of, sort_length}
use Rattle.rules.proofs.RestKept.{classed}
use Rattle.rules.proofs.Rebound.{rebound_below, rebound_above, rebound_starts, rebound_used, rebound_none, rebound_some, flush_balanced}
use Rattle.rules.proofs.Names.{kinds, fits_kinds, kinds_length, filter_in}
use Rattle.rules.proofs.Plays.{moves_left}
use Rattle.rules.proofs.Ends.{payload_finals, overflow_finals}
use Rattle.rules.proofs.Safe.{Safe}
use Rattle.rules.proofs.Homes.{Classed, Window, settled_window, settled_classed}
use Rattle.rules.proofs.Begin.{Begins, floor_of, untouched, untouched_low}
use Rattle.rules.proofs.Finals.{suffices, payloads_classed, over_window, over_class}
use Rattle.rules.proofs.FlushSafe.{Settled}
use Rattle.rules.proofs.Laid.{besides_pairwise, Laid}

-- a safe plan ends as its last condition says
pub safe_ends : (P : List Obj → Type 0) (acts : List Act) (now seen : List Obj) → Safe acts (λ n e. P n) now seen → P (played acts (moves_left acts) now)
unfolding played moves_left
safe_ends P [] now seen s = s
safe_ends P (move m ∷ acts) now seen s = safe_ends P acts (moved m now) (now ++ seen) s.3
safe_ends P (wait ∷ acts) now seen s = skip (moves_left acts) (safe_ends P acts now now s)
  where
    skip : (n : ℕ) → P (played acts n now) → P (played (wait ∷ acts) n now)
    skip zero p = p
    skip (suc n) p = p

-- lists of the same names and lengths have the same sums
pub kinds_volume : (xs : List Obj) → volume (kinds xs) ≡ volume xs
unfolding volume
kinds_volume [] = refl
kinds_volume (x ∷ xs) = ap (λ (n : ℕ). x.len + n) (kinds_volume xs)

kinds_volume_of : (c : ℕ) (xs : List Obj) → volume_of c (kinds xs) ≡ volume_of c xs
unfolding volume_of
kinds_volume_of c [] = refl
kinds_volume_of c (x ∷ xs) = ap (λ (n : ℕ). cond (eqb (cls x) c) x.len 0 + n) (kinds_volume_of c xs)

-- after the whole plan of a flush that a sound store begins
module _ {q : ℕ} {s : Start} (g : Begins q s) (now : List Obj) (e : Settled q s now) (laid : Laid (overflow_end q s) now)
    (same : kinds (live s) ≡ kinds now) where
  now_fits : All Fits now
  now_fits = fits_kinds (live s) now same g.fits

  untouched_ends : (o : Obj) → In o (untouched q s) → end_of o ≤ floor_of q s
  untouched_ends o m = in_all (λ x. end_of x ≤ floor_of q s) (untouched q s) (untouched_low g) o m

  -- where each object lies: below the flushed regions, or at a final place
  abbrev Place : Obj → Type 0
  Place o = In o (untouched q s) ⊎ (In o (payload_finals q s) ⊎ In o (overflow_finals q s))

  -- an object left alone lies as it did: its region is below the boundary and unchanged
  low_region : (c : ℕ) → 1 ≤ c → (o : Obj) → In o (untouched q s) → 1 ≤ o.len → start_of q s.regions.sizes c ≤ o.at → c < s.boundary
  low_region c l o m p from = lt_of_not-le (λ k. omega (arith, starts_rise q s.regions.sizes s.boundary c g.low k, untouched_ends o m))

  untouched_lies : (o : Obj) → In o (untouched q s) → Fits o → Lies q s.regions o → Lies q (rebound s) o
  untouched_lies o m f (inl p) =
      let c = classed o f in
      let l = low_region (cls o) c.0 o m f.some_length p.0 in
      let z = rebound_below s (cls o) c.1 l in
      let t = rebound_starts q s (cls o) (omega (arith, g.high)) (omega arith) in
      inl (omega (arith, p.0), omega (arith, p.1, z.size_is))
  untouched_lies o m f (inr b) =
      let j = b.number in
      let l = low_region j b.least o m f.some_length (omega (arith, b.inside.from)) in
      let z = rebound_below s j b.most l in
      let t = rebound_starts q s j (omega (arith, g.high)) (omega arith) in
      inr (record {
        number = j;
        least = b.least;
        most = b.most;
        inside = record {
          low = omega (arith, b.inside.low, z.lowest_is);
          up = b.inside.up;
          from = omega (arith, b.inside.from, z.size_is);
          upto = omega (arith, b.inside.upto, z.size_is, z.used_is);
        };
      })

  -- a final place lies in the new payload of its class
  window_lies : (u v : ℕ → ℕ) (o : Obj) → ((c : ℕ) → v c ≤ volume_of c (live s)) → Window (start_of q (rebound s).sizes) u v o
      → Classed s.boundary o → Lies q (rebound s) o
  window_lies u v o le w k = inl (omega (arith, w.0), omega (arith, w.1, le (cls o), (rebound_above s (cls o) k.1 k.0).size_is))

  place_lies : (o : Obj) → Fits o → Place o → Lies q (rebound s) o
  unfolding untouched volume_of
  place_lies o f (inl m) = untouched_lies o m f
      (in_all (Lies q s.regions) s.old g.rest.lies o (filter_in (λ x. not (in_flush q s x)) s.old o m).0)
  place_lies o f (inr (inl m)) =
      let home = start_of q (rebound s).sizes in
      window_lies (λ c. volume_of c []) (λ c. volume_of c (payloads q s)) o (λ c. omega (arith, suffices g c))
      (in_all (Window home (λ c. volume_of c []) (λ c. volume_of c (payloads q s))) (payload_finals q s)
      (settled_window home (λ c. volume_of c (payloads q s)) [] (payloads q s) (λ c. omega arith)) o m)
      (in_all (Classed s.boundary) (payload_finals q s) (settled_classed home s.boundary [] (payloads q s) (payloads_classed g)) o m)
  place_lies o f (inr (inr m)) =
      let home = start_of q (rebound s).sizes in
      window_lies (λ c. volume_of c (payloads q s)) (λ c. volume_of c (live s)) o (λ c. omega arith)
      (in_all (Window home (λ c. volume_of c (payloads q s)) (λ c. volume_of c (live s))) (overflow_finals q s) (over_window g) o m)
      (in_all (Classed s.boundary) (overflow_finals q s) (over_class g) o m)

  sorted_volume_of : (c : ℕ) → volume_of c (by_place now) ≡ volume_of c (live s)
  sorted_volume_of c = sort_volume_of c now ∙ (sym (kinds_volume_of c now) ∙ (ap (volume_of c) (sym same) ∙ kinds_volume_of c (live s)))

  -- THE RULES AT REST hold of the settled store
  pub settled_rest : Rest q (rebound s) (by_place now) 0
  settled_rest = record {
    used_fits_lem = λ i l m. rebound_used s i m q (g.rest.used_fits_lem i l m);
    lowest_none = λ i l m. rebound_none s i m (g.rest.lowest_none i l m);
    lowest_some = λ i l m. rebound_some s i m (g.rest.lowest_some i l m);
    lies = sort_all (Lies q (rebound s)) now (all_in_lem (Lies q (rebound s)) now (λ o m. place_lies o (in_all Fits now now_fits o m) (e.only o m)));
    apart = sort_chain now (besides_pairwise now laid.differ laid.some laid.beside);
    balance = λ k n x y c d. omega (
      arith,
      flush_balanced s g.gone g.clean (all_map (λ o k. k.1) s.new g.new_there) g.gone_class g.rest.balance k n x y c d,
      span_same (live_at (live s) 0) (live_at (by_place now) 0) k n (λ i u v. omega (arith, sorted_volume_of i)),
    );
  }

  -- and so do the limits
  pub settled_limits : (a : ℕ) → Limits q a (live s) → Limits q a (by_place now)
  settled_limits a l = record {
    area_least = l.area_least;
    area_most = l.area_most;
    few = omega (arith, sort_length now, kinds_length now, kinds_length (live s), ap length same, l.few);
    fits = sort_all Fits now now_fits;
    differ = sort_distinct now e.differ;
    quota = omega (arith, sort_volume now, kinds_volume now, kinds_volume (live s), ap volume same, l.quota);
  }

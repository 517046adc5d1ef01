-- The start of a flush: what it gives, as one record; that a request within its limits gives it at its boundary, which is clean; and that a flush in
-- a sound store has it.
use mathlib.Core.Path.{◌≡◌, refl, sym, ap, ◌∙◌, subst}
use mathlib.Core.Logic.{◌⊎◌, inl, inr}
use mathlib.Core.Bool.{true, cond, ◌&&◌}
use mathlib.Core.List.{List, [], ◌∷◌, ◌++◌}
use Prim.Native.Nat.{ℕ, zero, suc, ◌+◌, ◌≤◌}
use native.Mathlib.Omega.{arith}
use lib.Dec.{leb, ltb, eqb}
use borrow.Author.Tests.{leb-true, eqb-true}
use Rattle.rules.specs.House.{classes, longest, quota_of}
use Rattle.rules.specs.Classes.{Obj, cls, class_of, placed, volume, volume_of}
use Rattle.rules.specs.Regions.{Regions, col, table, column}
use Rattle.rules.specs.Boundary.{boundary_of}
use Rattle.rules.specs.Flush.{Start, live, longest_in, longest_of, rebound, overflow_start, buffered, new_place}
use Rattle.rules.specs.Stores.{Store, Stage, flushing, Flush, Request, storing, dropping, request_class, new_of, start_by, start_in, ahead_of, held_at}
use Rattle.rules.specs.Sound.{within_quota, limits_hold, rest_rules, start_holds, due_fits, stage_holds, sound}
use Rattle.rules.proofs.Lists.{and_true, All, all_left, all_right, all_append, all_map, volume_of_append}
use Rattle.rules.proofs.Longest.{longest_least, longest_most, longest_placed}
use Rattle.rules.proofs.Facts.{Clean, clean_fact, clean_test, Rest, rest_facts, Fits, limits_facts}
use Rattle.rules.proofs.ClassLaws.{class_bounds}
use Rattle.rules.proofs.Boundary.{boundary_greatest}
use Rattle.rules.proofs.Footprint.{clean_first}

-- what the start of a flush gives, gone being the length deleted, or 0
pub record Starts (q a gone : ℕ) (s : Start) : Type 0 where
  pub boundary_least : 1 ≤ s.boundary
  pub boundary_most : s.boundary ≤ classes
  pub boundary_clean : Clean s.regions s.boundary
  pub rest : Rest q s.regions s.old gone
  pub old_some : All (λ o. 1 ≤ o.len) s.old
  pub new_class : All (λ o. s.boundary ≤ cls o) s.new
  pub new_length : volume s.new ≤ longest_of s
  pub longest_fits : longest_of s ≤ longest
  pub gone_class : (gone ≡ 0) ⊎ (s.boundary ≤ class_of gone)
  pub old_quota : volume s.old + gone ≤ quota_of q longest a
  pub live_quota : volume (live s) ≤ quota_of q longest a

-- the length that a request deletes, or 0
abbrev pub gone_by : Request → ℕ
gone_by (storing o) = 0
gone_by (dropping n) = n

-- the lengths of a request are in their limits
abbrev pub Asks : Request → Type 0
Asks (storing o) = (1 ≤ o.len) × (o.len ≤ longest)
Asks (dropping n) = (1 ≤ n) × (n ≤ longest)

-- a request is of some class
asked_class : (r : Request) → Asks r → (1 ≤ request_class r) × (request_class r ≤ classes)
asked_class (storing o) k = class_bounds o.len k.0 k.1
asked_class (dropping n) k = class_bounds n k.0 k.1

new_high : (r : Request) (b : ℕ) → b ≤ request_class r → All (λ o. b ≤ cls o) (new_of r)
new_high (storing o) b l = (l, tt)
new_high (dropping n) b l = tt

-- the new object is at most D long
new_short : (os : List Obj) (r : Request) → volume (new_of r) ≤ longest_in (os ++ new_of r)
unfolding volume
new_short os (storing o) =
    let live = os ++ (o ∷ []) in
    omega (arith, (all_right (λ x. x.len ≤ longest_in live) os (o ∷ []) (longest_least live)).0)
new_short os (dropping n) = omega arith

new_fits : (r : Request) → Asks r → All (λ o. o.len ≤ longest) (new_of r)
new_fits (storing o) k = (k.1, tt)
new_fits (dropping n) k = tt

gone_high : (r : Request) (b : ℕ) → b ≤ request_class r → (gone_by r ≡ 0) ⊎ (b ≤ class_of (gone_by r))
gone_high (storing o) b l = inl refl
gone_high (dropping n) b l = inr l

-- the boundary of a request
abbrev pub boundary_by : Regions → Request → ℕ
boundary_by t r = boundary_of t.useds t.lowests (request_class r)

-- a request within its limits starts a flush at its boundary
pub request_starts : (q a : ℕ) (t : Regions) (os : List Obj) (r : Request) → Rest q t os (gone_by r) → All Fits os → Asks r
    → volume os + gone_by r ≤ quota_of q longest a → volume (os ++ new_of r) ≤ quota_of q longest a
    → Starts q a (gone_by r) (start_by t os r (boundary_by t r))
request_starts q a t os r rest fits asks before after =
    let c = asked_class r asks in
    let g = boundary_greatest t.useds t.lowests (clean_test t 1 (clean_first rest)) (request_class r) c.0 in
    record {
      boundary_least = g.least;
      boundary_most = omega (arith, g.within, c.1);
      boundary_clean = clean_fact t (boundary_by t r) g.is_clean;
      rest = rest;
      old_some = all_map (λ o f. f.some_length) os fits;
      new_class = new_high r (boundary_by t r) g.within;
      new_length = new_short os r;
      longest_fits = longest_most longest (os ++ new_of r)
          (all_append (λ o. o.len ≤ longest) os (new_of r) (all_map (λ o f. f.length_fits) os fits) (new_fits r asks));
      gone_class = gone_high r (boundary_by t r) g.within;
      old_quota = before;
      live_quota = after;
    }

-- what soundness says of a flush's start
record Began (q : ℕ) (s : Store) (r : Request) : Type 0 where
  asks : Asks r
  rest : Rest q s.regions s.objects (gone_by r)
  quota : volume s.objects + gone_by r ≤ quota_of q longest s.area

began : (q : ℕ) (s : Store) (f : Flush) (r : Request) → All Fits (new_of r) → start_holds q s f r ≡ true → Began q s r
began q s f (storing o) new e =
    let h = and_true (eqb o.at (new_place q (start_in s f))) (rest_rules q s.regions s.objects 0 && within_quota q s.area s.objects 0) e in
    let k = and_true (rest_rules q s.regions s.objects 0) (within_quota q s.area s.objects 0) h.1 in
    record { asks = (new.0.some_length, new.0.length_fits); rest = rest_facts q s.regions s.objects 0 k.0; quota = leb-true _ _ k.1 }
began q s f (dropping n) new e =
    let h = and_true (leb 1 n && leb n longest) (rest_rules q s.regions s.objects n && within_quota q s.area s.objects n) e in
    let k = and_true (rest_rules q s.regions s.objects n) (within_quota q s.area s.objects n) h.1 in
    let m = and_true (leb 1 n) (leb n longest) h.0 in
    record { asks = (leb-true 1 n m.0, leb-true n longest m.1); rest = rest_facts q s.regions s.objects n k.0; quota = leb-true _ _ k.1 }

flush_starts : (q : ℕ) (s : Store) (f : Flush) → limits_hold q s.area (live (start_in s f)) ≡ true → stage_holds q s (flushing f) ≡ true
    → Starts q s.area (gone_by f.request) (start_in s f)
unfolding stage_holds
flush_starts q s f l e =
    let limits = limits_facts q s.area (live (start_in s f)) l in
    let h = and_true (eqb f.boundary (boundary_by s.regions f.request)) (start_holds q s f f.request && due_fits (ahead_of q s f) f.due) e in
    let k = and_true (start_holds q s f f.request) (due_fits (ahead_of q s f) f.due) h.1 in
    let b = began q s f f.request (all_right Fits s.objects (new_of f.request) limits.fits) k.0 in
    rw (eqb-true f.boundary (boundary_by s.regions f.request) h.0)
    (request_starts q s.area s.regions s.objects f.request b.rest (all_left Fits s.objects (new_of f.request) limits.fits) b.asks
    b.quota limits.quota)

-- soundness by stage
pub sound_parts : (q : ℕ) (s : Store) (g : Stage) → s.stage ≡ g → sound q s ≡ true
    → (limits_hold q s.area (held_at s g) ≡ true) × (stage_holds q s g ≡ true)
unfolding sound
sound_parts q s g p e =
    and_true (limits_hold q s.area (held_at s g)) (stage_holds q s g)
    (subst (λ (x : Stage). (limits_hold q s.area (held_at s x) && stage_holds q s x) ≡ true) p e)

-- so does the request of a flush that runs in a sound store
pub sound_starts : (q : ℕ) (s : Store) (f : Flush) → s.stage ≡ flushing f → sound q s ≡ true
    → Starts q s.area (gone_by f.request) (start_in s f)
sound_starts q s f runs e = let k = sound_parts q s (flushing f) runs e in flush_starts q s f k.0 k.1

table_same : (f g : ℕ → ℕ) (i n : ℕ) → ((k : ℕ) → f k ≡ g k) → table f i n ≡ table g i n
unfolding table
table_same f g i zero h = refl
table_same f g i (suc n) h = rw (h i, table_same f g (suc i) n h)

module _ (t : Regions) (os : List Obj) (o : Obj) (x b : ℕ) where
  placed_volume : (c : ℕ) → volume_of c (os ++ (placed o x ∷ [])) ≡ volume_of c (os ++ (o ∷ []))
  unfolding volume_of
  placed_volume c = volume_of_append c os (placed o x ∷ []) ∙ sym (volume_of_append c os (o ∷ []))

  -- where the new object lies does not change the new bounds
  pub placed_rebound : rebound (start_by t os (storing (placed o x)) b) ≡ rebound (start_by t os (storing o) b)
  unfolding rebound
  placed_rebound =
      ap (λ (sizes : List ℕ). record {
        sizes = sizes;
        useds = column (λ i. cond (ltb i b) (col t.useds i) 0);
        lowests = column (λ i. cond (ltb i b) (col t.lowests i) 0);
      })
      (table_same (λ i. cond (ltb i b) (col t.sizes i) (volume_of i (os ++ (placed o x ∷ []))))
      (λ i. cond (ltb i b) (col t.sizes i) (volume_of i (os ++ (o ∷ [])))) 0 (suc classes) (λ i. rw (placed_volume i)))

  -- nor its place in overflow
  pub placed_new_place : (q : ℕ) → new_place q (start_by t os (storing (placed o x)) b) ≡ new_place q (start_by t os (storing o) b)
  unfolding overflow_start buffered
  placed_new_place q = rw (placed_rebound, longest_placed os o x)

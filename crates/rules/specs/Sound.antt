-- Soundness of a store, as tests.
use Rattle.std.specs.Prelude.{ℕ, zero, suc, ◌+◌, ◌-◌, Bool, true, false, cond, not, ◌&&◌, ◌||◌, List, [], ◌∷◌, length, leb, eqb}
use Rattle.rules.specs.House.{classes, longest, most_objects, most_name, area_fits, quota_of}
use Rattle.rules.specs.Classes.{Obj, cls, class_of, end_of, volume, volume_of}
use Rattle.rules.specs.Regions.{Regions, col, span, every, up_from, buffer_size, buffer_start}
use Rattle.rules.specs.Boundary.{clean, boundary_of}
use Rattle.rules.specs.Flush.{Act, move, wait, within, in_payload, new_place}
use Rattle.rules.specs.Stores.{Store, Stage, resting, flushing, Flush, Request, storing, dropping, request_class, start_in, ahead_of, held_by}

-- every object passes a test
unfoldable pub each : (Obj → Bool) → List Obj → Bool
each f [] = true
each f (o ∷ os) = f o && each f os

-- an object's name and length are in their limits
abbrev pub object_fits : Obj → Bool
object_fits o = (leb 1 o.name && leb o.name most_name) && (leb 1 o.len && leb o.len longest)

-- names differ
unfoldable pub names_differ : List Obj → Bool
names_differ [] = true
names_differ (o ∷ os) = each (λ x. not (eqb x.name o.name)) os && names_differ os

-- the volume is within the quota, a deleted length counted
abbrev pub within_quota : ℕ → ℕ → List Obj → ℕ → Bool
within_quota q a os deleted = leb (volume os + deleted) (quota_of q longest a)

-- area, number of objects, names, lengths and volume are in their limits, and names differ
unfoldable pub limits_hold : ℕ → ℕ → List Obj → Bool
limits_hold q a os =
    (area_fits a && leb (length os) most_objects) && ((each object_fits os && names_differ os) && within_quota q a os 0)

-- used space is within the buffer
abbrev pub used_fits : ℕ → Regions → ℕ → Bool
used_fits q t i = leb (col t.useds i) (buffer_size q t.sizes i)

-- the lowest class is 0 if nothing is used, else 1 to the buffer's number
abbrev pub lowest_fits : Regions → ℕ → Bool
lowest_fits t i =
    cond (eqb (col t.useds i) 0) (eqb (col t.lowests i) 0) (leb 1 (col t.lowests i) && leb (col t.lowests i) i)

-- objects lie apart: each ends before the next begins, and the first begins at `edge` or above
unfoldable pub apart_from : ℕ → List Obj → Bool
apart_from edge [] = true
apart_from edge (o ∷ os) = leb edge o.at && apart_from (end_of o) os

-- an object lies in the used part of buffer j, of a class from its lowest up to j
abbrev pub in_buffer : ℕ → Regions → Obj → ℕ → Bool
in_buffer q t o j = (leb (col t.lowests j) (cls o) && leb (cls o) j) && within (buffer_start q t.sizes j) (col t.useds j) o

-- an object lies so in one of the n buffers from j on
unfoldable pub in_some_buffer : ℕ → Regions → Obj → ℕ → ℕ → Bool
in_some_buffer q t o j zero = false
in_some_buffer q t o j (suc n) = in_buffer q t o j || in_some_buffer q t o (suc j) n

-- an object lies in the payload of its class, or in a buffer
abbrev pub lies_well : ℕ → Regions → Obj → Bool
lies_well q t o = in_payload q t o || in_some_buffer q t o 1 classes

-- the live volume of class c, a deleted length counted
abbrev pub live_at : List Obj → ℕ → ℕ → ℕ
live_at os deleted c = volume_of c os + cond (eqb (class_of deleted) c) deleted 0

-- classes k to l - 1 have at least their payloads less what their buffers have used
abbrev pub enough : Regions → List Obj → ℕ → ℕ → ℕ → Bool
enough t os deleted k l =
    leb (span (col t.sizes) k (l - k)) (span (live_at os deleted) k (l - k) + span (col t.useds) k (l - k))

-- a rule for class k, if it is clean
abbrev pub if_clean : Regions → ℕ → Bool → Bool
if_clean t k holds = not (clean t.useds t.lowests k) || holds

-- enough between each two clean classes, and, at one past the last class, from each clean class up
unfoldable pub balanced : Regions → List Obj → ℕ → Bool
balanced t os deleted =
    every (λ k. if_clean t k (every (λ l. if_clean t l (enough t os deleted k l)) (suc k) (up_from k))) 1 classes

-- the rules at rest, a deleted length counted
unfoldable pub rest_rules : ℕ → Regions → List Obj → ℕ → Bool
rest_rules q t os deleted =
    (every (used_fits q t) 1 classes && every (lowest_fits t) 1 classes)
    && ((each (lies_well q t) os && apart_from 0 os) && balanced t os deleted)

-- the rules at rest and the quota at a flush's start, and the new object's place or the deleted length
abbrev pub start_holds : ℕ → Store → Flush → Request → Bool
start_holds q s f (storing o) =
    eqb o.at (new_place q (start_in s f)) && (rest_rules q s.regions s.objects 0 && within_quota q s.area s.objects 0)
start_holds q s f (dropping n) =
    (leb 1 n && leb n longest) && (rest_rules q s.regions s.objects n && within_quota q s.area s.objects n)

-- a checkpoint is due only where a run has ended, and always at the last
abbrev pub due_fits : List Act → Bool → Bool
due_fits [] due = false
due_fits (move m ∷ acts) due = not due
due_fits (wait ∷ []) due = due
due_fits (wait ∷ a ∷ acts) due = true

-- what holds at rest, and in a flush
unfoldable pub stage_holds : ℕ → Store → Stage → Bool
stage_holds q s resting = rest_rules q s.regions s.objects 0
stage_holds q s (flushing f) =
    eqb f.boundary (boundary_of s.regions.useds s.regions.lowests (request_class f.request))
    && (start_holds q s f f.request && due_fits (ahead_of q s f) f.due)

-- the store is sound
unfoldable pub sound : ℕ → Store → Bool
sound q s = limits_hold q s.area (held_by s) && stage_holds q s s.stage

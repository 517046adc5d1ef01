-- The layout is that of the rules: what is picked by kind are the flush's payload and overflow objects, at their old, middle and final places,
-- and the numbers are the flush's. Kinds say what the rules' tests say; the rest follows by the laws of picks, stacks and room. Names do not matter.
use mathlib.Core.Path.{◌≡◌, refl, sym, ap, ◌∙◌}
use mathlib.Core.Logic.{◌⊎◌, inl, inr}
use mathlib.Core.Bool.{Bool, true, false, cond, not, ◌&&◌}
use mathlib.Core.List.{List, [], reverse, append-nil, reverse-reverse}
use Prim.Native.Nat.{ℕ, suc, ◌+◌, ◌-◌, ◌*◌, ◌≤◌, ◌<◌}
use native.Mathlib.Omega.{arith}
use native.Mathlib.Nat.{zero-add}
use lib.Dec.{eqb, ltb}
use lib.ListN.{length, get_or, get_or-eq_default}
use borrow.Author.Tests.{lt-ltb, le-ltb}
use Rattle.rules.specs.House.{share, classes, longest, most_objects}
use Rattle.rules.specs.Classes.{Obj, class_of, volume_of}
use Rattle.rules.specs.Regions.{Regions, col, table, start_of}
use Rattle.rules.specs.Flush.{Start, live, rebound, limit, overflow_start, overflow_end, new_place, in_flush, in_payload, payloads, buffered, overflow}
use Rattle.rules.specs.Flush.{stacked, packed, settled, finals, lifting, packing, spreading, settling, plan}
use Rattle.rules.specs.Columns.{object_at, listed, start_listed, picked, stays, of_payload, of_overflow, phases_of, plan_by}
use Rattle.rules.proofs.Insertion.{volume_of_none}
use Rattle.rules.proofs.Tables.{table_at}
use Rattle.rules.proofs.Lists.{All}
use Rattle.layout.specs.declared.Layout.{Layout}
use Rattle.layout.specs.Layout.{row, slot_of, slot_count, key_volume, old_kind, classes_of, kinds_of, slots_of, tally_of, places_by, sizes_by, new_sizes}
use Rattle.layout.specs.Layout.{longest_by, limit_by, goal_by, middle_starts, home_at, homes_by, layout_of}
use Rattle.layout.proofs.Fills.{table_same, filled_at, filled_past}
use Rattle.layout.proofs.Counts.{tally_at, next_of}
use Rattle.layout.proofs.KeyBounds.{class_at}
use Rattle.layout.proofs.Spans.{starts_at}
use Rattle.flush_laws.proofs.Picks.{listed_all, listed_parts, picked_parts, filter_picked, picked_all, picked_none, kind_volume, class_volume}
use Rattle.flush_laws.proofs.Picks.{slot_volume, longest_listed}
use Rattle.flush_laws.proofs.Stacks.{stack_picked, settle_picked, packed_stacked}
use Rattle.flush_laws.proofs.Room.{Inside, column_inside, length_inside, payloads_fit}

-- the layout l is that of the flush from s, whose objects the columns hold
pub record Laid (s : Start) (names places lens : List ℕ) (old n : ℕ) (l : Layout) : Type 0 where
  pub limit_is : limit share s ≡ l.limit
  pub next_is : new_place share s ≡ l.next
  pub end_is : overflow_end share s ≡ l.end
  pub sizes_are : (rebound s).sizes ≡ l.sizes
  pub payloads_are : payloads share s ≡ picked l.kinds of_payload names places lens 0 n
  pub buffered_are : buffered share s ≡ picked l.kinds of_overflow names places lens 0 old
  pub packed_are : reverse (packed (overflow_start share s) (reverse (payloads share s))) ≡ picked l.kinds of_payload names l.middles lens 0 n
  pub lifted_are : stacked (overflow_start share s) (buffered share s) ≡ picked l.kinds of_overflow names l.middles lens 0 old
  pub stacked_are : stacked (overflow_start share s) (overflow share s) ≡ picked l.kinds of_overflow names l.middles lens 0 n
  pub spread_are : finals share s [] (payloads share s) ≡ picked l.kinds of_payload names l.finals lens 0 n
  pub settled_are : finals share s (payloads share s) (overflow share s) ≡ picked l.kinds of_overflow names l.finals lens 0 n

-- the rules' plan, cut from its phases
plan_phases : (s : Start)
    → plan share s ≡ plan_by (limit share s) (record {
      lift = lifting share s;
      pack = packing share s;
      spread = spreading share s;
      settle = settling share s;
    })
unfolding plan plan_by
plan_phases s = refl

-- the plan, from the layout
pub plan_laid : {s : Start} {names places lens : List ℕ} {old n : ℕ} {l : Layout} → Laid s names places lens old n l
    → plan share s ≡ plan_by l.limit (phases_of l.kinds names (record { starts = places; middles = l.middles; finals = l.finals }) lens old n)
plan_laid {s} {names} {places} {lens} {old} {n} {l} h =
    let down : packed (overflow_start share s) (reverse (payloads share s)) ≡ reverse (picked l.kinds of_payload names l.middles lens 0 n) =
    sym (reverse-reverse (packed (overflow_start share s) (reverse (payloads share s)))) ∙ ap reverse h.packed_are in
    plan_phases s ∙ rw (
      h.limit_is,
      h.packed_are,
      down,
      h.spread_are,
      h.settled_are,
      h.stacked_are,
      h.lifted_are,
      h.payloads_are,
      h.buffered_are,
    )

-- a kind says what the tests of the rules say
payload_test : (x y : Bool) → (x && y) ≡ eqb (cond x (cond y of_payload of_overflow) stays) of_payload
payload_test true true = refl
payload_test true false = refl
payload_test false y = refl

buffer_test : (x y : Bool) → (x && not y) ≡ eqb (cond x (cond y of_payload of_overflow) stays) of_overflow
buffer_test true true = refl
buffer_test true false = refl
buffer_test false y = refl

module _ (t : Regions) (b : ℕ) (names places lens : List ℕ) (old n : ℕ) (part : old ≤ n) (few : n ≤ most_objects) where
  abbrev start : Start
  start = start_listed t b names places lens old n

  abbrev kinds : List ℕ
  kinds = kinds_of t.sizes b places lens old

  kind_old : (j : ℕ) → j < old → get_or kinds j 0 ≡ old_kind t.sizes b (get_or places j 0) (get_or lens j 0)
  unfolding kinds_of
  kind_old j l = filled_at (λ i. old_kind t.sizes b (get_or places i 0) (get_or lens i 0)) old of_overflow most_objects j (omega arith) l

  kind_new : (j : ℕ) → old ≤ j → j < n → get_or kinds j 0 ≡ of_overflow
  unfolding kinds_of
  kind_new j l m = filled_past (λ i. old_kind t.sizes b (get_or places i 0) (get_or lens i 0)) old of_overflow most_objects j (omega arith) l

  payloads_old : payloads share start ≡ picked kinds of_payload names places lens 0 old
  unfolding payloads
  payloads_old = filter_picked names places lens kinds of_payload (λ o. in_flush share start o && in_payload share t o) old 0 (λ j p q.
      rw (kind_old j (omega arith)) (payload_test (in_flush share start (object_at names places lens j)) (in_payload share t (object_at names places lens j))))

  buffered_old : buffered share start ≡ picked kinds of_overflow names places lens 0 old
  unfolding buffered
  buffered_old = filter_picked names places lens kinds of_overflow (λ o. in_flush share start o && not (in_payload share t o)) old 0 (λ j p q.
      rw (kind_old j (omega arith)) (buffer_test (in_flush share start (object_at names places lens j)) (in_payload share t (object_at names places lens j))))

  payloads_all : payloads share start ≡ picked kinds of_payload names places lens 0 n
  payloads_all =
      let none = picked_none names places lens kinds of_payload (n - old) old (λ j p q e. let two = kind_new j p (omega arith) in omega arith) in
      payloads_old ∙ sym (append-nil (picked kinds of_payload names places lens 0 old))
      ∙ rw (← none) (picked_parts names places lens kinds of_payload old n part)

  overflow_all : overflow share start ≡ picked kinds of_overflow names places lens 0 n
  overflow_all =
      let all = picked_all names places lens kinds of_overflow (n - old) old (λ j p q. kind_new j p (omega arith)) in
      rw (buffered_old, ← all) (picked_parts names places lens kinds of_overflow old n part)

  sizes_new : (rebound start).sizes ≡ new_sizes t.sizes b lens n
  unfolding rebound sizes_by
  sizes_new = table_same
      (λ i. cond (ltb i b) (col t.sizes i) (volume_of i (live start)))
      (λ i. cond (ltb i b) (col t.sizes i) (col (tally_of (classes_of lens n) lens n) i)) 0 (suc classes)
      (λ k p q. rw (
        tally_at (classes_of lens n) lens n k (omega arith),
        class_volume names places lens (classes_of lens n) k n 0 (λ j a c. class_at lens n j few (omega arith)),
        listed_parts names places lens old n part,
      ))

  limit_new : limit share start ≡ limit_by t.sizes b (longest_by lens 0 n)
  limit_new = rw (longest_listed names places lens n 0, listed_parts names places lens old n part)

  goal_new : overflow_start share start ≡ goal_by t.sizes (new_sizes t.sizes b lens n) (limit_by t.sizes b (longest_by lens 0 n))
  unfolding overflow_start
  goal_new = rw (sizes_new, limit_new)

  none_yet : (keys : List ℕ) (k from : ℕ) → from + key_volume keys lens k 0 0 ≡ from
  unfolding key_volume
  none_yet keys k from = omega arith

  -- places by key, of an object of key k
  placed_at : (keys starts : List ℕ) (k j : ℕ) → j < n → get_or keys j 0 ≡ k
      → get_or (places_by keys lens n starts) j 0 ≡ get_or starts k 0 + key_volume keys lens k 0 j
  unfolding places_by
  placed_at keys starts k j l e = filled_at (next_of keys lens starts) n 0 most_objects j (omega arith) l ∙ rw e

  -- by kind they are stacked, from where the kind starts
  stacked_kind : (starts : List ℕ) (k from m : ℕ) → get_or starts k 0 ≡ from → m ≤ n
      → stacked from (picked kinds k names places lens 0 m) ≡ picked kinds k names (places_by kinds lens n starts) lens 0 m
  stacked_kind starts k from m e l =
      rw (none_yet kinds k from) at (stack_picked names places lens kinds k (places_by kinds lens n starts) from m 0
      (λ j a q. placed_at kinds starts k j (omega arith) q ∙ rw e))

  abbrev slots : List ℕ
  slots = slots_of kinds (classes_of lens n) n

  slot_at : (j : ℕ) → j < n → get_or slots j 0 ≡ slot_of (get_or kinds j 0) (class_of (get_or lens j 0))
  unfolding slots_of
  slot_at j l = filled_at (λ i. slot_of (get_or kinds i 0) (get_or (classes_of lens n) i 0)) n 0 most_objects j (omega arith) l ∙ rw (class_at lens n j few l)

  -- by slot they are settled, from where the slots start
  settled_slot : (starts : List ℕ) (k : ℕ) (home : ℕ → ℕ) (before : List Obj)
      → ((c : ℕ) → c ≤ suc classes → get_or starts (slot_of k c) 0 ≡ home c + volume_of c before)
      → settled home before (picked kinds k names places lens 0 n) ≡ picked kinds k names (places_by slots lens n starts) lens 0 n
  settled_slot starts k home before h =
      settle_picked names places lens kinds k slots (places_by slots lens n starts) (λ c. get_or starts (slot_of k c) 0) home n 0 before
      (λ j l. slot_at j (omega arith))
      (λ j l e. placed_at slots starts (slot_of k (class_of (get_or lens j 0))) j (omega arith) (slot_at j (omega arith) ∙ rw e))
      (λ c l. none_yet slots (slot_of k c) (get_or starts (slot_of k c) 0) ∙ h c l)

  abbrev news : List ℕ
  news = new_sizes t.sizes b lens n

  -- where the slots start: payload objects at their region's start, overflow objects behind them
  home_slot : (volumes : List ℕ) (j : ℕ) → j < slot_count → get_or (homes_by news volumes) j 0 ≡ home_at (table (start_of share news) 0 row) volumes j
  unfolding homes_by
  home_slot volumes j l = table_at (home_at (table (start_of share news) 0 row) volumes) 0 slot_count j l ∙ rw (zero-add j)

  home_payload : (volumes : List ℕ) (c : ℕ) → c ≤ suc classes → get_or (homes_by news volumes) (slot_of of_payload c) 0 ≡ start_of share news c
  home_payload volumes c l =
      let e : row * 1 + c - row ≡ c = omega arith in
      home_slot volumes (slot_of of_payload c) (omega arith)
      ∙ rw (le-ltb (slot_of of_payload c) row (omega arith), lt-ltb (slot_of of_payload c) (2 * row) (omega arith), e)
      (starts_at news (table (start_of share news) 0 row) refl c l)

  home_overflow : (volumes : List ℕ) (c : ℕ) → c ≤ suc classes
      → get_or (homes_by news volumes) (slot_of of_overflow c) 0 ≡ start_of share news c + get_or volumes (slot_of of_payload c) 0
  home_overflow volumes c l =
      let e : row * 2 + c - 2 * row ≡ c = omega arith in
      let d : row * 2 + c - row ≡ row * 1 + c = omega arith in
      home_slot volumes (slot_of of_overflow c) (omega arith)
      ∙ rw (
        le-ltb (slot_of of_overflow c) row (omega arith),
        le-ltb (slot_of of_overflow c) (2 * row) (omega arith),
        e,
        d,
        starts_at news (table (start_of share news) 0 row) refl c l,
      )

  payload_volume : (c : ℕ) → c ≤ suc classes → get_or (tally_of slots lens n) (slot_of of_payload c) 0 ≡ volume_of c (payloads share start)
  payload_volume c l = tally_at slots lens n (slot_of of_payload c) (omega arith)
      ∙ slot_volume names places lens kinds slots of_payload c l n 0 (λ j a q. slot_at j (omega arith)) ∙ rw payloads_all

  middle_payload : (v g : ℕ) → get_or (middle_starts v g) of_payload 0 ≡ g - v
  unfolding middle_starts
  middle_payload v g = refl

  middle_overflow : (v g : ℕ) → get_or (middle_starts v g) of_overflow 0 ≡ g
  unfolding middle_starts
  middle_overflow v g = refl

  -- no payload object is of a class past the last, since the column of sizes ends there, or since no length is so long
  inside : (length t.sizes ≤ suc classes) ⊎ ((j : ℕ) → j < old → get_or lens j 0 ≤ longest) → All (Inside t) (listed names places lens 0 old)
  inside (inl h) = listed_all names places lens (Inside t) old 0
      (λ j p q. column_inside t (get_or-eq_default t.sizes 0 h) (object_at names places lens j))
  inside (inr h) = listed_all names places lens (Inside t) old 0 (λ j p q. length_inside t (object_at names places lens j) (h j (omega arith)))

  -- the layout is that of the flush
  pub laid : 1 ≤ b → (length t.sizes ≤ suc classes) ⊎ ((j : ℕ) → j < old → get_or lens j 0 ≤ longest)
      → Laid start names places lens old n (layout_of t.sizes b places lens old n)
  unfolding layout_of
  laid least short = record {
    limit_is = limit_new;
    next_is = rw (goal_new, buffered_old, ← kind_volume names places lens kinds of_overflow old 0);
    end_is = rw (goal_new, overflow_all, ← kind_volume names places lens kinds of_overflow n 0);
    sizes_are = sizes_new;
    payloads_are = payloads_all;
    buffered_are = buffered_old;
    packed_are =
        packed_stacked (overflow_start share start) (payloads share start) (payloads_fit start least (inside short))
        ∙ rw (goal_new, payloads_all, ← kind_volume names places lens kinds of_payload n 0)
        (stacked_kind _ of_payload _ n (middle_payload _ _) (omega arith));
    lifted_are = rw (goal_new, buffered_old) (stacked_kind _ of_overflow _ old (middle_overflow _ _) part);
    stacked_are = rw (goal_new, overflow_all) (stacked_kind _ of_overflow _ n (middle_overflow _ _) (omega arith));
    spread_are = rw (sizes_new, payloads_all)
        (settled_slot (homes_by news (tally_of slots lens n)) of_payload (start_of share news) []
        (λ c l. home_payload _ c l ∙ rw (volume_of_none c) (omega arith)));
    settled_are =
        rw (sizes_new, overflow_all)
        (settled_slot (homes_by news (tally_of slots lens n)) of_overflow (start_of share news) (payloads share start)
        (λ c l. home_overflow _ c l ∙ rw (payload_volume c l)));
  }

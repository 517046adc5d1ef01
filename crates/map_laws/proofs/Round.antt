-- A map written is read back: each number of 16 bits is made of its two bytes, so decoding follows encoding entry by entry,
-- and the map of a list passes every test.
use Prim.Native.Nat.{ℕ, zero, suc, ◌+◌, ◌*◌, ◌/◌, ◌%◌, ◌≤◌, ◌<◌}
use mathlib.Core.Path.{◌≡◌, refl, sym, ap, ◌∙◌}
use mathlib.Core.Bool.{true, ◌&&◌}
use mathlib.Core.List.{List, [], ◌∷◌}
use native.Mathlib.Omega.{arith}
use borrow.Author.Tests.{leb-true, le-leb, eq-eqb}
use lib.Dec.{leb}
use lib.ListN.{length, drop}
use lib.Seq.{get_or-drop}
use Rattle.rules.specs.Words.{byte_values, word_values}
use Rattle.rules.specs.House.{longest, most_objects, area_fits, entry_size, head_size, least_area, most_area, most_name}
use Rattle.rules.specs.Classes.{Obj, end_of, by_name}
use Rattle.rules.specs.Sound.{each, object_fits, names_differ}
use Rattle.rules.specs.Answers.{first}
use Rattle.rules.specs.Calls.{map_size}
use Rattle.rules.specs.declared.Answer.TheVariants.{Done}
use Rattle.rules.proofs.Lists.{All, and_true, all_map, all_both, each_all}
use Rattle.rules.proofs.Facts.{Distinct, differ_fact}
use Rattle.mapform.specs.Entries.{word_at, entry_at, entry_then, body_of, entries_from}
use Rattle.mapform.specs.Maps.{map_as, map_of}
use Rattle.mapform.specs.Reading.{apart, list_fits, mappable, map_answer, list_of}
use Rattle.mapform.proofs.Puts.{map_length}
use Rattle.map_laws.proofs.Apart.{Apart, apart_fact, apart_test}
use Rattle.map_laws.proofs.Names.{Within, name_rising, entries_test}
use Rattle.rules.proofs.Insertion.{name_all, name_beside, name_length}

word_drop : (k i : ℕ) (s : List ℕ) → word_at (drop k s) i ≡ word_at s (k + i)
word_drop k i s =
    let q : k + (i + 1) ≡ k + i + 1 = omega arith in
    rw (get_or-drop k s i 0, get_or-drop k s (i + 1) 0, q)

entry_drop : (k i : ℕ) (s : List ℕ) → entry_at (drop k s) i ≡ entry_at s (k + i)
entry_drop k i s =
    let q : k + (i + 2) ≡ k + i + 2 = omega arith in
    let r : k + (i + 4) ≡ k + i + 4 = omega arith in
    rw (word_drop k i s, word_drop k (i + 2) s, word_drop k (i + 4) s, q, r)

entries_drop : (n k i : ℕ) (s : List ℕ) → entries_from n (drop k s) i ≡ entries_from n s (k + i)
unfolding entries_from
entries_drop zero k i s = refl
entries_drop (suc n) k i s =
    let q : k + (i + entry_size) ≡ k + i + entry_size = omega arith in
    rw (entry_drop k i s, entries_drop n k (i + entry_size) s, q)

-- every number of an object has 16 bits
pub record Worded (o : Obj) : Type 0 where
  pub name_word : o.name < word_values
  pub at_word : o.at < word_values
  pub len_word : o.len < word_values

-- a number of 16 bits is made of its two bytes
word_back : (x : ℕ) → x < word_values → x / byte_values % byte_values * byte_values + x % byte_values ≡ x
word_back x h = omega arith

entries_body : (os : List Obj) → All Worded os → entries_from (length os) (body_of os) 0 ≡ os
unfolding entries_from body_of
entries_body [] w = refl
entries_body (o ∷ os) w =
    rw (
      word_back o.name w.0.name_word,
      word_back o.at w.0.at_word,
      word_back o.len w.0.len_word,
      ← entries_drop (length os) entry_size 0 (entry_then o (body_of os)),
      entries_body os w.1,
    )

module _ (os : List Obj) (worded : All Worded os) where
  entries_map : entries_from (length os) (map_as os) head_size ≡ os
  entries_map = sym (entries_drop (length os) head_size 0 (map_as os)) ∙ entries_body os worded

  module _ (a : ℕ) (in_area : area_fits a ≡ true) (few : length os ≤ most_objects) (fits : list_fits a os ≡ true) where
    count_is : word_at (map_as os) 5 ≡ length os
    count_is = word_back (length os) (omega arith)

    -- entries that fit are accepted
    pub as_accepted : map_answer a (map_as os) ≡ Done
    unfolding map_answer first
    as_accepted =
        rw (
          in_area,
          le-leb head_size (length (map_as os)) (omega (arith, map_length os)),
          count_is,
          le-leb (length os) most_objects few,
          map_length os,
          eq-eqb (map_size (length os)) (map_size (length os)) refl,
          entries_map,
          fits,
        )

    -- and read back
    pub as_read : list_of a (map_as os) ≡ os
    as_read = rw (as_accepted, count_is) entries_map

-- the test of a list that a map may be made of, as facts
pub record Mappable (a : ℕ) (os : List Obj) : Type 0 where
  pub in_area : area_fits a ≡ true
  pub few : length os ≤ most_objects
  pub named : All (λ (o : Obj). 0 < o.name) os
  pub worded : All Worded os
  pub within : All (Within a) os
  pub differ : Distinct os
  pub lie_apart : Apart os

-- an object that fits and ends within a
ends_well : (a : ℕ) (o : Obj) → a ≤ most_area → object_fits o ≡ true → leb (end_of o) a ≡ true → (0 < o.name) × (Worded o × Within a o)
ends_well a o h e f =
    let p = and_true (leb 1 o.name && leb o.name most_name) (leb 1 o.len && leb o.len longest) e in
    let q = and_true (leb 1 o.name) (leb o.name most_name) p.0 in
    let r = and_true (leb 1 o.len) (leb o.len longest) p.1 in
    let n1 : 1 ≤ o.name = leb-true 1 o.name q.0 in
    let n2 : o.name ≤ most_name = leb-true o.name most_name q.1 in
    let l1 : 1 ≤ o.len = leb-true 1 o.len r.0 in
    let l2 : o.len ≤ longest = leb-true o.len longest r.1 in
    let z : end_of o ≤ a = leb-true (end_of o) a f in (
      omega arith,
      (record { name_word = omega arith; at_word = omega arith; len_word = omega arith }, record { some = omega arith; length_fits = l2; ends = z }),
    )

pub mappable_facts : (a : ℕ) (os : List Obj) → mappable a os ≡ true → Mappable a os
unfolding mappable
mappable_facts a os e =
    let x = and_true (area_fits a && leb (length os) most_objects)
    ((each object_fits os && names_differ os) && (each (λ o. leb (end_of o) a) os && apart os)) e in
    let y = and_true (area_fits a) (leb (length os) most_objects) x.0 in
    let z = and_true (leb least_area a) (leb a most_area) y.0 in
    let u = and_true (each object_fits os && names_differ os) (each (λ o. leb (end_of o) a) os && apart os) x.1 in
    let v = and_true (each object_fits os) (names_differ os) u.0 in
    let w = and_true (each (λ o. leb (end_of o) a) os) (apart os) u.1 in
    let each-one = all_both (λ (o : Obj). object_fits o ≡ true) (λ (o : Obj). leb (end_of o) a ≡ true) os (each_all object_fits os v.0)
    (each_all (λ o. leb (end_of o) a) os w.0) in
    let ok : (o : Obj) → (object_fits o ≡ true) × (leb (end_of o) a ≡ true) → (0 < o.name) × (Worded o × Within a o)
    = λ o h. ends_well a o (leb-true a most_area z.1) h.0 h.1 in
    record {
      in_area = y.0;
      few = leb-true (length os) most_objects y.1;
      named = all_map (λ o h. (ok o h).0) os each-one;
      worded = all_map (λ o h. (ok o h).1.0) os each-one;
      within = all_map (λ o h. (ok o h).1.1) os each-one;
      differ = differ_fact os v.1;
      lie_apart = apart_fact os w.1;
    }

module _ (a : ℕ) (os : List Obj) (ok : mappable a os ≡ true) where
  facts : Mappable a os
  facts = mappable_facts a os ok

  sorted_worded : All Worded (by_name os)
  sorted_worded = name_all Worded os facts.worded

  sorted_few : length (by_name os) ≤ most_objects
  sorted_few = omega (arith, name_length os, facts.few)

  sorted_fits : list_fits a (by_name os) ≡ true
  sorted_fits = rw (
    entries_test a 0 (by_name os) (name_rising os facts.named facts.differ) (name_all (Within a) os facts.within),
    apart_test (by_name os) (name_beside os facts.lie_apart),
  )

  -- the map of a list is accepted
  pub written_accepted : map_answer a (map_of os) ≡ Done
  written_accepted = as_accepted (by_name os) sorted_worded a facts.in_area sorted_few sorted_fits

  -- and read back to the same list, by rising name
  pub written_read : list_of a (map_of os) ≡ by_name os
  written_read = as_read (by_name os) sorted_worded a facts.in_area sorted_few sorted_fits

-- two lists with the same bytes are the same list
pub same_bytes : (a : ℕ) (os ps : List Obj) → mappable a os ≡ true → mappable a ps ≡ true → map_of os ≡ map_of ps → by_name os ≡ by_name ps
same_bytes a os ps ho hp e = sym (written_read a os ho) ∙ (ap (list_of a) e ∙ written_read a ps hp)

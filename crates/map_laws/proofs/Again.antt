-- A map that is accepted, written again, gives the same bytes: its tests fix the head, its size leaves nothing behind the entries,
-- and the bytes of an entry are those of its three numbers.
use Prim.Native.Nat.{ℕ, ◌*◌, ◌≤◌}
use mathlib.Core.Path.{◌≡◌, refl, sym, ap, ◌∙◌}
use mathlib.Core.Bool.{Bool, true, false, cond, not, ◌&&◌}
use mathlib.Core.List.{List, ◌∷◌}
use native.Mathlib.Omega.{arith}
use borrow.Author.Tests.{eqb-true, leb-true}
use lib.Dec.{leb, eqb}
use lib.ListN.{length, drop, get_or, length-drop}
use lib.Seq.{take_all}
use Rattle.rules.specs.House.{most_objects, area_fits, entry_size, head_size}
use Rattle.rules.specs.Classes.{by_name}
use Rattle.rules.specs.Answers.{first, accepted}
use Rattle.rules.specs.Calls.{map_size}
use Rattle.rules.specs.declared.Answer.TheVariants.{Done, WrongArea, NoMap, BadVersion, BadSize, BadEntry}
use Rattle.rules.proofs.Lists.{and_true}
use Rattle.mapform.specs.Entries.{word_at}
use Rattle.mapform.specs.Maps.{map_as, map_of}
use Rattle.mapform.specs.Reading.{marked, size_fits, entries_fit, apart, list_fits, entries_of, map_answer, list_of}
use Rattle.mapform.proofs.Puts.{entries_length}
use Rattle.mapform.proofs.Copies.{Bytes, cut, high_byte, low_byte, body_copied}
use Rattle.map_laws.proofs.Names.{name_same, entries_fact}

-- the tests that an accepted map has passed
pub record Passed (a : ℕ) (s : List ℕ) : Type 0 where
  pub in_area : area_fits a ≡ true
  pub long : head_size ≤ length s
  pub mark0 : get_or s 0 0 ≡ 82
  pub mark1 : get_or s 1 0 ≡ 76
  pub mark2 : get_or s 2 0 ≡ 77
  pub version_is : word_at s 3 ≡ 1
  pub few : word_at s 5 ≤ most_objects
  pub size : length s ≡ map_size (word_at s 5)
  pub fits : list_fits a (entries_of s) ≡ true

-- five tests passed
by_cases : (t₁ t₂ t₃ t₄ t₅ : Bool)
    → accepted (cond (not t₁) WrongArea (cond (not t₂) NoMap (cond (not t₃) BadVersion (cond (not t₄) BadSize (cond (not t₅) BadEntry Done)))))
    ≡ true
    → (t₁ ≡ true) × ((t₂ ≡ true) × ((t₃ ≡ true) × ((t₄ ≡ true) × (t₅ ≡ true))))
by_cases true true true true true e = (refl, (refl, (refl, (refl, refl))))
by_cases true true true true false e = let z : ◌≡◌ {A = ℕ} 0 1 = cc in absurd (omega arith)
by_cases true true true false t₅ e = let z : ◌≡◌ {A = ℕ} 0 1 = cc in absurd (omega arith)
by_cases true true false t₄ t₅ e = let z : ◌≡◌ {A = ℕ} 0 1 = cc in absurd (omega arith)
by_cases true false t₃ t₄ t₅ e = let z : ◌≡◌ {A = ℕ} 0 1 = cc in absurd (omega arith)
by_cases false t₂ t₃ t₄ t₅ e = let z : ◌≡◌ {A = ℕ} 0 1 = cc in absurd (omega arith)

pub passed : (a : ℕ) (s : List ℕ) → accepted (map_answer a s) ≡ true → Passed a s
unfolding map_answer first
passed a s e =
    let t = by_cases (area_fits a) (marked s) (eqb (word_at s 3) 1) (size_fits s) (list_fits a (entries_of s)) e in
    let m = and_true (leb head_size (length s)) (eqb (get_or s 0 0) 82 && (eqb (get_or s 1 0) 76 && eqb (get_or s 2 0) 77)) t.1.0 in
    let m' = and_true (eqb (get_or s 0 0) 82) (eqb (get_or s 1 0) 76 && eqb (get_or s 2 0) 77) m.1 in
    let m'' = and_true (eqb (get_or s 1 0) 76) (eqb (get_or s 2 0) 77) m'.1 in
    let z = and_true (leb (word_at s 5) most_objects) (eqb (length s) (map_size (word_at s 5))) t.1.1.1.0 in
    record {
      in_area = t.0;
      long = leb-true head_size (length s) m.0;
      mark0 = eqb-true (get_or s 0 0) 82 m'.0;
      mark1 = eqb-true (get_or s 1 0) 76 m''.0;
      mark2 = eqb-true (get_or s 2 0) 77 m''.1;
      version_is = eqb-true (word_at s 3) 1 t.1.1.0;
      few = leb-true (word_at s 5) most_objects z.0;
      size = eqb-true (length s) (map_size (word_at s 5)) z.1;
      fits = t.1.1.1.1;
    }

module _ (a : ℕ) (s : List ℕ) (b : Bytes s) (e : accepted (map_answer a s) ≡ true) where
  -- the entries that were read, as they stand
  pub again_as : map_as (list_of a s) ≡ s
  again_as =
      let p = passed a s e in
      let v : get_or s 3 0 ≡ 0 = omega (arith, p.version_is, b 4) in
      let v' : get_or s 4 0 ≡ 1 = omega (arith, p.version_is, b 4) in
      let split : s ≡ get_or s 0 0 ∷ get_or s 1 0 ∷ get_or s 2 0 ∷ get_or s 3 0 ∷ get_or s 4 0 ∷ get_or s 5 0 ∷ get_or s 6 0 ∷ drop head_size s
      = cut s 0 1 refl (omega (arith, p.long)) ∙ rw (
        cut s 1 2 refl (omega (arith, p.long)),
        cut s 2 3 refl (omega (arith, p.long)),
        cut s 3 4 refl (omega (arith, p.long)),
        cut s 4 5 refl (omega (arith, p.long)),
        cut s 5 6 refl (omega (arith, p.long)),
        cut s 6 head_size refl (omega (arith, p.long)),
      ) in
      rw (
        e,
        entries_length (word_at s 5) head_size s,
        high_byte (get_or s 5 0) (get_or s 6 0) (b 5) (b 6),
        low_byte (get_or s 5 0) (get_or s 6 0) (b 6),
        body_copied s b (word_at s 5) head_size (omega (arith, p.size)),
        take_all (entry_size * word_at s 5) (drop head_size s) (omega (arith, p.size, length-drop head_size s)),
      )
      (sym (split ∙ rw (p.mark0, p.mark1, p.mark2, v, v')))

  -- the list that was read stands by rising name
  pub read_sorted : by_name (list_of a s) ≡ list_of a s
  read_sorted =
      let p = passed a s e in
      rw e (name_same 0 (entries_of s) (entries_fact a 0 (entries_of s) (and_true (entries_fit a 0 (entries_of s)) (apart (entries_of s)) p.fits).0).0)

  -- a map accepted is written again to the same bytes
  pub accepted_again : map_of (list_of a s) ≡ s
  accepted_again = ap map_as read_sorted ∙ again_as

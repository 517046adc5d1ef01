-- What the contract of `view` allows is one outcome, and worked maps are shown as said.
use mathlib.Core.Path.{◌≡◌, refl, sym, ◌∙◌}
use mathlib.Core.List.{List, [], ◌∷◌, ◌++◌}
use Prim.Native.Nat.{ℕ, ◌+◌}
use lib.ListN.{length, take, drop, take-append-drop}
use Rattle.rules.specs.Answers.{first}
use Rattle.mapform.specs.Entries.{entries_from}
use Rattle.mapform.specs.Reading.{map_answer, entries_fit, clear_of, apart}
use Rattle.texts.specs.Numbers.{last_digits, width_in}
use Rattle.texts.specs.Fields.{Fronted}
use Rattle.viewing.specs.Views.{rows_text, view_text}

-- two outcomes of a text put into a buffer are equal
pub put_same : {out text after after' : List ℕ} {at next next' : ℕ} → Fronted out at text next after → Fronted out at text next' after'
    → (next ≡ next') × (after ≡ after')
put_same {out} {text} {at = at} p q = (p.ends ∙ sym q.ends, whole p ∙ sym (whole q))
  where
    whole : {end : ℕ} {bytes : List ℕ} → Fronted out at text end bytes → bytes ≡ (take at out ++ text) ++ drop (at + length text) out
    whole {end} {bytes} f = sym (take-append-drop end bytes) ∙ rw (f.front, f.behind, f.ends)

-- objects 1 (0, 8) and 2 (8, 2): "0 2", "1 0 8", "2 8 2"; a map of another version: "12 0"
pub views_as_said : (view_text 16384 (82 ∷ 76 ∷ 77 ∷ 0 ∷ 1 ∷ 0 ∷ 2 ∷ 0 ∷ 1 ∷ 0 ∷ 0 ∷ 0 ∷ 8 ∷ 0 ∷ 2 ∷ 0 ∷ 8 ∷ 0 ∷ 2 ∷ [])
    ≡ 48 ∷ 32 ∷ 50 ∷ 10 ∷ 49 ∷ 32 ∷ 48 ∷ 32 ∷ 56 ∷ 10 ∷ 50 ∷ 32 ∷ 56 ∷ 32 ∷ 50 ∷ 10 ∷ [])
    × (view_text 65536 (82 ∷ 76 ∷ 77 ∷ 0 ∷ 2 ∷ 0 ∷ 0 ∷ []) ≡ 49 ∷ 50 ∷ 32 ∷ 48 ∷ 10 ∷ [])
unfolding rows_text map_answer first entries_from entries_fit clear_of apart last_digits width_in
views_as_said = (refl, refl)

-- The count of an opened map: a map that is accepted is done, and has a head; of any other none is shown.
use Prim.Native.Nat.{ℕ, ◌≤◌}
use mathlib.Core.Path.{◌≡◌, refl, sym, ap, ◌∙◌}
use mathlib.Core.Bool.{Bool, true, false, cond}
use mathlib.Core.List.{List}
use lib.ListN.{length}
use Rattle.rules.specs.House.{head_size}
use Rattle.rules.specs.Answers.{accepted}
use Rattle.rules.specs.declared.Answer.{Answer}
use Rattle.rules.specs.declared.Answer.TheVariants.{Done}
use Rattle.rules.proofs.Refusals.{accepted_done}
use Rattle.mapform.specs.Entries.{word_at}
use Rattle.mapform.specs.Reading.{map_tests, map_answer, count_of}
use Rattle.map_laws.proofs.Again.{passed}

module _ (a : ℕ) (s : List ℕ) (t : Answer) (et : t ≡ map_answer a s) where
  pub count_long : t ≡ Done → head_size ≤ length s
  count_long e = (passed a s (ap accepted (sym et ∙ e))).long

  pub count_none : (t ≡ Done → ⊥) → 0 ≡ count_of a s
  unfolding map_answer
  count_none ne = by_test (accepted (map_answer a s)) refl
    where
      done : accepted (map_answer a s) ≡ true → map_answer a s ≡ Done
      done = accepted_done (map_tests a s) (refl, (refl, (refl, (refl, (refl, tt)))))

      by_test : (b : Bool) → accepted (map_answer a s) ≡ b → 0 ≡ cond b (word_at s 5) 0
      by_test true e = absurd (ne (et ∙ done e))
      by_test false e = refl

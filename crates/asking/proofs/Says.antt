-- WHAT EACH QUERY'S ANSWER SAYS by the rules: the number of its answer, and beside 0 the rules' value, beside a refusal's number zeros.
-- Each law is over the definition that the query's contract cites.
use Rattle.std.specs.Prelude.{Ok, Err}
use mathlib.Core.Path.{◌≡◌, refl, sym, ap, ◌∙◌, subst}
use mathlib.Core.Logic.{inl}
use mathlib.Core.Bool.{Bool, true, false, cond}
use mathlib.Core.List.{List, [], ◌∷◌}
use Prim.Native.Nat.{ℕ, ◌<◌}
use native.Mathlib.Omega.{arith}
use lib.ListN.{length}
use lib.Dec.{eqb}
use borrow.Author.Tests.{eqb-true}
use Rattle.rules.specs.House.{share}
use Rattle.rules.specs.Classes.{Obj}
use Rattle.rules.specs.Stores.{Store, list_now}
use Rattle.rules.specs.Answers.{number_of, accepted}
use Rattle.rules.specs.Calls.{named, ask_answer, find_answer, footprint_of, volume_held, is_due}
use Rattle.rules.specs.declared.Answer.TheVariants.{Done}
use Rattle.rules.proofs.Names.{filter_in}
use Rattle.rules.proofs.RestKept.{named_one}
use Rattle.rules.proofs.Now.{list_distinct, list_held}
use Rattle.maps.specs.Finding.{found_says}
use Rattle.refusals.proofs.Firsts.{none, store_passed}
use Rattle.asking.specs.Asked.{find_told, told_of, checkpoint_of, told_says, checkpoint_says}
use Rattle.asking.proofs.Telling.{Asked, asked, named_sought}

module _ (s : Store) where
  -- an answer that is accepted is done
  ask_done : accepted (ask_answer s) ≡ true → Done ≡ ask_answer s
  unfolding ask_answer
  ask_done ok = none ∙ (store_passed s s.area ok).later []

  -- an amount that is 0 where the store refuses to tell it
  told_says_lem : (n : ℕ) → (accepted (ask_answer s) ≡ false → n ≡ 0) → told_says (told_of s n) ≡ (number_of (ask_answer s), n)
  told_says_lem n zero = by_test (accepted (ask_answer s)) refl
    where
      by_test : (b : Bool) → accepted (ask_answer s) ≡ b
          → told_says (cond b (Ok n) (Err (ask_answer s))) ≡ (number_of (ask_answer s), n)
      by_test true k = ap (λ a. (number_of a, n)) (ask_done k)
      by_test false k = ap (λ m. (number_of (ask_answer s), m)) (sym (zero k))

  -- FOOTPRINT
  pub footprint_says : told_says (told_of s (footprint_of s)) ≡ (number_of (ask_answer s), footprint_of s)
  unfolding footprint_of
  footprint_says = told_says_lem (footprint_of s) (λ k. rw k)

  -- VOLUME
  pub volume_says : told_says (told_of s (volume_held s)) ≡ (number_of (ask_answer s), volume_held s)
  unfolding volume_held
  volume_says = told_says_lem (volume_held s) (λ k. rw k)

  -- DUE
  pub checkpoint_says_lem : checkpoint_says (checkpoint_of s) ≡ (number_of (ask_answer s), is_due s)
  unfolding is_due
  checkpoint_says_lem = by_test (accepted (ask_answer s)) refl
    where
      by_test : (b : Bool) → accepted (ask_answer s) ≡ b → checkpoint_says (cond b (Ok (is_due s)) (Err (ask_answer s))) ≡ (number_of (ask_answer s), is_due s)
      by_test true k = ap (λ a. (number_of a, is_due s)) (ask_done k)
      by_test false k = rw k

-- what a find says of the one object of the name: 0, its place now and its length
pub record FoundAt (s : Store) (n : ℕ) : Type 0 where
  pub object : Obj
  pub only : named n (list_now share s) ≡ object ∷ []
  pub says : found_says (find_told s n) ≡ (0, object.at, object.len)

-- FIND, accepted: the name has one object
pub found_says_lem : (s : Store) (n : ℕ) → accepted (find_answer s n) ≡ true → FoundAt s n
unfolding find_answer find_told named
found_says_lem s n ok = by_list (named n (list_now share s)) refl (list_held share s k.is_sound n k.has)
  where
    k : Asked s s.area n
    k = asked s s.area n ok

    by_list : (os : List Obj) → named n (list_now share s) ≡ os → 0 < length os → FoundAt s n
    by_list [] e some = absurd (omega arith)
    by_list (o ∷ os) e some =
        let m = filter_in (λ (x : Obj). eqb x.name n) (list_now share s) o (rw e (inl refl)) in
        let own = named_one o (list_now share s) (list_distinct share s k.is_sound) m.0 in
        let one : named n (list_now share s) ≡ o ∷ [] = subst (λ i. named i (list_now share s) ≡ o ∷ []) (eqb-true o.name n m.1) own in
        record { object = o; only = one; says = rw ok (ap found_says (named_sought n (list_now share s) o one)) }

-- FIND, refused
pub refused_says : (s : Store) (n : ℕ) → accepted (find_answer s n) ≡ false → found_says (find_told s n) ≡ (number_of (find_answer s n), 0, 0)
unfolding find_told
refused_says s n refused = rw refused

-- A request's call, as the run after it takes it over. Every page that is too long is refused alike, so the code lends no more than one that just is.
use mathlib.Core.Path.{◌≡◌, refl}
use mathlib.Core.Bool.{Bool, true, false, cond, not, ◌&&◌, ◌||◌}
use mathlib.Core.List.{List}
use Prim.Native.Nat.{ℕ, ◌≤◌, ◌<◌, min, suc}
use native.Mathlib.Omega.{arith}
use native.Mathlib.Nat.{min-eq_left, min-eq_right}
use lib.ListN.{length, replicate, length-replicate}
use lib.Dec.{eqb, leb, ltb}
use borrow.Author.Tests.{ne_eqb, lt-ltb, leb-true, leb-false}
use Rattle.rules.specs.House.{share, longest}
use Rattle.rules.specs.Stores.{Store}
use Rattle.rules.specs.Sound.{sound}
use Rattle.rules.specs.Answers.{first}
use Rattle.rules.specs.Calls.{Outcome, written, unless_refused, from_refused, running, inserted, insert_of, delete_of}
use Rattle.rules.specs.declared.Answer.{Answer}
use Rattle.rules.specs.declared.Answer.TheVariants.{Unsound, WrongArea, Busy, NameZero, BadLength}
use Rattle.rules.proofs.History.{delete_silent}
use Rattle.std.specs.Prelude.{Some}
use Rattle.lines.specs.declared.Request.TheVariants.{Insert, Delete}
use Rattle.to_rest.specs.Runs.{starting, begun_by}

-- a page that is too long is refused, whatever it is
too_long : (s : Store) (lent n : ℕ) (page other : List ℕ) → longest < length page → longest < length other
    → insert_of s lent n page ≡ insert_of s lent n other
unfolding insert_of first
too_long s lent n page other p o = rw (bad page p, bad other o)
    (by_tests (not (from_refused s) && not (sound share s)) (from_refused s || not (eqb lent s.area)) (running s.stage) (eqb n 0)
    (inserted share s n page) (inserted share s n other))
  where
    bad : (xs : List ℕ) → longest < length xs → (eqb (length xs) 0 || ltb longest (length xs)) ≡ true
    bad xs l = rw (ne_eqb (length xs) 0 (λ e. omega (arith, e)), lt-ltb longest (length xs) l)

    by_tests : (a b c d : Bool) (x y : Outcome) → let answer = cond a Unsound (cond b WrongArea (cond c Busy (cond d NameZero BadLength))) in
        unless_refused s answer x ≡ unless_refused s answer y
    by_tests true b c d x y = refl
    by_tests false true c d x y = refl
    by_tests false false true d x y = refl
    by_tests false false false true x y = refl
    by_tests false false false false x y = refl

-- so of a page of one byte one more than the longest length is enough
page_cut : (s : Store) (lent n m b : ℕ) → insert_of s lent n (replicate (min m (suc longest)) b) ≡ insert_of s lent n (replicate m b)
page_cut s lent n m b = (elim (leb m (suc longest)) as
    (λ t. leb m (suc longest) ≡ t → insert_of s lent n (replicate (min m (suc longest)) b) ≡ insert_of s lent n (replicate m b)) [
      | true ↦ λ t. rw (min-eq_left (leb-true m (suc longest) t))
      | false ↦ λ t.
          let more : (suc longest) ≤ m = omega (arith, leb-false m (suc longest) t) in
          rw (min-eq_right more) (too_long s lent n (replicate (suc longest) b) (replicate m b) (omega (arith, length-replicate (suc longest) b))
          (omega (arith, length-replicate m b)))
    ]) refl

pub insert_begins : (s w : Store) (area after page : List ℕ) (n m b k : ℕ) (a : Answer) → page ≡ replicate k b → k ≡ min m (suc longest)
    → a ≡ (insert_of s (length area) n page).answer → w ≡ (insert_of s (length area) n page).store
    → after ≡ written area (insert_of s (length area) n page).write
    → starting w after a ≡ begun_by s area (Some (Insert n m b))
insert_begins s w area after page n m b k a p q e f g = rw (e, f, g, p, q, page_cut s (length area) n m b)

pub delete_begins : (s w : Store) (area : List ℕ) (n : ℕ) (a : Answer) → a ≡ (delete_of s n).answer → w ≡ (delete_of s n).store
    → starting w area a ≡ begun_by s area (Some (Delete n))
delete_begins s w area n a e f = rw (e, f, delete_silent s n)

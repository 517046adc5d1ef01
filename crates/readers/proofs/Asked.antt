-- In a map that is accepted names rise, so the search by halves finds what its list has; a refused map shows nothing, and its list has nothing.
use Prim.Native.Nat.{ℕ, zero, suc, ◌+◌, ◌-◌, ◌*◌, ◌/◌, ◌≤◌, ◌<◌, suc-le-suc}
use mathlib.Core.Path.{◌≡◌, refl, sym, ◌∙◌}
use mathlib.Core.Bool.{true, false, cond, ◌&&◌}
use mathlib.Core.List.{List}
use mathlib.Core.Logic.{⊎_elim}
use native.Mathlib.Nat.{not-suc-le-zero, le_of_suc-le-suc}
use native.Mathlib.Omega.{arith}
use Rattle.std.specs.Prelude.{Err}
use borrow.Author.Tests.{ltb-true, le-leb, le-ltb, lt-ltb, eq-eqb, ne_eqb}
use lib.Dec.{ltb, leb}
use lib.ListN.{length}
use Rattle.rules.specs.House.{longest, entry_size, head_size}
use Rattle.rules.specs.Classes.{end_of}
use Rattle.rules.specs.Answers.{accepted}
use Rattle.rules.specs.declared.Answer.TheVariants.{NotHeld}
use Rattle.rules.proofs.Lists.{and_true}
use Rattle.mapform.specs.Entries.{word_at, entry_at, entries_from}
use Rattle.mapform.specs.Reading.{entry_fits, entries_fit, apart, entries_of, map_answer, count_of, list_of}
use Rattle.rules.proofs.Tables.{below_or_not}
use Rattle.mapform.proofs.Puts.{at_first, at_next}
use Rattle.map_laws.proofs.Again.{passed}
use Rattle.maps.specs.Finding.{held_as, seek, bisect, find_in}
use Rattle.maps.proofs.Halves.{half_step}
use Rattle.readers.specs.Readers.{look_up}

-- the name of entry k, of those that start at a place
abbrev name_at : List ℕ → ℕ → ℕ → ℕ
name_at s at k = word_at s (at + entry_size * k)

module _ (s : List ℕ) where
  module _ (a : ℕ) where
    head_good : (n at b : ℕ) → entries_fit a b (entries_from (suc n) s at) ≡ true
        → (b < word_at s at) × (entries_fit a (word_at s at) (entries_from n s (at + entry_size)) ≡ true)
    unfolding entries_fit entries_from
    head_good n at b e =
        let t = and_true (entry_fits a b (entry_at s at)) (entries_fit a (word_at s at) (entries_from n s (at + entry_size))) e in
        let u = and_true (ltb b (word_at s at)) (ltb 0 (word_at s (at + 4)) && (leb (word_at s (at + 4)) longest && leb (end_of (entry_at s at)) a)) t.0 in
        (ltb-true b (word_at s at) u.0, t.1)

    above : (n at b k : ℕ) → entries_fit a b (entries_from n s at) ≡ true → k < n → b < name_at s at k
    above zero at b k e h = absurd (not-suc-le-zero h)
    above (suc n) at b zero e h = rw (at_first (word_at s) at) (head_good n at b e).0
    above (suc n) at b (suc k) e h =
        let t = head_good n at b e in
        let r : word_at s at < name_at s (at + entry_size) k = above n (at + entry_size) (word_at s at) k t.1 (le_of_suc-le-suc h) in
        let l : b < word_at s at = t.0 in
        rw (at_next (word_at s) at k) (omega arith)

    rising : (n at b p q : ℕ) → entries_fit a b (entries_from n s at) ≡ true → p < q → q < n → name_at s at p < name_at s at q
    rising zero at b p q e h k = absurd (not-suc-le-zero k)
    rising (suc n) at b p zero e h k = absurd (not-suc-le-zero h)
    rising (suc n) at b zero (suc q) e h k = rw (at_first (word_at s) at, at_next (word_at s) at q)
        (above n (at + entry_size) (word_at s at) q (head_good n at b e).1 (le_of_suc-le-suc k))
    rising (suc n) at b (suc p) (suc q) e h k = rw (at_next (word_at s) at p, at_next (word_at s) at q)
        (rising n (at + entry_size) (word_at s at) p q (head_good n at b e).1 (le_of_suc-le-suc h) (le_of_suc-le-suc k))

  seek_none : (n at x : ℕ) → ((k : ℕ) → k < n → name_at s at k ≡ x → ⊥) → seek (entries_from n s at) x ≡ Err NotHeld
  unfolding seek entries_from
  seek_none zero at x h = refl
  seek_none (suc n) at x h =
      rw (ne_eqb (word_at s at) x (λ e. h 0 (omega arith) (at_first (word_at s) at ∙ e)))
      (seek_none n (at + entry_size) x (λ k l e. h (suc k) (suc-le-suc l) (at_next (word_at s) at k ∙ e)))

  seek_at : (n at k x : ℕ) → k < n → name_at s at k ≡ x → ((j : ℕ) → j < k → name_at s at j ≡ x → ⊥)
      → seek (entries_from n s at) x ≡ held_as (entry_at s (at + entry_size * k))
  unfolding seek entries_from
  seek_at zero at k x h e nay = absurd (not-suc-le-zero h)
  seek_at (suc n) at zero x h e nay = rw (eq-eqb (word_at s at) x (sym (at_first (word_at s) at) ∙ e)) (sym (at_first (λ i. held_as (entry_at s i)) at))
  seek_at (suc n) at (suc k) x h e nay =
      rw (ne_eqb (word_at s at) x (λ e'. nay 0 (omega arith) (at_first (word_at s) at ∙ e')))
      (seek_at n (at + entry_size) k x (le_of_suc-le-suc h) (sym (at_next (word_at s) at k) ∙ e)
      (λ j l e'. nay (suc j) (suc-le-suc l) (at_next (word_at s) at j ∙ e'))
      ∙ sym (at_next (λ i. held_as (entry_at s i)) at k))

  module _ (a n x : ℕ) (good : entries_fit a 0 (entries_from n s head_size) ≡ true) where
    rising_le : (p q : ℕ) → p ≤ q → q < n → name_at s head_size p ≤ name_at s head_size q
    rising_le p q h k =
        ⊎_elim (λ l. omega (arith, rising a n head_size 0 p q good l k)) (λ l. let e : p ≡ q = omega arith in rw e (omega arith)) (below_or_not p q)

    halves : (f lo hi : ℕ) → lo ≤ hi → hi ≤ n → hi ≤ lo + f → ((k : ℕ) → k < lo → name_at s head_size k < x)
        → ((k : ℕ) → hi ≤ k → k < n → x < name_at s head_size k)
        → bisect f s x lo hi ≡ seek (entries_from n s head_size) x
    unfolding bisect
    halves zero lo hi l h k b t =
        sym (seek_none n head_size x (λ j lt e. ⊎_elim (λ u. omega (arith, b j u)) (λ u. omega (arith, t j (omega arith) lt)) (below_or_not j lo)))
    halves (suc f) lo hi l h k b t =
        let mid = lo + (hi - lo) / 2 in
        let y = name_at s head_size mid in
        ⊎_elim
        (λ lt. half_step s x n lo hi lt mid refl y refl f ∙
        ⊎_elim
        (λ less. rw (ne_eqb y x (λ e. omega arith), lt-ltb y x less)
        (halves f (mid + 1) hi (omega arith) h (omega arith) (λ j u. omega (arith, rising_le j mid (omega arith) (omega arith))) t))
        (λ more. ⊎_elim
        (λ great. rw (ne_eqb y x (λ e. omega arith), le-ltb y x more)
        (halves f lo mid (omega arith) (omega arith) (omega arith) b (λ j u w. omega (arith, rising_le mid j u w))))
        (λ same. let e : y ≡ x = omega arith in rw (eq-eqb y x e) (sym (seek_at n head_size mid x (omega arith) e (λ j u e'. omega (
          arith,
          rising a n head_size 0 j mid good u (omega arith),
        )))))
        (below_or_not x y))
        (below_or_not y x))
        (λ ge. rw (le-ltb lo hi ge) (sym
        (seek_none n head_size x (λ j lt e. ⊎_elim (λ u. omega (arith, b j u)) (λ u. omega (arith, t j (omega arith) lt)) (below_or_not j lo)))))
        (below_or_not lo hi)

-- a reader that was opened finds what the list of its map has
pub opened_finds : (a : ℕ) (s : List ℕ) (x : ℕ) → find_in s (count_of a s) x ≡ look_up (list_of a s) x
unfolding bisect seek entries_from
opened_finds a s x =
    (elim (accepted (map_answer a s)) as
    (λ t. accepted (map_answer a s) ≡ t → find_in s (cond t (word_at s 5) 0) x ≡ look_up (entries_from (cond t (word_at s 5) 0) s 7) x) [
      | true ↦ λ e.
          let p = passed a s e in
          let g : entries_fit a 0 (entries_of s) ≡ true = (and_true (entries_fit a 0 (entries_of s)) (apart (entries_of s)) p.fits).0 in
          rw (
            le-leb (entry_size * word_at s 5) (length s - head_size) (omega (arith, p.size)),
            halves s a (word_at s 5) x g (word_at s 5) 0 (word_at s 5) (omega arith) (omega arith) (omega arith) (λ k l. absurd (not-suc-le-zero l))
                (λ k l m. omega arith),
          )
      | false ↦ λ e. rw (le-leb (entry_size * 0) (length s - head_size) (omega arith))
    ]) refl

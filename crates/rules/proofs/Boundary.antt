-- The boundary: it is the largest clean class at most the request's, and the search of 01 finds it.
-- A buffer that reaches below class k makes unclean every class above the class it reaches, up to k, so the search may begin again there.
use mathlib.Core.Path.{◌≡◌, refl, sym, ap, ◌∙◌}
use mathlib.Core.Logic.{inl, inr}
use mathlib.Core.Bool.{true, false, cond, not}
use mathlib.Core.List.{List}
use Prim.Native.Nat.{ℕ, zero, suc, ◌≤◌, ◌<◌}
use native.Mathlib.Omega.{arith}
use native.Mathlib.Nat.{eq-or-lt_of_le}
use lib.Dec.{ltb}
use borrow.Author.Tests.{ltb-true, lt-ltb, not-true}
use Rattle.rules.specs.House.{classes}
use Rattle.rules.specs.Regions.{col, up_from}
use Rattle.rules.specs.Boundary.{reaches, clean, boundary_of}
use Rattle.rules.proofs.Lists.{clash, is_false, and_true}
use Rattle.rules.proofs.Tables.{every_at}

module _ (useds lowests : List ℕ) where
  -- b is the largest clean class from 1 to c
  pub record Greatest (c b : ℕ) : Type 0 where
    pub least : 1 ≤ b
    pub within : b ≤ c
    pub is_clean : clean useds lowests b ≡ true
    pub above : (k : ℕ) → b < k → k ≤ c → clean useds lowests k ≡ false

  up_one : (c b : ℕ) → clean useds lowests (suc c) ≡ false → Greatest c b → Greatest (suc c) b
  up_one c b e g = record {
    least = g.least;
    within = omega (arith, g.within);
    is_clean = g.is_clean;
    above = λ k l h. elim (eq-or-lt_of_le h) [ inl q ↦ rw q e | inr m ↦ g.above k l (omega arith) ];
  }

  -- a clean class ends the search
  pub boundary_stop : (c : ℕ) → 1 ≤ c → clean useds lowests c ≡ true → boundary_of useds lowests c ≡ c
  unfolding boundary_of
  boundary_stop zero l e = absurd (omega arith)
  boundary_stop (suc c) l e = rw e

  -- below a class that is not clean it goes on
  boundary_on : (c : ℕ) → clean useds lowests (suc c) ≡ false → boundary_of useds lowests (suc c) ≡ boundary_of useds lowests c
  unfolding boundary_of
  boundary_on c e = rw e

  -- class 1 ends the search, clean or not
  pub boundary_one : (c : ℕ) → c ≤ 1 → boundary_of useds lowests c ≡ 1
  unfolding boundary_of
  boundary_one zero h = refl
  boundary_one (suc zero) h = elim (clean useds lowests 1) as (λ t. ◌≡◌ {A = ℕ} (cond t 1 1) 1) [ true ↦ refl | false ↦ refl ]
  boundary_one (suc (suc c)) h = absurd (omega arith)

  -- the boundary is the largest clean class at most c
  pub boundary_greatest : clean useds lowests 1 ≡ true → (c : ℕ) → 1 ≤ c → Greatest c (boundary_of useds lowests c)
  boundary_greatest e zero l = absurd (omega arith)
  boundary_greatest e (suc zero) l =
      rw (boundary_one 1 (omega arith)) (record { least = omega arith; within = omega arith; is_clean = e; above = λ k a b. absurd (omega arith) })
  boundary_greatest e (suc (suc c)) l =
      (elim (clean useds lowests (suc (suc c))) as
      (λ t. clean useds lowests (suc (suc c)) ≡ t → Greatest (suc (suc c)) (boundary_of useds lowests (suc (suc c)))) [
        | true ↦ λ q. rw (boundary_stop (suc (suc c)) l q) (record { least = l; within = omega arith; is_clean = q; above = λ k a b. absurd (omega arith) })
        | false ↦ λ q. rw (boundary_on (suc c) q) (up_one (suc c) (boundary_of useds lowests (suc c)) q (boundary_greatest e (suc c) (omega arith)))
      ]) refl

  -- and there is no other
  pub boundary_only : (c b : ℕ) → Greatest c b → boundary_of useds lowests c ≡ b
  boundary_only zero b g = absurd (omega (arith, g.least, g.within))
  boundary_only (suc c) b g = elim (eq-or-lt_of_le g.within) [
    | inl q ↦ boundary_stop (suc c) (omega arith) (rw (← q) g.is_clean) ∙ sym q
    | inr l ↦ boundary_on c (g.above (suc c) l (omega arith)) ∙ boundary_only c b (record {
      least = g.least;
      within = omega arith;
      is_clean = g.is_clean;
      above = λ k a h. g.above k a (omega arith);
    })
  ]

  -- a buffer numbered k or more that reaches below k makes unclean each class above the one it reaches, up to k
  unclean : (k i : ℕ) → k ≤ i → i ≤ classes → reaches useds lowests k i ≡ true → (m : ℕ) → col lowests i < m → m ≤ k
      → clean useds lowests m ≡ false
  unfolding clean
  unclean k i h l e m a b =
      let p = and_true (ltb 0 (col useds i)) (ltb (col lowests i) k) e in
      let r : reaches useds lowests m i ≡ true = rw (p.0, lt-ltb (col lowests i) m a) in
      is_false (clean useds lowests m)
      (λ t. clash r (not-true (reaches useds lowests m i) (every_at (λ j. not (reaches useds lowests m j)) m (up_from m) t i (omega arith) (omega arith))))

  -- so the search may begin again from the class that it reaches
  pub boundary_jump : (k i : ℕ) → k ≤ i → i ≤ classes → reaches useds lowests k i ≡ true
      → boundary_of useds lowests k ≡ boundary_of useds lowests (col lowests i)
  boundary_jump k i h l e = down k (omega (arith, ltb-true (col lowests i) k (and_true (ltb 0 (col useds i)) (ltb (col lowests i) k) e).1)) (omega arith)
    where
      down : (m : ℕ) → col lowests i ≤ m → m ≤ k → boundary_of useds lowests m ≡ boundary_of useds lowests (col lowests i)
      down zero a b = ap (boundary_of useds lowests) (omega arith)
      down (suc m) a b = elim (eq-or-lt_of_le a) [
        | inl q ↦ ap (boundary_of useds lowests) (sym q)
        | inr n ↦ boundary_on m (unclean k i h l e (suc m) n b) ∙ down m (omega arith) (omega arith)
      ]

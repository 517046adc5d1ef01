-- Digits read back: what `decimal` writes spells the number.
use mathlib.Core.Path.{◌≡◌, refl, ap, ◌∙◌}
use mathlib.Core.Bool.{Bool, true, false}
use mathlib.Core.List.{List, [], ◌∷◌, ◌++◌}
use Prim.Native.Nat.{ℕ, zero, suc, ◌+◌, ◌-◌, ◌*◌, ◌/◌, ◌%◌, ◌^◌, ◌<◌}
use native.Mathlib.Nat.{pow-suc}
use native.Mathlib.Omega.{arith}
use borrow.Author.Tests.{le-leb, ltb-true, ltb-false}
use lib.Dec.{ltb}
use Rattle.texts.specs.Numbers.{is_digit, spelled, last_digits, width_in, decimal}
use Rattle.std.specs.Prelude.{Some, None}
use Rattle.texts.proofs.Digits.{width_one, width_more}

-- one digit behind bytes that spell a number
spelled_more : (m v d : ℕ) (bs : List ℕ) → d < 10 → spelled m bs ≡ Some v → spelled m (bs ++ ((48 + d) ∷ [])) ≡ Some (v * 10 + d)
unfolding spelled
spelled_more m v d [] h e =
    let same : m ≡ v = cc in
    let digit : 48 + d - 48 ≡ d = omega arith in
    rw (le-leb 48 (48 + d) (omega arith), le-leb (48 + d) 57 (omega arith), digit, same)
spelled_more m v d (b ∷ bs) h e = by_test (λ q. spelled_more (m * 10 + (b - 48)) v d bs h q) (is_digit b) refl
  where
    by_test : (spelled (m * 10 + (b - 48)) bs ≡ Some v → spelled (m * 10 + (b - 48)) (bs ++ ((48 + d) ∷ [])) ≡ Some (v * 10 + d))
        → (t : Bool) → is_digit b ≡ t → spelled m (b ∷ (bs ++ ((48 + d) ∷ []))) ≡ Some (v * 10 + d)
    by_test ih true s = rw s (ih (rw s at e))
    by_test ih false s = let no : None ≡ Some v = rw s at e in let z : ◌≡◌ {A = ℕ} 0 1 = cc in absurd (omega arith)

-- the last k digits of a number of k digits spell it
pub digits_back : (k n : ℕ) → n < 10 ^ k → spelled 0 (last_digits k n) ≡ Some n
unfolding last_digits spelled
digits_back zero n h = ap Some (omega arith)
digits_back (suc k) n h =
    let e : n / 10 * 10 + n % 10 ≡ n = omega arith in
    spelled_more 0 (n / 10) (n % 10) (last_digits k (n / 10)) (omega arith) (digits_back k (n / 10) (omega (arith, pow-suc 10 k))) ∙ ap Some e

-- a number has as many digits as its width says
width_holds : (j n : ℕ) → n < 10 ^ suc j → n < 10 ^ width_in j n
width_holds zero n h = rw (width_one zero n (omega arith)) (omega arith)
width_holds (suc j) n h = by_test (λ q. width_holds j (n / 10) q) (ltb n 10) refl
  where
    by_test : (n / 10 < 10 ^ suc j → n / 10 < 10 ^ width_in j (n / 10)) → (t : Bool) → ltb n 10 ≡ t → n < 10 ^ width_in (suc j) n
    by_test ih true e = rw (width_one (suc j) n (ltb-true n 10 e)) (omega (arith, ltb-true n 10 e))
    by_test ih false e =
        let less = ih (omega (arith, pow-suc 10 (suc j))) in
        rw (width_more j n (ltb-false n 10 e)) (omega (arith, pow-suc 10 (width_in j (n / 10))))

-- what is written of a number of 64 bits reads as that number
pub decimal_back : (n : ℕ) → n < 2 ^ 64 → spelled 0 (decimal n) ≡ Some n
decimal_back n h = digits_back (width_in 19 n) n (width_holds 19 n (omega arith))

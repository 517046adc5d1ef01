-- Digits written: how many a number has, and the loops that write them into a place.
use mathlib.Core.Path.{◌≡◌, refl, sym, ◌∙◌}
use mathlib.Core.Bool.{Bool, true, false}
use mathlib.Core.List.{List, [], ◌∷◌, ◌++◌, append-nil}
use Prim.Native.Nat.{ℕ, zero, suc, ◌+◌, ◌-◌, ◌*◌, ◌/◌, ◌%◌, ◌^◌, ◌≤◌, ◌<◌, max}
use native.Mathlib.Numerals.{add-one}
use native.Mathlib.Nat.{pow-suc, one-le-pow}
use native.Mathlib.Omega.{arith}
use borrow.Author.Tests.{lt-ltb, le-ltb}
use lib.ListN.{length, get_or, take, drop, set, length-append, length-set, drop_of_length-le}
use lib.Seq.{drop-cons, get_or-set_same, drop-set-lt, append_snoc, take-suc-set, take_all}
use lib.Dec.{ltb}
use Rattle.rules.proofs.Lists.{each_long}
use Rattle.texts.specs.Numbers.{last_digits, width_in, decimal, hex_digit, hex_of}

-- a number below ten has one digit, any other one more than its tenth
pub width_one : (j n : ℕ) → n < 10 → width_in j n ≡ 1
unfolding width_in
width_one zero n h = refl
width_one (suc j) n h = rw (lt-ltb n 10 h)

pub width_more : (j n : ℕ) → 10 ≤ n → width_in (suc j) n ≡ suc (width_in j (n / 10))
unfolding width_in
width_more j n h = rw (le-ltb n 10 h)

-- a number between two powers of ten has one digit more than the lower one has zeros; so has 0, between 1 and 10
pub width_between : (j k n : ℕ) → k ≤ j → 10 ^ k ≤ max n 1 → n < 10 * 10 ^ k → k + 1 ≡ width_in j n
width_between j zero n h low high = sym (width_one j n high)
width_between zero (suc k) n h low high = absurd (omega arith)
width_between (suc j) (suc k) n h low high =
    let some : 1 ≤ 10 ^ k = one-le-pow k 10 (omega arith) in
    let tenth = width_between j k (n / 10) (omega arith) (omega (arith, pow-suc 10 k)) (omega (arith, pow-suc 10 k)) in
    rw (width_more j n (omega (arith, pow-suc 10 k))) (omega (arith, tenth))

-- there are as many digits as are asked for
pub digits_long : (k n : ℕ) → length (last_digits k n) ≡ k
unfolding last_digits
digits_long zero n = refl
digits_long (suc k) n = length-append (last_digits k (n / 10)) ((48 + n % 10) ∷ []) ∙ omega (arith, digits_long k (n / 10))

-- a number of 64 bits has at most 20 digits, so that five of them, four blanks and a line feed fit into 105 bytes
width_short : (j n : ℕ) → width_in j n ≤ j + 1
unfolding width_in
width_short zero n = omega arith
width_short (suc j) n = by_test (width_short j (n / 10)) (ltb n 10) refl
  where
    by_test : width_in j (n / 10) ≤ j + 1 → (t : Bool) → ltb n 10 ≡ t → width_in (suc j) n ≤ suc j + 1
    by_test ih true e = rw e (omega arith)
    by_test ih false e = rw e (omega arith)

pub decimal_short : (n : ℕ) → length (decimal n) ≤ 20
decimal_short n = omega (arith, digits_long (width_in 19 n) n, width_short 19 n)

-- the digits from place i on are written, and those of rest are yet to come
pub record Writing (n k : ℕ) (place : List ℕ) (i rest : ℕ) : Type 0 where
  pub long : length place ≡ k
  pub within : i ≤ k
  pub whole : last_digits i rest ++ drop i place ≡ last_digits k n

pub write_on : {n k : ℕ} {place : List ℕ} (i : ℕ) {rest : ℕ} → Writing n k place i rest → 0 < i
    → Writing n k (set place (i - 1) (48 + rest % 10)) (i - 1) (rest / 10)
unfolding last_digits
write_on zero s h = absurd (omega arith)
write_on {n} {k} {place} (suc j) {rest} s h =
    let e : suc j - 1 ≡ j = omega arith in
    let inside : j < length place = omega (arith, s.long, s.within) in
    let here : j < length (set place j (48 + rest % 10)) = rw (length-set place j (48 + rest % 10)) inside in
    rw e
    (record {
      long = length-set place j (48 + rest % 10) ∙ s.long;
      within = omega (arith, s.within);
      whole =
          rw (
            drop-cons (set place j (48 + rest % 10)) j 0 here,
            get_or-set_same place j (48 + rest % 10) 0 inside,
            drop-set-lt (suc j) place j (48 + rest % 10) (omega arith),
          )
          (sym (append_snoc (last_digits j (rest / 10)) (48 + rest % 10) (drop (suc j) place)) ∙ s.whole);
    })

pub write_end : {n k : ℕ} {place : List ℕ} (i : ℕ) {rest : ℕ} → Writing n k place i rest → i ≤ 0 → place ≡ last_digits k n
unfolding last_digits
write_end zero s h = s.whole
write_end (suc j) s h = absurd (omega arith)

-- two digits for each byte
pub hex_long : (bs : List ℕ) → length (hex_of bs) ≡ 2 * length bs
unfolding hex_of
hex_long = each_long hex_of 2 refl (λ b bs. omega arith)

-- the digits of i bytes are written, and those of the rest are yet to come
pub record Hexing (text place : List ℕ) (i : ℕ) : Type 0 where
  pub long : length place ≡ 2 * length text
  pub within : i ≤ length text
  pub whole : take (2 * i) place ++ hex_of (drop i text) ≡ hex_of text

pub hex_on : {text place : List ℕ} {i : ℕ} → Hexing text place i → i < length text → (high low : ℕ) → high ≡ hex_digit (get_or text i 0 / 16)
    → low ≡ hex_digit (get_or text i 0 % 16)
    → Hexing text (set (set place (2 * i) high) (2 * i + 1) low) (i + 1)
unfolding hex_of
hex_on {text} {place} {i} s h high low p q =
    let e : 2 * (i + 1) ≡ suc (suc (2 * i)) = omega arith in
    let first : 2 * i < length place = omega (arith, s.long) in
    let second : suc (2 * i) < length (set place (2 * i) high) = rw (length-set place (2 * i) high) (omega (arith, s.long)) in
    record {
      long = rw (length-set (set place (2 * i) high) (2 * i + 1) low, length-set place (2 * i) high) s.long;
      within = omega arith;
      whole =
          rw (
            e,
            add-one (2 * i),
            add-one i,
            take-suc-set (set place (2 * i) high) (suc (2 * i)) low second,
            take-suc-set place (2 * i) high first,
            append_snoc (take (2 * i) place ++ (high ∷ [])) low (hex_of (drop (suc i) text)),
            append_snoc (take (2 * i) place) high (low ∷ hex_of (drop (suc i) text)),
            p,
            q,
          )
          (rw (drop-cons text i 0 h) at s.whole);
    }

pub hex_end : {text place : List ℕ} {i : ℕ} → Hexing text place i → length text ≤ i → place ≡ hex_of text
unfolding hex_of
hex_end {text} {place} {i} s h =
    sym (append-nil place) ∙ (rw (drop_of_length-le text h, take_all (2 * i) place (omega (arith, s.long))) at s.whole)

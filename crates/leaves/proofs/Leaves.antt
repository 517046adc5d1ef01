-- What the loops of the leaf functions keep: mostly that what is left of a definition comes to the whole of it.
use mathlib.Core.Path.{◌≡◌, refl, sym, ap, ◌∙◌}
use mathlib.Core.Bool.{Bool, true, false, cond}
use mathlib.Core.List.{List, [], ◌∷◌, ◌++◌}
use Prim.Native.Nat.{ℕ, zero, suc, ◌+◌, ◌-◌, ◌*◌, ◌/◌, ◌≤◌, ◌<◌}
use native.Mathlib.Numerals.{add-one}
use native.Mathlib.Omega.{arith}
use borrow.Author.Tests.{lt-ltb, le-ltb}
use lib.Dec.{leb, ltb}
use lib.ListN.{length, take, drop, get_or, set, length-set}
use lib.Seq.{get_or-set_same, take-suc-set}
use Rattle.std.specs.Prelude.{Option, None, Some, sum, sum_by}
use Rattle.std.proofs.lemmas.List.{get_or-drop, get_or-take, length-drop}
use Rattle.std.proofs.lemmas.List.Sums.{sum_by-cons}
use Rattle.std.proofs.lemmas.List.Recursion.{is_sum_by}
use Rattle.rules.specs.House.{share, classes}
use Rattle.rules.specs.Columns.{sum_of}
use Rattle.rules.specs.Regions.{col, table, span, buffer_size, extent, start_of, footprint, top_from, top_class}
use Rattle.rules.specs.Boundary.{reaches}
use Rattle.rules.proofs.Geometry.{span_last}
use Rattle.leaves.specs.Room.{some_from, some_room}
use Rattle.leaves.specs.Reached.{reached_from, lower_reached}

-- a search upwards: `rest i m` is what it comes to from i on over m numbers, `last i` where none of them passes the test
pub record Search (A : Type 0) : Type 0 where
  pub rest : ℕ → ℕ → A
  pub test : ℕ → Bool
  pub hit : ℕ → A
  pub last : ℕ → A

-- what is left of the search below top comes to the goal
pub record Searching {A : Type 0} (s : Search A) (top : ℕ) (goal : A) (i : ℕ) : Type 0 where
  pub step : (j m : ℕ) → s.rest j (suc m) ≡ cond (s.test j) (s.hit j) (s.rest (suc j) m)
  pub over : (j : ℕ) → s.rest j 0 ≡ s.last j
  pub left : s.rest i (top - i) ≡ goal

module _ {A : Type 0} {s : Search A} {top : ℕ} {goal : A} {i : ℕ} (g : Searching s top goal i) where
  one_step : i < top → cond (s.test i) (s.hit i) (s.rest (suc i) (top - suc i)) ≡ goal
  one_step h = let e : top - i ≡ suc (top - suc i) = omega arith in sym (rw e (g.step i (top - suc i))) ∙ g.left

  pub found : i < top → s.test i ≡ true → s.hit i ≡ goal
  found h e = rw e at (one_step h)

  pub passed : i < top → s.test i ≡ false → Searching s top goal (i + 1)
  passed h e = record { step = g.step; over = g.over; left = rw (add-one i) (rw e at (one_step h)) }

  pub ended : top ≤ i → s.last i ≡ goal
  ended h = let e : top - i ≡ 0 = omega arith in sym (g.over i) ∙ rw e at g.left

-- the buffer with room
abbrev pub of_room : ℕ → List ℕ → List ℕ → ℕ → Search (Option ℕ)
of_room q sizes useds len =
    record { rest = some_from q sizes useds len; test = λ j. leb (col useds j + len) (buffer_size q sizes j); hit = Some; last = λ j. None }

pub room_start : (q : ℕ) (sizes useds : List ℕ) (class len top : ℕ) → top ≡ top_class sizes
    → Searching (of_room q sizes useds len) (suc top) (some_room q sizes useds class len) class
unfolding some_from
room_start q sizes useds class len top e = record { step = λ j m. refl; over = λ j. refl; left = rw e }

-- the lower class reached
abbrev pub of_reached : List ℕ → List ℕ → ℕ → Search ℕ
of_reached useds lowests k =
    record { rest = reached_from useds lowests k; test = reaches useds lowests k; hit = col lowests; last = λ j. k }

pub reached_start : (useds lowests : List ℕ) (k : ℕ) → Searching (of_reached useds lowests k) (suc classes) (lower_reached useds lowests k) k
unfolding reached_from
reached_start useds lowests k = record { step = λ j m. refl; over = λ j. refl; left = refl }

-- the top class, from the last class down
pub record Topping (sizes : List ℕ) (class : ℕ) : Type 0 where
  pub to_end : class ≤ classes
  pub left : top_from sizes class ≡ top_class sizes

module _ {sizes : List ℕ} {class : ℕ} (s : Topping sizes class) where
  top_step : 0 < class → top_from sizes class ≡ cond (ltb 0 (col sizes class)) class (top_from sizes (class - 1))
  unfolding top_from
  top_step h =
      let e : class ≡ suc (class - 1) = omega arith in
      ap (top_from sizes) e ∙ ap (λ (x : ℕ). cond (ltb 0 (col sizes x)) x (top_from sizes (class - 1))) (sym e)

  pub top_here : 0 < class → 0 < col sizes class → class ≡ top_class sizes
  top_here h l = sym (top_step h ∙ rw (lt-ltb 0 (col sizes class) l)) ∙ s.left

  pub top_next : 0 < class → col sizes class ≤ 0 → Topping sizes (class - 1)
  top_next h l = record { to_end = omega arith; left = sym (top_step h ∙ rw (le-ltb 0 (col sizes class) l)) ∙ s.left }

  pub top_end : class ≤ 0 → 0 ≡ top_class sizes
  unfolding top_from
  top_end h = let e : class ≡ 0 = omega arith in rw e at s.left

-- the library's sum of a column
pub sum_is : (xs : List ℕ) → sum xs ≡ sum_of xs
unfolding sum_of
sum_is xs = sym (is_sum_by sum_of (λ x. x) refl (λ x xs. refl) xs)

-- the regions of a part of the payloads, and the end of the last region
span_is : (sizes xs : List ℕ) (k : ℕ) → ((i : ℕ) → i < length xs → get_or xs i 0 ≡ col sizes (k + i))
    → sum_by (λ size. size + size / share) xs ≡ span (extent share sizes) k (length xs)
unfolding span
span_is sizes [] k h = refl
span_is sizes (x ∷ xs) k h =
    let here : x ≡ col sizes k = (let e : k + 0 ≡ k = omega arith in rw e at (h 0 (omega arith))) in
    let next = span_is sizes xs (suc k) (λ i l. let e : suc k + i ≡ k + suc i = omega arith in rw e (h (suc i) (omega arith))) in
    sum_by-cons (λ size. size + size / share) x xs ∙ rw (next, here)

pub end_is : (sizes : List ℕ) → length sizes ≡ suc classes → sum_by (λ size. size + size / share) (drop 1 sizes) ≡ footprint share sizes
end_is sizes n =
    let size : length (drop 1 sizes) ≡ classes = length-drop 1 sizes ∙ omega arith in
    rw size at (span_is sizes (drop 1 sizes) 1 (λ i l. get_or-drop 1 sizes i 0))

-- one class more at the end of a table
table_more : (f : ℕ → ℕ) (n k : ℕ) → table f k (suc n) ≡ table f k n ++ (f (k + n) ∷ [])
unfolding table
table_more f zero k = let e : k ≡ k + 0 = omega arith in ap (λ (x : ℕ). f x ∷ []) e
table_more f (suc n) k = let e : suc k + n ≡ k + suc n = omega arith in
    ap (λ (r : List ℕ). f k ∷ r) (table_more f n (suc k) ∙ ap (λ (x : ℕ). table f (suc k) n ++ (f x ∷ [])) e)

-- the starts written so far: the last is that of the region reached
pub record Starting (sizes out : List ℕ) (class : ℕ) : Type 0 where
  pub low : 1 ≤ class
  pub to_end : class ≤ suc classes
  pub size : length out ≡ 2 + classes
  pub bound : get_or out class 0 ≤ 8589934592 * class
  pub start : get_or out class 0 ≡ start_of share sizes class
  pub written : take (class + 1) out ≡ table (start_of share sizes) 0 (class + 1)

pub start_start : (sizes out : List ℕ) → length out ≡ 2 + classes → take 2 out ≡ 0 ∷ 0 ∷ [] → Starting sizes out 1
unfolding table span
start_start sizes out n e =
    let zero : get_or out 1 0 ≡ 0 = sym (get_or-take 2 out 1 0 (omega arith)) ∙ rw e in
    record { low = omega arith; to_end = omega arith; size = n; bound = omega arith; start = zero; written = e }

pub start_next : {sizes out : List ℕ} {class x : ℕ} → Starting sizes out class → class < suc classes → x ≡ extent share sizes class
    → x ≤ 8589934592
    → Starting sizes (set out (class + 1) (get_or out class 0 + x)) (class + 1)
start_next {sizes} {out} {class} {x} s h q few =
    let to = get_or out class 0 + x in
    let here : get_or (set out (class + 1) to) (class + 1) 0 ≡ to = get_or-set_same out (class + 1) to 0 (omega (arith, s.size)) in
    let m : class + 1 - 1 ≡ suc (class - 1) = omega (arith, s.low) in
    let i : 1 + (class - 1) ≡ class = omega (arith, s.low) in
    let start : to ≡ start_of share sizes (class + 1) = rw (m, span_last (extent share sizes) 1 (class - 1), i, q, s.start) in
    let e : 0 + (class + 1) ≡ class + 1 = omega arith in
    record {
      low = omega arith;
      to_end = omega arith;
      size = length-set out (class + 1) to ∙ s.size;
      bound = omega (arith, s.bound);
      start = here ∙ start;
      written = rw (
        add-one (class + 1),
        take-suc-set out (class + 1) to (omega (arith, s.size)),
        table_more (start_of share sizes) (class + 1) 0,
        s.written,
        start,
        e,
      );
    }

-- Names differ exactly if they rise strictly in order of name.
-- Insertion by name keeps the test, whatever the order; and where names never fall, the first of them is none of the others exactly if
-- it is below the next.
use mathlib.Core.Path.{◌≡◌, refl, sym, ap, ◌∙◌}
use mathlib.Core.Bool.{Bool, true, false, cond, not, ◌&&◌}
use mathlib.Core.List.{List, [], ◌∷◌, map}
use Prim.Native.Nat.{ℕ, zero, suc, ◌+◌, ◌-◌, ◌≤◌, ◌<◌}
use native.Mathlib.Omega.{arith}
use borrow.Author.Tests.{eq-eqb, ne_eqb, eqb-true, eqb-false, ltb-true, ltb-false, lt-ltb, le-ltb}
use lib.Dec.{eqb, leb, ltb}
use lib.ListN.{length, get_or, take, drop, drop_of_length-le}
use lib.Seq.{drop-cons, get_or-take, length-take-le}
use Rattle.rules.specs.Words.{word_values}
use Rattle.rules.specs.Classes.{Obj, insert_by_name, by_name}
use Rattle.rules.specs.Regions.{every}
use Rattle.rules.specs.Columns.{listed, object_at}
use Rattle.rules.specs.History.{Every}
use Rattle.rules.specs.Sound.{each, names_differ}
use Rattle.rules.proofs.Lists.{every_map}
use Rattle.ranks.specs.Ranks.{in_name_order, indices}
use Rattle.ranks.proofs.ByName.{Climbs, keys_climb, order_below, order_by_name}
use Rattle.sound_limits.proofs.Scans.{Scanning, stopped, passed, ended}

-- an object's name is another
abbrev unlike : Obj → Obj → Bool
unlike o x = not (eqb x.name o.name)

unlike_turn : (o x : Obj) → unlike o x ≡ unlike x o
unlike_turn o x = ap not ((elim (eqb x.name o.name) as (λ t. eqb x.name o.name ≡ t → t ≡ eqb o.name x.name) [
  | true ↦ λ e. sym (eq-eqb o.name x.name (sym (eqb-true x.name o.name e)))
  | false ↦ λ e. sym (ne_eqb o.name x.name (λ q. eqb-false x.name o.name e (sym q)))
]) refl)

-- four tests, the middle two swapped
swap : (a b c d : Bool) → ((a && b) && (c && d)) ≡ ((a && c) && (b && d))
swap true true c d = refl
swap true false true d = refl
swap true false false d = refl
swap false b c d = refl

insert_each : (t : Obj → Bool) (o : Obj) (os : List Obj) → each t (insert_by_name o os) ≡ (t o && each t os)
unfolding each insert_by_name
insert_each t o [] = refl
insert_each t o (x ∷ xs) =
    elim (leb o.name x.name) as (λ b. each t (cond b (o ∷ x ∷ xs) (x ∷ insert_by_name o xs)) ≡ (t o && (t x && each t xs))) [
      | true ↦ refl
      | false ↦ ap (λ (b : Bool). t x && b) (insert_each t o xs) ∙ turn (t x) (t o) (each t xs)
    ]
  where
    turn : (a b c : Bool) → (a && (b && c)) ≡ (b && (a && c))
    turn true b c = refl
    turn false true c = refl
    turn false false c = refl

insert_differ : (o : Obj) (os : List Obj) → names_differ (insert_by_name o os) ≡ (each (unlike o) os && names_differ os)
unfolding each names_differ insert_by_name
insert_differ o [] = refl
insert_differ o (x ∷ xs) =
    let whole = (unlike o x && each (unlike o) xs) && (each (unlike x) xs && names_differ xs) in
    elim (leb o.name x.name) as (λ b. names_differ (cond b (o ∷ x ∷ xs) (x ∷ insert_by_name o xs)) ≡ whole) [
      | true ↦ refl
      | false ↦
          rw (insert_each (unlike x) o xs, insert_differ o xs, unlike_turn x o)
          (swap (unlike o x) (each (unlike x) xs) (each (unlike o) xs) (names_differ xs))
    ]

each_sorted : (t : Obj → Bool) (os : List Obj) → each t (by_name os) ≡ each t os
unfolding each by_name
each_sorted t [] = refl
each_sorted t (o ∷ os) = insert_each t o (by_name os) ∙ ap (λ (b : Bool). t o && b) (each_sorted t os)

differ_sorted : (os : List Obj) → names_differ (by_name os) ≡ names_differ os
unfolding by_name names_differ
differ_sorted [] = refl
differ_sorted (o ∷ os) = insert_differ o (by_name os) ∙ rw (each_sorted (unlike o) os, differ_sorted os)

-- the name at place j of an order is greater than the one before it
abbrev rises_at : List ℕ → List ℕ → ℕ → Bool
rises_at names order j = ltb (get_or names (get_or order (j - 1) 0) 0) (get_or names (get_or order j 0) 0)

next : (order : List ℕ) (n : ℕ) → n ≤ length order → (i : ℕ) → i < n → drop i (take n order) ≡ get_or order i 0 ∷ drop (suc i) (take n order)
next order n fits i h = drop-cons (take n order) i 0 (omega (arith, length-take-le n order fits)) ∙ rw (get_or-take n order i 0 h)

module _ (names places lens : List ℕ) where
  -- a test that holds at each index holds of each object
  test_each : (t : Obj → Bool) (is : List ℕ) → Every (λ i. t (object_at names places lens i) ≡ true) is
      → each t (map (object_at names places lens) is) ≡ true
  unfolding each
  test_each t [] h = refl
  test_each t (i ∷ is) h = rw h.0 (test_each t is h.1)

  first_unlike : (i j : ℕ) (is : List ℕ) → Climbs names (i ∷ j ∷ is)
      → each (unlike (object_at names places lens i)) (map (object_at names places lens) (j ∷ is)) ≡ ltb (get_or names i 0) (get_or names j 0)
  unfolding each
  first_unlike i j is h =
      let t = unlike (object_at names places lens i) in
      let x = get_or names i 0 in
      let y = get_or names j 0 in
      (elim (ltb x y) as (λ b. ltb x y ≡ b → each t (map (object_at names places lens) (j ∷ is)) ≡ b) [
        | true ↦ λ e.
            let l = ltb-true x y e in
            let others = every_map (λ k m. ap not (ne_eqb (get_or names k 0) x (λ q. omega arith))) is h.1.0 in
            test_each t (j ∷ is) (ap not (ne_eqb y x (λ q. omega arith)), others)
        | false ↦ λ e.
            let l = ltb-false x y e in
            let q : y ≡ x = omega (arith, h.0.0) in
            rw (eq-eqb y x q)
      ]) refl

  -- an order along which names never fall, from place i on
  rises : (order : List ℕ) (n : ℕ) → n ≤ length order → (m i : ℕ) → suc i + m ≡ n → Climbs names (drop i (take n order))
      → names_differ (map (object_at names places lens) (drop i (take n order))) ≡ every (rises_at names order) (suc i) m
  unfolding names_differ every each
  rises order n fits zero i size h =
      let first = next order n fits i (omega arith) in
      let long = length-take-le n order fits in
      let none : drop (suc i) (take n order) ≡ [] = drop_of_length-le (take n order) {i = suc i} (omega arith) in
      rw (first, none)
  rises order n fits (suc m) i size h =
      let first = next order n fits i (omega arith) in
      let second = next order n fits (suc i) (omega arith) in
      let climbs = rw first at h in
      let z : suc i - 1 ≡ i = omega arith in
      let a = get_or order i 0 in
      let b = get_or order (suc i) 0 in
      let rest = drop (suc i) (take n order) in
      let here : each (unlike (object_at names places lens a)) (map (object_at names places lens) rest) ≡ ltb (get_or names a 0) (get_or names b 0) =
      rw second (first_unlike a b (drop (suc (suc i)) (take n order)) (rw second at climbs)) in
      rw (first, here, rises order n fits m (suc i) (omega arith) climbs.1, z)

  differ_rising : ((i : ℕ) → get_or names i 0 < word_values) → (n : ℕ) (order : List ℕ) → n ≤ length order → take n order ≡ in_name_order names n
      → every (rises_at names order) 1 (n - 1) ≡ names_differ (listed names places lens 0 n)
  unfolding names_differ every listed
  differ_rising narrow zero order fits e = refl
  differ_rising narrow (suc n) order fits e =
      let z : suc n - 1 ≡ n = omega arith in
      let climbs : Climbs names (take (suc n) order) = rw e (keys_climb names (indices 0 (suc n)) word_values 0) in
      rw z (sym (rises order (suc n) fits n 0 (omega arith) climbs)
      ∙ ap names_differ (order_by_name names places lens narrow (suc n) order e) ∙ differ_sorted (listed names places lens 0 (suc n)))

-- the scan along the order by name, at place i
pub record Rising (names : List ℕ) (n : ℕ) (order : List ℕ) (i : ℕ) : Type 0 where
  pub from_one : 1 ≤ i
  pub below : (j : ℕ) → j < n → get_or order j 0 < n
  pub scan : Scanning (rises_at names order) n (every (rises_at names order) 1 (n - 1)) i
  pub means : (places lens : List ℕ) → every (rises_at names order) 1 (n - 1) ≡ names_differ (listed names places lens 0 n)

pub rise_start : (names : List ℕ) (n : ℕ) (order : List ℕ) → ((i : ℕ) → get_or names i 0 < word_values) → n ≤ length order
    → take n order ≡ in_name_order names n → Rising names n order 1
rise_start names n order narrow fits e = record {
  from_one = omega arith;
  below = order_below names narrow n order e;
  scan = record { left = refl };
  means = λ places lens. differ_rising names places lens narrow n order fits e;
}

module _ {names : List ℕ} {n : ℕ} {order : List ℕ} {i : ℕ} (s : Rising names n order i) where
  pub rise_next : i < n → get_or names (get_or order (i - 1) 0) 0 < get_or names (get_or order i 0) 0 → Rising names n order (i + 1)
  rise_next h l = record { from_one = omega arith; below = s.below; scan = passed s.scan h (lt-ltb _ _ l); means = s.means }

  pub rise_stop : i < n → get_or names (get_or order i 0) 0 ≤ get_or names (get_or order (i - 1) 0) 0 → (places lens : List ℕ)
      → false ≡ names_differ (listed names places lens 0 n)
  rise_stop h l places lens = stopped s.scan h (le-ltb _ _ l) ∙ s.means places lens

  pub rise_end : n ≤ i → (places lens : List ℕ) → true ≡ names_differ (listed names places lens 0 n)
  rise_end h places lens = ended s.scan h ∙ s.means places lens

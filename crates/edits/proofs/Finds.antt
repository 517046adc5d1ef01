-- What the index found says of the list of objects: the object of a name, those of other names, and the object's rank by place.
-- A list from columns is cut at the index found, and what stands before it and behind it fails the test.
use mathlib.Core.Path.{◌≡◌, refl, sym, ap, ◌∙◌}
use mathlib.Core.Bool.{Bool, true, false, cond, not}
use mathlib.Core.List.{List, [], ◌∷◌, ◌++◌}
use Prim.Native.Nat.{ℕ, zero, suc, ◌+◌, ◌-◌, ◌≤◌, ◌<◌}
use native.Mathlib.Nat.{add-zero, suc-add, zero-add}
use native.Mathlib.Omega.{arith}
use Rattle.std.proofs.lemmas.List.{length-take-le}
use lib.ListN.{length, take, get_or}
use lib.Dec.{ltb, eqb}
use borrow.Author.Tests.{ltb-true, ltb-false, lt-ltb, le-ltb, eqb-true, eqb-false, eq-eqb, ne_eqb}
use Rattle.rules.specs.Classes.{Obj, filter, insert_by_place}
use Rattle.rules.specs.Columns.{listed}
use Rattle.rules.specs.Calls.{named, others}
use Rattle.rules.proofs.Lists.{All, all_map, all_right}
use Rattle.rules.proofs.Facts.{Distinct}
use Rattle.std.specs.Prelude.{Option, None, Some, unwrap_or}
use Rattle.std.specs.Option.{is_some}
use Rattle.edits.specs.Edits.{find_in, found_in, rank_in, above_in}
use Rattle.edits.proofs.Runs.{object_at, run, listed_run, run_add}
use Rattle.edits.proofs.Scans.{first_facts, first_of}

-- what holds index by index holds of all
pub run_all : (P : Obj → Type 0) (f : ℕ → Obj) (n i : ℕ) → ((k : ℕ) → i ≤ k → k < i + n → P (f k)) → All P (run f i n)
unfolding run
run_all P f zero i h = tt
run_all P f (suc n) i h = (h i (omega arith) (omega arith), run_all P f n (suc i) (λ k a b. h k (omega arith) (omega arith)))

-- a list cut at an index of it
pub run_cut : (f : ℕ → Obj) (n i : ℕ) → i < n → run f 0 n ≡ run f 0 i ++ (f i ∷ run f (suc i) (n - suc i))
unfolding run
run_cut f n i h =
    let e : n ≡ i + suc (n - suc i) = omega arith in
    let z : 0 + i ≡ i = omega arith in
    ap (run f 0) e ∙ run_add f i (suc (n - suc i)) 0 ∙ rw z

-- filters
pub filter_append : (t : Obj → Bool) (xs ys : List Obj) → filter t (xs ++ ys) ≡ filter t xs ++ filter t ys
unfolding filter
filter_append t [] ys = refl
filter_append t (x ∷ xs) ys = elim (t x) as
    (λ b. cond b (x ∷ filter t (xs ++ ys)) (filter t (xs ++ ys)) ≡ cond b (x ∷ filter t xs) (filter t xs) ++ filter t ys) [
      | true ↦ ap (λ (os : List Obj). x ∷ os) (filter_append t xs ys)
      | false ↦ filter_append t xs ys
    ]

pub filter_none : (t : Obj → Bool) (os : List Obj) → All (λ o. t o ≡ false) os → filter t os ≡ []
unfolding filter
filter_none t [] h = refl
filter_none t (o ∷ os) h = rw h.0 (filter_none t os h.1)

filter_whole : (t : Obj → Bool) (os : List Obj) → All (λ o. t o ≡ true) os → filter t os ≡ os
unfolding filter
filter_whole t [] h = refl
filter_whole t (o ∷ os) h = rw h.0 (ap (λ (xs : List Obj). o ∷ xs) (filter_whole t os h.1))

some_kept : (t : Obj → Bool) (o : Obj) (os xs : List Obj) → t o ≡ true → 0 < length (xs ++ filter t (o ∷ os))
unfolding filter
some_kept t o os [] e = rw e (omega arith)
some_kept t o os (x ∷ xs) e = omega arith

-- the one object that differs in name from those before it and behind it
pub record Alone (o : Obj) (xs ys : List Obj) : Type 0 where
  pub before : All (λ (x : Obj). x.name ≡ o.name → ⊥) xs
  pub behind : All (λ (x : Obj). x.name ≡ o.name → ⊥) ys

pub alone : (xs : List Obj) (o : Obj) (ys : List Obj) → Distinct (xs ++ (o ∷ ys)) → Alone o xs ys
alone [] o ys d = record { before = tt; behind = d.0 }
alone (x ∷ xs) o ys d =
    let a = alone xs o ys d.1 in
    record { before = ((λ e. (all_right (λ (y : Obj). y.name ≡ x.name → ⊥) xs (o ∷ ys) d.0).0 (sym e)), a.before); behind = a.behind }

alone_named : {o : Obj} {xs ys : List Obj} → Alone o xs ys → named o.name (xs ++ (o ∷ ys)) ≡ o ∷ []
unfolding named filter
alone_named {o} {xs} {ys} a =
    let t : Obj → Bool = λ (x : Obj). eqb x.name o.name in
    let p : filter t xs ≡ [] = filter_none t xs (all_map (λ x h. ne_eqb _ _ h) xs a.before) in
    let q : filter t ys ≡ [] = filter_none t ys (all_map (λ x h. ne_eqb _ _ h) ys a.behind) in
    filter_append t xs (o ∷ ys) ∙ rw (p, eq-eqb o.name o.name refl, q)

alone_others : {o : Obj} {xs ys : List Obj} → Alone o xs ys → others o.name (xs ++ (o ∷ ys)) ≡ xs ++ ys
unfolding others filter
alone_others {o} {xs} {ys} a =
    let t : Obj → Bool = λ (x : Obj). not (eqb x.name o.name) in
    let p : filter t xs ≡ xs = filter_whole t xs (all_map (λ x h. ap not (ne_eqb _ _ h)) xs a.before) in
    let q : filter t ys ≡ ys = filter_whole t ys (all_map (λ x h. ap not (ne_eqb _ _ h)) ys a.behind) in
    filter_append t xs (o ∷ ys) ∙ rw (p, eq-eqb o.name o.name refl, q)

module _ (names places lens : List ℕ) (n : ℕ) where
  -- the objects cut at index i
  listed_cut : (i : ℕ) → i < n
      → listed names places lens 0 n
      ≡ run (object_at names places lens) 0 i ++ (object_at names places lens i ∷ run (object_at names places lens) (suc i) (n - suc i))
  listed_cut i h = listed_run names places lens n 0 ∙ run_cut (object_at names places lens) n i h

  cut_alone : (i : ℕ) → i < n → Distinct (listed names places lens 0 n)
      → Alone (object_at names places lens i) (run (object_at names places lens) 0 i) (run (object_at names places lens) (suc i) (n - suc i))
  cut_alone i h d = alone (run (object_at names places lens) 0 i) (object_at names places lens i) (run (object_at names places lens) (suc i) (n - suc i))
      (rw (listed_cut i h) at d)

  -- the first of the n names that is this one is the one of the first n objects
  pub found_is : n ≤ length names → (name : ℕ) → found_in (take n names) name ≡ cond (ltb (find_in names n name) n) (Some (find_in names n name)) None
  found_is h name = rw (first_of (λ x. eqb x name) names n h, length-take-le n names h)

  -- so one is found where the search of the n names ends before n, and there
  pub found_some : n ≤ length names → (name : ℕ) → is_some (found_in (take n names) name) ≡ ltb (find_in names n name) n
  found_some h name =
      let i = find_in names n name in
      rw (found_is h name) (elim (ltb i n) as (λ b. is_some (cond b (Some i) None) ≡ b) [ true ↦ refl | false ↦ refl ])

  pub found_at : n ≤ length names → (name i : ℕ) → found_in (take n names) name ≡ Some i → (i < n) × (i ≡ find_in names n name)
  found_at h name i e =
      let k = find_in names n name in
      (elim (ltb k n) as (λ b. ltb k n ≡ b → ◌≡◌ {A = Option ℕ} (cond b (Some k) None) (Some i) → (i < n) × (i ≡ k)) [
        | true ↦ λ t q. let same : k ≡ i = cc in (omega (arith, ltb-true k n t), sym same)
        | false ↦ λ t q. cc
      ]) refl (sym (found_is h name) ∙ e)

  -- FOUND: that object has the name
  pub found_name : (name : ℕ) → find_in names n name < n → get_or names (find_in names n name) 0 ≡ name
  found_name name h = eqb-true _ _ ((first_facts (λ k. eqb (get_or names k 0) name) n 0).here (omega arith))

  -- and where names differ it is the only one
  pub named_at : (i : ℕ) → i < n → Distinct (listed names places lens 0 n)
      → named (get_or names i 0) (listed names places lens 0 n) ≡ object_at names places lens i ∷ []
  named_at i h d = rw (listed_cut i h) (alone_named (cut_alone i h d))

  pub found_named : (name : ℕ) → find_in names n name < n → Distinct (listed names places lens 0 n)
      → named name (listed names places lens 0 n) ≡ object_at names places lens (find_in names n name) ∷ []
  found_named name h d = ap (λ (x : ℕ). named x (listed names places lens 0 n)) (sym (found_name name h)) ∙ named_at (find_in names n name) h d

  -- NOTHING FOUND: no object has the name
  pub named_off : (name : ℕ) → ((k : ℕ) → k < n → get_or names k 0 ≡ name → ⊥) → named name (listed names places lens 0 n) ≡ []
  unfolding named
  named_off name h =
      let f = object_at names places lens in
      rw (listed_run names places lens n 0)
      (filter_none (λ o. eqb o.name name) (run f 0 n) (run_all (λ o. eqb o.name name ≡ false) f n 0 (λ k a b. ne_eqb _ _ (h k (omega arith)))))

  pub named_none : (name : ℕ) → find_in names n name ≡ n → named name (listed names places lens 0 n) ≡ []
  named_none name e =
      let s = first_facts (λ k. eqb (get_or names k 0) name) n 0 in
      named_off name (λ k l. eqb-false _ _ (s.before k (omega arith) (omega arith)))

  -- a name is held where it is found
  pub found_held : (name : ℕ) → ltb 0 (length (named name (listed names places lens 0 n))) ≡ ltb (find_in names n name) n
  unfolding named
  found_held name =
      let i = find_in names n name in
      let t : Obj → Bool = λ (o : Obj). eqb o.name name in
      let f = object_at names places lens in
      (elim (ltb i n) as (λ b. ltb i n ≡ b → ltb 0 (length (named name (listed names places lens 0 n))) ≡ b) [
        | true ↦ λ e.
            let h : i < n = ltb-true i n e in
            rw (listed_cut i h, filter_append t (run f 0 i) (f i ∷ run f (suc i) (n - suc i)))
            (lt-ltb 0 _ (some_kept t (f i) (run f (suc i) (n - suc i)) (filter t (run f 0 i)) (eq-eqb _ _ (found_name name h))))
        | false ↦ λ e.
            let q : i ≡ n = let a = ltb-false i n e in let b = (first_facts (λ k. eqb (get_or names k 0) name) n 0).high in omega arith in
            rw (named_none name q)
      ]) refl

  -- GONE: without the object at index i the others are left
  pub without_others : (i : ℕ) → i < n → Distinct (listed names places lens 0 n)
      → listed names places lens 0 i ++ listed names places lens (i + 1) (n - (i + 1)) ≡ others (get_or names i 0) (listed names places lens 0 n)
  without_others i h d =
      let e : i + 1 ≡ suc i = omega arith in
      rw (listed_run names places lens i 0, e, listed_run names places lens (n - suc i) (suc i))
      (sym (rw (listed_cut i h) (alone_others (cut_alone i h d))))

-- an object put among others at its rank
insert_split : (f : ℕ → Obj) (o : Obj) (l j i : ℕ) → ((k : ℕ) → i ≤ k → k < i + j → (f k).at ≤ o.at) → (0 < l → o.at < (f (i + j)).at)
    → insert_by_place o (run f i (j + l)) ≡ run f i j ++ (o ∷ run f (i + j) l)
unfolding insert_by_place run
insert_split f o zero zero i a b = refl
insert_split f o (suc l) zero i a b = rw (zero-add (suc l), add-zero i) (rw (lt-ltb o.at (f i).at (rw (add-zero i) at (b (omega arith)))))
insert_split f o l (suc j) i a b =
    rw (suc-add j l, le-ltb o.at (f i).at (a i (omega arith) (omega arith)))
    (ap (λ (os : List Obj). f i ∷ os)
    (insert_split f o l j (suc i) (λ k x y. a k (omega arith) (omega arith)) (λ z. let e : suc i + j ≡ i + suc j = omega arith in rw e (b z))
    ∙ ap (λ (k : ℕ). run f (suc i) j ++ (o ∷ run f k l)) (omega arith)))

pub rank_within : (places : List ℕ) (n at : ℕ) → rank_in places n at ≤ n
rank_within places n at = let s = first_facts (λ k. ltb at (get_or places k 0)) n 0 in omega (arith, s.high)

-- the first at a greater place, or n
pub rank_is : (places : List ℕ) (n at : ℕ) → n ≤ length places → unwrap_or (above_in (take n places) at) n ≡ rank_in places n at
rank_is places n at h =
    let k = rank_in places n at in
    let w = rank_within places n at in
    rw (← first_of (λ x. ltb at x) places n h, length-take-le n places h)
    ((elim (ltb k n) as (λ b. ltb k n ≡ b → unwrap_or (cond b (Some k) None) n ≡ k) [
      | true ↦ λ e. refl
      | false ↦ λ e. omega (arith, ltb-false k n e)
    ]) refl)

pub insert_ranked : (names places lens : List ℕ) (n : ℕ) (o : Obj)
    → listed names places lens 0 (rank_in places n o.at) ++ (o ∷ listed names places lens (rank_in places n o.at) (n - rank_in places n o.at))
    ≡ insert_by_place o (listed names places lens 0 n)
insert_ranked names places lens n o =
    let r = rank_in places n o.at in
    let s = first_facts (λ k. ltb o.at (get_or places k 0)) n 0 in
    let w : r ≤ n = rank_within places n o.at in
    let e : n ≡ r + (n - r) = omega arith in
    let z : 0 + r ≡ r = omega arith in
    let f = object_at names places lens in
    rw (listed_run names places lens r 0, listed_run names places lens (n - r) r, listed_run names places lens n 0)
    (sym (ap (λ (m : ℕ). insert_by_place o (run f 0 m)) e
    ∙ insert_split f o (n - r) r 0 (λ k a b. ltb-false _ _ (s.before k (omega arith) (omega arith))) (λ l. rw z (ltb-true _ _ (s.here (omega arith))))
    ∙ rw z))

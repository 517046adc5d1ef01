-- Objects key by key, in rising place order: where each key has a stretch of its own, in which its objects rise, all objects rise.
-- The objects of a key end by the start of the next key's stretch, so that the chains join; and they are the same objects, since each has a key.
use mathlib.Core.Path.{◌≡◌, refl}
use mathlib.Core.Logic.{inl, inr}
use mathlib.Core.Bool.{true, false, cond}
use mathlib.Core.List.{List, [], ◌∷◌, ◌++◌}
use Prim.Native.Nat.{ℕ, zero, suc, ◌+◌, ◌*◌, ◌≤◌, ◌<◌}
use native.Mathlib.Nat.{eq-or-lt_of_le}
use native.Mathlib.Omega.{arith}
use lib.ListN.{length, get_or}
use lib.Dec.{eqb}
use borrow.Author.Tests.{eq-eqb}
use Rattle.rules.specs.Classes.{Obj, end_of, by_place}
use Rattle.rules.proofs.Lists.{All, In, in_all, all_in_lem}
use Rattle.rules.proofs.Facts.{Chain}
use Rattle.rules.proofs.Insertion.{sort_all}
use Rattle.rules.proofs.Names.{in_left, in_right, in_either}
use Rattle.orders.specs.Orders.{keyed, keyed_from}
use Rattle.flush_laws.proofs.Sorted.{Long, sorted_unique, sort_in, in_sort}

-- two chains, the second from where the first has ended
pub chain_append : (lo mid : ℕ) (xs ys : List Obj) → lo ≤ mid → Chain lo xs → All (λ o. end_of o ≤ mid) xs → Chain mid ys → Chain lo (xs ++ ys)
chain_append lo mid [] [] l c e d = tt
chain_append lo mid [] (y ∷ ys) l c e d = (omega (arith, d.0), d.1)
chain_append lo mid (x ∷ xs) ys l c e d = (c.0, chain_append (end_of x) mid xs ys e.0 c.1 e.1 d)

-- an object of one key is one of all
keyed_in : (of : List ℕ) (key : ℕ) (o : Obj) (os : List Obj) (i : ℕ) → In o (keyed of key i os) → In o os
unfolding keyed
keyed_in of key o [] i m = m
keyed_in of key o (x ∷ xs) i m =
    (elim (eqb (get_or of i 0) key) as (λ b. In o (cond b (x ∷ keyed of key (suc i) xs) (keyed of key (suc i) xs)) → In o (x ∷ xs)) [
      | true ↦ λ k. elim k [ inl e ↦ inl e | inr n ↦ inr (keyed_in of key o xs (suc i) n) ]
      | false ↦ λ k. inr (keyed_in of key o xs (suc i) k)
    ]) m

keyed_from_in : (of : List ℕ) (o : Obj) (os : List Obj) (m key : ℕ) → In o (keyed_from of os key m) → In o os
unfolding keyed_from
keyed_from_in of o os zero key n = absurd n
keyed_from_in of o os (suc m) key n = elim (in_either o (keyed of key 0 os) (keyed_from of os (suc key) m) n) [
  | inl k ↦ keyed_in of key o os 0 k
  | inr k ↦ keyed_from_in of o os m (suc key) k
]

-- and each object is of some key
in_keyed : (of : List ℕ) (m : ℕ) (o : Obj) (os : List Obj) (i : ℕ) → ((j : ℕ) → j < i + length os → get_or of j 0 < m) → In o os
    → (key : ℕ) × (key < m) × In o (keyed of key i os)
unfolding keyed
in_keyed of m o [] i h n = elim n [ ]
in_keyed of m o (x ∷ xs) i h (inl e) = (get_or of i 0, h i (omega arith), rw (eq-eqb (get_or of i 0) (get_or of i 0) refl) (inl e))
in_keyed of m o (x ∷ xs) i h (inr n) =
    let k = in_keyed of m o xs (suc i) (λ j l. h j (omega arith)) n in (
      k.0,
      k.1,
      elim (eqb (get_or of i 0) k.0) as (λ b. In o (cond b (x ∷ keyed of k.0 (suc i) xs) (keyed of k.0 (suc i) xs))) [
        | true ↦ inr k.2
        | false ↦ k.2
      ],
    )

in_keyed_from : (of : List ℕ) (o : Obj) (os : List Obj) (k m key : ℕ) → key ≤ k → k < key + m → In o (keyed of k 0 os)
    → In o (keyed_from of os key m)
unfolding keyed_from
in_keyed_from of o os k zero key a b n = absurd (omega arith)
in_keyed_from of o os k (suc m) key a b n = elim (eq-or-lt_of_le a) [
  | inl e ↦ in_left o (keyed of key 0 os) (keyed_from of os (suc key) m) (rw e n)
  | inr l ↦ in_right o (keyed of key 0 os) (keyed_from of os (suc key) m) (in_keyed_from of o os k m (suc key) l (omega arith) n)
]

-- the stretch of a class: payload objects from `low` on, and behind them, from `mid` on, overflow objects
pub record Stretch (of : List ℕ) (os : List Obj) (low mid : ℕ → ℕ) (first c : ℕ) : Type 0 where
  pub rises : low c ≤ mid c
  pub ends : mid c ≤ low (suc c)
  pub payload : Chain (low c) (keyed of first 0 os)
  pub payload_ends : All (λ o. end_of o ≤ mid c) (keyed of first 0 os)
  pub over : Chain (mid c) (keyed of (suc first) 0 os)
  pub over_ends : All (λ o. end_of o ≤ low (suc c)) (keyed of (suc first) 0 os)

-- class by class
classes_chain : (of : List ℕ) (os : List Obj) (low mid : ℕ → ℕ) (n : ℕ) (first c : ℕ)
    → ((d : ℕ) → d < n → Stretch of os low mid (first + 2 * d) (c + d)) → Chain (low c) (keyed_from of os first (2 * n))
unfolding keyed_from
classes_chain of os low mid zero first c h = tt
classes_chain of os low mid (suc n) first c h =
    let z : 2 * suc n ≡ suc (suc (2 * n)) = omega arith in
    let f : first + 2 * 0 ≡ first = omega arith in
    let d : c + 0 ≡ c = omega arith in
    let s : Stretch of os low mid first c = rw (f, d) at (h 0 (omega arith)) in
    let rest : Chain (low (suc c)) (keyed_from of os (suc (suc first)) (2 * n)) = classes_chain of os low mid n (suc (suc first)) (suc c) (λ e l.
    let a : first + 2 * suc e ≡ suc (suc first) + 2 * e = omega arith in
    let b : c + suc e ≡ suc c + e = omega arith in
    rw (a, b) at (h (suc e) (omega arith))) in
    rw z (chain_append (low c) (mid c) (keyed of first 0 os) (keyed of (suc first) 0 os ++ keyed_from of os (suc (suc first)) (2 * n)) s.rises s.payload
    s.payload_ends
    (chain_append (mid c) (low (suc c)) (keyed of (suc first) 0 os) (keyed_from of os (suc (suc first)) (2 * n)) s.ends s.over s.over_ends rest))

-- KEY BY KEY IS BY PLACE: objects that stay below `floor`, then class by class
module _ (of : List ℕ) (os : List Obj) (low mid : ℕ → ℕ) (n : ℕ)
    (stay : Chain 0 (keyed of 0 0 os)) (stay-ends : All (λ o. end_of o ≤ low 1) (keyed of 0 0 os))
    (stretches : (d : ℕ) → d < n → Stretch of os low mid (1 + 2 * d) (1 + d)) where
  keys_chain : Chain 0 (keyed_from of os 0 (suc (2 * n)))
  unfolding keyed_from
  keys_chain = chain_append 0 (low 1) (keyed of 0 0 os) (keyed_from of os 1 (2 * n)) (omega arith) stay stay-ends (classes_chain of os low mid n 1 1 stretches)

  pub keys_sorted : ((j : ℕ) → j < length os → get_or of j 0 < suc (2 * n)) → Chain 0 (by_place os) → Long os
      → by_place os ≡ keyed_from of os 0 (suc (2 * n))
  keys_sorted h c l =
      sorted_unique (by_place os) (keyed_from of os 0 (suc (2 * n))) 0 0 c keys_chain (sort_all (λ o. 1 ≤ o.len) os l)
      (all_in_lem (λ o. 1 ≤ o.len) (keyed_from of os 0 (suc (2 * n))) (λ o m. in_all (λ x. 1 ≤ x.len) os l o (keyed_from_in of o os (suc (2 * n)) 0 m)))
      (record {
        there = λ o m.
            let k = in_keyed of (suc (2 * n)) o os 0 (λ j q. h j (omega arith)) (sort_in o os m) in
            in_keyed_from of o os k.0 (suc (2 * n)) 0 (omega arith) (omega (arith, k.1)) k.2;
        back = λ o m. in_sort o os (keyed_from_in of o os (suc (2 * n)) 0 m);
      })

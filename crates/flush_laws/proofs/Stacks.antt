-- Places by key are the places of the rules: by kind the objects are stacked, by slot they are settled; and what is packed downwards is stacked from below.
use mathlib.Core.Path.{◌≡◌, refl, sym, ◌∙◌}
use mathlib.Core.Bool.{true, false, cond}
use mathlib.Core.List.{List, [], ◌∷◌, ◌++◌, reverse, reverse-cons, reverse-append}
use Prim.Native.Nat.{ℕ, zero, suc, ◌+◌, ◌-◌, ◌≤◌, ◌<◌}
use native.Mathlib.Omega.{arith}
use native.Mathlib.Nat.{zero-add}
use lib.Dec.{eqb}
use lib.ListN.{get_or}
use borrow.Author.Tests.{eqb-true, eqb-false}
use Rattle.rules.specs.House.{classes}
use Rattle.rules.specs.Classes.{Obj, cls, class_of, placed, volume, volume_of}
use Rattle.rules.specs.Flush.{stacked, packed, settled}
use Rattle.rules.specs.Columns.{object_at, picked}
use Rattle.rules.proofs.Lists.{volume_append}
use Rattle.layout.specs.Layout.{slot_of, key_volume}
use Rattle.rules.proofs.ClassLaws.{class_few}
use Rattle.layout.proofs.Counts.{key_more}
use Rattle.flush_laws.proofs.Picks.{slot_same, slot_other}

module _ (keys lens : List ℕ) (k i : ℕ) where
  grown : key_volume keys lens k 0 (suc i) ≡ key_volume keys lens k 0 i + cond (eqb (get_or keys i 0) k) (get_or lens i 0) 0
  grown = key_more keys lens k 0 i ∙ rw (zero-add i)

module _ (names places lens kinds : List ℕ) (k : ℕ) where
  -- each object of kind k behind those before it: they are stacked
  pub stack_picked : (middles : List ℕ) (from m i : ℕ)
      → ((j : ℕ) → j < i + m → get_or kinds j 0 ≡ k → get_or middles j 0 ≡ from + key_volume kinds lens k 0 j)
      → stacked (from + key_volume kinds lens k 0 i) (picked kinds k names places lens i m) ≡ picked kinds k names middles lens i m
  unfolding picked stacked
  stack_picked middles from zero i h = refl
  stack_picked middles from (suc m) i h =
      let rest = stack_picked middles from m (suc i) (λ j l. h j (omega arith)) in
      (elim (eqb (get_or kinds i 0) k) as (λ t. eqb (get_or kinds i 0) k ≡ t
      → stacked (from + key_volume kinds lens k 0 i)
      (cond t (object_at names places lens i ∷ picked kinds k names places lens (suc i) m) (picked kinds k names places lens (suc i) m))
      ≡ cond t (object_at names middles lens i ∷ picked kinds k names middles lens (suc i) m) (picked kinds k names middles lens (suc i) m)) [
        | true ↦ λ e.
            let n : from + key_volume kinds lens k 0 i + get_or lens i 0 ≡ from + key_volume kinds lens k 0 (suc i) = omega (
              arith,
              rw e at (grown kinds lens k i),
            ) in
            rw (n, rest, h i (omega arith) (eqb-true (get_or kinds i 0) k e))
        | false ↦ λ e.
            let n : from + key_volume kinds lens k 0 i ≡ from + key_volume kinds lens k 0 (suc i) = omega (arith, rw e at (grown kinds lens k i)) in
            rw n rest
      ]) refl

  -- each object of kind k behind those of its class before it: they are settled
  pub settle_picked : (slots finals : List ℕ) (fill home : ℕ → ℕ) (m i : ℕ) (before : List Obj)
      → ((j : ℕ) → j < i + m → get_or slots j 0 ≡ slot_of (get_or kinds j 0) (class_of (get_or lens j 0)))
      → ((j : ℕ) → j < i + m → get_or kinds j 0 ≡ k
      → get_or finals j 0 ≡ fill (class_of (get_or lens j 0)) + key_volume slots lens (slot_of k (class_of (get_or lens j 0))) 0 j)
      → ((c : ℕ) → c ≤ suc classes → fill c + key_volume slots lens (slot_of k c) 0 i ≡ home c + volume_of c before)
      → settled home before (picked kinds k names places lens i m) ≡ picked kinds k names finals lens i m
  unfolding picked settled volume_of
  settle_picked slots finals fill home zero i before w h g = refl
  settle_picked slots finals fill home (suc m) i before w h g =
      let o = object_at names places lens i in
      (elim (eqb (get_or kinds i 0) k) as (λ t. eqb (get_or kinds i 0) k ≡ t
      → settled home before (cond t (o ∷ picked kinds k names places lens (suc i) m) (picked kinds k names places lens (suc i) m))
      ≡ cond t (object_at names finals lens i ∷ picked kinds k names finals lens (suc i) m) (picked kinds k names finals lens (suc i) m)) [
        | true ↦ λ e.
            let q = eqb-true (get_or kinds i 0) k e in
            let here : home (cls o) + volume_of (cls o) before ≡ get_or finals i 0 = sym (h i (omega arith) q ∙ g (cls o) (class_few o.len)) in
            rw (
              here,
              settle_picked slots finals fill home m (suc i) (o ∷ before) (λ j l. w j (omega arith)) (λ j l. h j (omega arith)) (λ c l. taken q c l),
            )
        | false ↦ λ e. settle_picked slots finals fill home m (suc i) before (λ j l. w j (omega arith)) (λ j l. h j (omega arith))
            (λ c l. passed (eqb-false (get_or kinds i 0) k e) c l)
      ]) refl
    where
      taken : get_or kinds i 0 ≡ k → (c : ℕ) → c ≤ suc classes
          → fill c + key_volume slots lens (slot_of k c) 0 (suc i) ≡ home c + volume_of c (object_at names places lens i ∷ before)
      taken q c l = rw (grown slots lens (slot_of k c) i, w i (omega arith), q, slot_same k (class_of (get_or lens i 0)) c) (omega (arith, g c l))

      passed : (get_or kinds i 0 ≡ k → ⊥) → (c : ℕ) → c ≤ suc classes
          → fill c + key_volume slots lens (slot_of k c) 0 (suc i) ≡ home c + volume_of c before
      passed d c l = rw (
        grown slots lens (slot_of k c) i,
        w i (omega arith),
        slot_other (get_or kinds i 0) k (class_of (get_or lens i 0)) c (class_few (get_or lens i 0)) l d,
      ) (omega (arith, g c l))

packed_append : (edge : ℕ) (xs ys : List Obj) → packed edge (xs ++ ys) ≡ packed edge xs ++ packed (edge - volume xs) ys
unfolding packed volume
packed_append edge [] ys = let e : edge - 0 ≡ edge = omega arith in rw e
packed_append edge (x ∷ xs) ys =
    let e : edge - x.len - volume xs ≡ edge - (x.len + volume xs) = omega arith in
    rw (packed_append (edge - x.len) xs ys, e)

volume_reverse : (xs : List Obj) → volume (reverse xs) ≡ volume xs
unfolding volume
volume_reverse [] = refl
volume_reverse (x ∷ xs) = rw (reverse-cons x xs, volume_append (reverse xs) (x ∷ [])) (omega (arith, volume_reverse xs))

-- what is packed downwards to end at an edge is stacked from below
pub packed_stacked : (edge : ℕ) (xs : List Obj) → volume xs ≤ edge → reverse (packed edge (reverse xs)) ≡ stacked (edge - volume xs) xs
unfolding packed stacked volume
packed_stacked edge [] l = refl
packed_stacked edge (x ∷ xs) l =
    let here : edge - volume xs - x.len ≡ edge - (x.len + volume xs) = omega arith in
    let next : edge - volume xs ≡ edge - (x.len + volume xs) + x.len = omega arith in
    rw (
      reverse-cons x xs,
      packed_append edge (reverse xs) (x ∷ []),
      volume_reverse xs,
      reverse-append (packed edge (reverse xs)) (placed x (edge - volume xs - x.len) ∷ []),
      packed_stacked edge xs (omega arith),
      here,
      next,
    )

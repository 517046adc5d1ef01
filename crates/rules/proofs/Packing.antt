-- Phase 2 of a flush: payload objects in falling order, packed to end at an edge that falls with them, in runs of bounded volume.
-- Between what is still to be moved, which ends at or below `top`, and the edge there are always `limit` bytes that nothing held now touches. A run
-- takes no more than these bytes from where its first object ended, so no target touches what was seen since the run began.
use mathlib.Core.Path.{◌≡◌, refl, ap}
use mathlib.Core.Logic.{◌⊎◌, inl, inr}
use mathlib.Core.List.{List, [], ◌∷◌, ◌++◌, reverse_aux}
use Prim.Native.Nat.{ℕ, ◌+◌, ◌-◌, ◌≤◌}
use native.Mathlib.Omega.{arith}
use borrow.Author.Tests.{le-leb, lt-leb}
use Rattle.rules.specs.Classes.{Obj, end_of, placed, volume}
use Rattle.rules.specs.Flush.{moved, moves, packed, by_volume, runs}
use Rattle.rules.proofs.Tables.{below_or_not}
use Rattle.rules.proofs.Lists.{All, In, in_all, all_in_lem, all_map, all_append}
use Rattle.rules.proofs.Safe.{Misses, Apart, Safe, onto, Divided, first, shift}

-- each object ends at or below the one before it, the first at or below top, the last at or above floor
abbrev pub Falling : ℕ → ℕ → List Obj → Type 0
Falling floor top [] = floor ≤ top
Falling floor top (o ∷ os) = (end_of o ≤ top) × Falling floor o.at os

falling_below : (floor top : ℕ) (os : List Obj) → Falling floor top os → (o : Obj) → In o os → end_of o ≤ top
falling_below floor top [] f o m = absurd m
falling_below floor top (x ∷ xs) f o (inl e) = rw e f.0
falling_below floor top (x ∷ xs) f o (inr m) = omega (arith, falling_below floor x.at xs f.1 o m)

-- the objects and the floor fit below top
pub falling_volume : (floor top : ℕ) (os : List Obj) → Falling floor top os → floor + volume os ≤ top
unfolding volume
falling_volume floor top [] f = omega arith
falling_volume floor top (x ∷ xs) f = omega (arith, falling_volume floor x.at xs f.1)

-- o, packed to end at edge
abbrev pub under : ℕ → Obj → Obj
under edge o = placed o (edge - o.len)

-- not empty, and not above the limit of a run
abbrev pub Sized : ℕ → Obj → Type 0
Sized limit o = (1 ≤ o.len) × (o.len ≤ limit)

module _ (limit floor : ℕ) where
  -- a run goes on: lo is where the first object of the run ended, left what the run still takes
  pub record Packing (left edge lo top : ℕ) (todo rest now seen : List Obj) : Type 0 where
    pub held : Divided todo rest now
    pub falling : Falling floor top todo
    pub sized : All (Sized limit) todo
    pub aside : (o : Obj) → In o rest → Misses floor edge o
    pub clear : All (Misses lo edge) seen
    pub room : lo + left ≤ edge
    pub slack : top + limit ≤ edge
    pub below : top ≤ lo

  module _ {left edge lo top : ℕ} {todo rest now seen : List Obj} (s : Packing left edge lo top todo rest now seen) where
    -- what is held now is clear of all bytes from top up to the edge
    clear_now : All (Misses top edge) now
    clear_now = all_in_lem (Misses top edge) now (λ o m. gap o (s.held.sorted o m))
      where
        gap : (o : Obj) → In o todo ⊎ In o rest → Misses top edge o
        gap o (inl m) x a b c d = omega (arith, falling_below floor top todo s.falling o m)
        gap o (inr m) x a b c d = s.aside o m x a b (omega (arith, falling_volume floor top todo s.falling)) d

    after_wait : Packing limit edge top top todo rest now now
    after_wait = record {
      held = s.held;
      falling = s.falling;
      sized = s.sized;
      aside = s.aside;
      clear = clear_now;
      room = s.slack;
      slack = s.slack;
      below = omega arith;
    }

  module _ {left edge lo top : ℕ} {h : Obj} {os rest now seen : List Obj} (s : Packing left edge lo top (h ∷ os) rest now seen)
      (fits : h.len ≤ left) where
    apart_now : All (Apart (under edge h)) now
    apart_now = all_map (λ o k x a b c d. k x a b (omega arith) (omega arith)) now (clear_now s)

    apart_seen : All (Apart (under edge h)) seen
    apart_seen = all_map (λ o k x a b c d. k x a b (omega arith) (omega arith)) seen s.clear

    other : (x : Obj) → In x os ⊎ In x rest → x ≡ h → ⊥
    other x (inl m) e =
        omega (arith, falling_below floor h.at os s.falling.1 x m, ap (λ (y : Obj). y.at) e, (in_all (Sized limit) os s.sized.1 x m).0)
    other x (inr m) e =
        s.aside x m h.at (omega (arith, ap (λ (y : Obj). y.at) e)) (omega (arith, ap (λ (y : Obj). end_of y) e, s.sized.0.0))
        (omega (arith, falling_volume floor h.at os s.falling.1)) (omega (arith, s.sized.0.0, s.falling.0))

    after_move : Packing (left - h.len) (edge - h.len) lo h.at os (under edge h ∷ rest) (moved (onto h (under edge h)) now) (now ++ seen)
    after_move = record {
      held = shift s.held (refl, refl) other;
      falling = s.falling.1;
      sized = s.sized.1;
      aside = λ o m. landed o m;
      clear = all_append (Misses lo (edge - h.len)) now seen
          (all_map (λ o k x a b c d. k x a b (omega arith) (omega arith)) now (clear_now s))
          (all_map (λ o k x a b c d. k x a b c (omega arith)) seen s.clear);
      room = omega arith;
      slack = omega arith;
      below = omega arith;
    }
      where
        landed : (o : Obj) → In o (under edge h ∷ rest) → Misses floor (edge - h.len) o
        landed o (inl e) x a b c d = omega (arith, ap (λ (y : Obj). y.at) e)
        landed o (inr m) x a b c d = s.aside o m x a b c (omega arith)

  module _ (Post : List Obj → List Obj → Type 0) where
    go_on : (todo : List Obj) {left edge lo top : ℕ} {rest now seen : List Obj} → Packing left edge lo top todo rest now seen
        → ((now' : List Obj) → Divided [] (reverse_aux (packed edge todo) rest) now' → Post now' now')
        → Safe (by_volume limit left (moves todo (packed edge todo))) Post now seen
    unfolding by_volume moves packed
    go_on [] {now} s next = next now s.held
    go_on (h ∷ os) {left} {edge} {lo} {top} {rest} {now} {seen} s next =
        elim (below_or_not left h.len) [
          | inl l ↦ let t =
              after_wait s in let f = s.sized.0.1 in rw lt-leb (first t.held, apart_now t f, apart_seen t f, go_on os (after_move t f) next)
          | inr f ↦ rw le-leb (first s.held, apart_now s f, apart_seen s f, go_on os (after_move s f) next)
        ]

    -- the whole phase is safe, and ends with a wait and each object at its packed place
    pub packing_safe : (todo : List Obj) → (todo ≡ [] → ⊥) → {left edge lo top : ℕ} {rest now seen : List Obj}
        → Packing left edge lo top todo rest now seen
        → ((now' : List Obj) → Divided [] (reverse_aux (packed edge todo) rest) now' → Post now' now')
        → Safe (runs (moves todo (packed edge todo)) (λ m. by_volume limit left (moves todo (packed edge todo)))) Post now seen
    unfolding moves packed
    packing_safe [] n s next = absurd (n refl)
    packing_safe (h ∷ os) n s next = go_on (h ∷ os) s next

-- Final places: they lie apart, and those of objects in class order rise.
-- The n-th object of a class goes behind the volume of those of its class before it. So within a class the places are side by side, and no class has
-- more volume than its segment takes.
use mathlib.Core.Path.{◌≡◌, refl, ap}
use mathlib.Core.Logic.{inl, inr}
use mathlib.Core.List.{List, [], ◌∷◌}
use Prim.Native.Nat.{ℕ, ◌+◌, ◌≤◌, ◌<◌}
use native.Mathlib.Omega.{arith}
use native.Mathlib.Nat.{eq-or-lt_of_le}
use borrow.Author.Tests.{eq-eqb}
use Rattle.rules.specs.House.{classes}
use Rattle.rules.specs.Classes.{Obj, cls, end_of, placed, volume_of}
use Rattle.rules.specs.Flush.{settled}
use Rattle.rules.proofs.Lists.{All, all_map}
use Rattle.rules.proofs.Tables.{trio}
use Rattle.rules.proofs.Safe.{Apart}
use Rattle.rules.proofs.Spreading.{Spread}
use Rattle.rules.proofs.Lifting.{Disjoint}

-- of a flushed class
abbrev pub Classed : ℕ → Obj → Type 0
Classed b o = (b ≤ cls o) × (cls o ≤ classes)

-- in class order, from class lo on
abbrev pub Ordered : ℕ → List Obj → Type 0
Ordered lo [] = Unit {0}
Ordered lo (o ∷ os) = (lo ≤ cls o) × Ordered (cls o) os

-- an object of class c lies in its segment from u c up to v c
abbrev pub Window : (ℕ → ℕ) → (ℕ → ℕ) → (ℕ → ℕ) → Obj → Type 0
Window home u v f = (home (cls f) + u (cls f) ≤ f.at) × (end_of f ≤ home (cls f) + v (cls f))

own : (o : Obj) (os : List Obj) → volume_of (cls o) (o ∷ os) ≡ o.len + volume_of (cls o) os
unfolding volume_of
own o os = rw (eq-eqb (cls o) (cls o) refl)

grown : (c : ℕ) (o : Obj) (os : List Obj) → volume_of c os ≤ volume_of c (o ∷ os)
unfolding volume_of
grown c o os = omega arith

-- what has been given a place, and what is still to be
abbrev pub Suffices : (ℕ → ℕ) → List Obj → List Obj → Type 0
Suffices cap before os = (c : ℕ) → volume_of c before + volume_of c os ≤ cap c

suffices_next : (cap : ℕ → ℕ) (o : Obj) (before os : List Obj) → Suffices cap before (o ∷ os) → Suffices cap (o ∷ before) os
unfolding volume_of
suffices_next cap o before os r c = omega (arith, r c)

suffices_own : (cap : ℕ → ℕ) (o : Obj) (before os : List Obj) → Suffices cap before (o ∷ os) → volume_of (cls o) (o ∷ before) ≤ cap (cls o)
suffices_own cap o before os r = omega (arith, suffices_next cap o before os r (cls o))

-- a final place lies in its segment, behind what came before
pub settled_window : (home cap : ℕ → ℕ) (before os : List Obj) → Suffices cap before os
    → All (Window home (λ c. volume_of c before) cap) (settled home before os)
unfolding settled
settled_window home cap before [] r = tt
settled_window home cap before (o ∷ os) r = (
  (omega arith, omega (arith, own o before, suffices_own cap o before os r)),
  all_map (λ f w. (omega (arith, grown (cls f) o before, w.0), w.1)) (settled home (o ∷ before) os)
      (settled_window home cap (o ∷ before) os (suffices_next cap o before os r)),
)

-- and it is of its object's class
pub settled_classed : (home : ℕ → ℕ) (b : ℕ) (before os : List Obj) → All (Classed b) os → All (Classed b) (settled home before os)
unfolding settled
settled_classed home b before [] k = tt
settled_classed home b before (o ∷ os) k = (k.0, settled_classed home b (o ∷ before) os k.1)

module _ (b : ℕ) (home cap : ℕ → ℕ) (spaced : (c d : ℕ) → b ≤ c → c < d → d ≤ classes → home c + cap c ≤ home d) where
  -- places in windows that do not meet lie apart
  pub windows_apart : (u v : ℕ → ℕ) (f g : Obj) → ((c : ℕ) → v c ≤ cap c) → Window home u v f → Window home v cap g → Classed b f
      → Classed b g → Apart g f
  windows_apart u v f g le w z k l x p q r s = elim (trio (cls f) (cls g)) [
    | inl m ↦ omega (arith, spaced (cls f) (cls g) k.0 m l.1, le (cls f), w.1, z.0)
    | inr (inl e) ↦ omega (arith, ap (λ c. home c + v c) e, w.1, z.0)
    | inr (inr m) ↦ omega (arith, spaced (cls g) (cls f) l.0 m k.1, w.0, z.1)
  ]

  -- final places miss one another
  pub settled_pairs : (before os : List Obj) → Suffices cap before os → All (Classed b) os → Disjoint (settled home before os)
  unfolding settled
  settled_pairs before [] r k = tt
  settled_pairs before (o ∷ os) r k = (
    later (settled home (o ∷ before) os) (settled_window home cap (o ∷ before) os (suffices_next cap o before os r))
        (settled_classed home b (o ∷ before) os k.1),
    settled_pairs (o ∷ before) os (suffices_next cap o before os r) k.1,
  )
    where
      first : Obj
      first = placed o (home (cls o) + volume_of (cls o) before)

      later : (gs : List Obj) → All (Window home (λ c. volume_of c (o ∷ before)) cap) gs → All (Classed b) gs → All (λ g. Apart g first) gs
      later [] w l = tt
      later (g ∷ gs) w l = (
        windows_apart (λ c. volume_of c before) (λ c. volume_of c (o ∷ before)) first g (λ c. omega (arith, suffices_next cap o before os r c))
            (omega arith, omega (arith, own o before)) w.0 k.0 l.0,
        later gs w.1 l.1,
      )

  -- final places of objects in class order rise
  pub settled_spread : (new : ℕ) → ((c : ℕ) → b ≤ c → c ≤ classes → home c + cap c ≤ new) → (before os : List Obj) (lo t : ℕ)
      → Suffices cap before os → All (Classed b) os → Ordered lo os → ((c : ℕ) → lo ≤ c → c ≤ classes → t ≤ home c + volume_of c before)
      → t ≤ new
      → Spread t new (settled home before os)
  unfolding settled
  settled_spread new end before [] lo t r k s a l = l
  settled_spread new end before (o ∷ os) lo t r k s a l = (
    a (cls o) s.0 k.0.1,
    settled_spread new end (o ∷ before) os (cls o) (home (cls o) + volume_of (cls o) before + o.len) (suffices_next cap o before os r) k.1 s.1 next
        (omega (arith, end (cls o) k.0.0 k.0.1, own o before, suffices_own cap o before os r)),
  )
    where
      next : (c : ℕ) → cls o ≤ c → c ≤ classes → home (cls o) + volume_of (cls o) before + o.len ≤ home c + volume_of c (o ∷ before)
      next c m n = elim (eq-or-lt_of_le m) [
        | inl e ↦ omega (arith, ap (λ x. home x + volume_of x (o ∷ before)) e, own o before)
        | inr i ↦ omega (arith, spaced (cls o) c k.0.0 i n, own o before, suffices_own cap o before os r)
      ]

-- Phases 1 and 4 of a flush: one run whose targets miss all that is held and seen when it begins, and one another.
-- What is seen during the run is what was seen when it began, the objects still to be moved, the rest, and the targets reached, so each later target
-- misses it too.
use mathlib.Core.Path.{◌≡◌, refl, ap}
use mathlib.Core.Logic.{◌⊎◌, inl, inr}
use mathlib.Core.List.{List, [], ◌∷◌, ◌++◌, reverse_aux}
use Prim.Native.Nat.{ℕ, ◌≤◌}
use native.Mathlib.Omega.{arith}
use Rattle.rules.specs.Classes.{Obj, end_of}
use Rattle.rules.specs.Flush.{moved, moves, one_run, runs}
use Rattle.rules.proofs.Lists.{All, Pairs, In, in_all, all_in_lem, all_map, all_append}
use Rattle.rules.proofs.Facts.{Chain}
use Rattle.rules.proofs.Safe.{Apart, Safe, Twins, onto, Divided, first, shift}

-- each target misses those before it
abbrev pub Disjoint : List Obj → Type 0
Disjoint = Pairs (λ f g. Apart g f)

-- a row that rises from lo on lies at or above it
pub chain_above : (lo : ℕ) (os : List Obj) → Chain lo os → (o : Obj) → In o os → lo ≤ o.at
chain_above lo [] c o m = absurd m
chain_above lo (x ∷ xs) c o (inl e) = rw e c.0
chain_above lo (x ∷ xs) c o (inr m) = omega (arith, chain_above (end_of x) xs c.1 o m)

-- a run goes on: the objects to be moved rise from lo on
pub record Lifting (lo : ℕ) (todo fs rest now seen : List Obj) : Type 0 where
  pub held : Divided todo rest now
  pub twins : Twins todo fs
  pub chain : Chain lo todo
  pub some : All (λ (o : Obj). 1 ≤ o.len) todo
  pub other : (x h : Obj) → In x rest → In h todo → x ≡ h → ⊥
  pub pairs : Disjoint fs
  pub free : (f o : Obj) → In f fs → In o todo ⊎ In o rest → Apart f o
  pub clear : (f : Obj) → In f fs → All (Apart f) seen

module _ {lo : ℕ} {h f : Obj} {os fs rest now seen : List Obj} (s : Lifting lo (h ∷ os) (f ∷ fs) rest now seen) where
  -- a target misses all that is held now
  apart_now : (g : Obj) → In g (f ∷ fs) → All (Apart g) now
  apart_now g m = all_in_lem (Apart g) now (λ o k. s.free g o m (s.held.sorted o k))

  others : (x : Obj) → In x os ⊎ In x rest → x ≡ h → ⊥
  others x (inl m) e = omega (arith, chain_above (end_of h) os s.chain.1 x m, ap (λ (y : Obj). y.at) e, s.some.0)
  others x (inr m) e = s.other x h m (inl refl) e

  after_move : Lifting (end_of h) os fs (f ∷ rest) (moved (onto h f) now) (now ++ seen)
  after_move = record {
    held = shift s.held s.twins.0 others;
    twins = s.twins.1;
    chain = s.chain.1;
    some = s.some.1;
    other = other;
    pairs = s.pairs.1;
    free = free;
    clear = λ g m. all_append (Apart g) now seen (apart_now g (inr m)) (s.clear g (inr m));
  }
    where
      other : (x k : Obj) → In x (f ∷ rest) → In k os → x ≡ k → ⊥
      other x k (inl e) m q =
          let p = in_all (λ (o : Obj). 1 ≤ o.len) os s.some.1 k m in
          s.free f k (inl refl) (inl (inr m)) k.at (omega arith) (omega arith)
          (omega (arith, ap (λ (y : Obj). y.at) e, ap (λ (y : Obj). y.at) q)) (omega (arith, ap (λ (y : Obj). end_of y) e, ap (λ (y : Obj). end_of y) q))
      other x k (inr n) m q = s.other x k n (inr m) q

      free : (g o : Obj) → In g fs → In o os ⊎ In o (f ∷ rest) → Apart g o
      free g o m (inl k) = s.free g o (inr m) (inl (inr k))
      free g o m (inr (inl e)) = rw e (in_all (λ y. Apart y f) fs s.pairs.0 g m)
      free g o m (inr (inr k)) = s.free g o (inr m) (inr k)

module _ (Post : List Obj → List Obj → Type 0) where
  -- the whole run is safe, and ends with a wait and each object at its target
  lifting_safe : (todo fs : List Obj) {lo : ℕ} {rest now seen : List Obj} → Lifting lo todo fs rest now seen
      → ((now' : List Obj) → Divided [] (reverse_aux fs rest) now' → Post now' now')
      → Safe (one_run (moves todo fs)) Post now seen
  unfolding one_run moves
  lifting_safe [] [] {now} s next = next now s.held
  lifting_safe [] (f ∷ fs) s next = absurd s.twins
  lifting_safe (h ∷ os) [] s next = absurd s.twins
  lifting_safe (h ∷ os) (f ∷ fs) {now} {seen} s next = (
    first s.held,
    all_map (λ o k x a b c d. k x a b c (omega (arith, s.twins.0.1))) now (apart_now s f (inl refl)),
    all_map (λ o k x a b c d. k x a b c (omega (arith, s.twins.0.1))) seen (s.clear f (inl refl)),
    lifting_safe os fs (after_move s) next,
  )

  -- the same where the run is left out if it is empty: what is known of the pages seen still is
  pub run_safe : (Seen : List Obj → Type 0) (todo fs : List Obj) {lo : ℕ} {rest now seen : List Obj} → Lifting lo todo fs rest now seen
      → (todo ≡ [] → Seen seen) → ((now' : List Obj) → Divided [] (reverse_aux fs rest) now' → Seen now')
      → ((now' seen' : List Obj) → Divided [] (reverse_aux fs rest) now' → Seen seen' → Post now' seen')
      → Safe (runs (moves todo fs) (λ m. one_run (moves todo fs))) Post now seen
  unfolding moves
  run_safe Seen [] [] {now} {seen} s k l next = next now seen s.held (k refl)
  run_safe Seen [] (f ∷ fs) s k l next = absurd s.twins
  run_safe Seen (h ∷ os) [] s k l next = absurd s.twins
  run_safe Seen (h ∷ os) (f ∷ fs) s k l next = lifting_safe (h ∷ os) (f ∷ fs) s (λ n e. next n n e (l n e))

-- A plan as it is played. What is ahead after n moves is itself played on, so the next move is the first one ahead, behind a wait or not.
use mathlib.Core.Path.{◌≡◌, refl, sym, ap, ◌∙◌}
use mathlib.Core.Logic.{◌⊎◌, inl, inr}
use mathlib.Core.Bool.{true, false, cond}
use mathlib.Core.List.{List, [], ◌∷◌, ◌++◌, map}
use Prim.Native.Nat.{ℕ, zero, suc, ◌+◌, ◌-◌, ◌≤◌}
use native.Mathlib.Omega.{arith}
use native.Mathlib.Nat.{zero-add, suc-add}
use lib.Dec.{eqb}
use Rattle.rules.specs.Classes.{Obj, placed}
use Rattle.rules.specs.Flush.{Act, Move, move, wait, moved, played, ahead}

-- the number of moves
unfoldable pub moves_left : List Act → ℕ
moves_left [] = 0
moves_left (wait ∷ acts) = moves_left acts
moves_left (move m ∷ acts) = suc (moves_left acts)

-- what is ahead is played on by itself
pub ahead_on : (acts : List Act) (n k : ℕ) → ahead acts (n + k) ≡ ahead (ahead acts n) k
unfolding ahead
ahead_on acts zero k = rw (zero-add k)
ahead_on [] (suc n) zero = rw (suc-add n 0)
ahead_on [] (suc n) (suc k) = rw (suc-add n (suc k))
ahead_on (wait ∷ acts) (suc n) k = rw (suc-add n k) (rw (suc-add n k) at (ahead_on acts (suc n) k))
ahead_on (move m ∷ acts) (suc n) k = rw (suc-add n k) (ahead_on acts n k)

pub played_on : (acts : List Act) (n k : ℕ) (os : List Obj) → played acts (n + k) os ≡ played (ahead acts n) k (played acts n os)
unfolding ahead played
played_on acts zero k os = rw (zero-add k)
played_on [] (suc n) zero os = rw (suc-add n 0)
played_on [] (suc n) (suc k) os = rw (suc-add n (suc k))
played_on (wait ∷ acts) (suc n) k os = rw (suc-add n k) (rw (suc-add n k) at (played_on acts (suc n) k os))
played_on (move m ∷ acts) (suc n) k os = rw (suc-add n k) (played_on acts n k (moved m os))

-- each move made is one less ahead
pub moves_ahead : (acts : List Act) (n : ℕ) → moves_left (ahead acts n) ≡ moves_left acts - n
unfolding ahead moves_left
moves_ahead acts zero = omega arith
moves_ahead [] (suc n) = omega arith
moves_ahead (wait ∷ acts) (suc n) = moves_ahead acts (suc n)
moves_ahead (move m ∷ acts) (suc n) = omega (arith, moves_ahead acts n)

-- where something is ahead, no more than all moves are made
pub made_most : (acts : List Act) (n : ℕ) (a : Act) (rest : List Act) → ahead acts n ≡ a ∷ rest → n ≤ moves_left acts
unfolding ahead moves_left
made_most acts zero a rest e = omega arith
made_most [] (suc n) a rest e = let z : ◌≡◌ {A = ℕ} 0 1 = cc in absurd (omega arith)
made_most (wait ∷ acts) (suc n) a rest e = made_most acts (suc n) a rest e
made_most (move m ∷ acts) (suc n) a rest e = omega (arith, made_most acts n a rest e)

-- m is the first move of a plan, at its front or behind one wait, and `rest` is behind it
abbrev pub Next : List Act → Move → List Act → Type 0
Next acts m rest = (acts ≡ move m ∷ rest) ⊎ (acts ≡ wait ∷ move m ∷ rest)

module _ (acts : List Act) (n : ℕ) (m : Move) (rest : List Act) where
  one_more : suc n ≡ n + 1
  one_more = omega arith

  -- after the next move the rest is ahead
  pub next_ahead : Next (ahead acts n) m rest → ahead acts (suc n) ≡ rest
  unfolding ahead
  next_ahead h = ap (ahead acts) one_more ∙ ahead_on acts n 1 ∙ first h
    where
      first : Next (ahead acts n) m rest → ahead (ahead acts n) 1 ≡ rest
      first (inl e) = ap (λ xs. ahead xs 1) e
      first (inr e) = ap (λ xs. ahead xs 1) e

  -- and the objects lie as that move leaves them
  pub next_played : Next (ahead acts n) m rest → (os : List Obj) → played acts (suc n) os ≡ moved m (played acts n os)
  unfolding played
  next_played h os = ap (λ k. played acts k os) one_more ∙ played_on acts n 1 os ∙ first h
    where
      first : Next (ahead acts n) m rest → played (ahead acts n) 1 (played acts n os) ≡ moved m (played acts n os)
      first (inl e) = ap (λ xs. played xs 1 (played acts n os)) e
      first (inr e) = ap (λ xs. played xs 1 (played acts n os)) e

-- the moves of a plan
unfoldable pub moves_of : List Act → List Move
moves_of [] = []
moves_of (wait ∷ acts) = moves_of acts
moves_of (move m ∷ acts) = m ∷ moves_of acts

-- an object after one move: it lies at the target, if it has the name
abbrev sent_by : Move → Obj → Obj
sent_by m o = cond (eqb o.name m.object.name) (placed o m.to) o

-- an object after moves
unfoldable pub sent : List Move → Obj → Obj
sent [] o = o
sent (m ∷ ms) o = sent ms (sent_by m o)

pub sent_append : (xs ys : List Move) (o : Obj) → sent (xs ++ ys) o ≡ sent ys (sent xs o)
unfolding sent
sent_append [] ys o = refl
sent_append (m ∷ xs) ys o = sent_append xs ys (sent_by m o)

-- its name and its length are kept
pub sent_kind : (ms : List Move) (o : Obj) → ((sent ms o).name ≡ o.name) × ((sent ms o).len ≡ o.len)
unfolding sent
sent_kind [] o = (refl, refl)
sent_kind (m ∷ ms) o = elim (eqb o.name m.object.name) as (λ b.
    ((sent ms (cond b (placed o m.to) o)).name ≡ o.name) × ((sent ms (cond b (placed o m.to) o)).len ≡ o.len)) [
      | true ↦ sent_kind ms (placed o m.to)
      | false ↦ sent_kind ms o
    ]

played_wait : (acts : List Act) (n : ℕ) (os : List Obj) → played (wait ∷ acts) n os ≡ played acts n os
unfolding played
played_wait acts zero os = refl
played_wait acts (suc n) os = refl

map_moved : (f : Obj → Obj) (m : Move) (os : List Obj) → map f (moved m os) ≡ map (λ o. f (sent_by m o)) os
unfolding moved
map_moved f m [] = refl
map_moved f m (o ∷ os) = ap (λ xs. f (sent_by m o) ∷ xs) (map_moved f m os)

map_id : (os : List Obj) → map (λ o. o) os ≡ os
map_id [] = refl
map_id (o ∷ os) = ap (λ xs. o ∷ xs) (map_id os)

-- a whole plan sends each object by all its moves
pub played_sent : (acts : List Act) (os : List Obj) → played acts (moves_left acts) os ≡ map (sent (moves_of acts)) os
unfolding played moves_left moves_of sent
played_sent [] os = sym (map_id os)
played_sent (wait ∷ acts) os = played_wait acts (moves_left acts) os ∙ played_sent acts os
played_sent (move m ∷ acts) os = played_sent acts (moved m os) ∙ map_moved (sent (moves_of acts)) m os

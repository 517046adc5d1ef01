-- After the whole plan. Moves set places by name, so each object lies where the last move of its name put it: phases 3 and 4 move every name that
-- phases 1 and 2 move, each once, to its final place, and no other name is moved.
use mathlib.Core.Path.{◌≡◌, refl, sym, ap, subst, ◌∙◌}
use mathlib.Core.Logic.{◌⊎◌, inl, inr}
use mathlib.Core.Bool.{true, false, cond, not, ◌&&◌}
use mathlib.Core.List.{List, [], ◌∷◌, ◌++◌, map, reverse}
use Prim.Native.Nat.{ℕ, zero, suc}
use native.Mathlib.Omega.{arith}
use lib.Dec.{eqb}
use borrow.Author.Tests.{eq-eqb, ne_eqb, not-true}
use Rattle.rules.specs.Classes.{Obj, placed}
use Rattle.rules.specs.Regions.{start_of}
use Rattle.rules.specs.Flush.{Start, live, rebound, overflow_start, in_flush, in_payload, payloads, buffered, overflow, stacked, packed, finals, Move}
use Rattle.rules.specs.Flush.{Act, move, wait, moves, lifting, packing, spreading, settling, plan, moved, played}
use Rattle.rules.proofs.Lists.{clash, and_true, In, in_all, all_in_lem, all_append, all_left, all_right}
use Rattle.rules.proofs.Facts.{Distinct}
use Rattle.rules.proofs.Insertion.{filter_distinct}
use Rattle.rules.proofs.Plays.{moves_left, moves_of, sent, sent_append, sent_kind, played_sent}
use Rattle.rules.proofs.Counts.{plan_moves}
use Rattle.rules.proofs.Names.{kinds, Off, kinds_moved, kinds_stacked, kinds_settled, kinds_append, kinds_turned, all_reverse, off_kinds, twin}
use Rattle.rules.proofs.Names.{distinct_kinds, search_name, unique, in_left, in_right, in_either, filter_in, distinct_left, distinct_right}
use Rattle.rules.proofs.Names.{distinct_apart, distinct_append, map_same, in_map}

-- names and lengths stay, in order, after any number of moves
pub played_kinds : (acts : List Act) (n : ℕ) (os : List Obj) → kinds (played acts n os) ≡ kinds os
unfolding played
played_kinds acts zero os = refl
played_kinds [] (suc n) os = refl
played_kinds (wait ∷ acts) (suc n) os = played_kinds acts (suc n) os
played_kinds (move m ∷ acts) (suc n) os = played_kinds acts n (moved m os) ∙ kinds_moved m os

-- one move, of this name or of another
first_hit : (m : Move) (ms : List Move) (o : Obj) → o.name ≡ m.object.name → sent (m ∷ ms) o ≡ sent ms (placed o m.to)
unfolding sent
first_hit m ms o e = ap (λ b. sent ms (cond b (placed o m.to) o)) (eq-eqb o.name m.object.name e)

first_off : (m : Move) (ms : List Move) (o : Obj) → (o.name ≡ m.object.name → ⊥) → sent (m ∷ ms) o ≡ sent ms o
unfolding sent
first_off m ms o n = ap (λ b. sent ms (cond b (placed o m.to) o)) (ne_eqb o.name m.object.name n)

-- moves of other names leave an object alone
sent_off : (o : Obj) (xs ys : List Obj) → Off o.name xs → sent (moves xs ys) o ≡ o
unfolding sent moves
sent_off o [] ys h = refl
sent_off o (x ∷ xs) [] h = refl
sent_off o (x ∷ xs) (y ∷ ys) h = first_off (record { object = x; to = y.at }) (moves xs ys) o (λ e. h.0 (sym e)) ∙ sent_off o xs ys h.1

-- an object of the name and length of y lies where y lies
at_place : (o y : Obj) → o.name ≡ y.name → o.len ≡ y.len → placed o y.at ≡ y
at_place o y n l = rw (n, l)

-- a phase brings the object of a name to its place
sent_hit : (o y : Obj) → o.name ≡ y.name → o.len ≡ y.len → (xs ys : List Obj) → kinds ys ≡ kinds xs → Distinct ys → In y ys
    → sent (moves xs ys) o ≡ y
unfolding moves
sent_hit o y n l (x ∷ xs) [] k d m = elim m [ ]
sent_hit o y n l [] [] k d m = elim m [ ]
sent_hit o y n l [] (z ∷ ys) k d m = let c : ◌≡◌ {A = ℕ} 0 1 = cc in absurd (omega arith)
sent_hit o y n l (x ∷ xs) (z ∷ ys) k d (inl e) =
    let h : placed z 0 ≡ placed x 0 = cc in
    let t : kinds ys ≡ kinds xs = cc in
    let a : z.name ≡ o.name = ap (λ w. w.name) (sym e) ∙ sym n in
    first_hit (record { object = x; to = z.at }) (moves xs ys) o (sym a ∙ ap (λ w. w.name) h)
    ∙ sent_off (placed o z.at) xs ys (off_kinds o.name ys xs t (rw (← a) d.0))
    ∙ ap (placed o) (ap (λ w. w.at) (sym e))
    ∙ at_place o y n l
sent_hit o y n l (x ∷ xs) (z ∷ ys) k d (inr i) =
    let h : placed z 0 ≡ placed x 0 = cc in
    let t : kinds ys ≡ kinds xs = cc in
    let p : z.name ≡ x.name = ap (λ w. w.name) h in
    first_off (record { object = x; to = z.at }) (moves xs ys) o (λ a. in_all (λ w. w.name ≡ z.name → ⊥) ys d.0 y i (sym n ∙ a ∙ sym p))
    ∙ sent_hit o y n l xs ys t d.1 i

-- the entry of an object's name, or else the object itself
unfoldable pub entry_for : List Obj → Obj → Obj
entry_for [] o = o
entry_for (f ∷ fs) o = let later = entry_for fs o in cond (eqb o.name f.name) f later

-- objects, each replaced by the entry of its name, if there is one
abbrev pub relocated : List Obj → List Obj → List Obj
relocated fs os = map (entry_for fs) os

entry_off : (o : Obj) (fs : List Obj) → Off o.name fs → entry_for fs o ≡ o
unfolding entry_for
entry_off o [] h = refl
entry_off o (f ∷ fs) h = rw (ne_eqb o.name f.name (λ e. h.0 (sym e))) (entry_off o fs h.1)

entry_hit : (o y : Obj) → o.name ≡ y.name → (fs : List Obj) → Distinct fs → In y fs → entry_for fs o ≡ y
unfolding entry_for
entry_hit o y n [] d x'' = elim x'' [ ]
entry_hit o y n (f ∷ fs) d (inl e) = rw (eq-eqb o.name f.name (n ∙ ap (λ w. w.name) e)) (sym e)
entry_hit o y n (f ∷ fs) d (inr i) =
    rw (ne_eqb o.name f.name (λ a. in_all (λ w. w.name ≡ f.name → ⊥) fs d.0 y i (sym n ∙ a))) (entry_hit o y n fs d.1 i)

-- the final places of payload objects, in old order
abbrev pub payload_finals : ℕ → Start → List Obj
payload_finals q s = finals q s [] (payloads q s)

-- and, behind those, of overflow objects
abbrev pub overflow_finals : ℕ → Start → List Obj
overflow_finals q s = finals q s (payloads q s) (overflow q s)

-- all of them
abbrev pub final_places : ℕ → Start → List Obj
final_places q s = payload_finals q s ++ overflow_finals q s

-- payload objects as phase 2 leaves them, in rising order
abbrev tight : ℕ → Start → List Obj
tight q s = reverse (packed (overflow_start q s) (reverse (payloads q s)))

-- overflow objects in overflow
abbrev in_overflow : ℕ → Start → List Obj
in_overflow q s = stacked (overflow_start q s) (overflow q s)

module _ (q : ℕ) (s : Start) where
  -- what a plan moves: objects from payloads, objects from buffers, and the new one
  payload_in : (o : Obj) → In o (payloads q s) → In o s.old × (in_flush q s o ≡ true) × (in_payload q s.regions o ≡ true)
  unfolding payloads
  payload_in o m =
      let h = filter_in (λ x. in_flush q s x && in_payload q s.regions x) s.old o m in
      let t = and_true (in_flush q s o) (in_payload q s.regions o) h.1 in
      (h.0, t.0, t.1)

  buffered_in : (o : Obj) → In o (buffered q s) → In o s.old × (in_flush q s o ≡ true) × (in_payload q s.regions o ≡ false)
  unfolding buffered
  buffered_in o m =
      let h = filter_in (λ x. in_flush q s x && not (in_payload q s.regions x)) s.old o m in
      let t = and_true (in_flush q s o) (not (in_payload q s.regions o)) h.1 in
      (h.0, t.0, not-true (in_payload q s.regions o) t.1)

  mover_in : (o : Obj) → In o (payloads q s ++ overflow q s) → (In o s.old × (in_flush q s o ≡ true)) ⊎ In o s.new
  mover_in o m = elim (in_either o (payloads q s) (overflow q s) m) [
    | inl k ↦ let h = payload_in o k in inl (h.0, h.1)
    | inr k ↦ elim (in_either o (buffered q s) s.new k) [
      | inl b ↦ let h = buffered_in o b in inl (h.0, h.1)
      | inr n ↦ inr n
    ]
  ]

  mover_live : (o : Obj) → In o (payloads q s ++ overflow q s) → In o (live s)
  mover_live o m = elim (mover_in o m) [
    | inl k ↦ in_left o s.old s.new k.0
    | inr k ↦ in_right o s.old s.new k
  ]

  kinds_finals : kinds (final_places q s) ≡ kinds (payloads q s ++ overflow q s)
  kinds_finals = simp (kinds_append, kinds_settled)

  kinds_tight : kinds (payload_finals q s) ≡ kinds (tight q s)
  kinds_tight = kinds_settled (start_of q (rebound s).sizes) [] (payloads q s) ∙ sym (kinds_turned (overflow_start q s) (payloads q s))

  kinds_in_overflow : kinds (overflow_finals q s) ≡ kinds (in_overflow q s)
  kinds_in_overflow = kinds_settled (start_of q (rebound s).sizes) (payloads q s) (overflow q s) ∙ sym (kinds_stacked (overflow_start q s) (overflow q s))

  module _ (d : Distinct (live s)) where
    parted : (o : Obj) → In o (payloads q s) → Off o.name (buffered q s)
    parted o m = all_in_lem (λ x. x.name ≡ o.name → ⊥) (buffered q s) (λ x k e.
        let p = payload_in o m in
        let b = buffered_in x k in
        clash p.2 (rw (unique s.old (distinct_left s.old s.new d) x o b.0 p.0 e) at b.2))

    distinct_movers : Distinct (payloads q s ++ overflow q s)
    unfolding payloads buffered
    distinct_movers =
        let old = distinct_left s.old s.new d in
        distinct_append (payloads q s) (overflow q s) (filter_distinct (λ x. in_flush q s x && in_payload q s.regions x) s.old old)
        (distinct_append (buffered q s) s.new (filter_distinct (λ x. in_flush q s x && not (in_payload q s.regions x)) s.old old)
        (distinct_right s.old s.new d) (λ o m. distinct_apart s.old s.new d o (buffered_in o m).0))
        (λ o m. all_append (λ x. x.name ≡ o.name → ⊥) (buffered q s) s.new (parted o m) (distinct_apart s.old s.new d o (payload_in o m).0))

    distinct_finals : Distinct (final_places q s)
    distinct_finals = distinct_kinds (payloads q s ++ overflow q s) (final_places q s) (sym kinds_finals) distinct_movers

    -- a live object's final place, if it has one, is for its length
    own_length : (o y : Obj) → In o (live s) → In y (final_places q s) → y.name ≡ o.name → o.len ≡ y.len
    own_length o y m k e =
        let t = twin (payloads q s ++ overflow q s) (final_places q s) (sym kinds_finals) y k in
        ap (λ x. x.len) (unique (live s) d o t.0 m (mover_live t.0 t.1) (sym e ∙ sym t.2)) ∙ t.3

    -- whatever phases 1 and 2 did with it, an object comes to its final place
    comes_home : (o y : Obj) → o.name ≡ y.name → o.len ≡ y.len → In y (payload_finals q s) ⊎ In y (overflow_finals q s)
        → sent (settling q s) (sent (spreading q s) o) ≡ y
    comes_home o y n l (inl m) =
        ap (sent (settling q s)) (sent_hit o y n l (tight q s) (payload_finals q s) kinds_tight
        (distinct_left (payload_finals q s) (overflow_finals q s) distinct_finals) m)
        ∙ sent_off y (in_overflow q s) (overflow_finals q s)
        (off_kinds y.name (overflow_finals q s) (in_overflow q s) kinds_in_overflow
        (distinct_apart (payload_finals q s) (overflow_finals q s) distinct_finals y m))
    comes_home o y n l (inr m) =
        let k = sent_kind (spreading q s) o in
        sent_hit (sent (spreading q s) o) y (k.0 ∙ n) (k.1 ∙ l) (in_overflow q s) (overflow_finals q s) kinds_in_overflow
        (distinct_right (payload_finals q s) (overflow_finals q s) distinct_finals) m

    -- an object whose name has no final place is never moved
    stays : (o : Obj) → Off o.name (final_places q s) → sent (settling q s) (sent (spreading q s) (sent (packing q s) (sent (lifting q s) o))) ≡ o
    stays o h =
        let off : Obj → Type 0 = λ x. x.name ≡ o.name → ⊥ in
        let all = off_kinds o.name (final_places q s) (payloads q s ++ overflow q s) kinds_finals h in
        let paid = all_left off (payloads q s) (overflow q s) all in
        let flown = all_right off (payloads q s) (overflow q s) all in
        let a : sent (lifting q s) o ≡ o = sent_off o (buffered q s) _ (all_left off (buffered q s) s.new flown) in
        let b : sent (packing q s) o ≡ o = sent_off o (reverse (payloads q s)) _ (all_reverse off (payloads q s) [] paid tt) in
        let c : sent (spreading q s) o ≡ o = sent_off o (tight q s) _
        (off_kinds o.name (payload_finals q s) (tight q s) kinds_tight (all_left off (payload_finals q s) (overflow_finals q s) h)) in
        let e : sent (settling q s) o ≡ o = sent_off o (in_overflow q s) _
        (off_kinds o.name (overflow_finals q s) (in_overflow q s) kinds_in_overflow (all_right off (payload_finals q s) (overflow_finals q s) h)) in
        rw (a, b, c, e)

    -- so all moves together bring a live object to its final place, if it has one
    lands : (o : Obj) → In o (live s) → sent (moves_of (plan q s)) o ≡ entry_for (final_places q s) o
    lands o m =
        rw (
          plan_moves q s,
          sent_append (lifting q s) (packing q s ++ (spreading q s ++ settling q s)) o,
          sent_append (packing q s) (spreading q s ++ settling q s) (sent (lifting q s) o),
          sent_append (spreading q s) (settling q s) (sent (packing q s) (sent (lifting q s) o)),
        )
        (elim (search_name o.name (final_places q s)) [
          | inr h ↦ stays o h ∙ sym (entry_off o (final_places q s) h)
          | inl k ↦
              let a = sent_kind (lifting q s) o in
              let b = sent_kind (packing q s) (sent (lifting q s) o) in
              comes_home (sent (packing q s) (sent (lifting q s) o)) k.0 (b.0 ∙ a.0 ∙ sym k.2)
              (b.1 ∙ a.1 ∙ own_length o k.0 m k.1 k.2)
              (in_either k.0 (payload_finals q s) (overflow_finals q s) k.1)
              ∙ sym (entry_hit o k.0 (sym k.2) (final_places q s) distinct_finals k.1)
        ])

    -- after the whole plan each object of the flush lies at its final place, and every other one where it lay
    pub plan_ends : played (plan q s) (moves_left (plan q s)) (live s) ≡ relocated (final_places q s) (live s)
    plan_ends = played_sent (plan q s) (live s) ∙ map_same (sent (moves_of (plan q s))) (entry_for (final_places q s)) (live s) lands

    -- at each final place lies its object
    pub finals_taken : (y : Obj) → In y (final_places q s) → In y (played (plan q s) (moves_left (plan q s)) (live s))
    finals_taken y m =
        let t = twin (payloads q s ++ overflow q s) (final_places q s) (sym kinds_finals) y m in
        let e : entry_for (final_places q s) t.0 ≡ y = entry_hit t.0 y t.2 (final_places q s) distinct_finals m in
        rw plan_ends (subst (λ x. In x (relocated (final_places q s) (live s))) e
        (in_map (entry_for (final_places q s)) t.0 (live s) (mover_live t.0 t.1)))

    -- an object below the flushed regions lies where it lay
    pub others_stay : (o : Obj) → In o s.old → in_flush q s o ≡ false → In o (played (plan q s) (moves_left (plan q s)) (live s))
    others_stay o m h =
        let e : entry_for (final_places q s) o ≡ o = entry_off o (final_places q s)
        (off_kinds o.name (payloads q s ++ overflow q s) (final_places q s) (sym kinds_finals) off) in
        rw plan_ends (subst (λ x. In x (relocated (final_places q s) (live s))) e
        (in_map (entry_for (final_places q s)) o (live s) (in_left o s.old s.new m)))
      where
        off : Off o.name (payloads q s ++ overflow q s)
        off = all_in_lem (λ x. x.name ≡ o.name → ⊥) (payloads q s ++ overflow q s) (λ x k e. elim (mover_in x k) [
          | inl p ↦ clash p.1 (rw (← unique s.old (distinct_left s.old s.new d) x o p.0 m e) at h)
          | inr n ↦ in_all (λ w. w.name ≡ o.name → ⊥) s.new (distinct_apart s.old s.new d o m) x n e
        ])

-- What a query tells: the refusal where its answer is one, else what was asked for; and what an accepted answer says of the store and the name.
use Rattle.std.specs.Prelude.{Ok, Err}
use mathlib.Core.Path.{◌≡◌, refl, sym, ap, ◌∙◌}
use mathlib.Core.Bool.{Bool, true, false, cond, not}
use mathlib.Core.List.{List, [], ◌∷◌, ◌++◌}
use Prim.Native.Nat.{ℕ, ◌+◌, ◌-◌, ◌<◌}
use native.Mathlib.Omega.{arith}
use lib.ListN.{length, take, drop}
use lib.Dec.{eqb}
use Rattle.rules.specs.House.{share, quota_of}
use Rattle.rules.specs.Classes.{Obj, volume, filter}
use Rattle.rules.specs.Stores.{Store, footprint_at, held_by, list_now}
use Rattle.rules.specs.Sound.{sound}
use Rattle.rules.specs.Answers.{Test, first, accepted}
use Rattle.rules.specs.Calls.{test, held, named, due_in, store_tests, name_tests, ask_answer, find_answer}
use Rattle.rules.specs.Calls.{read_answer, read_of, footprint_of, volume_held, is_due}
use Rattle.rules.specs.declared.Answer.{Answer}
use Rattle.rules.specs.declared.Answer.TheVariants.{Done, NameZero, NotHeld}
use Rattle.rules.proofs.Lists.{clash}
use Rattle.rules.proofs.Refusals.{Refusals, accepted_done}
use Rattle.maps.specs.Finding.{held_as, seek}
use Rattle.edits.specs.Edits.{object}
use Rattle.state.specs.declared.State.{State}
use Rattle.state.specs.Model.{model_of}
use Rattle.asking.specs.Lent.{read_from}
use Rattle.refusals.proofs.Known.{area_is, volume_most}
use Rattle.refusals.specs.Tests.{passed}
use Rattle.refusals.proofs.Firsts.{store_passed, is_done, is_refusal, refused}

-- the answers of the queries, as their tests
pub asks : (m : Store) → first (store_tests m m.area) ≡ ask_answer m
unfolding ask_answer
asks m = refl

pub finds : (s : State) (n : ℕ) → first (store_tests (model_of s) s.area ++ name_tests (model_of s) n) ≡ find_answer (model_of s) n
unfolding find_answer
finds s n = ap (λ (a : ℕ). first (store_tests (model_of s) a ++ name_tests (model_of s) n)) (sym (area_is s))

pub reads : (m : Store) (lent n : ℕ) → first (store_tests m lent ++ name_tests m n) ≡ read_answer m lent n
unfolding read_answer
reads m lent n = refl

-- tests that let a call pass accept it
pub allows : (s : State) {t : State} {a b : Answer} → a ≡ b → Ok t ≡ passed s a → accepted b ≡ true
allows s eb e = ap accepted (sym eb ∙ is_done s e)

-- the refusal of tests that each refuse is told
pub told_refusal : {A : Type 0} (s : State) (ts : List Test) → Refusals ts → {a b : Answer} → first ts ≡ b → Err a ≡ passed s (first ts)
    → (f : Answer → A) (x : A) → f a ≡ cond (accepted b) x (f b)
told_refusal s ts r {a} {b} eb e f x =
    ap f (is_refusal s e ∙ eb) ∙ ap (λ t. cond t x (f b)) (sym (ap accepted (sym eb) ∙ refused s ts r e))

-- what was asked for is told
pub told_asked : {A : Type 0} {t : Bool} (x y : A) → t ≡ true → x ≡ cond t x y
told_asked x y e = ap (λ b. cond b x y) (sym e)

module _ (m : Store) (ok : accepted (ask_answer m) ≡ true) where
  pub ask_sound : sound share m ≡ true
  ask_sound = (store_passed m m.area (ap accepted (asks m) ∙ ok)).is_sound

  pub footprint_told : footprint_at share m m.stage ≡ footprint_of m
  unfolding footprint_of
  footprint_told = told_asked _ _ ok

  pub volume_told : volume (held_by m) ≡ volume_held m
  unfolding volume_held
  volume_told = told_asked _ _ ok

  pub due_told : due_in m.stage ≡ is_due m
  unfolding is_due
  due_told = rw ok

-- a sound value's volume fits a number of 32 bits, since the quota is below the area
pub volume_fits : (s : State) → sound share (model_of s) ≡ true → s.area < 4294967296 → volume (held_by (model_of s)) < 4294967296
unfolding quota_of
volume_fits s ok low = omega (arith, volume_most s ok)

-- a name that passes its tests is held
name_held : (z h : Bool) → accepted (first (test z NameZero ∷ test (not h) NotHeld ∷ [])) ≡ true → h ≡ true
unfolding first
name_held true h e = absurd (clash e refl)
name_held false true e = refl
name_held false false e = absurd (clash e refl)

-- tests that pass with others behind them pass alone
front_done : (xs ts : List Test) → first (xs ++ ts) ≡ Done → first xs ≡ Done
unfolding first
front_done [] ts e = refl
front_done (t ∷ xs) ts e = (elim t.applies as (λ b. cond b t.gives (first (xs ++ ts)) ≡ Done → cond b t.gives (first xs) ≡ Done) [
  | true ↦ λ q. q
  | false ↦ λ q. front_done xs ts q
]) e

-- what is known once the tests of the store and of a name are passed
pub record Asked (m : Store) (lent n : ℕ) : Type 0 where
  pub is_sound : sound share m ≡ true
  pub own : lent ≡ m.area
  pub has : held m n ≡ true

pub asked : (m : Store) (lent n : ℕ) → accepted (first (store_tests m lent ++ name_tests m n)) ≡ true → Asked m lent n
asked m lent n e =
    let d = accepted_done (store_tests m lent ++ name_tests m n) (refl, (refl, (refl, (refl, tt)))) e in
    let p = store_passed m lent (ap accepted (front_done (store_tests m lent) (name_tests m n) d)) in
    record { is_sound = p.is_sound; own = p.own; has = name_held (eqb n 0) (held m n) (ap accepted (p.later (name_tests m n)) ∙ e) }

-- the object of a name is the one that is sought
pub named_sought : (n : ℕ) (os : List Obj) (o : Obj) → named n os ≡ o ∷ [] → seek os n ≡ held_as o
unfolding named filter seek
named_sought n [] o e = absurd (let z : ◌≡◌ {A = ℕ} 0 1 = cc in omega arith)
named_sought n (p ∷ ps) o e = (elim (eqb p.name n) as
    (λ b. cond b (p ∷ named n ps) (named n ps) ≡ o ∷ [] → cond b (held_as p) (seek ps n) ≡ held_as o) [
      | true ↦ λ q. let z : p ≡ o = cc in ap held_as z
      | false ↦ λ q. named_sought n ps o q
    ]) e

-- the object's part of the area is what is read
pub part_read : (m : Store) (area blank : List ℕ) (n at len : ℕ) → accepted (read_answer m (length area) n) ≡ true
    → named n (list_now share m) ≡ object n at len ∷ []
    → take (at + len - at) (drop at area) ≡ read_of m area blank n
unfolding read_of
part_read m area blank n at len ok e = let k : at + len - at ≡ len = omega arith in rw (k, ok, e)

-- and it starts at the object's place
pub part_starts : (m : Store) (lent : ℕ) (area blank : ℕ × ℕ) (n at len : ℕ) → accepted (read_answer m lent n) ≡ true
    → named n (list_now share m) ≡ object n at len ∷ []
    → (area.0, at + area.1) ≡ read_from m lent area blank n
unfolding read_from
part_starts m lent area blank n at len ok e = rw (ok, e) (ap (λ (x : ℕ). (area.0, x)) (omega arith))

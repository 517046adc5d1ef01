-- What a write and a cut leave of an area: a page that the write misses lies as it did, the bytes written lie at their place, and a whole write is
-- one of its cuts.
use mathlib.Core.Path.{◌≡◌, refl, sym, ap, ◌∙◌, subst}
use mathlib.Core.Bool.{true, false}
use mathlib.Core.List.{List, [], ◌∷◌, ◌++◌, append_assoc}
use Prim.Native.Nat.{ℕ, ◌+◌, ◌-◌, ◌≤◌, ◌<◌}
use native.Mathlib.Omega.{arith}
use native.Mathlib.Nat.{min-le_left}
use lib.ListN.{length, get_or, take, drop, length-take, length-drop, length-append, take-append-drop, get_or-append}
use lib.Seq.{length-take-le, take_all, take_at, drop_at, get_or-take, get_or-drop, get_or-append-add, drop-append-le, take-take, ext_get_or}
use lib.Dec.{ltb}
use borrow.Author.Tests.{ltb-true, ltb-false}
use Rattle.rules.specs.Classes.{Obj}
use Rattle.rules.specs.Calls.{Write, written}
use Rattle.rules.specs.History.{Cut, Page, LiesIn, Every}
use Rattle.rules.proofs.Safe.{Misses}
use Rattle.rules.proofs.Writes.{EndsIn}

-- the bytes at an object's place
abbrev pub bytes_at : List ℕ → Obj → List ℕ
bytes_at area o = take o.len (drop o.at area)

-- no byte of the object is written
abbrev pub Spared : Write → Obj → Type 0
Spared w o = Misses w.at (w.at + length w.bytes) o

-- lengths of parts go by the length of the whole
same_length : (at len : ℕ) (xs ys : List ℕ) → length xs ≡ length ys → length (take len (drop at xs)) ≡ length (take len (drop at ys))
same_length at len xs ys e = rw (length-take len (drop at xs), length-take len (drop at ys), length-drop at xs, length-drop at ys, e)

-- WHATEVER A CUT LEAVES, an object that the write spares lies as it did
pub cut_spares : (area : List ℕ) (w : Write) (cut : List ℕ) (o : Obj) → Cut area w cut → Spared w o → bytes_at cut o ≡ bytes_at area o
cut_spares area w cut o c miss = ext_get_or 0 (bytes_at cut o) (bytes_at area o) (same_length o.at o.len cut area c.as_long) (λ i l.
    let short : i < o.len = omega (arith, length-take o.len (drop o.at cut), min-le_left o.len (length (drop o.at cut))) in
    at cut i short ∙ c.outside (o.at + i) (λ a b. miss (o.at + i) (omega arith) (omega arith) (omega arith) (omega arith)) ∙ sym (at area i short))
  where
    at : (xs : List ℕ) (i : ℕ) → i < o.len → get_or (bytes_at xs o) i 0 ≡ get_or xs (o.at + i) 0
    at xs i l = get_or-take o.len (drop o.at xs) i 0 l ∙ get_or-drop o.at xs i 0

-- and so does a page
pub pages_stay : (area : List ℕ) (w : Write) (cut : List ℕ) (ps : List Page) → Cut area w cut → Every (λ p. Spared w p.object) ps
    → Every (LiesIn area) ps → Every (LiesIn cut) ps
pages_stay area w cut [] c miss lie = tt
pages_stay area w cut (p ∷ ps) c miss lie = (
  (omega (arith, c.as_long, lie.0.0), cut_spares area w cut p.object c miss.0 ∙ lie.0.1),
  pages_stay area w cut ps c miss.1 lie.1,
)

module _ (area : List ℕ) (w : Write) (fits : EndsIn (length area) w) where
  front : length (take w.at area) ≡ w.at
  front = length-take-le w.at area (omega arith)

  -- THE BYTES WRITTEN lie at their place
  pub written_there : take (length w.bytes) (drop w.at (written area w)) ≡ w.bytes
  written_there =
      ap (take (length w.bytes)) (drop_at (take w.at area) (w.bytes ++ drop (w.at + length w.bytes) area) w.at front)
      ∙ take_at w.bytes (drop (w.at + length w.bytes) area) (length w.bytes) refl

  pub written_length : length (written area w) ≡ length area
  written_length =
      let tail = drop (w.at + length w.bytes) area in
      omega (arith, length-append (take w.at area) (w.bytes ++ tail), length-append w.bytes tail, front, length-drop (w.at + length w.bytes) area)

  right : (p q : List ℕ) (n k : ℕ) → length p ≡ n → get_or (p ++ q) (n + k) 0 ≡ get_or q k 0
  right p q n k e = rw (← e) (get_or-append-add p q k 0)

  before : (x : ℕ) → x < w.at → get_or (written area w) x 0 ≡ get_or area x 0
  before x l =
      get_or-append (take w.at area) (w.bytes ++ drop (w.at + length w.bytes) area) 0 x (omega (arith, front))
      ∙ get_or-take w.at area x 0 l

  behind : (k : ℕ) → get_or (written area w) (w.at + (length w.bytes + k)) 0 ≡ get_or area (w.at + length w.bytes + k) 0
  behind k =
      right (take w.at area) (w.bytes ++ drop (w.at + length w.bytes) area) w.at (length w.bytes + k) front
      ∙ right w.bytes (drop (w.at + length w.bytes) area) (length w.bytes) k refl
      ∙ get_or-drop (w.at + length w.bytes) area k 0

  -- A WHOLE WRITE is one of its cuts
  pub written_cut : Cut area w (written area w)
  written_cut = record { as_long = written_length; outside = outside }
    where
      outside : (x : ℕ) → (w.at ≤ x → x < w.at + length w.bytes → ⊥) → get_or (written area w) x 0 ≡ get_or area x 0
      outside x off = elim (ltb x w.at) as (λ b. ltb x w.at ≡ b → get_or (written area w) x 0 ≡ get_or area x 0) [
        | true ↦ λ e. before x (ltb-true x w.at e)
        | false ↦ λ e.
            let far : ¬ (x < w.at + length w.bytes) = off (ltb-false x w.at e) in
            let k = x - (w.at + length w.bytes) in
            let l : w.at + (length w.bytes + k) ≡ x = omega arith in
            let r : w.at + length w.bytes + k ≡ x = omega arith in
            subst (λ y. get_or (written area w) y 0 ≡ get_or area x 0) l
            (subst (λ y. get_or (written area w) (w.at + (length w.bytes + k)) 0 ≡ get_or area y 0) r (behind k))
      ] refl

-- so is one of any other bytes, as long as those written
pub torn_cut : (area : List ℕ) (w : Write) (bytes : List ℕ) → EndsIn (length area) w → length bytes ≡ length w.bytes
    → Cut area w (written area (record { at = w.at; bytes = bytes }))
torn_cut area w bytes fits e =
    let c = written_cut area (record { at = w.at; bytes = bytes }) (omega arith) in
    record { as_long = c.as_long; outside = λ x off. c.outside x (λ a b. off a (omega arith)) }

-- a part as long as the whole is the whole
pub lent_whole : (n : ℕ) (area : List ℕ) → length (take n area) ≡ length area → take n area ≡ area
lent_whole n area e = take_all n area (omega (arith, length-take n area, min-le_left n (length area)))

-- what a write does to a part that it lies in, it does to the whole
pub lent_written : (n : ℕ) (area : List ℕ) (w : Write) → EndsIn (length (take n area)) w → written (take n area) w ++ drop n area ≡ written area w
lent_written n area w fits =
    let part = take n area in
    let end = w.at + length w.bytes in
    append_assoc (take w.at part) (w.bytes ++ drop end part) (drop n area)
    ∙ ap (λ xs. take w.at part ++ xs) (append_assoc w.bytes (drop end part) (drop n area))
    ∙ ap (λ xs. take w.at part ++ (w.bytes ++ xs)) (sym (drop-append-le end part (drop n area) fits) ∙ ap (drop end) (take-append-drop n area))
    ∙ ap (λ xs. xs ++ (w.bytes ++ drop end area)) (take-take w.at n area (omega (arith, length-take n area, min-le_left n (length area))))

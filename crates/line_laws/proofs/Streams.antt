-- A stream in pieces: whatever the pieces, the calls of `feed` bring the lines of the whole input, each cut to what the buffer holds.
use mathlib.Core.Path.{◌≡◌, refl, sym, ap, ◌∙◌}
use mathlib.Core.Bool.{Bool, true, false}
use mathlib.Core.List.{List, [], ◌∷◌, ◌++◌, map, map-append, append-nil, append_assoc}
use Prim.Native.Nat.{ℕ, zero, suc, ◌+◌, ◌-◌, ◌≤◌, ◌<◌, min}
use native.Mathlib.Omega.{arith}
use borrow.Author.Tests.{ltb-true, ltb-false, eqb-true, eqb-false, eq-eqb, ne_eqb}
use lib.ListN.{length, take, drop, length-take, length-drop}
use lib.Seq.{paste, take_all, take-nil, take-paste, length-paste, take-append-add, take-append-le, length-take-le}
use lib.Dec.{eqb, ltb}
use Rattle.lines.specs.Parts.{line_feed, first_part, onto, parted, part_end}
use Rattle.lines.specs.Feeding.{shed, lines_of, part_from, kept_of, feed_at, held_of, Brought, brought_by, input_of, lines_from}
use Rattle.lines.proofs.Parting.{parted_none, parted_cut, parted_on, parted_some, last_part, next_parts}

-- all parts but the last, the last, and parts that go on after some bytes
abbrev fronts : List (List ℕ) → List (List ℕ)
fronts [] = []
fronts (p ∷ []) = []
fronts (p ∷ q ∷ ps) = p ∷ fronts (q ∷ ps)

abbrev last_of : List (List ℕ) → List ℕ
last_of [] = []
last_of (p ∷ []) = p
last_of (p ∷ q ∷ ps) = last_of (q ∷ ps)

abbrev goes_on : List ℕ → List (List ℕ) → List (List ℕ)
goes_on t [] = t ∷ []
goes_on t (p ∷ ps) = (t ++ p) ∷ ps

-- bytes before the first part, one after the other
onto_goes : (b : ℕ) (t : List ℕ) (qs : List (List ℕ)) → onto b (goes_on t qs) ≡ goes_on (b ∷ t) qs
onto_goes b t [] = refl
onto_goes b t (q ∷ qs) = refl

goes_goes : (t u : List ℕ) (qs : List (List ℕ)) → goes_on t (goes_on u qs) ≡ goes_on (t ++ u) qs
goes_goes t u [] = refl
goes_goes t u (q ∷ qs) = ap (λ (k : List ℕ). k ∷ qs) (sym (append_assoc t u q))

-- the parts of two inputs, one behind the other
onto_fronts : (b : ℕ) (p : List ℕ) (ps qs : List (List ℕ))
    → onto b (fronts (p ∷ ps) ++ goes_on (last_of (p ∷ ps)) qs) ≡ fronts (onto b (p ∷ ps)) ++ goes_on (last_of (onto b (p ∷ ps))) qs
onto_fronts b p [] qs = onto_goes b p qs
onto_fronts b p (q ∷ ps) qs = refl

parted_append : (by : ℕ) (xs ys : List ℕ) → parted by (xs ++ ys) ≡ fronts (parted by xs) ++ goes_on (last_of (parted by xs)) (parted by ys)
parted_append by [] ys = let p = parted_some by ys in rw (parted_none by, p.1)
parted_append by (b ∷ bs) ys = by_test (parted_append by bs ys) (eqb b by) refl
  where
    by_test : parted by (bs ++ ys) ≡ fronts (parted by bs) ++ goes_on (last_of (parted by bs)) (parted by ys) → (t : Bool) → eqb b by ≡ t
        → parted by (b ∷ (bs ++ ys)) ≡ fronts (parted by (b ∷ bs)) ++ goes_on (last_of (parted by (b ∷ bs))) (parted by ys)
    by_test ih true e =
        let p = parted_some by bs in
        parted_cut by b (bs ++ ys) e ∙ ap (λ (k : List (List ℕ)). [] ∷ k) ih ∙ rw (parted_cut by b bs e, p.1)
    by_test ih false e =
        let p = parted_some by bs in
        let split : parted by (bs ++ ys) ≡ fronts (first_part by bs ∷ p.0) ++ goes_on (last_of (first_part by bs ∷ p.0)) (parted by ys) = ih
        ∙ rw p.1 in
        parted_on by b (bs ++ ys) e ∙ ap (onto b) split ∙ onto_fronts b (first_part by bs) p.0 (parted by ys) ∙ rw (parted_on by b bs e, p.1)

goes_fronts : (t p : List ℕ) (ps qs : List (List ℕ))
    → goes_on t (fronts (p ∷ ps) ++ goes_on (last_of (p ∷ ps)) qs) ≡ fronts (goes_on t (p ∷ ps)) ++ goes_on (last_of (goes_on t (p ∷ ps))) qs
goes_fronts t p [] qs = goes_goes t p qs
goes_fronts t p (q ∷ ps) qs = refl

-- only the last part is shed
shed_behind : (xs : List (List ℕ)) (p : List ℕ) (ps : List (List ℕ)) → shed (xs ++ (p ∷ ps)) ≡ xs ++ shed (p ∷ ps)
unfolding shed
shed_behind [] p ps = refl
shed_behind (x ∷ []) p ps = refl
shed_behind (x ∷ y ∷ xs) p ps = ap (λ (k : List (List ℕ)). x ∷ k) (shed_behind (y ∷ xs) p ps)

shed_goes : (xs : List (List ℕ)) (t : List ℕ) (qs : List (List ℕ)) → shed (xs ++ goes_on t qs) ≡ xs ++ shed (goes_on t qs)
shed_goes xs t [] = shed_behind xs t []
shed_goes xs t (q ∷ qs) = shed_behind xs (t ++ q) qs

-- the buffer holds the first bytes of the line begun, t
record Holds (room : ℕ) (line : List ℕ) (len : ℕ) (t : List ℕ) : Type 0 where
  long : length line ≡ room
  within : len ≤ room
  held : take len line ≡ take room t

holds_none : (line : List ℕ) (room : ℕ) → length line ≡ room → Holds room line 0 []
holds_none line room e = record { long = e; within = omega arith; held = sym (take-nil room) }

-- as many bytes as there are, or as there is room for
take_least : (k : ℕ) (p : List ℕ) → take (min (length p) k) p ≡ take k p
take_least k p = by_test (ltb k (length p)) refl
  where
    by_test : (t : Bool) → ltb k (length p) ≡ t → take (min (length p) k) p ≡ take k p
    by_test true e = let m : min (length p) k ≡ k = omega (arith, ltb-true k (length p) e) in rw m
    by_test false e =
        let m : min (length p) k ≡ length p = omega (arith, ltb-false k (length p) e) in
        rw m (take_all (length p) p (omega arith) ∙ sym (take_all k p (ltb-false k (length p) e)))

-- one more part
keeps_on : (room len : ℕ) (t part : List ℕ) → len ≡ length (take room t)
    → take room t ++ take (kept_of room len (length part)) part ≡ take room (t ++ part)
keeps_on room len t part e = by_test (ltb room (length t)) refl
  where
    by_test : (b : Bool) → ltb room (length t) ≡ b → take room t ++ take (kept_of room len (length part)) part ≡ take room (t ++ part)
    by_test true h =
        let more : room ≤ length t = omega (arith, ltb-true room (length t) h) in
        let z : kept_of room len (length part) ≡ 0 = omega (arith, length-take-le room t more) in
        rw (z, take-append-le room t part more) (append-nil (take room t))
    by_test false h =
        let few : length t ≤ room = ltb-false room (length t) h in
        let same : len ≡ length t = e ∙ ap length (take_all room t few) in
        let k : room ≡ length t + (room - len) = omega arith in
        ap (λ (x : List ℕ). x ++ take (kept_of room len (length part)) part) (take_all room t few)
        ∙ ap (λ (x : List ℕ). t ++ x) (take_least (room - len) part)
        ∙ sym (take-append-add t part (room - len))
        ∙ ap (λ (n : ℕ). take n (t ++ part)) (sym k)

holds_on : {room : ℕ} {line : List ℕ} {len : ℕ} {t : List ℕ} → Holds room line len t → (part : List ℕ)
    → Holds room (paste line len part (kept_of (length line) len (length part))) (len + kept_of (length line) len (length part)) (t ++ part)
holds_on {room} {line} {len} {t} s part =
    let n = kept_of (length line) len (length part) in
    record {
      long = length-paste line len part n (omega (arith, s.long, s.within)) (omega arith) ∙ s.long;
      within = omega (arith, s.long, s.within);
      held =
          take-paste line len part n (omega (arith, s.long, s.within)) (omega arith)
          ∙ ap (λ (x : List ℕ). x ++ take n part) s.held
          ∙ ap (λ (r : ℕ). take room t ++ take (kept_of r len (length part)) part) s.long
          ∙ keeps_on room len t part (sym (length-take-le len line (omega (arith, s.long, s.within))) ∙ ap length s.held);
    }

-- what calls on a piece have brought, by the parts of the piece: all but the last are complete
record Brings (room : ℕ) (b : Brought) (ps : List (List ℕ)) : Type 0 where
  complete : b.lines ≡ map (take room) (fronts ps)
  begun : Holds room b.line b.len (last_of ps)

brings : (room n : ℕ) (piece : List ℕ) (from : ℕ) (line : List ℕ) (len : ℕ) (t : List ℕ) → length (drop from piece) < n → Holds room line len t
    → Brings room (brought_by n piece from line len) (goes_on t (parted line_feed (drop from piece)))
unfolding brought_by
brings room zero piece from line len t h s = absurd (omega arith)
brings room (suc n) piece from line len t h s = by_test (λ next line t q. brings room n piece next line 0 t q) (feed_at piece from) refl
  where
    end : ℕ
    end = part_end line_feed piece from

    on : Holds room (held_of piece from line len) (len + kept_of (length line) len (length (part_from piece from))) (t ++ part_from piece from)
    on = holds_on s (part_from piece from)

    by_test : ((next : ℕ) (line : List ℕ) (t : List ℕ) → length (drop next piece) < n → Holds room line 0 t
        → Brings room (brought_by n piece next line 0) (goes_on t (parted line_feed (drop next piece))))
        → (b : Bool) → feed_at piece from ≡ b
        → Brings room (brought_by (suc n) piece from line len) (goes_on t (parted line_feed (drop from piece)))
    by_test ih true e =
        let before : end < length piece = ltb-true end (length piece) e in
        let later = ih (end + 1) (held_of piece from line len) [] (omega (arith, length-drop from piece, length-drop (end + 1) piece))
        (holds_none (held_of piece from line len) room on.long) in
        let p = parted_some line_feed (drop (end + 1) piece) in
        let rest : Brings room (brought_by n piece (end + 1) (held_of piece from line len) 0) (first_part line_feed (drop (end + 1) piece) ∷ p.0) = rw
        p.1 at later in
        rw (e, next_parts line_feed piece from end refl before, p.1) (record { complete = rw (on.held, rest.complete); begun = rest.begun })
    by_test ih false e =
        rw (e, last_part line_feed piece from end refl (ltb-false end (length piece) e)) (record { complete = refl; begun = on })

-- the line that is left at the end
ends_line : (room : ℕ) → 1 ≤ room → (t : List ℕ) → shed (take room t ∷ []) ≡ map (take room) (shed (t ∷ []))
unfolding shed
ends_line room some t = by_test (eqb (length t) 0) refl
  where
    by_test : (b : Bool) → eqb (length t) 0 ≡ b → shed (take room t ∷ []) ≡ map (take room) (shed (t ∷ []))
    by_test true e =
        let z : eqb (length (take room t)) 0 ≡ true = eq-eqb (length (take room t)) 0 (omega (arith, length-take room t, eqb-true (length t) 0 e)) in
        rw (z, e)
    by_test false e =
        let z : eqb (length (take room t)) 0 ≡ false = ne_eqb (length (take room t)) 0 (λ q. eqb-false (length t) 0 e (omega (arith, length-take room t))) in
        rw (z, e)

streams : (room : ℕ) → 1 ≤ room → (ps : List (List ℕ)) (line : List ℕ) (len : ℕ) (t : List ℕ) → Holds room line len t
    → lines_from ps line len ≡ map (take room) (shed (goes_on t (parted line_feed (input_of ps))))
unfolding lines_from input_of
streams room some [] line len t s = rw (s.held, parted_none line_feed, append-nil t) (ends_line room some t)
streams room some (p ∷ ps) line len t s =
    let b = brings room (suc (length p)) p 0 line len t (omega arith) s in
    let q = parted_some line_feed p in
    let js = goes_on t (parted line_feed p) in
    let rest = parted line_feed (input_of ps) in
    let split : goes_on t (parted line_feed (p ++ input_of ps)) ≡ fronts js ++ goes_on (last_of js) rest = rw (parted_append line_feed p (input_of ps), q.1)
    (goes_fronts t (first_part line_feed p) q.0 rest) in
    rw (split, shed_goes (fronts js) (last_of js) rest, map-append (take room) (fronts js) (shed (goes_on (last_of js) rest)), b.complete)
    (ap (λ (k : List (List ℕ)). map (take room) (fronts js) ++ k) (streams room some ps _ _ (last_of js) b.begun))

-- whatever the pieces, the lines are those of the input, cut to what the buffer holds
pub pieces_law : (ps : List (List ℕ)) (line : List ℕ) → 1 ≤ length line → lines_from ps line 0 ≡ map (take (length line)) (lines_of (input_of ps))
pieces_law ps line some =
    streams (length line) some ps line 0 [] (holds_none line (length line) refl) ∙ (let q = parted_some line_feed (input_of ps) in rw q.1)

-- so two ways to cut one input into pieces bring the same lines
pub pieces_alike : (ps qs : List (List ℕ)) (line : List ℕ) → 1 ≤ length line → input_of ps ≡ input_of qs
    → lines_from ps line 0 ≡ lines_from qs line 0
pieces_alike ps qs line some e = pieces_law ps line some ∙ rw e (sym (pieces_law qs line some))

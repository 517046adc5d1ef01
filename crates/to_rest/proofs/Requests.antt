-- What a request comes to: it ends at rest; the moves and waits of one that begins a flush are those of the flush's plan, and one that begins none has none.
use mathlib.Core.Path.{◌≡◌, refl, ap, subst}
use mathlib.Core.Bool.{true, false, cond, ◌&&◌}
use mathlib.Core.List.{List, [], ◌∷◌}
use Prim.Native.Nat.{ℕ, ◌≤◌}
use native.Mathlib.Omega.{arith}
use lib.ListN.{length, replicate}
use lib.Seq.{take-length}
use lib.Dec.{eqb, leb}
use borrow.Author.Tests.{leb-true}
use Rattle.rules.specs.House.{share, area_fits, most_name}
use Rattle.rules.specs.Flush.{plan}
use Rattle.rules.specs.Stores.{Store, resting, flushing, Flush, start_in}
use Rattle.rules.specs.Sound.{sound}
use Rattle.rules.specs.Sums.{waits_in}
use Rattle.rules.specs.Calls.{Outcome, written, insert_of}
use Rattle.rules.specs.History.{insert, delete}
use Rattle.rules.specs.declared.Answer.TheVariants.{Running}
use Rattle.rules.proofs.Lists.{and_true}
use Rattle.rules.proofs.History.{open_sound}
use Rattle.rules.proofs.Plays.{moves_left}
use Rattle.rules.proofs.Steps.{todo_at}
use Rattle.std.specs.Prelude.{Option, Some, None}
use Rattle.std.specs.Option.{option_and_then}
use Rattle.lines.specs.Parts.{blank, first_part, parted}
use Rattle.lines.specs.Requests.{letter_of, numbers_of, asked_of, request_of, most_length}
use Rattle.lines.specs.declared.Numbers.{Numbers}
use Rattle.lines.specs.declared.Numbers.TheVariants.{Zero, One, Three}
use Rattle.lines.specs.declared.Request.{Request}
use Rattle.lines.specs.declared.Request.TheVariants.{Insert, Delete}
use Rattle.to_rest.specs.Runs.{begun_by, ran_of, Kept, opened, after_all}
use Rattle.to_rest.proofs.Turning.{Fit, call_fit}
use Rattle.to_rest.proofs.Resting.{Rested, comes_to_rest}
use Rattle.to_rest.proofs.Telling.{Begins, insert_told, delete_told}

-- a name to store under has 16 bits
abbrev pub NameFits : Option Request → Type 0
NameFits (Some (Insert n m b)) = n ≤ most_name
NameFits (Some (Delete n)) = Unit {0}
NameFits None = Unit {0}

-- it has in what a line asks
pub line_fits : (line : List ℕ) → NameFits (request_of line)
line_fits line = by_letter (letter_of (first_part blank line)) (numbers_of 5 (parted blank line))
  where
    fits : (l : ℕ) (given : Option Numbers) → NameFits (asked_of l given)
    fits l None = tt
    fits l (Some Zero) = tt
    fits l (Some (One n)) = elim (eqb l 68 && leb n most_name) as (λ b. NameFits (cond b (Some (Delete n)) None)) [
      | true ↦ tt
      | false ↦ tt
    ]
    fits l (Some (Three n m x)) =
        let rest = leb n most_name && (leb m most_length && leb x 255) in
        (elim (eqb l 73 && rest) as (λ b. (eqb l 73 && rest) ≡ b → NameFits (cond b (Some (Insert n m x)) None)) [
          | true ↦ λ e. leb-true n most_name (and_true (leb n most_name) (leb m most_length && leb x 255) (and_true (eqb l 73) rest e).1).0
          | false ↦ λ e. tt
        ]) refl

    by_letter : (letter : Option ℕ) (given : Option Numbers) → NameFits (option_and_then (λ l. asked_of l given) letter)
    by_letter None given = tt
    by_letter (Some l) given = fits l given

-- a request's call keeps a store fit
pub begun_fit : (s : Store) (area : List ℕ) (r : Option Request) → NameFits r → Fit s area → Fit (begun_by s area r).store (begun_by s area r).area
begun_fit s area (Some (Insert n m b)) named f =
    subst (λ (o : Outcome). Fit o.store (written area o.write)) (ap (λ (xs : List ℕ). insert_of s (length xs) n (replicate m b)) (take-length area))
    (call_fit s area (insert (length area) n (replicate m b)) named f)
begun_fit s area (Some (Delete n)) named f = call_fit s area (delete n) tt f
begun_fit s area None named f = f

-- a line that asks for something
abbrev pub Asks : Option Request → Type 0
Asks (Some (Insert n m b)) = Unit {0}
Asks (Some (Delete n)) = Unit {0}
Asks None = ⊥

-- a run counts from 0
none : (s : Store) (area : List ℕ) (r : Option Request) → ((begun_by s area r).moves ≡ 0) × ((begun_by s area r).waits ≡ 0)
none s area (Some (Insert n m b)) = (refl, refl)
none s area (Some (Delete n)) = (refl, refl)
none s area None = (refl, refl)

-- A REQUEST ENDS AT REST: from a sound store with its own area lent, whatever the answer, with all that was to be done counted
pub request_rests : (s : Store) (area : List ℕ) (r : Option Request) → Asks r → NameFits r → Fit s area → Rested (begun_by s area r) (ran_of s area r)
request_rests s area (Some (Insert n m b)) asks named f = comes_to_rest (begun_by s area (Some (Insert n m b))) (begun_fit s area (Some (Insert n m b)) named f)
request_rests s area (Some (Delete n)) asks named f = comes_to_rest (begun_by s area (Some (Delete n))) (begun_fit s area (Some (Delete n)) named f)
request_rests s area None asks named f = absurd asks

-- what the call's answer tells of the store
request_told : (s : Store) (area : List ℕ) (r : Option Request) → Asks r → NameFits r
    → ((begun_by s area r).answer ≡ Running → Begins (begun_by s area r).store)
    × (s.stage ≡ resting → ((begun_by s area r).answer ≡ Running → ⊥) → (begun_by s area r).store.stage ≡ resting)
request_told s area (Some (Insert n m b)) asks named = let t = insert_told s (length area) n (replicate m b) named in (t.begun, t.quiet)
request_told s area (Some (Delete n)) asks named = let t = delete_told s n in (t.begun, t.quiet)
request_told s area None asks named = absurd asks

-- THE NUMBERS OF A REQUEST that begins a flush are those of the plan, which law 8 fixes when it begins
pub request_plan : (s : Store) (area : List ℕ) (r : Option Request) → Asks r → NameFits r → Fit s area → (begun_by s area r).answer ≡ Running
    → let w = (begun_by s area r).store in (f : Flush) × (w.stage ≡ flushing f)
    × ((ran_of s area r).moves ≡ moves_left (plan share (start_in w f))) × ((ran_of s area r).waits ≡ waits_in (plan share (start_in w f)))
request_plan s area r asks named f e =
    let k = request_rests s area r asks named f in
    let b = (request_told s area r asks named).0 e in
    let z = none s area r in
    (b.flush, b.runs, omega (arith, k.moves, b.moves, z.0), omega (arith, k.waits, b.waits, z.1))

-- and of one that begins none, in a store at rest, are 0
pub request_quiet : (s : Store) (area : List ℕ) (r : Option Request) → Asks r → NameFits r → Fit s area → s.stage ≡ resting
    → ((begun_by s area r).answer ≡ Running → ⊥)
    → ((ran_of s area r).moves ≡ 0) × ((ran_of s area r).waits ≡ 0)
unfolding moves_left waits_in
request_quiet s area r asks named f rests e =
    let k = request_rests s area r asks named f in
    let w = (begun_by s area r).store in
    let q = (request_told s area r asks named).1 rests e in
    let z = none s area r in
    (omega (arith, k.moves, z.0, ap (λ g. moves_left (todo_at share w g)) q), omega (arith, k.waits, z.1, ap (λ g. waits_in (todo_at share w g)) q))

-- A SESSION since an accepted opening is at rest after each of its requests, in a sound store
abbrev pub AllFit : List (Option Request) → Type 0
AllFit [] = Unit {0}
AllFit (r ∷ rs) = NameFits r × AllFit rs

pub session_rests : (area : List ℕ) (rs : List (Option Request)) → area_fits (length area) ≡ true → AllFit rs → let k = after_all (opened area) rs in
    (sound share k.store ≡ true) × (length k.area ≡ k.store.area) × (k.store.stage ≡ resting)
unfolding after_all
session_rests area rs fits = go rs (opened area) (record { is_sound = open_sound share (length area) fits; own = rw fits }) refl
  where
    next : (s : Store) (area : List ℕ) (r : Option Request) → NameFits r → Fit s area → s.stage ≡ resting
        → Fit (ran_of s area r).store (ran_of s area r).area × ((ran_of s area r).store.stage ≡ resting)
    next s area (Some (Insert n m b)) named f rests = let k = request_rests s area (Some (Insert n m b)) tt named f in (k.fit, k.rests)
    next s area (Some (Delete n)) named f rests = let k = request_rests s area (Some (Delete n)) tt named f in (k.fit, k.rests)
    next s area None named f rests = (f, rests)

    go : (rs : List (Option Request)) (k : Kept) → Fit k.store k.area → k.store.stage ≡ resting → AllFit rs
        → (sound share (after_all k rs).store ≡ true) × (length (after_all k rs).area ≡ (after_all k rs).store.area)
        × ((after_all k rs).store.stage ≡ resting)
    go [] k f rests named = (f.is_sound, f.own, rests)
    go (r ∷ rs) k f rests named = let e = next k.store k.area r named.0 f rests in go rs _ e.0 e.1 named.1

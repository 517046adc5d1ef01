-- WHAT `drill` RUNS IS A HISTORY over the area opened, so that the demands speak of it. The desk lends parts of one buffer of 65,536 bytes; a part
-- that is longer than the area opened is refused, as the history's call with nothing lent is.
use mathlib.Core.Path.{◌≡◌, refl, sym, ap, ◌∙◌}
use mathlib.Core.Bool.{true, false, cond}
use mathlib.Core.List.{List}
use Prim.Native.Nat.{ℕ, ◌≤◌, min}
use native.Mathlib.Nat.{min-eq_left}
use native.Mathlib.Omega.{arith}
use borrow.Author.Tests.{leb-true, leb-false}
use lib.Dec.{leb}
use lib.ListN.{length, take, drop, replicate, length-take, length-replicate}
use lib.Seq.{length-take-le, take-take, take_at}
use Rattle.rules.specs.House.{area_fits, most_area}
use Rattle.rules.specs.Calls.{Outcome, Write, written, open_store, insert_of, step_of}
use Rattle.rules.specs.History.{Call, insert, delete, step, confirm, outcome_of, History, opening, serve, Named, AllNamed}
use Rattle.rules.specs.History as history
use Rattle.rules.proofs.Lists.{clash}
use Rattle.rules.proofs.Writes.{EndsIn}
use Rattle.rules.proofs.Cuts.{lent_written, written_length}
use Rattle.rules.proofs.History.{call_writes, call_area}
use Rattle.leaves.proofs.Parts.{part_lent, take_same}
use Rattle.bridge.proofs.Promises.{other_area_insert_none, other_area_step_none}
use Rattle.std.specs.Prelude.{Option, Some, None}
use Rattle.lines.specs.declared.Drill.{Drill}
use Rattle.lines.specs.declared.Drill.TheVariants.{Open, Lend, Insert, Delete, Step, Confirm, Find, Read, Sum}
use Rattle.lines.specs.Requests.{most_room}
use Rattle.desks.specs.Desks.{Desk, called, after}
use Rattle.drilling.specs.Histories.{lent_in, calls_in, ComeTo, opens}

-- what a write does to the buffer it does to the area opened
front_written : (m : ℕ) (area : List ℕ) (w : Write) → m ≤ length area → EndsIn m w → take m (written area w) ≡ written (take m area) w
front_written m area w within fits =
    let long : length (take m area) ≡ m = length-take-le m area within in
    let ends : EndsIn (length (take m area)) w = omega (arith, long) in
    ap (take m) (sym (lent_written m area w ends)) ∙ take_at (written (take m area) w) (drop m area) m (written_length (take m area) w ends ∙ long)

module _ (d : Desk) (own : d.store.area ≤ d.opened) (within : d.opened ≤ length d.area) where
  abbrev part : List ℕ
  part = take d.opened d.area

  abbrev k : ℕ
  k = length (take d.lent d.area)

  -- bytes lent within the area opened are the same bytes of it
  lent_within : k ≤ d.opened → (length (take k part) ≡ k) × (take k part ≡ take d.lent d.area)
  lent_within few =
      let long : length part ≡ d.opened = length-take-le d.opened d.area within in (
        length-take-le k part (omega (arith, long)),
        take-take k d.opened d.area few ∙ (part_lent d.area d.lent k (length-take d.lent d.area)).0,
      )

  insert_in : (n : ℕ) (page : List ℕ) → outcome_of d.store d.area (insert d.lent n page) ≡ outcome_of d.store part (insert (lent_in d) n page)
  insert_in n page = (elim (leb k d.opened) as
      (λ b. leb k d.opened ≡ b → insert_of d.store k n page ≡ insert_of d.store (length (take (cond b k 0) part)) n page) [
        | true ↦ λ e. ap (λ i. insert_of d.store i n page) (sym (lent_within (leb-true k d.opened e)).0)
        | false ↦ λ e. other_area_insert_none d.store k n page (λ same. omega (arith, leb-false k d.opened e)) part
      ]) refl

  step_in_lem : outcome_of d.store d.area (step d.lent) ≡ outcome_of d.store part (step (lent_in d))
  step_in_lem = (elim (leb k d.opened) as
      (λ b. leb k d.opened ≡ b → step_of d.store (take d.lent d.area) ≡ step_of d.store (take (cond b k 0) part)) [
        | true ↦ λ e. ap (step_of d.store) (sym (lent_within (leb-true k d.opened e)).1)
        | false ↦ λ e. other_area_step_none d.store (take d.lent d.area) (λ same. omega (arith, leb-false k d.opened e)) part
      ]) refl

-- a call of the desk's store is the history's call
call_comes : (h : History) (d : Desk) (c c' : Call) → ComeTo h d → Named c
    → outcome_of d.store d.area c ≡ outcome_of d.store (take d.opened d.area) c' → ComeTo (serve h c') (called d c)
call_comes h d c c' k named e =
    let o : outcome_of h.store h.area c' ≡ outcome_of d.store d.area c = rw (k.at_store, k.at_area) (sym e) in
    let w = (outcome_of d.store d.area c).write in
    let ends : EndsIn d.opened w = omega (arith, call_writes d.store d.area c named, k.own) in
    record {
      at_store = ap (λ (x : Outcome). x.store) o;
      at_area = ap (λ (x : Outcome). written h.area x.write) o ∙ ap (λ bs. written bs w) k.at_area
          ∙ sym (front_written d.opened d.area w k.within ends);
      own = omega (arith, call_area d.store d.area c named, k.own);
      within = omega (arith, written_length d.area w (omega (arith, ends, k.within)), k.within);
    }

-- AN OPENING of at most the longest area is the history's opening of as many zeros,
pub opening_comes : (d : Desk) (n : ℕ) → n ≤ most_area → most_area ≤ length d.area → ComeTo (opening (replicate n 0)) (after d (Some (Open n)))
opening_comes d n small long =
    let same : min n most_area ≡ n = min-eq_left small in
    rw same (record {
      at_store = ap open_store (length-replicate n 0);
      at_area = sym (take_same n (length d.area) 0 (omega (arith, small, long)));
      own = open_own n;
      within = omega (arith, length-replicate {A = ℕ} (length d.area) 0, small, long);
    })
  where
    open_own : (a : ℕ) → (open_store a).area ≤ a
    open_own a = elim (area_fits a) as (λ b. cond b a 0 ≤ a) [ true ↦ omega arith | false ↦ omega arith ]

-- AND EVERY OTHER REQUEST is the history's calls, or none: so what the demands say of every history they say of what `drill` runs.
pub request_comes : (h : History) (d : Desk) (asked : Option Drill) → opens asked ≡ false → AllNamed (calls_in d asked) → ComeTo h d
    → ComeTo (history.after h (calls_in d asked)) (after d asked)
unfolding history.after
request_comes h d (Some (Open n)) e named k = absurd (clash refl e)
request_comes h d (Some (Lend n)) e named k = record { at_store = k.at_store; at_area = k.at_area; own = k.own; within = k.within }
request_comes h d (Some (Insert name len byte)) e named k = call_comes h d (insert d.lent name (replicate len byte))
    (insert (lent_in d) name (replicate len byte)) k named.0 (insert_in d k.own k.within name (replicate len byte))
request_comes h d (Some (Delete name)) e named k = call_comes h d (delete name) (delete name) k tt refl
request_comes h d (Some Step) e named k = call_comes h d (step d.lent) (step (lent_in d)) k tt (step_in_lem d k.own k.within)
request_comes h d (Some (Confirm n)) e named k = call_comes h d (confirm (min n most_room)) (confirm (min n most_room)) k tt refl
request_comes h d (Some (Find name)) e named k = k
request_comes h d (Some (Read name)) e named k = k
request_comes h d (Some Sum) e named k = k
request_comes h d None e named k = k

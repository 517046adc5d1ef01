-- A part of the area lent to a call: what the call did to the part it did to the area, by the law that a write lies within what is lent.
use mathlib.Core.Path.{◌≡◌, ap, ◌∙◌}
use mathlib.Core.Bool.{false}
use mathlib.Core.List.{List, [], ◌++◌}
use Prim.Native.Nat.{ℕ, min}
use lib.ListN.{length, take, drop}
use Rattle.leaves.proofs.Parts.{part_lent}
use Rattle.rules.specs.Answers.{accepted}
use Rattle.rules.specs.Calls.{Outcome}
use Rattle.rules.specs.History as history
use Rattle.rules.proofs.Promises.{lent_law}
use Rattle.store.specs.Served.{model}
use Rattle.store.specs.declared.Store.{Store}
use Rattle.store.specs.declared.Served.{Served}
use Rattle.bridge.specs.Calling.{StandsAt, ServedAs, Did}

module _ (s : Store) (area : List ℕ) (r : Served) where
  -- what a call did to the bytes it was lent
  pub did_lent : (c : history.Call) → history.Named c → (by : List ℕ → Outcome)
      → by (take (history.lent_by c) area) ≡ history.outcome_of (model s) area c
      → (n : ℕ) → n ≡ min (history.lent_by c) (length area) → (after : List ℕ)
      → Did (by (take n area)) s r (take n area) after → Did (history.outcome_of (model s) area c) s r area (after ++ drop n area)
  did_lent c named by same n e after d =
      let p = part_lent area (history.lent_by c) n e in
      let o : by (take n area) ≡ history.outcome_of (model s) area c = ap by p.0 ∙ same in
      record {
        answer = d.answer ∙ ap (λ w. w.answer) o;
        store = d.store ∙ ap (λ w. w.store) o;
        refused = d.refused;
        bytes =
            ap (λ bs. bs ++ drop n area) d.bytes
            ∙ rw (o, p.0, p.1) (lent_law (model s) area c named);
      }

  -- so it is what the history's call came to
  pub served_as : (h : history.History) (c : history.Call) (after : List ℕ) → StandsAt h s area → Did (history.outcome_of (model s) area c) s r area after
      → ServedAs h c r after
  served_as h c after at d =
      let o : history.outcome_of (model s) area c ≡ history.outcome_of h.store h.area c = rw (at.at_store, at.at_area) in
      record {
        store = d.store ∙ ap (λ w. w.store) o;
        area = d.bytes ∙ rw (o, at.at_area);
        answer = d.answer ∙ ap (λ w. w.answer) o;
      }

  -- a call that writes nothing did what the rules say
  pub did_silent : (o : Outcome) → o.write ≡ record { at = 0; bytes = [] } → r.answer ≡ o.answer → model r.store ≡ o.store
      → (accepted r.answer ≡ false → r.store ≡ s) → Did o s r area area
  did_silent o silent told came same = record { answer = told; store = came; refused = same; bytes = rw silent }

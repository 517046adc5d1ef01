-- `confirm_answer` meets its contract: the store's tests, then whether the map fits; a sound value counts the objects held.
use mathlib.Core.Path.{ap, ◌∙◌}
use Prim.Native.Nat.{◌+◌, ◌*◌}
use native.Mathlib.Omega.{arith}
use borrow.Author.Tests.{lt-ltb, le-ltb}
use borrow.Author.Rules.{rules}
use Rattle.std.proofs.lemmas.Result.{err_from_is_err_and}
use Rattle.rules.specs.House.{head_size, entry_size}
use Rattle.rules.specs.Calls.{store_tests}
use Rattle.state.specs.Model.{model_of}
use Rattle.refusals.specs.Tests.{passed}
use Rattle.refusals.proofs.Firsts.{none, hit, miss, same, refusing, passing}
use Rattle.refusals.proofs.Known.{few, size_is}
use Rattle.refusals.proofs.confirm_answer.Goals as goal

pub returns-in_err-c : goal.returns-in_err-c
returns-in_err-c c =
    let p = err_from_is_err_and c.from_residual.result c.from_residual.ensures.1 in
    rw (p.1, p.2) (refusing _ (store_tests (model_of _) _) _ c.in_err-c.ensures)

pub overflow_mul-s : goal.overflow_mul-s
overflow_mul-s c = omega (arith, few _ (passing _ _ _ c.in_ok-c.ensures).is_sound)

pub overflow_add-s : goal.overflow_add-s
overflow_add-s c = record { fits = omega (arith, few _ (passing _ _ _ c.in_ok-c.ensures).is_sound) }

pub returns-then-room-s : goal.returns-then-room-s
returns-then-room-s c =
    let p = passing _ _ _ c.in_ok-c.ensures in
    ap (passed _) (hit _ _ _ (size_is _ p.is_sound (search rules) _
    ∙ lt-ltb _ (head_size + entry_size * c.args.s.count) (search rules)) ∙ p.later _)

pub returns : goal.returns
returns c =
    let p = passing _ _ _ c.in_ok-c.ensures in
    rw (same _ _ c.in_ok-c.ensures) (ap (passed _) (none ∙ miss _ _ _ (size_is _ p.is_sound (search rules) _
    ∙ le-ltb _ (head_size + entry_size * c.args.s.count) (search rules)) ∙ p.later _))

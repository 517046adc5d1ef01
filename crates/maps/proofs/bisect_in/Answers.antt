use mathlib.Core.Path.{refl}
use borrow.Author.Rules.{rules}
use Rattle.maps.proofs.Halves.{half_found, half_lower, half_none, half_start, half_upper}
use Rattle.maps.proofs.bisect_in.Goals as goal

pub loop-lo-init : goal.loop-lo-init
loop-lo-init c = half_start _ _ _

pub returns-then-y-x : goal.returns-then-y-x
returns-then-y-x c =
    let loop = c.loop-lo in
    let word = c.word-y in
    half_found _ _ _ _ _ c.loop-lo-test.true _ refl _
    word.ensures loop.invariant _ _ c.if-y-x.true c.word.ensures c.word-then-y-x.ensures

pub loop-lo-preserved-then-y-x-2 : goal.loop-lo-preserved-then-y-x-2
loop-lo-preserved-then-y-x-2 c =
    let loop = c.loop-lo in
    let word = c.word-y in
    half_upper _ _ _ _ _ c.loop-lo-test.true _ refl _
    word.ensures loop.invariant c.if-y-x.false (search rules)

pub loop-lo-preserved : goal.loop-lo-preserved
loop-lo-preserved c =
    let loop = c.loop-lo in
    let word = c.word-y in
    half_lower _ _ _ _ _ c.loop-lo-test.true _ refl _
    word.ensures loop.invariant c.if-y-x.false (search rules)

pub returns : goal.returns
returns c = half_none c.loop-lo.invariant c.loop-lo-test.false

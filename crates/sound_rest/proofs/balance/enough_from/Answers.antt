use mathlib.Core.Path.{sym, ◌∙◌}
use Rattle.sound_rest.specs.Rest.{regions_of}
use Rattle.sound_rest.proofs.Weights.{weigh_next, balance_start, balance_enough, balance_unclean, balance_short, balance_end}
use borrow.Author.Rules.{rules}
use Rattle.sound_rest.proofs.balance.enough_from.Goals as goal
use Rattle.sound_rest.proofs.balance.enough_from.Goals.{else-has-asked-via-then-has-asked+else-is_clean, else-has-asked-via-else-has-asked}

pub loop-next-init : goal.loop-next-init
loop-next-init c =
    let args = c.args in
    balance_start (regions_of args.regions.now) args.lives.now args.class (search rules)
    (sym c.is_clean.ensures ∙ c.if-not-is_clean.false)

pub returns-then-is_clean : goal.returns-then-is_clean
returns-then-is_clean c =
    let loop = c.loop-next in
    balance_short (weigh_next loop.invariant.weights (search rules) (c.requires.1 _)
    (c.from.ensures, search rules) (c.from-asked.ensures, search rules)) loop.invariant.scan
    c.if-has-asked.true (sym c.is_clean-then-has-asked.ensures ∙ c.if-is_clean.true)

pub loop-next-preserved : goal.loop-next-preserved
loop-next-preserved c =
    let loop = c.loop-next in
    let weighed = weigh_next loop.invariant.weights (search rules) (c.requires.1 _)
    (c.from.ensures, search rules) (c.from-asked.ensures, search rules) in
    elim c.else-has-asked.branch [
      | else-has-asked-via-then-has-asked+else-is_clean w ↦
          balance_unclean weighed loop.invariant.scan (sym w.is_clean-then-has-asked.ensures ∙ w.if-is_clean.false)
      | else-has-asked-via-else-has-asked w ↦ balance_enough weighed loop.invariant.scan w.if-has-asked.false
    ]

pub returns : goal.returns
returns c = balance_end c.loop-next.invariant (search rules)

use Rattle.std.proofs.Common.{◌≡◌, reverse, arith, refl}
use Rattle.lrat_log.specs.Held.{held_by}
use Rattle.cdcl.proofs.Opening.{analysed_is_learnt, one_top}
use Rattle.cdcl.proofs.analyse.learn.Goals as goal

pub returns-then-first-eq1-clause-learnt : goal.returns-then-first-eq1-clause-learnt
returns-then-first-eq1-clause-learnt c =
    analysed_is_learnt (held_by c.args.clauses.now) c.args.trail.now.steps c.args.levels.top c.in_ok-first.first.tops
    c.in_ok-first.first.literals.items (reverse c.in_ok-first.first.hints.items)
    c.requires.tables.trail c.requires.level c.requires.quiet c.in_ok-first.ensures.resolvent c.in_ok-first.ensures.tops
    c.if-first-eq1.true c.in_ok-first.ensures.below

pub returns-clause-learnt : goal.returns-clause-learnt
returns-clause-learnt c =
    let one : c.in_ok-second.second.tops ≡ 1 =
    (let a = c.in_ok-second.ensures.some c.requires.quiet in let b = c.in_ok-second.ensures.one refl in
    omega arith) in
    analysed_is_learnt (held_by c.args.clauses.now) c.args.trail.now.steps c.args.levels.top c.in_ok-second.second.tops
    c.in_ok-second.second.literals.items (reverse c.in_ok-second.second.hints.items)
    c.requires.tables.trail c.requires.level c.requires.quiet c.in_ok-second.ensures.resolvent
    c.in_ok-second.ensures.tops one c.in_ok-second.ensures.below

pub returns-clause-one : goal.returns-clause-one
returns-clause-one c =
    let one : c.in_ok-second.second.tops ≡ 1 =
    (let a = c.in_ok-second.ensures.some c.requires.quiet in let b = c.in_ok-second.ensures.one refl in
    omega arith) in
    one_top c.args.trail.now.steps c.args.levels.top c.in_ok-second.second.tops c.in_ok-second.second.literals.items one
    c.in_ok-second.ensures.tops

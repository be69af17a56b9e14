use Rattle.std.proofs.Common.{subst, sym, ◌<◌, arith}
use Rattle.structure_back.specs.Leaders.{Lowers}
use Rattle.ground_terms.specs.declared.atom.Atom.TheVariants.{Eq}
use Rattle.structure_back.proofs.Lowering.{not_lower, lowered}
use Rattle.structure_back.proofs.leaders.lower_one.Goals as goal

pub returns-then-sort-counts : goal.returns-then-sort-counts
returns-then-sort-counts c =
    not_lower c.args.counts.now c.args.sort c.args.left c.args.right c.args.leaders.now c.requires
    (λ lk _. absurd (omega (arith, lk, c.if-sort-counts.true)))

pub returns-then-right-counts : goal.returns-then-right-counts
returns-then-right-counts c =
    not_lower c.args.counts.now c.args.sort c.args.left c.args.right c.args.leaders.now c.requires
    (λ _ lr. absurd (omega (arith, lr, c.if-right-counts.true)))

pub returns-then-left-get : goal.returns-then-left-get
returns-then-left-get c =
    let lower = subst (λ n. c.args.left < n) c.get.ensures c.if-left-get.true in
    subst (Lowers c.args.counts.now (Eq c.args.sort c.args.left c.args.right) c.args.leaders.now) (sym c.set.ensures)
    (lowered c.args.counts.now c.args.sort c.args.left c.args.right c.args.leaders.now c.requires
    c.if-sort-counts.false c.if-right-counts.false lower)

pub returns-else-left-get : goal.returns-else-left-get
returns-else-left-get c =
    not_lower c.args.counts.now c.args.sort c.args.left c.args.right c.args.leaders.now c.requires
    (λ _ _. omega (arith, c.get.ensures, c.if-left-get.false))

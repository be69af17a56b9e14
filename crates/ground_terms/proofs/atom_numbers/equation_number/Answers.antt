use Rattle.std.proofs.Common.{arith}
use Rattle.ground_terms.proofs.AtomFirsts.{equation-number}
use Rattle.ground_terms.proofs.atom_numbers.equation_number.Goals as goal

pub overflow_add-result-2 : goal.overflow_add-result-2
overflow_add-result-2 c =
    let number =
    equation-number c.args.counts.now c.args.firsts.now c.args.sort.0 c.args.left c.args.right c.requires.firsts
    c.requires.few c.if-sort-counts.false c.if-left-count.false c.if-right-count.false in
    omega (arith, number.within, c.requires.few)

pub returns-clause-some : goal.returns-clause-some
returns-clause-some c =
    let number =
    equation-number c.args.counts.now c.args.firsts.now c.args.sort.0 c.args.left c.args.right c.requires.firsts
    c.requires.few c.if-sort-counts.false c.if-left-count.false c.if-right-count.false in
    ((c.if-sort-counts.false, c.if-left-count.false, c.if-right-count.false), number.exact, number.within)

use Rattle.std.proofs.Common.{◌≡◌, ◌<◌, ◌+◌, length, get_or, ap, subst, ◌∙◌, arith}
use Rattle.fol_sig.specs.Symbols.{symbols}
use Rattle.fol_sig.specs.Tables.{tuple_count, place_of, InRange}
use Rattle.ground_terms.specs.AtomNumbers.{relation_atoms}
use Rattle.ground_terms.proofs.AtomRows.{row-ends}
use Rattle.ground_terms.proofs.atom_numbers.relation_number.Goals as goal

pub number_of_tuple-requires-clause-room : goal.number_of_tuple-requires-clause-room
number_of_tuple-requires-clause-room c =
    let sig = symbols c.args.signature.now in
    let lt : c.args.relation.0 < length c.args.signature.now.relations =
    omega (arith, c.if-relation-relation_count.false, c.relation_count.ensures) in
    let ends = row-ends (λ q. tuple_count c.args.counts.now (sig.sorts_of q)) c.args.relation.0
    (length c.args.signature.now.relations) lt in
    let here = ap (tuple_count c.args.counts.now) c.sorts_of-sorts.ensures.value in
    omega (arith, ends, here, c.requires.few)

pub overflow_add-result : goal.overflow_add-result
overflow_add-result c =
    let sig = symbols c.args.signature.now in
    let lt : c.args.relation.0 < length c.args.signature.now.relations =
    omega (arith, c.if-relation-relation_count.false, c.relation_count.ensures) in
    let ends = row-ends (λ q. tuple_count c.args.counts.now (sig.sorts_of q)) c.args.relation.0
    (length c.args.signature.now.relations) lt in
    let here = ap (tuple_count c.args.counts.now) c.sorts_of-sorts.ensures.value in
    let first = (c.requires.firsts c.args.relation.0 (omega (arith, lt))).1 in
    let within = c.number_of_tuple.ensures.within in
    omega (arith, ends, here, first, within, c.requires.few)

pub returns-clause-some : goal.returns-clause-some
returns-clause-some c =
    let sig = symbols c.args.signature.now in
    let counts = c.args.counts.now in
    let lt : c.args.relation.0 < length c.args.signature.now.relations =
    omega (arith, c.if-relation-relation_count.false, c.relation_count.ensures) in
    let ends = row-ends (λ q. tuple_count counts (sig.sorts_of q)) c.args.relation.0
    (length c.args.signature.now.relations) lt in
    let first = (c.requires.firsts c.args.relation.0 (omega (arith, lt))).1 in
    let exact : get_or c.args.firsts.now c.args.relation.0 0 ≡ relation_atoms sig counts c.args.relation.0 =
    omega (arith, ends, first, c.requires.few) in
    let inside = c.is_in_range.ensures.decides.0 c.if-not-is_in_range.false in (
      (lt, subst (λ ks. InRange counts ks c.args.terms.now) c.sorts_of-sorts.ensures.value inside),
      (λ i. exact i
          + (c.number_of_tuple.ensures.value
          ∙ ap (λ ks. place_of counts ks c.args.terms.now) c.sorts_of-sorts.ensures.value) i),
    )

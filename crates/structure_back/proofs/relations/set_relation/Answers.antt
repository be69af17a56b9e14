use Rattle.std.proofs.Common.{◌≡◌, ◌<◌, length, ap, sym, subst, ◌∙◌, arith}
use Rattle.fol_sig.specs.Symbols.{symbols}
use Rattle.fol_sig.specs.Tables.{InRange, relation_at}
use Rattle.ground_terms.specs.Values.{elements_of}
use Rattle.structure_back.specs.Rows.{looked_up}
use Rattle.structure_back.proofs.Setting.{picked-within, sets_atom}
use Rattle.structure_back.proofs.relations.set_relation.Goals.{After-as_slice}
use Rattle.structure_back.proofs.relations.set_relation.Goals as goal

known : (c : After-as_slice) → c.args.relation.0 < length c.args.signature.now.relations
known c = omega (arith, c.if-relation-relation_count.false, c.relation_count.ensures)

picked : (c : After-as_slice) → c.as_slice.result.now ≡ elements_of (looked_up c.args.classes.now.numbers)
    ((symbols c.args.signature.now).sorts_of c.args.relation.0) c.args.terms.now
picked c =
    c.as_slice.ensures.value ∙ c.elements-elements.ensures
    ∙ ap (λ ks. elements_of (looked_up c.args.classes.now.numbers) ks c.args.terms.now)
    c.sorts_of-sorts.ensures.value

inside : (c : After-as_slice) → InRange c.args.counts.now
    ((symbols c.args.signature.now).sorts_of c.args.relation.0) c.args.terms.now
inside c =
    subst (λ ks. InRange c.args.counts.now ks c.args.terms.now) c.sorts_of-sorts.ensures.value
    (c.is_in_range.ensures.decides.0 c.if-not-is_in_range.false)

pub set_rel-requires-clause-in_range : goal.set_rel-requires-clause-in_range
set_rel-requires-clause-in_range c =
    let sig = symbols c.args.signature.now in
    let r = c.args.relation.0 in
    let v = looked_up c.args.classes.now.numbers in
    let lt = known c in
    let there =
    picked-within c.args.counts.now c.args.classes.now.sizes.items sig.sorts v c.requires.classes.within
    (sig.sorts_of r) c.args.terms.now (c.sorts-sorts.ensures.sorted.relations r lt) (inside c) in
    subst (InRange c.args.structure.now.sizes (relation_at c.args.structure.now r).sorts) (sym (picked c))
    (subst (λ ks. InRange c.args.structure.now.sizes ks (elements_of v (sig.sorts_of r) c.args.terms.now))
    (c.requires.fits.sorts_of r lt)
    (subst (λ ns. InRange ns (sig.sorts_of r) (elements_of v (sig.sorts_of r) c.args.terms.now))
    (sym c.requires.sizes) there))

pub returns-clause-set : goal.returns-clause-set
returns-clause-set c =
    let sig = symbols c.args.signature.now in
    let before = (goal.at.returns-clause-set c).After-as_slice in
    sets_atom sig c.args.counts.now
    (looked_up c.args.classes.now.numbers) c.args.relation c.args.terms.now c.as_slice.result.now
    c.args.structure.now c.set_rel.new.self
    c.requires.fits (known before, inside before) (picked before) c.set_rel.ensures.set

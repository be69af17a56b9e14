use Rattle.std.proofs.Common.{◌≡◌, ◌++◌, ap, sym, subst, ◌∙◌}
use Rattle.std.specs.Prelude.{map}
use Rattle.fol_sig.specs.Tables.{IsStructure, blank, blank_relation, blank_function}
use Rattle.fol_sig.specs.Symbols.{FitsStructure, symbols}
use Rattle.fol_sig.proofs.Blank.{IsStructure-blank, FitsStructure-blank}
use Rattle.fol_sig.proofs.structure.Structure.new.Goals as goal

same : (c : goal.In_ok-extend_from_slice)
    → record {
      sizes = c.extend_from_slice.new.self.items;
      relations = c.in_ok-relations.relations.items;
      functions = c.in_ok-functions.functions.items;
    } ≡ blank c.args.signature.now c.args.sizes.now
same c =
    let a = c.in_ok-extend_from_slice.ensures.items ∙ ap (λ z. z ++ c.args.sizes.now) c.new-own.ensures.items in
    let b = c.in_ok-relations.ensures ∙ ap (map (blank_relation c.args.sizes.now)) c.relations.ensures.value in
    let d = c.in_ok-functions.ensures ∙ ap (map (λ f. blank_function c.args.sizes.now f.0 f.1.0))
    c.functions.ensures.value in
    cc (a, b, d)

pub invariant_of-result : goal.invariant_of-result
invariant_of-result c =
    subst IsStructure (sym (same c))
    (IsStructure-blank c.args.signature.now c.args.sizes.now c.relations.ensures.signature c.requires.sorts
    c.requires.positive)

pub returns-clause-fits : goal.returns-clause-fits
returns-clause-fits c =
    subst (FitsStructure (symbols c.args.signature.now)) (sym (same c))
    (FitsStructure-blank c.args.signature.now c.args.sizes.now c.relations.ensures.signature c.requires.sorts
    c.requires.positive)

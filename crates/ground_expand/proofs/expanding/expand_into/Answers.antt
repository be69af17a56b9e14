use Rattle.std.proofs.Common.{[], sym, subst, ◌∙◌}
use Rattle.ground_terms.specs.Universe.{symbols_in}
use Rattle.ground_expand.specs.Groundable.{IsGroundable}
use Rattle.ground_expand.proofs.Known.{known}
use Rattle.ground_expand.proofs.expanding.expand_into.Goals as goal

pub expand-requires-clause-known : goal.expand-requires-clause-known
expand-requires-clause-known g c =
    let sig = symbols_in c.args.universe.now in
    subst (IsGroundable sig []) (sym (c.formula-formula.ensures.value ∙ c.sentence.ensures.value))
    (known sig [] c.args.sentence.now c.sentence.ensures.fragment.0 c.requires.normal c.requires.fits)

use Rattle.std.proofs.Common.{true, [], sym, ap, ◌∙◌}
use Rattle.std.specs.Prelude.{sum}
use Rattle.fol_sig.specs.Symbols.{symbols}
use Rattle.fol_nnf.specs.Normal.{normal}
use Rattle.ground_size.specs.Sizes.{size_of}
use Rattle.ea_decide.specs.Passing.{passed_of}
use Rattle.ea_decide.specs.Steps.{more_symbols}
use Rattle.ea_decide.proofs.laws.passing_law.Goals as goal

-- the counts are the only ones
pub returns : goal.returns
returns c =
    λ limits sig p order a b strata fits one other.
    let skolemised = c.exactness.ensures.models sig (normal true p)
    (c.exactness-2.ensures.fits (symbols sig) [] true p fits) in
    let more = (c.growth_laws.ensures.sorts (symbols sig) (more_symbols sig p) skolemised.grows.grows).strata order
    strata in
    let same = c.count_laws.ensures.counts (more_symbols sig p) order one.counts other.counts more one.terms
    other.terms in
    one.first ∙ ap (λ counts. passed_of limits (sum counts) (size_of sig counts p)) same ∙ sym other.first

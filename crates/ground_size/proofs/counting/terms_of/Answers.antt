use Rattle.std.proofs.Common.{◌<◌, ◌∙◌, ap, length}
use Rattle.fol_sig.specs.Symbols.{symbols}
use Rattle.fol_sig.specs.Tables.{tuple_count}
use Rattle.fol_formula.specs.Counts.{saturated}
use Rattle.ground_size.specs.Walks.{own_count}
use Rattle.ground_size.proofs.RowSums.{at-number, sum-turn}
use Rattle.ground_size.proofs.counting.terms_of.Goals as goal

pub from_of-requires : goal.from_of-requires
from_of-requires c =
    at-number (λ f. f < length c.args.signature.now.functions) c.args.functions.now c.loop-function.function-index
    (record { 0 = 0 }) c.requires c.loop-function-test.true

pub loop-function-preserved : goal.loop-function-preserved
loop-function-preserved c =
    sum-turn (own_count (symbols c.args.signature.now) c.args.counts.now) c.args.functions.now c.args.constants
    c.tuples.result c.loop-function.terms _ c.loop-function.function-index (record { 0 = 0 })
    c.loop-function-test.true
    (c.tuples.ensures ∙ ap (λ ks. saturated (tuple_count c.args.counts.now ks)) c.from_of.ensures.value)
    c.loop-function.invariant c.saturating_add-terms.ensures

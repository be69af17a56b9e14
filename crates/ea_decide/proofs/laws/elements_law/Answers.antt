use Rattle.std.proofs.Common.{arith}
use Rattle.std.specs.Prelude.{sum}
use Rattle.ground_size.specs.Sizes.{size_of}
use Rattle.ea_decide.proofs.Numbers.{within}
use Rattle.ea_decide.proofs.laws.elements_law.Goals as goal

pub returns : goal.returns
returns c =
    λ limits sig p t passes few.
    let bound = few passes.counts passes.terms in
    let most = (within limits (sum passes.counts) (size_of sig passes.counts p) passes.first).terms_within in
    omega (arith, bound, most)

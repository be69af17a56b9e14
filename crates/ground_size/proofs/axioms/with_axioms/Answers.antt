use Rattle.std.proofs.Common.{◌≡◌, ◌+◌, ap, ◌∙◌, arith}
use Rattle.fol_sig.specs.Symbols.{symbols}
use Rattle.fol_formula.specs.Counts.{saturated}
use Rattle.ground_size.specs.Sizes.{axiom_count, size_of}
use Rattle.ground_size.proofs.Capped.{size-alike}
use Rattle.ground_size.proofs.axioms.with_axioms.Goals as goal

pub returns : goal.returns
returns c = λ terms p is nodes.
    let sig = c.args.signature.now in
    let counts = c.args.counts.now in
    let axioms = c.axioms.ensures ∙ ap (λ ns. saturated (axiom_count (symbols sig) ns))
    (c.deref.ensures.value ∙ c.counts.view_is) in
    let both : saturated (c.args.nodes + c.axioms.result) ≡ saturated (size_of sig counts p) = omega
    (arith, nodes, axioms) in
    c.saturating_add.ensures ∙ both ∙ ap (λ ns. saturated (size_of sig ns p)) is ∙ size-alike terms sig p

use Rattle.std.proofs.Common.{ap, ◌∙◌}
use Rattle.fol_sig.specs.Symbols.{symbols}
use Rattle.rml_command.specs.Models.{ModelTree}
use Rattle.rml_command.specs.View.{primitive}
use Rattle.rml_exec.proofs.StepLaws.{advanced}
use Rattle.rml_exec.proofs.following.follow.Goals as goal

pub loop-primitive-preserved : goal.loop-primitive-preserved
loop-primitive-preserved c =
    let h = c.loop-primitive.invariant in
    let step = rw c.in-Ended.is at c.in_ok-next.ensures in
    let r = advanced c.args.checked.now.axioms c.axioms-axioms.result.now (symbols c.args.checked.now.signature)
    (primitive c.in-Some.primitive.now) c.loop-primitive.primitive-iterator c.next.new.self
    c.loop-primitive.havocs.now c.havocs_after-havocs.result.now c.loop-primitive.now c.in-Ended.next _
    c.in-Some.ensures.steps (c.axioms-axioms.ensures.value
    ∙ ap (λ (m : ModelTree). m.axioms) c.model-model.ensures.value) c.havocs_after-havocs.ensures step h.fits
    h.structure h.same in
    record { fits = r.fits; structure = r.structure; same = r.same }

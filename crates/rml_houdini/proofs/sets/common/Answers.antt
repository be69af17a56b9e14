use Rattle.std.proofs.Common.{ℕ, List, sym, subst}
use Rattle.std.specs.Prelude.{Vec}
use Rattle.rml_command.specs.InductiveSets.{IsWithin}
use Rattle.rml_houdini.proofs.Drops.{has_at}
use Rattle.rml_houdini.proofs.Sufficing.{pushed_within}
use Rattle.rml_houdini.proofs.sets.common.Goals as goal
use Rattle.rml_houdini.proofs.sets.common.Goals.{then-contains+in_ok-push, else-contains}

pub loop-number-preserved : goal.loop-number-preserved
loop-number-preserved c =
    let others = c.args.others.now in
    let i = c.loop-number.number-index in
    elim c.if-contains.branch [
      | then-contains+in_ok-push w ↦
          subst (λ (v : Vec ℕ _). IsWithin v.items others) (sym w.both-is)
          (subst (λ (l : List ℕ). IsWithin l others) (sym w.in_ok-push.ensures.items)
          (pushed_within others c.loop-number.both.items _ (has_at others i 0 c.loop-number-test.true)
          c.loop-number.invariant))
      | else-contains w ↦
          subst (λ (v : Vec ℕ _). IsWithin v.items others) (sym w.both-is) c.loop-number.invariant
    ]

-- What is counted of the sentence over its own symbols is counted of the lean sentence.
use Rattle.std.proofs.Common.{◌≡◌, subst}
use Rattle.fol_sig.specs.Tables.{Declared}
use Rattle.fol_formula.specs.Syntax.{FormTree}
use Rattle.pruning.specs.Pruned.{occurring_in, pruned_signature, renaming}
use Rattle.pruning.specs.Renaming.{renamed_form}
use Rattle.ground_size.specs.Counting.{skolem_signature}
use Rattle.ea_decide.specs.GroundForm.{skolem_sentence}
use Rattle.limits.specs.Ceilings.{Ceilings}
use Rattle.ea_decide.specs.Measuring.{IsMeasured}
use Rattle.ea_decide.specs.declared.decided.Measured.{Measured}
use Rattle.pruned_decide.specs.Decisions.{IsMeasuredSmall}
use Rattle.pruned_decide.specs.Widened.{IsMeasuredPruned}

module _ (limits : Ceilings) (d : Measured) where
  pub counted_pruned : (whole : Declared) (p : FormTree) (small : Declared) (q : FormTree)
      → small ≡ pruned_signature (occurring_in whole p) whole → q ≡ renamed_form (renaming (occurring_in whole p)) p
      → IsMeasured limits small q d → IsMeasuredPruned limits whole p d
  counted_pruned whole p small q small_is q_is h =
      subst (λ (f : FormTree). IsMeasured limits (pruned_signature (occurring_in whole p) whole) f d) q_is
      (subst (λ (v : Declared). IsMeasured limits v q d) small_is h)

  pub counted_small : (sig : Declared) (p : FormTree) (whole : Declared) (w : FormTree)
      → whole ≡ skolem_signature sig p → w ≡ skolem_sentence sig p → IsMeasuredPruned limits whole w d
      → IsMeasuredSmall limits sig p d
  counted_small sig p whole w whole_is w_is h =
      subst (λ (f : FormTree). IsMeasuredPruned limits (skolem_signature sig p) f d) w_is
      (subst (λ (v : Declared). IsMeasuredPruned limits v w d) whole_is h)

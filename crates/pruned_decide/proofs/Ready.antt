-- A sentence in the signature of its own symbols can be decided and counted where the sentence can.
use Rattle.std.proofs.Common.{◌≡◌, ℕ, List, [], sym, subst}
use Rattle.fol_sig.specs.Tables.{Declared}
use Rattle.fol_sig.specs.Symbols.{symbols}
use Rattle.fol_sig.specs.Strata.{IsStrata}
use Rattle.fol_formula.specs.Syntax.{FormTree}
use Rattle.fol_formula.specs.Fits.{FitsForm}
use Rattle.pruning.specs.Pruned.{occurring_in, pruned_signature, renaming}
use Rattle.pruning.specs.Renaming.{renamed_form}
use Rattle.pruning.specs.Laws.{SignaturesArePruned, FormulasArePruned, OccurringAreKept}

module _ (occurring : OccurringAreKept) (sig : Declared) (q : FormTree) (small : Declared)
    (small_is : small ≡ pruned_signature (occurring_in sig q) sig) where
  pub small_strata : SignaturesArePruned → (order : List ℕ) → IsStrata (symbols sig) order
      → IsStrata (symbols small) order
  small_strata pruned order strata =
      subst (λ (v : Declared). IsStrata (symbols v) order) (sym small_is)
      ((pruned (occurring_in sig q) sig (occurring sig q).flags).strata order strata)

  pub small_ready : FormulasArePruned → (f : FormTree) → f ≡ renamed_form (renaming (occurring_in sig q)) q
      → FitsForm (symbols sig) [] q → FitsForm (symbols small) [] f
  small_ready pruned f f_is fits =
      let keep = occurring sig q in
      let prunes = pruned (occurring_in sig q) sig q keep.flags (keep.only [] fits) in
      subst (λ (v : Declared). FitsForm (symbols v) [] f) (sym small_is)
      (subst (λ (p : FormTree). FitsForm (symbols (pruned_signature (occurring_in sig q) sig)) [] p) (sym f_is)
      (prunes.fits [] fits))

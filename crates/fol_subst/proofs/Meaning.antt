-- A replacement keeps the meaning.
use Rattle.std.proofs.Common.{ℕ, List}
use Rattle.fol_sig.specs.Symbols.{Symbols}
use Rattle.fol_formula.specs.Syntax.{FormTree}
use Rattle.fol_formula.specs.Fits.{FitsForm}
use Rattle.fol_formula.specs.Closed.{FitsIsBound, FitsIsBoundTerm}
use Rattle.fol_subst.specs.Replace.{Change, CanChange, changed_form, IsReplaced}
use Rattle.fol_subst.specs.Outcome.{ReplacementKeepsMeaning}
use Rattle.fol_subst.proofs.Truth.{Reads, truth-changed}
use Rattle.fol_subst.proofs.Ready.{fits_ready}
use Rattle.fol_subst.proofs.Fitting.{changed-fits}
use Rattle.fol_subst.proofs.InStructures.{Updates, in_structures}
use Rattle.fol_subst.proofs.Fragments.{Fragments, keeps_fragments}

-- what the crates below promise
pub record Promised : Type 0 where
  pub reads : Reads
  pub updates : Updates
  pub bound : FitsIsBound
  pub bound_term : FitsIsBoundTerm
  pub fragments : Fragments

module _ (known : Promised) where
  replaced : (sig : Symbols) (sorts : List ℕ) (within : FormTree) (c : Change) → FitsForm sig sorts within
      → CanChange sig sorts c → IsReplaced within c (changed_form c 0 within)
  replaced sig sorts within c h can s env =
      truth-changed known.reads s c env within (fits_ready known.bound known.bound_term sig sorts c can within sorts h)

  pub replacement_keeps_meaning : ReplacementKeepsMeaning
  replacement_keeps_meaning sig sorts within c h can = record {
    truth = replaced sig sorts within c h can;
    in_structures = in_structures known.updates within (changed_form c 0 within) c (replaced sig sorts within c h can);
    fits = λ sig' sorts' h' can'. changed-fits sig' sorts' c can' within h';
    fragments = λ none. keeps_fragments known.fragments c none within;
  }

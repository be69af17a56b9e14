-- What is answered of the sentence in the pruned signature, where its models get the other symbols back. Private
-- contracts alone cite this.
use Rattle.fol_sig.specs.Tables.{Declared, Tables}
use Rattle.fol_sig.specs.Symbols.{symbols}
use Rattle.fol_sig.specs.Constants.{reduct}
use Rattle.fol_formula.specs.Syntax.{FormTree}
use Rattle.pruning.specs.Pruned.{Flags, occurring_in, pruned_signature, renaming, Widens}
use Rattle.pruning.specs.Renaming.{renamed_form}
use Rattle.limits.specs.Ceilings.{Ceilings}
use Rattle.ea_decide.specs.Measuring.{IsMeasured}
use Rattle.ea_decide.specs.Decisions.{IsDecided}
use Rattle.ea_decide.specs.declared.decided.Measured.{Measured}
use Rattle.ea_decide.specs.declared.decided.Decided.{Decided}
use Rattle.ea_decide.specs.declared.decided.Decided.TheVariants.{Refuted, Satisfied, Over}

-- a model, without the constants of the sentence, is widened to the whole signature
abbrev pub IsDecidedWidened : Ceilings → Declared → Flags → Declared → FormTree → Decided → Type 0
IsDecidedWidened limits whole kept small p (Refuted proof) = IsDecided limits small p (Refuted proof)
IsDecidedWidened limits whole kept small p (Satisfied wide) =
    (t : Tables) × IsDecided limits small p (Satisfied t) × Widens kept whole (reduct (symbols small) t) wide
IsDecidedWidened limits whole kept small p (Over passed) = IsDecided limits small p (Over passed)

-- the small one has the symbols that occur in this sentence of the whole signature
abbrev pub IsDecidedPruned : Ceilings → Declared → FormTree → Decided → Type 0
IsDecidedPruned limits whole p d =
    IsDecidedWidened limits whole (occurring_in whole p) (pruned_signature (occurring_in whole p) whole)
    (renamed_form (renaming (occurring_in whole p)) p) d

-- what is counted of the sentence in that signature
abbrev pub IsMeasuredPruned : Ceilings → Declared → FormTree → Measured → Type 0
IsMeasuredPruned limits whole p d =
    IsMeasured limits (pruned_signature (occurring_in whole p) whole)
    (renamed_form (renaming (occurring_in whole p)) p) d

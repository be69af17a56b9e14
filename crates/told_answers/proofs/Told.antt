-- Each structure of a run that is shown has the sizes of the one in which it begins.
use Rattle.std.proofs.Common.{◌≡◌, ℕ, zero, suc, List, [], ◌∷◌, Option, Some, None, refl, ap, ◌∙◌}
use Rattle.std.specs.Prelude.{MatchOption, slice_get}
use Rattle.std.specs.List.{AllByRecursion}
use Rattle.fol_sig.specs.Tables.{Tables}
use Rattle.fol_sig.specs.Symbols.{FitsStructure, symbols}
use Rattle.rml_command.specs.Trees.{PrimitiveTree}
use Rattle.rml_command.specs.Outcomes.{follow_path}
use Rattle.rml_command.specs.Models.{ModelTree}
use Rattle.rml_command.specs.declared.havoc.Havoc.{Havoc}
use Rattle.rml_bmc.specs.Shown.{outcome_of, EndFits, AreParts, IsShownRun}
use Rattle.rml_bmc.specs.Bounds.{ShowsBreak}
use Rattle.rml_bmc.specs.declared.answer.Part.{Part}
use Rattle.rml_bmc.specs.declared.answer.Run.{Run}
use Rattle.rml_bmc.specs.declared.answer.Length.{Length}
use Rattle.rml_bmc.specs.declared.answer.Length.TheVariants as answer
use Rattle.bounded_text.specs.BoundedText as plain
use Rattle.bounded_text.specs.Laws.{BoundedCanBeRendered}
use Rattle.told_states.specs.Laws.{EndsAreAlike}
use Rattle.told_answers.specs.RunsText.{EndIsAlike, CanTellRun, CanTell}
use Rattle.told_answers.specs.Laws.{BoundedCanBeTold}

module _ (alike : EndsAreAlike) (m : ModelTree) where
  end_fits : (e : Option Tables) (p : List PrimitiveTree) (hs : List Havoc) (sizes : List ℕ) (s : Tables)
      → FitsStructure (symbols m.signature) s → s.sizes ≡ sizes → EndFits (symbols m.signature) e
      → follow_path m.axioms p hs s ≡ Some (outcome_of e) → EndIsAlike m sizes e
  end_fits None p hs sizes s fits same end ends = tt
  end_fits (Some t) p hs sizes s fits same end ends =
      (end, (alike m.axioms p hs (symbols m.signature) s t fits end ends).sizes ∙ same)

  parts_fit : (e : Option Tables) (sizes : List ℕ) (parts : List Part) → EndIsAlike m sizes e
      → MatchOption e (parts ≡ []) (λ t. AreParts m t parts)
      → AllByRecursion (λ part. EndFits (symbols m.signature) part.end) parts
      → AllByRecursion (λ part. EndIsAlike m sizes part.end) parts
  parts_fit e sizes [] fits are ends = tt
  parts_fit None sizes (part ∷ parts) fits are ends = absurd (cc are)
  parts_fit (Some s) sizes (part ∷ parts) fits are ends =
      let here = end_fits part.end are.0.path part.trace.havoc sizes s fits.0 fits.1 ends.0 are.0.ends in
      (here, parts_fit part.end sizes parts here are.1 ends.1)

  can_show : (run : Run) → plain.CanShow m run → IsShownRun m run → CanTellRun m run
  can_show run can shown = record {
    start = can.start;
    ends = parts_fit (Some run.start) run.start.sizes run.parts (can.start, refl) shown.parts can.ends;
  }

  can_tell : (l : Length) → ((run : Run) → l ≡ answer.Broken run → ShowsBreak m run) → plain.CanRender m l
      → CanTell m l
  can_tell answer.Safe each can = tt
  can_tell (answer.Undecided c) each can = tt
  can_tell (answer.Broken run) each can = can_show run can (each run refl).shown

  all_told : (ls : List Length) → ((k : ℕ) (run : Run) → slice_get ls k ≡ Some (answer.Broken run) → ShowsBreak m run)
      → AllByRecursion (plain.CanRender m) ls → AllByRecursion (CanTell m) ls
  all_told [] each can = tt
  all_told (l ∷ ls) each can = (
    can_tell l (λ run is. each zero run (ap (λ x. Some x) is)) can.0,
    all_told ls (λ k run is. each (suc k) run is) can.1,
  )

pub told : BoundedCanBeRendered → EndsAreAlike → BoundedCanBeTold
told rendered alike counted limits m steps b checked bounded =
    all_told alike m b.lengths bounded.broken (rendered counted limits m steps b checked bounded)

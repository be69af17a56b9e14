-- Each structure of a run that is shown has the model's symbols, and each part takes a path of the model.
use Rattle.std.proofs.Common.{◌≡◌, inl, inr, ℕ, zero, suc, List, [], ◌∷◌, Option, Some, None, refl, sym, subst}
use Rattle.std.specs.Prelude.{MatchOption, slice_get}
use Rattle.std.specs.List.{AllByRecursion}
use Rattle.fol_sig.specs.Tables.{Tables}
use Rattle.fol_sig.specs.Symbols.{FitsStructure, symbols}
use Rattle.fol_sig.specs.TupleSets.{with_table}
use Rattle.rml_command.specs.Trees.{PrimitiveTree, assume, set_rel, set_fun, havoc, havoc_rel, abort}
use Rattle.rml_command.specs.Outcomes.{ended, PrimitiveHasOutcome, PathHasOutcome}
use Rattle.rml_command.specs.Outcomes.{set_relation, set_function, set_variable}
use Rattle.rml_command.specs.Models.{ModelTree, FitsPrimitive, FitsPath}
use Rattle.rml_command.specs.Fragment.{IsChecked}
use Rattle.rml_command.specs.Laws.{UpdatesKeepSymbols, PathHasFollowedOutcomes, GoalPathsFit}
use Rattle.rml_command.specs.declared.goal.About.TheVariants as about
use Rattle.limits.specs.Ceilings.{Ceilings}
use Rattle.rml_bmc.specs.Shown.{outcome_of, EndFits, IsPart, AreParts, IsShownRun}
use Rattle.rml_bmc.specs.Bounds.{IsBounded}
use Rattle.rml_bmc.specs.declared.answer.Part.{Part}
use Rattle.rml_bmc.specs.declared.answer.Run.{Run}
use Rattle.rml_bmc.specs.declared.answer.Bounded.{Bounded}
use Rattle.rml_bmc.specs.declared.answer.Length.{Length}
use Rattle.rml_bmc.specs.declared.answer.Length.TheVariants as answer
use Rattle.bounded_text.specs.BoundedText.{HasPath, CanShow, CanRender}
use Rattle.bounded_text.specs.Laws.{BoundedCanBeRendered}

-- what is so of each entry is so of all
all_entries : {A : Type 0} (P : A → Type 0) (xs : List A) → ((k : ℕ) (x : A) → slice_get xs k ≡ Some x → P x)
    → AllByRecursion P xs
all_entries P [] each = tt
all_entries P (x ∷ xs) each = (each 0 x refl, all_entries P xs (λ k y e. each (suc k) y e))

module _ (keep : UpdatesKeepSymbols) (followed : PathHasFollowedOutcomes) (fit : GoalPathsFit) (m : ModelTree)
    (checked : IsChecked m) where
  abbrev Fits : Tables → Type 0
  Fits s = FitsStructure (symbols m.signature) s

  step_fits : (q : PrimitiveTree) (s new : Tables) → FitsPrimitive (symbols m.signature) q → Fits s
      → PrimitiveHasOutcome m.axioms q s (ended new) → Fits new
  step_fits (assume p) s new f fits h = let same : new ≡ s = cc h.0 in subst Fits (sym same) fits
  step_fits (set_rel r by) s new f fits h =
      let same : new ≡ set_relation s r by = cc h.0 in
      subst Fits (sym same) (keep.relation (symbols m.signature) s r by f fits)
  step_fits (set_fun g by) s new f fits h =
      let same : new ≡ set_function s g by = cc h.0 in
      subst Fits (sym same) (keep.function (symbols m.signature) s g by f fits)
  step_fits (havoc v) s new f fits h =
      let same : new ≡ set_variable s v h.0 = cc h.2.0 in
      subst Fits (sym same) (keep.variable (symbols m.signature) s v h.0 f h.1 fits)
  step_fits (havoc_rel r) s new f fits h =
      let same : new ≡ with_table s r h.0 = cc h.1.0 in
      subst Fits (sym same) (keep.table (symbols m.signature) s r h.0 f fits)
  step_fits abort s new f fits h = absurd (cc h)

  path_fits : (p : List PrimitiveTree) (s new : Tables) → FitsPath (symbols m.signature) p → Fits s
      → PathHasOutcome m.axioms p s (ended new) → Fits new
  path_fits [] s new f fits h = let same : new ≡ s = cc h in subst Fits (sym same) fits
  path_fits (q ∷ qs) s new f fits (inl h) = let e = h.0 in absurd (cc)
  path_fits (q ∷ qs) s new f fits (inr h) = path_fits qs h.0 new f.1 (step_fits q s h.0 f.0 fits h.1) h.2

  end_fits : (e : Option Tables) (p : List PrimitiveTree) (s : Tables) → FitsPath (symbols m.signature) p → Fits s
      → PathHasOutcome m.axioms p s (outcome_of e) → EndFits (symbols m.signature) e
  end_fits None p s f fits h = tt
  end_fits (Some new) p s f fits h = path_fits p s new f fits h

  part_fits : (s : Tables) (part : Part) → Fits s → IsPart m s part → EndFits (symbols m.signature) part.end
  part_fits s part fits is =
      end_fits part.end is.path s
      (fit.symbols_fit m (record { stage = part.stage; path = part.trace.path; about = about.Abort }) is.path
      checked.model.fits is.is_path) fits
      ((followed m.axioms is.path s (outcome_of part.end)).1
      (record { havocs = part.trace.havoc; count = is.count; ends = is.ends }))

  parts_fit : (e : Option Tables) (parts : List Part) → EndFits (symbols m.signature) e
      → MatchOption e (parts ≡ []) (λ t. AreParts m t parts) → AllByRecursion (λ part. EndFits (symbols m.signature) part.end) parts
  parts_fit e [] fits are = tt
  parts_fit None (part ∷ parts) fits are = absurd (cc are)
  parts_fit (Some s) (part ∷ parts) fits are =
      let here = part_fits s part fits are.0 in (here, parts_fit part.end parts here are.1)

  parts_known : (e : Option Tables) (parts : List Part) → MatchOption e (parts ≡ []) (λ t. AreParts m t parts)
      → AllByRecursion (HasPath m) parts
  parts_known e [] are = tt
  parts_known None (part ∷ parts) are = absurd (cc are)
  parts_known (Some s) (part ∷ parts) are =
      (record { path = are.0.path; is_path = are.0.is_path }, parts_known part.end parts are.1)

  can_show : (run : Run) → IsShownRun m run → CanShow m run
  can_show run shown = record {
    start = shown.structure;
    paths = parts_known (Some run.start) run.parts shown.parts;
    ends = parts_fit (Some run.start) run.parts shown.structure shown.parts;
  }

  can_render : (l : Length) → ((run : Run) → l ≡ answer.Broken run → IsShownRun m run) → CanRender m l
  can_render answer.Safe shown = tt
  can_render (answer.Undecided c) shown = tt
  can_render (answer.Broken run) shown = can_show run (shown run refl)

pub renderable : UpdatesKeepSymbols → PathHasFollowedOutcomes → GoalPathsFit → BoundedCanBeRendered
renderable keep followed fit counted limits m steps b checked is =
    all_entries (CanRender m) b.lengths
    (λ k l e. can_render keep followed fit m checked l
    (λ run same. (is.broken k run (subst (λ x. slice_get b.lengths k ≡ Some x) same e)).shown))

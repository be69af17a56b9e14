-- What is decided under bounds that are said otherwise, or only in part, holds under the bounds.
use Rattle.std.proofs.Common.{◌≡◌, ℕ, ◌+◌, ◌≤◌, List, [], ◌∷◌, ◌++◌, sum, length, take, subst, ⊎_elim, arith}
use Rattle.std.proofs.lemmas.Bool.{cases_lt}
use Rattle.fol_sig.specs.Tables.{Declared}
use Rattle.fol_formula.specs.Syntax.{FormTree}
use Rattle.rml_command.specs.Models.{ModelTree}
use Rattle.rml_command.specs.declared.goal.Goal.{Goal}
use Rattle.rml_exec.specs.declared.trace.Counterexample.{Counterexample}
use Rattle.limits.specs.Ceilings.{Ceilings}
use Rattle.obligation_decide.specs.Restricted.{HasNoneWhere, IsFailingWhere}
use Rattle.cti_minimise.specs.Bounding.{bound_at, bounds_by, bounds_on}
use Rattle.cti_minimise.specs.Extents.{extent, places}
use Rattle.cti_minimise.specs.Laws.{AreBounds, AreImplied}
use Rattle.cti_minimise.specs.Steps.{PassWith, AllPassAt}
use Rattle.cti_minimise.specs.Within.{numbers_within, AreBoundsFor, AreAtMost}
use Rattle.cti_minimise.specs.declared.bounds.Bounds.{Bounds}
use Rattle.cti_minimise.specs.declared.trials.Trials.{Trials}
use Rattle.cti_minimise.proofs.Searching.{length-up-to}
use Rattle.cti_minimise.proofs.BoundLaws.{implied-by}
use Rattle.cti_minimise.proofs.Bounded.{bounded, within}
use Rattle.obligation_decide.specs.GoalDecisions.{IsFailing}

-- under other limits with the same most terms it is a counterexample too
pub still-failing : (narrow limits : Ceilings) (m : ModelTree) (goal : Goal) (shown : Counterexample)
    → narrow.terms ≡ limits.terms → IsFailing narrow m m.conjectures goal shown → IsFailing limits m m.conjectures goal shown
still-failing narrow limits m goal shown same failing = record {
  same = failing.same;
  path = failing.path;
  refutes = failing.refutes;
  few = subst (λ (n : ℕ). sum shown.structure.sizes ≤ n) same failing.few;
}

module _ (m : ModelTree) (goal : Goal) (numbers : List ℕ) (few : length numbers ≤ places m.signature)
    (named : AreBounds m.signature (bound_at m.signature)) where
  pub none-otherwise : (said : ℕ → ℕ → FormTree) → AreImplied m.signature said
      → HasNoneWhere m (bounds_by said 0 numbers) goal → HasNoneWhere m (bounds_on m.signature numbers) goal
  none-otherwise said laws none t havocs values counterexample lawful =
      let fits = counterexample.structure in
      none t havocs values counterexample
      (bounded said m.signature t fits laws 0 numbers (omega (arith, few))
      (within (bound_at m.signature) m.signature t fits named 0 numbers (omega (arith, few)) lawful))

  pub failing-within : (limits : Ceilings) (shown : Counterexample) → IsFailing limits m m.conjectures goal shown
      → AreAtMost (extent shown.structure) numbers → IsFailingWhere limits m (bounds_on m.signature numbers) goal shown
  failing-within limits shown failing most = (
    failing,
    bounded (bound_at m.signature) m.signature shown.structure failing.refutes.structure
        (implied-by m.signature (bound_at m.signature) named) 0 numbers (omega (arith, few)) most,
  )

-- there are not more bounds than places
pub few-within : (sig : Declared) (b : Bounds) → AreBoundsFor sig b → length (numbers_within b) ≤ places sig
few-within sig b bounds =
    let place = bounds.place in
    let count = bounds.count in
    let all = length-up-to b.numbers.now b.place b.most place in
    omega (arith, all, place, count)

module _ (t : Trials) (numbers : List ℕ) (place low : ℕ) where
  -- one bound more passes no limit
  pub pass-next : (n : ℕ) → PassWith t (take place numbers ++ n ∷ []) → AllPassAt t numbers place low n
      → AllPassAt t numbers place low (n + 1)
  pass-next n here before k le below =
      ⊎_elim
      (λ less. before k le less)
      (λ ge.
      let same : n ≡ k = omega (arith, ge, below) in
      subst (λ (j : ℕ). PassWith t (take place numbers ++ j ∷ [])) same here)
      (cases_lt k n)

  pub pass-fewer : (n high : ℕ) → high ≤ n → AllPassAt t numbers place low n → AllPassAt t numbers place low high
  pass-fewer n high le all k least below = all k least (omega (arith, le, below))

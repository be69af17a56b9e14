-- The limit that a sentence passes first is a function of the sentence, and its clauses are as few as counted.
use Rattle.std.specs.Prelude.{◌≡◌, ◌↔◌, ◌≤◌, ◌*◌, ℕ, Bool, true, List, [], Option, None, length, sum}
use Rattle.fol_sig.specs.Tables.{Declared, Tables, reading}
use Rattle.fol_sig.specs.Symbols.{AreSorted, FitsStructure, symbols}
use Rattle.fol_sig.specs.Strata.{IsStrata}
use Rattle.fol_formula.specs.Syntax.{FormTree}
use Rattle.fol_formula.specs.Truth.{truth}
use Rattle.fol_formula.specs.Fits.{FitsForm}
use Rattle.fol_formula.specs.Fragments.{IsEa}
use Rattle.cnf_base.specs.Formulas.{Formula, IsModel, IsUnsatisfiable}
use Rattle.ground_terms.specs.Terms.{Lists, AreClosed, term_counts}
use Rattle.ground_terms.specs.Trees.{trees_of}
use Rattle.clause_form.specs.Clauses.{clause_form}
use Rattle.ground_size.specs.Counting.{skolem_signature}
use Rattle.ground_size.specs.Sizes.{size_of}
use Rattle.ea_decide.specs.declared.decided.Passed.{Passed}
use Rattle.ea_decide.specs.GroundForm.{ground_formulas, IsClauseForm}
use Rattle.ea_decide.specs.Decisions.{HasNoModel, HasFewElements}
use Rattle.limits.specs.Ceilings.{Ceilings}
use Rattle.ea_decide.specs.Passing.{Passes}

-- where the sorts have an order
abbrev pub FirstLimitIsOne : Type 0
FirstLimitIsOne = (limits : Ceilings) (sig : Declared) (p : FormTree) (order : List ℕ) (a b : Option Passed)
    → IsStrata (symbols sig) order → FitsForm (symbols sig) [] p
    → Passes limits sig p a → Passes limits sig p b → a ≡ b

-- What has no more elements than a sentence has ground terms has no more than the limit of these, where the sentence
-- passes none.
abbrev pub FewElementsAreWithin : Type 0
FewElementsAreWithin = (limits : Ceilings) (sig : Declared) (p : FormTree) (t : Tables)
    → Passes limits sig p None → HasFewElements sig p t → sum t.sizes ≤ limits.terms

-- how large clauses are, for a size
pub record AreWithin (size : ℕ) (f : Formula) : Type 0 where
  pub clauses : length f.clauses ≤ 2 * size
  pub variables : f.variables ≤ 2 * size

-- the clauses of a sentence are within its ground size, which is counted before any is made
abbrev pub ClausesAreWithinSize : Type 0
ClausesAreWithinSize = (sig : Declared) (p : FormTree) (lists : Lists)
    → AreSorted (symbols sig) → IsEa p → FitsForm (symbols sig) [] p
    → AreClosed (symbols (skolem_signature sig p)) lists
    → AreWithin (size_of sig (term_counts lists) p) (clause_form (trees_of (ground_formulas sig p lists)))

-- A sentence has one clause form.
abbrev pub ClauseFormIsOne : Type 0
ClauseFormIsOne = (sig : Declared) (p : FormTree) (order : List ℕ) (f g : Formula)
    → IsStrata (symbols sig) order → FitsForm (symbols sig) [] p
    → IsClauseForm sig p f → IsClauseForm sig p g → f ≡ g

-- Where no truth values satisfy the clauses, no structure satisfies the sentence.
abbrev pub ClauseFormRefutes : Type 0
ClauseFormRefutes = (sig : Declared) (p : FormTree) (order : List ℕ) (f : Formula)
    → AreSorted (symbols sig) → IsStrata (symbols sig) order → IsEa p → FitsForm (symbols sig) [] p
    → IsClauseForm sig p f → IsUnsatisfiable f → HasNoModel sig p

-- some truth values satisfy the clauses
abbrev pub IsSatisfiable : Formula → Type 0
IsSatisfiable f = (values : List Bool) × IsModel f values

-- some structure of the signature satisfies the sentence
abbrev pub HasModel : Declared → FormTree → Type 0
HasModel sig p = (s : Tables) × FitsStructure (symbols sig) s × (truth (reading s) p [] ≡ true)

-- Truth values satisfy the clauses exactly where a structure satisfies the sentence.
abbrev pub ClauseFormIsExact : Type 0
ClauseFormIsExact = (sig : Declared) (p : FormTree) (order : List ℕ) (f : Formula)
    → AreSorted (symbols sig) → IsStrata (symbols sig) order → IsEa p → FitsForm (symbols sig) [] p
    → IsClauseForm sig p f → IsSatisfiable f ↔ HasModel sig p

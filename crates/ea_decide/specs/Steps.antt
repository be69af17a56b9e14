-- What the steps of a decision hand on. Private contracts alone cite this.
use Rattle.std.specs.Prelude.{◌≡◌, ℕ, ◌+◌, ◌<◌, ◌≤◌, ◌^◌, Bool, true, List, [], length, sum, None}
use Rattle.fol_sig.specs.Tables.{Declared, Tables, reading}
use Rattle.fol_sig.specs.Symbols.{Symbols, AreSorted, FitsStructure, symbols}
use Rattle.fol_sig.specs.Strata.{IsStrata}
use Rattle.fol_formula.specs.Syntax.{FormTree}
use Rattle.fol_formula.specs.Truth.{truth}
use Rattle.fol_formula.specs.Fits.{FitsForm}
use Rattle.fol_formula.specs.Fragments.{IsEa}
use Rattle.fol_nnf.specs.Normal.{normal}
use Rattle.skolem.specs.Constants.{new_sorts}
use Rattle.skolem.specs.Laws.{IsModel}
use Rattle.cnf_base.specs.Formulas as formulas
use Rattle.cnf_base.specs.Formulas.{Formula, Satisfies, IsUnsatisfiable, value_of}
use Rattle.ground_terms.specs.Terms.{Lists, AreClosed, term_counts}
use Rattle.ground_terms.specs.TermCounts.{HasFewTerms}
use Rattle.ground_terms.specs.Trees.{all_true, trees_of}
use Rattle.ground_terms.specs.Same.{holds_in}
use Rattle.ground_terms.specs.declared.atom.Atom.{Atom}
use Rattle.equality_axioms.specs.Axioms.{equality_axioms}
use Rattle.clause_form.specs.Clauses.{clause_form}
use Rattle.clause_form.specs.Meaning.{atoms_of, true_atoms}
use Rattle.structure_back.specs.ReadBack.{IsReadBack}
use Rattle.ground_size.specs.Counting.{skolem_signature, AreTermCounts}
use Rattle.ea_decide.specs.GroundForm.{skolem_sentence, ground_formulas}
use Rattle.limits.specs.Ceilings.{Ceilings}
use Rattle.ea_decide.specs.Passing.{Passes}
use Rattle.ea_decide.specs.Decisions.{HasNoModel, Refutes, IsSmallModel, SpendsBudget}
use Rattle.ea_decide.specs.declared.decided.Passed.TheVariants.{Conflicts}
use Rattle.ea_decide.specs.declared.decided.Decided.{Decided}
use Rattle.ea_decide.specs.declared.decided.Decided.TheVariants.{Refuted, Satisfied, Over}

-- the symbols of the signature with the sentence's constants
abbrev pub more_symbols : Declared → FormTree → Symbols
more_symbols sig p = symbols (skolem_signature sig p)

-- a sentence of an ordered signature, which can be written out over its ground terms
pub record IsGroundable (sig : Declared) (p : FormTree) (order : List ℕ) : Type 0 where
  pub sorted : AreSorted (symbols sig)
  pub strata : IsStrata (symbols sig) order
  pub fits : FitsForm (symbols sig) [] p
  pub fragment : IsEa p

-- clauses that a solver takes, whatever its budget
pub record IsSmallForm (f : Formula) : Type 0 where
  pub variables : f.variables ≤ 2147483647
  pub clauses : length f.clauses ≤ 400000000

-- ground terms that can be numbered, as many as are counted, and ground formulas that can be written out
pub record HasRoom (sig : Declared) (p : FormTree) : Type 0 where
  pub constants : length sig.functions + length (new_sorts (normal true p)) < 2 ^ 32
  pub numbered : HasFewTerms (more_symbols sig p)
  pub small : (lists : Lists) → AreClosed (more_symbols sig p) lists
      → IsSmallForm (clause_form (trees_of (ground_formulas sig p lists)))
  pub counted : (lists : Lists) (counts : List ℕ) → AreClosed (more_symbols sig p) lists → AreTermCounts sig p counts
      → term_counts lists ≡ counts

-- so it is of a sentence that passes none of these limits, if they are at most 100,000 terms and a size of 50,000,000
abbrev pub RoomIsWithinLimits : Type 0
RoomIsWithinLimits = (limits : Ceilings) (sig : Declared) (p : FormTree) (order : List ℕ)
    → IsGroundable sig p order → limits.terms ≤ 100000 → limits.size ≤ 50000000 → Passes limits sig p None
    → HasRoom sig p

-- an order of the sorts is one with the sentence's constants, too
abbrev pub StrataStay : Type 0
StrataStay = (sig : Declared) (p : FormTree) (order : List ℕ) → IsGroundable sig p order
    → IsStrata (more_symbols sig p) order

-- where no values satisfy the clauses, no structure satisfies the sentence
abbrev pub ClausesRefute : Type 0
ClausesRefute = (sig : Declared) (p : FormTree) (order : List ℕ) (lists : Lists)
    → IsGroundable sig p order → AreClosed (more_symbols sig p) lists
    → IsUnsatisfiable (clause_form (trees_of (ground_formulas sig p lists))) → HasNoModel sig p

-- a structure that satisfies the sentence gives values that satisfy the clauses
abbrev pub ModelsGiveValues : Type 0
ModelsGiveValues = (sig : Declared) (p : FormTree) (order : List ℕ) (lists : Lists) (s : Tables)
    → IsGroundable sig p order → AreClosed (more_symbols sig p) lists
    → FitsStructure (symbols sig) s → truth (reading s) p [] ≡ true
    → (values : List Bool) × formulas.IsModel (clause_form (trees_of (ground_formulas sig p lists))) values

-- the atoms that some values make true
abbrev pub assigned : Declared → FormTree → Lists → List Bool → List Atom
assigned sig p lists values = true_atoms values (atoms_of (trees_of (ground_formulas sig p lists)))

-- Values that satisfy the clauses make the axioms of equality true, and a structure that is read back from them
-- satisfies the sentence with constants, and has no more elements than there are terms.
pub record AreReadable (sig : Declared) (p : FormTree) (lists : Lists) (values : List Bool) : Type 0 where
  pub equality : all_true (holds_in (assigned sig p lists values))
      (trees_of (equality_axioms (more_symbols sig p) lists)) ≡ true
  pub models : (t : Tables) → IsReadBack (more_symbols sig p) lists (holds_in (assigned sig p lists values)) t
      → IsModel (more_symbols sig p) (skolem_sentence sig p) t
  pub few : (t : Tables) → IsReadBack (more_symbols sig p) lists (holds_in (assigned sig p lists values)) t
      → sum t.sizes ≤ sum (term_counts lists)

-- so it is of all values that satisfy the clauses of a sentence
abbrev pub ValuesAreReadable : Type 0
ValuesAreReadable = (sig : Declared) (p : FormTree) (order : List ℕ) (lists : Lists) (values : List Bool)
    → IsGroundable sig p order → AreClosed (more_symbols sig p) lists
    → Satisfies (value_of values) (clause_form (trees_of (ground_formulas sig p lists)))
    → AreReadable sig p lists values

-- what a search over the clauses of a sentence shows of it
abbrev pub IsSearchedFor : Ceilings → Declared → FormTree → Decided → Type 0
IsSearchedFor limits sig p (Refuted proof) = HasNoModel sig p × Refutes sig p proof
IsSearchedFor limits sig p (Satisfied t) = IsSmallModel sig p t
IsSearchedFor limits sig p (Over passed) = (passed ≡ Conflicts limits.conflicts) × SpendsBudget sig p limits.conflicts

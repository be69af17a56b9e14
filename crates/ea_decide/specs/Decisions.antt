-- What is answered of an exists-forall sentence, and what shows it.
use Rattle.std.specs.Prelude.{◌≡◌, ℕ, ◌≤◌, true, List, [], sum, Some, None}
use Rattle.fol_sig.specs.Tables.{Declared, Tables, reading}
use Rattle.fol_sig.specs.Symbols.{FitsStructure, symbols}
use Rattle.fol_formula.specs.Syntax.{FormTree}
use Rattle.fol_formula.specs.Truth.{truth}
use Rattle.lrat_log.specs.declared.line.Line.{Line}
use Rattle.lrat_log.specs.Refutations.{IsSpent}
use Rattle.cnf_base.specs.Formulas.{Formula}
use Rattle.cnf_base.specs.Writing.{CanWrite}
use Rattle.lrat_check.specs.Checked.{Checked}
use Rattle.skolem.specs.Laws.{IsModel}
use Rattle.ground_size.specs.Counting.{skolem_signature, AreTermCounts}
use Rattle.ea_decide.specs.GroundForm.{skolem_sentence, IsClauseForm}
use Rattle.limits.specs.Ceilings.{Ceilings}
use Rattle.ea_decide.specs.Passing.{Passes}
use Rattle.ea_decide.specs.declared.decided.Passed.{Passed}
use Rattle.ea_decide.specs.declared.decided.Passed.TheVariants.{Conflicts}
use Rattle.ea_decide.specs.declared.decided.Clauses.{Clauses}
use Rattle.ea_decide.specs.declared.decided.Clauses.TheVariants.{Written}
use Rattle.ea_decide.specs.declared.decided.Clauses.TheVariants as clauses
use Rattle.ea_decide.specs.declared.decided.Decided.{Decided}
use Rattle.ea_decide.specs.declared.decided.Decided.TheVariants.{Refuted, Satisfied, Over}

-- no structure of the signature satisfies the sentence
abbrev pub HasNoModel : Declared → FormTree → Type 0
HasNoModel sig p = (s : Tables) → FitsStructure (symbols sig) s → truth (reading s) p [] ≡ true → ⊥

-- A refutation of the sentence: the checker took the clauses of the sentence, and a log that refutes them. (That the
-- log was accepted and refutes is what every Proof keeps.)
abbrev pub Refutes : Declared → FormTree → Checked → Type 0
Refutes sig p proof = IsClauseForm sig p proof.formula

-- the structure has no more elements than the sentence has ground terms
abbrev pub HasFewElements : Declared → FormTree → Tables → Type 0
HasFewElements sig p t = (counts : List ℕ) → AreTermCounts sig p counts → sum t.sizes ≤ sum counts

-- the structure, which has the constants too, satisfies the sentence with constants, and has so few elements
pub record IsSmallModel (sig : Declared) (p : FormTree) (t : Tables) : Type 0 where
  pub model : IsModel (symbols (skolem_signature sig p)) (skolem_sentence sig p) t
  pub few : HasFewElements sig p t

-- a budget of so many learnt clauses is spent on the clauses of the sentence
pub record SpendsBudget (sig : Declared) (p : FormTree) (budget : ℕ) : Type 0 where
  pub formula : Formula
  pub lines : List Line
  pub clauses : IsClauseForm sig p formula
  pub spent : IsSpent formula budget lines

-- no limit is passed by the sentence's size, and the budget of conflicts is spent; or the sentence passes this limit
abbrev pub IsOver : Ceilings → Declared → FormTree → Passed → Type 0
IsOver limits sig p (Conflicts n) = Passes limits sig p None × (n ≡ limits.conflicts) × SpendsBudget sig p n
IsOver limits sig p passed = Passes limits sig p (Some passed)

-- The answer to a sentence under limits.
abbrev pub IsDecided : Ceilings → Declared → FormTree → Decided → Type 0
IsDecided limits sig p (Refuted proof) = Passes limits sig p None × HasNoModel sig p × Refutes sig p proof
IsDecided limits sig p (Satisfied t) = Passes limits sig p None × IsSmallModel sig p t
IsDecided limits sig p (Over passed) = IsOver limits sig p passed

-- The clauses of a sentence, which can be written as a text, where it passes no limit by its size.
abbrev pub AreClauses : Ceilings → Declared → FormTree → Clauses → Type 0
AreClauses limits sig p (Written f) = Passes limits sig p None × IsClauseForm sig p f × CanWrite f
AreClauses limits sig p (clauses.Over passed) = Passes limits sig p (Some passed)

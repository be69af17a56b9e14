-- The signature over which a goal's sentences are, beside the model's, and the structures over both.
use Rattle.std.specs.Prelude.{◌≡◌, ℕ, true, List, []}
use Rattle.std.specs.List.{AllByRecursion}
use Rattle.fol_sig.specs.Tables.{Tables, IsSignature}
use Rattle.fol_sig.specs.Symbols.{AreSorted, FitsStructure, symbols}
use Rattle.fol_sig.specs.Strata.{IsStrata}
use Rattle.fol_sig.specs.Constants.{reduct}
use Rattle.fol_sig.specs.Growing.{Grows}
use Rattle.fol_formula.specs.Syntax.{FormTree}
use Rattle.fol_formula.specs.Fits.{FitsForm}
use Rattle.fol_formula.specs.Sentences.{is_true}
use Rattle.rml_command.specs.Models.{ModelTree, FitsModel}
use Rattle.rml_command.specs.Goals.{IsGoal, IsCounterexample}
use Rattle.rml_command.specs.declared.goal.Goal.{Goal}
use Rattle.rml_command.specs.declared.havoc.Havoc.{Havoc}
use Rattle.rml_wp.specs.declared.premises.Premises.{Premises}
use Rattle.rml_wp.specs.Preconditions.{answered, refuting}

-- The answered signature has the model's symbols, and each order of the model's sorts is one of its own. The model's
-- sentences are sentences over it, and true in a structure exactly where they are in the structure that is cut to the
-- model's signature.
pub record IsAnswered (m : ModelTree) (goal : Goal) : Type 0 where
  pub grows : Grows (symbols m.signature) (symbols (answered m goal))
  pub sorted : AreSorted (symbols m.signature) → AreSorted (symbols (answered m goal))
  pub strata : (order : List ℕ) → IsStrata (symbols m.signature) order → IsStrata (symbols (answered m goal)) order
  pub sentences : (c : FormTree) → FitsForm (symbols m.signature) [] c → FitsForm (symbols (answered m goal)) [] c
  pub structures : (t : Tables) → FitsStructure (symbols (answered m goal)) t
      → FitsStructure (symbols m.signature) (reduct (symbols m.signature) t)
  pub truths : (t : Tables) (c : FormTree) → FitsStructure (symbols (answered m goal)) t
      → FitsForm (symbols m.signature) [] c → is_true t c ≡ is_true (reduct (symbols m.signature) t) c

-- So it is of each goal of a model.
abbrev pub SignaturesAreAnswered : Type 0
SignaturesAreAnswered = (m : ModelTree) (goal : Goal) → FitsModel m → IsSignature m.signature → IsGoal m goal
    → IsAnswered m goal

-- The structure is one over the answered signature that satisfies the sentence, cut to the model's signature.
pub record IsCutOfSatisfying (m : ModelTree) (goal : Goal) (p : FormTree) (s : Tables) : Type 0 where
  pub whole : Tables
  pub fits : FitsStructure (symbols (answered m goal)) whole
  pub cut : s ≡ reduct (symbols m.signature) whole
  pub holds : is_true whole p ≡ true

-- The structure of each counterexample of a goal is such a cut, whatever its trace: its tables are those of the fresh
-- relations.
abbrev pub CounterexamplesAreCuts : Type 0
CounterexamplesAreCuts = (premises : Premises) (m : ModelTree) (held : List FormTree) (goal : Goal) (s : Tables)
    (havocs : List Havoc) (values : List ℕ) → FitsModel m → IsSignature m.signature
    → AllByRecursion (FitsForm (symbols m.signature) []) held → IsGoal m goal
    → IsCounterexample m held goal s havocs values
    → IsCutOfSatisfying m goal (refuting premises m held goal) s

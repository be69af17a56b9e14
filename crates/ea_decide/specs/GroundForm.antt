-- From a sentence to clauses: constants in the place of its existentials, its instance over the ground terms, and the
-- axioms of equality over them.
use Rattle.std.specs.Prelude.{◌≡◌, true, List, ◌∷◌, length}
use Rattle.fol_sig.specs.Tables.{Declared}
use Rattle.fol_sig.specs.Symbols.{symbols}
use Rattle.fol_formula.specs.Syntax.{FormTree}
use Rattle.fol_nnf.specs.Normal.{normal}
use Rattle.skolem.specs.Constants.{skolemised}
use Rattle.cnf_base.specs.Formulas.{Formula}
use Rattle.ground_terms.specs.Terms.{Lists, AreClosed}
use Rattle.ground_terms.specs.Trees.{Tree, trees_of}
use Rattle.ground_expand.specs.Instance.{instance_of}
use Rattle.equality_axioms.specs.Axioms.{equality_axioms}
use Rattle.clause_form.specs.Clauses.{clause_form}
use Rattle.ground_size.specs.Counting.{skolem_signature}

-- the sentence with constants in the place of its existentials
abbrev pub skolem_sentence : Declared → FormTree → FormTree
skolem_sentence sig p = skolemised (length sig.functions) (normal true p)

-- the instance of a universal sentence and the axioms of equality, over these lists of terms
abbrev pub formulas_over : Declared → FormTree → Lists → List Tree
formulas_over sig q lists = instance_of (symbols sig) lists q ∷ equality_axioms (symbols sig) lists

-- the ground formulas of a sentence are those of its form with constants
abbrev pub ground_formulas : Declared → FormTree → Lists → List Tree
ground_formulas sig p lists = formulas_over (skolem_signature sig p) (skolem_sentence sig p) lists

-- these are their clauses, over the closed lists of the terms that there are with the constants
pub record IsClauseForm (sig : Declared) (p : FormTree) (f : Formula) : Type 0 where
  pub lists : Lists
  pub closed : AreClosed (symbols (skolem_signature sig p)) lists
  pub clauses : f ≡ clause_form (trees_of (ground_formulas sig p lists))

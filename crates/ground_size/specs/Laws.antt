-- The sizes are those of the ground formulas.
use Rattle.std.specs.Prelude.{◌≡◌, ◌≤◌, ◌*◌, true, [], length}
use Rattle.fol_sig.specs.Tables.{Declared}
use Rattle.fol_sig.specs.Symbols.{AreSorted, symbols}
use Rattle.fol_formula.specs.Syntax.{FormTree}
use Rattle.fol_formula.specs.Fits.{FitsForm}
use Rattle.fol_formula.specs.Fragments.{IsEa}
use Rattle.fol_nnf.specs.Normal.{normal}
use Rattle.skolem.specs.Constants.{skolemised}
use Rattle.ground_terms.specs.Terms.{Lists, AreClosed, term_counts}
use Rattle.ground_terms.specs.Trees.{nodes, nodes_all, trees_of}
use Rattle.ground_expand.specs.Instance.{instance_of}
use Rattle.equality_axioms.specs.Axioms.{equality_axioms}
use Rattle.ground_size.specs.Counting.{skolem_signature}
use Rattle.ground_size.specs.Sizes.{instance_nodes, axiom_count}

-- the instance of the sentence with constants has so many nodes
abbrev pub InstancesAreCounted : Type 0
InstancesAreCounted = (sig : Declared) (p : FormTree) (lists : Lists) → IsEa p
    → AreClosed (symbols (skolem_signature sig p)) lists
    → nodes (instance_of (symbols (skolem_signature sig p)) lists (skolemised (length sig.functions) (normal true p)))
    ≡ instance_nodes (term_counts lists) (normal true p)

-- there are so many axioms of equality, whatever constants the signature has grown by, with at most four nodes each
pub record AreAxiomsCounted (sig : Declared) (p : FormTree) (lists : Lists) : Type 0 where
  pub count : length (equality_axioms (symbols (skolem_signature sig p)) lists) ≡ axiom_count (symbols sig)
      (term_counts lists)
  pub nodes : nodes_all (trees_of (equality_axioms (symbols (skolem_signature sig p)) lists)) ≤ 4 * axiom_count
      (symbols sig) (term_counts lists)

-- the axioms over the closed lists of a sentence with its constants are as many as the counts of terms say
abbrev pub AxiomsAreCounted : Type 0
AxiomsAreCounted = (sig : Declared) (p : FormTree) (lists : Lists)
    → AreSorted (symbols sig) → FitsForm (symbols sig) [] p → AreClosed (symbols (skolem_signature sig p)) lists
    → AreAxiomsCounted sig p lists

-- How large the ground formulas of a sentence are: the nodes of its instance over the ground terms, and the axioms of
-- equality. The counts say how many terms each sort has.
use Rattle.std.specs.Prelude.{ℕ, ◌+◌, ◌*◌, true, List, [], ◌∷◌, slice_index}
use Rattle.fol_sig.specs.Tables.{Declared, tuple_count}
use Rattle.fol_sig.specs.Symbols.{Symbols, symbols}
use Rattle.fol_formula.specs.Syntax.{
  FormTree,
  FormTrees,
  conjunction,
  disjunction,
  for_all,
  for_some,
  no_forms,
  form_then,
}
use Rattle.fol_nnf.specs.Normal.{normal}
use Rattle.ground_terms.specs.TermCounts.{sum_below}

-- the nodes of the instance of a normal form: an existential is a constant, and a universal has a part for each term
abbrev mutual
  pub instance_nodes : List ℕ → FormTree → ℕ
  instance_nodes counts (conjunction ps) = all_instance_nodes counts ps + 1
  instance_nodes counts (disjunction ps) = all_instance_nodes counts ps + 1
  instance_nodes counts (for_all k p) = slice_index counts k * instance_nodes counts p + 1
  instance_nodes counts (for_some k p) = instance_nodes counts p
  instance_nodes counts _ = 1

  pub all_instance_nodes : List ℕ → FormTrees → ℕ
  all_instance_nodes counts no_forms = 0
  all_instance_nodes counts (form_then p ps) = instance_nodes counts p + all_instance_nodes counts ps

-- that equality is reflexive, symmetric and transitive, of n terms
abbrev pub equivalence_axioms : ℕ → ℕ
equivalence_axioms n = n + n * n + n * n * n

-- that equal terms can be exchanged in each of these argument places, where the arguments are of so many tuples
abbrev pub exchanges : List ℕ → ℕ → List ℕ → ℕ
exchanges counts tuples [] = 0
exchanges counts tuples (k ∷ ks) = slice_index counts k * tuples + exchanges counts tuples ks

-- the axioms of one symbol whose arguments are of these sorts
abbrev pub congruence_axioms : List ℕ → List ℕ → ℕ
congruence_axioms counts sorts = exchanges counts (tuple_count counts sorts) sorts

-- how many axioms of equality there are
abbrev pub axiom_count : Symbols → List ℕ → ℕ
axiom_count sig counts =
    sum_below sig.sorts (λ k. equivalence_axioms (slice_index counts k))
    + (sum_below sig.relations (λ r. congruence_axioms counts (sig.sorts_of r)) + sum_below sig.functions
    (λ f. congruence_axioms counts (sig.from_of f)))

-- the size of the ground formulas of a sentence
abbrev pub size_of : Declared → List ℕ → FormTree → ℕ
size_of sig counts p = instance_nodes counts (normal true p) + axiom_count (symbols sig) counts

-- The instance of a universal sentence in normal form over the ground terms: an And over the terms of its sort for each
-- universal. `sorts` and `env` are the sorts and the terms of the bound variables, the nearest first.
use Rattle.std.specs.Prelude.{ℕ, Bool, true, false, List, [], ◌∷◌, slice_index}
use Rattle.fol_sig.specs.Symbols.{Symbols}
use Rattle.fol_sig.specs.Tuples.{join_below}
use Rattle.fol_formula.specs.Syntax.{FormTree, FormTrees, TermTree, TermTrees, top, bottom, rel, equal, negation}
use Rattle.fol_formula.specs.Syntax.{conjunction, disjunction, implication, equivalence, for_all, for_some, no_forms}
use Rattle.fol_formula.specs.Syntax.{form_then, bound, app, ite, no_terms, term_then}
use Rattle.ground_terms.specs.Terms.{Lists}
use Rattle.ground_terms.specs.Numberings.{Numbering, numbering}
use Rattle.ground_terms.specs.Trees.{Tree, Trees, literal, node, none, part, trees_of}
use Rattle.ground_terms.specs.declared.atom.Atom.{Atom}
use Rattle.ground_terms.specs.declared.atom.Atom.TheVariants.{Rel, Eq}
use Rattle.ground_terms.specs.declared.ground.Junction.TheVariants.{And, Or}

-- the place of the ground term that a term without `ite` becomes
abbrev mutual
  pub place_of_term : Numbering → TermTree → List ℕ → ℕ
  place_of_term names (bound i) env = slice_index env i
  place_of_term names (app f args) env = names.place f (places_of_terms names args env)
  place_of_term names (ite p a b) env = 0

  pub places_of_terms : Numbering → TermTrees → List ℕ → List ℕ
  places_of_terms names no_terms env = []
  places_of_terms names (term_then t ts) env = place_of_term names t env ∷ places_of_terms names ts env

-- the sort of a term without `ite`
abbrev pub sort_of_term : Symbols → List ℕ → TermTree → ℕ
sort_of_term sig sorts (bound i) = slice_index sorts i
sort_of_term sig sorts (app f args) = sig.into_of f
sort_of_term sig sorts (ite p a b) = 0

-- the ground atom that a relation becomes
abbrev pub relation_at : Numbering → ℕ → TermTrees → List ℕ → Atom
relation_at names r args env = Rel (record { 0 = r }) (places_of_terms names args env)

-- the ground atom that an equation becomes
abbrev pub equation_at : Symbols → Numbering → List ℕ → TermTree → TermTree → List ℕ → Atom
equation_at sig names sorts s t env =
    Eq (record { 0 = sort_of_term sig sorts s }) (place_of_term names s env) (place_of_term names t env)

-- the literal that an atom becomes, negated where `positive` is false
abbrev pub literal_at : Symbols → Numbering → List ℕ → FormTree → List ℕ → Bool → Tree
literal_at sig names sorts (rel r args) env positive = literal (relation_at names r args env) positive
literal_at sig names sorts (equal s t) env positive = literal (equation_at sig names sorts s t env) positive
literal_at sig names sorts _ env positive = node Or none

-- the ground formula; what stands in no universal sentence in normal form becomes an Or without parts
abbrev mutual
  pub instance : Symbols → Numbering → List ℕ → FormTree → List ℕ → Tree
  instance sig names sorts top env = node And none
  instance sig names sorts bottom env = node Or none
  instance sig names sorts (rel r args) env = literal_at sig names sorts (rel r args) env true
  instance sig names sorts (equal s t) env = literal_at sig names sorts (equal s t) env true
  instance sig names sorts (negation p) env = literal_at sig names sorts p env false
  instance sig names sorts (conjunction ps) env = node And (instances sig names sorts ps env)
  instance sig names sorts (disjunction ps) env = node Or (instances sig names sorts ps env)
  instance sig names sorts (implication p q) env = node Or none
  instance sig names sorts (equivalence p q) env = node Or none
  instance sig names sorts (for_all k p) env =
      node And (trees_of
      (join_below (slice_index names.counts k) (λ x. instance sig names (k ∷ sorts) p (x ∷ env) ∷ [])))
  instance sig names sorts (for_some k p) env = node Or none

  pub instances : Symbols → Numbering → List ℕ → FormTrees → List ℕ → Trees
  instances sig names sorts no_forms env = none
  instances sig names sorts (form_then p ps) env =
      part (instance sig names sorts p env) (instances sig names sorts ps env)

-- the instance of a sentence over closed lists of terms
abbrev pub instance_of : Symbols → Lists → FormTree → Tree
instance_of sig lists p = instance sig (numbering sig lists) [] p []

-- From a structure to values of the variables, and back.
use Rattle.std.proofs.Common.{◌≡◌, ℕ, ◌<◌, ◌≤◌, Bool, true, ◌&&◌, List, [], length, sym, ap, ◌∙◌, subst}
use Rattle.std.specs.Prelude.{sum}
use Rattle.std.proofs.lemmas.Bool.{and_parts}
use Rattle.std.proofs.lemmas.List.{length-map}
use Rattle.fol_sig.specs.Tables.{Declared, Tables, reading}
use Rattle.fol_sig.specs.Symbols.{FitsStructure, symbols}
use Rattle.fol_sig.specs.Constants.{with_constants}
use Rattle.fol_formula.specs.Syntax.{FormTree}
use Rattle.fol_formula.specs.Truth.{truth}
use Rattle.fol_nnf.specs.Normal.{normal}
use Rattle.skolem.specs.Constants.{new_sorts}
use Rattle.skolem.specs.Laws.{IsModel}
use Rattle.cnf_base.specs.Formulas as formulas
use Rattle.cnf_base.specs.Formulas.{Satisfies, IsUnsatisfiable, value_of}
use Rattle.ground_terms.specs.Terms.{Lists, AreClosed, term_counts}
use Rattle.ground_terms.specs.Trees.{Trees, all_true, trees_of, truth as ground_truth}
use Rattle.ground_terms.specs.Values.{term_values, atoms_in}
use Rattle.ground_terms.specs.Same.{holds_in}
use Rattle.ground_terms.specs.declared.atom.Atom.{Atom}
use Rattle.ground_expand.specs.Instance.{instance_of}
use Rattle.ground_expand.specs.Laws.{SentenceIsTrue, StructuresSatisfyInstance}
use Rattle.equality_axioms.specs.Axioms.{equality_axioms}
use Rattle.equality_axioms.specs.Laws.{StructuresSatisfyAxioms}
use Rattle.clause_form.specs.Clauses.{clause_form}
use Rattle.clause_form.specs.Meaning.{ExtendsToModel, atoms_of, true_atoms}
use Rattle.structure_back.specs.ReadBack.{IsReadBack}
use Rattle.ea_decide.specs.GroundForm.{skolem_sentence, ground_formulas}
use Rattle.ea_decide.specs.Decisions.{HasNoModel}
use Rattle.ea_decide.specs.Steps.{more_symbols, IsGroundable, assigned, AreReadable}
use Rattle.ea_decide.proofs.Fragments.{Rewriting, normal_fits, skolemises, sorted, strata, has_instance}
use Rattle.ea_decide.proofs.Sums.{sum-below}

both_true : (a b : Bool) → a ≡ true → b ≡ true → a && b ≡ true
both_true a b ea eb = ap (λ x. x && b) ea ∙ eb

-- from a structure up to values
module _ (rewriting : Rewriting) (instances : StructuresSatisfyInstance) (axioms : StructuresSatisfyAxioms)
    (up : (ps : Trees) (v : Atom → Bool) → all_true v ps ≡ true → ExtendsToModel v (atoms_of ps) (clause_form ps))
    (sig : Declared) (p : FormTree) (order : List ℕ) (lists : Lists) (given : IsGroundable sig p order)
    (closed : AreClosed (more_symbols sig p) lists) where
  normal-model : (s : Tables) → FitsStructure (symbols sig) s → truth (reading s) p [] ≡ true
      → IsModel (symbols sig) (normal true p) s
  normal-model s fits holds = record {
    structure = fits;
    sentence = normal_fits rewriting sig p order given;
    holds = rewriting.truth (reading s) true p [] ∙ holds;
  }

  -- the structure with constants makes the ground formulas true
  all-hold : (t : Tables) → IsModel (more_symbols sig p) (skolem_sentence sig p) t
      → all_true (atoms_in (more_symbols sig p) (reading t) (term_values (more_symbols sig p) lists order
      (reading t))) (trees_of (ground_formulas sig p lists)) ≡ true
  all-hold t model =
      let order' = strata rewriting sig p order given in
      both_true
      (ground_truth (atoms_in (more_symbols sig p) (reading t)
      (term_values (more_symbols sig p) lists order (reading t)))
      (instance_of (more_symbols sig p) lists (skolem_sentence sig p)))
      (all_true (atoms_in (more_symbols sig p) (reading t) (term_values (more_symbols sig p) lists order (reading t)))
      (trees_of (equality_axioms (more_symbols sig p) lists)))
      (instances (more_symbols sig p) order lists (skolem_sentence sig p) t
      (has_instance rewriting sig p order given lists closed) order' model.structure model.holds)
      (axioms (more_symbols sig p) order lists t (sorted rewriting sig p order given) order' closed model.structure)

  pub gives-values : (s : Tables) → FitsStructure (symbols sig) s → truth (reading s) p [] ≡ true
      → (values : List Bool) × formulas.IsModel (clause_form (trees_of (ground_formulas sig p lists))) values
  gives-values s fits holds =
      let extended = (skolemises rewriting sig p order given).models.some s (normal-model s fits holds) in
      let t = with_constants s (new_sorts (normal true p)) extended.0 in
      let values = up (trees_of (ground_formulas sig p lists))
      (atoms_in (more_symbols sig p) (reading t) (term_values (more_symbols sig p) lists order (reading t)))
      (all-hold t extended.2) in (values.values, values.model)

  pub no-model : IsUnsatisfiable (clause_form (trees_of (ground_formulas sig p lists))) → HasNoModel sig p
  no-model none s fits holds =
      let given_values = gives-values s fits holds in none (value_of given_values.0) given_values.1.1

-- from values down to a structure
module _ (rewriting : Rewriting) (sentences : SentenceIsTrue)
    (down : (ps : Trees) (values : List Bool) → Satisfies (value_of values) (clause_form ps)
    → all_true (holds_in (true_atoms values (atoms_of ps))) ps ≡ true)
    (sig : Declared) (p : FormTree) (order : List ℕ) (lists : Lists) (values : List Bool)
    (given : IsGroundable sig p order) (closed : AreClosed (more_symbols sig p) lists)
    (satisfied : Satisfies (value_of values) (clause_form (trees_of (ground_formulas sig p lists)))) where
  parts : (ground_truth (holds_in (assigned sig p lists values))
      (instance_of (more_symbols sig p) lists (skolem_sentence sig p)) ≡ true)
      × (all_true (holds_in (assigned sig p lists values)) (trees_of (equality_axioms (more_symbols sig p) lists)) ≡
      true)
  parts =
      and_parts
      (ground_truth (holds_in (assigned sig p lists values)) (instance_of (more_symbols sig p) lists
      (skolem_sentence sig p)))
      (all_true (holds_in (assigned sig p lists values)) (trees_of (equality_axioms (more_symbols sig p) lists)))
      (down (trees_of (ground_formulas sig p lists)) values satisfied)

  model : (t : Tables) → IsReadBack (more_symbols sig p) lists (holds_in (assigned sig p lists values)) t
      → IsModel (more_symbols sig p) (skolem_sentence sig p) t
  model t back = record {
    structure = back.fits;
    sentence = (skolemises rewriting sig p order given).fits;
    holds = sentences (more_symbols sig p) lists (skolem_sentence sig p) (holds_in (assigned sig p lists values)) t
        back.elements
        (has_instance rewriting sig p order given lists closed) back.realises back.onto parts.0;
  }

  few : (t : Tables) → IsReadBack (more_symbols sig p) lists (holds_in (assigned sig p lists values)) t
      → sum t.sizes ≤ sum (term_counts lists)
  few t back =
      let sorts = sym back.fits.sorts in
      let counts = length-map lists length ∙ closed.sorts in
      sum-below t.sizes (term_counts lists) (sorts ∙ sym counts) (λ k lt. back.few k (subst (λ n. k < n) sorts lt))

  pub readable : AreReadable sig p lists values
  readable = record { equality = parts.1; models = model; few = few }

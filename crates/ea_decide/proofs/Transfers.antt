-- What is known of a sentence's form with constants, told of the sentence.
use Rattle.std.proofs.Common.{◌≡◌, ◌≤◌, ℕ, Bool, true, List, sum, sym, ap, ◌∙◌, subst}
use Rattle.fol_sig.specs.Tables.{Declared, Tables}
use Rattle.fol_sig.specs.Symbols.{symbols}
use Rattle.fol_formula.specs.Syntax.{FormTree}
use Rattle.cnf_base.specs.Formulas.{Formula, IsModel, Satisfies, IsUnsatisfiable, value_of}
use Rattle.lrat_log.specs.declared.line.Line.{Line}
use Rattle.lrat_log.specs.Refutations.{IsSpent}
use Rattle.ground_terms.specs.Terms.{Lists, AreClosed}
use Rattle.ground_terms.specs.Trees.{all_true, trees_of}
use Rattle.ground_terms.specs.Same.{holds_in}
use Rattle.ground_terms.specs.declared.atom.Atom.{Atom}
use Rattle.equality_axioms.specs.Axioms.{equality_axioms}
use Rattle.clause_form.specs.Clauses.{clause_form}
use Rattle.clause_form.specs.Meaning.{atoms_of, true_atoms}
use Rattle.structure_back.specs.ReadBack.{IsReadBack}
use Rattle.ground_size.specs.Counting.{skolem_signature}
use Rattle.ea_decide.specs.GroundForm.{skolem_sentence, formulas_over, ground_formulas, IsClauseForm}
use Rattle.ea_decide.specs.Decisions.{HasNoModel, IsSmallModel, SpendsBudget}
use Rattle.ea_decide.specs.Steps.{
  more_symbols,
  IsGroundable,
  HasRoom,
  ClausesRefute,
  ValuesAreReadable,
  AreReadable,
  IsSmallForm,
}

module _ (sig : Declared) (p : FormTree) (more : Declared) (q : FormTree) (grows : more
    ≡ skolem_signature sig p) (form : q ≡ skolem_sentence sig p) where
  same-formulas : (lists : Lists) → formulas_over more q lists ≡ ground_formulas sig p lists
  same-formulas lists =
      ap (λ m. formulas_over m q lists) grows ∙ ap (λ r. formulas_over (skolem_signature sig p) r lists) form

  pub closes : (lists : Lists) → AreClosed (symbols more) lists → AreClosed (more_symbols sig p) lists
  closes lists = subst (λ m. AreClosed (symbols m) lists) grows

  pub is-form : (lists : Lists) (f : Formula) → f ≡ clause_form (trees_of (formulas_over more q lists))
      → f ≡ clause_form (trees_of (ground_formulas sig p lists))
  is-form lists f e = e ∙ ap (λ ts. clause_form (trees_of ts)) (same-formulas lists)

  pub small-form : (lists : Lists) → HasRoom sig p → AreClosed (symbols more) lists
      → IsSmallForm (clause_form (trees_of (formulas_over more q lists)))
  small-form lists room closed = subst (λ ts. IsSmallForm (clause_form (trees_of ts)))
      (sym (same-formulas lists)) (room.small lists (closes lists closed))

  pub clause-form : (lists : Lists) (f : Formula) → AreClosed (symbols more) lists
      → f ≡ clause_form (trees_of (formulas_over more q lists)) → IsClauseForm sig p f
  clause-form lists f closed e = record { lists = lists; closed = closes lists closed; clauses = is-form lists f e }

  pub no-model : (order : List ℕ) (lists : Lists) (f : Formula) → ClausesRefute → IsGroundable sig p order
      → AreClosed (symbols more) lists
      → f ≡ clause_form (trees_of (formulas_over more q lists)) → IsUnsatisfiable f → HasNoModel sig p
  no-model order lists f law given closed e none = law sig p order lists given (closes lists closed)
      (subst IsUnsatisfiable (is-form lists f e) none)

  same-atoms : (lists : Lists) (values : List Bool)
      → true_atoms values (atoms_of (trees_of (formulas_over more q lists)))
      ≡ true_atoms values (atoms_of (trees_of (ground_formulas sig p lists)))
  same-atoms lists values = ap (λ ts. true_atoms values (atoms_of (trees_of ts))) (same-formulas lists)

  module _ (order : List ℕ) (lists : Lists) (f : Formula) (values : List Bool) (law : ValuesAreReadable)
      (given : IsGroundable sig p order) (closed : AreClosed (symbols more) lists)
      (e : f ≡ clause_form (trees_of (formulas_over more q lists))) (model : IsModel f values) where
    readable : AreReadable sig p lists values
    readable = law sig p order lists values given (closes lists closed)
        (subst (Satisfies (value_of values)) (is-form lists f e) model.1)

    pub equal : (atoms : List Atom) → atoms ≡ true_atoms values (atoms_of (trees_of (formulas_over more q lists)))
        → all_true (holds_in atoms) (trees_of (equality_axioms (symbols more) lists)) ≡ true
    equal atoms is =
        subst (λ m. all_true (holds_in atoms) (trees_of (equality_axioms (symbols m) lists)) ≡ true) (sym grows)
        (subst (λ true_ones. all_true (holds_in true_ones) (trees_of (equality_axioms (more_symbols sig p) lists)) ≡
        true) (sym (is ∙ same-atoms lists values)) readable.equality)

    pub small : (atoms : List Atom) (t : Tables) → HasRoom sig p
        → atoms ≡ true_atoms values (atoms_of (trees_of (formulas_over more q lists)))
        → IsReadBack (symbols more) lists (holds_in atoms) t → IsSmallModel sig p t
    small atoms t room is back =
        let here = subst (λ true_ones. IsReadBack (more_symbols sig p) lists (holds_in true_ones) t)
        (is ∙ same-atoms lists values) (subst (λ m. IsReadBack (symbols m) lists (holds_in atoms) t) grows back) in
        record {
          model = readable.models t here;
          few = λ counts are.
              subst (λ (ns : List ℕ). sum t.sizes ≤ sum ns)
              (room.counted lists counts (closes lists closed) are) (readable.few t here);
        }

  pub spends : (lists : Lists) (f : Formula) (budget : ℕ) → AreClosed (symbols more) lists
      → f ≡ clause_form (trees_of (formulas_over more q lists))
      → (lines : List Line) × IsSpent f budget lines → SpendsBudget sig p budget
  spends lists f budget closed e spent = record {
    formula = f;
    lines = spent.0;
    clauses = clause-form lists f closed
        e;
    spent = spent.1;
  }

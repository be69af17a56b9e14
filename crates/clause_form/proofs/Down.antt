-- Values that satisfy the clauses satisfy the formulas.
use Rattle.std.proofs.Common.{◌≡◌, ℕ, Bool, true, false, [], ◌∷◌, refl, sym, ◌∙◌, ap, cond, inl, inr}
use Rattle.std.specs.Prelude.{◌||◌, not}
use Rattle.std.proofs.lemmas.Bool.{and_parts, or_cases, and_from, or_left, or_right}
use Rattle.cnf_base.specs.declared.cnf.Entry.TheVariants.{Clause}
use Rattle.cnf_base.specs.Literals.{is_true}
use Rattle.cnf_base.specs.Formulas.{Satisfies}
use Rattle.ground_terms.specs.declared.atom.Atom.{Atom}
use Rattle.ground_terms.specs.declared.ground.Junction.{Junction}
use Rattle.ground_terms.specs.declared.ground.Junction.TheVariants.{And, Or}
use Rattle.ground_terms.specs.Trees.{Tree, Trees, literal, node, none, part, truth, all_true, any_true}
use Rattle.clause_form.specs.Numbers.{Numbers, start, with_place, after, after_all, lit_of, lits_of, place_lit}
use Rattle.clause_form.specs.Numbers.{atom_lit, atom_variable}
use Rattle.clause_form.specs.Clauses.{definition, clauses_of, clauses_of_all, formula_clauses, clause_form}
use Rattle.clause_form.specs.Meaning.{Extends, atoms_of}
use Rattle.clause_form.proofs.Below.{AtomsAreSame, EntriesAreTrue}
use Rattle.clause_form.proofs.Truths.{literal_truth, any_lit, all_lits, all_entries_true, all_entries_true-append}
use Rattle.clause_form.proofs.Truths.{or_nothing, all_true_of}
use Rattle.clause_form.proofs.Definitions.{joined, definition_truth}
use Rattle.clause_form.proofs.Growth.{keeps_after_all, known}

module _ (atoms : AtomsAreSame) (entries : EntriesAreTrue) (v : Atom → Bool) (value : ℕ → Bool) where
  earlier : (n : Numbers) (ps : Trees) → Extends v (after_all n ps).atoms value → Extends v n.atoms value
  earlier n ps e a k h = e a k (keeps_after_all n ps a k h)

  applied : (a b : Bool) → a ≡ true → not a || b ≡ true → b ≡ true
  applied true b h q = q
  applied false b h q = cc h

  signed : (a b positive : Bool) → a ≡ b → cond positive a (not a) ≡ cond positive b (not b)
  signed a b positive e = ap (λ x. cond positive x (not x)) e

  pub literal_value : (n : Numbers) (a : Atom) (positive : Bool) → Extends v (after n (literal a positive)).atoms value
      → is_true value (atom_lit n a positive) ≡ truth v (literal a positive)
  literal_value n a positive e =
      literal_truth value positive (atom_variable n a) ∙ signed _ _ positive (e a (atom_variable n a) (known atoms n a))

  mutual
    down : (n : Numbers) (p : Tree) → Extends v (after n p).atoms value → all_entries_true value (clauses_of n p) ≡ true
        → is_true value (lit_of n p) ≡ true → truth v p ≡ true
    down n (literal a positive) e c t = sym (literal_value n a positive e) ∙ t
    down n (node j ps) e c t =
        let c' = and_parts _ _
        (sym (all_entries_true-append value (clauses_of_all (with_place n) ps)
        (definition j (place_lit n) (lits_of (with_place n) ps))) ∙ c) in
        down_node j (with_place n) ps e c'.0
        (applied (is_true value (place_lit n)) _ t
        (sym (definition_truth entries value j (place_lit n) (lits_of (with_place n) ps)) ∙ c'.1))

    down_node : (j : Junction) (n : Numbers) (ps : Trees) → Extends v (after_all n ps).atoms value
        → all_entries_true value (clauses_of_all n ps) ≡ true
        → joined entries value j (lits_of n ps) ≡ true → truth v (node j ps) ≡ true
    down_node And n none e c t = refl
    down_node And n (part p ps) e c t =
        let c' = and_parts _ _ (sym (all_entries_true-append value (clauses_of n p) (clauses_of_all (after n p) ps))
        ∙ c) in
        let t' = and_parts (is_true value (lit_of n p)) (all_lits value (lits_of (after n p) ps)) t in
        and_from (truth v p) (all_true v ps) (down n p (earlier (after n p) ps e) c'.0 t'.0)
        (down_node And (after n p) ps e c'.1 t'.1)
    down_node Or n none e c t = cc t
    down_node Or n (part p ps) e c t =
        let c' = and_parts _ _ (sym (all_entries_true-append value (clauses_of n p) (clauses_of_all (after n p) ps))
        ∙ c) in
        elim (or_cases (is_true value (lit_of n p)) (any_lit value (lits_of (after n p) ps)) t) [
          | inl h ↦ or_left (truth v p) (any_true v ps) (down n p (earlier (after n p) ps e) c'.0 h)
          | inr h ↦ or_right (truth v p) (any_true v ps) (down_node Or (after n p) ps e c'.1 h)
        ]

  formulas_down : (n : Numbers) (ps : Trees) → Extends v (after_all n ps).atoms value
      → all_entries_true value (formula_clauses n ps) ≡ true → all_true v ps ≡ true
  formulas_down n none e c = refl
  formulas_down n (part p ps) e c =
      let c' = and_parts _ _
      (sym (all_entries_true-append value (clauses_of n p)
      (Clause (lit_of n p ∷ []) ∷ formula_clauses (after n p) ps)) ∙ c) in
      let u = and_parts (any_lit value (lit_of n p ∷ [])) (all_entries_true value (formula_clauses (after n p) ps))
      c'.1 in
      and_from (truth v p) (all_true v ps)
      (down n p (earlier (after n p) ps e) c'.0 (sym (or_nothing value (is_true value (lit_of n p))) ∙ u.0))
      (formulas_down (after n p) ps e u.1)

  pub satisfied_down : (ps : Trees) → Extends v (atoms_of ps) value → Satisfies value (clause_form ps)
      → all_true v ps ≡ true
  satisfied_down ps e c = formulas_down start ps e (all_true_of value (clause_form ps) c)

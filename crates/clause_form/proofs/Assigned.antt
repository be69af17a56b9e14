-- The atoms that are read back have the values of their variables.
use Rattle.std.proofs.Common.{◌≡◌, ℕ, ◌+◌, Bool, true, false, List, [], ◌∷◌, ◌++◌, Option, Some, None, refl, sym, ◌∙◌}
use Rattle.std.proofs.Common.{ap, cond}
use Rattle.std.specs.Prelude.{◌||◌}
use Rattle.cnf_base.specs.Formulas.{value_of}
use Rattle.ground_terms.specs.declared.atom.Atom.{Atom}
use Rattle.ground_terms.specs.Same.{same_atom, holds_in}
use Rattle.ground_terms.specs.Trees.{Tree, Trees, literal, node, none, part}
use Rattle.clause_form.proofs.Below.{AtomsAreSame}
use Rattle.clause_form.specs.Numbers.{Numbers, start, variable_in, with_place, with_atom_by, after, after_all}
use Rattle.clause_form.specs.Meaning.{Extends, true_atoms, atoms_of}
use Rattle.clause_form.proofs.Growth.{found_last}

abbrev Distinct : List (Atom × ℕ) → Type 0
Distinct [] = Unit {0}
Distinct (x ∷ xs) = (variable_in xs x.0 ≡ None) × Distinct xs

none_parts : (t : Bool) (v : ℕ) (r : Option ℕ) → cond t (Some v) r ≡ None → (t ≡ false) × (r ≡ None)
none_parts true v r h = cc h
none_parts false v r h = (refl, h)

module _ (atoms : AtomsAreSame) where
  not_there : (a b : Atom) (k : ℕ) → same_atom a b ≡ false → cond (same_atom b a) (Some k) None ≡ None
  not_there a b k h = by (same_atom b a) refl
    where
      by : (t : Bool) → same_atom b a ≡ t → cond t (Some k) None ≡ None
      by true e = let f : true ≡ false = sym (atoms.reflexive a) ∙ ap (same_atom a) (sym (atoms.same b a e)) ∙ h in cc f
      by false e = refl

  distinct_more : (xs : List (Atom × ℕ)) (a : Atom) (k : ℕ) → Distinct xs → variable_in xs a ≡ None
      → Distinct (xs ++ (a, k) ∷ [])
  distinct_more [] a k d h = (refl, tt)
  distinct_more (x ∷ xs) a k d h =
      let p = none_parts (same_atom a x.0) x.1 (variable_in xs a) h in
      (found_last xs a x.0 k d.0 ∙ not_there a x.0 k p.0, distinct_more xs a k d.1 p.1)

  distinct_atom : (o : Option ℕ) (n : Numbers) (a : Atom) → variable_in n.atoms a ≡ o → Distinct n.atoms
      → Distinct (with_atom_by o n a).atoms
  distinct_atom (Some v) n a e d = d
  distinct_atom None n a e d = distinct_more n.atoms a (n.variables + 1) d e

  mutual
    distinct_after : (n : Numbers) (p : Tree) → Distinct n.atoms → Distinct (after n p).atoms
    distinct_after n (literal a positive) d = distinct_atom (variable_in n.atoms a) n a refl d
    distinct_after n (node j ps) d = distinct_after_all (with_place n) ps d

    distinct_after_all : (n : Numbers) (ps : Trees) → Distinct n.atoms → Distinct (after_all n ps).atoms
    distinct_after_all n none d = d
    distinct_after_all n (part p ps) d = distinct_after_all (after n p) ps (distinct_after n p d)

  module _ (values : List Bool) where
    skipped : (b s r : Bool) → s ≡ false → r ≡ false → cond b (s || r) r ≡ false
    skipped true s r p q = cc
    skipped false s r p q = q

    in_cond : (b : Bool) (x a : Atom) (xs : List Atom)
        → holds_in (cond b (x ∷ xs) xs) a ≡ cond b (same_atom a x || holds_in xs a) (holds_in xs a)
    in_cond true x a xs = refl
    in_cond false x a xs = refl

    absent : (xs : List (Atom × ℕ)) (a : Atom) → variable_in xs a ≡ None → holds_in (true_atoms values xs) a ≡ false
    absent [] a h = refl
    absent (x ∷ xs) a h =
        let p = none_parts (same_atom a x.0) x.1 (variable_in xs a) h in
        in_cond (value_of values x.1) x.0 a (true_atoms values xs)
        ∙ skipped (value_of values x.1) (same_atom a x.0) _ p.0 (absent xs a p.1)

    first_here : (b s r : Bool) → s ≡ true → r ≡ false → b ≡ cond b (s || r) r
    first_here true s r p q = ap (λ x. x || r) (sym p)
    first_here false s r p q = sym q

    later_on : (b s r v : Bool) → s ≡ false → v ≡ r → v ≡ cond b (s || r) r
    later_on true s r v p q = cc
    later_on false s r v p q = q

    has_value : (xs : List (Atom × ℕ)) → Distinct xs → Extends (holds_in (true_atoms values xs)) xs (value_of values)
    has_value [] d a n h = cc h
    has_value (x ∷ xs) d a n h = by (same_atom a x.0) refl (has_value xs d.1 a n)
        ∙ sym (in_cond (value_of values x.1) x.0 a (true_atoms values xs))
      where
        by : (t : Bool) → same_atom a x.0 ≡ t
            → (variable_in xs a ≡ Some n → value_of values n ≡ holds_in (true_atoms values xs) a)
            → value_of values n ≡ cond (value_of values x.1) (same_atom a x.0 || holds_in (true_atoms values xs) a)
            (holds_in (true_atoms values xs) a)
        by true e rest =
            let f : Some x.1 ≡ Some n = sym (ap (λ t. cond t (Some x.1) (variable_in xs a)) e) ∙ h in
            let i : x.1 ≡ n = cc f in
            let gone : variable_in xs a ≡ None = ap (variable_in xs) (atoms.same a x.0 e) ∙ d.0 in
            ap (value_of values) (sym i) ∙ first_here (value_of values x.1) (same_atom a x.0) _ e (absent xs a gone)
        by false e rest =
            let f : variable_in xs a ≡ Some n = sym (ap (λ t. cond t (Some x.1) (variable_in xs a)) e) ∙ h in
            later_on (value_of values x.1) (same_atom a x.0) _ _ e (rest f)

  pub assigned : (ps : Trees) (values : List Bool)
      → Extends (holds_in (true_atoms values (atoms_of ps))) (atoms_of ps) (value_of values)
  assigned ps values = has_value values (atoms_of ps) (distinct_after_all start ps tt)

-- How many clauses and variables there are.
use Rattle.std.proofs.Common.{◌≡◌, ℕ, ◌+◌, ◌*◌, ◌≤◌, List, [], ◌∷◌, Option, Some, None, length, refl, arith}
use Rattle.std.proofs.Common.{length-append}
use Rattle.cnf_base.specs.declared.cnf.Entry.{Entry}
use Rattle.cnf_base.specs.declared.cnf.Entry.TheVariants.{Clause, True}
use Rattle.cnf_base.specs.Clauses.{entry_of}
use Rattle.cnf_base.specs.Literals.{opposite}
use Rattle.ground_terms.specs.declared.ground.Junction.{Junction}
use Rattle.ground_terms.specs.declared.ground.Junction.TheVariants.{And, Or}
use Rattle.ground_terms.specs.declared.atom.Atom.{Atom}
use Rattle.ground_terms.specs.Trees.{Tree, Trees, literal, node, none, part, count, nodes, nodes_all}
use Rattle.clause_form.specs.Numbers.{Numbers, start, variable_in, with_place, with_atom_by, after, after_all}
use Rattle.clause_form.specs.Numbers.{place_lit, lit_of, lits_of}
use Rattle.clause_form.specs.Meaning.{atoms_of, places, places_all}
use Rattle.clause_form.specs.Clauses.{unless_true, implies, implies_each, definition, clauses_of, clauses_of_all}
use Rattle.clause_form.specs.Clauses.{formula_clauses, clause_form}

one : (e : Entry) → length (unless_true e) ≤ 1
one (Clause ls) = omega arith
one True = omega arith

pub implied : (d : ℕ) (ls : List ℕ) → length (implies d ls) ≤ 1
implied d ls = one (entry_of [] (opposite d ∷ ls))

each : (d : ℕ) (ls : List ℕ) → length (implies_each d ls) ≤ length ls
each d [] = omega arith
each d (l ∷ ls) =
    let h = implied d (l ∷ []) in
    let r = each d ls in
    omega (arith, h, r, length-append (implies d (l ∷ [])) (implies_each d ls))

defined : (j : Junction) (d : ℕ) (ls : List ℕ) → length (definition j d ls) ≤ length ls + 1
defined And d ls = let h = each d ls in omega (arith, h)
defined Or d ls = let h = implied d ls in omega (arith, h)

pub length-lits_of : (n : Numbers) (ps : Trees) → length (lits_of n ps) ≡ count ps
length-lits_of n none = refl
length-lits_of n (part p ps) = let h = length-lits_of (after n p) ps in omega (arith, h)

-- a node has at most a clause for itself, and one as a part of another
mutual
  pub few : (n : Numbers) (p : Tree) → length (clauses_of n p) + 1 ≤ 2 * nodes p
  few n (literal a positive) = omega arith
  few n (node j ps) =
      let h = few_all (with_place n) ps in
      let d = defined j (place_lit n) (lits_of (with_place n) ps) in
      let l = length-lits_of (with_place n) ps in
      omega (
        arith,
        h,
        d,
        l,
        length-append (clauses_of_all (with_place n) ps)
            (definition j (place_lit n) (lits_of (with_place n) ps)),
      )

  few_all : (n : Numbers) (ps : Trees) → length (clauses_of_all n ps) + count ps ≤ 2 * nodes_all ps
  few_all n none = omega arith
  few_all n (part p ps) =
      let h = few n p in
      let r = few_all (after n p) ps in
      omega (arith, h, r, length-append (clauses_of n p) (clauses_of_all (after n p) ps))

few_formulas : (n : Numbers) (ps : Trees) → length (formula_clauses n ps) ≤ 2 * nodes_all ps
few_formulas n none = omega arith
few_formulas n (part p ps) =
    let h = few n p in
    let r = few_formulas (after n p) ps in
    omega (arith, h, r, length-append (clauses_of n p) (Clause (lit_of n p ∷ []) ∷ formula_clauses (after n p) ps))

one_atom : (o : Option ℕ) (n : Numbers) (a : Atom) → (with_atom_by o n a).variables ≤ n.variables + 1
one_atom (Some v) n a = omega arith
one_atom None n a = omega arith

mutual
  few_variables : (n : Numbers) (p : Tree) → (after n p).variables ≤ n.variables + nodes p
  few_variables n (literal a positive) = one_atom (variable_in n.atoms a) n a
  few_variables n (node j ps) = let h = few_variables_all (with_place n) ps in omega (arith, h)

  few_variables_all : (n : Numbers) (ps : Trees) → (after_all n ps).variables ≤ n.variables + nodes_all ps
  few_variables_all n none = omega arith
  few_variables_all n (part p ps) = let h = few_variables n p in let r = few_variables_all (after n p) ps in
      omega (arith, h, r)

pub few_clauses : (ps : Trees) → length (clause_form ps).clauses ≤ 2 * nodes_all ps
few_clauses ps = few_formulas start ps

pub few_places : (ps : Trees) → (clause_form ps).variables ≤ nodes_all ps
few_places ps = let h = few_variables_all start ps in omega (arith, h)

-- each variable is an atom's or a place's
split_atom : (o : Option ℕ) (n : Numbers) (a : Atom)
    → (with_atom_by o n a).variables + length n.atoms ≡ n.variables + length (with_atom_by o n a).atoms
split_atom (Some v) n a = refl
split_atom None n a = let h = length-append n.atoms ((a, n.variables + 1) ∷ []) in omega (arith, h)

mutual
  split : (n : Numbers) (p : Tree)
      → (after n p).variables + length n.atoms ≡ n.variables + places p + length (after n p).atoms
  split n (literal a positive) = let h = split_atom (variable_in n.atoms a) n a in omega (arith, h)
  split n (node j ps) = let h = split_all (with_place n) ps in omega (arith, h)

  split_all : (n : Numbers) (ps : Trees)
      → (after_all n ps).variables + length n.atoms ≡ n.variables + places_all ps + length (after_all n ps).atoms
  split_all n none = omega arith
  split_all n (part p ps) = let h = split n p in let r = split_all (after n p) ps in omega (arith, h, r)

pub atoms_and_places : (ps : Trees) → (clause_form ps).variables ≡ places_all ps + length (atoms_of ps)
atoms_and_places ps = let h = split_all start ps in omega (arith, h)

-- How many clauses and places formulas have behind which there are clauses already.
use Rattle.std.proofs.Common.{◌≡◌, ◌+◌, ◌*◌, ◌≤◌, List, [], ◌∷◌, ◌++◌, length, refl, arith, length-append}
use Rattle.cnf_base.specs.declared.cnf.Entry.TheVariants.{Clause}
use Rattle.ground_terms.specs.declared.ground.Junction.TheVariants.{And, Or}
use Rattle.ground_terms.specs.Trees.{Tree, Trees, literal, node, none, part, trees_of, nodes_all}
use Rattle.clause_form.specs.Numbers.{Numbers, start, with_place, after, lit_of, lits_of, place_lit}
use Rattle.clause_form.specs.Clauses.{implies, clauses_of, clauses_of_all, formula_clauses, clause_form}
use Rattle.clause_form.specs.Meaning.{places, places_all}
use Rattle.ground_terms.specs.Literals.{AreLiterals, IsFlat, AreFlat}
use Rattle.clause_form.proofs.Counting.{few, implied}

no_clauses : (n : Numbers) (ps : Trees) → AreLiterals ps → length (clauses_of_all n ps) ≡ 0
no_clauses n none h = refl
no_clauses n (part (literal a positive) ps) h = no_clauses (after n (literal a positive)) ps h
no_clauses n (part (node j qs) ps) h = absurd h

no_places : (ps : Trees) → AreLiterals ps → places_all ps ≡ 0
no_places none h = refl
no_places (part (literal a positive) ps) h = let r = no_places ps h in omega (arith, r)
no_places (part (node j qs) ps) h = absurd h

one_clause : (n : Numbers) (p : Tree) → IsFlat p → length (clauses_of n p) ≤ 1
one_clause n (literal a positive) h = omega arith
one_clause n (node Or ps) h =
    let none_below = no_clauses (with_place n) ps h in
    let own = implied (place_lit n) (lits_of (with_place n) ps) in
    omega (
      arith,
      none_below,
      own,
      length-append (clauses_of_all (with_place n) ps)
          (implies (place_lit n) (lits_of (with_place n) ps)),
    )
one_clause n (node And ps) h = absurd h

one_place : (p : Tree) → IsFlat p → places p ≤ 1
one_place (literal a positive) h = omega arith
one_place (node Or ps) h = let r = no_places ps h in omega (arith, r)
one_place (node And ps) h = absurd h

flat_clauses : (n : Numbers) (qs : List Tree) → AreFlat qs → length (formula_clauses n (trees_of qs)) ≤ 2 * length qs
flat_clauses n [] h = omega arith
flat_clauses n (q ∷ qs) h =
    let one = one_clause n q h.0 in
    let rest = flat_clauses (after n q) qs h.1 in
    omega (
      arith,
      one,
      rest,
      length-append (clauses_of n q) (Clause (lit_of n q ∷ []) ∷ formula_clauses (after n q) (trees_of qs)),
    )

flat_places : (qs : List Tree) → AreFlat qs → places_all (trees_of qs) ≤ length qs
flat_places [] h = omega arith
flat_places (q ∷ qs) h = let one = one_place q h.0 in let rest = flat_places qs h.1 in omega (arith, one, rest)

clauses_behind : (n : Numbers) (ps qs : List Tree) → AreFlat qs
    → length (formula_clauses n (trees_of (ps ++ qs))) ≤ 2 * (nodes_all (trees_of ps) + length qs)
clauses_behind n [] qs h = let r = flat_clauses n qs h in omega (arith, r)
clauses_behind n (p ∷ ps) qs h =
    let here = few n p in
    let rest = clauses_behind (after n p) ps qs h in
    omega (
      arith,
      here,
      rest,
      length-append (clauses_of n p) (Clause (lit_of n p ∷ []) ∷ formula_clauses (after n p) (trees_of (ps ++ qs))),
    )

pub few_clauses_behind : (ps qs : List Tree) → AreFlat qs
    → length (clause_form (trees_of (ps ++ qs))).clauses ≤ 2 * (nodes_all (trees_of ps) + length qs)
few_clauses_behind ps qs h = clauses_behind start ps qs h

pub few_places_behind : (ps qs : List Tree) → AreFlat qs
    → places_all (trees_of (ps ++ qs)) ≤ places_all (trees_of ps) + length qs
few_places_behind [] qs h = let r = flat_places qs h in omega (arith, r)
few_places_behind (p ∷ ps) qs h = let r = few_places_behind ps qs h in omega (arith, r)

-- The clauses of ground formulas. Those of an And or an Or stand where its parts end.
use Rattle.std.specs.Prelude.{ℕ, List, [], ◌∷◌, ◌++◌}
use Rattle.cnf_base.specs.declared.cnf.Entry.{Entry}
use Rattle.cnf_base.specs.declared.cnf.Entry.TheVariants.{Clause, True}
use Rattle.cnf_base.specs.Literals.{opposite}
use Rattle.cnf_base.specs.Clauses.{entry_of}
use Rattle.cnf_base.specs.Formulas.{Formula}
use Rattle.ground_terms.specs.declared.ground.Junction.{Junction}
use Rattle.ground_terms.specs.declared.ground.Junction.TheVariants.{And, Or}
use Rattle.ground_terms.specs.Trees.{Tree, Trees, literal, node, none, part}
use Rattle.clause_form.specs.Numbers.{Numbers, start, with_place, after, after_all, place_lit, lit_of, lits_of}

-- a clause that is always true is left out
abbrev pub unless_true : Entry → List Entry
unless_true (Clause ls) = Clause ls ∷ []
unless_true True = []

-- "d implies one of these": the clause of the opposite of d and these
abbrev pub implies : ℕ → List ℕ → List Entry
implies d ls = unless_true (entry_of [] (opposite d ∷ ls))

-- "d implies each of these", a clause for each
abbrev pub implies_each : ℕ → List ℕ → List Entry
implies_each d [] = []
implies_each d (l ∷ ls) = implies d (l ∷ []) ++ implies_each d ls

-- what the literal d of an And or an Or implies of the literals of its parts
abbrev pub definition : Junction → ℕ → List ℕ → List Entry
definition And d ls = implies_each d ls
definition Or d ls = implies d ls

-- the definitions of the Ands and Ors of a formula, from these numbers on; those of the parts come first
abbrev mutual
  pub clauses_of : Numbers → Tree → List Entry
  clauses_of n (literal a positive) = []
  clauses_of n (node j ps) = clauses_of_all (with_place n) ps ++ definition j (place_lit n) (lits_of (with_place n) ps)

  pub clauses_of_all : Numbers → Trees → List Entry
  clauses_of_all n none = []
  clauses_of_all n (part p ps) = clauses_of n p ++ clauses_of_all (after n p) ps

-- whole formulas: each ends with the clause of its own literal alone
abbrev pub formula_clauses : Numbers → Trees → List Entry
formula_clauses n none = []
formula_clauses n (part p ps) = clauses_of n p ++ (Clause (lit_of n p ∷ []) ∷ formula_clauses (after n p) ps)

-- the clauses of all formulas, over the variables that these take
abbrev pub clause_form : Trees → Formula
clause_form ps = record { variables = (after_all start ps).variables; clauses = formula_clauses start ps }

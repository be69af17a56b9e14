-- How many arguments an update has whose demands are met.
use Rattle.std.proofs.Common.{◌≡◌, ◌≤◌, ◌==◌, ◌++◌, ◌∷◌, ℕ, suc, List, [], length, None, refl, subst, ap, arith}
use Rattle.std.proofs.lemmas.Bool.{eqb-true}
use Rattle.fol_sig.specs.Symbols.{symbols}
use Rattle.rml_lex.specs.declared.fault_code.FaultCode.TheVariants as fault_code
use Rattle.rml_terms.specs.declared.tree.Name.{Name}
use Rattle.rml_terms.specs.declared.tree.Expr.{Expr}
use Rattle.rml_terms.specs.Tree.{ExprTree, ExprTrees, exprs_of, expr_trees}
use Rattle.rml_names.specs.Vocabulary.{Vocabulary}
use Rattle.rml_names.specs.declared.meaning.Meaning.{Meaning}
use Rattle.rml_names.specs.declared.meaning.Meaning.TheVariants as meaning
use Rattle.rml_sort_check.specs.declared.wanted.Wanted.TheVariants.{Term}
use Rattle.rml_names.specs.Meanings.{bytes_of, symbol_of, is_function_with_arguments, result_sort}
use Rattle.rml_sort_check.specs.Demands.{first_fault, asks, expr_count, argument_demands, tuple_demands, put_demands}
use Rattle.rml_sort_check.specs.Demands.{demands}
use Rattle.rml_names.specs.Sound.{IsSorted}
use Rattle.rml_sort_check.specs.Firsts.{met}
use Rattle.rml_sorts.proofs.Fitting.{IsThere, not_none, symbol_is_there}

pub count_trees : (es : List Expr) → expr_count (exprs_of (expr_trees es)) ≡ length es
count_trees [] = refl
count_trees (e ∷ es) = ap suc (count_trees es)

module _ (text : List ℕ) (v : Vocabulary) (s : IsSorted v) where
  -- an update of a relation has at most 8 arguments
  tuple_few : (x : Meaning) (at : ℕ) (args : ExprTrees) → IsThere v 0 [] x
      → first_fault (tuple_demands text v x at args) ≡ None → expr_count args ≤ 8
  tuple_few (meaning.Bound i k) at args h d = not_none _ d
  tuple_few (meaning.Relation r) at args h d =
      let ks = (symbols v.signature).sorts_of r in
      let e : expr_count args ≡ length ks =
      eqb-true (expr_count args) (length ks)
      (met (asks at fault_code.WrongArgumentCount (expr_count args == length ks))
      (argument_demands text v [] args ks) d).0 in
      omega (arith, e, s.sorted.relations_short r h)
  tuple_few (meaning.Function f) at args h d = not_none _ d
  tuple_few (meaning.Derived k) at args h d = not_none _ d
  tuple_few meaning.Unknown at args h d = not_none _ d

  -- so has one of a function
  put_few : (x : Meaning) (at : ℕ) (args : ExprTrees) (e : ExprTree) → IsThere v 0 [] x
      → first_fault (put_demands text v x at args e) ≡ None → expr_count args ≤ 8
  put_few (meaning.Bound i k) at args e h d = not_none _ d
  put_few (meaning.Relation r) at args e h d = not_none _ d
  put_few (meaning.Function f) at args e h d =
      let ks = (symbols v.signature).from_of f in
      let more = argument_demands text v [] args ks
      ++ demands text v [] (Term (result_sort v (meaning.Function f))) e in
      let a = met (asks at fault_code.BadTarget (is_function_with_arguments v (meaning.Function f)))
      (asks at fault_code.WrongArgumentCount (expr_count args == length ks) ∷ more) d in
      let b : expr_count args ≡ length ks =
      eqb-true (expr_count args) (length ks)
      (met (asks at fault_code.WrongArgumentCount (expr_count args == length ks)) more a.1).0 in
      omega (arith, b, s.sorted.functions_short f h)
  put_few (meaning.Derived k) at args e h d = not_none _ d
  put_few meaning.Unknown at args e h d = not_none _ d

  pub few_for_tuple : (name : Name) (args : List Expr)
      → first_fault (tuple_demands text v (symbol_of v (bytes_of text name)) name.start (exprs_of (expr_trees args)))
      ≡ None → length args ≤ 8
  few_for_tuple name args d =
      let few = tuple_few (symbol_of v (bytes_of text name)) name.start (exprs_of (expr_trees args))
      (symbol_is_there v s [] (bytes_of text name)) d in
      subst (λ (n : ℕ). n ≤ 8) (count_trees args) few

  pub few_for_put : (name : Name) (args : List Expr) (e : ExprTree)
      → first_fault (put_demands text v (symbol_of v (bytes_of text name)) name.start (exprs_of (expr_trees args)) e)
      ≡ None → length args ≤ 8
  few_for_put name args e d =
      let few = put_few (symbol_of v (bytes_of text name)) name.start (exprs_of (expr_trees args)) e
      (symbol_is_there v s [] (bytes_of text name)) d in
      subst (λ (n : ℕ). n ≤ 8) (count_trees args) few

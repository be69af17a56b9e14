-- The primitives of commands whose demands are met fit.
use Rattle.std.proofs.Common.{◌≡◌, ◌==◌, ◌||◌, ◌&&◌, Bool, ℕ, suc, true, false, is_some, List, [], ◌∷◌, ◌++◌, length, reverse, slice_index}
use Rattle.std.proofs.Common.{Option, Some, None, refl, sym, subst, ap, ◌∙◌, arith, append_assoc, length-append}
use Rattle.std.proofs.lemmas.List.{append-nil, reverse-append, length-reverse}
use Rattle.std.proofs.Math.Seq.{get_or-append_seam}
use Rattle.std.proofs.lemmas.Bool.{eqb-true}
use Rattle.fol_sig.specs.Symbols.{Symbols, symbols}
use Rattle.fol_formula.specs.Syntax.{FormTree, TermTree, TermTrees, bound, size_of, no_terms, term_then}
use Rattle.fol_formula.specs.Fits.{FitsForm, FitsForms, FitsTerm, FitsTerms}
use Rattle.rml_lex.specs.declared.fault_code.FaultCode.TheVariants as fault_code
use Rattle.rml_terms.specs.declared.tree.Name.{Name}
use Rattle.rml_terms.specs.Tree.{ExprTree, ExprTrees}
use Rattle.rml_command.specs.Models.{FitsPrimitive}
use Rattle.rml_names.specs.Vocabulary.{Vocabulary}
use Rattle.rml_names.specs.Sound.{IsSorted}
use Rattle.rml_sorts.specs.Sound.{HasBodies}
use Rattle.fol_subst.specs.Templates.{InstancesFit}
use Rattle.rml_syntax.specs.declared.tree.Format.{Format}
use Rattle.rml_syntax.specs.declared.tree.Format.TheVariants.{One, Two}
use Rattle.rml_names.specs.declared.meaning.Meaning.{Meaning}
use Rattle.rml_names.specs.declared.meaning.Meaning.TheVariants as meaning
use Rattle.rml_sort_check.specs.declared.wanted.Wanted.TheVariants.{Term}
use Rattle.rml_names.specs.Meanings.{bytes_of, is_known, is_relation, is_variable, is_function_with_arguments, is_writable}
use Rattle.rml_names.specs.Meanings.{argument_sorts, result_sort, BoundName, with_parameters, with_binders, binding}
use Rattle.rml_names.specs.Meanings.{sort_number}
use Rattle.rml_terms.specs.declared.tree.Binder.{Binder}
use Rattle.rml_items.specs.Items.{parameter_sorts}
use Rattle.rml_sort_check.specs.Demands.{Demand, first_fault, is_expected, expr_count, asks, demands, argument_demands}
use Rattle.rml_sort_check.specs.Demands.{tuple_demands, put_demands, parameter_demands, side_demands, assign_demands, may_vary}
use Rattle.rml_elaborate.specs.Formulas.{formula_of, term_of, terms_of}
use Rattle.rml_command.specs.Fresh.{parameters}
use Rattle.rml_elaborate.specs.Updates.{equations, at_tuple, insertion, removal, placement}
use Rattle.rml_elaborate.specs.Updates.{assignment}
use Rattle.rml_sort_check.specs.Firsts.{met, met_left, met_right}
use Rattle.rml_sorts.proofs.Extending.{Extends, same_symbols, term_grows}
use Rattle.rml_sorts.proofs.Fitting.{sorts_of, IsThere, expected_sort, formula_fits, term_fits, arguments_fit}

-- ---- parameters

turned : (k : ℕ) (ks more : List ℕ) → reverse (k ∷ ks) ++ more ≡ reverse ks ++ (k ∷ more)
turned k ks more = ap (λ (l : List ℕ). l ++ more) (reverse-append (k ∷ []) ks) ∙ append_assoc (reverse ks) (k ∷ []) more

-- the index of a parameter is the number of those behind it
parameter_fits : (sig : Symbols) (k n : ℕ) (ks more : List ℕ) → n ≡ length ks
    → FitsTerm sig (reverse ks ++ (k ∷ more)) (bound n) k
parameter_fits sig k n ks more e =
    let r : length (reverse ks) ≡ length ks = length-reverse ks in
    (omega (arith, length-append (reverse ks) (k ∷ more)), at)
  where
    at : slice_index (reverse ks ++ (k ∷ more)) n ≡ k
    at = let i : length (reverse ks) ≡ n = length-reverse ks ∙ sym e in
        subst (λ (i : ℕ). slice_index (reverse ks ++ (k ∷ more)) i ≡ k) i (get_or-append_seam (reverse ks) k more 0)

parameters_fit : (sig : Symbols) (ks more : List ℕ) → FitsTerms sig (reverse ks ++ more) (parameters (length ks)) ks
parameters_fit sig [] more = tt
parameters_fit sig (k ∷ ks) more =
    subst (λ (ss : List ℕ). FitsTerms sig ss (term_then (bound (length ks)) (parameters (length ks))) (k ∷ ks))
    (sym (turned k ks more))
    (parameter_fits sig k (length ks) ks more refl, parameters_fit sig ks (k ∷ more))

count_fits : (sig : Symbols) (ss : List ℕ) (ts : TermTrees) (ks : List ℕ) → FitsTerms sig ss ts ks
    → size_of ts ≡ length ks
count_fits sig ss no_terms [] h = refl
count_fits sig ss no_terms (k ∷ ks) h = absurd h
count_fits sig ss (term_then t ts) [] h = absurd h
count_fits sig ss (term_then t ts) (k ∷ ks) h = ap suc (count_fits sig ss ts ks h.1)

equations_fit : (sig : Symbols) (ts : TermTrees) (ks more : List ℕ) → FitsTerms sig [] ts ks
    → FitsForms sig (reverse ks ++ more) (equations ts)
equations_fit sig no_terms ks more h = tt
equations_fit sig (term_then t ts) [] more h = absurd h
equations_fit sig (term_then t ts) (k ∷ ks) more h =
    subst (λ (ss : List ℕ). FitsForms sig ss (equations (term_then t ts))) (sym (turned k ks more)) (
      (
        k,
        parameter_fits sig k (size_of ts) ks more (count_fits sig [] ts ks h.1),
        term_grows sig sig
            (same_symbols sig) (reverse ks ++ (k ∷ more)) [] t k h.0,
      ),
      equations_fit sig ts ks (k ∷ more) h.1,
    )

-- the two of an update at one tuple: the symbol at its parameters, and the equations
record TupleFits (sig : Symbols) (ts : TermTrees) (ks : List ℕ) : Type 0 where
  parameters_fit : FitsTerms sig (reverse ks) (parameters (size_of ts)) ks
  equations_fit : FitsForm sig (reverse ks) (at_tuple ts)

tuple_fits : (sig : Symbols) (ts : TermTrees) (ks : List ℕ) → FitsTerms sig [] ts ks → TupleFits sig ts ks
tuple_fits sig ts ks h = record {
  parameters_fit = subst (λ (n : ℕ). FitsTerms sig (reverse ks) (parameters n) ks) (sym (count_fits sig [] ts ks h))
      (subst (λ (ss : List ℕ). FitsTerms sig ss (parameters (length ks)) ks) (append-nil (reverse ks))
      (parameters_fit sig ks []));
  equations_fit = subst (λ (ss : List ℕ). FitsForms sig ss (equations ts)) (append-nil (reverse ks))
      (equations_fit sig ts ks [] h);
}

sorts-parameters : (text : List ℕ) (bs : List BoundName) (ps : List Name) (ks : List ℕ) → length ps ≡ length ks
    → sorts_of (with_parameters text bs ps ks) ≡ reverse ks ++ sorts_of bs
sorts-parameters text bs [] [] e = refl
sorts-parameters text bs [] (k ∷ ks) e = absurd (omega arith)
sorts-parameters text bs (p ∷ ps) [] e = absurd (omega arith)
sorts-parameters text bs (p ∷ ps) (k ∷ ks) e =
    sorts-parameters text (record { name = bytes_of text p; sort = k } ∷ bs) ps ks (omega arith)
    ∙ sym (turned k ks (sorts_of bs))

pub sorts-binders : (text : List ℕ) (v : Vocabulary) (bs : List BoundName) (ps : List Binder)
    → sorts_of (with_binders text v bs ps) ≡ reverse (parameter_sorts text v ps) ++ sorts_of bs
sorts-binders text v bs [] = refl
sorts-binders text v bs (p ∷ ps) =
    sorts-binders text v (binding text v p ∷ bs) ps
    ∙ sym (turned (sort_number text v p.sort) (parameter_sorts text v ps) (sorts_of bs))

-- the target of `:=` may be written, and may become anything where there is no value
abbrev may_vary_if : Vocabulary → Format → Meaning → Option ExprTree → Bool
may_vary_if v format x value = is_writable v x && (is_some value || may_vary v format x)

and_right : (a b : Bool) → (a && b) ≡ true → b ≡ true
and_right true b h = h
and_right false b h = cc

or_nothing : (a : Bool) → (a || false) ≡ true → a ≡ true
or_nothing true h = refl
or_nothing false h = h

-- a function that may become anything is a variable
varies : (v : Vocabulary) (format : Format) (f : ℕ) → may_vary_if v format (meaning.Function f) None ≡ true
    → (length ((symbols v.signature).from_of f) == 0) ≡ true
varies v One f h = and_right (is_writable v (meaning.Function f)) _ h
varies v Two f h =
    or_nothing (length ((symbols v.signature).from_of f) == 0) (and_right (is_writable v (meaning.Function f)) _ h)

no_length : (ks : List ℕ) → (length ks == 0) ≡ true → ks ≡ []
no_length [] h = refl
no_length (k ∷ ks) h = absurd (omega (arith, eqb-true (length (k ∷ ks)) 0 h))

module _ (fit : InstancesFit) (text : List ℕ) (v : Vocabulary) (bodies : List FormTree) (s : IsSorted v)
    (right : HasBodies v bodies) where
  abbrev sig : Symbols
  sig = symbols v.signature

  insertion_fits : (x : Meaning) (ts : TermTrees) → IsThere v 0 [] x → FitsTerms sig [] ts (argument_sorts v x)
      → FitsPrimitive sig (insertion x ts)
  insertion_fits (meaning.Bound i k) ts h f = tt
  insertion_fits (meaning.Relation r) ts h f = let t = tuple_fits sig ts (sig.sorts_of r) f in
      (h, ((h, s.sorted.relations_short r h, t.parameters_fit), (t.equations_fit, tt)))
  insertion_fits (meaning.Function g) ts h f = tt
  insertion_fits (meaning.Derived d) ts h f = tt
  insertion_fits meaning.Unknown ts h f = tt

  removal_fits : (x : Meaning) (ts : TermTrees) → IsThere v 0 [] x → FitsTerms sig [] ts (argument_sorts v x)
      → FitsPrimitive sig (removal x ts)
  removal_fits (meaning.Bound i k) ts h f = tt
  removal_fits (meaning.Relation r) ts h f = let t = tuple_fits sig ts (sig.sorts_of r) f in
      (h, ((h, s.sorted.relations_short r h, t.parameters_fit), (t.equations_fit, tt)))
  removal_fits (meaning.Function g) ts h f = tt
  removal_fits (meaning.Derived d) ts h f = tt
  removal_fits meaning.Unknown ts h f = tt

  placement_fits : (x : Meaning) (ts : TermTrees) (u : TermTree) → IsThere v 0 [] x
      → FitsTerms sig [] ts (argument_sorts v x)
      → ((k : ℕ) → result_sort v x ≡ Some k → FitsTerm sig [] u k) → FitsPrimitive sig (placement x ts u)
  placement_fits (meaning.Bound i k) ts u h f g = tt
  placement_fits (meaning.Relation r) ts u h f g = tt
  placement_fits (meaning.Function p) ts u h f g =
      let t = tuple_fits sig ts (sig.from_of p) f in (
        h,
        (
          t.equations_fit,
          term_grows sig sig (same_symbols sig) (reverse (sig.from_of p)) [] u (sig.into_of p)
              (g (sig.into_of p) refl),
          (h, refl, s.sorted.functions_short p h, t.parameters_fit),
        ),
      )
  placement_fits (meaning.Derived d) ts u h f g = tt
  placement_fits meaning.Unknown ts u h f g = tt

  -- the arguments of `insert`, `remove` and `put`, behind three demands on the target
  tuple_arguments : (x : Meaning) (a b : Demand) (at : ℕ) (args : ExprTrees) (more : List Demand)
      → first_fault ((a ∷ b ∷ asks at fault_code.WrongArgumentCount (expr_count args == length (argument_sorts v x))
      ∷ []) ++ (argument_demands text v [] args (argument_sorts v x) ++ more)) ≡ None
      → FitsTerms sig [] (terms_of text v bodies [] args) (argument_sorts v x)
  tuple_arguments x a b at args more d =
      let ds = argument_demands text v [] args (argument_sorts v x) ++ more in
      let c = asks at fault_code.WrongArgumentCount (expr_count args == length (argument_sorts v x)) in
      let n = met c ds (met b (c ∷ ds) (met a (b ∷ c ∷ ds) d).1).1 in
      arguments_fit fit text v bodies s right [] args (argument_sorts v x)
      (met_left (argument_demands text v [] args (argument_sorts v x)) more n.1)
      (eqb-true (expr_count args) (length (argument_sorts v x)) n.0)

  with_nothing : (ds : List Demand) → first_fault ds ≡ None → first_fault (ds ++ []) ≡ None
  with_nothing ds d = subst (λ (es : List Demand). first_fault es ≡ None) (sym (append-nil ds)) d

  tuple_terms : (x : Meaning) (at : ℕ) (args : ExprTrees) → first_fault (tuple_demands text v x at args) ≡ None
      → FitsTerms sig [] (terms_of text v bodies [] args) (argument_sorts v x)
  tuple_terms x at args d =
      tuple_arguments x (asks at fault_code.UnknownName (is_known x)) (asks at fault_code.BadTarget (is_relation x && is_writable v x)) at
      args []
      (subst (λ (es : List Demand). first_fault es ≡ None)
      (ap (λ (es : List Demand). asks at fault_code.UnknownName (is_known x)
      ∷ asks at fault_code.BadTarget (is_relation x && is_writable v x)
      ∷ asks at fault_code.WrongArgumentCount (expr_count args == length (argument_sorts v x)) ∷ es)
      (sym (append-nil (argument_demands text v [] args (argument_sorts v x))))) d)

  pub insert_fits : (x : Meaning) (at : ℕ) (args : ExprTrees) → IsThere v 0 [] x
      → first_fault (tuple_demands text v x at args) ≡ None → FitsPrimitive sig (insertion x (terms_of text v bodies [] args))
  insert_fits x at args h d = insertion_fits x (terms_of text v bodies [] args) h (tuple_terms x at args d)

  pub remove_fits : (x : Meaning) (at : ℕ) (args : ExprTrees) → IsThere v 0 [] x
      → first_fault (tuple_demands text v x at args) ≡ None → FitsPrimitive sig (removal x (terms_of text v bodies [] args))
  remove_fits x at args h d = removal_fits x (terms_of text v bodies [] args) h (tuple_terms x at args d)

  pub put_fits : (x : Meaning) (at : ℕ) (args : ExprTrees) (e : ExprTree) → IsThere v 0 [] x
      → first_fault (put_demands text v x at args e) ≡ None
      → FitsPrimitive sig (placement x (terms_of text v bodies [] args) (term_of text v bodies [] e))
  put_fits x at args e h d =
      let target = asks at fault_code.UnknownName (is_known x)
      ∷ asks at fault_code.BadTarget (is_function_with_arguments v x)
      ∷ asks at fault_code.WrongArgumentCount (expr_count args == length (argument_sorts v x)) ∷ [] in
      let more = demands text v [] (Term (result_sort v x)) e in
      let ds = argument_demands text v [] args (argument_sorts v x) in
      let w = term_fits fit text v bodies s right [] (result_sort v x) e
      (met_right ds more (met_right target (ds ++ more) d)) in
      placement_fits x (terms_of text v bodies [] args) (term_of text v bodies [] e) h
      (tuple_arguments x (asks at fault_code.UnknownName (is_known x))
      (asks at fault_code.BadTarget (is_function_with_arguments v x)) at args more d)
      (λ k is. subst (λ (l : ℕ). FitsTerm sig [] (term_of text v bodies [] e) l)
      (expected_sort k w.sort (subst (λ (o : Option ℕ). is_expected o (Some w.sort) ≡ true) is w.expects)) w.fits)

  -- ---- `:=`

  assignment_fits : (format : Format) (x : Meaning) (ps : List Name) (value : Option ExprTree) → IsThere v 0 [] x
      → length ps ≡ length (argument_sorts v x) → may_vary_if v format x value ≡ true
      → first_fault (side_demands text v (with_parameters text [] ps (argument_sorts v x)) x value) ≡ None
      → FitsPrimitive sig (assignment text v bodies x ps value)
  assignment_fits format (meaning.Bound i k) ps value h n w d = tt
  assignment_fits format (meaning.Relation r) ps None h n w d = h
  assignment_fits format (meaning.Relation r) ps (Some e) h n w d =
      let bs = with_parameters text [] ps (sig.sorts_of r) in (
        h,
        subst (λ (ss : List ℕ). FitsForm sig ss (formula_of text v bodies (with_parameters text [] ps (sig.sorts_of r)) e))
            (sorts-parameters text [] ps (sig.sorts_of r) n ∙ append-nil (reverse (sig.sorts_of r)))
            (formula_fits fit text v bodies s right bs e d),
      )
  assignment_fits format (meaning.Function f) ps None h n w d =
      (h, no_length (sig.from_of f) (varies v format f w), s.sorted.into f h)
  assignment_fits format (meaning.Function f) ps (Some e) h n w d =
      let bs = with_parameters text [] ps (sig.from_of f) in
      let t = term_fits fit text v bodies s right bs (Some (sig.into_of f)) e d in (
        h,
        subst (λ (ss : List ℕ). FitsTerm sig ss (term_of text v bodies (with_parameters text [] ps (sig.from_of f)) e)
            (sig.into_of f)) (sorts-parameters text [] ps (sig.from_of f) n ∙ append-nil (reverse (sig.from_of f)))
            (subst (λ (l : ℕ). FitsTerm sig (sorts_of bs)
            (term_of text v bodies (with_parameters text [] ps (sig.from_of f)) e) l)
            (expected_sort (sig.into_of f) t.sort t.expects) t.fits),
      )
  assignment_fits format (meaning.Derived d) ps value h n w e = tt
  assignment_fits format meaning.Unknown ps value h n w d = tt

  pub assign_fits : (format : Format) (x : Meaning) (at : ℕ) (ps : List Name) (value : Option ExprTree) → IsThere v 0 [] x
      → first_fault (assign_demands text v format x at ps value) ≡ None
      → FitsPrimitive sig (assignment text v bodies x ps value)
  assign_fits format x at ps value h d =
      let side = side_demands text v (with_parameters text [] ps (argument_sorts v x)) x value in
      let ds = parameter_demands text v [] ps ++ side in
      let a = asks at fault_code.UnknownName (is_known x) in
      let b = asks at fault_code.BadTarget (is_writable v x && (is_some value || may_vary v format x)) in
      let c = asks at fault_code.WrongArgumentCount (length ps == length (argument_sorts v x)) in
      let known = met a (b ∷ c ∷ ds) d in
      let target = met b (c ∷ ds) known.1 in
      let count = met c ds target.1 in
      assignment_fits format x ps value h (eqb-true (length ps) (length (argument_sorts v x)) count.0) target.0
      (met_right (parameter_demands text v [] ps) side count.1)

-- Expressions whose demands are met stand for formulas and terms that fit.
use Rattle.std.proofs.Common.{◌≡◌, ◌<◌, ◌+◌, ◌==◌, ℕ, suc, Bool, true, false, is_some, if◌then◌else◌, List, [], ◌∷◌}
use Rattle.std.proofs.Common.{◌++◌, length, map, slice_index, slice_index_or, unwrap_or, Option, Some, None, refl, sym, subst, ◌∙◌}
use Rattle.std.proofs.Common.{arith}
use Rattle.std.specs.Str.{bytes_eq}
use Rattle.std.proofs.lemmas.List.Quantifiers.{position-Some}
use Rattle.std.proofs.lemmas.Bool.{eqb-true}
use Rattle.fol_sig.specs.Symbols.{Symbols, symbols}
use Rattle.fol_formula.specs.Syntax.{FormTree, TermTrees, bottom}
use Rattle.fol_formula.specs.Fits.{FitsForm, FitsForms, FitsTerm, FitsTerms}
use Rattle.rml_lex.specs.declared.token.Fault.{Fault}
use Rattle.rml_lex.specs.declared.fault_code.FaultCode.TheVariants as fault_code
use Rattle.rml_terms.specs.declared.tree.Name.{Name}
use Rattle.rml_terms.specs.declared.tree.Quantifier.{Quantifier}
use Rattle.rml_terms.specs.declared.tree.Quantifier.TheVariants.{Forall, Exists}
use Rattle.rml_terms.specs.Tree.{ExprTree, ExprTrees, True, False, Apply, Ite, Equal, Not, And, Or, Implies, Iff}
use Rattle.rml_terms.specs.Tree.{Quantified, no_expr, and_expr}
use Rattle.rml_names.specs.Vocabulary.{Vocabulary, derived_sorts}
use Rattle.rml_names.specs.Sound.{IsSorted}
use Rattle.rml_sorts.specs.Sound.{HasBodies}
use Rattle.fol_subst.specs.Templates.{InstancesFit}
use Rattle.rml_names.specs.declared.meaning.Meaning.{Meaning}
use Rattle.rml_names.specs.declared.meaning.Meaning.TheVariants as meaning
use Rattle.rml_sort_check.specs.declared.wanted.Wanted.TheVariants.{Formula, Term}
use Rattle.rml_names.specs.Meanings.{bytes_of, place_among, symbol_by, symbol_of, argument_sorts, result_sort}
use Rattle.rml_names.specs.Meanings.{BoundName, meaning_from, meaning_of, sort_by_name, sort_number, binding, term_sort}
use Rattle.rml_sort_check.specs.Demands.{Demand, first_fault, expr_count, is_expected, second_sort, name_demands, asks}
use Rattle.rml_sort_check.specs.Demands.{demands, formula_demands, argument_demands}
use Rattle.rml_elaborate.specs.Formulas.{atom_of, application_of, quantified, formula_of, formulas_of, term_of}
use Rattle.rml_elaborate.specs.Formulas.{terms_of}
use Rattle.rml_sort_check.specs.Firsts.{met, met_left, met_right}

-- the sorts of bound names
abbrev pub sorts_of : List BoundName → List ℕ
sorts_of bs = map (λ b. b.sort) bs

-- ---- what a name means is there

-- where a bound name of these, the first of them as i, or a symbol is meant, it is there
abbrev pub IsThere : Vocabulary → ℕ → List BoundName → Meaning → Type 0
IsThere v i bs (meaning.Bound k sort) =
    (j : ℕ) × (k ≡ i + j) × (j < length (sorts_of bs)) × (slice_index (sorts_of bs) j ≡ sort)
IsThere v i bs (meaning.Relation r) = r < length v.signature.relations
IsThere v i bs (meaning.Function f) = f < length v.signature.functions
IsThere v i bs (meaning.Derived d) = d < length v.derived
IsThere v i bs meaning.Unknown = Unit {0}

module _ (v : Vocabulary) (s : IsSorted v) where
  symbol_there : (i : ℕ) (bs : List BoundName) (name : List ℕ) → IsThere v i bs (symbol_of v name)
  symbol_there i bs name =
      by (place_among v.names.relations name) (place_among v.names.functions name) (place_among v.derived_names name) refl
      refl refl
    where
      by : (r f d : Option ℕ) → place_among v.names.relations name ≡ r → place_among v.names.functions name ≡ f
          → place_among v.derived_names name ≡ d → IsThere v i bs (symbol_by r f d)
      by (Some r) f d p q o = let t = position-Some (bytes_eq name) v.names.relations r [] p in
          omega (arith, t.0, s.relations)
      by None (Some f) d p q o = let t = position-Some (bytes_eq name) v.names.functions f [] q in
          omega (arith, t.0, s.functions)
      by None None (Some d) p q o = let t = position-Some (bytes_eq name) v.derived_names d [] o in
          omega (arith, t.0, s.derived)
      by None None None p q o = tt

  later : (i : ℕ) (b : BoundName) (bs : List BoundName) (x : Meaning) → IsThere v (suc i) bs x → IsThere v i (b ∷ bs) x
  later i b bs (meaning.Bound k sort) h = (suc h.0, omega (arith, h.1), omega (arith, h.2), h.3)
  later i b bs (meaning.Relation r) h = h
  later i b bs (meaning.Function f) h = h
  later i b bs (meaning.Derived d) h = h
  later i b bs meaning.Unknown h = tt

  pub meaning_there : (i : ℕ) (bs : List BoundName) (name : List ℕ) → IsThere v i bs (meaning_from v i bs name)
  meaning_there i [] name = symbol_there i [] name
  meaning_there i (b ∷ bs) name =
      by (bytes_eq name b.name) (later i b bs (meaning_from v (suc i) bs name) (meaning_there (suc i) bs name))
    where
      by : (t : Bool) → IsThere v i (b ∷ bs) (meaning_from v (suc i) bs name)
          → IsThere v i (b ∷ bs) (if t then meaning.Bound i b.sort else meaning_from v (suc i) bs name)
      by true so = (0, omega arith, omega arith, refl)
      by false so = so

  pub symbol_is_there : (bs : List BoundName) (name : List ℕ) → IsThere v 0 bs (symbol_of v name)
  symbol_is_there bs name = symbol_there 0 bs name

-- ---- sorts

pub known_below : (names : List (List ℕ)) (name : List ℕ) → is_some (place_among names name) ≡ true
    → unwrap_or (place_among names name) 0 < length names
known_below names name h = by (place_among names name) refl h
  where
    by : (o : Option ℕ) → place_among names name ≡ o → is_some o ≡ true → unwrap_or o 0 < length names
    by (Some k) e s = (position-Some (bytes_eq name) names k [] e).0
    by None e s = cc

pub expected_sort : (k l : ℕ) → is_expected (Some k) (Some l) ≡ true → l ≡ k
expected_sort k l h = eqb-true l k h

-- a term fits, and its sort is the expected one
pub record TermFits (text : List ℕ) (v : Vocabulary) (bodies : List FormTree) (bs : List BoundName)
    (expected : Option ℕ) (e : ExprTree) : Type 0 where
  pub sort : ℕ
  pub is : term_sort text v bs e ≡ Some sort
  pub expects : is_expected expected (Some sort) ≡ true
  pub fits : FitsTerm (symbols v.signature) (sorts_of bs) (term_of text v bodies bs e) sort

some_is : (k l : ℕ) → Some k ≡ Some l → k ≡ l
some_is k l h = cc

pub not_none : {A : Type 0} (f : Fault) → Some f ≡ None → A
not_none f h = absurd (cc)

module _ (fit : InstancesFit) (text : List ℕ) (v : Vocabulary) (bodies : List FormTree) (s : IsSorted v)
    (right : HasBodies v bodies) where
  abbrev sig : Symbols
  sig = symbols v.signature

  there : (bs : List BoundName) (name : Name) → IsThere v 0 bs (meaning_of v bs (bytes_of text name))
  there bs name = meaning_there v s 0 bs (bytes_of text name)

  pub sort_known_below : (name : Name) → is_some (sort_by_name text v name) ≡ true
      → sort_number text v name < v.signature.sorts
  sort_known_below name h = omega (arith, known_below v.names.sorts (bytes_of text name) h, s.sorts)

  abbrev terms_fit_if : List BoundName → TermTrees → ℕ → List ℕ → Type 0
  terms_fit_if bs args count ks = count ≡ length ks → FitsTerms sig (sorts_of bs) args ks

  atom_fits : (bs : List BoundName) (args : TermTrees) (count at : ℕ) (more : List Demand) (x : Meaning)
      → IsThere v 0 bs x
      → first_fault (name_demands v Formula x at count ++ more) ≡ None → terms_fit_if bs args count (argument_sorts v x)
      → FitsForm sig (sorts_of bs) (atom_of bodies x args)
  atom_fits bs args count at more (meaning.Bound i k) h d so = not_none _ d
  atom_fits bs args count at more (meaning.Relation r) h d so = (
    h,
    s.sorted.relations_short r h,
    so
        (eqb-true count (length (sig.sorts_of r))
        (met (asks at fault_code.WrongArgumentCount (count == length (sig.sorts_of r))) more d).0),
  )
  atom_fits bs args count at more (meaning.Function f) h d so = not_none _ d
  atom_fits bs args count at more (meaning.Derived k) h d so =
      fit sig (sorts_of bs) (derived_sorts v k) (slice_index_or bodies k bottom) args (right.fit k h)
      (so (eqb-true count (length (derived_sorts v k))
      (met (asks at fault_code.WrongArgumentCount (count == length (derived_sorts v k))) more d).0))
  atom_fits bs args count at more meaning.Unknown h d so = not_none _ d

  -- a name as a term
  record NameFits (bs : List BoundName) (expected : Option ℕ) (args : TermTrees) (x : Meaning) : Type 0 where
    sort : ℕ
    is : result_sort v x ≡ Some sort
    expects : is_expected expected (Some sort) ≡ true
    fits : FitsTerm sig (sorts_of bs) (application_of x args) sort

  name_fits : (bs : List BoundName) (expected : Option ℕ) (args : TermTrees) (count at : ℕ) (more : List Demand)
      (x : Meaning) → IsThere v 0 bs x
      → first_fault (name_demands v (Term expected) x at count ++ more) ≡ None
      → terms_fit_if bs args count (argument_sorts v x) → NameFits bs expected args x
  name_fits bs expected args count at more (meaning.Bound i k) h d so =
      let a = met (asks at fault_code.WrongSort (is_expected expected (Some k)))
      (asks at fault_code.WrongArgumentCount (count == 0) ∷ more) d in
      let e : i ≡ h.0 = omega (arith, h.1) in
      record {
        sort = k;
        is = refl;
        expects = a.0;
        fits = (omega (arith, h.1, h.2), subst (λ (j : ℕ). slice_index (sorts_of bs) j ≡ k) (sym e) h.3);
      }
  name_fits bs expected args count at more (meaning.Relation r) h d so = not_none _ d
  name_fits bs expected args count at more (meaning.Function f) h d so =
      let a = met (asks at fault_code.WrongSort (is_expected expected (Some (sig.into_of f))))
      (asks at fault_code.WrongArgumentCount (count == length (sig.from_of f)) ∷ more) d in
      let b = met (asks at fault_code.WrongArgumentCount (count == length (sig.from_of f))) more a.1 in
      record {
        sort = sig.into_of f;
        is = refl;
        expects = a.0;
        fits = (h, refl, s.sorted.functions_short f h, so (eqb-true count (length (sig.from_of f)) b.0));
      }
  name_fits bs expected args count at more (meaning.Derived k) h d so = not_none _ d
  name_fits bs expected args count at more meaning.Unknown h d so = not_none _ d

  quantified_fits : (ks : List ℕ) (q : Quantifier) (k : ℕ) (p : FormTree) → k < v.signature.sorts
      → FitsForm sig (k ∷ ks) p → FitsForm sig ks (quantified q k p)
  quantified_fits ks Forall k p below h = (below, h)
  quantified_fits ks Exists k p below h = (below, h)

  same_sort : (k l : ℕ) (o : Option ℕ) → o ≡ Some k → is_expected o (Some l) ≡ true → l ≡ k
  same_sort k l o e h = expected_sort k l (subst (λ (o : Option ℕ). is_expected o (Some l) ≡ true) e h)

  -- both terms of an `ite` have one sort
  handed_sort : (k l : ℕ) (expected o : Option ℕ) → o ≡ Some k → is_expected expected (Some k) ≡ true
      → is_expected (second_sort expected o) (Some l) ≡ true → l ≡ k
  handed_sort k l (Some j) o e h g = expected_sort j l g ∙ sym (expected_sort j k h)
  handed_sort k l None o e h g = same_sort k l o e g

  mutual
    pub formula_fits : (bs : List BoundName) (e : ExprTree) → first_fault (demands text v bs Formula e) ≡ None
        → FitsForm sig (sorts_of bs) (formula_of text v bodies bs e)
    formula_fits bs (True at) d = tt
    formula_fits bs (False at) d = tt
    formula_fits bs (Apply name args) d =
        let x = meaning_of v bs (bytes_of text name) in
        let ks = argument_sorts v (meaning_of v bs (bytes_of text name)) in
        let there : IsThere v 0 bs (meaning_of v bs (bytes_of text name)) = there bs name in
        atom_fits bs (terms_of text v bodies bs args) (expr_count args) name.start (argument_demands text v bs args ks)
        (meaning_of v bs (bytes_of text name)) there d
        (arguments_fit bs args ks
        (met_right (name_demands v Formula x name.start (expr_count args)) (argument_demands text v bs args ks) d))
    formula_fits bs (Ite at c a b) d = not_none _ d
    formula_fits bs (Equal at a b) d =
        let da = demands text v bs (Term None) a in
        let db = demands text v bs (Term (term_sort text v bs a)) b in
        let ta = term_fits bs None a (met_left da db d) in
        let tb = term_fits bs (term_sort text v bs a) b (met_right da db d) in (
          ta.sort,
          ta.fits,
          subst (λ (k : ℕ). FitsTerm sig (sorts_of bs) (term_of text v bodies bs b) k)
              (same_sort ta.sort tb.sort (term_sort text v bs a) ta.is tb.expects) tb.fits,
        )
    formula_fits bs (Not at a) d = formula_fits bs a d
    formula_fits bs (And at args) d = formulas_fit bs args d
    formula_fits bs (Or at args) d = formulas_fit bs args d
    formula_fits bs (Implies at a b) d =
        let da = demands text v bs Formula a in
        let db = demands text v bs Formula b in
        (formula_fits bs a (met_left da db d), formula_fits bs b (met_right da db d))
    formula_fits bs (Iff at a b) d =
        let da = demands text v bs Formula a in
        let db = demands text v bs Formula b in
        (formula_fits bs a (met_left da db d), formula_fits bs b (met_right da db d))
    formula_fits bs (Quantified q at b a) d =
        let more = demands text v (binding text v b ∷ bs) Formula a in
        let known = met (asks b.sort.start fault_code.UnknownName (is_some (sort_by_name text v b.sort))) more
        (met (asks b.name.start fault_code.TakenName _)
        (asks b.sort.start fault_code.UnknownName (is_some (sort_by_name text v b.sort)) ∷ more) d).1 in
        quantified_fits (sorts_of bs) q (sort_number text v b.sort) (formula_of text v bodies (binding text v b ∷ bs) a)
        (sort_known_below b.sort known.0)
        (formula_fits (binding text v b ∷ bs) a known.1)

    formulas_fit : (bs : List BoundName) (es : ExprTrees) → first_fault (formula_demands text v bs es) ≡ None
        → FitsForms sig (sorts_of bs) (formulas_of text v bodies bs es)
    formulas_fit bs no_expr d = tt
    formulas_fit bs (and_expr e es) d =
        let de = demands text v bs Formula e in
        let ds = formula_demands text v bs es in
        (formula_fits bs e (met_left de ds d), formulas_fit bs es (met_right de ds d))

    pub term_fits : (bs : List BoundName) (expected : Option ℕ) (e : ExprTree)
        → first_fault (demands text v bs (Term expected) e) ≡ None → TermFits text v bodies bs expected e
    term_fits bs expected (True at) d = not_none _ d
    term_fits bs expected (False at) d = not_none _ d
    term_fits bs expected (Apply name args) d =
        let x = meaning_of v bs (bytes_of text name) in
        let ks = argument_sorts v (meaning_of v bs (bytes_of text name)) in
        let there : IsThere v 0 bs (meaning_of v bs (bytes_of text name)) = there bs name in
        let n = name_fits bs expected (terms_of text v bodies bs args) (expr_count args) name.start
        (argument_demands text v bs args ks) (meaning_of v bs (bytes_of text name)) there d
        (arguments_fit bs args ks
        (met_right (name_demands v (Term expected) x name.start (expr_count args))
        (argument_demands text v bs args ks) d)) in
        record { sort = n.sort; is = n.is; expects = n.expects; fits = n.fits }
    term_fits bs expected (Ite at c a b) d =
        let dc = demands text v bs Formula c in
        let da = demands text v bs (Term expected) a in
        let db = demands text v bs (Term (second_sort expected (term_sort text v bs a))) b in
        let dab = met_right dc (da ++ db) d in
        let ta = term_fits bs expected a (met_left da db dab) in
        let tb = term_fits bs (second_sort expected (term_sort text v bs a)) b (met_right da db dab) in
        record {
          sort = ta.sort;
          is = ta.is;
          expects = ta.expects;
          fits = (
            formula_fits bs c (met_left dc (da ++ db) d),
            ta.fits,
            subst (λ (k : ℕ). FitsTerm sig (sorts_of bs) (term_of text v bodies bs b) k)
                (handed_sort ta.sort tb.sort expected (term_sort text v bs a) ta.is ta.expects tb.expects) tb.fits,
          );
        }
    term_fits bs expected (Equal at a b) d = not_none _ d
    term_fits bs expected (Not at a) d = not_none _ d
    term_fits bs expected (And at args) d = not_none _ d
    term_fits bs expected (Or at args) d = not_none _ d
    term_fits bs expected (Implies at a b) d = not_none _ d
    term_fits bs expected (Iff at a b) d = not_none _ d
    term_fits bs expected (Quantified q at b a) d = not_none _ d

    pub arguments_fit : (bs : List BoundName) (es : ExprTrees) (ks : List ℕ)
        → first_fault (argument_demands text v bs es ks) ≡ None → expr_count es ≡ length ks
        → FitsTerms sig (sorts_of bs) (terms_of text v bodies bs es) ks
    arguments_fit bs no_expr [] d n = tt
    arguments_fit bs no_expr (k ∷ ks) d n = absurd (omega arith)
    arguments_fit bs (and_expr e es) [] d n = absurd (omega arith)
    arguments_fit bs (and_expr e es) (k ∷ ks) d n =
        let de = demands text v bs (Term (Some k)) e in
        let ds = argument_demands text v bs es ks in
        let t = term_fits bs (Some k) e (met_left de ds d) in (
          subst (λ (l : ℕ). FitsTerm sig (sorts_of bs) (term_of text v bodies bs e) l) (expected_sort k t.sort t.expects)
              t.fits,
          arguments_fit bs es ks (met_right de ds d) (omega arith),
        )

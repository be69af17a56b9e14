-- The first fault of a part by those of its parts.
use Rattle.std.proofs.Common.{◌≡◌, ℕ, suc, ◌+◌, ◌-◌, ◌<◌, ◌≤◌, Bool, true, false, if◌then◌else◌, List, [], ◌∷◌, ◌++◌}
use Rattle.std.proofs.Common.{length, get_or, take, drop, arith, Option, Some, None, refl, sym, ap, ◌∙◌}
use Rattle.std.specs.Option.{option_or}
use Rattle.std.proofs.lemmas.List.{drop_more, take_rest}
use Rattle.fol_sig.specs.declared.Sort.{Sort}
use Rattle.fol_sig.specs.Tables.{numbers}
use Rattle.rml_lex.specs.declared.token.Fault.{Fault}
use Rattle.rml_terms.specs.declared.tree.Expr.{Expr}
use Rattle.rml_terms.specs.declared.tree.Name.{Name}
use Rattle.rml_terms.specs.Tree.{ExprTree, ExprTrees, Apply, Ite, Equal, Implies, Iff, no_expr, and_expr, exprs_of}
use Rattle.rml_terms.specs.Tree.{expr_tree, expr_trees}
use Rattle.rml_names.specs.Vocabulary.{Vocabulary}
use Rattle.rml_names.specs.declared.meaning.Meaning.{Meaning}
use Rattle.rml_sort_check.specs.declared.wanted.Wanted.{Wanted}
use Rattle.rml_sort_check.specs.declared.wanted.Wanted.TheVariants.{Formula, Term}
use Rattle.rml_names.specs.Meanings.{BoundName, bytes_of, meaning_of, argument_sorts, term_sort}
use Rattle.rml_sort_check.specs.Demands.{Demand, first_fault, compound, expr_count, second_sort, name_demands, demands}
use Rattle.rml_sort_check.specs.Demands.{formula_demands, argument_demands}
use Rattle.rml_sort_check.specs.Judging.{compound_fault}
use Rattle.rml_sort_check.specs.Firsts.{first_left, first_right}

pub compound-first : (w : Wanted) (at : ℕ) (ds : List Demand)
    → first_fault (compound w at ds) ≡ compound_fault w at (first_fault ds)
compound-first Formula at ds = refl
compound-first (Term expected) at ds = refl

pub first_append : (xs ys : List Demand) → first_fault (xs ++ ys) ≡ option_or (first_fault xs) (first_fault ys)
first_append [] ys = refl
first_append (x ∷ xs) ys = step x.met (first_append xs ys)
  where
    step : (b : Bool) → first_fault (xs ++ ys) ≡ option_or (first_fault xs) (first_fault ys)
        → (if b then first_fault (xs ++ ys) else Some x.fault)
        ≡ option_or (if b then first_fault xs else Some x.fault) (first_fault ys)
    step true so = so
    step false so = refl

-- the first fault of two parts, by that of each
pub compound_both : (w : Wanted) (at : ℕ) (xs ys : List Demand) (f g : Option Fault) → f ≡ first_fault xs
    → g ≡ first_fault ys
    → compound_fault w at (option_or f g) ≡ first_fault (compound w at (xs ++ ys))
compound_both w at xs ys f g left right =
    ap (λ (v : Option Fault). compound_fault w at (option_or v g)) left
    ∙ ap (λ (v : Option Fault). compound_fault w at (option_or (first_fault xs) v)) right
    ∙ ap (compound_fault w at) (sym (first_append xs ys))
    ∙ sym (compound-first w at (xs ++ ys))

pub both : (xs ys : List Demand) (f g : Option Fault) → f ≡ first_fault xs → g ≡ first_fault ys
    → option_or f g ≡ first_fault (xs ++ ys)
both xs ys f g left right = compound_both Formula 0 xs ys f g left right

pub expr_count-of : (es : List Expr) → expr_count (exprs_of (expr_trees es)) ≡ length es
expr_count-of [] = refl
expr_count-of (e ∷ es) = ap suc (expr_count-of es)

pub numbers-length : (ks : List Sort) → length (numbers ks) ≡ length ks
numbers-length [] = refl
numbers-length (k ∷ ks) = ap suc (numbers-length ks)

-- the first sort and the others
pub numbers-open : (ks : List Sort) (d : Sort) → 1 ≤ length ks
    → numbers ks ≡ (get_or ks 0 d).0 ∷ numbers (take (length ks - 1) (drop 1 ks))
numbers-open [] d some = absurd (omega arith)
numbers-open (k ∷ ks) d some = ap (λ (xs : List Sort). k.0 ∷ numbers xs) (sym (take_rest (k ∷ ks) 1))

-- expressions from a place on
pub exprs-drop : (es : List Expr) (i : ℕ) (e : Expr) → i < length es → e ≡ get_or es i e
    → exprs_of (expr_trees (drop i es)) ≡ and_expr (expr_tree e) (exprs_of (expr_trees (drop (i + 1) es)))
exprs-drop es i e lt is =
    ap (λ (xs : List Expr). exprs_of (expr_trees xs)) (drop_more es i e lt)
    ∙ ap (λ (x : Expr). and_expr (expr_tree x) (exprs_of (expr_trees (drop (i + 1) es)))) (sym is)

-- A turn of a walk over expressions: one that has no fault leaves those behind it, the fault of one is that of all.
module _ (text : List ℕ) (m : Vocabulary) (bound : List BoundName) where
  pub formulas-turn : (es : List Expr) (i : ℕ) (e : Expr) (whole : Option Fault) → i < length es → e ≡ get_or es i e
      → first_fault (demands text m bound Formula (expr_tree e)) ≡ None
      → first_fault (formula_demands text m bound (exprs_of (expr_trees (drop i es)))) ≡ whole
      → first_fault (formula_demands text m bound (exprs_of (expr_trees (drop (i + 1) es)))) ≡ whole
  formulas-turn es i e whole lt is none before =
      sym (ap (λ (xs : ExprTrees). first_fault (formula_demands text m bound xs)) (exprs-drop es i e lt is)
      ∙ first_right (demands text m bound Formula (expr_tree e))
      (formula_demands text m bound (exprs_of (expr_trees (drop (i + 1) es)))) none)
      ∙ before

  pub formulas-stop : (es : List Expr) (i : ℕ) (e : Expr) (whole : Option Fault) (f : Fault) → i < length es
      → e ≡ get_or es i e
      → first_fault (demands text m bound Formula (expr_tree e)) ≡ Some f
      → first_fault (formula_demands text m bound (exprs_of (expr_trees (drop i es)))) ≡ whole
      → Some f ≡ whole
  formulas-stop es i e whole f lt is found before =
      sym (ap (λ (xs : ExprTrees). first_fault (formula_demands text m bound xs)) (exprs-drop es i e lt is)
      ∙ first_left (demands text m bound Formula (expr_tree e))
      (formula_demands text m bound (exprs_of (expr_trees (drop (i + 1) es)))) f found)
      ∙ before

  arguments-open : (es : List Expr) (i : ℕ) (e : Expr) (ks : List Sort) → i < length es → e ≡ get_or es i e
      → 1 ≤ length ks
      → first_fault (argument_demands text m bound (exprs_of (expr_trees (drop i es))) (numbers ks))
      ≡ first_fault (demands text m bound (Term (Some (get_or ks 0 (record { 0 = 0 })).0)) (expr_tree e)
      ++ argument_demands text m bound (exprs_of (expr_trees (drop (i + 1) es)))
      (numbers (take (length ks - 1) (drop 1 ks))))
  arguments-open es i e ks lt is some =
      ap (λ (xs : ExprTrees). first_fault (argument_demands text m bound xs (numbers ks))) (exprs-drop es i e lt is)
      ∙ ap (λ (ns : List ℕ). first_fault
      (argument_demands text m bound (and_expr (expr_tree e) (exprs_of (expr_trees (drop (i + 1) es)))) ns))
      (numbers-open ks (record { 0 = 0 }) some)

  pub arguments-turn : (es : List Expr) (i : ℕ) (e : Expr) (ks : List Sort) (whole : Option Fault) → i < length es
      → e ≡ get_or es i e → 1 ≤ length ks
      → first_fault (demands text m bound (Term (Some (get_or ks 0 (record { 0 = 0 })).0)) (expr_tree e)) ≡ None
      → first_fault (argument_demands text m bound (exprs_of (expr_trees (drop i es))) (numbers ks)) ≡ whole
      → first_fault (argument_demands text m bound (exprs_of (expr_trees (drop (i + 1) es)))
      (numbers (take (length ks - 1) (drop 1 ks)))) ≡ whole
  arguments-turn es i e ks whole lt is some none before =
      sym (arguments-open es i e ks lt is some
      ∙ first_right (demands text m bound (Term (Some (get_or ks 0 (record { 0 = 0 })).0)) (expr_tree e))
      (argument_demands text m bound (exprs_of (expr_trees (drop (i + 1) es)))
      (numbers (take (length ks - 1) (drop 1 ks)))) none)
      ∙ before

  pub arguments-stop : (es : List Expr) (i : ℕ) (e : Expr) (ks : List Sort) (whole : Option Fault) (f : Fault)
      → i < length es → e ≡ get_or es i e → 1 ≤ length ks
      → first_fault (demands text m bound (Term (Some (get_or ks 0 (record { 0 = 0 })).0)) (expr_tree e)) ≡ Some f
      → first_fault (argument_demands text m bound (exprs_of (expr_trees (drop i es))) (numbers ks)) ≡ whole
      → Some f ≡ whole
  arguments-stop es i e ks whole f lt is some found before =
      sym (arguments-open es i e ks lt is some
      ∙ first_left (demands text m bound (Term (Some (get_or ks 0 (record { 0 = 0 })).0)) (expr_tree e))
      (argument_demands text m bound (exprs_of (expr_trees (drop (i + 1) es)))
      (numbers (take (length ks - 1) (drop 1 ks)))) f found)
      ∙ before

  -- no sorts are left
  pub arguments-end : (es : ExprTrees) → first_fault (argument_demands text m bound es []) ≡ None
  arguments-end no_expr = refl
  arguments-end (and_expr e es) = refl

  -- ---- expressions by their parts

  pub implies_fault : (w : Wanted) (at : ℕ) (tree a b : ExprTree) (f g : Option Fault) → tree ≡ Implies at a b
      → f ≡ first_fault (demands text m bound Formula a) → g ≡ first_fault (demands text m bound Formula b)
      → compound_fault w at (option_or f g) ≡ first_fault (demands text m bound w tree)
  implies_fault w at tree a b f g is left right =
      compound_both w at (demands text m bound Formula a) (demands text m bound Formula b) f g left right
      ∙ ap (λ (e : ExprTree). first_fault (demands text m bound w e)) (sym is)

  pub iff_fault : (w : Wanted) (at : ℕ) (tree a b : ExprTree) (f g : Option Fault) → tree ≡ Iff at a b
      → f ≡ first_fault (demands text m bound Formula a) → g ≡ first_fault (demands text m bound Formula b)
      → compound_fault w at (option_or f g) ≡ first_fault (demands text m bound w tree)
  iff_fault w at tree a b f g is left right =
      compound_both w at (demands text m bound Formula a) (demands text m bound Formula b) f g left right
      ∙ ap (λ (e : ExprTree). first_fault (demands text m bound w e)) (sym is)

  pub equal_fault : (w : Wanted) (at : ℕ) (tree a b : ExprTree) (sort : Option ℕ) (f g : Option Fault)
      → tree ≡ Equal at a b
      → sort ≡ term_sort text m bound a
      → f ≡ first_fault (demands text m bound (Term None) a) → g ≡ first_fault (demands text m bound (Term sort) b)
      → compound_fault w at (option_or f g) ≡ first_fault (demands text m bound w tree)
  equal_fault w at tree a b sort f g is same left right =
      compound_both w at (demands text m bound (Term None) a) (demands text m bound (Term (term_sort text m bound a)) b)
      f g left
      (right ∙ ap (λ (s : Option ℕ). first_fault (demands text m bound (Term s) b)) same)
      ∙ ap (λ (e : ExprTree). first_fault (demands text m bound w e)) (sym is)

  pub ite_fault : (w : Wanted) (expected : Option ℕ) (at : ℕ) (tree c a b : ExprTree) (sort : Option ℕ)
      (f g h : Option Fault) → w ≡ Term expected → tree ≡ Ite at c a b
      → sort ≡ second_sort expected (term_sort text m bound a)
      → f ≡ first_fault (demands text m bound Formula c) → g ≡ first_fault (demands text m bound (Term expected) a)
      → h ≡ first_fault (demands text m bound (Term sort) b)
      → option_or f (option_or g h) ≡ first_fault (demands text m bound w tree)
  ite_fault w expected at tree c a b sort f g h wanted is same condition first second =
      let other : List Demand = demands text m bound (Term (second_sort expected (term_sort text m bound a))) b in
      both (demands text m bound Formula c) (demands text m bound (Term expected) a ++ other) f (option_or g h)
      condition
      (both (demands text m bound (Term expected) a) other g h first
      (second ∙ ap (λ (s : Option ℕ). first_fault (demands text m bound (Term s) b)) same))
      ∙ ap (λ (e : ExprTree). first_fault (demands text m bound (Term expected) e)) (sym is)
      ∙ ap (λ (v : Wanted). first_fault (demands text m bound v tree)) (sym wanted)

  pub apply_fault : (w : Wanted) (name : Name) (es : List Expr) (word : List ℕ) (x : Meaning) (ks : List ℕ)
      (f g : Option Fault) → word ≡ bytes_of text name → x ≡ meaning_of m bound word
      → ks ≡ argument_sorts m x
      → f ≡ first_fault (name_demands m w x name.start (length es))
      → g ≡ first_fault (argument_demands text m bound (exprs_of (expr_trees es)) ks)
      → option_or f g ≡ first_fault (demands text m bound w (Apply name (exprs_of (expr_trees es))))
  apply_fault w name es word x ks f g read meant sorted named applied =
      let y : Meaning = meaning_of m bound (bytes_of text name) in
      let same : x ≡ y = meant ∙ ap (λ (v : List ℕ). meaning_of m bound v) read in
      both (name_demands m w y name.start (expr_count (exprs_of (expr_trees es))))
      (argument_demands text m bound (exprs_of (expr_trees es)) (argument_sorts m y)) f g
      (named
      ∙ ap (λ (v : Meaning). first_fault (name_demands m w v name.start (length es))) same
      ∙ ap (λ (n : ℕ). first_fault (name_demands m w y name.start n)) (sym (expr_count-of es)))
      (applied ∙ ap (λ (v : List ℕ). first_fault (argument_demands text m bound (exprs_of (expr_trees es)) v))
      (sorted ∙ ap (argument_sorts m) same))

-- The faults of names and sorts stand in the text.
use Rattle.std.proofs.Common.{◌≡◌, ◌≤◌, ℕ, suc, Bool, true, false, if◌then◌else◌, List, [], ◌∷◌, ◌++◌, Option, Some}
use Rattle.std.proofs.Common.{None, subst, arith}
use Rattle.std.specs.List.{AllByRecursion}
use Rattle.rml_lex.specs.declared.token.Fault.{Fault}
use Rattle.rml_lex.specs.Tokens.{StandsBy}
use Rattle.rml_terms.specs.declared.tree.Name.{Name}
use Rattle.rml_terms.specs.declared.tree.Binder.{Binder}
use Rattle.rml_syntax.specs.Tree as syntax
use Rattle.rml_terms.specs.Tree.{ExprTree, ExprTrees, True, False, Apply, Ite, Equal, Not, And, Or, Implies, Iff}
use Rattle.rml_terms.specs.Tree.{Quantified, no_expr, and_expr}
use Rattle.rml_syntax.specs.Tree.{Block, Blocks, Skip, Abort, Assume, Assert, If, Choose}
use Rattle.rml_syntax.specs.Tree.{Insert, Remove, Put, Assign, no_command, and_command, no_block, and_block, ItemTree}
use Rattle.rml_syntax.specs.Tree.{Relation, Function, Variable, Axiom, Conjecture, Init, Action, Final, Define}
use Rattle.rml_syntax.specs.Tree.{block_of}
use Rattle.rml_syntax.specs.declared.tree.Format.{Format}
use Rattle.rml_names.specs.Growth.{with_sort, with_element}
use Rattle.rml_terms.specs.Within.{NameWithin, NamesWithin, BinderWithin, ExprWithin, ExprsWithin}
use Rattle.rml_syntax.specs.Within.{ValueWithin, BindersWithin}
use Rattle.rml_syntax.specs.Within.{CommandWithin, BlockWithin, BlocksWithin, CommandsWithin, ItemWithin}
use Rattle.rml_names.specs.Vocabulary.{Vocabulary}
use Rattle.rml_names.specs.declared.meaning.Meaning.{Meaning}
use Rattle.rml_sort_check.specs.declared.wanted.Wanted.{Wanted}
use Rattle.rml_sort_check.specs.declared.wanted.Wanted.TheVariants.{Formula, Term}
use Rattle.rml_items.specs.Laws.{FaultStandsInText}
use Rattle.rml_names.specs.Meanings.{bytes_of, symbol_of, argument_sorts, BoundName, meaning_of, with_binders}
use Rattle.rml_names.specs.Meanings.{binding, with_parameters, term_sort, result_sort}
use Rattle.rml_sort_check.specs.Demands.{Demand, first_fault, expr_count, name_demands, compound, second_sort}
use Rattle.rml_sort_check.specs.Demands.{binder_demands, demands, formula_demands, argument_demands, tuple_demands}
use Rattle.rml_sort_check.specs.Demands.{put_demands, parameter_demands, side_of, side_demands, assign_demands}
use Rattle.rml_sort_check.specs.Demands.{command_demands, block_demands, blocks_demands, binders_demands}
use Rattle.rml_items.specs.Items.{Standing, no_items, sort_known, sort_demands, element_demands, head_demands}
use Rattle.rml_items.specs.Items.{once_demands, body_demands, item_demands, with_item, items_demands}

module _ (n : ℕ) where
  -- the places of demands are in the text
  abbrev Stand : List Demand → Type 0
  Stand ds = AllByRecursion (λ d. d.fault.at ≤ n) ds

  both : (xs ys : List Demand) → Stand xs → Stand ys → Stand (xs ++ ys)
  both [] ys h k = k
  both (x ∷ xs) ys h k = (h.0, both xs ys h.1 k)

  start : (name : Name) → NameWithin n name → name.start ≤ n
  start name h = omega (arith, h.0, h.1)

  compound_stands : (w : Wanted) (at : ℕ) (ds : List Demand) → at ≤ n → Stand ds → Stand (compound w at ds)
  compound_stands Formula at ds h k = k
  compound_stands (Term e) at ds h k = (h, tt)

  name_stands : (m : Vocabulary) (w : Wanted) (x : Meaning) (at count : ℕ) → at ≤ n → Stand (name_demands m w x at count)
  name_stands m Formula x at count h = (h, (h, (h, tt)))
  name_stands m (Term e) x at count h = (h, (h, (h, (h, tt))))

  module _ (text : List ℕ) (format : Format) where
    binder_stands : (m : Vocabulary) (b : Binder) → BinderWithin n b → Stand (binder_demands text m b)
    binder_stands m b h = (start b.name h.0, (start b.sort h.1, tt))

    mutual
      expr_stands : (m : Vocabulary) (bs : List BoundName) (w : Wanted) (e : ExprTree) → ExprWithin n e
          → Stand (demands text m bs w e)
      expr_stands m bs w (True at) h = compound_stands w at [] h tt
      expr_stands m bs w (False at) h = compound_stands w at [] h tt
      expr_stands m bs w (Apply name args) h =
          let x = meaning_of m bs (bytes_of text name) in
          both (name_demands m w x name.start (expr_count args)) (argument_demands text m bs args (argument_sorts m x))
          (name_stands m w x name.start (expr_count args) (start name h.0))
          (arguments_stand m bs args (argument_sorts m x) h.1)
      expr_stands m bs Formula (Ite at c a b) h = (h.0, tt)
      expr_stands m bs (Term k) (Ite at c a b) h =
          let dc = demands text m bs Formula c in
          let da = demands text m bs (Term k) a in
          let db = demands text m bs (Term (second_sort k (term_sort text m bs a))) b in
          both dc (da ++ db) (expr_stands m bs Formula c h.1)
          (both da db (expr_stands m bs (Term k) a h.2)
          (expr_stands m bs (Term (second_sort k (term_sort text m bs a))) b h.3))
      expr_stands m bs w (Equal at a b) h =
          let da = demands text m bs (Term None) a in
          let db = demands text m bs (Term (term_sort text m bs a)) b in
          compound_stands w at (da ++ db) h.0
          (both da db (expr_stands m bs (Term None) a h.1) (expr_stands m bs (Term (term_sort text m bs a)) b h.2))
      expr_stands m bs w (Not at a) h =
          compound_stands w at (demands text m bs Formula a) h.0 (expr_stands m bs Formula a h.1)
      expr_stands m bs w (And at args) h =
          compound_stands w at (formula_demands text m bs args) h.0 (formulas_stand m bs args h.1)
      expr_stands m bs w (Or at args) h =
          compound_stands w at (formula_demands text m bs args) h.0 (formulas_stand m bs args h.1)
      expr_stands m bs w (Implies at a b) h =
          let da = demands text m bs Formula a in
          let db = demands text m bs Formula b in
          compound_stands w at (da ++ db) h.0
          (both da db (expr_stands m bs Formula a h.1) (expr_stands m bs Formula b h.2))
      expr_stands m bs w (Iff at a b) h =
          let da = demands text m bs Formula a in
          let db = demands text m bs Formula b in
          compound_stands w at (da ++ db) h.0
          (both da db (expr_stands m bs Formula a h.1) (expr_stands m bs Formula b h.2))
      expr_stands m bs w (Quantified q at b a) h =
          let db = binder_demands text m b in
          let da = demands text m (binding text m b ∷ bs) Formula a in
          compound_stands w at (db ++ da) h.0
          (both db da (binder_stands m b h.1) (expr_stands m (binding text m b ∷ bs) Formula a h.2))

      formulas_stand : (m : Vocabulary) (bs : List BoundName) (es : ExprTrees) → ExprsWithin n es
          → Stand (formula_demands text m bs es)
      formulas_stand m bs no_expr h = tt
      formulas_stand m bs (and_expr e es) h =
          both (demands text m bs Formula e) (formula_demands text m bs es) (expr_stands m bs Formula e h.0)
          (formulas_stand m bs es h.1)

      arguments_stand : (m : Vocabulary) (bs : List BoundName) (es : ExprTrees) (ks : List ℕ) → ExprsWithin n es
          → Stand (argument_demands text m bs es ks)
      arguments_stand m bs no_expr ks h = tt
      arguments_stand m bs (and_expr e es) [] h = tt
      arguments_stand m bs (and_expr e es) (k ∷ ks) h =
          both (demands text m bs (Term (Some k)) e) (argument_demands text m bs es ks)
          (expr_stands m bs (Term (Some k)) e h.0) (arguments_stand m bs es ks h.1)

    -- ---- commands

    tuple_stands : (m : Vocabulary) (x : Meaning) (at : ℕ) (args : ExprTrees) → at ≤ n → ExprsWithin n args
        → Stand (tuple_demands text m x at args)
    tuple_stands m x at args h k = (h, (h, (h, arguments_stand m [] args (argument_sorts m x) k)))

    put_stands : (m : Vocabulary) (x : Meaning) (at : ℕ) (args : ExprTrees) (e : ExprTree) → at ≤ n → ExprsWithin n args
        → ExprWithin n e → Stand (put_demands text m x at args e)
    put_stands m x at args e h k l = (
      h,
      (
        h,
        (
          h,
          both (argument_demands text m [] args (argument_sorts m x))
              (demands text m [] (Term (result_sort m x)) e) (arguments_stand m [] args (argument_sorts m x) k)
              (expr_stands m [] (Term (result_sort m x)) e l),
        ),
      ),
    )

    parameters_stand : (m : Vocabulary) (earlier : List (List ℕ)) (ps : List Name) → NamesWithin n ps
        → Stand (parameter_demands text m earlier ps)
    parameters_stand m earlier [] h = tt
    parameters_stand m earlier (p ∷ ps) h =
        (start p h.0, (start p h.0, parameters_stand m (bytes_of text p ∷ earlier) ps h.1))

    side_stands : (m : Vocabulary) (bs : List BoundName) (x : Meaning) (value : Option ExprTree) → ValueWithin n value
        → Stand (side_demands text m bs x value)
    side_stands m bs x None h = tt
    side_stands m bs x (Some e) h = expr_stands m bs (side_of text m x) e h

    assign_stands : (m : Vocabulary) (x : Meaning) (at : ℕ) (ps : List Name) (value : Option ExprTree) → at ≤ n
        → NamesWithin n ps → ValueWithin n value → Stand (assign_demands text m format x at ps value)
    assign_stands m x at ps value h k l =
        let bs = with_parameters text [] ps (argument_sorts m x) in (
          h,
          (
            h,
            (
              h,
              both (parameter_demands text m [] ps) (side_demands text m bs x value) (parameters_stand m [] ps k)
                  (side_stands m bs x value l),
            ),
          ),
        )

    mutual
      command_stands : (m : Vocabulary) (c : syntax.CommandTree) → CommandWithin n c → Stand (command_demands text m format c)
      command_stands m (Skip at) h = tt
      command_stands m (Abort at) h = tt
      command_stands m (Assume at e) h = expr_stands m [] Formula e h.1
      command_stands m (Assert at e) h = expr_stands m [] Formula e h.1
      command_stands m (If at e a b) h =
          both (demands text m [] Formula e) (block_demands text m format a ++ block_demands text m format b)
          (expr_stands m [] Formula e h.1)
          (both (block_demands text m format a) (block_demands text m format b) (block_stands m a h.2) (block_stands m b h.3))
      command_stands m (Choose at bs) h = blocks_stand m bs h.1
      command_stands m (Insert at name args) h =
          tuple_stands m (symbol_of m (bytes_of text name)) name.start args (start name h.1) h.2
      command_stands m (Remove at name args) h =
          tuple_stands m (symbol_of m (bytes_of text name)) name.start args (start name h.1) h.2
      command_stands m (Put at name args e) h =
          put_stands m (symbol_of m (bytes_of text name)) name.start args e (start name h.1) h.2 h.3
      command_stands m (Assign name ps value) h =
          assign_stands m (symbol_of m (bytes_of text name)) name.start ps value (start name h.0) h.1 h.2

      block_stands : (m : Vocabulary) (b : Block) → BlockWithin n b → Stand (block_demands text m format b)
      block_stands m no_command h = tt
      block_stands m (and_command c cs) h =
          both (command_demands text m format c) (block_demands text m format cs) (command_stands m c h.0) (block_stands m cs h.1)

      blocks_stand : (m : Vocabulary) (bs : Blocks) → BlocksWithin n bs → Stand (blocks_demands text m format bs)
      blocks_stand m no_block h = tt
      blocks_stand m (and_block b bs) h =
          both (block_demands text m format b) (blocks_demands text m format bs) (block_stands m b h.0) (blocks_stand m bs h.1)

    block_within : (cs : List syntax.CommandTree) → CommandsWithin n cs → BlockWithin n (block_of cs)
    block_within [] h = tt
    block_within (c ∷ cs) h = (h.0, block_within cs h.1)

    -- ---- items

    sorts_stand : (m : Vocabulary) (i : ℕ) (sorts : List Name) → NamesWithin n sorts
        → Stand (sort_demands text m i sorts)
    sorts_stand m i [] h = tt
    sorts_stand m i (sort ∷ sorts) h = (start sort h.0, (start sort h.0, sorts_stand m (suc i) sorts h.1))

    elements_stand : (v : Vocabulary) (sort : ℕ) (names : List Name) → NamesWithin n names
        → Stand (element_demands text v sort names)
    elements_stand v sort [] h = tt
    elements_stand v sort (name ∷ names) h =
        (start name h.0, (start name h.0, elements_stand (with_element text v sort name) sort names h.1))

    binders_stand : (v : Vocabulary) (earlier : List (List ℕ)) (i : ℕ) (bs : List Binder) → BindersWithin n bs
        → Stand (binders_demands text v earlier i bs)
    binders_stand v earlier i [] h = tt
    binders_stand v earlier i (b ∷ bs) h =
        let p = start b.name h.0.0 in
        let q = start b.sort h.0.1 in
        (p, (p, (q, (q, binders_stand v (bytes_of text b.name ∷ earlier) (suc i) bs h.1))))

    head_stands : (v : Vocabulary) (item : ItemTree) → ItemWithin n item → Stand (head_demands text v item)
    head_stands v (syntax.Sort name names) h =
        (start name h.0, (start name h.0, elements_stand (with_sort text v name) v.signature.sorts names h.1))
    head_stands v (Relation name sorts) h = (start name h.0, (start name h.0, sorts_stand v 0 sorts h.1))
    head_stands v (Function name sorts sort) h = (
      start name h.0,
      (
        start name h.0,
        both (sort_demands text v 0 sorts) (sort_known text v sort ∷ []) (sorts_stand v 0 sorts h.1)
            (start sort h.2, tt),
      ),
    )
    head_stands v (Variable name sort) h = (start name h.0, (start name h.0, (start sort h.1, tt)))
    head_stands v (Axiom name e) h = (start name h.0, (start name h.0, tt))
    head_stands v (Conjecture name e) h = (start name h.0, (start name h.0, tt))
    head_stands v (Init at cs) h = tt
    head_stands v (Action name cs) h = (start name h.0, (start name h.0, tt))
    head_stands v (Final at cs) h = tt
    head_stands v (Define name bs e) h = (start name h.0, (start name h.0, tt))

    once_stands : (d : Standing) (item : ItemTree) → ItemWithin n item → Stand (once_demands text d item)
    once_stands d (syntax.Sort name names) h = tt
    once_stands d (Relation name sorts) h = tt
    once_stands d (Function name sorts sort) h = tt
    once_stands d (Variable name sort) h = tt
    once_stands d (Axiom name e) h = tt
    once_stands d (Conjecture name e) h = tt
    once_stands d (Init at cs) h = (h.0, tt)
    once_stands d (Action name cs) h = tt
    once_stands d (Final at cs) h = (h.0, tt)
    once_stands d (Define name bs e) h = tt

    body_stands : (v : Vocabulary) (item : ItemTree) → ItemWithin n item → Stand (body_demands text format v item)
    body_stands v (syntax.Sort name names) h = tt
    body_stands v (Relation name sorts) h = tt
    body_stands v (Function name sorts sort) h = tt
    body_stands v (Variable name sort) h = tt
    body_stands v (Axiom name e) h = expr_stands v [] Formula e h.1
    body_stands v (Conjecture name e) h = expr_stands v [] Formula e h.1
    body_stands v (Init at cs) h = block_stands v (block_of cs) (block_within cs h.1)
    body_stands v (Action name cs) h = block_stands v (block_of cs) (block_within cs h.1)
    body_stands v (Final at cs) h = block_stands v (block_of cs) (block_within cs h.1)
    body_stands v (Define name bs e) h =
        both (binders_demands text v [] 0 bs) (demands text v (with_binders text v [] bs) Formula e)
        (binders_stand v [] 0 bs h.1) (expr_stands v (with_binders text v [] bs) Formula e h.2)

    items_stand : (d : Standing) (items : List ItemTree) → AllByRecursion (ItemWithin n) items
        → Stand (items_demands text format d items)
    items_stand d [] h = tt
    items_stand d (item ∷ items) h =
        both (item_demands text format d item) (items_demands text format (with_item text d item) items)
        (both (head_demands text d.words item) (once_demands text d item ++ body_demands text format d.words item)
        (head_stands d.words item h.0)
        (both (once_demands text d item) (body_demands text format d.words item) (once_stands d item h.0)
        (body_stands d.words item h.0))) (items_stand (with_item text d item) items h.1)

  -- the first fault is that of one of the demands
  first_stands : (ds : List Demand) (f : Fault) → Stand ds → first_fault ds ≡ Some f → StandsBy n f
  first_stands [] f h e = absurd (cc)
  first_stands (d ∷ ds) f h e = by d.met (λ k. first_stands ds f h.1 k) e
    where
      some_is : (g : Fault) → g.at ≤ n → Some g ≡ Some f → StandsBy n f
      some_is g le is = let same : g ≡ f = cc in subst (StandsBy n) same le

      by : (b : Bool) → (first_fault ds ≡ Some f → StandsBy n f) → (if b then first_fault ds else Some d.fault) ≡ Some f
          → StandsBy n f
      by true so k = so k
      by false so k = some_is d.fault h.0 k

pub faults_stand : FaultStandsInText
faults_stand text n tree f within is =
    first_stands n (items_demands text tree.format no_items tree.items) f
    (items_stand n text tree.format no_items tree.items within) is

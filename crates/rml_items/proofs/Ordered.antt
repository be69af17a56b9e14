-- What a tree demands stands in the order of its places.
use Rattle.std.proofs.Common.{
  ◌≡◌,
  ◌≤◌,
  ℕ,
  suc,
  Bool,
  true,
  false,
  if◌then◌else◌,
  List,
  [],
  ◌∷◌,
  ◌++◌,
  Option,
  Some,
  None,
  refl,
  subst,
  arith,
}
use Rattle.std.specs.List.{AllByRecursion}
use Rattle.rml_lex.specs.declared.token.Fault.{Fault}
use Rattle.rml_terms.specs.declared.tree.Name.{Name}
use Rattle.rml_syntax.specs.Tree as syntax
use Rattle.rml_terms.specs.Tree.{ExprTree, ExprTrees, True, False, Apply, Ite, Equal, Not, And, Or, Implies, Iff}
use Rattle.rml_terms.specs.Tree.{Quantified, no_expr, and_expr}
use Rattle.rml_syntax.specs.Tree.{Block, Blocks, Skip, Abort, Assume, Assert, If, Choose}
use Rattle.rml_syntax.specs.Tree.{Insert, Remove, Put, Assign, no_command, and_command, no_block, and_block, ItemTree}
use Rattle.rml_syntax.specs.Tree.{CommandTree, Relation, Function, Variable, Axiom, Conjecture, Init, Action, Final}
use Rattle.rml_syntax.specs.Tree.{Define, block_of}
use Rattle.rml_syntax.specs.declared.tree.Format.{Format}
use Rattle.rml_terms.specs.declared.tree.Binder.{Binder}
use Rattle.rml_phrases.specs.Ascending.{AscendBetween}
use Rattle.rml_terms.specs.Places.{name_places, places_in, places_of_exprs, places_of_expr}
use Rattle.rml_syntax.specs.Places.{places_of_side, places_of_command, places_of_block, places_of_blocks}
use Rattle.rml_syntax.specs.Places.{binder_places, places_of_item, places_of_items}
use Rattle.rml_names.specs.Vocabulary.{Vocabulary}
use Rattle.rml_names.specs.declared.meaning.Meaning.{Meaning}
use Rattle.rml_names.specs.Meanings.{BoundName, bytes_of, meaning_of, symbol_of, argument_sorts, result_sort, binding}
use Rattle.rml_names.specs.Meanings.{term_sort, with_parameters, with_binders}
use Rattle.rml_sort_check.specs.declared.wanted.Wanted.{Wanted}
use Rattle.rml_sort_check.specs.declared.wanted.Wanted.TheVariants.{Formula, Term}
use Rattle.rml_sort_check.specs.Demands.{Demand, first_fault, name_demands, second_sort, binder_demands}
use Rattle.rml_sort_check.specs.Demands.{demands, formula_demands, argument_demands, parameter_demands, side_of}
use Rattle.rml_sort_check.specs.Demands.{side_demands, command_demands, block_demands, blocks_demands, binders_demands, expr_count}
use Rattle.rml_items.specs.Items.{Standing, no_items, sort_known, sort_demands, element_demands, item_demands}
use Rattle.rml_items.specs.Items.{items_demands, with_item}
use Rattle.rml_names.specs.Growth.{with_sort, with_element}
use Rattle.rml_items.specs.Laws.{demand_places, DemandsAscend, FaultIsLeast}

-- what holds of ascending places
pub record Ascending : Type 0 where
  pub bounds : (lo hi : ℕ) (ps : List ℕ) → AscendBetween lo hi ps → lo ≤ hi
  pub earlier : (from lo hi : ℕ) (ps : List ℕ) → from ≤ lo → AscendBetween lo hi ps → AscendBetween from hi ps
  pub parts : (lo hi : ℕ) (ps qs : List ℕ) → AscendBetween lo hi (ps ++ qs)
      → (mid : ℕ) × AscendBetween lo mid ps × AscendBetween mid hi qs

-- the demands stand from one place to another
abbrev Between : ℕ → ℕ → List Demand → Type 0
Between lo hi ds = AscendBetween lo hi (demand_places ds)

module _ (a : Ascending) (text : List ℕ) (format : Format) where
  from : (at lo hi : ℕ) (ds : List Demand) → at ≤ lo → Between lo hi ds → Between at hi ds
  from at lo hi ds le h = a.earlier at lo hi (demand_places ds) le h

  join : (lo mid hi : ℕ) (xs ys : List Demand) → Between lo mid xs → Between mid hi ys → Between lo hi (xs ++ ys)
  join lo mid hi [] ys h k = from lo mid hi ys h k
  join lo mid hi (x ∷ xs) ys h k = (h.0, join x.fault.at mid hi xs ys h.1 k)

  -- two parts, each of which stands where its places do
  pair : (lo hi : ℕ) (ps qs : List ℕ) (xs ys : List Demand) → AscendBetween lo hi (ps ++ qs)
      → ((from to : ℕ) → AscendBetween from to ps → Between from to xs)
      → ((from to : ℕ) → AscendBetween from to qs → Between from to ys) → Between lo hi (xs ++ ys)
  pair lo hi ps qs xs ys h left right =
      let s = a.parts lo hi ps qs h in join lo s.0 hi xs ys (left lo s.0 s.1) (right s.0 hi s.2)

  -- nothing more
  closed : (lo hi : ℕ) (ds : List Demand) → Between lo hi ds → Between lo hi (ds ++ [])
  closed lo hi [] h = h
  closed lo hi (d ∷ ds) h = (h.0, closed d.fault.at hi ds h.1)

  -- ---- expressions

  name_ascends : (m : Vocabulary) (w : Wanted) (x : Meaning) (lo at count : ℕ) → lo ≤ at
      → Between lo at (name_demands m w x at count)
  name_ascends m Formula x lo at count le = (le, (omega arith, (omega arith, omega arith)))
  name_ascends m (Term k) x lo at count le = (le, (omega arith, (omega arith, (omega arith, omega arith))))

  mutual
    -- a formula, which as the body of a quantifier may go on with the list of binders
    formula_ascends : (m : Vocabulary) (bound : List BoundName) (inner : Bool) (e : ExprTree) (lo hi : ℕ)
        → AscendBetween lo hi (places_in inner e) → Between lo hi (demands text m bound Formula e)
    formula_ascends m bound inner (True at) lo hi h = a.bounds lo hi (at ∷ []) h
    formula_ascends m bound inner (False at) lo hi h = a.bounds lo hi (at ∷ []) h
    formula_ascends m bound inner (Apply name args) lo hi h =
        let x = meaning_of m bound (bytes_of text name) in
        join lo name.start hi (name_demands m Formula x name.start (expr_count args))
        (argument_demands text m bound args (argument_sorts m x))
        (name_ascends m Formula x lo name.start (expr_count args) h.0)
        (arguments_ascend m bound args (argument_sorts m x) name.start hi h.1)
    formula_ascends m bound inner (Ite at c t f) lo hi h =
        (h.0, a.bounds at hi (places_in false c ++ (places_in false t ++ places_in false f)) h.1)
    formula_ascends m bound inner (Equal at l r) lo hi h =
        let k = term_sort text m bound l in
        from lo at hi (demands text m bound (Term None) l ++ demands text m bound (Term k) r) h.0
        (pair at hi (places_in false l) (places_in false r) (demands text m bound (Term None) l)
        (demands text m bound (Term k) r) h.1 (λ x y i. term_ascends m bound None l x y i)
        (λ x y i. term_ascends m bound k r x y i))
    formula_ascends m bound inner (Not at e) lo hi h =
        from lo at hi (demands text m bound Formula e) h.0 (formula_ascends m bound false e at hi h.1)
    formula_ascends m bound inner (And at args) lo hi h =
        from lo at hi (formula_demands text m bound args) h.0 (formulas_ascend m bound args at hi h.1)
    formula_ascends m bound inner (Or at args) lo hi h =
        from lo at hi (formula_demands text m bound args) h.0 (formulas_ascend m bound args at hi h.1)
    formula_ascends m bound inner (Implies at l r) lo hi h =
        from lo at hi (demands text m bound Formula l ++ demands text m bound Formula r) h.0
        (pair at hi (places_in false l) (places_in false r) (demands text m bound Formula l)
        (demands text m bound Formula r) h.1 (λ x y i. formula_ascends m bound false l x y i)
        (λ x y i. formula_ascends m bound false r x y i))
    formula_ascends m bound inner (Iff at l r) lo hi h =
        from lo at hi (demands text m bound Formula l ++ demands text m bound Formula r) h.0
        (pair at hi (places_in false l) (places_in false r) (demands text m bound Formula l)
        (demands text m bound Formula r) h.1 (λ x y i. formula_ascends m bound false l x y i)
        (λ x y i. formula_ascends m bound false r x y i))
    formula_ascends m bound true (Quantified q at b e) lo hi h =
        join lo b.sort.start hi (binder_demands text m b) (demands text m (binding text m b ∷ bound) Formula e)
        (h.0, (h.1.0, omega arith)) (formula_ascends m (binding text m b ∷ bound) true e b.sort.start hi h.1.1)
    formula_ascends m bound false (Quantified q at b e) lo hi h =
        join lo b.sort.start hi (binder_demands text m b) (demands text m (binding text m b ∷ bound) Formula e)
        (omega (arith, h.0, h.1.0), (h.1.1.0, omega arith))
        (formula_ascends m (binding text m b ∷ bound) true e b.sort.start hi h.1.1.1)

    -- what is no term is told where it stands
    term_ascends : (m : Vocabulary) (bound : List BoundName) (k : Option ℕ) (e : ExprTree) (lo hi : ℕ)
        → AscendBetween lo hi (places_in false e) → Between lo hi (demands text m bound (Term k) e)
    term_ascends m bound k (True at) lo hi h = h
    term_ascends m bound k (False at) lo hi h = h
    term_ascends m bound k (Apply name args) lo hi h =
        let x = meaning_of m bound (bytes_of text name) in
        join lo name.start hi (name_demands m (Term k) x name.start (expr_count args))
        (argument_demands text m bound args (argument_sorts m x))
        (name_ascends m (Term k) x lo name.start (expr_count args) h.0)
        (arguments_ascend m bound args (argument_sorts m x) name.start hi h.1)
    term_ascends m bound k (Ite at c t f) lo hi h =
        let j = second_sort k (term_sort text m bound t) in
        let tail = demands text m bound (Term k) t ++ demands text m bound (Term j) f in
        from lo at hi (demands text m bound Formula c ++ tail) h.0
        (pair at hi (places_in false c) (places_in false t ++ places_in false f) (demands text m bound Formula c) tail
        h.1 (λ x y i. formula_ascends m bound false c x y i) (λ x y i.
        pair x y (places_in false t) (places_in false f) (demands text m bound (Term k) t)
        (demands text m bound (Term j) f) i (λ v w n. term_ascends m bound k t v w n)
        (λ v w n. term_ascends m bound j f v w n)))
    term_ascends m bound k (Equal at l r) lo hi h =
        (h.0, a.bounds at hi (places_in false l ++ places_in false r) h.1)
    term_ascends m bound k (Not at e) lo hi h = (h.0, a.bounds at hi (places_in false e) h.1)
    term_ascends m bound k (And at args) lo hi h = (h.0, a.bounds at hi (places_of_exprs args) h.1)
    term_ascends m bound k (Or at args) lo hi h = (h.0, a.bounds at hi (places_of_exprs args) h.1)
    term_ascends m bound k (Implies at l r) lo hi h =
        (h.0, a.bounds at hi (places_in false l ++ places_in false r) h.1)
    term_ascends m bound k (Iff at l r) lo hi h = (h.0, a.bounds at hi (places_in false l ++ places_in false r) h.1)
    term_ascends m bound k (Quantified q at b e) lo hi h =
        (h.0, a.bounds at hi (b.name.start ∷ b.sort.start ∷ places_in true e) h.1)

    formulas_ascend : (m : Vocabulary) (bound : List BoundName) (es : ExprTrees) (lo hi : ℕ)
        → AscendBetween lo hi (places_of_exprs es) → Between lo hi (formula_demands text m bound es)
    formulas_ascend m bound no_expr lo hi h = h
    formulas_ascend m bound (and_expr e es) lo hi h =
        pair lo hi (places_in false e) (places_of_exprs es) (demands text m bound Formula e)
        (formula_demands text m bound es) h (λ x y i. formula_ascends m bound false e x y i)
        (λ x y i. formulas_ascend m bound es x y i)

    arguments_ascend : (m : Vocabulary) (bound : List BoundName) (es : ExprTrees) (ks : List ℕ) (lo hi : ℕ)
        → AscendBetween lo hi (places_of_exprs es) → Between lo hi (argument_demands text m bound es ks)
    arguments_ascend m bound no_expr ks lo hi h = h
    arguments_ascend m bound (and_expr e es) [] lo hi h = a.bounds lo hi (places_in false e ++ places_of_exprs es) h
    arguments_ascend m bound (and_expr e es) (k ∷ ks) lo hi h =
        pair lo hi (places_in false e) (places_of_exprs es) (demands text m bound (Term (Some k)) e)
        (argument_demands text m bound es ks) h (λ x y i. term_ascends m bound (Some k) e x y i)
        (λ x y i. arguments_ascend m bound es ks x y i)

  expr_ascends : (m : Vocabulary) (bound : List BoundName) (w : Wanted) (e : ExprTree) (lo hi : ℕ)
      → AscendBetween lo hi (places_of_expr e) → Between lo hi (demands text m bound w e)
  expr_ascends m bound Formula e lo hi h = formula_ascends m bound false e lo hi h
  expr_ascends m bound (Term k) e lo hi h = term_ascends m bound k e lo hi h

  -- ---- commands

  parameters_ascend : (m : Vocabulary) (earlier : List (List ℕ)) (ps : List Name) (lo hi : ℕ)
      → AscendBetween lo hi (name_places ps) → Between lo hi (parameter_demands text m earlier ps)
  parameters_ascend m earlier [] lo hi h = h
  parameters_ascend m earlier (p ∷ ps) lo hi h =
      (h.0, (omega arith, parameters_ascend m (bytes_of text p ∷ earlier) ps p.start hi h.1))

  side_ascends : (m : Vocabulary) (bound : List BoundName) (x : Meaning) (value : Option ExprTree) (lo hi : ℕ)
      → AscendBetween lo hi (places_of_side value) → Between lo hi (side_demands text m bound x value)
  side_ascends m bound x None lo hi h = h
  side_ascends m bound x (Some e) lo hi h = expr_ascends m bound (side_of text m x) e lo hi h

  -- `insert` and `remove`
  tuple_ascends : (m : Vocabulary) (at : ℕ) (name : Name) (args : ExprTrees) (lo hi : ℕ)
      → AscendBetween lo hi (at ∷ name.start ∷ places_of_exprs args)
      → Between lo hi (command_demands text m format (Insert at name args))
  tuple_ascends m at name args lo hi h = (
    omega (arith, h.0, h.1.0),
    (
      omega arith,
      (
        omega arith,
        arguments_ascend m [] args
            (argument_sorts m (symbol_of m (bytes_of text name))) name.start hi h.1.1,
      ),
    ),
  )

  mutual
    command_ascends : (m : Vocabulary) (c : CommandTree) (lo hi : ℕ) → AscendBetween lo hi (places_of_command c)
        → Between lo hi (command_demands text m format c)
    command_ascends m (Skip at) lo hi h = a.bounds lo hi (at ∷ []) h
    command_ascends m (Abort at) lo hi h = a.bounds lo hi (at ∷ []) h
    command_ascends m (Assume at e) lo hi h =
        from lo at hi (demands text m [] Formula e) h.0 (expr_ascends m [] Formula e at hi h.1)
    command_ascends m (Assert at e) lo hi h =
        from lo at hi (demands text m [] Formula e) h.0 (expr_ascends m [] Formula e at hi h.1)
    command_ascends m (If at e x y) lo hi h =
        let s = a.parts at hi (places_of_expr e) (places_of_block x ++ places_of_block y) h.1 in
        let r = a.parts s.0 hi (places_of_block x) (places_of_block y) s.2 in
        from lo at hi (demands text m [] Formula e ++ (block_demands text m format x ++ block_demands text m format y)) h.0
        (join at s.0 hi (demands text m [] Formula e) (block_demands text m format x ++ block_demands text m format y)
        (expr_ascends m [] Formula e at s.0 s.1) (join s.0 r.0 hi (block_demands text m format x) (block_demands text m format y)
        (block_ascends m x s.0 r.0 r.1) (block_ascends m y r.0 hi r.2)))
    command_ascends m (Choose at bs) lo hi h =
        from lo at hi (blocks_demands text m format bs) h.0 (blocks_ascend m bs at hi h.1)
    command_ascends m (Insert at name args) lo hi h = tuple_ascends m at name args lo hi h
    command_ascends m (Remove at name args) lo hi h = tuple_ascends m at name args lo hi h
    command_ascends m (Put at name args e) lo hi h =
        let x = symbol_of m (bytes_of text name) in
        let ks = argument_sorts m x in
        let s = a.parts name.start hi (places_of_exprs args) (places_of_expr e) h.1.1 in (
          omega (arith, h.0, h.1.0),
          (
            omega arith,
            (
              omega arith,
              join name.start s.0 hi
                  (argument_demands text m [] args ks) (demands text m [] (Term (result_sort m x)) e)
                  (arguments_ascend m [] args ks name.start s.0 s.1)
                  (expr_ascends m [] (Term (result_sort m x)) e s.0 hi s.2),
            ),
          ),
        )
    command_ascends m (Assign name ps value) lo hi h =
        let x = symbol_of m (bytes_of text name) in
        let bound = with_parameters text [] ps (argument_sorts m x) in
        let s = a.parts name.start hi (name_places ps) (places_of_side value) h.1 in (
          h.0,
          (
            omega arith,
            (
              omega arith,
              join name.start s.0 hi (parameter_demands text m [] ps)
                  (side_demands text m bound x value) (parameters_ascend m [] ps name.start s.0 s.1)
                  (side_ascends m bound x value s.0 hi s.2),
            ),
          ),
        )

    block_ascends : (m : Vocabulary) (b : Block) (lo hi : ℕ) → AscendBetween lo hi (places_of_block b)
        → Between lo hi (block_demands text m format b)
    block_ascends m no_command lo hi h = h
    block_ascends m (and_command c cs) lo hi h =
        pair lo hi (places_of_command c) (places_of_block cs) (command_demands text m format c) (block_demands text m format cs) h
        (λ x y i. command_ascends m c x y i) (λ x y i. block_ascends m cs x y i)

    blocks_ascend : (m : Vocabulary) (bs : Blocks) (lo hi : ℕ) → AscendBetween lo hi (places_of_blocks bs)
        → Between lo hi (blocks_demands text m format bs)
    blocks_ascend m no_block lo hi h = h
    blocks_ascend m (and_block b bs) lo hi h =
        pair lo hi (places_of_block b) (places_of_blocks bs) (block_demands text m format b) (blocks_demands text m format bs) h
        (λ x y i. block_ascends m b x y i) (λ x y i. blocks_ascend m bs x y i)

  -- ---- items

  sorts_ascend : (m : Vocabulary) (i : ℕ) (sorts : List Name) (lo hi : ℕ) → AscendBetween lo hi (name_places sorts)
      → Between lo hi (sort_demands text m i sorts)
  sorts_ascend m i [] lo hi h = h
  sorts_ascend m i (sort ∷ sorts) lo hi h =
      (h.0, (omega arith, sorts_ascend m (suc i) sorts sort.start hi h.1))

  elements_ascend : (v : Vocabulary) (sort : ℕ) (names : List Name) (lo hi : ℕ) → AscendBetween lo hi (name_places names)
      → Between lo hi (element_demands text v sort names)
  elements_ascend v sort [] lo hi h = h
  elements_ascend v sort (name ∷ names) lo hi h =
      (h.0, (omega arith, elements_ascend (with_element text v sort name) sort names name.start hi h.1))

  binders_ascend : (v : Vocabulary) (earlier : List (List ℕ)) (i : ℕ) (bs : List Binder) (lo hi : ℕ)
      → AscendBetween lo hi (binder_places bs) → Between lo hi (binders_demands text v earlier i bs)
  binders_ascend v earlier i [] lo hi h = h
  binders_ascend v earlier i (b ∷ bs) lo hi h = (
    h.0,
    (
      omega arith,
      (
        h.1.0,
        (omega arith, binders_ascend v (bytes_of text b.name ∷ earlier) (suc i) bs b.sort.start hi h.1.1),
      ),
    ),
  )

  item_ascends : (d : Standing) (item : ItemTree) (lo hi : ℕ) → AscendBetween lo hi (places_of_item item)
      → Between lo hi (item_demands text format d item)
  item_ascends d (syntax.Sort name names) lo hi h = (
    h.0,
    (
      omega arith,
      closed name.start hi _
          (elements_ascend (with_sort text d.words name) d.words.signature.sorts names name.start hi h.1),
    ),
  )
  item_ascends d (Relation name sorts) lo hi h =
      (h.0, (omega arith, closed name.start hi _ (sorts_ascend d.words 0 sorts name.start hi h.1)))
  item_ascends d (Function name sorts sort) lo hi h = (
    h.0,
    (
      omega arith,
      closed name.start hi _
          (pair name.start hi (name_places sorts) (sort.start ∷ []) (sort_demands text d.words 0 sorts)
          (sort_known text d.words sort ∷ []) h.1 (λ x y i. sorts_ascend d.words 0 sorts x y i) (λ x y i. i)),
    ),
  )
  item_ascends d (Variable name sort) lo hi h = (h.0, (omega arith, h.1))
  item_ascends d (Axiom name e) lo hi h =
      (h.0, (omega arith, expr_ascends d.words [] Formula e name.start hi h.1))
  item_ascends d (Conjecture name e) lo hi h =
      (h.0, (omega arith, expr_ascends d.words [] Formula e name.start hi h.1))
  item_ascends d (Init at cs) lo hi h = (h.0, block_ascends d.words (block_of cs) at hi h.1)
  item_ascends d (Action name cs) lo hi h =
      (h.0, (omega arith, block_ascends d.words (block_of cs) name.start hi h.1))
  item_ascends d (Final at cs) lo hi h = (h.0, block_ascends d.words (block_of cs) at hi h.1)
  item_ascends d (Define name bs e) lo hi h = (
    h.0,
    (
      omega arith,
      pair name.start hi (binder_places bs) (places_of_expr e) (binders_demands text d.words [] 0 bs)
          (demands text d.words (with_binders text d.words [] bs) Formula e) h.1
          (λ x y i. binders_ascend d.words [] 0 bs x y i)
          (λ x y i. expr_ascends d.words (with_binders text d.words [] bs) Formula e x y i),
    ),
  )

  items_ascend : (d : Standing) (items : List ItemTree) (lo hi : ℕ) → AscendBetween lo hi (places_of_items items)
      → Between lo hi (items_demands text format d items)
  items_ascend d [] lo hi h = h
  items_ascend d (item ∷ items) lo hi h =
      let s = a.parts lo hi (places_of_item item) (places_of_items items) h in
      join lo s.0 hi (item_demands text format d item) (items_demands text format (with_item text d item) items)
      (item_ascends d item lo s.0 s.1) (items_ascend (with_item text d item) items s.0 hi s.2)

pub demands_ascend : Ascending → DemandsAscend
demands_ascend a text tree h = (h.0, items_ascend a text tree.format no_items tree.items 0 h.0 h.1)

-- ---- the first fault

-- a demand that is not met stands at this place or behind it
abbrev UnmetFrom : ℕ → Demand → Type 0
UnmetFrom at d = d.met ≡ false → at ≤ d.fault.at

all_behind : (at lo hi : ℕ) (ds : List Demand) → at ≤ lo → Between lo hi ds → AllByRecursion (UnmetFrom at) ds
all_behind at lo hi [] le h = tt
all_behind at lo hi (d ∷ ds) le h =
    (λ unmet. omega (arith, le, h.0), all_behind at d.fault.at hi ds (omega (arith, le, h.0)) h.1)

first_is_least : (lo hi : ℕ) (ds : List Demand) (f : Fault) → Between lo hi ds → first_fault ds ≡ Some f
    → AllByRecursion (UnmetFrom f.at) ds
first_is_least lo hi [] f h is = tt
first_is_least lo hi (d ∷ ds) f h is = by d.met refl is (λ so. first_is_least d.fault.at hi ds f h.1 so)
  where
    by : (b : Bool) → d.met ≡ b → (if b then first_fault ds else Some d.fault) ≡ Some f
        → (first_fault ds ≡ Some f → AllByRecursion (UnmetFrom f.at) ds) → AllByRecursion (UnmetFrom f.at) (d ∷ ds)
    by true met so others = (λ unmet. absurd (cc), others so)
    by false met so others =
        let here : d.fault ≡ f = cc in
        subst (λ (g : Fault). AllByRecursion (UnmetFrom g.at) (d ∷ ds)) here
        (λ unmet. omega arith, all_behind d.fault.at d.fault.at hi ds (omega arith) h.1)

pub fault_is_least : Ascending → FaultIsLeast
fault_is_least a text tree f h is =
    first_is_least 0 h.0 _ f (items_ascend a text tree.format no_items tree.items 0 h.0 h.1) is

-- How large a sentence or a right side is with all uses of derived relations written out, and where the first use
-- stands.
use Rattle.std.specs.Prelude.{ℕ, ◌||◌, nat_lt, if◌then◌else◌, Bool, false, List, [], ◌∷◌, Option, Some, None}
use Rattle.std.specs.Option.{option_or}
use Rattle.fol_formula.specs.Syntax.{FormTree, TermTree}
use Rattle.fol_formula.specs.Counts.{form_nodes, form_depth, term_nodes, term_depth}
use Rattle.rml_terms.specs.declared.tree.Name.{Name}
use Rattle.rml_terms.specs.declared.tree.Binder.{Binder}
use Rattle.rml_terms.specs.Tree.{ExprTree, ExprTrees, True, False, Apply, Ite, Equal, Not, And, Or, Implies, Iff}
use Rattle.rml_terms.specs.Tree.{Quantified, no_expr, and_expr}
use Rattle.rml_command.specs.Trees.{PrimitiveTree, set_rel, set_fun}
use Rattle.rml_names.specs.Vocabulary.{Vocabulary}
use Rattle.rml_names.specs.declared.meaning.Meaning.{Meaning}
use Rattle.rml_names.specs.declared.meaning.Meaning.TheVariants.{Derived}
use Rattle.rml_names.specs.Meanings.{bytes_of, BoundName, meaning_of, symbol_of, argument_sorts, binding}
use Rattle.rml_names.specs.Meanings.{with_parameters}
use Rattle.rml_names.specs.Meanings.{with_binders}
use Rattle.rml_elaborate.specs.Formulas.{formula_of, term_of, terms_of}
use Rattle.rml_elaborate.specs.Updates.{insertion, removal, placement, assignment}

-- ---- sizes

-- more than 100,000 nodes, or deeper than 1,000
abbrev pub is_beyond : ℕ → ℕ → Bool
is_beyond nodes depth = nat_lt 100000 nodes || nat_lt 1000 depth

-- a formula has too many nodes, or is too deep
abbrev pub is_large : FormTree → Bool
is_large p = is_beyond (form_nodes p) (form_depth p)

-- and so a term
abbrev pub is_large_term : TermTree → Bool
is_large_term t = is_beyond (term_nodes t) (term_depth t)

-- the right side of an update
abbrev pub is_large_update : PrimitiveTree → Bool
is_large_update (set_rel r by) = is_large by
is_large_update (set_fun f by) = is_large_term by
is_large_update _ = false

-- ---- uses

-- a name with this meaning, or else what stands in its arguments
abbrev pub use_or_inside : Meaning → ℕ → Option ℕ → Option ℕ
use_or_inside (Derived d) at inside = Some at
use_or_inside _ at inside = inside

-- this place, where what stands there is too large
abbrev pub where_large : Bool → Option ℕ → Option ℕ
where_large large place = if large then place else None

module _ (text : List ℕ) (v : Vocabulary) where
  -- the place of the first use of a derived relation, in the order of reading
  abbrev mutual
    pub first_use_of : List BoundName → ExprTree → Option ℕ
    first_use_of bs (True at) = None
    first_use_of bs (False at) = None
    first_use_of bs (Apply name args) =
        use_or_inside (meaning_of v bs (bytes_of text name)) name.start (first_use_in_each bs args)
    first_use_of bs (Ite at c a b) =
        option_or (first_use_of bs c) (option_or (first_use_of bs a) (first_use_of bs b))
    first_use_of bs (Equal at a b) = option_or (first_use_of bs a) (first_use_of bs b)
    first_use_of bs (Not at a) = first_use_of bs a
    first_use_of bs (And at args) = first_use_in_each bs args
    first_use_of bs (Or at args) = first_use_in_each bs args
    first_use_of bs (Implies at a b) = option_or (first_use_of bs a) (first_use_of bs b)
    first_use_of bs (Iff at a b) = option_or (first_use_of bs a) (first_use_of bs b)
    first_use_of bs (Quantified q at b a) = first_use_of (binding text v b ∷ bs) a

    pub first_use_in_each : List BoundName → ExprTrees → Option ℕ
    first_use_in_each bs no_expr = None
    first_use_in_each bs (and_expr e es) = option_or (first_use_of bs e) (first_use_in_each bs es)

  -- in the right side of an assignment, under its parameters
  abbrev pub first_use_in_side : Meaning → List Name → Option ExprTree → Option ℕ
  first_use_in_side x ps None = None
  first_use_in_side x ps (Some e) = first_use_of (with_parameters text [] ps (argument_sorts v x)) e

  -- ---- the first use in what is too large

  module _ (bodies : List FormTree) where
    -- the first use of a derived relation in a formula that is too large
    abbrev pub large_use_in_formula : List BoundName → ExprTree → Option ℕ
    large_use_in_formula bs e = where_large (is_large (formula_of text v bodies bs e)) (first_use_of bs e)

    -- and in a term
    abbrev pub large_use_in_term : List BoundName → ExprTree → Option ℕ
    large_use_in_term bs e = where_large (is_large_term (term_of text v bodies bs e)) (first_use_of bs e)

    -- and in the terms of an `insert` whose right side is too large
    abbrev pub large_use_in_insertion : Name → ExprTrees → Option ℕ
    large_use_in_insertion name args =
        where_large
        (is_large_update (insertion (symbol_of v (bytes_of text name)) (terms_of text v bodies [] args)))
        (first_use_in_each [] args)

    -- and so of a `remove`
    abbrev pub large_use_in_removal : Name → ExprTrees → Option ℕ
    large_use_in_removal name args =
        where_large
        (is_large_update (removal (symbol_of v (bytes_of text name)) (terms_of text v bodies [] args)))
        (first_use_in_each [] args)

    -- and so of a `put`, whose new value stands last
    abbrev pub large_use_in_placement : Name → ExprTrees → ExprTree → Option ℕ
    large_use_in_placement name args e =
        where_large
        (is_large_update (placement (symbol_of v (bytes_of text name)) (terms_of text v bodies [] args)
        (term_of text v bodies [] e))) (option_or (first_use_in_each [] args) (first_use_of [] e))

    -- and so of an assignment
    abbrev pub large_use_in_assignment : Name → List Name → Option ExprTree → Option ℕ
    large_use_in_assignment name ps value =
        where_large (is_large_update (assignment text v bodies (symbol_of v (bytes_of text name)) ps value))
        (first_use_in_side (symbol_of v (bytes_of text name)) ps value)

    -- and in the right side of a definition
    abbrev pub large_use_in_definition : List Binder → ExprTree → Option ℕ
    large_use_in_definition bs e = large_use_in_formula (with_binders text v [] bs) e

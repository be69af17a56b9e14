-- What the language demands of the names and sorts of a text, in the order of reading. The first demand that is not
-- met is the fault of this phase. Each demand is one row of the language's rules: a place, the fault's code, and
-- whether it is met.
use Rattle.std.specs.Prelude.{ℕ, suc, ◌==◌, ◌&&◌, ◌||◌, Bool, true, false, not, is_some, if◌then◌else◌, List, [], ◌∷◌}
use Rattle.std.specs.Prelude.{◌++◌, length, nat_lt, Option, Some, None}
use Rattle.rml_lex.specs.declared.token.Fault.{Fault}
use Rattle.rml_lex.specs.declared.fault_code.FaultCode.{FaultCode}
use Rattle.rml_lex.specs.declared.fault_code.FaultCode.TheVariants as fault_code
use Rattle.rml_terms.specs.declared.tree.Name.{Name}
use Rattle.rml_terms.specs.declared.tree.Binder.{Binder}
use Rattle.rml_terms.specs.Tree.{ExprTree, ExprTrees, True, False, Apply, Ite, Equal, Not, And, Or, Implies, Iff}
use Rattle.rml_terms.specs.Tree.{Quantified, no_expr, and_expr}
use Rattle.rml_syntax.specs.Tree.{CommandTree, Block, Blocks, Skip, Abort, Assume}
use Rattle.rml_syntax.specs.Tree.{Assert, If, Choose, Insert, Remove, Put, Assign, no_command, and_command, no_block}
use Rattle.rml_syntax.specs.Tree.{and_block}
use Rattle.rml_syntax.specs.declared.tree.Format.{Format}
use Rattle.rml_syntax.specs.declared.tree.Format.TheVariants.{One, Two}
use Rattle.fol_sig.specs.Arguments.{max_arguments}
use Rattle.rml_names.specs.Vocabulary.{Vocabulary}
use Rattle.rml_names.specs.declared.meaning.Meaning.{Meaning}
use Rattle.rml_names.specs.declared.meaning.Meaning.TheVariants as meaning
use Rattle.rml_sort_check.specs.declared.wanted.Wanted.{Wanted}
use Rattle.rml_sort_check.specs.declared.wanted.Wanted.TheVariants.{Formula, Term}
use Rattle.rml_names.specs.Meanings.{bytes_of, is_among, is_known, is_relation, is_symbol, symbol_of, argument_sorts}
use Rattle.rml_names.specs.Meanings.{result_sort, is_variable, is_function_with_arguments, is_writable, BoundName}
use Rattle.rml_names.specs.Meanings.{meaning_of, sort_by_name, binding, with_parameters, with_binders, term_sort}

-- one rule of the language at one place: the fault where it is not met, and whether it is met
pub record Demand : Type 0 where
  pub fault : Fault
  pub met : Bool

-- the demand that stands at this place, with this code
abbrev pub asks : ℕ → FaultCode → Bool → Demand
asks at code met = record { fault = record { code = code; at = at }; met = met }

-- the fault of the first demand that is not met
abbrev pub first_fault : List Demand → Option Fault
first_fault [] = None
first_fault (d ∷ ds) = if d.met then first_fault ds else Some d.fault

abbrev pub expr_count : ExprTrees → ℕ
expr_count no_expr = 0
expr_count (and_expr e es) = suc (expr_count es)

-- ---- expressions

-- the sort is the expected one, where one is expected
abbrev pub is_expected : Option ℕ → Option ℕ → Bool
is_expected None sort = true
is_expected (Some k) None = false
is_expected (Some k) (Some l) = l == k

-- what a name has to be: known; a formula, or a term of the expected sort; with as many arguments as it has sorts
abbrev pub name_demands : Vocabulary → Wanted → Meaning → ℕ → ℕ → List Demand
name_demands v Formula x at count =
    asks at fault_code.UnknownName (is_known x)
    ∷ asks at fault_code.NotAFormula (is_relation x)
    ∷ asks at fault_code.WrongArgumentCount (count == length (argument_sorts v x))
    ∷ []
name_demands v (Term expected) x at count =
    asks at fault_code.UnknownName (is_known x)
    ∷ asks at fault_code.NotATerm (not (is_relation x))
    ∷ asks at fault_code.WrongSort (is_expected expected (result_sort v x))
    ∷ asks at fault_code.WrongArgumentCount (count == length (argument_sorts v x))
    ∷ []

-- an unknown name or no formula
abbrev pub is_told_first : FaultCode → Bool
is_told_first fault_code.UnknownName = true
is_told_first fault_code.NotAFormula = true
is_told_first _ = false

-- What is no term is told so at its first token, where that token is not itself an unknown name or no formula.
abbrev pub no_term_code : ℕ → Option Fault → FaultCode
no_term_code at None = fault_code.NotATerm
no_term_code at (Some f) = if (f.at == at) && is_told_first f.code then f.code else fault_code.NotATerm

-- what a compound formula demands where it stands, by what its parts demand
abbrev pub compound : Wanted → ℕ → List Demand → List Demand
compound Formula at parts = parts
compound (Term expected) at parts = asks at (no_term_code at (first_fault parts)) false ∷ []

-- an `ite` hands the sort that it is expected to have on; without one, its last part has that of its second
abbrev pub second_sort : Option ℕ → Option ℕ → Option ℕ
second_sort (Some k) sort = Some k
second_sort None sort = sort

-- what may become anything: a variable, and in format 2 a relation
abbrev pub may_vary : Vocabulary → Format → Meaning → Bool
may_vary v One x = is_variable v x
may_vary v Two x = is_variable v x || is_relation x

module _ (text : List ℕ) where
  -- a bound name is no declared symbol, and its sort is known
  abbrev pub binder_demands : Vocabulary → Binder → List Demand
  binder_demands v b =
      asks b.name.start fault_code.TakenName (not (is_symbol v (bytes_of text b.name)))
      ∷ asks b.sort.start fault_code.UnknownName (is_some (sort_by_name text v b.sort)) ∷ []

  -- what an expression demands under these binders, the nearest one first, where a formula or a term is wanted
  abbrev mutual
    pub demands : Vocabulary → List BoundName → Wanted → ExprTree → List Demand
    demands v bound w (True at) = compound w at []
    demands v bound w (False at) = compound w at []
    demands v bound w (Apply name args) =
        name_demands v w (meaning_of v bound (bytes_of text name)) name.start (expr_count args)
        ++ argument_demands v bound args (argument_sorts v (meaning_of v bound (bytes_of text name)))
    demands v bound Formula (Ite at c a b) = asks at fault_code.NotAFormula false ∷ []
    demands v bound (Term k) (Ite at c a b) =
        demands v bound Formula c
        ++ (demands v bound (Term k) a ++ demands v bound (Term (second_sort k (term_sort text v bound a))) b)
    demands v bound w (Equal at a b) =
        compound w at (demands v bound (Term None) a ++ demands v bound (Term (term_sort text v bound a)) b)
    demands v bound w (Not at a) = compound w at (demands v bound Formula a)
    demands v bound w (And at args) = compound w at (formula_demands v bound args)
    demands v bound w (Or at args) = compound w at (formula_demands v bound args)
    demands v bound w (Implies at a b) = compound w at (demands v bound Formula a ++ demands v bound Formula b)
    demands v bound w (Iff at a b) = compound w at (demands v bound Formula a ++ demands v bound Formula b)
    demands v bound w (Quantified q at b a) =
        compound w at (binder_demands v b ++ demands v (binding text v b ∷ bound) Formula a)

    -- operands of a connective
    pub formula_demands : Vocabulary → List BoundName → ExprTrees → List Demand
    formula_demands v bound no_expr = []
    formula_demands v bound (and_expr e es) = demands v bound Formula e ++ formula_demands v bound es

    -- arguments, each of its sort
    pub argument_demands : Vocabulary → List BoundName → ExprTrees → List ℕ → List Demand
    argument_demands v bound no_expr ks = []
    argument_demands v bound (and_expr e es) [] = []
    argument_demands v bound (and_expr e es) (k ∷ ks) = demands v bound (Term (Some k)) e
        ++ argument_demands v bound es ks

  -- ---- commands

  -- the target of `insert` and `remove`: a relation that may be written, with as many arguments as it has sorts
  abbrev pub tuple_demands : Vocabulary → Meaning → ℕ → ExprTrees → List Demand
  tuple_demands v x at args =
      (asks at fault_code.UnknownName (is_known x)
      ∷ asks at fault_code.BadTarget (is_relation x && is_writable v x)
      ∷ asks at fault_code.WrongArgumentCount (expr_count args == length (argument_sorts v x)) ∷ [])
      ++ argument_demands v [] args (argument_sorts v x)

  -- the target of `put`: a function with as many arguments as it has sorts, and some; then the new value
  abbrev pub put_demands : Vocabulary → Meaning → ℕ → ExprTrees → ExprTree → List Demand
  put_demands v x at args e =
      (asks at fault_code.UnknownName (is_known x)
      ∷ asks at fault_code.BadTarget (is_function_with_arguments v x)
      ∷ asks at fault_code.WrongArgumentCount (expr_count args == length (argument_sorts v x)) ∷ [])
      ++ (argument_demands v [] args (argument_sorts v x) ++ demands v [] (Term (result_sort v x)) e)

  -- parameters: none is a declared symbol, none stands twice in the list
  abbrev pub parameter_demands : Vocabulary → List (List ℕ) → List Name → List Demand
  parameter_demands v earlier [] = []
  parameter_demands v earlier (p ∷ ps) =
      asks p.start fault_code.TakenName (not (is_symbol v (bytes_of text p)))
      ∷ asks p.start fault_code.DeclaredTwice (not (is_among earlier (bytes_of text p)))
      ∷ parameter_demands v (bytes_of text p ∷ earlier) ps

  -- what the right side of `:=` has to be: of a relation a formula, of a function or a variable a term of its sort
  abbrev pub side_of : Vocabulary → Meaning → Wanted
  side_of v (meaning.Relation r) = Formula
  side_of v x = Term (result_sort v x)

  -- the right side of `:=` under its parameters; a `*` demands nothing
  abbrev pub side_demands : Vocabulary → List BoundName → Meaning → Option ExprTree → List Demand
  side_demands v bound x None = []
  side_demands v bound x (Some e) = demands v bound (side_of v x) e

  -- the target of `:=`: known; one that may be written, and may become anything where the right side is `*`; with as
  -- many parameters as it has arguments
  abbrev pub assign_demands : Vocabulary → Format → Meaning → ℕ → List Name → Option ExprTree → List Demand
  assign_demands v format x at ps value =
      (asks at fault_code.UnknownName (is_known x)
      ∷ asks at fault_code.BadTarget (is_writable v x && (is_some value || may_vary v format x))
      ∷ asks at fault_code.WrongArgumentCount (length ps == length (argument_sorts v x)) ∷ [])
      ++ (parameter_demands v [] ps ++ side_demands v (with_parameters text [] ps (argument_sorts v x)) x value)

  -- what a command demands, its parts in the order of reading
  abbrev mutual
    pub command_demands : Vocabulary → Format → CommandTree → List Demand
    command_demands v format (Skip at) = []
    command_demands v format (Abort at) = []
    command_demands v format (Assume at e) = demands v [] Formula e
    command_demands v format (Assert at e) = demands v [] Formula e
    command_demands v format (If at e a b) =
        demands v [] Formula e ++ (block_demands v format a ++ block_demands v format b)
    command_demands v format (Choose at bs) = blocks_demands v format bs
    command_demands v format (Insert at name args) = tuple_demands v (symbol_of v (bytes_of text name)) name.start args
    command_demands v format (Remove at name args) = tuple_demands v (symbol_of v (bytes_of text name)) name.start args
    command_demands v format (Put at name args e) = put_demands v (symbol_of v (bytes_of text name)) name.start args e
    command_demands v format (Assign name ps value) = assign_demands v format (symbol_of v (bytes_of text name))
        name.start ps value

    pub block_demands : Vocabulary → Format → Block → List Demand
    block_demands v format no_command = []
    block_demands v format (and_command c cs) = command_demands v format c ++ block_demands v format cs

    pub blocks_demands : Vocabulary → Format → Blocks → List Demand
    blocks_demands v format no_block = []
    blocks_demands v format (and_block b bs) = block_demands v format b ++ blocks_demands v format bs

  -- ---- definitions

  -- parameters of a definition, the first of them as the i-th: none is a declared symbol, none stands twice in the
  -- list; their sorts are known, and no more than there may be
  abbrev pub binders_demands : Vocabulary → List (List ℕ) → ℕ → List Binder → List Demand
  binders_demands v earlier i [] = []
  binders_demands v earlier i (b ∷ bs) =
      asks b.name.start fault_code.TakenName (not (is_symbol v (bytes_of text b.name)))
      ∷ asks b.name.start fault_code.DeclaredTwice (not (is_among earlier (bytes_of text b.name)))
      ∷ asks b.sort.start fault_code.UnknownName (is_some (sort_by_name text v b.sort))
      ∷ asks b.sort.start fault_code.WrongArgumentCount (nat_lt i max_arguments)
      ∷ binders_demands v (bytes_of text b.name ∷ earlier) (suc i) bs

  -- the right side is a formula of the parameters
  abbrev pub definition_demands : Vocabulary → List Binder → ExprTree → List Demand
  definition_demands v bs e = binders_demands v [] 0 bs ++ demands v (with_binders text v [] bs) Formula e

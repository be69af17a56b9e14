-- What a name means: by the binders around it, and by what was declared in the items before it.
use Rattle.std.specs.Prelude.{ℕ, suc, ◌-◌, ◌==◌, Bool, true, false, not, if◌then◌else◌, List, [], ◌∷◌, length, take}
use Rattle.std.specs.Prelude.{drop, position, unwrap_or, Option, Some, None}
use Rattle.std.specs.List.{list_any}
use Rattle.std.specs.Str.{bytes_eq}
use Rattle.fol_sig.specs.Tables.{is_listed}
use Rattle.fol_sig.specs.Symbols.{symbols}
use Rattle.rml_terms.specs.declared.tree.Name.{Name}
use Rattle.rml_terms.specs.declared.tree.Binder.{Binder}
use Rattle.rml_terms.specs.Tree.{ExprTree, True, False, Apply, Ite, Equal, Not, And, Or, Implies, Iff, Quantified}
use Rattle.rml_names.specs.Vocabulary.{Vocabulary, derived_sorts}
use Rattle.rml_names.specs.declared.meaning.Meaning.{Meaning}
use Rattle.rml_names.specs.declared.meaning.Meaning.TheVariants.{Bound, Relation, Function, Derived, Unknown}

-- the bytes of a name
abbrev pub bytes_of : List ℕ → Name → List ℕ
bytes_of text name = take (name.end - name.start) (drop name.start text)

-- where a name stands among others, the first of them as 0
abbrev pub place_among : List (List ℕ) → List ℕ → Option ℕ
place_among names name = position (bytes_eq name) names

abbrev pub is_among : List (List ℕ) → List ℕ → Bool
is_among names name = list_any (bytes_eq name) names

-- ---- symbols

-- the symbol by its number among relations, functions and derived relations; the first that there is counts
abbrev pub symbol_by : Option ℕ → Option ℕ → Option ℕ → Meaning
symbol_by (Some r) f d = Relation r
symbol_by None (Some f) d = Function f
symbol_by None None (Some d) = Derived d
symbol_by None None None = Unknown

-- the relation, function, variable or derived relation of this name
abbrev pub symbol_of : Vocabulary → List ℕ → Meaning
symbol_of v name = symbol_by (place_among v.names.relations name) (place_among v.names.functions name)
    (place_among v.derived_names name)

abbrev pub is_known : Meaning → Bool
is_known (Bound i k) = true
is_known (Relation r) = true
is_known (Function f) = true
is_known (Derived d) = true
is_known Unknown = false

-- a derived relation may be read as one
abbrev pub is_relation : Meaning → Bool
is_relation (Bound i k) = false
is_relation (Relation r) = true
is_relation (Function f) = false
is_relation (Derived d) = true
is_relation Unknown = false

-- a relation, function, variable or derived relation has this name
abbrev pub is_symbol : Vocabulary → List ℕ → Bool
is_symbol v name = is_known (symbol_of v name)

-- the sorts of the arguments of what is meant; a bound and an unknown name have none
abbrev pub argument_sorts : Vocabulary → Meaning → List ℕ
argument_sorts v (Bound i k) = []
argument_sorts v (Relation r) = (symbols v.signature).sorts_of r
argument_sorts v (Function f) = (symbols v.signature).from_of f
argument_sorts v (Derived d) = derived_sorts v d
argument_sorts v Unknown = []

-- the sort of a bound name, a variable or a function's values
abbrev pub result_sort : Vocabulary → Meaning → Option ℕ
result_sort v (Bound i k) = Some k
result_sort v (Relation r) = None
result_sort v (Function f) = Some ((symbols v.signature).into_of f)
result_sort v (Derived d) = None
result_sort v Unknown = None

-- a variable is a function without arguments
abbrev pub is_variable : Vocabulary → Meaning → Bool
is_variable v (Function f) = length ((symbols v.signature).from_of f) == 0
is_variable v _ = false

abbrev pub is_function_with_arguments : Vocabulary → Meaning → Bool
is_function_with_arguments v (Function f) = if length ((symbols v.signature).from_of f) == 0 then false else true
is_function_with_arguments v _ = false

-- whether commands may write it: a derived relation has no table, and a listed name stays what it is
abbrev pub is_writable : Vocabulary → Meaning → Bool
is_writable v (Function f) = not (is_listed v.signature f)
is_writable v (Derived d) = false
is_writable v _ = true

-- ---- bound names

-- a name that a binder or parameter binds, and its sort
pub record BoundName : Type 0 where
  pub name : List ℕ
  pub sort : ℕ

-- The nearest of the binders that have this name, the first of them as i; behind them the symbol.
abbrev pub meaning_from : Vocabulary → ℕ → List BoundName → List ℕ → Meaning
meaning_from v i [] name = symbol_of v name
meaning_from v i (b ∷ bs) name = if bytes_eq name b.name then Bound i b.sort else meaning_from v (suc i) bs name

-- what a name means under these binders, the nearest one first
abbrev pub meaning_of : Vocabulary → List BoundName → List ℕ → Meaning
meaning_of v bound name = meaning_from v 0 bound name

module _ (text : List ℕ) where
  -- the number of a sort by its name
  abbrev pub sort_by_name : Vocabulary → Name → Option ℕ
  sort_by_name v name = place_among v.names.sorts (bytes_of text name)

  -- the number of a sort that is known
  abbrev pub sort_number : Vocabulary → Name → ℕ
  sort_number v name = unwrap_or (sort_by_name v name) 0

  -- the name that a binder binds; where its sort is unknown, with the sort 0
  abbrev pub binding : Vocabulary → Binder → BoundName
  binding v b = record { name = bytes_of text b.name; sort = sort_number v b.sort }

  -- the parameters of an update, each of its argument's sort, before the binders around: the last one is the nearest
  abbrev pub with_parameters : List BoundName → List Name → List ℕ → List BoundName
  with_parameters bound [] ks = bound
  with_parameters bound (p ∷ ps) [] = bound
  with_parameters bound (p ∷ ps) (k ∷ ks) = with_parameters (record { name = bytes_of text p; sort = k } ∷ bound) ps ks

  -- the parameters of a definition, each of its binder's sort, likewise
  abbrev pub with_binders : Vocabulary → List BoundName → List Binder → List BoundName
  with_binders v bound [] = bound
  with_binders v bound (b ∷ bs) = with_binders v (binding v b ∷ bound) bs

  -- the sort that an expression has as a term: that of its name, or of the second part of an `ite`
  abbrev pub term_sort : Vocabulary → List BoundName → ExprTree → Option ℕ
  term_sort v bound (True at) = None
  term_sort v bound (False at) = None
  term_sort v bound (Apply name args) = result_sort v (meaning_of v bound (bytes_of text name))
  term_sort v bound (Ite at c a b) = term_sort v bound a
  term_sort v bound (Equal at a b) = None
  term_sort v bound (Not at a) = None
  term_sort v bound (And at args) = None
  term_sort v bound (Or at args) = None
  term_sort v bound (Implies at a b) = None
  term_sort v bound (Iff at a b) = None
  term_sort v bound (Quantified q at b a) = None

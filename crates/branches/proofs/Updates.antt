-- An update whose demands are met stands for no abort.
use Rattle.std.proofs.Common.{◌≡◌, ℕ, false, ◌||◌, List, [], ◌∷◌, Option, Some, None, refl, ap}
use Rattle.fol_formula.specs.Syntax.{TermTree, TermTrees}
use Rattle.rml_terms.specs.declared.tree.Name.{Name}
use Rattle.rml_terms.specs.Tree.{ExprTree, ExprTrees}
use Rattle.rml_syntax.specs.Tree.{Insert, Remove, Put, Assign}
use Rattle.rml_command.specs.Trees.{PrimitiveTree}
use Rattle.rml_command.specs.Paths.{is_abort, has_abort}
use Rattle.rml_names.specs.declared.meaning.Meaning.{Meaning}
use Rattle.rml_names.specs.declared.meaning.Meaning.TheVariants.{Bound, Relation, Function, Derived, Unknown}
use Rattle.rml_names.specs.Drafts.{DraftTree}
use Rattle.rml_syntax.specs.declared.tree.Format.{Format}
use Rattle.rml_names.specs.Meanings.{bytes_of, place_among, symbol_by, symbol_of}
use Rattle.rml_sort_check.specs.Demands.{first_fault, tuple_demands, put_demands, assign_demands, command_demands}
use Rattle.rml_elaborate.specs.Formulas.{term_of, terms_of}
use Rattle.rml_elaborate.specs.Updates.{insertion, removal, placement, assignment}

module _ (text : List ℕ) (format : Format) (d : DraftTree) where
  insertion_on : (x : Meaning) (at : ℕ) (args : ExprTrees) (ts : TermTrees)
      → first_fault (tuple_demands text d.vocabulary x at args) ≡ None → is_abort (insertion x ts) ≡ false
  insertion_on (Bound i k) at args ts h = absurd (cc h)
  insertion_on (Relation r) at args ts h = refl
  insertion_on (Function f) at args ts h = absurd (cc h)
  insertion_on (Derived k) at args ts h = absurd (cc h)
  insertion_on Unknown at args ts h = absurd (cc h)

  removal_on : (x : Meaning) (at : ℕ) (args : ExprTrees) (ts : TermTrees)
      → first_fault (tuple_demands text d.vocabulary x at args) ≡ None → is_abort (removal x ts) ≡ false
  removal_on (Bound i k) at args ts h = absurd (cc h)
  removal_on (Relation r) at args ts h = refl
  removal_on (Function f) at args ts h = absurd (cc h)
  removal_on (Derived k) at args ts h = absurd (cc h)
  removal_on Unknown at args ts h = absurd (cc h)

  placement_on : (x : Meaning) (at : ℕ) (args : ExprTrees) (e : ExprTree) (ts : TermTrees) (u : TermTree)
      → first_fault (put_demands text d.vocabulary x at args e) ≡ None → is_abort (placement x ts u) ≡ false
  placement_on (Bound i k) at args e ts u h = absurd (cc h)
  placement_on (Relation r) at args e ts u h = absurd (cc h)
  placement_on (Function f) at args e ts u h = refl
  placement_on (Derived k) at args e ts u h = absurd (cc h)
  placement_on Unknown at args e ts u h = absurd (cc h)

  assignment_on : (r f k : Option ℕ) (at : ℕ) (ps : List Name) (value : Option ExprTree)
      → first_fault (assign_demands text d.vocabulary format (symbol_by r f k) at ps value) ≡ None
      → is_abort (assignment text d.vocabulary d.bodies (symbol_by r f k) ps value) ≡ false
  assignment_on (Some r) f k at ps (Some e) h = refl
  assignment_on (Some r) f k at ps None h = refl
  assignment_on None (Some f) k at ps (Some e) h = refl
  assignment_on None (Some f) k at ps None h = refl
  assignment_on None None (Some k) at ps value h = absurd (cc h)
  assignment_on None None None at ps value h = absurd (cc h)

  -- ---- the paths of the four updates

  abbrev pub insert_path : Name → ExprTrees → List PrimitiveTree
  insert_path name args = insertion (symbol_of d.vocabulary (bytes_of text name)) (terms_of text d.vocabulary d.bodies [] args) ∷ []

  abbrev pub remove_path : Name → ExprTrees → List PrimitiveTree
  remove_path name args = removal (symbol_of d.vocabulary (bytes_of text name)) (terms_of text d.vocabulary d.bodies [] args) ∷ []

  abbrev pub put_path : Name → ExprTrees → ExprTree → List PrimitiveTree
  put_path name args e =
      placement (symbol_of d.vocabulary (bytes_of text name)) (terms_of text d.vocabulary d.bodies [] args) (term_of text d.vocabulary d.bodies [] e) ∷ []

  abbrev pub assign_path : Name → List Name → Option ExprTree → List PrimitiveTree
  assign_path name ps value = assignment text d.vocabulary d.bodies (symbol_of d.vocabulary (bytes_of text name)) ps value ∷ []

  pub inserted_on : (at : ℕ) (name : Name) (args : ExprTrees)
      → first_fault (command_demands text d.vocabulary format (Insert at name args)) ≡ None → has_abort (insert_path name args) ≡ false
  inserted_on at name args h =
      ap (λ b. b || false)
      (insertion_on (symbol_of d.vocabulary (bytes_of text name)) name.start args (terms_of text d.vocabulary d.bodies [] args) h)

  pub removed_on : (at : ℕ) (name : Name) (args : ExprTrees)
      → first_fault (command_demands text d.vocabulary format (Remove at name args)) ≡ None → has_abort (remove_path name args) ≡ false
  removed_on at name args h =
      ap (λ b. b || false)
      (removal_on (symbol_of d.vocabulary (bytes_of text name)) name.start args (terms_of text d.vocabulary d.bodies [] args) h)

  pub put_on : (at : ℕ) (name : Name) (args : ExprTrees) (e : ExprTree)
      → first_fault (command_demands text d.vocabulary format (Put at name args e)) ≡ None → has_abort (put_path name args e) ≡ false
  put_on at name args e h =
      ap (λ b. b || false)
      (placement_on (symbol_of d.vocabulary (bytes_of text name)) name.start args e (terms_of text d.vocabulary d.bodies [] args)
      (term_of text d.vocabulary d.bodies [] e) h)

  pub assigned_on : (name : Name) (ps : List Name) (value : Option ExprTree)
      → first_fault (command_demands text d.vocabulary format (Assign name ps value)) ≡ None
      → has_abort (assign_path name ps value) ≡ false
  assigned_on name ps value h =
      ap (λ b. b || false)
      (assignment_on (place_among d.vocabulary.names.relations (bytes_of text name))
      (place_among d.vocabulary.names.functions (bytes_of text name))
      (place_among d.vocabulary.derived_names (bytes_of text name)) name.start ps value h)

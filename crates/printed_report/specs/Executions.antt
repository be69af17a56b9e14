-- What a printed execution has: everything in range and full. Whether it is followed so, and ends so, is not asked
-- here.
use Rattle.std.specs.Prelude.{◌≡◌, ℕ, ◌<◌, ◌≤◌, List, [], ◌∷◌, length, Option, Some, None, All, slice_get}
use Rattle.fol_sig.specs.Tables.{Tables, InRange}
use Rattle.fol_sig.specs.Symbols.{FitsStructure, symbols}
use Rattle.fol_sig.specs.TupleSets.{has_tuple, tuples_where}
use Rattle.fol_formula.specs.Syntax.{FormTree}
use Rattle.rml_command.specs.Trees.{PrimitiveTree, havoc, havoc_rel}
use Rattle.rml_command.specs.Models.{ModelTree}
use Rattle.rml_command.specs.Outcomes.{range_of}
use Rattle.rml_command.specs.Goals.{stage_paths, goal_path, leading_sorts, IsGoal}
use Rattle.rml_command.specs.declared.goal.Head.{Head}
use Rattle.rml_command.specs.declared.goal.About.{About}
use Rattle.rml_command.specs.declared.goal.About.TheVariants as about
use Rattle.rml_command.specs.declared.havoc.Havoc.{Havoc}
use Rattle.rml_command.specs.declared.havoc.Havoc.TheVariants.{Element, Tuples}
use Rattle.rml_exec.specs.Steps.{havocs_after}
use Rattle.rml_exec.specs.declared.trace.Counterexample.{Counterexample}
use Rattle.rml_report.specs.Reports.{goal_at}

-- the largest size of a sort
abbrev pub IsSize : ℕ → Type 0
IsSize n = n ≤ 100000

-- the tuples of a relation's sorts that are among these, in lexicographic order and each once
abbrev pub listed : Tables → ℕ → List (List ℕ) → List (List ℕ)
listed s r xss = tuples_where s r (has_tuple xss)

-- The entries that are left begin with what a step of a path asks for: a havoc of a variable asks for an element of its
-- sort, that of a relation for tuples of its sorts, in order and each once.
abbrev pub IsAsked : Tables → PrimitiveTree → List Havoc → Type 0
IsAsked s (havoc v) (Element x ∷ hs) = x < range_of s v
IsAsked s (havoc v) hs = ⊥
IsAsked s (havoc_rel r) (Tuples xss ∷ hs) = listed s r xss ≡ xss
IsAsked s (havoc_rel r) hs = ⊥
IsAsked s q hs = Unit {0}

-- the entries of a trace are those that a path asks for
abbrev pub AreAsked : Tables → List PrimitiveTree → List Havoc → Type 0
AreAsked s [] hs = hs ≡ []
AreAsked s (q ∷ qs) hs = IsAsked s q hs × AreAsked s qs (havocs_after q hs)

-- the same, where the path has to be there
abbrev pub AreAskedAlong : Tables → Option (List PrimitiveTree) → List Havoc → Type 0
AreAskedAlong s None hs = ⊥
AreAskedAlong s (Some path) hs = AreAsked s path hs

-- a structure of the model with the sizes of another
pub record HasSizes (m : ModelTree) (s t : Tables) : Type 0 where
  pub structure : FitsStructure (symbols m.signature) t
  pub sizes : t.sizes ≡ s.sizes

-- An abort has no values and no end. Another end is a structure of the same sizes, with a value for each quantifier of
-- the leading run of `forall` of the conjecture.
abbrev pub HasEnd : ModelTree → Tables → About → List ℕ → Option Tables → Type 0
HasEnd m s about.Abort values after = (values ≡ []) × (after ≡ None)
HasEnd m s (about.Conjecture k) values after =
    (c : FormTree) × (t : Tables) × (slice_get m.conjectures k ≡ Some c) × (after ≡ Some t) × HasSizes m s t
    × InRange s.sizes (leading_sorts c) values

-- A path that is a goal of the group, among so many of its block; a structure of the model; an element or a table for
-- each havoc of the path; and an end.
pub record IsExecution (m : ModelTree) (group : Head) (paths : ℕ) (shown : Counterexample) (after : Option Tables)
    : Type 0 where
  pub goal : shown.goal ≡ goal_at group shown.trace.path
  pub is_goal : IsGoal m shown.goal
  pub count : paths ≡ length (stage_paths m group.stage)
  pub structure : FitsStructure (symbols m.signature) shown.structure
  pub sizes : All IsSize shown.structure.sizes
  pub trace : AreAskedAlong shown.structure (goal_path m shown.goal) shown.trace.havoc
  pub end : HasEnd m shown.structure group.about shown.values after

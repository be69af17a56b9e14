-- Groups, goals, and what is a counterexample of a goal.
use Rattle.std.specs.Prelude.{
  ◌≡◌,
  ◌<◌,
  ℕ,
  suc,
  Bool,
  true,
  false,
  not,
  ◌&&◌,
  if◌then◌else◌,
  List,
  [],
  ◌∷◌,
  ◌++◌,
  length,
  map,
  reverse,
  Option,
  Some,
  None,
  slice_get,
}
use Rattle.std.specs.List.{AllByRecursion, flat_map}
use Rattle.fol_sig.specs.Tables.{Tables, InRange, reading}
use Rattle.fol_sig.specs.Symbols.{FitsStructure, symbols}
use Rattle.fol_formula.specs.Syntax.{FormTree, for_all}
use Rattle.fol_formula.specs.Truth.{truth}
use Rattle.rml_command.specs.Trees.{PrimitiveTree, CommandTree}
use Rattle.fol_formula.specs.Sentences.{satisfies}
use Rattle.rml_command.specs.Outcomes.{Outcome, ended, aborted, follow_path}
use Rattle.base.specs.Lists.{count_from, numbered}
use Rattle.rml_command.specs.Paths.{has_abort, paths_of, havoc_count}
use Rattle.rml_command.specs.Models.{ModelTree}
use Rattle.rml_command.specs.declared.goal.Stage.{Stage}
use Rattle.rml_command.specs.declared.goal.Stage.TheVariants as stage
use Rattle.rml_command.specs.declared.goal.About.{About}
use Rattle.rml_command.specs.declared.goal.About.TheVariants as about
use Rattle.rml_command.specs.declared.goal.Goal.{Goal}
use Rattle.rml_command.specs.declared.goal.Head.{Head}
use Rattle.rml_command.specs.declared.havoc.Havoc.{Havoc}

-- the groups of init or an action, each by its head: abort, and each conjecture
abbrev pub stage_groups : ModelTree → Stage → List Head
stage_groups m s = record { stage = s; about = about.Abort }
    ∷ map (λ k. record { stage = s; about = about.Conjecture k }) (count_from 0 (length m.conjectures))

-- the groups of a model, in order: those of init, those of each action, and final's abort
abbrev pub groups_of : ModelTree → List Head
groups_of m =
    stage_groups m stage.Init
    ++ (flat_map (λ a. stage_groups m (stage.Action a)) (count_from 0 (length m.actions))
    ++ (record { stage = stage.Final; about = about.Abort } ∷ []))

-- the block of a stage
abbrev pub block_of : ModelTree → Stage → Option CommandTree
block_of m stage.Init = Some m.init
block_of m (stage.Action a) = slice_get m.actions a
block_of m stage.Final = Some m.last

-- the paths of a block, in order; where there is no block, none
abbrev pub paths_of_block : Option CommandTree → List (List PrimitiveTree)
paths_of_block None = []
paths_of_block (Some block) = paths_of block

-- the paths of a stage's block; of an action that the model does not have, none
abbrev pub stage_paths : ModelTree → Stage → List (List PrimitiveTree)
stage_paths m s = paths_of_block (block_of m s)

-- an abort group's goals are the paths that end in abort, and a conjecture's group's are the others
abbrev pub is_for : About → List PrimitiveTree → Bool
is_for about.Abort p = has_abort p
is_for (about.Conjecture k) p = not (has_abort p)

-- the goals among paths that are numbered from n on
abbrev pub goals_among : Head → ℕ → List (List PrimitiveTree) → List Goal
goals_among group n [] = []
goals_among group n (p ∷ ps) =
    if is_for group.about p
    then record { stage = group.stage; path = n; about = group.about } ∷ goals_among group (suc n) ps
    else goals_among group (suc n) ps

-- the goals of a group, in the order of its paths, which are numbered from 1
abbrev pub group_goals : ModelTree → Head → List Goal
group_goals m group = goals_among group 1 (stage_paths m group.stage)

-- all goals, in order
abbrev pub goals_of : ModelTree → List Goal
goals_of m = flat_map (group_goals m) (groups_of m)

-- the path of a goal
abbrev pub goal_path : ModelTree → Goal → Option (List PrimitiveTree)
goal_path m goal = numbered (stage_paths m goal.stage) goal.path

-- abort is forbidden everywhere, and each conjecture is to hold behind init and behind each action
abbrev pub HasAbout : ModelTree → Stage → About → Type 0
HasAbout m s about.Abort = Unit {0}
HasAbout m stage.Init (about.Conjecture k) = k < length m.conjectures
HasAbout m (stage.Action a) (about.Conjecture k) = k < length m.conjectures
HasAbout m stage.Final (about.Conjecture k) = ⊥

-- A goal of a model: a path of the stage's block, of the kind that the goal is about.
pub record IsGoal (m : ModelTree) (goal : Goal) : Type 0 where
  pub path : List PrimitiveTree
  pub is_path : goal_path m goal ≡ Some path
  pub kind : is_for goal.about path ≡ true
  pub about : HasAbout m goal.stage goal.about

-- what induction allows before a stage where these sentences are held: the axioms and, unless it is init, the sentences
abbrev pub is_allowed : ModelTree → List FormTree → Stage → Tables → Bool
is_allowed m held stage.Init s = satisfies s m.axioms
is_allowed m held (stage.Action a) s = satisfies s m.axioms && satisfies s held
is_allowed m held stage.Final s = satisfies s m.axioms && satisfies s held

-- the sorts of the leading run of `forall` of a sentence, and what stands behind it
abbrev pub leading_sorts : FormTree → List ℕ
leading_sorts (for_all k p) = k ∷ leading_sorts p
leading_sorts _ = []

-- the formula behind the leading run of `forall`
abbrev pub body_of : FormTree → FormTree
body_of (for_all k p) = body_of p
body_of p = p

-- the values, one for each leading quantifier with the outermost first, make the body false
pub record FalseUnder (s : Tables) (c : FormTree) (values : List ℕ) : Type 0 where
  pub in_range : InRange s.sizes (leading_sorts c) values
  pub body : truth (reading s) (body_of c) (reverse values) ≡ false

-- an abort goal's path aborts, and there are no values; another's ends where the conjecture is false under the values
abbrev pub FailsGoal : ModelTree → About → List ℕ → Option Outcome → Type 0
FailsGoal m about.Abort values outcome = (outcome ≡ Some aborted) × (values ≡ [])
FailsGoal m (about.Conjecture k) values outcome =
    (c : FormTree) × (s : Tables) × (slice_get m.conjectures k ≡ Some c) × (outcome ≡ Some (ended s))
    × FalseUnder s c values

-- A counterexample of a goal, where these sentences are held: a structure that induction allows, for each havoc of the
-- goal's path an element or, where a relation is havocked, the tuples of which it is true, and values. Followed with
-- these, no step of the path is blocked, and it ends as the goal forbids.
pub record IsCounterexample (m : ModelTree) (held : List FormTree) (goal : Goal) (s : Tables)
    (havocs : List Havoc) (values : List ℕ) : Type 0 where
  pub path : List PrimitiveTree
  pub is_path : goal_path m goal ≡ Some path
  pub structure : FitsStructure (symbols m.signature) s
  pub allowed : is_allowed m held goal.stage s ≡ true
  pub count : length havocs ≡ havoc_count path
  pub fails : FailsGoal m goal.about values (follow_path m.axioms path havocs s)

-- where these sentences are held, the goal has no counterexample: no structure, havocs and values are one
abbrev pub HasNone : ModelTree → List FormTree → Goal → Type 0
HasNone m held goal =
    (s : Tables) (havocs : List Havoc) (values : List ℕ) → IsCounterexample m held goal s havocs values → ⊥

-- A group holds where, with all conjectures held, no goal of it has a counterexample.
abbrev pub Holds : ModelTree → Head → Type 0
Holds m group = AllByRecursion (HasNone m m.conjectures) (group_goals m group)

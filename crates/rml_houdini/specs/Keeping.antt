-- What is known of goals by some of the held conjectures. Private contracts alone cite this.
use Rattle.std.specs.Prelude.{◌≡◌, ◌==◌, ℕ, true, false, not, List, Option, Some, None}
use Rattle.std.specs.List.{AllByRecursion, filter}
use Rattle.fol_sig.specs.Tables.{Tables}
use Rattle.fol_sig.specs.Symbols.{FitsStructure, symbols}
use Rattle.rml_command.specs.Models.{ModelTree}
use Rattle.rml_command.specs.Fragment.{IsChecked}
use Rattle.fol_formula.specs.Sentences.{satisfies}
use Rattle.rml_command.specs.Goals.{group_goals}
use Rattle.rml_command.specs.declared.goal.Goal.{Goal}
use Rattle.rml_command.specs.declared.goal.Stage.{Stage}
use Rattle.rml_command.specs.declared.goal.Stage.TheVariants as stage
use Rattle.rml_wp.specs.Preconditions.{answered}
use Rattle.rml_command.specs.InductiveSets.{conjectures_of, IsWithin}
use Rattle.ea_decide.specs.declared.decided.Passed.{Passed}
use Rattle.limits.specs.Ceilings.{Ceilings}
use Rattle.ea_decide.specs.Passing.{Passes}
use Rattle.ea_decide.specs.Decisions.{IsOver}
use Rattle.pruned_decide.specs.Decisions.{lean_signature, lean_sentence}
use Rattle.rml_command.specs.Goals.{HasNone}
use Rattle.lean_decide.specs.declared.settling.Counted.{Counted}
use Rattle.lean_decide.specs.declared.settling.Counted.TheVariants.{Whole, Lean}
use Rattle.rml_houdini.specs.Assuming.{assumed_sentence}
use Rattle.rml_houdini.specs.Counts.{PassesFirst}
use Rattle.rml_houdini.specs.Rounds.{group_at, IsSafe, IsOpen}
use Rattle.rml_houdini.specs.declared.assumed.Assumed.{Assumed}
use Rattle.rml_houdini.specs.declared.trying.Tried.{Tried}
use Rattle.rml_houdini.specs.declared.trying.Tried.TheVariants as tried
use Rattle.rml_houdini.specs.declared.keeping.Turn.{Turn}
use Rattle.rml_houdini.specs.declared.keeping.Turn.TheVariants as turn
use Rattle.lean_decide.specs.declared.settling.Settled.{Settled}
use Rattle.lean_decide.specs.declared.settling.Settled.TheVariants as settled
use Rattle.rml_houdini.specs.declared.known.Kept.{Kept}
use Rattle.obligation_decide.specs.GoalDecisions.{IsFailing}
use Rattle.obligation_decide.specs.GoalPassing.{PassesFirst as WholePassesFirst}

-- the goals have no counterexample where these conjectures hold before their stage
abbrev pub Suffice : ModelTree → List ℕ → List Goal → Type 0
Suffice m ks goals = AllByRecursion (HasNone m (conjectures_of m ks)) goals

-- more is assumed than before, but only what is held
abbrev pub Grows : List ℕ → List ℕ → List ℕ → Type 0
Grows held old new = IsWithin old new × (IsWithin old held → IsWithin new held)

-- the lean form of the sentence with this assumed passes this limit first, or none
abbrev pub AssumedPasses : Ceilings → ModelTree → Goal → Assumed → Option Passed → Type 0
AssumedPasses limits m goal a p =
    Passes limits (lean_signature (answered m goal) (assumed_sentence m a goal))
    (lean_sentence (answered m goal) (assumed_sentence m a goal)) p

-- What a try with this assumed ends with: the goal holds; or this is a structure of the model, and the axioms are not
-- assumed; or this is a counterexample where these conjectures hold; or a limit is passed.
abbrev pub IsTried : Ceilings → ModelTree → Goal → Assumed → Tried → Type 0
IsTried limits m goal a tried.Holds =
    AssumedPasses limits m goal a None × HasNone m (conjectures_of m a.held.items) goal
IsTried limits m goal a (tried.Met s) = (a.lawful ≡ false) × FitsStructure (symbols m.signature) s
IsTried limits m goal a (tried.Breaks shown) =
    AssumedPasses limits m goal a None × IsFailing limits m (conjectures_of m a.held.items) goal shown
IsTried limits m goal a (tried.Over passed) =
    IsOver limits (lean_signature (answered m goal) (assumed_sentence m a goal))
    (lean_sentence (answered m goal) (assumed_sentence m a goal)) passed
IsTried limits m goal a tried.ManyConstants = Unit {0}

-- what a turn ends with: the goal holds by what is assumed, or fails where these are held
abbrev pub IsTurn : Ceilings → ModelTree → List ℕ → Goal → Assumed → Turn → Type 0
IsTurn limits m held goal a turn.Holds = HasNone m (conjectures_of m a.held.items) goal
IsTurn limits m held goal a (turn.Fails shown) = IsFailing limits m (conjectures_of m held) goal shown
IsTurn limits m held goal a turn.Again = Unit {0}
IsTurn limits m held goal a turn.Open = Unit {0}

-- before the stage these conjectures are true; before init nothing is asked of them
abbrev pub AreHeldBefore : ModelTree → Stage → List ℕ → Tables → Type 0
AreHeldBefore m stage.Init held s = Unit {0}
AreHeldBefore m (stage.Action a) held s = satisfies s (conjectures_of m held) ≡ true
AreHeldBefore m stage.Final held s = satisfies s (conjectures_of m held) ≡ true

-- what is answered of a goal where these conjectures are held, and by which it holds
abbrev pub IsSettledBy : Counted → Ceilings → ModelTree → List ℕ → Goal → Assumed → Settled → Type 0
IsSettledBy counted limits m held goal a settled.Holds =
    IsSafe counted limits m held goal × HasNone m (conjectures_of m a.held.items) goal
IsSettledBy counted limits m held goal a (settled.Fails shown) =
    PassesFirst counted limits m held goal None × IsFailing limits m (conjectures_of m held) goal shown
IsSettledBy counted limits m held goal a (settled.Undecided c) = IsOpen counted limits m held goal c

-- The goals about a conjecture behind a stage pass no limit where these are held, and these of them suffice.
pub record IsKept (limits : Ceilings) (m : ModelTree) (held : List ℕ) (st : Stage) (k : ℕ) (ks : List ℕ) : Type 0 where
  pub within : AllByRecursion (λ g. WholePassesFirst limits m (conjectures_of m held) g None)
      (group_goals m (group_at st k))
  pub suffice : Suffice m ks (group_goals m (group_at st k))

-- so it is of what is remembered in one place, if anything is
abbrev pub IsKeptAt : Ceilings → ModelTree → List ℕ → Option Kept → Type 0
IsKeptAt limits m held None = Unit {0}
IsKeptAt limits m held (Some kept) = IsKept limits m held kept.stage kept.conjecture kept.by.held.items

-- so it is of each group that is remembered, where whole refuting sentences are counted
abbrev pub AreKept : Counted → Ceilings → ModelTree → List ℕ → List (Option Kept) → Type 0
AreKept Whole limits m held groups = AllByRecursion (IsKeptAt limits m held) groups
AreKept Lean limits m held groups = Unit {0}

-- where one conjecture less is held too
abbrev pub KeptStaysKept : Type 0
KeptStaysKept = (counted : Counted) (limits : Ceilings) (m : ModelTree) (held : List ℕ) (c : ℕ)
    (groups : List (Option Kept)) → IsChecked m → AreKept counted limits m held groups
    → AreKept counted limits m (filter (λ k. not (c == k)) held) groups

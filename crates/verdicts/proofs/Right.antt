-- Each line of a report that is made of right answers is right.
use Rattle.std.proofs.Common.{◌≡◌, ◌<◌, ◌+◌, ℕ, zero, suc, Bool, true, false, if◌then◌else◌, List, [], ◌∷◌}
use Rattle.std.proofs.Common.{length, map, Option, Some, None, inl, inr, refl, sym, ap, ◌∙◌, subst, arith}
use Rattle.std.specs.Prelude.{slice_get}
use Rattle.std.specs.List.{AllByRecursion, flat_map}
use Rattle.base.specs.Lists.{SomeOf}
use Rattle.base.proofs.Lists.{some_left, some_right}
use Rattle.rml_command.specs.Trees.{PrimitiveTree}
use Rattle.rml_command.specs.Models.{ModelTree}
use Rattle.rml_command.specs.Laws.{GoalsAreListed}
use Rattle.rml_command.specs.Goals.{stage_paths, groups_of, group_goals, goals_among, is_for, IsGoal, IsCounterexample}
use Rattle.rml_command.specs.Goals.{HasNone}
use Rattle.rml_command.specs.declared.goal.Head.{Head}
use Rattle.rml_command.specs.declared.goal.Goal.{Goal}
use Rattle.rml_exec.specs.declared.trace.Counterexample.{Counterexample}
use Rattle.limits.specs.declared.cause.Cause.{Cause}
use Rattle.rml_report.specs.declared.least.Least.{Least}
use Rattle.rml_report.specs.declared.report.Axioms.{Axioms}
use Rattle.rml_report.specs.declared.report.Axioms.TheVariants as axioms
use Rattle.rml_report.specs.declared.report.Answer.{Answer}
use Rattle.rml_report.specs.declared.report.Answer.TheVariants as answer
use Rattle.rml_report.specs.declared.report.Group.{Group}
use Rattle.rml_report.specs.Reports.{head_of, goal_at, IsShown, IsLeftOpen, IsAnswer, IsRight, AxiomsAre}
use Rattle.limits.specs.Ceilings.{Ceilings}
use Rattle.obligation_decide.specs.GoalDecisions.{AreAxiomsDecided, IsFailing}
use Rattle.lean_decide.specs.declared.settling.Counted.{Counted}
use Rattle.verdicts.specs.Answers.{
  Failure,
  GoalAnswer,
  safe,
  failing,
  left_open,
  AreAnswers,
  first_failing,
  open_or_holds,
}
use Rattle.cti_minimise.specs.Minimal.{IsLeast}
use Rattle.verdicts.specs.Answers.{fails_or, IsGroupAnswer, IsGroupNow}
use Rattle.verdicts.specs.Laws.{ReportsAreRight, IsLeastAsSaid, ShownAreLeast}

some_flat : {A B : Type 0} (f : A → List B) (y : B) (x : A) (xs : List A) → SomeOf (λ z. z ≡ x) xs
    → SomeOf (λ z. z ≡ y) (f x) → SomeOf (λ z. z ≡ y) (flat_map f xs)
some_flat f y x [] here there = absurd here
some_flat f y x (z ∷ xs) here there = elim here [
  | inl e ↦ some_left (λ w. w ≡ y) (f z) (flat_map f xs) (subst (λ w. SomeOf (λ v. v ≡ y) (f w)) (sym e) there)
  | inr more ↦ some_right (λ w. w ≡ y) (f z) (flat_map f xs) (some_flat f y x xs more there)
]

module _ (counted : Counted) (limits : Ceilings) (m : ModelTree) (group : Head) where
  -- each goal of the group is the one at its path
  are_at : (k : ℕ) (ps : List (List PrimitiveTree))
      → AllByRecursion (λ g. g ≡ goal_at group g.path) (goals_among group k ps)
  are_at k [] = tt
  are_at k (q ∷ ps) = by (is_for group.about q) (are_at (suc k) ps)
    where
      by : (b : Bool) → AllByRecursion (λ g. g ≡ goal_at group g.path) (goals_among group (suc k) ps)
          → AllByRecursion (λ g. g ≡ goal_at group g.path)
          (if b then goal_at group k ∷ goals_among group (suc k) ps else goals_among group (suc k) ps)
      by true rest = (refl, rest)
      by false rest = rest

  -- where no goal fails and none is left open, none has a counterexample
  all_safe : (gs : List Goal) (answers : List GoalAnswer) → AreAnswers counted limits m gs answers
      → first_failing answers ≡ None → open_or_holds gs answers ≡ answer.Holds
      → AllByRecursion (HasNone m m.conjectures) gs
  all_safe [] answers right e f = tt
  all_safe (g ∷ gs) [] right e f = absurd right
  all_safe (g ∷ gs) (safe ∷ more) right e f = (right.0.1, all_safe gs more right.1 e f)
  all_safe (g ∷ gs) (failing shown ∷ more) right e f = absurd (cc e)
  all_safe (g ∷ gs) (left_open c ∷ more) right e f = absurd (cc f)

  -- the goal that fails
  record Failed (gs : List Goal) (failure : Failure) : Type 0 where
    pub goal : Goal
    pub among : SomeOf (λ x. x ≡ goal) gs
    pub at : goal ≡ goal_at group goal.path
    pub fails : IsFailing limits m m.conjectures goal failure.shown
    pub least : IsLeast limits m goal failure.shown.structure failure.least

  failed : (gs : List Goal) (answers : List GoalAnswer) (shown : Failure)
      → AllByRecursion (λ g. g ≡ goal_at group g.path) gs → AreAnswers counted limits m gs answers
      → first_failing answers ≡ Some shown → Failed gs shown
  failed [] [] shown at right e = absurd (cc e)
  failed [] (a ∷ more) shown at right e = absurd right
  failed (g ∷ gs) [] shown at right e = absurd right
  failed (g ∷ gs) (safe ∷ more) shown at right e = behind (failed gs more shown at.1 right.1 e)
    where
      behind : Failed gs shown → Failed (g ∷ gs) shown
      behind f = record { goal = f.goal; among = inr f.among; at = f.at; fails = f.fails; least = f.least }
  failed (g ∷ gs) (failing seen ∷ more) shown at right e =
      let same : seen ≡ shown = cc e in
      record {
        goal = g;
        among = inl refl;
        at = at.0;
        fails = subst (λ (x : Failure). IsFailing limits m m.conjectures g x.shown) same right.0.1;
        least = subst (λ (x : Failure). IsLeast limits m g x.shown.structure x.least) same right.0.2;
      }
  failed (g ∷ gs) (left_open c ∷ more) shown at right e = behind (failed gs more shown at.1 right.1 e)
    where
      behind : Failed gs shown → Failed (g ∷ gs) shown
      behind f = record { goal = f.goal; among = inr f.among; at = f.at; fails = f.fails; least = f.least }

  is_shown : (gs : List Goal) (failure : Failure) → ((g : Goal) → SomeOf (λ x. x ≡ g) gs → IsGoal m g)
      → Failed gs failure → IsShown m group failure.shown
  is_shown gs failure are f = let shown = failure.shown in record {
    goal = f.fails.same ∙ f.at ∙ ap (goal_at group) (sym f.fails.path);
    refutation = record {
      goal = subst (λ (x : Goal). IsGoal m x) (sym f.fails.same) (are f.goal f.among);
      refutes = subst (λ (x : Goal). IsCounterexample m m.conjectures x shown.structure shown.trace.havoc shown.values)
          (sym f.fails.same) f.fails.refutes;
    };
  }

  never_fails : (gs : List Goal) (answers : List GoalAnswer) (paths : ℕ) (l : Least) (shown : Counterexample)
      → open_or_holds gs answers ≡ answer.Fails paths l shown → ⊥
  never_fails [] answers paths l shown e = cc e
  never_fails (g ∷ gs) [] paths l shown e = cc e
  never_fails (g ∷ gs) (safe ∷ more) paths l shown e = never_fails gs more paths l shown e
  never_fails (g ∷ gs) (failing seen ∷ more) paths l shown e = cc e
  never_fails (g ∷ gs) (left_open c ∷ more) paths l shown e = cc e

  -- the goal that is left open
  open_among : (gs : List Goal) (answers : List GoalAnswer) (path : ℕ) (c : Cause)
      → AllByRecursion (λ g. g ≡ goal_at group g.path) gs
      → open_or_holds gs answers ≡ answer.Undecided path c → SomeOf (λ x. x ≡ goal_at group path) gs
  open_among [] answers path c at e = absurd (cc e)
  open_among (g ∷ gs) [] path c at e = absurd (cc e)
  open_among (g ∷ gs) (safe ∷ more) path c at e = inr (open_among gs more path c at.1 e)
  open_among (g ∷ gs) (failing shown ∷ more) path c at e = absurd (cc e)
  open_among (g ∷ gs) (left_open d ∷ more) path c at e = let same : g.path ≡ path = cc e in
      inl (at.0 ∙ ap (goal_at group) same)

  -- no goal before it has a counterexample
  earlier : (k : ℕ) (ps : List (List PrimitiveTree)) (answers : List GoalAnswer) (path : ℕ) (c : Cause)
      → AreAnswers counted limits m (goals_among group k ps) answers
      → first_failing answers ≡ None → open_or_holds (goals_among group k ps) answers ≡ answer.Undecided path c
      → (j : ℕ) (p : List PrimitiveTree) → slice_get ps j ≡ Some p → is_for group.about p ≡ true → k + j < path
      → HasNone m m.conjectures (goal_at group (k + j))
  earlier k [] answers path c right e f j p here is below = absurd (cc here)
  earlier k (q ∷ ps) answers path c right e f j p here is below =
      by (is_for group.about q) refl answers right e f j here below (λ more. earlier (suc k) ps more path c)
    where
      Behind : List GoalAnswer → Type 0
      Behind more = AreAnswers counted limits m (goals_among group (suc k) ps) more → first_failing more ≡ None
          → open_or_holds (goals_among group (suc k) ps) more ≡ answer.Undecided path c
          → (i : ℕ) (r : List PrimitiveTree) → slice_get ps i ≡ Some r → is_for group.about r ≡ true → suc k + i < path
          → HasNone m m.conjectures (goal_at group (suc k + i))

      shifted : (i : ℕ) → HasNone m m.conjectures (goal_at group (suc k + i)) → HasNone m m.conjectures (goal_at group (k + suc i))
      shifted i none = let next : suc k + i ≡ k + suc i = omega arith in
          subst (λ n. HasNone m m.conjectures (goal_at group n)) next none

      by : (b : Bool) → is_for group.about q ≡ b → (answers : List GoalAnswer)
          → AreAnswers counted limits m (if b then goal_at group k ∷ goals_among group (suc k) ps else goals_among group
          (suc k) ps) answers
          → first_failing answers ≡ None
          → open_or_holds (if b then goal_at group k ∷ goals_among group (suc k) ps else goals_among group (suc k) ps)
          answers ≡ answer.Undecided path c
          → (j : ℕ) → slice_get (q ∷ ps) j ≡ Some p → k + j < path → ((more : List GoalAnswer) → Behind more)
          → HasNone m m.conjectures (goal_at group (k + j))
      by false t answers right e f zero here below later = absurd (cc)
      by false t answers right e f (suc i) here below later = let lt : suc k + i < path = omega (arith, below) in
          shifted i (later answers right e f i p here is lt)
      by true t [] right e f j here below later = absurd right
      by true t (safe ∷ more) right e f zero here below later = let first : k ≡ k + 0 = omega arith in
          subst (λ n. HasNone m m.conjectures (goal_at group n)) first right.0.1
      by true t (safe ∷ more) right e f (suc i) here below later = let lt : suc k + i < path = omega (arith, below) in
          shifted i (later more right.1 e f i p here is lt)
      by true t (failing shown ∷ more) right e f j here below later = absurd (cc e)
      by true t (left_open d ∷ more) right e f j here below later = let same : k ≡ path = cc f in
          absurd (omega (arith, same, below))

  module _ (listed : GoalsAreListed) (among : SomeOf (λ x. x ≡ group) (groups_of m)) where
    are_goals : (g : Goal) → SomeOf (λ x. x ≡ g) (group_goals m group) → IsGoal m g
    are_goals g here = (listed m g).0 (some_flat (group_goals m) g group (groups_of m) among here)

    left : (answers : List GoalAnswer) (path : ℕ) (c : Cause)
        → AreAnswers counted limits m (group_goals m group) answers
        → first_failing answers ≡ None
        → open_or_holds (group_goals m group) answers ≡ answer.Undecided path c → IsLeftOpen m group path
    left answers path c right e f = record {
      is_goal = are_goals (goal_at group path) (open_among (group_goals m group) answers path c
          (are_at 1 (stage_paths m group.stage)) f);
      earlier = none;
    }
      where
        none : (n : ℕ) → n < path → IsGoal m (goal_at group n) → HasNone m m.conjectures (goal_at group n)
        none zero below h = absurd (cc h.is_path)
        none (suc j) below h =
            let next : 1 + j ≡ suc j = omega arith in
            let lt : 1 + j < path = omega (arith, below) in
            subst (λ n. HasNone m m.conjectures (goal_at group n)) next
            (earlier 1 (stage_paths m group.stage) answers path c right e f j h.path h.is_path h.kind lt)

    settled : (answers : List GoalAnswer) → AreAnswers counted limits m (group_goals m group) answers
        → (o : Option Failure) → first_failing answers ≡ o
        → (b : Answer) → open_or_holds (group_goals m group) answers ≡ b
        → IsAnswer m group (fails_or (length (stage_paths m group.stage)) o b)
    settled answers right (Some shown) e b f = (
      is_shown (group_goals m group) shown are_goals
          (failed (group_goals m group) answers shown (are_at 1 (stage_paths m group.stage)) right e),
      refl,
    )
    settled answers right None e answer.Holds f = all_safe (group_goals m group) answers right e f
    settled answers right None e (answer.Fails paths l shown) f =
        absurd (never_fails (group_goals m group) answers paths l shown f)
    settled answers right None e (answer.Undecided path c) f = left answers path c right e f

    answer_right : (a : Answer) → IsGroupAnswer counted limits m group a → IsAnswer m group a
    answer_right a h =
        subst (λ (b : Answer). IsAnswer m group b) (sym h.is)
        (settled h.answers h.right (first_failing h.answers) refl (open_or_holds (group_goals m group) h.answers) refl)

-- the sizes of what is shown are least, or the search for smaller ones stopped
module _ (counted : Counted) (limits : Ceilings) (m : ModelTree) (group : Head) where
  least-settled : (gs : List Goal) (paths : ℕ) (answers : List GoalAnswer)
      → AllByRecursion (λ g. g ≡ goal_at group g.path) gs → AreAnswers counted limits m gs answers
      → (o : Option Failure) → first_failing answers ≡ o → (b : Answer) → open_or_holds gs answers ≡ b
      → IsLeastAsSaid limits m (fails_or paths o b)
  least-settled gs paths answers at right (Some failure) e b f =
      let it = failed counted limits m group gs answers failure at right e in
      subst (λ (x : Goal). IsLeast limits m x failure.shown.structure failure.least) (sym it.fails.same) it.least
  least-settled gs paths answers at right None e answer.Holds f = tt
  least-settled gs paths answers at right None e (answer.Fails some l shown) f =
      absurd (never_fails counted limits m group gs answers some l shown f)
  least-settled gs paths answers at right None e (answer.Undecided path c) f = tt

  answer_least : (a : Answer) → IsGroupAnswer counted limits m group a → IsLeastAsSaid limits m a
  answer_least a h =
      subst (λ (b : Answer). IsLeastAsSaid limits m b) (sym h.is)
      (least-settled (group_goals m group) (length (stage_paths m group.stage)) h.answers
      (are_at counted limits m group 1 (stage_paths m group.stage)) h.right (first_failing h.answers) refl
      (open_or_holds (group_goals m group) h.answers) refl)

each_least : (counted : Counted) (limits : Ceilings) (m : ModelTree) (gs : List Group)
    → AllByRecursion (IsGroupNow counted limits m) gs
    → AllByRecursion (λ g. IsLeastAsSaid limits m g.answer) gs
each_least counted limits m [] h = tt
each_least counted limits m (g ∷ gs) h
    = (answer_least counted limits m (head_of g) g.answer h.0, each_least counted limits m gs h.1)

pub shown_are_least : ShownAreLeast
shown_are_least counted limits m r h = each_least counted limits m r.groups h.answers

each_right : (counted : Counted) (limits : Ceilings) (m : ModelTree) → GoalsAreListed → (gs : List Group)
    → ((h : Head) → SomeOf (λ x. x ≡ h) (map head_of gs) → SomeOf (λ x. x ≡ h) (groups_of m))
    → AllByRecursion (IsGroupNow counted limits m) gs → AllByRecursion (IsRight m) gs
each_right counted limits m listed [] among h = tt
each_right counted limits m listed (g ∷ gs) among h = (
  answer_right counted limits m (head_of g) listed (among (head_of g) (inl refl)) g.answer h.0,
  each_right counted limits m listed gs
      (λ x is. among x (inr is)) h.1,
)

axioms_right : (limits : Ceilings) (m : ModelTree) (a : Axioms) → AreAxiomsDecided limits m a → AxiomsAre m a
axioms_right limits m axioms.Consistent h = h.1
axioms_right limits m axioms.Inconsistent h = h.1
axioms_right limits m (axioms.Undecided c) h = tt

pub reports_are_right : GoalsAreListed → ReportsAreRight
reports_are_right listed counted limits m r h = record {
  groups = h.groups;
  right = each_right counted limits m listed r.groups (λ x is. subst
      (λ (hs : List Head). SomeOf (λ y. y ≡ x) hs) h.groups is) h.answers;
  verdict = h.verdict;
  axioms = axioms_right limits m r.axioms h.axioms;
}

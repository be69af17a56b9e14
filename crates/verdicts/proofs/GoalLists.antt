-- The goals of a group, path by path.
use Rattle.std.proofs.Common.{◌≡◌, ◌+◌, ◌≤◌, ℕ, zero, suc, Bool, true, false, if◌then◌else◌, cond, List, [], ◌∷◌, ◌++◌}
use Rattle.std.proofs.Common.{length, drop, Some, refl, sym, ap, ◌∙◌, subst, append_assoc, arith}
use Rattle.std.proofs.lemmas.List.{drop_all, append-nil}
use Rattle.std.specs.Prelude.{slice_get}
use Rattle.std.specs.List.{AllByRecursion}
use Rattle.rml_command.specs.Trees.{PrimitiveTree}
use Rattle.base.specs.Lists.{numbered}
use Rattle.rml_command.specs.Models.{ModelTree}
use Rattle.rml_command.specs.Goals.{goals_among, group_goals, stage_paths, is_for, HasAbout, IsGoal}
use Rattle.rml_command.specs.declared.goal.Head.{Head}
use Rattle.rml_command.specs.declared.goal.Goal.{Goal}
use Rattle.rml_report.specs.Reports.{goal_at}

dropped : (ps : List (List PrimitiveTree)) (i : ℕ) (p : List PrimitiveTree) → slice_get ps i ≡ Some p
    → drop i ps ≡ p ∷ drop (i + 1) ps
dropped [] i p e = absurd (cc e)
dropped (x ∷ ps) zero p e = let same : x ≡ p = cc e in ap (λ z. z ∷ ps) same
dropped (x ∷ ps) (suc i) p e = let next : suc (i + 1) ≡ suc i + 1 = omega arith in dropped ps i p e
    ∙ ap (λ n. p ∷ drop n (x ∷ ps)) next

-- the goals from a path on
turn : (group : Head) (ps : List (List PrimitiveTree)) (i : ℕ) (p : List PrimitiveTree) (b : Bool)
    → slice_get ps i ≡ Some p → is_for group.about p ≡ b
    → goals_among group (i + 1) (drop i ps) ≡ cond b
    (goal_at group (i + 1) ∷ goals_among group (i + 1 + 1) (drop (i + 1) ps))
    (goals_among group (i + 1 + 1) (drop (i + 1) ps))
turn group ps i p b at is =
    let rest = drop (i + 1) ps in
    let next : suc (i + 1) ≡ i + 1 + 1 = omega arith in
    ap (goals_among group (i + 1)) (dropped ps i p at)
    ∙ ap (λ b. cond b (goal_at group (i + 1) ∷ goals_among group (suc (i + 1)) rest)
    (goals_among group (suc (i + 1)) rest)) is
    ∙ ap (λ n. cond b (goal_at group (i + 1) ∷ goals_among group n rest) (goals_among group n rest)) next

-- a path is none of the goals
pub passed : (group : Head) (ps : List (List PrimitiveTree)) (i : ℕ) (p : List PrimitiveTree)
    (before whole : List Goal) → slice_get ps i ≡ Some p → is_for group.about p ≡ false
    → before ++ goals_among group (i + 1) (drop i ps) ≡ whole
    → before ++ goals_among group (i + 1 + 1) (drop (i + 1) ps) ≡ whole
passed group ps i p before whole at is h = sym (ap (λ gs. before ++ gs) (turn group ps i p false at is)) ∙ h

-- a path is the next of the goals
pub listed : (group : Head) (ps : List (List PrimitiveTree)) (i : ℕ) (p : List PrimitiveTree)
    (before new whole : List Goal) → slice_get ps i ≡ Some p → is_for group.about p ≡ true
    → new ≡ before ++ goal_at group (i + 1) ∷ []
    → before ++ goals_among group (i + 1) (drop i ps) ≡ whole
    → new ++ goals_among group (i + 1 + 1) (drop (i + 1) ps) ≡ whole
listed group ps i p before new whole at is e h =
    ap (λ gs. gs ++ goals_among group (i + 1 + 1) (drop (i + 1) ps)) e
    ∙ append_assoc before (goal_at group (i + 1) ∷ []) (goals_among group (i + 1 + 1) (drop (i + 1) ps))
    ∙ sym (ap (λ gs. before ++ gs) (turn group ps i p true at is)) ∙ h

-- no path is left
pub listed_all : (group : Head) (ps : List (List PrimitiveTree)) (i : ℕ) (goals whole : List Goal) → length ps ≤ i
    → goals ++ goals_among group (i + 1) (drop i ps) ≡ whole → goals ≡ whole
listed_all group ps i goals whole le h =
    let none : drop i ps ≡ [] = drop_all i ps le in
    sym (append-nil goals) ∙ sym (ap (λ qs. goals ++ goals_among group (i + 1) qs) none) ∙ h

-- each of the goals is a goal of the model
each_among : (m : ModelTree) (group : Head) → HasAbout m group.stage group.about
    → (k : ℕ) (ps : List (List PrimitiveTree))
    → ((j : ℕ) (p : List PrimitiveTree) → slice_get ps j ≡ Some p
    → numbered (stage_paths m group.stage) (k + j) ≡ Some p)
    → AllByRecursion (IsGoal m) (goals_among group k ps)
each_among m group about k [] at = tt
each_among m group about k (q ∷ ps) at = by (is_for group.about q) refl (each_among m group about (suc k) ps later)
  where
    later : (j : ℕ) (p : List PrimitiveTree) → slice_get ps j ≡ Some p
        → numbered (stage_paths m group.stage) (suc k + j) ≡ Some p
    later j p here = let next : k + suc j ≡ suc k + j = omega arith in
        subst (λ n. numbered (stage_paths m group.stage) n ≡ Some p) next (at (suc j) p here)

    by : (b : Bool) → is_for group.about q ≡ b → AllByRecursion (IsGoal m) (goals_among group (suc k) ps)
        → AllByRecursion (IsGoal m) (if b then goal_at group k ∷ goals_among group (suc k) ps else goals_among group
        (suc k) ps)
    by true is rest =
        let first : k + 0 ≡ k = omega arith in (
          record {
            path = q;
            is_path = subst (λ n. numbered (stage_paths m group.stage) n ≡ Some q) first (at 0 q refl);
            kind = is;
            about = about;
          },
          rest,
        )
    by false is rest = rest

pub each_goal : (m : ModelTree) (group : Head) → HasAbout m group.stage group.about
    → AllByRecursion (IsGoal m) (group_goals m group)
each_goal m group about = each_among m group about 1 (stage_paths m group.stage) at
  where
    at : (j : ℕ) (p : List PrimitiveTree) → slice_get (stage_paths m group.stage) j ≡ Some p
        → numbered (stage_paths m group.stage) (1 + j) ≡ Some p
    at j p here = let next : suc j ≡ 1 + j = omega arith in
        subst (λ n. numbered (stage_paths m group.stage) n ≡ Some p) next here

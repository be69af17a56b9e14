-- The goals of a group, path by path; the groups of a stage; the stages of a round.
use Rattle.std.proofs.Common.{◌≡◌, ◌+◌, ◌-◌, ◌<◌, ◌≤◌, ℕ, zero, suc, Bool, true, false, cond, List, [], ◌∷◌, ◌++◌}
use Rattle.std.proofs.Common.{length, drop, get_or, map, Some, sym, ap, ◌∙◌, subst, arith}
use Rattle.std.proofs.lemmas.List.{drop_all, drop_more}
use Rattle.std.specs.Prelude.{slice_get}
use Rattle.std.specs.List.{flat_map}
use Rattle.rml_command.specs.Trees.{PrimitiveTree}
use Rattle.base.specs.Lists.{count_from, numbered}
use Rattle.rml_command.specs.Models.{ModelTree}
use Rattle.rml_command.specs.Goals.{goals_among, stage_paths, is_for, HasAbout, IsGoal}
use Rattle.rml_command.specs.declared.goal.Head.{Head}
use Rattle.rml_command.specs.declared.goal.Stage.{Stage}
use Rattle.rml_command.specs.declared.goal.Stage.TheVariants as stage
use Rattle.rml_command.specs.declared.goal.About.TheVariants as about
use Rattle.rml_command.specs.declared.goal.Goal.{Goal}
use Rattle.rml_houdini.specs.Progress.{IsConjectureStage}

dropped : (ps : List (List PrimitiveTree)) (i : ℕ) (p : List PrimitiveTree) → slice_get ps i ≡ Some p
    → drop i ps ≡ p ∷ drop (i + 1) ps
dropped [] i p e = absurd (cc e)
dropped (x ∷ ps) zero p e = let same : x ≡ p = cc e in ap (λ z. z ∷ ps) same
dropped (x ∷ ps) (suc i) p e = let next : suc (i + 1) ≡ suc i + 1 = omega arith in dropped ps i p e
    ∙ ap (λ n. p ∷ drop n (x ∷ ps)) next

-- the goals from a path on
turn : (group : Head) (ps : List (List PrimitiveTree)) (i : ℕ) (p : List PrimitiveTree) (b : Bool)
    → slice_get ps i ≡ Some p → is_for group.about p ≡ b
    → goals_among group (i + 1) (drop i ps) ≡ cond b
    (record { stage = group.stage; path = i + 1; about = group.about }
    ∷ goals_among group (i + 1 + 1) (drop (i + 1) ps))
    (goals_among group (i + 1 + 1) (drop (i + 1) ps))
turn group ps i p b at is =
    let rest = drop (i + 1) ps in
    let first : Goal = record { stage = group.stage; path = i + 1; about = group.about } in
    let next : suc (i + 1) ≡ i + 1 + 1 = omega arith in
    ap (goals_among group (i + 1)) (dropped ps i p at)
    ∙ ap (λ b. cond b (first ∷ goals_among group (suc (i + 1)) rest) (goals_among group (suc (i + 1)) rest)) is
    ∙ ap (λ n. cond b (first ∷ goals_among group n rest) (goals_among group n rest)) next

-- a path of the other kind is no goal
pub passed : (group : Head) (ps : List (List PrimitiveTree)) (i : ℕ) (p : List PrimitiveTree)
    → slice_get ps i ≡ Some p → is_for group.about p ≡ false
    → goals_among group (i + 1) (drop i ps) ≡ goals_among group (i + 1 + 1) (drop (i + 1) ps)
passed group ps i p at is = turn group ps i p false at is

-- another is the next
pub listed : (group : Head) (ps : List (List PrimitiveTree)) (i : ℕ) (p : List PrimitiveTree)
    → slice_get ps i ≡ Some p → is_for group.about p ≡ true
    → goals_among group (i + 1) (drop i ps)
    ≡ record { stage = group.stage; path = i + 1; about = group.about }
    ∷ goals_among group (i + 1 + 1) (drop (i + 1) ps)
listed group ps i p at is = turn group ps i p true at is

-- no path is left
pub no_path : (group : Head) (ps : List (List PrimitiveTree)) (i : ℕ) → length ps ≤ i
    → goals_among group (i + 1) (drop i ps) ≡ []
no_path group ps i le = ap (goals_among group (i + 1)) (drop_all i ps le)

-- such a path is a goal of the model
pub is_goal : (m : ModelTree) (group : Head) (i : ℕ) (ps : List (List PrimitiveTree)) (p : List PrimitiveTree)
    → ps ≡ stage_paths m group.stage → slice_get ps i ≡ Some p → is_for group.about p ≡ true
    → HasAbout m group.stage group.about
    → IsGoal m (record { stage = group.stage; path = i + 1; about = group.about })
is_goal m group i ps p same at kind has =
    let next : suc i ≡ i + 1 = omega arith in
    let here : slice_get (stage_paths m group.stage) i ≡ Some p =
    subst (λ (qs : List (List PrimitiveTree)). slice_get qs i ≡ Some p) same at in
    record {
      path = p;
      is_path = subst (λ (n : ℕ). numbered (stage_paths m group.stage) n ≡ Some p) next here;
      kind = kind;
      about = has;
    }

pub has_about : (m : ModelTree) (st : Stage) (k : ℕ) → IsConjectureStage st → k < length m.conjectures
    → HasAbout m st (about.Conjecture k)
has_about m stage.Init k is lt = lt
has_about m (stage.Action a) k is lt = lt
has_about m stage.Final k is lt = absurd is

-- the next of the lists that f makes
pub next_of : {B : Type 0} (f : ℕ → List B) (ks : List ℕ) (i k : ℕ) → i < length ks → k ≡ get_or ks i 0
    → flat_map f (drop i ks) ≡ f k ++ flat_map f (drop (i + 1) ks)
next_of f ks i k lt is =
    ap (flat_map f) (drop_more ks i 0 lt) ∙ ap (λ n. f n ++ flat_map f (drop (i + 1) ks)) (sym is)

pub none_of : {B : Type 0} (f : ℕ → List B) (ks : List ℕ) (i : ℕ) → length ks ≤ i → flat_map f (drop i ks) ≡ []
none_of f ks i le = ap (flat_map f) (drop_all i ks le)

-- the stages of the actions from one on
abbrev pub actions_from : ℕ → ℕ → List Stage
actions_from a n = map (λ k. stage.Action k) (count_from a (n - a))

pub next_action : (a n : ℕ) → a < n → actions_from a n ≡ stage.Action a ∷ actions_from (a + 1) n
next_action a n lt =
    let e : n - a ≡ suc (n - (a + 1)) = omega arith in
    let f : suc a ≡ a + 1 = omega arith in
    ap (λ (i : ℕ). map (λ k. stage.Action k) (count_from a i)) e
    ∙ ap (λ (i : ℕ). stage.Action a ∷ map (λ k. stage.Action k) (count_from i (n - (a + 1)))) f

pub no_action : (a n : ℕ) → n ≤ a → actions_from a n ≡ []
no_action a n le =
    let e : n - a ≡ 0 = omega arith in ap (λ (i : ℕ). map (λ k. stage.Action k) (count_from a i)) e

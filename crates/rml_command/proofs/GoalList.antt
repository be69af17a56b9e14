-- The listed goals are the goals of the model.
use Rattle.std.proofs.Common.{◌≡◌, inl, inr, ℕ, zero, suc, ◌+◌, ◌<◌, Bool, true, false, cond, Some, List, [], ◌∷◌}
use Rattle.std.proofs.Common.{length, map, refl, sym, ap, ◌∙◌, subst, ⊎_elim, arith}
use Rattle.std.specs.Prelude.{slice_get}
use Rattle.std.specs.List.{AllByRecursion, flat_map}
use Rattle.std.proofs.lemmas.Bool.{cases_lt}
use Rattle.std.proofs.lemmas.Option.{slice_get_past}
use Rattle.base.proofs.Lists.{all_append}
use Rattle.rml_command.specs.Trees.{PrimitiveTree}
use Rattle.rml_command.specs.Models.{ModelTree}
use Rattle.rml_command.specs.Goals.{stage_groups, groups_of, paths_of_block, stage_paths, is_for, goals_among}
use Rattle.rml_command.specs.Goals.{group_goals, goals_of, HasAbout, IsGoal}
use Rattle.base.specs.Lists.{SomeOf, count_from, numbered}
use Rattle.rml_command.specs.Laws.{GoalsAreListed}
use Rattle.rml_command.specs.declared.goal.Head.{Head}
use Rattle.rml_command.specs.declared.goal.Stage.{Stage}
use Rattle.rml_command.specs.declared.goal.Stage.TheVariants as stage
use Rattle.rml_command.specs.declared.goal.About.{About}
use Rattle.rml_command.specs.declared.goal.About.TheVariants as about
use Rattle.rml_command.specs.declared.goal.Goal.{Goal}
use Rattle.rml_command.proofs.Some.{some_front, some_back, some_joined, some_split}

abbrev goal_at : Head → ℕ → Goal
goal_at group n = record { stage = group.stage; path = n; about = group.about }

record Among (group : Head) (n : ℕ) (ps : List (List PrimitiveTree)) (goal : Goal) : Type 0 where
  i : ℕ
  p : List PrimitiveTree
  at : slice_get ps i ≡ Some p
  kind : is_for group.about p ≡ true
  is : goal_at group (n + i) ≡ goal

up : (group : Head) (n : ℕ) (q : List PrimitiveTree) (ps : List (List PrimitiveTree)) (goal : Goal)
    → Among group (suc n) ps goal → Among group n (q ∷ ps) goal
up group n q ps goal r =
    let e : suc n + r.i ≡ n + suc r.i = omega arith in
    record { i = suc r.i; p = r.p; at = r.at; kind = r.kind; is = subst (λ (j : ℕ). goal_at group j ≡ goal) e r.is }

split : (group : Head) (n : ℕ) (q : List PrimitiveTree) (ps : List (List PrimitiveTree)) (goal : Goal) (b : Bool)
    → is_for group.about q ≡ b → (SomeOf (λ g. g ≡ goal) (goals_among group (suc n) ps) → Among group (suc n) ps goal)
    → SomeOf (λ g. g ≡ goal) (cond b (goal_at group n ∷ goals_among group (suc n) ps) (goals_among group (suc n) ps))
    → Among group n (q ∷ ps) goal
split group n q ps goal true e go (inl h) = let z : n ≡ n + 0 = omega arith in
    record { i = 0; p = q; at = refl; kind = e; is = subst (λ (j : ℕ). goal_at group j ≡ goal) z h }
split group n q ps goal true e go (inr h) = up group n q ps goal (go h)
split group n q ps goal false e go h = up group n q ps goal (go h)

among : (group : Head) (n : ℕ) (ps : List (List PrimitiveTree)) (goal : Goal)
    → SomeOf (λ g. g ≡ goal) (goals_among group n ps) → Among group n ps goal
among group n [] goal h = absurd h
among group n (q ∷ ps) goal h =
    split group n q ps goal (is_for group.about q) refl (λ t. among group (suc n) ps goal t) h

put : (group : Head) (n : ℕ) (ps : List (List PrimitiveTree)) (i j : ℕ) (p : List PrimitiveTree) (P : Goal → Type 0)
    → j ≡ n + i → slice_get ps i ≡ Some p → is_for group.about p ≡ true → P (goal_at group j)
    → SomeOf P (goals_among group n ps)
put group n [] i j p P e at kind h = absurd (cc at)
put group n (q ∷ ps) zero j p P e at kind h =
    let same : p ≡ q = cc at in
    let z : j ≡ n = omega arith in
    subst (λ b. SomeOf P (cond b (goal_at group n ∷ goals_among group (suc n) ps) (goals_among group (suc n) ps)))
    (sym (ap (is_for group.about) (sym same) ∙ kind)) (inl (subst (λ (k : ℕ). P (goal_at group k)) z h))
put group n (q ∷ ps) (suc i) j p P e at kind h =
    later (is_for group.about q) (put group (suc n) ps i j p P (omega arith) at kind h)
  where
    later : (b : Bool) → SomeOf P (goals_among group (suc n) ps)
        → SomeOf P (cond b (goal_at group n ∷ goals_among group (suc n) ps) (goals_among group (suc n) ps))
    later true t = inr t
    later false t = t

all_map : {X : Type 0} (P : X → Type 0) (f : ℕ → X) (from n : ℕ) → ((k : ℕ) → k < from + n → P (f k))
    → AllByRecursion P (map f (count_from from n))
all_map P f from zero each = tt
all_map P f from (suc n) each = (each from (omega arith), all_map P f (suc from) n (λ k lt. each k (omega arith)))

all_join : {X : Type 0} (P : X → Type 0) (F : ℕ → List X) (from n : ℕ)
    → ((k : ℕ) → k < from + n → AllByRecursion P (F k)) → AllByRecursion P (flat_map F (count_from from n))
all_join P F from zero each = tt
all_join P F from (suc n) each =
    all_append P (F from) _ (each from (omega arith)) (all_join P F (suc from) n (λ k lt. each k (omega arith)))

some_map : {X : Type 0} (P : X → Type 0) (f : ℕ → X) (from n k : ℕ) → k < n → P (f (from + k))
    → SomeOf P (map f (count_from from n))
some_map P f from zero k lt h = absurd (omega arith)
some_map P f from (suc n) zero lt h = let e : from + 0 ≡ from = omega arith in inl (subst (λ (i : ℕ). P (f i)) e h)
some_map P f from (suc n) (suc k) lt h = let e : from + suc k ≡ suc from + k = omega arith in
    inr (some_map P f (suc from) n k (omega arith) (subst (λ (i : ℕ). P (f i)) e h))

some_join : {X : Type 0} (P : X → Type 0) (F : ℕ → List X) (from n k : ℕ) → k < n → SomeOf P (F (from + k))
    → SomeOf P (flat_map F (count_from from n))
some_join P F from zero k lt h = absurd (omega arith)
some_join P F from (suc n) zero lt h = let e : from + 0 ≡ from = omega arith in
    some_front P (F from) _ (subst (λ (i : ℕ). SomeOf P (F i)) e h)
some_join P F from (suc n) (suc k) lt h = let e : from + suc k ≡ suc from + k = omega arith in
    some_back P (F from) _ (some_join P F (suc from) n k (omega arith) (subst (λ (i : ℕ). SomeOf P (F i)) e h))

both : {X : Type 0} (P Q : X → Type 0) (xs : List X) → AllByRecursion P xs → SomeOf Q xs → (x : X) × P x × Q x
both P Q [] all h = absurd h
both P Q (x ∷ xs) all (inl h) = (x, all.0, h)
both P Q (x ∷ xs) all (inr h) = both P Q xs all.1 h

module _ (m : ModelTree) where
  abbrev Sound : Head → Type 0
  Sound h = HasAbout m h.stage h.about

  pub groups_sound : AllByRecursion Sound (groups_of m)
  groups_sound =
      all_append Sound (stage_groups m stage.Init) _ (
        tt,
        all_map Sound (λ k. record { stage = stage.Init; about = about.Conjecture k }) 0 (length m.conjectures)
            (λ k lt. omega arith),
      )
      (all_append Sound (flat_map (λ a. stage_groups m (stage.Action a)) (count_from 0 (length m.actions))) _
      (all_join Sound (λ a. stage_groups m (stage.Action a)) 0 (length m.actions)
      (λ a lt. (
        tt,
        all_map Sound (λ k. record { stage = stage.Action a; about = about.Conjecture k }) 0
            (length m.conjectures) (λ k lk. omega arith),
      )))
      (tt, tt))

  in_stage : (P : Head → Type 0) (st : Stage) (k : ℕ) → k < length m.conjectures
      → P (record { stage = st; about = about.Conjecture k }) → SomeOf P (stage_groups m st)
  in_stage P st k lt h =
      inr (some_map P (λ k. record { stage = st; about = about.Conjecture k }) 0 (length m.conjectures) k lt
      (let e : k ≡ 0 + k = omega arith in
      subst (λ (i : ℕ). P (record { stage = st; about = about.Conjecture i })) e h))

  in_action : (P : Head → Type 0) (a : ℕ) → a < length m.actions → SomeOf P (stage_groups m (stage.Action a))
      → SomeOf P (groups_of m)
  in_action P a lt h =
      some_back P (stage_groups m stage.Init) _
      (some_front P (flat_map (λ a. stage_groups m (stage.Action a)) (count_from 0 (length m.actions))) _
      (some_join P (λ a. stage_groups m (stage.Action a)) 0 (length m.actions) a lt
      (let e : a ≡ 0 + a = omega arith in subst (λ (i : ℕ). SomeOf P (stage_groups m (stage.Action i))) e h)))

  no_paths : (n : ℕ) (p : List PrimitiveTree) → numbered {A = List PrimitiveTree} [] n ≡ Some p → ⊥
  no_paths zero p e = cc e
  no_paths (suc n) p e = cc e

  is_action : (a n : ℕ) (p : List PrimitiveTree) → numbered (paths_of_block (slice_get m.actions a)) n ≡ Some p
      → a < length m.actions
  is_action a n p e =
      ⊎_elim (λ lt. lt)
      (λ above. absurd
      (no_paths n p (sym (ap (λ b. numbered (paths_of_block b) n) (slice_get_past m.actions a above)) ∙ e)))
      (cases_lt a (length m.actions))

  in_groups : (P : Head → Type 0) (st : Stage) (ab : About) (n : ℕ) (p : List PrimitiveTree) → HasAbout m st ab
      → numbered (stage_paths m st) n ≡ Some p → P (record { stage = st; about = ab }) → SomeOf P (groups_of m)
  in_groups P stage.Init about.Abort n p has is h = some_front P (stage_groups m stage.Init) _ (inl h)
  in_groups P stage.Init (about.Conjecture k) n p has is h =
      some_front P (stage_groups m stage.Init) _ (in_stage P stage.Init k has h)
  in_groups P (stage.Action a) about.Abort n p has is h = in_action P a (is_action a n p is) (inl h)
  in_groups P (stage.Action a) (about.Conjecture k) n p has is h =
      in_action P a (is_action a n p is) (in_stage P (stage.Action a) k has h)
  in_groups P stage.Final about.Abort n p has is h =
      some_back P (stage_groups m stage.Init) _
      (some_back P (flat_map (λ a. stage_groups m (stage.Action a)) (count_from 0 (length m.actions))) _ (inl h))
  in_groups P stage.Final (about.Conjecture k) n p has is h = absurd has

  is_goal : (goal : Goal) → SomeOf (λ g. g ≡ goal) (goals_of m) → IsGoal m goal
  is_goal goal h =
      let w = both Sound (λ group. SomeOf (λ g. g ≡ goal) (group_goals m group)) (groups_of m) groups_sound
      (some_split (λ g. g ≡ goal) (group_goals m) (groups_of m) h) in
      let r = among w.0 1 (stage_paths m w.0.stage) goal w.2 in
      let e : 1 + r.i ≡ suc r.i = omega arith in
      subst (IsGoal m) (subst (λ (j : ℕ). goal_at w.0 j ≡ goal) e r.is)
      (record { path = r.p; is_path = r.at; kind = r.kind; about = w.1 })

  placed : (ps : List (List PrimitiveTree)) (n : ℕ) (p : List PrimitiveTree) (group : Head) (P : Goal → Type 0)
      → numbered ps n ≡ Some p → is_for group.about p ≡ true → P (goal_at group n) → SomeOf P (goals_among group 1 ps)
  placed ps zero p group P is kind h = absurd (cc is)
  placed ps (suc i) p group P is kind h = put group 1 ps i (suc i) p P (omega arith) is kind h

  is_listed : (goal : Goal) → IsGoal m goal → SomeOf (λ g. g ≡ goal) (goals_of m)
  is_listed goal g =
      some_joined (λ x. x ≡ goal) (group_goals m) (groups_of m)
      (in_groups (λ group. SomeOf (λ x. x ≡ goal) (group_goals m group)) goal.stage goal.about goal.path g.path g.about
      g.is_path
      (placed (stage_paths m goal.stage) goal.path g.path (record { stage = goal.stage; about = goal.about })
      (λ x. x ≡ goal) g.is_path g.kind refl))

pub goals_listed : GoalsAreListed
goals_listed m goal = (is_goal m goal, is_listed m goal)

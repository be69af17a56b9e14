-- Where no goal of some conjectures has a counterexample, they are inductive.
use Rattle.std.proofs.Common.{◌≡◌, ◌+◌, ◌<◌, inl, inr, ℕ, zero, suc, Bool, true, false, not, if◌then◌else◌}
use Rattle.std.proofs.Common.{List, [], ◌∷◌, length, map, Option, Some, None, refl, ap, ◌∙◌, subst, arith}
use Rattle.std.specs.Prelude.{slice_get}
use Rattle.std.specs.List.{AllByRecursion, flat_map}
use Rattle.std.proofs.lemmas.Bool.{and_from}
use Rattle.base.proofs.Lists.{all_front, all_back, at-below}
use Rattle.fol_sig.specs.Tables.{Tables}
use Rattle.fol_sig.specs.Symbols.{FitsStructure, symbols}
use Rattle.fol_formula.specs.Syntax.{FormTree}
use Rattle.rml_command.specs.Trees.{PrimitiveTree, CommandTree}
use Rattle.base.specs.Lists.{SomeOf, count_from, numbered}
use Rattle.rml_command.specs.Models.{ModelTree}
use Rattle.fol_formula.specs.Sentences.{is_true}
use Rattle.rml_command.specs.Outcomes.{ended, PathHasOutcome}
use Rattle.rml_command.specs.Paths.{has_abort}
use Rattle.rml_command.specs.Laws.{PathHasFollowedOutcomes, PathsKeepKind, FalsehoodHasValues}
use Rattle.rml_command.specs.Goals.{goals_among, group_goals, stage_paths, paths_of_block, is_for}
use Rattle.rml_command.specs.declared.goal.Head.{Head}
use Rattle.rml_command.specs.declared.goal.Stage.{Stage}
use Rattle.rml_command.specs.declared.goal.Stage.TheVariants as stage
use Rattle.rml_command.specs.declared.goal.About.TheVariants as about
use Rattle.rml_command.specs.declared.goal.Goal.{Goal}
use Rattle.rml_command.specs.InductiveSets.{conjectures_of, Has, IsInductive}
use Rattle.rml_command.specs.Goals.{is_allowed, IsCounterexample}
use Rattle.rml_command.specs.Goals.{HasNone}
use Rattle.rml_houdini.specs.Rounds.{conjecture_stages, group_at, stage_goals, goals_about}
use Rattle.rml_houdini.specs.Laws.{SettledIsInductive}
use Rattle.rml_houdini.proofs.Members.{to_count}

-- of each of the lists that f makes
all-joined : {A B : Type 0} (P : B → Type 0) (f : A → List B) (xs : List A) (x : A) → SomeOf (λ y. y ≡ x) xs
    → AllByRecursion P (flat_map f xs)
    → AllByRecursion P (f x)
all-joined P f [] x here h = absurd here
all-joined P f (y ∷ ys) x (inl is) h = subst (λ z. AllByRecursion P (f z)) is (all_front P (f y) (flat_map f ys) h)
all-joined P f (y ∷ ys) x (inr here) h = all-joined P f ys x here (all_back P (f y) (flat_map f ys) h)

-- of the goal at a path
at-path : (P : Goal → Type 0) (group : Head) (n : ℕ) (ps : List (List PrimitiveTree)) (j : ℕ) (p : List PrimitiveTree)
    → slice_get ps j ≡ Some p → is_for group.about p ≡ true → AllByRecursion P (goals_among group n ps)
    → P (record { stage = group.stage; path = n + j; about = group.about })
at-path P group n [] j p at is h = absurd (cc at)
at-path P group n (q ∷ ps) zero p at is h =
    let same : q ≡ p = cc at in
    let here : is_for group.about q ≡ true = ap (is_for group.about) same ∙ is in
    let first : n ≡ n + 0 = omega arith in
    let each = subst (λ (b : Bool). AllByRecursion P (if b
    then record { stage = group.stage; path = n; about = group.about } ∷ goals_among group (suc n) ps
    else goals_among group (suc n) ps)) here h in
    subst (λ (k : ℕ). P (record { stage = group.stage; path = k; about = group.about })) first each.0
at-path P group n (q ∷ ps) (suc j) p at is h =
    let next : suc n + j ≡ n + suc j = omega arith in
    subst (λ (k : ℕ). P (record { stage = group.stage; path = k; about = group.about })) next
    (at-path P group (suc n) ps j p at is (rest (is_for group.about q) h))
  where
    rest : (b : Bool)
        → AllByRecursion P (if b
        then record { stage = group.stage; path = n; about = group.about } ∷ goals_among group (suc n) ps
        else goals_among group (suc n) ps)
        → AllByRecursion P (goals_among group (suc n) ps)
    rest true h = h.1
    rest false h = h

mapped : {A B : Type 0} (f : A → B) (xs : List A) (x : A) → SomeOf (λ y. y ≡ x) xs → SomeOf (λ y. y ≡ f x) (map f xs)
mapped f [] x h = absurd h
mapped f (y ∷ ys) x (inl is) = inl (ap f is)
mapped f (y ∷ ys) x (inr h) = inr (mapped f ys x h)

-- an action with a path is one of the model
is-action : (m : ModelTree) (a number : ℕ) (p : List PrimitiveTree)
    → numbered (stage_paths m (stage.Action a)) number ≡ Some p
    → SomeOf (λ s. s ≡ stage.Action a) (conjecture_stages m)
is-action m a number p at = go (slice_get m.actions a) refl at
  where
    none : (n : ℕ) → numbered {A = List PrimitiveTree} [] n ≡ Some p → ⊥
    none zero e = cc e
    none (suc n) e = cc e

    go : (block : Option CommandTree) → slice_get m.actions a ≡ block → numbered (paths_of_block block) number ≡ Some p
        → SomeOf (λ s. s ≡ stage.Action a) (conjecture_stages m)
    go None e h = absurd (none number h)
    go (Some block) e h =
        let lt = at-below m.actions a block e in
        let within : a < 0 + length m.actions = omega (arith, lt) in
        inr (mapped (λ k. stage.Action k) (count_from 0 (length m.actions)) a
        (to_count 0 (length m.actions) a (omega arith) within))

module _ (followed : PathHasFollowedOutcomes) (kind : PathsKeepKind) (values : FalsehoodHasValues) (m : ModelTree)
    (held : List ℕ) (settled : AllByRecursion (HasNone m (conjectures_of m held)) (goals_about m held)) where
  -- the goal of a held conjecture at a path of a stage
  none-at : (st : Stage) (k number : ℕ) (p : List PrimitiveTree) → SomeOf (λ s. s ≡ st) (conjecture_stages m)
      → Has held k → numbered (stage_paths m st) number ≡ Some p → has_abort p ≡ false
      → HasNone m (conjectures_of m held) (record { stage = st; path = number; about = about.Conjecture k })
  none-at st k zero p here has at ends = absurd (cc at)
  none-at st k (suc j) p here has at ends =
      let P = HasNone m (conjectures_of m held) in
      let stage_none = all-joined P (λ s. stage_goals m held s) (conjecture_stages m) st here settled in
      let group_none = all-joined P (λ n. group_goals m (group_at st n)) held k has stage_none in
      let next : 1 + j ≡ suc j = omega arith in
      subst (λ (n : ℕ). HasNone m (conjectures_of m held) (record {
        stage = st;
        path = n;
        about = about.Conjecture k;
      }))
      next (at-path P (group_at st k) 1 (stage_paths m st) j p at (ap not ends) group_none)

  keeps : (st : Stage) (k : ℕ) (c : FormTree) (number : ℕ) (p : List PrimitiveTree) (s new : Tables)
      → SomeOf (λ x. x ≡ st) (conjecture_stages m) → Has held k → slice_get m.conjectures k ≡ Some c
      → numbered (stage_paths m st) number ≡ Some p
      → FitsStructure (symbols m.signature) s → is_allowed m (conjectures_of m held) st s ≡ true
      → PathHasOutcome m.axioms p s (ended new) → is_true new c ≡ true
  keeps st k c number p s new here has at is_path fits allowed outcome = go (is_true new c) refl
    where
      go : (b : Bool) → is_true new c ≡ b → b ≡ true
      go true e = refl
      go false e =
          let path = (followed m.axioms p s (ended new)).0 outcome in
          let vs = (values new c).0 e in
          let ce : IsCounterexample m (conjectures_of m held)
          (record { stage = st; path = number; about = about.Conjecture k }) s path.havocs vs.0 = record {
            path = p;
            is_path = is_path;
            structure = fits;
            allowed = allowed;
            count = path.count;
            fails = (c, new, at, path.ends, vs.1);
          } in
          absurd (none-at st k number p here has is_path (kind.ends m.axioms p s new outcome) s path.havocs vs.0 ce)

  pub inductive : ((k : ℕ) → Has held k → k < length m.conjectures) → IsInductive m held
  inductive numbers = record {
    conjectures = numbers;
    init = λ k c has at number p s new is_path fits lawful holds outcome.
        keeps stage.Init k c number p s new (inl refl) has at is_path fits lawful outcome;
    actions = λ k c a has at number p s new is_path fits lawful holds outcome.
        keeps (stage.Action a) k c number p s new (is-action m a number p is_path) has at is_path fits
        (and_from _ _ lawful holds) outcome;
  }

pub settled_is_inductive : PathHasFollowedOutcomes → PathsKeepKind → FalsehoodHasValues → SettledIsInductive
settled_is_inductive followed kind values m held numbers settled =
    inductive followed kind values m held settled numbers

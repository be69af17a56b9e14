-- What some conjectures carry holds where all are held.
use Rattle.std.proofs.Common.{◌≡◌, ℕ, zero, suc, true, List, [], ◌∷◌, refl}
use Rattle.std.specs.Prelude.{slice_index_or}
use Rattle.std.proofs.lemmas.Bool.{and_parts, and_from}
use Rattle.base.proofs.Lists.{all_more}
use Rattle.fol_sig.specs.Tables.{Tables}
use Rattle.fol_formula.specs.Syntax.{FormTree, top}
use Rattle.rml_command.specs.Models.{ModelTree}
use Rattle.fol_formula.specs.Sentences.{is_true, satisfies}
use Rattle.rml_command.specs.Goals.{group_goals, is_allowed, HasNone}
use Rattle.rml_command.specs.declared.goal.Stage.{Stage}
use Rattle.rml_command.specs.declared.goal.Stage.TheVariants as stage
use Rattle.rml_command.specs.InductiveSets.{conjectures_of}
use Rattle.lean_decide.specs.declared.settling.Counted.TheVariants.{Whole}
use Rattle.rml_houdini.specs.Rounds.{IsSafe}
use Rattle.rml_reasons.specs.Laws.{CarriedGroupsHold}

module _ (s : Tables) where
  one-true : (cs : List FormTree) (k : ℕ) → satisfies s cs ≡ true → is_true s (slice_index_or cs k top) ≡ true
  one-true [] zero h = refl
  one-true [] (suc k) h = refl
  one-true (c ∷ cs) zero h = (and_parts _ _ h).0
  one-true (c ∷ cs) (suc k) h = one-true cs k (and_parts _ _ h).1

  some-true : (m : ModelTree) (ks : List ℕ) → satisfies s m.conjectures ≡ true
      → satisfies s (conjectures_of m ks) ≡ true
  some-true m [] h = refl
  some-true m (k ∷ ks) h = and_from _ _ (one-true m.conjectures k h) (some-true m ks h)

  allowed : (m : ModelTree) (ks : List ℕ) (st : Stage) → is_allowed m m.conjectures st s ≡ true
      → is_allowed m (conjectures_of m ks) st s ≡ true
  allowed m ks stage.Init h = h
  allowed m ks (stage.Action a) h = let both = and_parts _ _ h in and_from _ _ both.0 (some-true m ks both.1)
  allowed m ks stage.Final h = let both = and_parts _ _ h in and_from _ _ both.0 (some-true m ks both.1)

pub carried_groups_hold : CarriedGroupsHold
carried_groups_hold limits m group ks reason =
    all_more (IsSafe Whole limits m ks) (HasNone m m.conjectures) (λ goal safe s havocs values h. safe.1 s havocs values (record {
      path = h.path;
      is_path = h.is_path;
      structure = h.structure;
      allowed = allowed s m ks goal.stage h.allowed;
      count = h.count;
      fails = h.fails;
    })) (group_goals m group) reason

-- What a structure over the answered signature says of a goal: its precondition and its refuting sentence.
use Rattle.std.proofs.Common.{◌≡◌, ℕ, suc, true, not, ◌&&◌, Option, Some, None, List, [], ◌∷◌}
use Rattle.std.proofs.Common.{length}
use Rattle.std.proofs.Common.{map, refl, sym, ap, ◌∙◌, subst}
use Rattle.std.specs.List.{AllByRecursion}
use Rattle.std.proofs.lemmas.List.{length-map}
use Rattle.base.proofs.Lists.{all_more}
use Rattle.fol_sig.specs.Tables.{Tables, IsSignature}
use Rattle.fol_sig.specs.Symbols.{Symbols, FitsStructure, symbols}
use Rattle.fol_sig.specs.Constants.{reduct}
use Rattle.fol_sig.specs.Growing.{GrowsByRelations}
use Rattle.fol_formula.specs.Syntax.{FormTree, negation}
use Rattle.fol_formula.specs.Fits.{FitsForm}
use Rattle.rml_command.specs.Trees.{PrimitiveTree, assume, set_rel, set_fun, havoc, havoc_rel, abort}
use Rattle.fol_formula.specs.Sentences.{is_true, satisfies, all_of}
use Rattle.rml_command.specs.Outcomes.{Outcome, ended, aborted, follow_path}
use Rattle.rml_command.specs.Paths.{has_abort, EndsAtAbort, havoc_count}
use Rattle.rml_command.specs.Models.{ModelTree, FitsModel, FitsPath, FitsSteps}
use Rattle.rml_command.specs.Goals.{goal_path, IsGoal, is_for, FailsGoal, is_allowed}
use Rattle.rml_command.specs.Fresh.{written, havocked, havocs_under, cut_outcome}
use Rattle.rml_command.specs.declared.havoc.Havoc.TheVariants.{Element}
use Rattle.rml_command.specs.declared.goal.Goal.{Goal}
use Rattle.rml_command.specs.declared.goal.Stage.{Stage}
use Rattle.rml_command.specs.declared.goal.Stage.TheVariants as stage
use Rattle.rml_command.specs.declared.goal.About.{About}
use Rattle.rml_command.specs.declared.goal.About.TheVariants as about
use Rattle.rml_wp.specs.declared.premises.Premises.TheVariants.{All, Affected}
use Rattle.rml_wp.specs.Preconditions.{target_of, path_or_none, answered, written_path, goal_precondition, refuting}
use Rattle.rml_wp.specs.Laws.{IsFine, IsCounterexampleUnder, GoalPreconditionIsExact}
use Rattle.rml_wp.specs.Laws.{RefutingIsExact, AffectedRefutingIsSame}
use Rattle.rml_wp.proofs.WithoutTables.{steps-fit}
use Rattle.rml_wp.proofs.Affected.{Spares, affected_suffice, starts_same}
use Rattle.rml_wp.proofs.StepTruth.{all_fit}
use Rattle.rml_wp.proofs.Exact.{never_both, true_from, fine, some_is_bad}
use Rattle.rml_wp.proofs.Exactly.{Follows, same_path, found, forbidden, parts, whole, negated, false_from, target-fits}
use Rattle.rml_wp.proofs.Exactly.{has_target}
use Rattle.rml_wp.proofs.Under.{steps-of, stops-of, under-count, elements-taken, end-fits, same-truth, fails-there}
use Rattle.rml_wp.proofs.Under.{fails-here}

written-abort : (sig : Symbols) (n : ℕ) (p : List PrimitiveTree) → has_abort (written sig n p) ≡ has_abort p
written-abort sig n [] = refl
written-abort sig n (assume p ∷ qs) = written-abort sig n qs
written-abort sig n (set_rel r by ∷ qs) = written-abort sig n qs
written-abort sig n (set_fun k by ∷ qs) = written-abort sig n qs
written-abort sig n (havoc v ∷ qs) = written-abort sig n qs
written-abort sig n (havoc_rel r ∷ qs) = written-abort sig (suc n) qs
written-abort sig n (abort ∷ qs) = refl

written-kind : (sig : Symbols) (n : ℕ) (a : About) (p : List PrimitiveTree) → is_for a p ≡ true
    → is_for a (written sig n p) ≡ true
written-kind sig n about.Abort p h = written-abort sig n p ∙ h
written-kind sig n (about.Conjecture k) p h = ap not (written-abort sig n p) ∙ h

cut-some : (sig : Symbols) (x : Option Outcome) (o : Outcome) → cut_outcome sig x ≡ Some o
    → (from : Outcome) × (x ≡ Some from) × (cut_outcome sig (Some from) ≡ Some o)
cut-some sig None o e = absurd (cc e)
cut-some sig (Some from) o e = (from, refl, e)

-- what is known of a goal of a model whose path has fresh relations
module _ (laws : Follows) (m : ModelTree) (goal : Goal) (f : FitsModel m) (ok : IsSignature m.signature)
    (g : IsGoal m goal) where
  abbrev small : Symbols
  small = symbols m.signature

  abbrev more : Symbols
  more = symbols (answered m goal)

  abbrev n : ℕ
  n = length m.signature.relations

  abbrev q : List PrimitiveTree
  q = path_or_none (goal_path m goal)

  abbrev p : List PrimitiveTree
  p = written_path m goal

  abbrev target : FormTree
  target = target_of m goal.about

  pub is_path : goal_path m goal ≡ Some q
  is_path = g.is_path ∙ ap (λ z. Some (path_or_none z)) (sym g.is_path)

  pub path : FitsPath small q
  path = laws.goals.symbols_fit m goal q f is_path

  pub grows : GrowsByRelations small (havocked small q) more
  grows = (laws.grow m.signature q ok path).grows

  pub steps : FitsSteps more p
  steps = steps-of small more n q (laws.written small more q grows path).fits

  pub stops : EndsAtAbort p
  stops = stops-of small n q (laws.stops.goals m goal q is_path)

  pub wide : (c : FormTree) → FitsForm small [] c → FitsForm more [] c
  wide c h = (laws.fitting small more grows.grows).formulas [] c h

  pub axioms-wide : AllByRecursion (FitsForm more []) m.axioms
  axioms-wide = all_more (FitsForm small []) (FitsForm more []) wide m.axioms f.axioms

  pub target-small : FitsForm small [] target
  target-small = target-fits m goal.about f (has_target m goal.stage goal.about g.about)

  pub target-wide : FitsForm more [] target
  target-wide = wide target target-small

  pub kind : is_for goal.about p ≡ true
  kind = written-kind small n goal.about q (ap (λ z. is_for goal.about (path_or_none z)) g.is_path ∙ g.kind)

  module _ (t : Tables) (fits : FitsStructure more t) where
    pub followed-under : (xs : List ℕ)
        → follow_path m.axioms q (havocs_under t n q xs) (reduct small t)
        ≡ cut_outcome small (follow_path m.axioms p (map Element xs) t)
    followed-under xs = laws.fresh small more m.axioms q t xs grows f.axioms path fits

    pub ends : (xs : List ℕ) (new : Tables) → follow_path m.axioms p (map Element xs) t ≡ Some (ended new)
        → FitsStructure more new
    ends xs new e = end-fits laws.keep m.axioms more p xs t new steps fits e

    pub same : (s : Tables) (c : FormTree) → FitsStructure more s → FitsForm small [] c
        → is_true s c ≡ is_true (reduct small s) c
    same s c fs h = same-truth laws.reduces laws.own small more grows.grows s c fs h

    -- an outcome is fine exactly where it is without the fresh relations
    fine-there : (xs : List ℕ) (from o : Outcome) → follow_path m.axioms p (map Element xs) t ≡ Some from
        → cut_outcome small (Some from) ≡ Some o → IsFine target from → IsFine target o
    fine-there xs (ended new) (ended s) e is h =
        let cut : reduct small new ≡ s = cc is in
        ap (λ z. is_true z target) (sym cut) ∙ sym (same new target (ends xs new e) target-small) ∙ h
    fine-there xs (ended new) aborted e is h = absurd (cc is)
    fine-there xs aborted o e is h = absurd h

    fine-here : (xs : List ℕ) (from o : Outcome) → follow_path m.axioms p (map Element xs) t ≡ Some from
        → cut_outcome small (Some from) ≡ Some o → IsFine target o → IsFine target from
    fine-here xs (ended new) (ended s) e is h =
        let cut : reduct small new ≡ s = cc is in
        same new target (ends xs new e) target-small ∙ ap (λ z. is_true z target) cut ∙ h
    fine-here xs (ended new) aborted e is h = absurd (cc is)
    fine-here xs aborted (ended s) e is h = absurd (cc is)
    fine-here xs aborted aborted e is h = h

    pub has-cut : (from : Outcome) → (o : Outcome) × (cut_outcome small (Some from) ≡ Some o)
    has-cut (ended new) = (ended (reduct small new), refl)
    has-cut aborted = (aborted, refl)

    pub precondition-says : is_true t (goal_precondition All m goal) ≡ true → (xs : List ℕ) (o : Outcome)
        → length xs ≡ havoc_count p → follow_path m.axioms q (havocs_under t n q xs) (reduct small t) ≡ Some o
        → IsFine target o
    precondition-says e xs o long h =
        let from = cut-some small (follow_path m.axioms p (map Element xs) t) o (sym (followed-under xs) ∙ h) in
        let has = (laws.followed m.axioms p t from.0).1
        (record { havocs = map Element xs; count = length-map xs (λ x. Element x) ∙ long; ends = from.1 }) in
        fine-there xs from.0 o from.1 from.2
        (fine laws.all_below laws.any_below laws.replaces laws.keep more m.axioms target axioms-wide target-wide p t
        from.0 steps fits e has)

    pub precondition-holds : ((xs : List ℕ) (o : Outcome) → length xs ≡ havoc_count p
        → follow_path m.axioms q (havocs_under t n q xs) (reduct small t) ≡ Some o → IsFine target o)
        → is_true t (goal_precondition All m goal) ≡ true
    precondition-holds each =
        true_from (is_true t (goal_precondition All m goal)) (λ e.
        let b = some_is_bad laws.all_below laws.any_below laws.replaces laws.keep more m.axioms target axioms-wide
        target-wide p t steps fits e in
        let h = (laws.followed m.axioms p t b.outcome).0 b.has in
        let r = elements-taken laws.taken m.axioms more p h.havocs t b.outcome steps stops h.count h.ends in
        let here : follow_path m.axioms p (map Element r.0) t ≡ Some b.outcome =
        ap (λ hs. follow_path m.axioms p hs t) (sym r.1) ∙ h.ends in
        let long : length r.0 ≡ havoc_count p = sym (length-map r.0 (λ x. Element x)) ∙ ap length (sym r.1) ∙ h.count in
        let o = has-cut b.outcome in
        never_both target b.outcome
        (fine-here r.0 b.outcome o.0 here o.1
        (each r.0 o.0 long (followed-under r.0 ∙ ap (cut_outcome small) here ∙ o.1))) b.bad)

pub goal_precondition_exact : Follows → GoalPreconditionIsExact
goal_precondition_exact laws m goal t f ok g fits = (
  λ e xs o long h. precondition-says laws m goal f ok g t fits e xs o long h,
  λ each. precondition-holds laws m goal f ok g t fits each,
)

allowed-same : (m : ModelTree) (held : List FormTree) (st : Stage) (a b : Tables)
    → satisfies a m.axioms ≡ satisfies b m.axioms → satisfies a held ≡ satisfies b held
    → is_allowed m held st a ≡ is_allowed m held st b
allowed-same m held stage.Init a b e h = e
allowed-same m held (stage.Action k) a b e h = ap (λ x. x && satisfies a held) e ∙ ap (λ x. satisfies b m.axioms && x) h
allowed-same m held stage.Final a b e h = ap (λ x. x && satisfies a held) e ∙ ap (λ x. satisfies b m.axioms && x) h

module _ (laws : Follows) (m : ModelTree) (held : List FormTree) (goal : Goal) (t : Tables) (f : FitsModel m)
    (ok : IsSignature m.signature) (held_fit : AllByRecursion (FitsForm (symbols m.signature) []) held)
    (g : IsGoal m goal) (fits : FitsStructure (symbols (answered m goal)) t) where
  abbrev cut : Tables
  cut = reduct (symbols m.signature) t

  pub allowed : is_allowed m held goal.stage t ≡ is_allowed m held goal.stage cut
  allowed =
      allowed-same m held goal.stage t cut
      (same laws m goal f ok g t fits t (all_of m.axioms) fits (all_fit (symbols m.signature) m.axioms f.axioms))
      (same laws m goal f ok g t fits t (all_of held) fits (all_fit (symbols m.signature) held held_fit))

  -- the goal fails along the path that is written out, with these elements
  pub is-under : (xs values : List ℕ) → length xs ≡ havoc_count (written_path m goal)
      → is_allowed m held goal.stage t ≡ true
      → FailsGoal m goal.about values (follow_path m.axioms (written_path m goal) (map Element xs) t)
      → IsCounterexampleUnder m held goal t xs values
  is-under xs values long ok_there fails =
      let small = symbols m.signature in
      let n = length m.signature.relations in
      let q = path_or_none (goal_path m goal) in
      let outcome = follow_path m.axioms (written_path m goal) (map Element xs) t in
      let up = grows laws m goal f ok g in
      let there = fails-there laws.reduces laws.own small (symbols (answered m goal)) up.grows m f.conjectures values
      outcome (λ new e. ends laws m goal f ok g t fits xs new e) goal.about fails in
      record {
        count = long;
        shown = record {
          path = q;
          is_path = is_path laws m goal f ok g;
          structure = (laws.reduces small (symbols (answered m goal)) t up.grows fits).fits;
          allowed = sym allowed ∙ ok_there;
          count = under-count small t n q xs long;
          fails = subst (FailsGoal m goal.about values) (sym (followed-under laws m goal f ok g t fits xs)) there;
        };
      }

  refuting-shows : is_true t (refuting All m held goal) ≡ true
      → (elements : List ℕ) × (values : List ℕ) × IsCounterexampleUnder m held goal t elements values
  refuting-shows e =
      let more = symbols (answered m goal) in
      let p = written_path m goal in
      let target = target_of m goal.about in
      let h = parts m held goal.stage t (negation (goal_precondition All m goal)) e in
      let b = some_is_bad laws.all_below laws.any_below laws.replaces laws.keep more m.axioms target
      (axioms-wide laws m goal f ok g) (target-wide laws m goal f ok g) p t (steps laws m goal f ok g) fits
      (negated (is_true t (goal_precondition All m goal)) h.1) in
      let w = found laws m p t goal.about (has_target m goal.stage goal.about g.about) (kind laws m goal f ok g)
      b.outcome b.has b.bad in
      let r = elements-taken laws.taken m.axioms more p w.havocs t w.outcome (steps laws m goal f ok g)
      (stops laws m goal f ok g) w.count w.ends in
      let long : length r.0 ≡ havoc_count p = sym (length-map r.0 (λ x. Element x)) ∙ ap length (sym r.1) ∙ w.count in (
        r.0,
        w.values,
        is-under r.0 w.values long h.0
            (subst (λ hs. FailsGoal m goal.about w.values (follow_path m.axioms p hs t)) r.1 w.fails),
      )

  refuting-holds : ((elements : List ℕ) × (values : List ℕ) × IsCounterexampleUnder m held goal t elements values)
      → is_true t (refuting All m held goal) ≡ true
  refuting-holds w =
      let small = symbols m.signature in
      let more = symbols (answered m goal) in
      let p = written_path m goal in
      let target = target_of m goal.about in
      let h = w.2.shown in
      let q = path_or_none (goal_path m goal) in
      let one : h.path ≡ q = same_path h.path q (sym h.is_path ∙ is_path laws m goal f ok g) in
      let outcome = follow_path m.axioms p (map Element w.0) t in
      let there = subst (λ (z : Option Outcome). FailsGoal m goal.about w.1 z)
      (ap (λ z. follow_path m.axioms z (havocs_under t (length m.signature.relations) q w.0) cut) one
      ∙ followed-under laws m goal f ok g t fits w.0) h.fails in
      let here = fails-here laws.reduces laws.own small more (grows laws m goal f ok g).grows m f.conjectures w.1
      outcome (λ new e. ends laws m goal f ok g t fits w.0 new e) goal.about there in
      whole m held goal.stage t (negation (goal_precondition All m goal)) (allowed ∙ h.allowed)
      (ap not (false_from (is_true t (goal_precondition All m goal))
      (λ e. forbidden laws m p t goal.about (map Element w.0) w.1 (length-map w.0 (λ x. Element x) ∙ w.2.count) here
      (λ o has. fine laws.all_below laws.any_below laws.replaces laws.keep more m.axioms target
      (axioms-wide laws m goal f ok g) (target-wide laws m goal f ok g) p t o (steps laws m goal f ok g) fits e has))))

pub refuting_exact : Follows → RefutingIsExact
refuting_exact laws m held goal t f ok hf g fits = (
  λ e. refuting-shows laws m held goal t f ok hf g fits e,
  λ w. refuting-holds laws m held goal t f ok hf g fits w,
)

-- with the premises about the changed symbol alone
pub lean_same : Follows → Spares → AffectedRefutingIsSame
lean_same laws spares m held goal t f ok g fits =
    let more = symbols (answered m goal) in
    let p = written_path m goal in
    starts_same goal.stage t (all_of m.axioms) (all_of held) (goal_precondition Affected m goal)
    (goal_precondition All m goal)
    (λ e. affected_suffice spares laws.replaces laws.keep more m.axioms (target_of m goal.about) p t
    (axioms-wide laws m goal f ok g) (target-wide laws m goal f ok g) (steps-fit more p (steps laws m goal f ok g)) fits
    e)

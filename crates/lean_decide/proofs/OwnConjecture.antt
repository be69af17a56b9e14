-- A goal of an action whose own conjecture suffices has no counterexample.
use Rattle.std.proofs.Common.{◌≡◌, ◌∙◌, ◌<◌, ℕ, zero, suc, true, List, [], ◌∷◌, ◌++◌, length, get_or, sym, ap, subst}
use Rattle.std.proofs.Common.{refl, arith}
use Rattle.std.specs.Prelude.{slice_index_or, ◌&&◌}
use Rattle.std.specs.List.{AllByRecursion}
use Rattle.std.proofs.lemmas.Bool.{and_parts, and_from}
use Rattle.fol_sig.specs.Tables.{Tables, IsSignature, Reading, reading}
use Rattle.fol_sig.specs.Symbols.{symbols, Symbols}
use Rattle.fol_formula.specs.Syntax.{FormTree, top, negation, forms_of}
use Rattle.fol_formula.specs.Truth.{truth, all_true}
use Rattle.fol_formula.specs.Fits.{FitsForm}
use Rattle.rml_command.specs.Models.{ModelTree, FitsModel}
use Rattle.fol_formula.specs.Sentences.{all_of, is_true}
use Rattle.rml_command.specs.Fragment.{IsChecked}
use Rattle.rml_command.specs.Goals.{IsGoal, HasNone}
use Rattle.rml_command.specs.declared.goal.Goal.{Goal}
use Rattle.rml_command.specs.declared.goal.Stage.{Stage}
use Rattle.rml_command.specs.declared.goal.Stage.TheVariants as stage
use Rattle.rml_command.specs.declared.goal.About.{About}
use Rattle.rml_command.specs.declared.goal.About.TheVariants.{Conjecture}
use Rattle.rml_wp.specs.declared.premises.Premises.TheVariants.{Affected}
use Rattle.rml_wp.specs.Added.{AreAdded, RefutingSentencesFit}
use Rattle.rml_wp.specs.Answered.{CounterexamplesAreCuts}
use Rattle.rml_wp.specs.Preconditions.{answered, goal_precondition, parts_before, target_of}
use Rattle.ea_decide.specs.Decisions.{HasNoModel}
use Rattle.lean_decide.specs.Alone.{breaks_alone}

-- one of sentences that are all true is true
one-true : (s : Reading) (ps : List FormTree) (k : ℕ) → all_true s (forms_of ps) [] ≡ true
    → truth s (slice_index_or ps k top) [] ≡ true
one-true s [] k h = refl
one-true s (p ∷ ps) zero h = (and_parts (truth s p []) (all_true s (forms_of ps) []) h).0
one-true s (p ∷ ps) (suc k) h = one-true s ps k (and_parts (truth s p []) (all_true s (forms_of ps) []) h).1

-- where the parts of a refuting sentence of an action are true, so are any one of the conjectures and the last part
kept-true : (s : Tables) (a : ℕ) (lawful last : FormTree) (held : List FormTree) (k : ℕ)
    → is_true s (all_of (parts_before (stage.Action a) lawful (all_of held) ++ last ∷ [])) ≡ true
    → is_true s (all_of (slice_index_or held k top ∷ last ∷ [])) ≡ true
kept-true s a lawful last held k h =
    let r = reading s in
    let behind = (and_parts (truth r lawful []) (truth r (all_of held) [] && (truth r last [] && true)) h).1 in
    let both = and_parts (truth r (all_of held) []) (truth r last [] && true) behind in
    and_from (truth r (slice_index_or held k top) []) (truth r last [] && true) (one-true r held k both.0) both.1

-- what is known of refuting sentences
module _ (cuts : CounterexamplesAreCuts) (m : ModelTree) (goal : Goal)
    (fits : FitsModel m) (ok : IsSignature m.signature) (g : IsGoal m goal) where
  pub kept_alone : (a k : ℕ) → goal.stage ≡ stage.Action a → goal.about ≡ Conjecture k
      → HasNoModel (answered m goal) (breaks_alone m goal) → HasNone m m.conjectures goal
  kept_alone a k is_stage is_about none s havocs values counter =
      let last = negation (goal_precondition Affected m goal) in
      let w = cuts Affected m m.conjectures goal s havocs values fits ok fits.conjectures g
      counter in
      let parted = subst (λ (x : Stage). is_true w.whole
      (all_of (parts_before x (all_of m.axioms) (all_of m.conjectures) ++ last ∷ [])) ≡ true) is_stage w.holds in
      let alone = kept-true w.whole a (all_of m.axioms) last m.conjectures k parted in
      none w.whole w.fits
      (subst (λ (x : About). is_true w.whole (all_of (target_of m x ∷ last ∷ [])) ≡ true) (sym is_about) alone)

-- a sentence of the list fits
one-fits : (sig : Symbols) (ps : List FormTree) (k : ℕ) (d : FormTree) → AllByRecursion (FitsForm sig []) ps
    → k < length ps → FitsForm sig [] (get_or ps k d)
one-fits sig [] k d h lt = absurd (omega (arith, lt))
one-fits sig (p ∷ ps) zero d h lt = h.0
one-fits sig (p ∷ ps) (suc k) d h lt = one-fits sig ps k d h.1 (omega (arith, lt))

pub conjecture_fits : (m : ModelTree) (given : List FormTree) (held : ModelTree) (k : ℕ) (d p : FormTree)
    → given ≡ held.conjectures → held ≡ m → p ≡ get_or given k d → k < length m.conjectures → FitsModel m
    → FitsForm (symbols m.signature) [] p
conjecture_fits m given held k d p lent same is lt fits =
    let all = lent ∙ ap (λ (z : ModelTree). z.conjectures) same in
    subst (λ (q : FormTree). FitsForm (symbols m.signature) [] q)
    (sym (is ∙ ap (λ (ps : List FormTree). get_or ps k d) all))
    (one-fits (symbols m.signature) m.conjectures k d fits.conjectures lt)

-- the last part of a refuting sentence fits
last-fits : (sig : Symbols) (st : Stage) (lawful held p : FormTree)
    → FitsForm sig [] (all_of ((parts_before st lawful held ++ negation p ∷ []) ++ [])) → FitsForm sig [] p
last-fits sig stage.Init lawful held p h = h.1.0
last-fits sig (stage.Action a) lawful held p h = h.1.1.0
last-fits sig stage.Final lawful held p h = h.1.1.0

pub precondition_fits : RefutingSentencesFit → (m : ModelTree) (goal : Goal) → IsChecked m → IsSignature m.signature
    → IsGoal m goal → AreAdded m m.conjectures []
    → FitsForm (symbols (answered m goal)) [] (goal_precondition Affected m goal)
precondition_fits fit m goal checked ok g added =
    last-fits (symbols (answered m goal)) goal.stage (all_of m.axioms) (all_of m.conjectures)
    (goal_precondition Affected m goal) (fit Affected m m.conjectures [] goal checked ok g added).fits

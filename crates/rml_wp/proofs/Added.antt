-- A refuting sentence is an exists-forall sentence of the model, also with further parts.
use Rattle.std.proofs.Common.{List, [], ◌∷◌, ◌++◌, ap}
use Rattle.std.specs.List.{AllByRecursion}
use Rattle.std.proofs.lemmas.List.{append-nil}
use Rattle.fol_sig.specs.Symbols.{symbols}
use Rattle.fol_formula.specs.Syntax.{FormTree, negation}
use Rattle.fol_formula.specs.Fits.{FitsForm}
use Rattle.fol_formula.specs.Fragments.{IsEa, IsAe, IsPlainUniversal}
use Rattle.fol_formula.specs.Inclusions.{UniversalIsEa, UniversalIsAe}
use Rattle.fol_formula.specs.Sentences.{all_of}
use Rattle.base.proofs.Lists.{all_more}
use Rattle.rml_command.specs.Goals.{goal_path}
use Rattle.rml_command.specs.Laws.{GoalPathsFit}
use Rattle.rml_command.specs.declared.goal.Stage.{Stage}
use Rattle.rml_command.specs.declared.goal.Stage.TheVariants as stage
use Rattle.rml_wp.specs.Preconditions.{refuting_parts, target_of, path_or_none, goal_precondition, parts_before}
use Rattle.rml_wp.specs.Preconditions.{premises_of, answered, written_path}
use Rattle.rml_wp.specs.Laws.{PreconditionStaysInFragment}
use Rattle.rml_wp.specs.Added.{refuting_where, RefutingSentencesFit, NoPartsAreAdded, ConjecturesAreAdded}
use Rattle.rml_wp.proofs.StepTruth.{Replaces, all_fit, precondition-fits}
use Rattle.rml_wp.proofs.Exactly.{Follows, has_target}
use Rattle.rml_wp.proofs.OverFresh.{is_path, path, grows, axioms-wide, target-wide, wide}
use Rattle.rml_wp.proofs.Counterexamples.{target-ae}
use Rattle.rml_wp.proofs.SomeAxioms.{each_of}
use Rattle.rml_wp.proofs.Fragment.{all-ea}
use Rattle.rml_wp.proofs.Closed.{universal-ea, all-chosen}

each_part : (P : FormTree → Type 0) (st : Stage) (a i n : FormTree) (more : List FormTree) → P a → P i → P (negation n)
    → AllByRecursion P more → AllByRecursion P ((parts_before st a i ++ negation n ∷ []) ++ more)
each_part P stage.Init a i n more h g k rest = (h, (k, rest))
each_part P (stage.Action _) a i n more h g k rest = (h, (g, (k, rest)))
each_part P stage.Final a i n more h g k rest = (h, (g, (k, rest)))

-- what the crates below promise of refuting sentences
pub record Refutes : Type 0 where
  pub follows : Follows
  pub replaces : Replaces
  pub goals : GoalPathsFit
  pub stays : PreconditionStaysInFragment
  pub universal : UniversalIsEa
  pub universal_ae : UniversalIsAe

pub sentences_fit : Refutes → RefutingSentencesFit
sentences_fit laws premises m held more goal checked ok g added =
    let small = symbols m.signature in
    let sig = symbols (answered m goal) in
    let q = path_or_none (goal_path m goal) in
    let p = written_path m goal in
    let has = has_target m goal.stage goal.about g.about in
    let f = checked.model.fits in
    let target = target_of m goal.about in
    let there = path laws.follows m goal f ok g in
    let written = laws.follows.written small sig q (grows laws.follows m goal f ok g) there in
    let t = target-wide laws.follows m goal f ok g in
    let axioms = axioms-wide laws.follows m goal f ok g in
    let wider = wide laws.follows m goal f ok g in
    let pre = goal_precondition premises m goal in
    let behind = premises_of premises m.axioms in
    let fit_behind = each_of (FitsForm sig []) premises m.axioms axioms in
    let ae : IsAe pre =
    laws.stays sig behind target p fit_behind t written.fits
    (each_of IsEa premises m.axioms checked.fragment.axioms)
    (target-ae laws.universal_ae m goal.about checked.fragment.conjectures has)
    (written.fragment (laws.goals.in_fragment m goal q checked (is_path laws.follows m goal f ok g))) in
    let fit : FitsForm sig [] pre = precondition-fits laws.replaces sig behind target p fit_behind t written.fits in
    let whole = refuting_where premises m held more goal in
    let ea : IsEa whole =
    all-ea _ (each_part IsEa goal.stage (all_of m.axioms) (all_of held) pre more
    (all-ea m.axioms checked.fragment.axioms) (universal-ea laws.universal held added.universal) ae
    added.others) in
    let all : FitsForm sig [] whole =
    all_fit sig _ (each_part (FitsForm sig []) goal.stage (all_of m.axioms) (all_of held) pre more
    (all_fit sig m.axioms axioms)
    (all_fit sig held (all_more (FitsForm small []) (FitsForm sig []) wider held added.universal_fit)) fit
    (all_more (FitsForm small []) (FitsForm sig []) wider more added.others_fit)) in
    record { fragment = ea; fits = all }

pub no_parts : NoPartsAreAdded
no_parts premises m held goal = ap all_of (append-nil (refuting_parts premises m held goal))

pub conjectures_are_added : ConjecturesAreAdded
conjectures_are_added m more checked e f =
    let universal = checked.fragment.conjectures in
    let fit = checked.model.fits.conjectures in
    record {
      all = record { universal = universal; universal_fit = fit; others = e; others_fit = f };
      some = λ ks. record {
        universal = all-chosen IsPlainUniversal (tt, tt) m.conjectures ks universal;
        universal_fit = all-chosen (FitsForm (symbols m.signature) []) tt m.conjectures ks fit;
        others = e;
        others_fit = f;
      };
    }

use Rattle.std.proofs.Common.{◌≡◌, ◌∙◌, [], Bool, refl, sym, ap, subst, Some, None}
use Rattle.std.specs.Prelude.{MatchBool}
use Rattle.fol_sig.specs.Tables.{Declared}
use Rattle.fol_sig.specs.Symbols.{symbols, AreSorted}
use Rattle.fol_sig.specs.Strata.{IsStrata}
use Rattle.fol_formula.specs.Syntax.{FormTree}
use Rattle.fol_formula.specs.Fits.{FitsForm}
use Rattle.rml_command.specs.Models.{ModelTree}
use Rattle.rml_wp.specs.declared.premises.Premises.TheVariants.{All}
use Rattle.rml_wp.specs.Preconditions.{answered}
use Rattle.limits.specs.declared.cause.Cause.TheVariants as cause
use Rattle.limits.specs.Ceilings.{ceilings}
use Rattle.ea_decide.specs.Decisions.{AreClauses}
use Rattle.ea_decide.specs.declared.decided.Clauses.TheVariants.{Written}
use Rattle.obligation_decide.specs.GoalPassing.{refuting_sentence, SentencePasses}
use Rattle.goal_clauses.proofs.FirstValues.{none_satisfies}
use Rattle.goal_clauses.proofs.clauses_of_sentence.Goals as goal

pub clauses_of-requires-clause-strata : goal.clauses_of-requires-clause-strata
clauses_of-requires-clause-strata c =
    subst (λ (d : Declared). IsStrata (symbols d) c.strata-strata.result.now) (sym c.requires.answered)
    (c.answered_goal.ensures.answered.strata c.strata-strata.result.now c.strata-strata.ensures)

pub clauses_of-requires-clause-fits : goal.clauses_of-requires-clause-fits
clauses_of-requires-clause-fits c =
    let m = c.args.checked.now in
    let of = c.args.goal.now in
    let checked = c.model.ensures.checked in
    let added = (c.sentence_law.ensures.conjectures m [] checked tt tt).all in
    let sentence = c.sentence_law.ensures.fit All m m.conjectures [] of checked c.answered_goal.ensures.signature
    c.requires.goal added in
    let alone = c.sentence_law.ensures.alone All m m.conjectures of in
    let fits = subst (FitsForm (symbols (answered m of)) []) alone sentence.fits in
    subst (λ (p : FormTree). FitsForm (symbols c.args.answered.now) [] p) (sym c.requires.sentence)
    (subst (λ (d : Declared). FitsForm (symbols d) [] (refuting_sentence m of)) (sym c.requires.answered) fits)

pub returns-in-Written : goal.returns-in-Written
returns-in-Written c =
    let m = c.args.checked.now in
    let of = c.args.goal.now in
    let f = c.in-Written.cnf in
    let order = c.strata-strata.result.now in
    let limits = ceilings c.args.limits.now in
    let given = c.args.answered.now in
    let checked = c.model.ensures.checked in
    let ok = c.answered_goal.ensures.signature in
    let same = c.signature-signature.ensures.value ∙ ap (λ (x : ModelTree). x.signature) c.model.ensures.value in
    let got = subst (AreClauses limits given c.args.sentence.now) c.in-Written.is c.in_ok-cnf.ensures in
    let here = subst (λ (p : FormTree). AreClauses limits given p (Written f)) c.requires.sentence got in
    let written = subst (λ (d : Declared). AreClauses limits d (refuting_sentence m of) (Written f))
    c.requires.answered here in
    let sorted = subst (λ (d : Declared). AreSorted (symbols d)) same c.sorts-sorts.ensures.sorted in
    let strata = c.strata-strata.ensures in
    let exact = c.exactness_law.ensures m of order f checked ok sorted strata c.requires.goal written.1 in
    let refute = c.counterexample_law.ensures m of order f checked ok sorted strata c.requires.goal written.1 in (
      subst
          (λ (b : Bool). MatchBool b (None ≡ Some cause.Formula) (SentencePasses limits m m.conjectures of None))
          (sym c.requires.within) (None, written.0, refl),
      record {
        form = written.1;
        exact = exact;
        refute = (
          refute,
          λ none. none_satisfies f c.variables-variables.ensures.formula
              (λ some. let shown = exact.0 some in none shown.0 shown.1 shown.2 shown.3),
        );
      },
      written.2,
    )

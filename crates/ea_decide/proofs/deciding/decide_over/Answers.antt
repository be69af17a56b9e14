use Rattle.clause_form.specs.Meaning.{true_atoms}
use Rattle.std.proofs.Common.{ap, sym, ◌∙◌, subst}
use Rattle.ea_decide.specs.GroundForm.{IsClauseForm}
use Rattle.ea_decide.specs.Searches.{IsSearched}
use Rattle.ea_decide.proofs.Transfers.{no-model, clause-form, equal, small}
use Rattle.ea_decide.proofs.deciding.decide_over.Goals as goal

pub returns-in-Refuted : goal.returns-in-Refuted
returns-in-Refuted c =
    let cnf = c.in_ok-cnf.cnf in
    let searched = subst (IsSearched cnf c.args.limits.now.conflicts) c.in-Refuted.is c.in_ok-proof.ensures in
    let sig = c.args.signature.now in
    let p = c.args.sentence.now in
    let more = c.args.universe.now.signature.now in
    let q = c.args.form.now in (
      no-model sig p more q c.requires.signature c.requires.form c.args.strata.now c.args.universe.now.terms.now cnf
          c.refutation_law.ensures c.requires.groundable c.args.universe.now.closed
          c.in_ok-cnf.ensures.cnf searched.1,
      subst (IsClauseForm sig p) (sym searched.0) (clause-form sig p more q c.requires.signature c.requires.form
          c.args.universe.now.terms.now cnf c.args.universe.now.closed c.in_ok-cnf.ensures.cnf),
    )

pub read-requires : goal.read-requires
read-requires c =
    let cnf = c.in_ok-cnf.cnf in
    let model = subst (IsSearched cnf c.args.limits.now.conflicts) c.in-Satisfied.is c.in_ok-proof.ensures in
    let sig = c.args.signature.now in
    let p = c.args.sentence.now in
    let more = c.args.universe.now.signature.now in
    let q = c.args.form.now in
    equal sig p more q c.requires.signature c.requires.form c.args.strata.now c.args.universe.now.terms.now cnf
    c.in-Satisfied.values c.model_law.ensures c.requires.groundable c.args.universe.now.closed
    c.in_ok-cnf.ensures.cnf model c.in_ok-assignment-in-Satisfied.assignment
    (c.in_ok-assignment-in-Satisfied.ensures ∙ ap (true_atoms c.in-Satisfied.values) c.in_ok-cnf.ensures.atoms)

pub returns : goal.returns
returns c =
    let cnf = c.in_ok-cnf.cnf in
    let model = subst (IsSearched cnf c.args.limits.now.conflicts) c.in-Satisfied.is c.in_ok-proof.ensures in
    let sig = c.args.signature.now in
    let p = c.args.sentence.now in
    let more = c.args.universe.now.signature.now in
    let q = c.args.form.now in
    small sig p more q c.requires.signature c.requires.form c.args.strata.now c.args.universe.now.terms.now cnf
    c.in-Satisfied.values c.model_law.ensures c.requires.groundable c.args.universe.now.closed
    c.in_ok-cnf.ensures.cnf model c.in_ok-assignment-in-Satisfied.assignment
    c.in_ok-structure-in-Satisfied.structure c.requires.room
    (c.in_ok-assignment-in-Satisfied.ensures ∙ ap (true_atoms c.in-Satisfied.values) c.in_ok-cnf.ensures.atoms)
    c.in_ok-structure-in-Satisfied.ensures

use Rattle.std.proofs.Common.{◌≡◌, ◌≤◌, [], None, sum, refl, sym, ap, ◌∙◌, subst}
use Rattle.fol_sig.specs.Tables.{Declared, Tables}
use Rattle.fol_sig.specs.Symbols.{symbols, FitsStructure}
use Rattle.fol_sig.specs.Constants.{reduct}
use Rattle.fol_formula.specs.Syntax.{FormTree}
use Rattle.fol_formula.specs.Fits.{FitsForm}
use Rattle.rml_wp.specs.Preconditions.{answered}
use Rattle.rml_command.specs.InductiveSets.{conjectures_of}
use Rattle.limits.specs.Ceilings.{ceilings}
use Rattle.ea_decide.specs.Passing.{Passes}
use Rattle.ea_decide.specs.declared.decided.Decided.TheVariants.{Satisfied}
use Rattle.pruned_decide.specs.Decisions.{lean_signature, lean_sentence}
use Rattle.rml_houdini.proofs.Assuming.{signature_of, same_answer, assumed_fits, is_refuting, met_fits}
use Rattle.rml_houdini.proofs.trying.shown_by.Goals as goal

pub read_counterexample-requires-clause-sentence : goal.read_counterexample-requires-clause-sentence
read_counterexample-requires-clause-sentence c =
    let m = c.args.checked.now in
    let a = c.args.assumed.now in
    let law = c.sentence_law.ensures in
    let added = (law.conjectures m [] c.model.ensures.checked tt tt).some a.held.items in
    record {
      held = conjectures_of m a.held.items;
      more = [];
      added = added;
      is = is_refuting m c.args.goal.now a law.alone c.if-assumed.true c.args.sentence.now c.requires.sentence;
    }

pub read_counterexample-requires-clause-model : goal.read_counterexample-requires-clause-model
read_counterexample-requires-clause-model c = c.requires.model.1.model

pub read_counterexample-requires-clause-few : goal.read_counterexample-requires-clause-few
read_counterexample-requires-clause-few c = c.requires.model.2

pub returns-then-assumed : goal.returns-then-assumed
returns-then-assumed c =
    let m = c.args.checked.now in
    let g = c.args.goal.now in
    let a = c.args.assumed.now in
    let p = c.args.sentence.now in
    let limits = ceilings c.args.limits.now in
    let law = c.sentence_law.ensures in
    let added = (law.conjectures m [] c.model.ensures.checked tt tt).some a.held.items in
    let is = is_refuting m g a law.alone c.if-assumed.true p c.requires.sentence in
    let decided = same_answer limits _ (answered m g) p (Satisfied c.args.model) (Satisfied c.args.model)
    c.requires.answered refl c.requires.model in
    let shown = c.in_ok-shown.ensures in (
      subst (λ (q : FormTree). Passes limits (lean_signature (answered m g) q) (lean_sentence (answered m g) q) None)
          c.requires.sentence decided.0,
      record {
        same = shown.goal;
        path = shown.path;
        refutes = shown.refutes (conjectures_of m a.held.items) [] added is;
        few = subst (λ (s : Tables). sum s.sizes ≤ limits.terms) (sym shown.structure)
            (c.elements_law.ensures limits (lean_signature (answered m g) p) (lean_sentence (answered m g) p)
            c.args.model decided.0 decided.1.few);
      },
    )

pub returns : goal.returns
returns c =
    let m = c.args.checked.now in
    let g = c.args.goal.now in
    let a = c.args.assumed.now in
    let law = c.sentence_law.ensures in
    let checked = c.model.ensures.checked in
    let added = (law.conjectures m [] checked tt tt).some a.held.items in
    let sig = signature_of _ _ m c.signature-signature.ensures.value c.model.ensures.value in
    let is = c.answered_goal.ensures.answered in
    let decided = same_answer (ceilings c.args.limits.now) _ (answered m g) c.args.sentence.now
    (Satisfied c.args.model) (Satisfied c.args.model) c.requires.answered refl c.requires.model in
    let fits = subst (λ (p : FormTree). FitsForm (symbols (answered m g)) [] p) (sym c.requires.sentence)
    (assumed_fits m g a law.fit law.alone checked c.answered_goal.ensures.signature c.requires.goal added) in
    let whole : c.restrict.new.self ≡ reduct (symbols (answered m g)) c.args.model =
    c.restrict.ensures ∙ ap (λ (z : Declared). reduct (symbols z) c.args.model) c.requires.answered in
    let there = subst (λ (s : Tables). FitsStructure (symbols (answered m g)) s) (sym whole)
    (met_fits c.exactness-2.ensures.fits c.exactness.ensures.models (answered m g) c.args.sentence.now c.args.model
    fits decided.1.model) in
    let structure : c.restrict-2.new.self ≡ reduct (symbols m.signature) c.restrict.new.self =
    c.restrict-2.ensures ∙ ap (λ (z : Declared). reduct (symbols z) c.restrict.new.self) sig in (
      c.if-assumed.false,
      subst (λ (s : Tables). FitsStructure (symbols m.signature) s) (sym structure) (is.structures _ there),
    )

use Rattle.std.proofs.Common.{◌⊎◌, ℕ, List, ap, ◌∙◌, subst}
use Rattle.rml_command.specs.declared.places.Places.{Places}
use Rattle.rml_command.specs.declared.places.Condition.{Condition}
use Rattle.rml_lex.specs.declared.token.Fault.{Fault}
use Rattle.rml_fragment.specs.First.{IsFirstOf}
use Rattle.rml_fragment.specs.Faults.{Misses, AxiomMisses, ConjectureMisses, ConditionMisses, QuantifierStands}
use Rattle.rml_fragment.specs.declared.demand.Demand.TheVariants as demand
use Rattle.rml_fragment.proofs.Placed.{along, of_both}
use Rattle.rml_fragment.proofs.fragment.sentences_fault.Goals as goal

pub returns : goal.returns
returns c =
    let m = c.args.model.now in
    let places = c.places-places.ensures.value in
    let axioms =
    along (Misses demand.ExistsForall) c.axioms.result.now m.axioms c.as_slice.result.now m.places.axioms
    c.sentence_fault-axioms.result c.axioms.ensures.value (c.as_slice.ensures ∙ ap (λ (p : Places). p.axioms) places)
    c.sentence_fault-axioms.ensures in
    let conjectures =
    along (Misses demand.Universal) c.conjectures.result.now m.conjectures c.as_slice-2.result.now m.places.conjectures
    c.sentence_fault-conjectures.result c.conjectures.ensures.value
    (c.as_slice-2.ensures ∙ ap (λ (p : Places). p.conjectures) places) c.sentence_fault-conjectures.ensures in
    let conditions =
    subst (λ (cs : List Condition). IsFirstOf (ConditionMisses cs) c.condition_fault-conditions.result)
    (c.as_slice-3.ensures ∙ ap (λ (p : Places). p.conditions) places) c.condition_fault-conditions.ensures in
    let quantifiers =
    subst (λ (ns : List ℕ). IsFirstOf (QuantifierStands ns) c.quantifier_fault-quantifiers.result)
    (c.as_slice-4.ensures ∙ ap (λ (p : Places). p.quantifiers) places) c.quantifier_fault-quantifiers.ensures in
    let Commands : Fault → Type 0 = λ f. ConditionMisses m.places.conditions f
    ⊎ QuantifierStands m.places.quantifiers f in
    let Promises : Fault → Type 0 = λ f. ConjectureMisses m f ⊎ Commands f in
    let commands =
    of_both (ConditionMisses m.places.conditions) (QuantifierStands m.places.quantifiers)
    c.condition_fault-conditions.result c.quantifier_fault-quantifiers.result c.earlier-commands.result
    c.earlier-commands.ensures conditions quantifiers in
    let promises =
    of_both (ConjectureMisses m) Commands c.sentence_fault-conjectures.result c.earlier-commands.result
    c.earlier-promises.result c.earlier-promises.ensures conjectures commands in
    of_both (AxiomMisses m) Promises c.sentence_fault-axioms.result c.earlier-promises.result c.earlier.result
    c.earlier.ensures axioms promises

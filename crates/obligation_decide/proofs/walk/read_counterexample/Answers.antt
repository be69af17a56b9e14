use Rattle.std.proofs.Common.{◌≡◌, ℕ, ◌+◌, ◌<◌, ◌^◌, true, List, [], length, get_or, sym, ap, ◌∙◌, subst, arith}
use Rattle.fol_sig.specs.Tables.{Declared, Tables, fun_at}
use Rattle.fol_sig.specs.Constants.{reduct}
use Rattle.fol_sig.specs.Symbols.{FitsStructure, symbols}
use Rattle.fol_nnf.specs.Normal.{normal}
use Rattle.fol_formula.specs.Syntax.{FormTree}
use Rattle.fol_formula.specs.Fits.{FitsForm}
use Rattle.fol_formula.specs.Counts.{saturated}
use Rattle.fol_formula.specs.Witnesses.{existentials}
use Rattle.rml_command.specs.declared.havoc.Havoc.{Havoc}
use Rattle.rml_wp.specs.Preconditions.{answered}
use Rattle.rml_wp.specs.Laws.{goal_havocs}
use Rattle.rml_wp.specs.Witnesses.{witness_places, values_at}
use Rattle.obligation_decide.specs.Restricted.{RefutesAs}
use Rattle.obligation_decide.specs.WithConstants.{constant_sorts, HoldsWithConstants}
use Rattle.obligation_decide.proofs.SameAnswer.{signature_of, functions_of}
use Rattle.obligation_decide.proofs.Shown.{AreCounted, each-there, is-shown, all-counted, normal-fits}
use Rattle.obligation_decide.proofs.Restricting.{holds-without, without-constants}
use Rattle.obligation_decide.proofs.walk.read_counterexample.Goals as goal

pub overflow_cast-count : goal.overflow_cast-count
overflow_cast-count c =
    let m = c.args.checked.now in
    let p = c.args.sentence.now in
    let sig = answered m c.args.goal.now in
    let model = subst (λ (z : Declared). HoldsWithConstants z p c.args.model) c.requires.answered c.requires.model in
    let same = c.formula.ensures.value ∙ c.sentence.ensures.value in
    let counted : AreCounted sig p c.function_count-functions.result c.existentials-count.result = record {
      functions = functions_of _ _ sig c.function_count-functions.ensures c.requires.answered;
      count = c.existentials-count.ensures ∙ ap (λ (q : FormTree). saturated (existentials q)) same;
      few = subst (λ (z : Declared). length z.functions + length (constant_sorts p) < 2 ^ 32) c.requires.answered
          c.requires.few;
    } in
    let e = all-counted c.sentence_law.ensures c.args.premises m c.args.goal.now c.model.ensures.checked
    c.answered_goal.ensures.signature c.requires.goal p c.requires.sentence c.args.model model _ _ counted in
    let few = counted.few in
    omega (arith, e, few)

pub constants-requires-clause-few : goal.constants-requires-clause-few
constants-requires-clause-few c =
    let m = c.args.checked.now in
    let p = c.args.sentence.now in
    let sig = answered m c.args.goal.now in
    let model = subst (λ (z : Declared). HoldsWithConstants z p c.args.model) c.requires.answered c.requires.model in
    let same = c.formula.ensures.value ∙ c.sentence.ensures.value in
    let counted : AreCounted sig p c.function_count-functions.result c.existentials-count.result = record {
      functions = functions_of _ _ sig c.function_count-functions.ensures c.requires.answered;
      count = c.existentials-count.ensures ∙ ap (λ (q : FormTree). saturated (existentials q)) same;
      few = subst (λ (z : Declared). length z.functions + length (constant_sorts p) < 2 ^ 32) c.requires.answered
          c.requires.few;
    } in
    let e = all-counted c.sentence_law.ensures c.args.premises m c.args.goal.now c.model.ensures.checked
    c.answered_goal.ensures.signature c.requires.goal p c.requires.sentence c.args.model model _ _ counted in
    let few = counted.few in
    let functions = counted.functions in
    omega (arith, e, few, functions)

pub constants-requires-clause-there : goal.constants-requires-clause-there
constants-requires-clause-there c =
    let m = c.args.checked.now in
    let p = c.args.sentence.now in
    let sig = answered m c.args.goal.now in
    let model = subst (λ (z : Declared). HoldsWithConstants z p c.args.model) c.requires.answered c.requires.model in
    let same = c.formula.ensures.value ∙ c.sentence.ensures.value in
    let counted : AreCounted sig p c.function_count-functions.result c.existentials-count.result = record {
      functions = functions_of _ _ sig c.function_count-functions.ensures c.requires.answered;
      count = c.existentials-count.ensures ∙ ap (λ (q : FormTree). saturated (existentials q)) same;
      few = subst (λ (z : Declared). length z.functions + length (constant_sorts p) < 2 ^ 32) c.requires.answered
          c.requires.few;
    } in
    each-there c.sentence_law.ensures c.args.premises m c.args.goal.now c.model.ensures.checked
    c.answered_goal.ensures.signature c.requires.goal p c.requires.sentence c.args.model model _ _ counted
    c.witnesses.ensures.there

-- without the constants it is a structure over the answered signature
pub goal_havocs-requires-clause-structure : goal.goal_havocs-requires-clause-structure
goal_havocs-requires-clause-structure c =
    let m = c.args.checked.now in
    let p = c.args.sentence.now in
    let sig = c.args.answered.now in
    let fits = subst (λ (z : Declared). FitsForm (symbols z) [] (normal true p)) (sym c.requires.answered)
    (normal-fits c.sentence_law.ensures c.args.premises m c.args.goal.now c.model.ensures.checked
    c.answered_goal.ensures.signature c.requires.goal p c.requires.sentence) in
    subst (λ (s : Tables). FitsStructure (symbols sig) s) (sym c.restrict.ensures)
    (without-constants c.exactness.ensures.models sig p c.args.model fits c.requires.model).structure

pub returns-clause-refutes : goal.returns-clause-refutes
returns-clause-refutes c =
    let m = c.args.checked.now in
    let g = c.args.goal.now in
    let p = c.args.sentence.now in
    let t = c.args.model in
    let w = c.in_ok-witness.witness in
    let n = c.existentials-count.result in
    let xs = c.deref.result.now in
    let places = witness_places c.args.premises m g in
    let sig = answered m c.args.goal.now in
    let model = subst (λ (z : Declared). HoldsWithConstants z p c.args.model) c.requires.answered c.requires.model in
    let same = c.formula.ensures.value ∙ c.sentence.ensures.value in
    let counted : AreCounted sig p c.function_count-functions.result c.existentials-count.result = record {
      functions = functions_of _ _ sig c.function_count-functions.ensures c.requires.answered;
      count = c.existentials-count.ensures ∙ ap (λ (q : FormTree). saturated (existentials q)) same;
      few = subst (λ (z : Declared). length z.functions + length (constant_sorts p) < 2 ^ 32) c.requires.answered
          c.requires.few;
    } in
    let read : (i : ℕ) → i < n → get_or xs i 0 ≡ fun_at t (c.function_count-functions.result + i) [] =
    λ i lt. ap (λ (l : List ℕ). get_or l i 0) c.deref.ensures.value ∙ c.in_ok-constants.ensures i lt in
    let shown = is-shown c.sentence_law.ensures c.args.premises m g c.model.ensures.checked
    c.answered_goal.ensures.signature c.requires.goal p c.requires.sentence t model _ n counted
    c.counterexample_law.ensures.models xs read in
    let whole : c.restrict.new.self ≡ reduct (symbols sig) t =
    c.restrict.ensures ∙ ap (λ (z : Declared). reduct (symbols z) t) c.requires.answered in
    let small = signature_of _ _ m c.signature-signature.ensures.value c.model.ensures.value in
    let structure : c.restrict-2.new.self ≡ reduct (symbols m.signature) (reduct (symbols sig) t) =
    c.restrict-2.ensures ∙ ap (λ (z : Declared). reduct (symbols z) c.restrict.new.self) small
    ∙ ap (reduct (symbols m.signature)) whole in
    let taken : c.from_vec.result ≡ goal_havocs m g (reduct (symbols sig) t) (values_at xs places.havocs) =
    c.from_vec.ensures ∙ c.in_ok-havoc.ensures
    ∙ ap (λ (s : Tables). goal_havocs m g s c.as_slice-elements.result.now) whole
    ∙ ap (goal_havocs m g (reduct (symbols sig) t)) (c.as_slice-elements.ensures ∙ c.in_ok-witness.ensures.havoc) in
    let s = reduct (symbols m.signature) (reduct (symbols sig) t) in
    subst (λ (r : Tables). RefutesAs c.args.premises m g p r c.from_vec.result w.values) (sym structure)
    (subst (λ (v : List ℕ). RefutesAs c.args.premises m g p s c.from_vec.result v)
    (sym c.in_ok-witness.ensures.values)
    (subst (λ (h : List Havoc). RefutesAs c.args.premises m g p s h (values_at xs places.values)) (sym taken) shown))

pub returns-clause-holds : goal.returns-clause-holds
returns-clause-holds c =
    let m = c.args.checked.now in
    let p = c.args.sentence.now in
    let t = c.args.model in
    let sig = answered m c.args.goal.now in
    let model = subst (λ (z : Declared). HoldsWithConstants z p t) c.requires.answered c.requires.model in
    let fits = normal-fits c.sentence_law.ensures c.args.premises m c.args.goal.now c.model.ensures.checked
    c.answered_goal.ensures.signature c.requires.goal p c.requires.sentence in
    let w = without-constants c.exactness.ensures.models sig p t fits model in
    let whole : c.restrict.new.self ≡ reduct (symbols sig) t =
    c.restrict.ensures ∙ ap (λ (z : Declared). reduct (symbols z) t) c.requires.answered in
    let small = signature_of _ _ m c.signature-signature.ensures.value c.model.ensures.value in
    record {
      whole = reduct (symbols sig) t;
      fits = w.structure;
      cut = c.restrict-2.ensures ∙ ap (λ (z : Declared). reduct (symbols z) c.restrict.new.self) small
          ∙ ap (reduct (symbols m.signature)) whole;
      holds = holds-without c.exactness-2.ensures.truth c.exactness.ensures.models sig p t fits model;
    }

pub returns-clause-structure : goal.returns-clause-structure
returns-clause-structure c =
    let m = c.args.checked.now in
    let small = signature_of _ _ m c.signature-signature.ensures.value c.model.ensures.value in
    c.restrict-2.ensures ∙ ap (λ (z : Declared). reduct (symbols z) c.restrict.new.self) small
    ∙ ap (reduct (symbols m.signature)) c.restrict.ensures

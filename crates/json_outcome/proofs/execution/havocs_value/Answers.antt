use Rattle.std.proofs.Common.{◌++◌, sym, ap, ◌∙◌, subst}
use Rattle.fol_sig.specs.Symbols.{symbols}
use Rattle.rml_command.specs.View.{primitive}
use Rattle.rml_command.specs.Models.{ModelTree, FitsPath}
use Rattle.json_values.specs.Values.{IsListedBy}
use Rattle.json_outcome.specs.ExecutionData.{havoc_data, havocs_data}
use Rattle.json_outcome.proofs.Lists.{listed_turn}
use Rattle.json_outcome.proofs.execution.havocs_value.Goals as goal

pub loop-primitive-preserved : goal.loop-primitive-preserved
loop-primitive-preserved c =
    let names = c.args.checked.now.names in
    let s = c.args.structure.now in
    let q = primitive c.in-Some.primitive.now in
    let rest = c.next.new.self in
    let left = c.loop-primitive.left.now in
    let list = c.loop-primitive.list in
    let after = c.push_havoc.new.list in
    record {
      fits =
          (subst (FitsPath (symbols c.args.checked.now.signature)) c.in-Some.ensures.steps
          c.loop-primitive.invariant.fits).1;
      list =
          listed_turn (havocs_data names s c.loop-primitive.primitive-iterator left) (havoc_data names s q left)
          (havocs_data names s rest c.havocs_after-left.result.now) (havocs_data names s c.args.path.now c.args.havocs.now)
          list after
          (ap (λ qs. havocs_data names s qs left) c.in-Some.ensures.steps
          ∙ ap (λ hs. havoc_data names s q left ++ havocs_data names s rest hs) (sym c.havocs_after-left.ensures))
          (subst (λ (m : ModelTree). IsListedBy list (havoc_data m.names s q left) after) c.model-model.ensures.value
          c.push_havoc.ensures) c.loop-primitive.invariant.list;
    }

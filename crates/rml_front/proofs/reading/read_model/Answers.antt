use Rattle.rml_syntax.specs.Tree.{file_tree}
use Rattle.rml_front.proofs.Phases.{tree_by, resolved_by, resolve_fault, checked_model, fragment_fault, fault_place}
use Rattle.rml_front.proofs.reading.read_model.Goals as goal

pub returns-in_err-model-clause-fault : goal.returns-in_err-model-clause-fault
returns-in_err-model-clause-fault c =
    let text = c.args.text.now in
    let tree = file_tree c.in_ok-tree.tree in
    let read = tree_by text c.in_ok-tokens.tokens.items c.deref.result.now tree c.in_ok-tokens.ensures.tokens
    c.deref.ensures.value c.in_ok-tree.ensures.tree in
    resolve_fault text tree c.from_residual-in_err-model.result c.in_err-model.field-0.0
    c.from_residual-in_err-model.ensures.1 read c.in_err-model.ensures.fault

pub returns-clause-model : goal.returns-clause-model
returns-clause-model c =
    let text = c.args.text.now in
    let tree = file_tree c.in_ok-tree.tree in
    let read = tree_by text c.in_ok-tokens.tokens.items c.deref.result.now tree c.in_ok-tokens.ensures.tokens
    c.deref.ensures.value c.in_ok-tree.ensures.tree in
    let resolved = resolved_by text tree read c.in_ok-model.ensures.names c.in_ok-model.ensures.sizes in
    checked_model text tree c.in_ok-model.model c.in_ok-model.ensures.model resolved c.check.result
    c.check.ensures.model c.check.ensures.faultless

pub returns-clause-fault : goal.returns-clause-fault
returns-clause-fault c =
    let text = c.args.text.now in
    let tree = file_tree c.in_ok-tree.tree in
    let read = tree_by text c.in_ok-tokens.tokens.items c.deref.result.now tree c.in_ok-tokens.ensures.tokens
    c.deref.ensures.value c.in_ok-tree.ensures.tree in
    let resolved = resolved_by text tree read c.in_ok-model.ensures.names c.in_ok-model.ensures.sizes in
    fragment_fault text tree c.in_ok-model.model c.in_ok-model.ensures.model resolved c.check.result
    c.check.ensures.fault

pub returns-clause-place : goal.returns-clause-place
returns-clause-place c =
    fault_place c.args.text.now (file_tree c.in_ok-tree.tree) c.in_ok-model.model c.in_ok-model.ensures.model
    c.place_law.ensures c.place_law-2.ensures c.in_ok-tree.ensures.within c.check.result c.check.ensures.fault

use Rattle.rml_front.proofs.laws.name_fault_law.Goals as goal

pub returns : goal.returns
returns c text f is =
    let places = c.places_ascend.ensures text is.read.tokens is.tree is.read.are_tokens is.read.is_tree in
    c.order_law.ensures.fault text is.tree f places is.fault

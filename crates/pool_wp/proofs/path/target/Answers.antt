use Rattle.std.proofs.Common.{◌<◌, List, length, get_or, subst, sym, ap, arith}
use Rattle.fol_pool.specs.declared.shape.Node.{Node}
use Rattle.rml_command.specs.declared.goal.About.TheVariants.{Conjecture}
use Rattle.fol_pool.specs.Trees.{IsAt, a_form}
use Rattle.rml_wp.specs.Laws.{HasTarget}
use Rattle.rml_wp.specs.Preconditions.{target_of}
use Rattle.pool_wp.proofs.Nodes.{forms_length, formula_there}
use Rattle.pool_wp.proofs.path.target.Goals as goal

pub bounds-conjectures-k : goal.bounds-conjectures-k
bounds-conjectures-k c =
    let m = c.args.model.now in
    let has : c.in-Conjecture.k < length m.conjectures = subst (HasTarget m) c.in-Conjecture.is c.requires.about in
    let nodes = c.args.nodes.now.conjectures.items in
    let e = forms_length c.args.pool.now nodes m.conjectures c.requires.nodes.conjectures in
    omega (arith, has, e, ap length c.as_slice-conjectures.ensures.value)

pub returns-in-Conjecture-clause-node : goal.returns-in-Conjecture-clause-node
returns-in-Conjecture-clause-node c =
    let m = c.args.model.now in
    let ts = c.args.pool.now in
    let k = c.in-Conjecture.k in
    let d : Node = record { 0 = 0 } in
    let nodes = c.args.nodes.now.conjectures.items in
    let has : k < length m.conjectures = subst (HasTarget m) c.in-Conjecture.is c.requires.about in
    let e = forms_length ts nodes m.conjectures c.requires.nodes.conjectures in
    let there = formula_there ts nodes m.conjectures k d c.requires.nodes.conjectures (omega (arith, has, e)) in
    rw c.in-Conjecture.is (subst (λ (ns : List Node). IsAt ts (get_or ns k d).0 (a_form (target_of m (Conjecture k))))
    (sym c.as_slice-conjectures.ensures.value) there)

use Rattle.std.proofs.Common.{rules, ◌≡◌, ◌∷◌, drop, true}
use Rattle.fol_sig.specs.TupleSets.{with_tuples}
use Rattle.rml_command.specs.Outcomes.{are_tuples_of}
use Rattle.rml_command.specs.declared.havoc.Havoc.TheVariants.{Tuples}
use Rattle.rml_exec.proofs.TableSteps.{table-step}
use Rattle.rml_exec.proofs.following.havoc_relation.Goals as goal

pub returns : goal.returns
returns c =
    let is : c.args.havocs.now ≡ Tuples c.in-Some-Tuples.tuples ∷ drop 1 c.args.havocs.now = search rules in
    let there : are_tuples_of c.args.structure c.args.rel.0 c.in-Some-Tuples.tuples ≡ true = search rules in
    let set : c.set_tuples.new.self
    ≡ with_tuples c.args.structure c.args.rel.0 c.in-Some-Tuples.tuples = search rules in
    table-step c.args.axioms.now c.args.rel.0 c.args.havocs.now (drop 1 c.args.havocs.now) c.in-Some-Tuples.tuples
    c.args.structure c.set_tuples.new.self c.judge.result is there set c.set_tuples.ensures.fits c.judge.ensures

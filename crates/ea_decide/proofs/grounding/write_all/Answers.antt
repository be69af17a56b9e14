use Rattle.ground_terms.specs.Calls.{calls_of}
use Rattle.ground_terms.specs.Taking.{calls_of_each}
use Rattle.ground_terms.specs.Universe.{symbols_in}
use Rattle.ground_expand.specs.Instance.{instance_of}
use Rattle.equality_axioms.specs.Axioms.{equality_axioms}
use Rattle.clause_form.specs.Stands.{Stands}
use Rattle.ea_decide.proofs.Handed.{handed}
use Rattle.ea_decide.proofs.grounding.write_all.Goals as goal

pub returns : goal.returns
returns c =
    let sig = symbols_in c.args.universe.now in
    λ begins. handed (Stands c.args.clauser.now) (Stands c.expand_into.new.sink) (Stands c.axioms_into.new.sink)
    (calls_of (instance_of sig c.args.universe.now.terms.now c.args.sentence.now))
    (calls_of_each (equality_axioms sig c.args.universe.now.terms.now))
    begins c.in_ok-expand_into.ensures c.in_ok-axioms_into.ensures

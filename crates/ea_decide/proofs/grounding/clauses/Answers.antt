use Rattle.ground_terms.specs.Trees.{trees_of}
use Rattle.ea_decide.specs.GroundForm.{formulas_over}
use Rattle.ea_decide.proofs.grounding.clauses.Goals as goal

pub finish-requires : goal.finish-requires
finish-requires c = (
  trees_of (formulas_over c.args.universe.now.signature.now c.args.sentence.now c.args.universe.now.terms.now),
  c.in_ok-write_all.ensures
      c.in_ok-clauser.ensures,
  c.requires.few,
)

pub returns-clause-cnf : goal.returns-clause-cnf
returns-clause-cnf c =
    let sig = c.args.universe.now.signature.now in
    (c.in_ok-made.ensures (trees_of (formulas_over sig c.args.sentence.now c.args.universe.now.terms.now))
    (c.in_ok-write_all.ensures c.in_ok-clauser.ensures) c.requires.few).0

pub returns-clause-atoms : goal.returns-clause-atoms
returns-clause-atoms c =
    let sig = c.args.universe.now.signature.now in
    (c.in_ok-made.ensures (trees_of (formulas_over sig c.args.sentence.now c.args.universe.now.terms.now))
    (c.in_ok-write_all.ensures c.in_ok-clauser.ensures) c.requires.few).1

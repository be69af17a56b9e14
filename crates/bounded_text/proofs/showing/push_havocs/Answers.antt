use Rattle.rml_command.specs.declared.goal.About.TheVariants as about
use Rattle.bounded_text.proofs.showing.push_havocs.Goals as goal

pub push_havoc_line-requires-clause-path : goal.push_havoc_line-requires-clause-path
push_havoc_line-requires-clause-path c =
    c.goal_law.ensures.fit.symbols_fit c.args.checked.now
    (record { stage = c.args.part.now.stage; path = c.args.part.now.trace.path; about = about.Abort })
    c.path_of-path.result c.model-checked.ensures.checked.model.fits c.path_of-path.ensures

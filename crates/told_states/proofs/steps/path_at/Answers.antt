use Rattle.told_states.proofs.Fits.{fits_at}
use Rattle.told_states.proofs.steps.path_at.Goals as goal

pub returns-clause-fits : goal.returns-clause-fits
returns-clause-fits c =
    fits_at c.goal_law.ensures.fit c.args.checked.now c.model-checked.ensures.checked.model.fits c.args.stage
    c.args.number c.find_path-found.result c.find_path-found.ensures

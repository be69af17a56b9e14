use Rattle.fol_formula.specs.View.{form}
use Rattle.show_replacing.proofs.Replaceable.{raised}
use Rattle.show_replacing.proofs.replacing.tell_shift.Goals as goal

pub shift-requires : goal.shift-requires
shift-requires g c = λ small. raised (form c.args.formula.now) c.requires

use Rattle.fol_formula.specs.View.{form, term}
use Rattle.show_replacing.proofs.Replaceable.{function}
use Rattle.show_replacing.proofs.replacing.tell_function.Goals as goal

pub replace_fun-replaced-requires : goal.replace_fun-replaced-requires
replace_fun-replaced-requires g c =
    function (form c.in_ok-fixed_point.field-0) (term c.args.change.now) c.in_ok-fixed_point.ensures c.requires

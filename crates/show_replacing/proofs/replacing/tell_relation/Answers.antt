use Rattle.fol_formula.specs.View.{form}
use Rattle.show_replacing.proofs.Replaceable.{relation}
use Rattle.show_replacing.proofs.replacing.tell_relation.Goals as goal

pub replace_rel-replaced-requires : goal.replace_rel-replaced-requires
replace_rel-replaced-requires g c =
    relation (form c.in_ok-grown.field-0) (form c.args.change.now) c.in_ok-grown.ensures c.requires

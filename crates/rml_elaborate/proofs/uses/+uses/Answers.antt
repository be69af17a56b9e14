use Rattle.std.proofs.Common.{◌-◌, length, subst, rules}
use Rattle.rml_terms.specs.Tree.{expr_tree}
use Rattle.rml_names.specs.Scopes.{bound_names}
use Rattle.rml_elaborate.proofs.Nesting.{nests_inside}
use Rattle.rml_elaborate.proofs.uses.+uses.Goals as goal

pub first_use_inside-first_use-requires : goal.first_use_inside-first_use-requires
first_use_inside-first_use-requires t c =
    let u = nests_inside c.args.q c.args.at c.args.b (expr_tree c.args.body.now) _ (bound_names c.args.scope.now)
    (bound_names c.inside-inner.result) c.inside-inner.ensures c.requires.nests in
    (search rules, (u.nests, (u.few, (c.requires.within.2, c.requires.sound))))

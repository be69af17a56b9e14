use Rattle.std.proofs.Common.{map, refl, ap, ◌∙◌}
use Rattle.fol_formula.specs.View.{form, term, terms}
use Rattle.fol_subst.specs.Replace.{put_form}
use Rattle.fol_subst.specs.Templates.{instance}
use Rattle.fol_subst.proofs.Rooms.{reversed_args}
use Rattle.fol_subst.proofs.template.Template.instance.Goals as goal

pub returns : goal.returns
returns c =
    let args = c.args.args.items in
    c.in_ok-f.ensures
    ∙ ap (λ z. put_form 0 z (form c.self.inside.formula))
    (ap (map term) (c.deref.ensures.value ∙ c.reverse.ensures.items)
    ∙ reversed_args c.lists.ensures.rows args (terms args) refl)
    ∙ ap (λ body. instance body (terms args)) c.self.view_is

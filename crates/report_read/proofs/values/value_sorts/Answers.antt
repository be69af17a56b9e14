use Rattle.std.proofs.Common.{◌≡◌, List, [], ◌++◌, Some, get_or, sym, ap, ◌∙◌, subst}
use Rattle.std.specs.Prelude.{slice_get}
use Rattle.base.proofs.Lists.{all_at}
use Rattle.fol_sig.specs.declared.Sort.{Sort}
use Rattle.fol_sig.specs.Tables.{numbers}
use Rattle.fol_sig.specs.Symbols.{symbols}
use Rattle.fol_formula.specs.Syntax.{FormTree}
use Rattle.fol_formula.specs.View.{form}
use Rattle.fol_formula.specs.Fits.{FitsForm}
use Rattle.rml_command.specs.Models.{ModelTree}
use Rattle.rml_command.specs.Goals.{leading_sorts}
use Rattle.report_read.specs.Reading.{value_sorts}
use Rattle.report_read.proofs.BlockLines.{leading_known}
use Rattle.report_read.proofs.Turns.{sorts_in, get_is}
use Rattle.report_read.proofs.values.value_sorts.Goals as goal

found : (c : goal.In_ok-sorts) → slice_get c.args.checked.now.conjectures c.args.conjecture
    ≡ Some c.index-conjectures-conjecture.result
found c =
    let same = c.conjectures.ensures.value ∙ ap (λ (m : ModelTree). m.conjectures) c.model.ensures.value in
    get_is c.args.checked.now.conjectures c.args.conjecture c.index-conjectures-conjecture.result c.requires
    (subst (λ (cs : List FormTree). c.index-conjectures-conjecture.result
    ≡ get_or cs c.args.conjecture c.index-conjectures-conjecture.result) same c.index-conjectures-conjecture.is)

leading : (c : goal.In_ok-sorts) → numbers c.in_ok-sorts.sorts ≡ leading_sorts c.index-conjectures-conjecture.result
leading c =
    c.in_ok-sorts.ensures
    ∙ ap (λ (r : List Sort). numbers r ++ leading_sorts (form c.formula.result.now)) c.new.ensures
    ∙ ap leading_sorts c.formula.ensures.value

pub returns-clause-sorts : goal.returns-clause-sorts
returns-clause-sorts c = leading c ∙ sym (ap value_sorts (found c))

pub returns-clause-known : goal.returns-clause-known
returns-clause-known c =
    sorts_in c.args.checked.now.signature.sorts (numbers c.in_ok-sorts.sorts)
    (leading_sorts c.index-conjectures-conjecture.result) (leading c)
    (leading_known (symbols c.args.checked.now.signature) [] c.index-conjectures-conjecture.result
    (all_at (FitsForm (symbols c.args.checked.now.signature) []) c.args.checked.now.conjectures c.args.conjecture
    c.index-conjectures-conjecture.result (found c) c.model.ensures.checked.model.fits.conjectures))

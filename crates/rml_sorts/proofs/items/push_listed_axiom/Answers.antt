use Rattle.std.proofs.Common.{◌-◌, [], length, sym, subst, arith}
use Rattle.base.specs.Lists.{count_from}
use Rattle.fol_formula.specs.Fits.{BoundForm}
use Rattle.fol_sig.specs.Symbols.{symbols}
use Rattle.rml_names.specs.Drafts.{draft_in}
use Rattle.rml_sorts.specs.Listed.{listed_axiom}
use Rattle.rml_sorts.proofs.ListedFits.{listed_fits}
use Rattle.rml_sorts.proofs.items.push_listed_axiom.Goals as goal

pub of-requires : goal.of-requires
of-requires c =
    let sig = (draft_in c.args.draft.now).vocabulary.signature in
    let n = c.function_count-end.result - c.args.first in
    let p = listed_axiom c.args.sort.0 (count_from c.args.first n) in
    let fits = listed_fits sig c.args.sort.0 c.args.first n c.requires.sort
    (omega (arith, c.function_count-end.ensures, c.requires.first)) c.requires.are in
    subst (BoundForm 0) (sym c.in_ok-axiom.ensures) (c.indices.ensures.bound (symbols sig) [] p fits)

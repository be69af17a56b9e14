use Rattle.std.proofs.Common.{[], sym, subst}
use Rattle.fol_sig.specs.Symbols.{symbols}
use Rattle.fol_formula.specs.Fits.{BoundForm}
use Rattle.rml_terms.specs.Tree.{expr_tree}
use Rattle.rml_elaborate.specs.Formulas.{formula_of}
use Rattle.rml_names.specs.Drafts.{draft_in}
use Rattle.rml_sorts.proofs.Fitting.{formula_fits}
use Rattle.rml_sorts.proofs.sentences.written_sentence.Goals as goal

pub of-requires : goal.of-requires
of-requires c =
    let text = c.args.text.now in
    let d = draft_in c.args.draft.now in
    let e = expr_tree c.args.e.now in
    let sound = c.requires.sound in
    subst (BoundForm 0) (sym c.in_ok-p.ensures)
    (c.indices.ensures.bound (symbols d.vocabulary.signature) [] (formula_of text d.vocabulary d.bodies [] e)
    (formula_fits c.instance_laws.ensures.fits text d.vocabulary d.bodies sound.words sound.bodies [] e c.requires.met))

use Rattle.std.proofs.Common.{◌++◌, ◌∷◌, [], sym, ap, ◌∙◌, subst}
use Rattle.fol_sig.specs.Symbols.{symbols}
use Rattle.fol_formula.specs.Syntax.{FormTree, negation}
use Rattle.fol_formula.specs.View.{form}
use Rattle.fol_formula.specs.Fits.{BoundForm}
use Rattle.fol_formula.specs.Fragments.{IsEa}
use Rattle.rml_command.specs.Models.{ModelTree}
use Rattle.fol_formula.specs.Sentences.{all_of}
use Rattle.rml_wp.specs.Preconditions.{parts_before}
use Rattle.rml_wp.specs.Held.{held_at}
use Rattle.rml_wp.proofs.Closed.{all-bound, universal-ea}
use Rattle.rml_wp.proofs.HeldParts.{same-parts, holds-at}
use Rattle.rml_wp.proofs.sentences.refuting_from.Goals as goal

pub with_allowed-requires-clause-held : goal.with_allowed-requires-clause-held
with_allowed-requires-clause-held c =
    let m = c.args.checked.now in
    let st = c.args.goal.now.stage in
    let is = c.in_ok-held.ensures ∙ ap (λ (z : ModelTree). held_at st (all_of z.conjectures))
    c.model-model.ensures.value in
    subst IsEa (sym is)
    (holds-at IsEa st (all_of m.conjectures) (tt, tt)
    (universal-ea c.inclusion.ensures.universal m.conjectures c.model-model.ensures.checked.fragment.conjectures))

pub with_allowed-requires-clause-bound : goal.with_allowed-requires-clause-bound
with_allowed-requires-clause-bound c =
    let m = c.args.checked.now in
    let st = c.args.goal.now.stage in
    let is = c.in_ok-held.ensures ∙ ap (λ (z : ModelTree). held_at st (all_of z.conjectures))
    c.model-model.ensures.value in
    subst (BoundForm 0) (sym is)
    (holds-at (BoundForm 0) st (all_of m.conjectures) tt
    (all-bound c.indices.ensures.bound (symbols m.signature) m.conjectures
    c.model-model.ensures.checked.model.fits.conjectures))

pub returns : goal.returns
returns c =
    let m = c.args.checked.now in
    let st = c.args.goal.now.stage in
    let is = c.in_ok-held.ensures ∙ ap (λ (z : ModelTree). held_at st (all_of z.conjectures))
    c.model-model.ensures.value in
    let pre = c.args.precondition in
    c.in_ok-sentence.ensures
    ∙ ap (λ (z : ModelTree). all_of (parts_before st (all_of z.axioms) (form c.in_ok-held.held) ++ negation pre ∷ []))
    c.model-model.ensures.value
    ∙ ap (λ (h : FormTree). all_of (parts_before st (all_of m.axioms) h ++ negation pre ∷ [])) is
    ∙ ap (λ ps. all_of (ps ++ negation pre ∷ [])) (same-parts st (all_of m.axioms) (all_of m.conjectures))
    ∙ ap (λ (p : FormTree). all_of (parts_before st (all_of m.axioms) (all_of m.conjectures) ++ negation p ∷ []))
    c.requires.precondition

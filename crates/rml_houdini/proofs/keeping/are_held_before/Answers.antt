use Rattle.std.proofs.Common.{◌≡◌, true, List, [], sym, ◌∙◌, subst}
use Rattle.std.specs.List.{AllByRecursion}
use Rattle.fol_sig.specs.Symbols.{symbols}
use Rattle.fol_formula.specs.Syntax.{FormTree}
use Rattle.fol_formula.specs.Fits.{FitsForm}
use Rattle.fol_formula.specs.Sentences.{satisfies}
use Rattle.rml_houdini.proofs.Sufficing.{held_at_init, held_behind, chosen_of}
use Rattle.rml_houdini.proofs.keeping.are_held_before.Goals as goal

pub satisfies-requires : goal.satisfies-requires
satisfies-requires c =
    let m = c.args.checked.now in
    let is = c.deref.ensures.value ∙ c.in_ok-chosen-in_default.ensures
    ∙ chosen_of m _ c.args.held.now _ c.conjectures.ensures.value c.model.ensures.value in
    let added = (c.sentence_law.ensures.conjectures m [] c.model.ensures.checked tt tt).some c.args.held.now in
    record {
      sig = symbols m.signature;
      structure = c.requires.structure;
      sentences = subst (λ (ps : List FormTree). AllByRecursion (FitsForm (symbols m.signature) []) ps) (sym is)
          added.universal_fit;
    }

pub returns-in-Init : goal.returns-in-Init
returns-in-Init c = λ _. held_at_init c.args.checked.now c.args.stage c.args.held.now c.args.structure.now c.in-Init.is

pub returns-in_ok-chosen-in_default : goal.returns-in_ok-chosen-in_default
returns-in_ok-chosen-in_default c = λ yes.
    let m = c.args.checked.now in
    let is = c.deref.ensures.value ∙ c.in_ok-chosen-in_default.ensures
    ∙ chosen_of m _ c.args.held.now _ c.conjectures.ensures.value c.model.ensures.value in
    held_behind m c.args.stage c.args.held.now c.args.structure.now
    (subst (λ (ps : List FormTree). satisfies c.args.structure.now ps ≡ true) is (sym c.satisfies.ensures ∙ yes))

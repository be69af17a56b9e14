use Rattle.std.proofs.Common.{true, [], sym, subst, ◌∙◌}
use Rattle.fol_sig.specs.Tables.{reading}
use Rattle.fol_sig.specs.Symbols.{symbols}
use Rattle.fol_sig.specs.Constants.{reduct}
use Rattle.fol_nnf.specs.Normal.{normal}
use Rattle.cnf_base.specs.Formulas.{IsModel, Satisfies, value_of}
use Rattle.ground_terms.specs.Same.{holds_in}
use Rattle.ea_decide.specs.Steps.{more_symbols, IsGroundable, assigned}
use Rattle.ea_decide.proofs.laws.exactness_law.Goals as goal

pub returns : goal.returns
returns c = λ sig p order f sorted strata ea fits form.
    let given : IsGroundable sig p order = record { sorted = sorted; strata = strata; fits = fits; fragment = ea } in
    let lists = form.lists in
    let more = more_symbols sig p in
    let skolemised = c.exactness-2.ensures.models sig (normal true p)
    (c.exactness.ensures.fits (symbols sig) [] true p fits) in
    let kept = (c.growth_laws.ensures.sorts (symbols sig) more skolemised.grows.grows).sorted sorted in (
      λ satisfied.
          let values = satisfied.0 in
          let readable = c.model_law.ensures sig p order lists values given form.closed
          (subst (Satisfies (value_of values)) form.clauses satisfied.1.1) in
          let read = c.reading_law.ensures more lists (holds_in (assigned sig p lists values)) kept form.closed
          readable.equality in
          let model = skolemised.models.without read.0 (readable.models read.0 read.1) in
          let s = reduct (symbols sig) read.0 in
          (s, model.structure, sym (c.exactness.ensures.truth (reading s) true p []) ∙ model.holds),
      λ model.
          let values = c.values_law.ensures sig p order lists model.0 given form.closed model.1 model.2 in
          (values.0, subst (λ g. IsModel g values.0) (sym form.clauses) values.1),
    )

use Rattle.std.proofs.Common.{true, [], sym, ap, subst, ◌∙◌}
use Rattle.fol_sig.specs.Symbols.{symbols}
use Rattle.fol_nnf.specs.Normal.{normal}
use Rattle.cnf_base.specs.Formulas.{IsUnsatisfiable}
use Rattle.ground_terms.specs.Trees.{trees_of}
use Rattle.clause_form.specs.Clauses.{clause_form}
use Rattle.ea_decide.specs.GroundForm.{ground_formulas}
use Rattle.ea_decide.specs.Steps.{more_symbols}
use Rattle.ea_decide.proofs.laws.clauses_law.Goals as goal

pub returns : goal.returns
returns c = record {
  one = λ sig p order f g strata fits a b.
      let skolemised = c.exactness.ensures.models sig (normal true p)
      (c.exactness-2.ensures.fits (symbols sig) [] true p fits) in
      let more = (c.growth_laws.ensures.sorts (symbols sig) (more_symbols sig p) skolemised.grows.grows).strata order
      strata in
      let same = c.count_laws.ensures.lists (more_symbols sig p) order a.lists b.lists more a.closed b.closed in
      a.clauses ∙ ap (λ lists. clause_form (trees_of (ground_formulas sig p lists))) same ∙ sym b.clauses;
  refutes = λ sig p order f sorted strata ea fits form none.
      c.refutation_law.ensures sig p order form.lists
      (record { sorted = sorted; strata = strata; fits = fits; fragment = ea })
      form.closed (subst IsUnsatisfiable form.clauses none);
}

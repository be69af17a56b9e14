use Rattle.std.proofs.Common.{◌≡◌, ◌+◌, true, [], ◌∷◌, length, arith}
use Rattle.fol_sig.specs.Symbols.{symbols}
use Rattle.fol_nnf.specs.Normal.{normal}
use Rattle.ground_terms.specs.Literals.{all_positives}
use Rattle.ground_terms.specs.Terms.{term_counts}
use Rattle.ground_terms.specs.Trees.{trees_of, nodes_all}
use Rattle.ground_expand.specs.Instance.{instance_of}
use Rattle.equality_axioms.specs.Axioms.{equality_axioms}
use Rattle.ground_size.specs.Sizes.{size_of}
use Rattle.ea_decide.specs.GroundForm.{skolem_sentence}
use Rattle.ea_decide.specs.Steps.{more_symbols}
use Rattle.ea_decide.proofs.laws.size_law.Goals as goal

pub returns : goal.returns
returns c = λ sig p lists sorted ea fits closed.
    let more = more_symbols sig p in
    let skolemised = c.exactness.ensures.models sig (normal true p)
    (c.exactness-2.ensures.fits (symbols sig) [] true p fits) in
    let kept = (c.growth_laws.ensures.sorts (symbols sig) more skolemised.grows.grows).sorted sorted in
    let instance = instance_of more lists (skolem_sentence sig p) ∷ [] in
    let axioms = equality_axioms more lists in
    let implications = c.implication_law.ensures more lists kept closed in
    let nodes = c.size_laws.ensures.instances sig p lists ea closed in
    let counted = (c.size_laws.ensures.axioms sig p lists sorted fits closed).count in
    let size : nodes_all (trees_of instance) + length axioms ≡ size_of sig (term_counts lists) p =
    omega (arith, nodes, counted) in
    let single = implications.single in
    let clauses = c.size_laws-2.ensures.clauses_behind instance axioms implications.flat in
    let variables = c.size_laws-2.ensures.variables_behind instance axioms (all_positives (trees_of axioms))
    implications.flat implications.over in
    record {
      clauses = omega (arith, clauses, size);
      variables = omega (arith, variables, size, single);
    }

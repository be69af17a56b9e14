use Rattle.std.proofs.Common.{◌≡◌, ◌+◌, ◌*◌, ◌≤◌, List}
use Rattle.fol_formula.specs.Syntax.{FormTree, forms_then}
use Rattle.fol_nnf.specs.Normal.{normals}
use Rattle.fol_pool.specs.Trees.{Grows, HasForms, forms_at}
use Rattle.fol_pool.specs.Rows.{AreForms}
use Rattle.pool_nnf.proofs.normals.Normals.+normal.Given as goal

-- A part has a smaller number. At one node what looks a formula up stands above what makes it, that above an atom, and
-- an atom or a term that may be plain above one that is not.
abbrev pub decreases-normal_node : goal.decreases-normal_node
decreases-normal_node l = 4 * l.at.0 + 3

abbrev pub decreases-made_anew : goal.decreases-made_anew
decreases-made_anew l = 4 * l.at.0 + 2

abbrev pub decreases-normal_row : goal.decreases-normal_row
decreases-normal_row l = 4 * l.row.0

abbrev pub decreases-normal_atom : goal.decreases-normal_atom
decreases-normal_atom l = 4 * l.at.0 + 1

abbrev pub decreases-lifted_atom : goal.decreases-lifted_atom
decreases-lifted_atom l = 4 * l.at.0

abbrev pub decreases-leaves_of : goal.decreases-leaves_of
decreases-leaves_of l = 4 * l.at.0 + 1

abbrev pub decreases-lifted_leaves : goal.decreases-lifted_leaves
decreases-lifted_leaves l = 4 * l.at.0

abbrev pub decreases-leaves_of_row : goal.decreases-leaves_of_row
decreases-leaves_of_row l = 4 * l.row.0

abbrev pub invariant-normal_row-loop-first : goal.invariant-normal_row-loop-first
invariant-normal_row-loop-first l = record {
  within : l.rest.0 ≤ l.fn.row.0;
  grows : Grows l.fn.self l.self;
  row : HasForms l.fn.self l.rest.0;
  made : (ps : List FormTree) × AreForms l.self l.parts.items ps
      × (forms_then ps (normals l.positive (forms_at l.fn.self l.rest.0))
      ≡ normals l.positive (forms_at l.fn.self l.fn.row.0));
}

abbrev pub decreases-normal_row-loop-first : goal.decreases-normal_row-loop-first
decreases-normal_row-loop-first l = l.rest.0

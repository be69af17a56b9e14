use Rattle.std.proofs.Common.{◌≡◌, ◌+◌, ◌*◌, ◌≤◌, ◌++◌, List}
use Rattle.fol_formula.specs.Syntax.{FormTree, forms_then}
use Rattle.skolem.specs.Constants.{all_new_sorts, skolem_forms}
use Rattle.fol_pool.specs.Trees.{Grows, HasForms, forms_at}
use Rattle.fol_pool.specs.Rows.{AreForms}
use Rattle.pool_subst.specs.Memos.{AreRight}
use Rattle.pool_skolem.specs.Named.{slots, next}
use Rattle.pool_skolem.specs.Naming.{naming}
use Rattle.pool_skolem.proofs.walk.+skolem.Given as goal

-- a part has a smaller number, and what goes along a row or below an existential stands above what walks its parts
abbrev pub decreases-skolem_node : goal.decreases-skolem_node
decreases-skolem_node l = 2 * l.at.0

abbrev pub decreases-skolem_exists : goal.decreases-skolem_exists
decreases-skolem_exists l = 2 * l.body.0 + 1

abbrev pub decreases-skolem_row : goal.decreases-skolem_row
decreases-skolem_row l = 2 * l.row.0 + 1

abbrev pub invariant-skolem_row-loop-first : goal.invariant-skolem_row-loop-first
invariant-skolem_row-loop-first l = record {
  within : l.rest.0 ≤ l.fn.row.0;
  grows : Grows l.fn.pool l.pool;
  row : HasForms l.fn.pool l.rest.0;
  right : AreRight (naming (slots l.scope)) l.pool l.memo;
  functions : l.constants.functions ≡ l.fn.constants.functions;
  sorts : l.constants.sorts ++ all_new_sorts (forms_at l.fn.pool l.rest.0)
      ≡ l.fn.constants.sorts ++ all_new_sorts (forms_at l.fn.pool l.fn.row.0);
  made : (ps : List FormTree) × AreForms l.pool l.parts.items ps
      × (forms_then ps (skolem_forms (next l.constants) (slots l.scope) (forms_at l.fn.pool l.rest.0))
      ≡ skolem_forms (next l.fn.constants) (slots l.scope) (forms_at l.fn.pool l.fn.row.0));
}

abbrev pub decreases-skolem_row-loop-first : goal.decreases-skolem_row-loop-first
decreases-skolem_row-loop-first l = l.rest.0

use Rattle.std.proofs.Common.{map, drop}
use Rattle.fol_formula.specs.Syntax.{forms_of}
use Rattle.fol_nnf.specs.Normal.{leaf_form}
use Rattle.fol_pool.specs.Trees.{Grows, IsAt, some_forms}
use Rattle.pool_nnf.specs.Leaves.{atom_leaf}
use Rattle.pool_nnf.proofs.normals.Normals.any_of.Given as goal

abbrev pub invariant-loop-i : goal.invariant-loop-i
invariant-loop-i l = record {
  grows : Grows l.fn.self l.self;
  row : IsAt l.self l.row.0 (some_forms (forms_of (map leaf_form (map (atom_leaf l.fn.self) (drop l.i l.leaves)))));
}

use Rattle.std.proofs.Common.{◌≡◌, ◌++◌, length}
use Rattle.std.specs.Prelude.{IsTrue}
use Rattle.std.specs.List.{AllByRecursion, flat_map}
use Rattle.rml_houdini.specs.HoudiniText.{CanRender}
use Rattle.told_answers.specs.SubsetText.{drop_text}
use Rattle.told_answers.proofs.drops.push_drops.Given as goal

abbrev pub invariant-loop-rest : goal.invariant-loop-rest
invariant-loop-rest g l = record {
  can : AllByRecursion (CanRender l.checked) l.rest;
  text : IsTrue l.out.whole → IsTrue l.fn.out.whole × (l.out.text
      ++ flat_map (drop_text l.checked (g.T.InText.told l.source)) l.rest
      ≡ l.fn.out.text ++ flat_map (drop_text l.checked (g.T.InText.told l.source)) l.drops);
}

abbrev pub decreases-loop-rest : goal.decreases-loop-rest
decreases-loop-rest g l = length l.rest

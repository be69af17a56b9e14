use Rattle.std.proofs.Common.{◌≡◌, ◌++◌, length}
use Rattle.std.specs.Prelude.{IsTrue}
use Rattle.std.specs.List.{AllByRecursion}
use Rattle.fol_sig.specs.Symbols.{FitsStructure, symbols}
use Rattle.told_answers.specs.RunsText.{EndIsAlike, parts_text}
use Rattle.told_answers.proofs.showing.push_parts.Given as goal

abbrev pub invariant-loop-rest : goal.invariant-loop-rest
invariant-loop-rest g l = record {
  fits : FitsStructure (symbols l.checked.signature) l.begin;
  sizes : l.begin.sizes ≡ l.start.sizes;
  ends : AllByRecursion (λ part. EndIsAlike l.checked l.start.sizes part.end) l.rest;
  text : IsTrue l.out.whole → IsTrue l.fn.out.whole × (l.out.text
      ++ parts_text l.checked (g.T.InText.told l.source) l.begin l.rest
      ≡ l.fn.out.text ++ parts_text l.checked (g.T.InText.told l.source) l.start l.parts);
}

abbrev pub decreases-loop-rest : goal.decreases-loop-rest
decreases-loop-rest g l = length l.rest

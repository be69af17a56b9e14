use Rattle.std.proofs.Common.{◌≡◌, ◌++◌, [], ◌∷◌, List, ℕ, ◌∙◌, ap, subst}
use Rattle.fol_sig.specs.Tables.{numbers}
use Rattle.rml_report.specs.TableText.{each_tuple, cell_text}
use Rattle.rml_report.proofs.Pieces.{one_more, popped}
use Rattle.rml_report.proofs.structures.+push_cells.Goals as goal

pub loop-element-preserved : goal.loop-element-preserved
loop-element-preserved t c =
    let pushed : c.push.new.self.items ≡ c.args.tuple.now.items ++ c.loop-element.element ∷ [] =
    c.in_ok-push-in-Some.ensures.items ∙ ap (λ (ts : List ℕ). ts ++ c.loop-element.element ∷ [])
    c.loop-element.invariant.tuple in
    let inner = c.in_ok-push_cells-in-Some.ensures in
    record {
      text = one_more c.loop-element.element _ c.loop-element.out.items _ _ c.loop-element.invariant.text
          (subst (λ (ts : List ℕ). c.push_cells.new.out.items ≡ c.loop-element.out.items
          ++ each_tuple c.args.structure.now.sizes (cell_text c.args.structure.now c.args.symbol)
          (numbers c.in-Some.rest.now) ts) pushed inner.text);
      tuple = popped c.args.tuple.now.items c.push.new.self.items c.push_cells.new.tuple.items c.pop.new.self.items
          c.loop-element.element _ c.push_cells.new.tuple.ok.0 pushed inner.tuple c.pop.ensures.rest;
    }

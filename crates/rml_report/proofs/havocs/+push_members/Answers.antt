use Rattle.std.proofs.Common.{◌≡◌, ◌++◌, [], ◌∷◌, List, ℕ, ◌∙◌, ap, subst}
use Rattle.fol_sig.specs.Tables.{numbers}
use Rattle.rml_report.specs.TableText.{each_tuple, member_text}
use Rattle.rml_report.proofs.Pieces.{one_more, popped}
use Rattle.rml_report.proofs.havocs.+push_members.Goals as goal

pub loop-element-preserved : goal.loop-element-preserved
loop-element-preserved t c =
    let pushed : c.push.new.self.items ≡ c.args.tuple.now.items ++ c.loop-element.element ∷ [] =
    c.in_ok-push-in-Some.ensures.items ∙ ap (λ (ts : List ℕ). ts ++ c.loop-element.element ∷ [])
    c.loop-element.invariant.tuple in
    let inner = c.in_ok-push_members-in-Some.ensures in
    record {
      text = one_more c.loop-element.element _ c.loop-element.out.items _ _ c.loop-element.invariant.text
          (subst (λ (ts : List ℕ). c.push_members.new.out.items ≡ c.loop-element.out.items
          ++ each_tuple c.args.structure.now.sizes (member_text c.args.tuples.now)
          (numbers c.in-Some.rest.now) ts) pushed inner.text);
      tuple = popped c.args.tuple.now.items c.push.new.self.items c.push_members.new.tuple.items c.pop.new.self.items
          c.loop-element.element _ c.push_members.new.tuple.ok.0 pushed inner.tuple c.pop.ensures.rest;
    }

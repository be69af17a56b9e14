use Rattle.std.proofs.Common.{◌<◌, length, ap, ◌∙◌}
use Rattle.std.proofs.lemmas.List.Elements.{All-rest}
use Rattle.fol_sig.specs.Tables.{numbers}
use Rattle.report_values.proofs.Scans.{first_and_rest}
use Rattle.report_values.proofs.Turns.{elements_turn}
use Rattle.report_values.proofs.elements.elements_end.Goals as goal

pub loop-rest-preserved : goal.loop-rest-preserved
loop-rest-preserved c =
    let cut = ap numbers (first_and_rest c.loop-rest.rest.now (record { 0 = 0 }) c.in-len1-up.len_at_least) in
    record {
      sorted = All-rest (λ k. k < length c.args.structure.now.sizes) _ _ (numbers c.loop-rest.rest.now) cut
          c.loop-rest.invariant.sorted;
      reads = elements_turn _ _ _ _ _ _ _ _ _ c.element_at.result cut c.element_at.ensures c.in-Some.is
          c.in_ok-push.ensures.pushed ∙ c.loop-rest.invariant.reads;
    }

use Rattle.std.proofs.Common.{◌+◌, ℕ, List, [], ◌∷◌, length, length-append, get_or, ap, ◌∙◌}
use Rattle.cdcl_tables.specs.declared.watches.Watch.{Watch}
use Rattle.cdcl_tables.proofs.Empty.{empty_more}
use Rattle.cdcl_tables.proofs.watches.empty_lists.Goals as goal

pub loop-preserved : goal.loop-preserved
loop-preserved c = record {
  len = ap length c.in_ok-push.ensures.items ∙ length-append c.loop.lists.items (c.new.result ∷ [])
      ∙ ap (λ (n : ℕ). n + 1) c.loop.invariant.len;
  empty = λ i. ap (λ (x : List (List Watch)). get_or x i []) c.in_ok-push.ensures.items
      ∙ empty_more c.loop.lists.items c.new.result i c.new.ensures c.loop.invariant.empty;
}

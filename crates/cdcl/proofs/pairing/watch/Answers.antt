use Rattle.std.proofs.Common.{List, [], ◌∷◌, ◌++◌, length-set, arith, ap, ◌∙◌}
use Rattle.std.proofs.lemmas.Grind.{common_steps}
use Rattle.cdcl_tables.specs.declared.watches.Pair.{Pair}
use Rattle.cdcl_tables.specs.declared.watches.Watches.{Watches}
use Rattle.cdcl.proofs.Adding.{added_both, added_none}
use Rattle.cdcl.proofs.pairing.watch.Goals as goal
use Rattle.cdcl.proofs.pairing.watch.Goals.{then-ne+in_ok-push+in_ok-push-2, else-ne}

pub returns : goal.returns
returns c = record {
  added = elim c.if-ne.branch [
    | then-ne+in_ok-push+in_ok-push-2 w ↦
        (let a = w.if-ne.ensures in
        added_both c.args.watches.now (record { pairs = c.push-2.new.self; lists = c.if-ne.watches.lists })
        w.push.new.self.lists.items c.args.place c.args.pair
        (λ q. grind (arith, common_steps, a, q)) c.requires.place
        (c.in_ok-push-3.ensures.items ∙ ap (λ (x : Watches). x.pairs.items ++ c.args.pair ∷ []) w.watches-is
        ∙ ap (λ (x : List Pair). x ++ c.args.pair ∷ []) (w.in_ok-push-2.ensures.pairs ∙ w.in_ok-push.ensures.pairs))
        (record { small = c.requires.first; same = w.in_ok-push.ensures.lists })
        (record {
          small = rw (w.in_ok-push.ensures.lists, length-set) c.requires.second;
          same = ap (λ (x : Watches). x.lists.items) w.watches-is ∙ w.in_ok-push-2.ensures.lists;
        }))
    | else-ne w ↦
        (let a = w.if-ne.ensures in
        added_none c.args.watches.now (record { pairs = c.push-2.new.self; lists = c.if-ne.watches.lists }) c.args.place
        c.args.pair
        (grind (arith, common_steps, a))
        (c.in_ok-push-3.ensures.items ∙ ap (λ (x : Watches). x.pairs.items ++ c.args.pair ∷ []) w.watches-is)
        (ap (λ (x : Watches). x.lists.items) w.watches-is))
  ];
}

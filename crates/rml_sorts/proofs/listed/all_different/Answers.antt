use Rattle.std.proofs.Common.{◌-◌, refl}
use Rattle.base.specs.Lists.{count_from}
use Rattle.rml_sorts.specs.Listed.{apart_from, all_apart}
use Rattle.rml_sorts.proofs.ListedLists.{number_turn}
use Rattle.rml_sorts.proofs.listed.all_different.Goals as goal

pub loop-name-preserved : goal.loop-name-preserved
loop-name-preserved c =
    number_turn all_apart apart_from (λ k ks. refl) c.loop-name.name c.args.end c.loop-name.parts.items
    c.push_apart.new.parts.items (all_apart (count_from c.args.first (c.args.end - c.args.first)))
    c.loop-name-test.true c.in_ok-push_apart.ensures c.loop-name.invariant

use Rattle.std.proofs.Common.{◌<◌, arith}
use Rattle.std.proofs.lemmas.Grind.{common_steps}
use Rattle.cdcl_tables.proofs.Rising.{before_second}
use Rattle.cdcl_tables.proofs.levels.pop_starts.Goals as goal
use Rattle.cdcl_tables.proofs.levels.pop_starts.Goals.{then-loop-level-test+else-index-second, else-loop-level-test}

pub returns-clause-before : goal.returns-clause-before
returns-clause-before c i h =
    let lt : i < c.loop-level.level =
    (let e = c.truncate.ensures.items in let w = c.loop-level.invariant.within in
    grind (arith, common_steps, e, w, h)) in
    elim c.loop-level-test.branch [
      | then-loop-level-test+else-index-second w ↦ before_second c.args.starts.now.items c.loop-level.level
          c.args.second w.index.result.now i c.requires.rising c.loop-level.invariant.within lt w.index.ensures
          w.if-index-second.false
      | else-loop-level-test w ↦ (let z = w.loop-level-test.false in omega arith)
    ]

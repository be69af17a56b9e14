use Rattle.std.proofs.Common.{◌-◌, ◌∷◌, length, take, drop, sym, ap, ◌∙◌}
use Rattle.rml_report.specs.Reports.{CanRender}
use Rattle.json_outcome.specs.ExecutionData.{first_or_null}
use Rattle.json_outcome.specs.ReportData.{group_data, groups_data}
use Rattle.json_outcome.proofs.Lists.{first_and_rest, known_behind, value_turn}
use Rattle.json_outcome.proofs.report.group_values.Goals as goal

pub loop-rest-preserved : goal.loop-rest-preserved
loop-rest-preserved c =
    let m = c.args.checked.now in
    let xs = c.loop-rest.rest.now in
    let rest = take (length xs - 1) (drop 1 xs) in
    let given = c.loop-rest.given.now in
    let value = group_data m c.group-item.result (first_or_null given) in
    let is = first_and_rest xs c.group-item.result c.in-len1-up.len_at_least c.group-item.is in
    record {
      shown = known_behind (CanRender m) xs c.loop-rest.invariant.shown;
      groups = value_turn (groups_data m xs given) (groups_data m rest c.behind_first-given.result.now)
          (groups_data m c.args.groups.now c.args.branches.now) value c.loop-rest.list c.push.new.self c.group_value.result
          (ap (λ ys. groups_data m ys given) is
          ∙ ap (λ bs. value ∷ groups_data m rest bs) (sym c.behind_first-given.ensures)) c.group_value.ensures c.push.ensures
          c.loop-rest.invariant.groups;
    }

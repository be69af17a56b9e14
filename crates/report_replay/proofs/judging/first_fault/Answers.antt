use Rattle.std.proofs.Common.{◌≡◌, [], ◌∷◌, List, sym, ◌∙◌, ap}
use Rattle.std.specs.List.{flat_map}
use Rattle.printed_report.specs.declared.printed.PrintedGroup.{PrintedGroup}
use Rattle.report_replay.specs.Demands.{group_demands}
use Rattle.report_replay.specs.Judgements.{first_unmet, verdict_demand}
use Rattle.report_replay.proofs.Unmet.{unmet_first, unmet_second}
use Rattle.report_replay.proofs.judging.first_fault.Goals as goal

pub returns-in-Some : goal.returns-in-Some
returns-in-Some c =
    let told : c.in_ok-fault.field-0
    ≡ first_unmet (flat_map (group_demands c.args.checked.now) c.args.printed.now.groups) =
    c.in_ok-fault.ensures
    ∙ ap (λ (gs : List PrintedGroup). first_unmet (flat_map (group_demands c.args.checked.now) gs))
    c.as_slice.ensures in
    unmet_first (flat_map (group_demands c.args.checked.now) c.args.printed.now.groups)
    (verdict_demand c.args.checked.now c.args.printed.now ∷ []) c.in-Some.fault (sym told ∙ c.in-Some.is)

pub returns : goal.returns
returns c =
    let told : c.in_ok-fault.field-0
    ≡ first_unmet (flat_map (group_demands c.args.checked.now) c.args.printed.now.groups) =
    c.in_ok-fault.ensures
    ∙ ap (λ (gs : List PrintedGroup). first_unmet (flat_map (group_demands c.args.checked.now) gs))
    c.as_slice.ensures in
    unmet_second (flat_map (group_demands c.args.checked.now) c.args.printed.now.groups)
    (verdict_demand c.args.checked.now c.args.printed.now ∷ []) c.verdict_fault.result (sym told ∙ c.in_default.is)
    c.verdict_fault.ensures

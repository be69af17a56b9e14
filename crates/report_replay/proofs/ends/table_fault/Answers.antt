use Rattle.std.proofs.Common.{◌+◌, length, sym, ◌∙◌, ap}
use Rattle.report_replay.specs.Demands.{relation_demands, function_demands}
use Rattle.report_replay.specs.Judgements.{first_unmet}
use Rattle.report_replay.proofs.Unmet.{unmet_first, unmet_second}
use Rattle.report_replay.proofs.ends.table_fault.Goals as goal

pub returns-in-Some : goal.returns-in-Some
returns-in-Some c =
    unmet_first
    (relation_demands c.args.after.now c.args.end.now c.args.line 0 (length c.args.checked.now.signature.relations))
    (function_demands c.args.after.now c.args.end.now (c.args.line + length c.args.checked.now.signature.relations) 0
    (length c.args.checked.now.signature.functions)) c.in-Some.fault (sym c.in_ok-fault.ensures ∙ c.in-Some.is)

pub returns : goal.returns
returns c =
    unmet_second
    (relation_demands c.args.after.now c.args.end.now c.args.line 0 (length c.args.checked.now.signature.relations))
    (function_demands c.args.after.now c.args.end.now (c.args.line + length c.args.checked.now.signature.relations) 0
    (length c.args.checked.now.signature.functions)) c.in_ok-fault-2.fault (sym c.in_ok-fault.ensures ∙ c.in_default.is)
    (c.in_ok-fault-2.ensures ∙ ap (λ k. first_unmet
    (function_demands c.args.after.now c.args.end.now (c.args.line + k) 0
    (length c.args.checked.now.signature.functions))) c.relations-relations.ensures)

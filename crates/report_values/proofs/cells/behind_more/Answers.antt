use Rattle.std.proofs.Common.{List, ℕ, sym, ap, ◌∙◌}
use Rattle.rml_report.specs.TableText.{more_text}
use Rattle.line_scan.specs.Scanning.{behind}
use Rattle.report_values.proofs.Scans.{more_turn, more_stop, more_end, first_and_rest}
use Rattle.report_values.proofs.cells.behind_more.Goals as goal

pub returns-in_default-behind_another : goal.returns-in_default-behind_another
returns-in_default-behind_another c =
    sym (more_stop _ _ c.loop-rest.scan c.behind_another.result c.behind_another.ensures c.in_default-behind_another.is)
    ∙ ap (λ (l : List ℕ). behind (more_text l) c.loop-rest.scan)
    (sym (first_and_rest c.loop-rest.rest.now 0 c.in-len1-up.len_at_least))
    ∙ c.loop-rest.invariant

pub loop-rest-preserved : goal.loop-rest-preserved
loop-rest-preserved c =
    sym (more_turn _ _ c.loop-rest.scan c.in-Some.next c.behind_another.result c.behind_another.ensures c.in-Some.is)
    ∙ ap (λ (l : List ℕ). behind (more_text l) c.loop-rest.scan)
    (sym (first_and_rest c.loop-rest.rest.now 0 c.in-len1-up.len_at_least))
    ∙ c.loop-rest.invariant

pub returns : goal.returns
returns c = more_end c.loop-rest.rest.now c.loop-rest.scan c.in_default.len_below ∙ c.loop-rest.invariant

-- What is shown of the answer of `replay`.
use Rattle.std.specs.Prelude.{ℕ, List, ◌++◌, codes}
use Rattle.std.specs.Fmt.{decimal}
use Rattle.report_replay.specs.DenialCodes as denial
use Rattle.report_replay.specs.declared.judged.Judged.{Judged}
use Rattle.report_replay.specs.declared.judged.Judged.TheVariants.{Confirmed, Denied}
use Rattle.told_fault.specs.declared.reading.Reading.{Reading}
use Rattle.json_outcome.specs.ReplayData.{judged_members, unread_members}
use Rattle.commands.specs.Due.{Due}
use Rattle.command_parts.specs.Saying.{on_out, on_err}
use Rattle.replay_command.specs.declared.replay.ReplayAnswer.{ReplayAnswer}
use Rattle.replay_command.specs.declared.replay.ReplayAnswer.TheVariants.{Fault, Unread, Replayed}
use Rattle.view_line.specs.declared.options.Form.{Form}
use Rattle.view_line.specs.declared.options.Form.TheVariants.{Told, Dot, Json}
use Rattle.view_run.specs.Views.{line_of, fault_view}

-- report.txt:12: P4 ..
unfoldable pub line_view : List ℕ → ℕ → ℕ → List ℕ → List ℕ
line_view file line number words =
    file ++ codes ":" ++ decimal line ++ codes ": P" ++ decimal number ++ codes " " ++ words ++ codes "\n"

-- the line that says how many executions of the report were followed
unfoldable pub confirmed_view : ℕ → List ℕ
confirmed_view n = codes "confirmed; executions that were followed: " ++ decimal n ++ codes "\n"

-- that the report is confirmed, or the first line that is denied
abbrev pub judged_told : List ℕ → Judged → List ℕ
judged_told report (Confirmed n) = confirmed_view n
judged_told report (Denied line code) = line_view report line (denial.number_of code) (denial.text_of code)

-- a text, or a JSON value; no picture is asked for
abbrev pub judged_text : Form → List ℕ → List ℕ → Judged → List ℕ
judged_text Told file report judged = judged_told report judged
judged_text Dot file report judged = judged_told report judged
judged_text Json file report judged = line_of file (judged_members judged)

-- 0 where the report is confirmed, 1 where a line is denied
abbrev pub judged_status : Judged → ℕ
judged_status (Confirmed n) = 0
judged_status (Denied line code) = 1

-- a line that no printed report of the model has there
abbrev pub unread_view : Form → List ℕ → List ℕ → ℕ → Due
unread_view Told file report line = on_err (line_view report line 1 (codes "unexpected line")) 4
unread_view Dot file report line = on_err (line_view report line 1 (codes "unexpected line")) 4
unread_view Json file report line = on_out (line_of file (unread_members line)) 4

-- what is due on a sink, and the status: of the model's fault, an unread line, or a judged report
abbrev pub replay_view : Form → List ℕ → List ℕ → List ℕ → Reading → ReplayAnswer → Due
replay_view form file report text reading (Fault fault) = fault_view form (codes "replay") file text fault reading
replay_view form file report text reading (Unread unread) = unread_view form file report unread.line
replay_view form file report text reading (Replayed judged) =
    on_out (judged_text form file report judged) (judged_status judged)

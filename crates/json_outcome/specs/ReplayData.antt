-- What is found of a printed report, as data.
use Rattle.std.specs.Prelude.{ℕ, List, [], ◌∷◌, codes}
use Rattle.serde_json.specs.Data.{Data, Members, string, no_members}
use Rattle.report_replay.specs.DenialCodes as denial
use Rattle.report_replay.specs.declared.judged.Judged.{Judged}
use Rattle.report_replay.specs.declared.judged.Judged.TheVariants.{Confirmed, Denied}
use Rattle.json_values.specs.Values.{number_data, set_each}

-- the command, and what it answers
abbrev pub replayed : List ℕ → List (List ℕ × Data) → Members
replayed answer more =
    set_each no_members ((codes "command", string (codes "replay")) ∷ (codes "answer", string answer) ∷ more)

-- how many executions were followed; or which line says what is not so, and what
unfoldable pub judged_members : Judged → Members
judged_members (Confirmed n) = replayed (codes "confirmed") ((codes "executions", number_data n) ∷ [])
judged_members (Denied line code) =
    replayed (codes "denied") ((codes "line", number_data line) ∷ (codes "code", number_data (denial.number_of code))
    ∷ (codes "text", string (denial.text_of code)) ∷ [])

-- which line no printed report has there
unfoldable pub unread_members : ℕ → Members
unread_members line = replayed (codes "unread") ((codes "line", number_data line) ∷ [])

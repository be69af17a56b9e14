-- The command lines of the program: a command's word first, and behind it words that `clap` takes for that command.
use Rattle.std.specs.Prelude.{ℕ, ◌==◌, true, List, [], ◌∷◌, length, Option, Some, None, option_map, option_and_then}
use Rattle.std.specs.Prelude.{codes, if◌then◌else◌}
use Rattle.std.specs.Str.{bytes_eq}
use Rattle.clap.specs.declared.builder.action.ArgAction.TheVariants.{Set}
use Rattle.clap.specs.Words.{App, Row, Rule, Text, new_app, new_rule, with_rule, fault_of, matches_of, first_of}
use Rattle.command_line.specs.Numbers.{number_option, required_option, required_number, number_in, number_of}
use Rattle.command_line.specs.Asking.{default_asked}
use Rattle.command_line.specs.declared.request.Asked.{Asked}
use Rattle.command_line.specs.declared.request.Bound.{Bound}
use Rattle.command_line.specs.declared.request.Emission.{Emission}
use Rattle.command_line.specs.declared.request.What.{What}
use Rattle.command_line.specs.declared.request.What.TheVariants.{Cnf, Lrat}
use Rattle.command_line.specs.declared.request.Request.{Request}
use Rattle.command_line.specs.declared.request.Request.TheVariants as request

-- a command line: what it asks for, with the names of its files
pub data Line : Type 0 where
  check : Text → Asked → Line
  houdini : Text → Asked → Line
  bmc : Text → Bound → Line
  lrat : Text → Text → Line
  replay : Text → Text → Line
  emit : Text → Emission → Line
  sample : ℕ → Line

-- what a request asks for, with the names of its files
abbrev pub request_line : Request → Line
request_line (request.Check file asked) = check file.now asked
request_line (request.Houdini file asked) = houdini file.now asked
request_line (request.Bmc file bound) = bmc file.now bound
request_line (request.Lrat formula log) = lrat formula.now log.now
request_line (request.Replay model report) = replay model.now report.now
request_line (request.Emit file emission) = emit file.now emission
request_line (request.Sample n) = sample n

-- an argument that has to be there
abbrev pub required_rule : Text → Rule
required_rule id = record (new_rule id) { action = Some Set; required = true }

-- the options of a decision
abbrev pub with_limits : App → App
with_limits app =
    with_rule (with_rule (with_rule app (number_option (codes "terms") 1 100000))
    (number_option (codes "ground") 1 50000000))
    (number_option (codes "conflicts") 1 100000000)

-- a command that takes the file of a model and these options
abbrev pub model_app : Text → App
model_app word = with_limits (with_rule (new_app word) (required_rule (codes "FILE")))

-- the commands as `clap` knows them
abbrev pub check_app : App
check_app = model_app (codes "check")

abbrev pub houdini_app : App
houdini_app = model_app (codes "houdini")

abbrev pub bmc_app : App
bmc_app = with_limits (with_rule (with_rule (new_app (codes "bmc")) (required_rule (codes "FILE")))
    (required_option (codes "steps") 0 12))

-- a command that takes two files
abbrev pub files_app : Text → Text → Text → App
files_app word first second = with_rule (with_rule (new_app word) (required_rule first)) (required_rule second)

abbrev pub lrat_app : App
lrat_app = files_app (codes "lrat") (codes "CNF") (codes "LOG")

abbrev pub replay_app : App
replay_app = files_app (codes "replay") (codes "MODEL") (codes "REPORT")

abbrev pub emit_app : App
emit_app = with_limits (with_rule (with_rule (with_rule (new_app (codes "emit")) (required_rule (codes "FILE")))
    (required_number (codes "GOAL") 1 1000000000)) (required_rule (codes "WHAT")))

abbrev pub sample_app : App
sample_app = with_rule (new_app (codes "sample")) (required_number (codes "N") 0 40)

-- what `clap` makes of the words for a command: its arguments with their values, where it has nothing against the words
abbrev pub matched : App → List Text → Option (List Row)
matched app words = if length (fault_of app words) == 0 then Some (matches_of app words) else None

-- what a decision may spend, by the options; what is left out has its default
abbrev pub asked_by : List Row → Option Asked
asked_by rows =
    option_and_then
    (λ terms. option_and_then
    (λ size. option_map (λ conflicts. record { terms = terms; ground_size = size; conflicts = conflicts })
    (number_of 1 100000000 default_asked.conflicts (first_of (codes "conflicts") rows)))
    (number_of 1 50000000 default_asked.ground_size (first_of (codes "ground") rows)))
    (number_of 1 100000 default_asked.terms (first_of (codes "terms") rows))

-- what these arguments of the command ask for, where `clap` found them
abbrev pub check_by : Option (List Row) → Option Line
check_by rows =
    option_and_then
    (λ rows. option_and_then (λ file. option_map (check file) (asked_by rows)) (first_of (codes "FILE") rows)) rows

abbrev pub houdini_by : Option (List Row) → Option Line
houdini_by rows =
    option_and_then
    (λ rows. option_and_then (λ file. option_map (houdini file) (asked_by rows)) (first_of (codes "FILE") rows)) rows

-- how far runs are followed, and what a decision may spend
abbrev pub bound_by : List Row → Option Bound
bound_by rows =
    option_and_then (λ steps. option_map (λ asked. record { steps = steps; limits = asked }) (asked_by rows))
    (option_and_then (number_in 0 12) (first_of (codes "steps") rows))

abbrev pub bmc_by : Option (List Row) → Option Line
bmc_by rows =
    option_and_then
    (λ rows. option_and_then (λ file. option_map (bmc file) (bound_by rows)) (first_of (codes "FILE") rows)) rows

-- the two files that these arguments name
abbrev pub files_by : (Text → Text → Line) → Text → Text → Option (List Row) → Option Line
files_by line first second rows =
    option_and_then
    (λ rows. option_and_then (λ file. option_map (line file) (first_of second rows)) (first_of first rows)) rows

abbrev pub lrat_by : Option (List Row) → Option Line
lrat_by rows = files_by lrat (codes "CNF") (codes "LOG") rows

abbrev pub replay_by : Option (List Row) → Option Line
replay_by rows = files_by replay (codes "MODEL") (codes "REPORT") rows

-- what is to be written, by its word
abbrev pub what_of : Text → Option What
what_of word =
    if bytes_eq word (codes "cnf") then Some Cnf
    else if bytes_eq word (codes "lrat") then Some Lrat
    else None

-- a goal's number, what is to be written of it, and what a decision may spend
abbrev pub emission_by : List Row → Option Emission
emission_by rows =
    option_and_then
    (λ goal. option_and_then
    (λ what. option_map (λ asked. record { goal = goal; what = what; limits = asked }) (asked_by rows))
    (option_and_then what_of (first_of (codes "WHAT") rows)))
    (option_and_then (number_in 1 1000000000) (first_of (codes "GOAL") rows))

abbrev pub emit_by : Option (List Row) → Option Line
emit_by rows =
    option_and_then
    (λ rows. option_and_then (λ file. option_map (emit file) (emission_by rows)) (first_of (codes "FILE") rows))
    rows

abbrev pub sample_by : Option (List Row) → Option Line
sample_by rows =
    option_and_then (λ rows. option_map sample (option_and_then (number_in 0 40) (first_of (codes "N") rows))) rows

-- what words ask for that begin with a command's word
unfoldable pub check_line : List Text → Option Line
check_line words = check_by (matched check_app words)

unfoldable pub houdini_line : List Text → Option Line
houdini_line words = houdini_by (matched houdini_app words)

unfoldable pub bmc_line : List Text → Option Line
bmc_line words = bmc_by (matched bmc_app words)

unfoldable pub lrat_line : List Text → Option Line
lrat_line words = lrat_by (matched lrat_app words)

unfoldable pub replay_line : List Text → Option Line
replay_line words = replay_by (matched replay_app words)

unfoldable pub emit_line : List Text → Option Line
emit_line words = emit_by (matched emit_app words)

unfoldable pub sample_line : List Text → Option Line
sample_line words = sample_by (matched sample_app words)

-- the first word is the command's
abbrev pub line_of : List Text → Option Line
line_of [] = None
line_of (command ∷ words) =
    if bytes_eq command (codes "check") then check_line (command ∷ words)
    else if bytes_eq command (codes "houdini") then houdini_line (command ∷ words)
    else if bytes_eq command (codes "bmc") then bmc_line (command ∷ words)
    else if bytes_eq command (codes "lrat") then lrat_line (command ∷ words)
    else if bytes_eq command (codes "replay") then replay_line (command ∷ words)
    else if bytes_eq command (codes "emit") then emit_line (command ∷ words)
    else if bytes_eq command (codes "sample") then sample_line (command ∷ words)
    else None

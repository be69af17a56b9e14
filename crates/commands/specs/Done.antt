-- An answer with its text.
use Rattle.std.specs.Prelude.{Result, Ok, Err}
use Rattle.rml_bytes.specs.declared.outside.LoadError.{LoadError}
use Rattle.commands.specs.Due.{Due, stop_due}
use Rattle.commands.specs.declared.command.Done.{Done}

-- the answer without its text
abbrev pub outcome_in : {A : Type 0} → Result (Done A) LoadError → Result A LoadError
outcome_in (Ok done) = Ok done.answer
outcome_in (Err why) = Err why

-- what is due for the outcome: the text of its answer, or what is said where there is none
abbrev pub due_in : {A : Type 0} → Result (Done A) LoadError → Due
due_in (Ok done) = done.said
due_in (Err why) = stop_due why

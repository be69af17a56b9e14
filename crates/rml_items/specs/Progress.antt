-- How far the judging of the items has come.
use Rattle.std.specs.Prelude.{◌≡◌, Option, Some, None, Result, Ok, Err}
use Rattle.base.specs.declared.refused.Refused.{Refused}
use Rattle.base.specs.declared.refused.Refused.TheVariants.{For}
use Rattle.rml_lex.specs.declared.token.Fault.{Fault}
use Rattle.rml_names.specs.Drafts.{words_in}
use Rattle.rml_items.specs.declared.items.Progress.{Progress}
use Rattle.rml_items.specs.Items.{Standing}

-- what the items so far declare, as plain data
abbrev pub standing_of : Progress → Standing
standing_of p = record { words = words_in p.known; has_init = p.has_init; has_last = p.has_last }

-- where there is a fault, it is the refusal
abbrev pub Unless : Option Fault → Result (Unit {0}) (Refused Fault) → Type 0
Unless (Some f) r = r ≡ Err (For f)
Unless None r = r ≡ Ok tt

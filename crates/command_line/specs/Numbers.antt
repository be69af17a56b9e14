-- Words that are numbers in a range.
use Rattle.std.specs.Prelude.{ℕ, true, Option, Some, None, if◌then◌else◌}
use Rattle.std.specs.Str.Parse.{digits_value, without_leading_plus}
use Rattle.clap.specs.ValueTests.{is_unsigned_in}
use Rattle.clap.specs.declared.builder.action.ArgAction.TheVariants.{Set}
use Rattle.clap.specs.declared.builder.value_parser.ValueParser.TheVariants as parser
use Rattle.clap.specs.Words.{Rule, Text, new_rule}

-- an option `--id N`, with N in a range
abbrev pub number_option : Text → ℕ → ℕ → Rule
number_option id low high =
    record (new_rule id) { long = Some id; action = Some Set; parser = Some (parser.Unsigned low high) }

-- an option `--id N` that has to be there, with N in a range
abbrev pub required_option : Text → ℕ → ℕ → Rule
required_option id low high = record (number_option id low high) { required = true }

-- an argument that has to be there, and is a number in a range
abbrev pub required_number : Text → ℕ → ℕ → Rule
required_number id low high =
    record (new_rule id) { action = Some Set; required = true; parser = Some (parser.Unsigned low high) }

-- the number that a word is, where it is one in this range; `clap` takes no other word for it
abbrev pub number_in : ℕ → ℕ → Text → Option ℕ
number_in low high text =
    if is_unsigned_in low high text then Some (digits_value 10 (without_leading_plus text)) else None

-- the number of an option, or what stands for it where it is left out
abbrev pub number_of : ℕ → ℕ → ℕ → Option Text → Option ℕ
number_of low high default None = Some default
number_of low high default (Some text) = number_in low high text

-- The options of `ivyview` alone, anywhere among the words.
use Rattle.std.specs.Prelude.{Bool, true, false, ◌||◌, List, [], ◌∷◌, Option, Some, None, option_map, codes}
use Rattle.std.specs.Prelude.{if◌then◌else◌}
use Rattle.std.specs.Str.{bytes_eq}
use Rattle.clap.specs.Words.{Text}
use Rattle.view_line.specs.declared.options.Form.{Form}
use Rattle.view_line.specs.declared.options.Form.TheVariants.{Told, Dot, Json}
use Rattle.view_line.specs.declared.options.Options.{Options}

-- `--lean`, `--dot` or `--json`
abbrev pub is_own : Text → Bool
is_own word = bytes_eq word (codes "--lean") || (bytes_eq word (codes "--dot") || bytes_eq word (codes "--json"))

-- the words without these options
abbrev pub others : List Text → List Text
others [] = []
others (word ∷ words) = if is_own word then others words else word ∷ others words

-- the option is one of the words
abbrev pub has : Text → List Text → Bool
has option [] = false
has option (word ∷ words) = bytes_eq word option || has option words

-- by whether `--dot` and `--json` stand: a text where neither does, and none where both do
abbrev pub form_by : Bool → Bool → Option Form
form_by false false = Some Told
form_by true false = Some Dot
form_by false true = Some Json
form_by true true = None

-- a picture and a JSON value are not asked for at once
abbrev pub options_of : List Text → Option Options
options_of words =
    option_map (λ form. record { lean = has (codes "--lean") words; form = form })
    (form_by (has (codes "--dot") words) (has (codes "--json") words))

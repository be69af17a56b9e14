-- Texts with the sink and the status that go with them.
use Rattle.std.specs.Prelude.{ℕ, List}
use Rattle.commands.specs.Due.{Due}
use Rattle.commands.specs.declared.side.Side.TheVariants as side

-- a verdict, or what was asked for
abbrev pub on_out : List ℕ → ℕ → Due
on_out text status = record { side = side.Out; text = text; status = status }

-- what is said in place of one
abbrev pub on_err : List ℕ → ℕ → Due
on_err text status = record { side = side.Err; text = text; status = status }

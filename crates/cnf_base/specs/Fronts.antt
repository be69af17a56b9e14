-- The word in front of some bytes, if they begin with one.
use Rattle.std.specs.Prelude.{ℕ, not, List}
use Rattle.std.specs.List.{prefix_len}
use Rattle.base.specs.Bytes.{is_blank}

-- how many bytes stand before the next blank
abbrev pub word_len : List ℕ → ℕ
word_len bytes = prefix_len (λ b. not (is_blank b)) bytes

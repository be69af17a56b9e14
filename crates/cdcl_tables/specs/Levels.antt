-- Where levels begin.
use Rattle.std.specs.Prelude.{ℕ, ◌<◌, List, length, get_or}

-- each level begins behind the one before
abbrev pub AreRising : List ℕ → Type 0
AreRising starts = (i j : ℕ) → i < j → j < length starts → get_or starts i 0 < get_or starts j 0

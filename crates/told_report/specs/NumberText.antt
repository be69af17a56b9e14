-- Numbers between words.
use Rattle.std.specs.Prelude.{ℕ, List, ◌++◌}
use Rattle.std.specs.Fmt.{decimal}

-- a number between two words
unfoldable pub numbered : List ℕ → ℕ → List ℕ → List ℕ
numbered before n behind = before ++ decimal n ++ behind

-- two numbers, with words before, between and behind them
unfoldable pub two_numbered : List ℕ → ℕ → List ℕ → ℕ → List ℕ → List ℕ
two_numbered before n between most behind = numbered before n between ++ decimal most ++ behind

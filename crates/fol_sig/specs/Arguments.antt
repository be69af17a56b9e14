-- How many arguments a symbol may have. A tuple of arguments then lies in place, and takes no memory.
use Rattle.std.specs.Prelude.{ℕ}

abbrev pub max_arguments : ℕ
max_arguments = 8

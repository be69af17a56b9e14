-- What is read where a list has ended.
use Rattle.cdcl_tables.specs.declared.watches.Pair.{Pair}
use Rattle.cdcl_tables.specs.declared.watches.Watch.{Watch}

-- no clause has it, since its two literals are one
abbrev pub no_pair : Pair
no_pair = record { first = 0; second = 0 }

abbrev pub no_watch : Watch
no_watch = record { place = 0; blocker = 0 }

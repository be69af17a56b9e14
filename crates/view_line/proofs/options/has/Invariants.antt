-- What is left has the word exactly where all words have it.
use Rattle.std.proofs.Common.{◌≡◌, map, string_bytes, length}
use Rattle.view_line.specs.Options.{has}
use Rattle.view_line.proofs.options.has.Given as goal

abbrev pub invariant-loop-rest : goal.invariant-loop-rest
invariant-loop-rest l =
    has l.option (map (λ w. string_bytes w) l.rest) ≡ has l.option (map (λ w. string_bytes w) l.words)

abbrev pub decreases-loop-rest : goal.decreases-loop-rest
decreases-loop-rest l = length l.rest

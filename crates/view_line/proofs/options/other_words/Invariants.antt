-- What is kept, and behind it what is to be kept of the rest.
use Rattle.std.proofs.Common.{◌≡◌, ◌++◌, map, string_bytes, length}
use Rattle.view_line.specs.Options.{others}
use Rattle.view_line.proofs.options.other_words.Given as goal

abbrev pub invariant-loop-rest : goal.invariant-loop-rest
invariant-loop-rest l =
    map (λ w. string_bytes w) l.kept.items ++ others (map (λ w. string_bytes w) l.rest)
    ≡ others (map (λ w. string_bytes w) l.words)

abbrev pub decreases-loop-rest : goal.decreases-loop-rest
decreases-loop-rest l = length l.rest

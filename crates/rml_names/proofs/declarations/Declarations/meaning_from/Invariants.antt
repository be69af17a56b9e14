use Rattle.std.proofs.Common.{◌≡◌, ◌≤◌, ◌+◌, length}
use Rattle.rml_names.specs.Meanings.{meaning_from}
use Rattle.rml_names.specs.Scopes.{bound_names, max_bound}
use Rattle.rml_names.specs.Drafts.{words_in}
use Rattle.rml_names.proofs.declarations.Declarations.meaning_from.Given as goal

abbrev pub invariant-loop-around : goal.invariant-loop-around
invariant-loop-around l =
    (meaning_from (words_in l.fn.self) l.index (bound_names l.around) l.fn.name
    ≡ meaning_from (words_in l.fn.self) l.fn.depth (bound_names l.fn.scope) l.fn.name)
    × (l.index + length (bound_names l.around) ≤ max_bound)

abbrev pub decreases-loop-around : goal.decreases-loop-around
decreases-loop-around l = length (bound_names l.around)

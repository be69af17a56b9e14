-- The limit of a formula's size.
use Rattle.std.specs.Prelude.{◌||◌, nat_lt, Bool}
use Rattle.fol_formula.specs.Counts.{form_nodes, form_depth}
use Rattle.fol_formula.specs.Syntax.{FormTree}

-- over a million nodes, or over a thousand deep
abbrev pub is_too_large : FormTree → Bool
is_too_large p = nat_lt 1000000 (form_nodes p) || nat_lt 1000 (form_depth p)

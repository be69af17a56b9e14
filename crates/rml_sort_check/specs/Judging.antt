-- The first fault of a part by those of its parts.
use Rattle.std.specs.Prelude.{ℕ, Option, Some}
use Rattle.rml_lex.specs.declared.token.Fault.{Fault}
use Rattle.rml_sort_check.specs.declared.wanted.Wanted.{Wanted}
use Rattle.rml_sort_check.specs.declared.wanted.Wanted.TheVariants.{Formula, Term}
use Rattle.rml_sort_check.specs.Demands.{no_term_code}

-- the fault of a compound formula where it stands, by the first fault of its parts
abbrev pub compound_fault : Wanted → ℕ → Option Fault → Option Fault
compound_fault Formula at parts = parts
compound_fault (Term expected) at parts = Some (record { code = no_term_code at parts; at = at })

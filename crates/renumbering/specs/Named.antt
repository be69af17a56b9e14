-- Literals, clauses and lines under the names of their variables: variable v has the v-th name of a list.
use Rattle.std.specs.Prelude.{ℕ, ◌-◌, List, get_or, map}
use Rattle.cnf_base.specs.declared.cnf.Entry.{Entry}
use Rattle.cnf_base.specs.declared.cnf.Entry.TheVariants.{Clause, True}
use Rattle.cnf_base.specs.Literals.{variable_of, is_positive, literal_of}
use Rattle.lrat_log.specs.declared.line.Line.{Line}
use Rattle.lrat_log.specs.declared.line.Line.TheVariants.{Add, Delete}

-- the literal of the variable that has the name, with the sign of l
abbrev pub named : List ℕ → ℕ → ℕ
named names l = literal_of (is_positive l) (get_or names (variable_of l - 1) 0)

-- the clause of the named literals
abbrev pub named_entry : List ℕ → Entry → Entry
named_entry names (Clause c) = Clause (map (named names) c)
named_entry names True = True

-- the line with named literals; ids and hints stay
abbrev pub named_line : List ℕ → Line → Line
named_line names (Add id ls hints) = Add id (map (named names) ls) hints
named_line names (Delete id ids) = Delete id ids

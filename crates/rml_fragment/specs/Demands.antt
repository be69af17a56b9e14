-- What a sentence of a text must be, and the fault where it is not.
use Rattle.std.specs.Prelude.{true, false}
use Rattle.fol_formula.specs.Syntax.{FormTree}
use Rattle.fol_formula.specs.Fragments.{IsUniversal, IsExistsForall}
use Rattle.rml_lex.specs.declared.fault_code.FaultCode.{FaultCode}
use Rattle.rml_lex.specs.declared.fault_code.FaultCode.TheVariants as fault_code
use Rattle.rml_command.specs.declared.places.Word.{Word}
use Rattle.rml_command.specs.declared.places.Word.TheVariants as word
use Rattle.rml_fragment.specs.declared.demand.Demand.{Demand}
use Rattle.rml_fragment.specs.declared.demand.Demand.TheVariants as demand

-- No existential stands in the scope of a universal; the same of the negation; both; no existential stands anywhere.
-- Each is said of the formula with its negations at the atoms, and quantifiers inside `ite` are not looked at.
abbrev pub Meets : Demand → FormTree → Type 0
Meets demand.ExistsForall p = IsExistsForall true p
Meets demand.ForallExists p = IsExistsForall false p
Meets demand.AlternationFree p = IsExistsForall true p × IsExistsForall false p
Meets demand.Universal p = IsUniversal true p

-- the code of a sentence that is not so
abbrev pub code_of : Demand → FaultCode
code_of demand.ExistsForall = fault_code.NotExistsForall
code_of demand.ForallExists = fault_code.NotExistsForall
code_of demand.AlternationFree = fault_code.NotAlternationFree
code_of demand.Universal = fault_code.NotUniversal

-- An assumption is to be exists-forall, and so is the negation of what is asserted. Both branches of an `if` assume:
-- one the condition, one its negation.
abbrev pub demand_of : Word → Demand
demand_of word.Assume = demand.ExistsForall
demand_of word.Assert = demand.ForallExists
demand_of word.If = demand.AlternationFree

-- The faults of a model whose names and sorts are right: where it leaves the fragment, and where a block has too many
-- paths.
use Rattle.std.specs.Prelude.{◌≡◌, ◌⊎◌, ℕ, ◌<◌, List, length, Some, slice_get}
use Rattle.fol_sig.specs.Strata.{IsFirstCycle}
use Rattle.fol_sig.specs.Symbols.{symbols}
use Rattle.fol_formula.specs.Syntax.{FormTree}
use Rattle.rml_lex.specs.declared.token.Fault.{Fault}
use Rattle.rml_lex.specs.declared.fault_code.FaultCode.{FaultCode}
use Rattle.rml_lex.specs.declared.fault_code.FaultCode.TheVariants as fault_code
use Rattle.rml_command.specs.Trees.{CommandTree}
use Rattle.rml_command.specs.Paths.{max_paths, paths_of}
use Rattle.base.specs.Lists.{SomeOf}
use Rattle.rml_command.specs.Models.{ModelTree}
use Rattle.rml_command.specs.declared.places.Condition.{Condition}
use Rattle.rml_fragment.specs.Demands.{Meets, code_of, demand_of}
use Rattle.rml_fragment.specs.First.{IsFirst, SomePlaced}
use Rattle.rml_fragment.specs.declared.demand.Demand.{Demand}
use Rattle.rml_fragment.specs.declared.demand.Demand.TheVariants as demand

-- at the name of the first function that closes a cycle with those before it
pub record ClosesCycle (m : ModelTree) (fault : Fault) : Type 0 where
  pub code : fault.code ≡ fault_code.FunctionCycle
  pub function : ℕ
  pub first : IsFirstCycle (symbols m.signature) function
  pub at : slice_get m.places.functions function ≡ Some fault.at

-- a sentence is not what it must be
abbrev pub Misses : Demand → FormTree → FaultCode → Type 0
Misses d p code = (code ≡ code_of d) × (Meets d p → ⊥)

-- at an axiom's name
abbrev pub AxiomMisses : ModelTree → Fault → Type 0
AxiomMisses m fault = SomePlaced (Misses demand.ExistsForall) m.axioms m.places.axioms fault

-- at a conjecture's name
abbrev pub ConjectureMisses : ModelTree → Fault → Type 0
ConjectureMisses m fault = SomePlaced (Misses demand.Universal) m.conjectures m.places.conjectures fault

-- at the word `assume`, `assert` or `if`
abbrev pub ConditionMisses : List Condition → Fault → Type 0
ConditionMisses conditions fault =
    SomeOf (λ c. (fault.at ≡ c.at) × Misses (demand_of c.word) c.sentence fault.code) conditions

-- at a quantifier inside an `ite` or on the right of `:=`
abbrev pub QuantifierStands : List ℕ → Fault → Type 0
QuantifierStands places fault = SomeOf (λ at. (fault.at ≡ at) × (fault.code ≡ fault_code.NotQuantifierFree)) places

-- A sentence or a right side of the model leaves the fragment, by this fault.
abbrev pub SentenceBreaks : ModelTree → Fault → Type 0
SentenceBreaks m fault =
    AxiomMisses m fault
    ⊎ (ConjectureMisses m fault
    ⊎ (ConditionMisses m.places.conditions fault
    ⊎ QuantifierStands m.places.quantifiers fault))

-- The model leaves the fragment, by this fault.
abbrev pub Breaks : ModelTree → Fault → Type 0
Breaks m fault = ClosesCycle m fault ⊎ SentenceBreaks m fault

-- a block has more paths than it may
abbrev pub HasManyPaths : CommandTree → FaultCode → Type 0
HasManyPaths block code = (code ≡ fault_code.TooManyPaths) × (max_paths < length (paths_of block))

-- A block has too many paths, by this fault: at `init`, the action's name or `final`.
abbrev pub HasLongBlock : ModelTree → Fault → Type 0
HasLongBlock m fault =
    ((fault.at ≡ m.places.init) × HasManyPaths m.init fault.code)
    ⊎ (SomePlaced HasManyPaths m.actions m.places.actions fault
    ⊎ ((fault.at ≡ m.places.last) × HasManyPaths m.last fault.code))

-- The fault of a model: the first by which it leaves the fragment, and only where there is none, the first of its
-- blocks.
abbrev pub IsFault : ModelTree → Fault → Type 0
IsFault m fault = IsFirst (Breaks m) fault ⊎ (((other : Fault) → Breaks m other → ⊥) × IsFirst (HasLongBlock m) fault)

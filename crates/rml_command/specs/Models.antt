-- Models as plain data, and what holds of every one.
use Rattle.std.specs.Prelude.{◌≡◌, ◌⊎◌, ℕ, ◌+◌, ◌<◌, ◌≤◌, List, [], length, reverse}
use Rattle.std.specs.List.{AllByRecursion}
use Rattle.fol_sig.specs.Tables.{Declared}
use Rattle.fol_sig.specs.Symbols.{Symbols, symbols}
use Rattle.fol_formula.specs.Syntax.{FormTree, negation}
use Rattle.fol_formula.specs.Fits.{FitsForm, FitsTerm}
use Rattle.fol_formula.specs.Fragments.{IsQuantifierFree, IsQuantifierFreeTerm, HasPlainTerms}
use Rattle.rml_command.specs.Trees.{
  PrimitiveTree,
  assume,
  set_rel,
  set_fun,
  havoc,
  havoc_rel,
  abort,
  CommandTree,
  EachPrimitive,
  HasBranches,
}
use Rattle.base.specs.Lists.{SomeOf}
use Rattle.rml_command.specs.declared.names.Names.{Names}
use Rattle.rml_command.specs.declared.places.Word.{Word}
use Rattle.rml_command.specs.declared.places.Word.TheVariants as word
use Rattle.rml_command.specs.declared.places.Condition.{Condition}
use Rattle.rml_command.specs.declared.places.Places.{Places}

-- a model: its symbols, its sentences, its blocks, and its text's names and places
pub record ModelTree : Type 0 where
  pub signature : Declared
  pub names : Names
  pub axioms : List FormTree
  pub conjectures : List FormTree
  pub init : CommandTree
  pub actions : List CommandTree
  pub last : CommandTree
  pub places : Places

-- each block of a model is so
pub record EachBlock (P : CommandTree → Type 0) (m : ModelTree) : Type 0 where
  pub init : P m.init
  pub actions : AllByRecursion P m.actions
  pub last : P m.last

-- a primitive has only symbols of the signature, with the right sorts; a havoc is of a variable or of a relation
abbrev pub FitsPrimitive : Symbols → PrimitiveTree → Type 0
FitsPrimitive sig (assume p) = FitsForm sig [] p
FitsPrimitive sig (set_rel r by) = (r < sig.relations) × FitsForm sig (reverse (sig.sorts_of r)) by
FitsPrimitive sig (set_fun f by) = (f < sig.functions) × FitsTerm sig (reverse (sig.from_of f)) by (sig.into_of f)
FitsPrimitive sig (havoc v) = (v < sig.functions) × (sig.from_of v ≡ []) × (sig.into_of v < sig.sorts)
FitsPrimitive sig (havoc_rel r) = r < sig.relations
FitsPrimitive sig abort = Unit {0}

-- each primitive of a command fits
abbrev pub FitsCommand : Symbols → CommandTree → Type 0
FitsCommand sig c = EachPrimitive (FitsPrimitive sig) c

-- each primitive of a path fits
abbrev pub FitsPath : Symbols → List PrimitiveTree → Type 0
FitsPath sig p = AllByRecursion (FitsPrimitive sig) p

-- A primitive that fits and is no havoc of a relation: a step of a path where each of these is written out.
abbrev pub FitsStep : Symbols → PrimitiveTree → Type 0
FitsStep sig (assume p) = FitsPrimitive sig (assume p)
FitsStep sig (set_rel r by) = FitsPrimitive sig (set_rel r by)
FitsStep sig (set_fun f by) = FitsPrimitive sig (set_fun f by)
FitsStep sig (havoc v) = FitsPrimitive sig (havoc v)
FitsStep sig (havoc_rel r) = ⊥
FitsStep sig abort = FitsPrimitive sig abort

-- each primitive of a path is such a step
abbrev pub FitsSteps : Symbols → List PrimitiveTree → Type 0
FitsSteps sig p = AllByRecursion (FitsStep sig) p

-- The sentences and blocks of a model have only symbols of its signature, with the right sorts.
pub record FitsModel (m : ModelTree) : Type 0 where
  pub axioms : AllByRecursion (FitsForm (symbols m.signature) []) m.axioms
  pub conjectures : AllByRecursion (FitsForm (symbols m.signature) []) m.conjectures
  pub blocks : EachBlock (FitsCommand (symbols m.signature)) m

-- each thing has a name
pub record IsNamed (m : ModelTree) : Type 0 where
  pub sorts : length m.names.sorts ≡ m.signature.sorts
  pub relations : length m.names.relations ≡ length m.signature.relations
  pub functions : length m.names.functions ≡ length m.signature.functions
  pub axioms : length m.names.axioms ≡ length m.axioms
  pub conjectures : length m.names.conjectures ≡ length m.conjectures
  pub actions : length m.names.actions ≡ length m.actions

-- each thing has a place
pub record IsPlaced (m : ModelTree) : Type 0 where
  pub functions : length m.places.functions ≡ length m.signature.functions
  pub axioms : length m.places.axioms ≡ length m.axioms
  pub conjectures : length m.places.conjectures ≡ length m.conjectures
  pub actions : length m.places.actions ≡ length m.actions

-- each place is among n bytes
pub record ArePlacesWithin (n : ℕ) (p : Places) : Type 0 where
  pub functions : AllByRecursion (λ at. at ≤ n) p.functions
  pub axioms : AllByRecursion (λ at. at ≤ n) p.axioms
  pub conjectures : AllByRecursion (λ at. at ≤ n) p.conjectures
  pub init : p.init ≤ n
  pub actions : AllByRecursion (λ at. at ≤ n) p.actions
  pub last : p.last ≤ n
  pub conditions : AllByRecursion (λ c. c.at ≤ n) p.conditions
  pub quantifiers : AllByRecursion (λ at. at ≤ n) p.quantifiers

-- What a condition of the text assumes: `assume p` assumes p, `assert p` aborts behind an assumption of the negation,
-- and `if p` assumes p in its first branch and the negation in its second.
abbrev pub Assumes : Word → FormTree → FormTree → Type 0
Assumes word.Assume p q = q ≡ p
Assumes word.Assert p q = q ≡ negation p
Assumes word.If p q = (q ≡ p) ⊎ (q ≡ negation p)

-- an assumption comes from a condition of the text
abbrev pub IsWritten : List Condition → PrimitiveTree → Type 0
IsWritten conditions (assume q) = SomeOf (λ c. Assumes c.word c.sentence q) conditions
IsWritten conditions _ = Unit {0}

-- no right side has a quantifier, and no `ite` of an assumption
abbrev pub HasPlainSides : PrimitiveTree → Type 0
HasPlainSides (assume p) = HasPlainTerms p
HasPlainSides (set_rel r by) = IsQuantifierFree by
HasPlainSides (set_fun f by) = IsQuantifierFreeTerm by
HasPlainSides (havoc v) = Unit {0}
HasPlainSides (havoc_rel r) = Unit {0}
HasPlainSides abort = Unit {0}

-- no quantifier stands inside an `ite` or on the right of an update
pub record IsPlainModel (m : ModelTree) : Type 0 where
  pub axioms : AllByRecursion HasPlainTerms m.axioms
  pub conjectures : AllByRecursion HasPlainTerms m.conjectures
  pub conditions : AllByRecursion (λ c. HasPlainTerms c.sentence) m.places.conditions
  pub blocks : EachBlock (EachPrimitive HasPlainSides) m

-- What holds of every model.
pub record IsModel (m : ModelTree) : Type 0 where
  pub fits : FitsModel m
  pub conditions_fit : AllByRecursion (λ c. FitsForm (symbols m.signature) [] c.sentence) m.places.conditions
  pub branches : EachBlock HasBranches m
  pub named : IsNamed m
  pub placed : IsPlaced m
  pub few : m.signature.sorts + length m.signature.relations + length m.signature.functions + length m.conjectures
      + length m.actions ≤ 1000
  pub written : EachBlock (EachPrimitive (IsWritten m.places.conditions)) m
  pub plain : m.places.quantifiers ≡ [] → IsPlainModel m

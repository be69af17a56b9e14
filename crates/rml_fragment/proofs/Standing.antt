-- The fault of a model stands where its places do.
use Rattle.std.proofs.Common.{◌≡◌, ◌≤◌, inl, inr, ℕ, List, [], ◌∷◌, Some, suc, zero, slice_get, arith}
use Rattle.std.specs.List.{AllByRecursion}
use Rattle.rml_lex.specs.declared.token.Fault.{Fault}
use Rattle.rml_lex.specs.declared.fault_code.FaultCode.{FaultCode}
use Rattle.rml_lex.specs.declared.fault_code.FaultCode.TheVariants as fault_code
use Rattle.base.specs.Lists.{SomeOf}
use Rattle.rml_command.specs.Models.{ModelTree, ArePlacesWithin}
use Rattle.rml_command.specs.declared.places.Condition.{Condition}
use Rattle.rml_fragment.specs.Demands.{demand_of}
use Rattle.rml_fragment.specs.First.{SomePlaced}
use Rattle.rml_fragment.specs.Faults.{Misses, Breaks, HasManyPaths, HasLongBlock}
use Rattle.rml_fragment.specs.declared.demand.Demand.TheVariants as demand
use Rattle.rml_fragment.specs.Laws.{FaultsStandInText}

module _ (n : ℕ) (f : Fault) where
  abbrev In : ℕ → Type 0
  In at = at ≤ n

  at_one : (at : ℕ) → f.at ≡ at → at ≤ n → f.at ≤ n
  at_one at e h = omega (arith, e, h)

  placed : {A : Type 0} (Wrong : A → FaultCode → Type 0) (xs : List A) (places : List ℕ) → AllByRecursion In places
      → SomePlaced Wrong xs places f → f.at ≤ n
  placed Wrong [] places h s = absurd s
  placed Wrong (x ∷ xs) [] h s = absurd s
  placed Wrong (x ∷ xs) (at ∷ places) h (inl s) = at_one at s.0 h.0
  placed Wrong (x ∷ xs) (at ∷ places) h (inr s) = placed Wrong xs places h.1 s

  picked : (places : List ℕ) (k : ℕ) → AllByRecursion In places → slice_get places k ≡ Some f.at → f.at ≤ n
  picked [] k h e = absurd (cc e)
  picked (at ∷ places) zero h e = let g : Some at ≡ Some f.at = e in let i : at ≡ f.at = cc in omega (arith, i, h.0)
  picked (at ∷ places) (suc k) h e = picked places k h.1 e

  at_condition : (cs : List Condition) → AllByRecursion (λ (c : Condition). c.at ≤ n) cs
      → SomeOf (λ (c : Condition). (f.at ≡ c.at) × Misses (demand_of c.word) c.sentence f.code) cs → f.at ≤ n
  at_condition [] h s = absurd s
  at_condition (c ∷ cs) h (inl s) = at_one c.at s.0 h.0
  at_condition (c ∷ cs) h (inr s) = at_condition cs h.1 s

  at_quantifier : (places : List ℕ) → AllByRecursion In places
      → SomeOf (λ (at : ℕ). (f.at ≡ at) × (f.code ≡ fault_code.NotQuantifierFree)) places → f.at ≤ n
  at_quantifier [] h s = absurd s
  at_quantifier (at ∷ places) h (inl s) = at_one at s.0 h.0
  at_quantifier (at ∷ places) h (inr s) = at_quantifier places h.1 s

  break_stands : (m : ModelTree) → ArePlacesWithin n m.places → Breaks m f → f.at ≤ n
  break_stands m h (inl c) = picked m.places.functions c.function h.functions c.at
  break_stands m h (inr (inl s)) = placed (Misses demand.ExistsForall) m.axioms m.places.axioms h.axioms s
  break_stands m h (inr (inr (inl s))) =
      placed (Misses demand.Universal) m.conjectures m.places.conjectures h.conjectures s
  break_stands m h (inr (inr (inr (inl s)))) = at_condition m.places.conditions h.conditions s
  break_stands m h (inr (inr (inr (inr s)))) = at_quantifier m.places.quantifiers h.quantifiers s

  block_stands : (m : ModelTree) → ArePlacesWithin n m.places → HasLongBlock m f → f.at ≤ n
  block_stands m h (inl s) = at_one m.places.init s.0 h.init
  block_stands m h (inr (inl s)) = placed HasManyPaths m.actions m.places.actions h.actions s
  block_stands m h (inr (inr s)) = at_one m.places.last s.0 h.last

pub faults_stand : FaultsStandInText
faults_stand m n f h (inl x) = break_stands n f m h x.is_one
faults_stand m n f h (inr x) = block_stands n f m h x.1.is_one

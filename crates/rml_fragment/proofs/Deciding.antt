-- A model has a fault or none: each kind of fault has a first, or there is none of the kind.
use Rattle.std.proofs.Common.{
  ◌≡◌,
  ◌⊎◌,
  ◌<◌,
  ℕ,
  true,
  false,
  List,
  [],
  ◌∷◌,
  length,
  Option,
  Some,
  None,
  refl,
  sym,
  ◌∙◌,
  ap,
  inl,
  inr,
  arith,
}
use Rattle.std.specs.Prelude.{slice_get}
use Rattle.std.proofs.lemmas.Bool.{cases_lt}
use Rattle.fol_sig.specs.Symbols.{symbols}
use Rattle.fol_sig.specs.Strata.{IsFirstCycle, FirstCycleIsOne}
use Rattle.fol_sig.specs.Cycles.{CycleHasFirst}
use Rattle.fol_formula.specs.Syntax.{FormTree}
use Rattle.fol_formula.specs.Decisions.{FragmentsAreDecided}
use Rattle.rml_lex.specs.declared.token.Fault.{Fault}
use Rattle.rml_lex.specs.declared.fault_code.FaultCode.{FaultCode}
use Rattle.rml_lex.specs.declared.fault_code.FaultCode.TheVariants as fault_code
use Rattle.rml_lex.specs.FaultCodes.{number_of}
use Rattle.rml_command.specs.Trees.{CommandTree}
use Rattle.rml_command.specs.Paths.{paths_of}
use Rattle.rml_command.specs.Models.{ModelTree}
use Rattle.rml_command.specs.declared.places.Condition.{Condition}
use Rattle.rml_fragment.specs.Demands.{Meets, code_of, demand_of}
use Rattle.rml_fragment.specs.First.{IsFirstOf, SomePlaced}
use Rattle.rml_fragment.specs.Faults.{
  ClosesCycle,
  Misses,
  AxiomMisses,
  ConjectureMisses,
  ConditionMisses,
  QuantifierStands,
  SentenceBreaks,
  Breaks,
  HasManyPaths,
  HasLongBlock,
  IsFault,
}
use Rattle.rml_fragment.specs.Search.{earlier}
use Rattle.rml_fragment.specs.declared.demand.Demand.{Demand}
use Rattle.rml_fragment.specs.declared.demand.Demand.TheVariants as demand
use Rattle.rml_fragment.proofs.FirstFault.{first-earlier, alone-first}
use Rattle.rml_fragment.proofs.Exact.{no_cycle}
use Rattle.rml_fragment.proofs.Walks.{Decided, first_cycle}

-- the first fault of a kind, if there is one
abbrev Found : (Fault → Type 0) → Type 0
Found P = (o : Option Fault) × IsFirstOf P o

either : (P Q : Fault → Type 0) → Found P → Found Q → Found (λ f. P f ⊎ Q f)
either P Q p q = (earlier p.0 q.0, first-earlier P Q p.0 q.0 p.1 q.1)

-- a fault of this code at this place, where something is not so
fault_where : (code : FaultCode) (at : ℕ) (R : Type 0) → Decided R
    → Found (λ f. (f.at ≡ at) × ((f.code ≡ code) × R))
fault_where code at R (inl is) = (
  Some (record { code = code; at = at }),
  record {
    is_one = (refl, (refl, is));
    least = λ o h. inr (sym h.0, omega (arith, ap number_of h.1.0));
  },
)
fault_where code at R (inr never) = (None, λ f h. never h.1.1)

opposite : (R : Type 0) → Decided R → Decided (R → ⊥)
opposite R (inl is) = inr (λ never. never is)
opposite R (inr never) = inl never

both : (P Q : Type 0) → Decided P → Decided Q → Decided (P × Q)
both P Q (inl p) (inl q) = inl (p, q)
both P Q (inl p) (inr never) = inr (λ h. never h.1)
both P Q (inr never) q = inr (λ h. never h.0)

placed : {A : Type 0} (B : A → FaultCode → Type 0) → ((x : A) (at : ℕ) → Found (λ f. (f.at ≡ at) × B x f.code))
    → (xs : List A) (places : List ℕ) → Found (SomePlaced B xs places)
placed B found [] places = (None, λ f h. h)
placed B found (x ∷ xs) [] = (None, λ f h. h)
placed B found (x ∷ xs) (at ∷ places) = either _ _ (found x at) (placed B found xs places)

meets : FragmentsAreDecided → (d : Demand) (p : FormTree) → Decided (Meets d p)
meets decided demand.ExistsForall p = decided.exists_forall true p
meets decided demand.ForallExists p = decided.exists_forall false p
meets decided demand.AlternationFree p =
    both _ _ (decided.exists_forall true p) (decided.exists_forall false p)
meets decided demand.Universal p = decided.universal true p

misses : FragmentsAreDecided → (d : Demand) (p : FormTree) (at : ℕ) → Found (λ f. (f.at ≡ at) × Misses d p f.code)
misses decided d p at = fault_where (code_of d) at (Meets d p → ⊥) (opposite (Meets d p) (meets decided d p))

conditions : FragmentsAreDecided → (cs : List Condition) → Found (ConditionMisses cs)
conditions decided [] = (None, λ f h. h)
conditions decided (c ∷ cs) =
    either _ (ConditionMisses cs) (misses decided (demand_of c.word) c.sentence c.at) (conditions decided cs)

quantifiers : (places : List ℕ) → Found (QuantifierStands places)
quantifiers [] = (None, λ f h. h)
quantifiers (at ∷ places) =
    either _ (QuantifierStands places)
    (Some (record { code = fault_code.NotQuantifierFree; at = at }), alone-first fault_code.NotQuantifierFree at)
    (quantifiers places)

many : (block : CommandTree) (at : ℕ) → Found (λ f. (f.at ≡ at) × HasManyPaths block f.code)
many block at = fault_where fault_code.TooManyPaths at (4096 < length (paths_of block))
    (elim (cases_lt 4096 (length (paths_of block))) [
      | inl lt ↦ inl lt
      | inr le ↦ inr (λ lt. omega (arith, lt, le))
    ])

-- the fault at the place of the function that is the first to close a cycle
closes_at : FirstCycleIsOne → (m : ModelTree) (f : ℕ) → IsFirstCycle (symbols m.signature) f → (place : Option ℕ)
    → slice_get m.places.functions f ≡ place → Found (ClosesCycle m)
closes_at one m f is None at = (
  None,
  λ fault h.
      let same : f ≡ h.function = one (symbols m.signature) f h.function is h.first in
      let e : None ≡ Some fault.at = sym at ∙ ap (λ (g : ℕ). slice_get m.places.functions g) same ∙ h.at in cc e,
)
closes_at one m f is (Some place) at = (
  Some (record { code = fault_code.FunctionCycle; at = place }),
  record {
    is_one = record { code = refl; function = f; first = is; at = at };
    least = λ o h.
        let same : f ≡ h.function = one (symbols m.signature) f h.function is h.first in
        let e : Some place ≡ Some o.at = sym at ∙ ap (λ (g : ℕ). slice_get m.places.functions g) same ∙ h.at in
        inr (cc e, omega (arith, ap number_of h.code));
  },
)

module _ (one : FirstCycleIsOne) (has_first : CycleHasFirst) (decided : FragmentsAreDecided) (m : ModelTree) where
  cycles : Found (ClosesCycle m)
  cycles = elim (first_cycle (symbols m.signature) has_first) [
    | inl c ↦ closes_at one m c.0 c.1 (slice_get m.places.functions c.0) refl
    | inr none ↦ (None, λ f. no_cycle m f none)
  ]

  sentences : Found (SentenceBreaks m)
  sentences =
      either (AxiomMisses m) _ (placed (Misses demand.ExistsForall) (misses decided demand.ExistsForall) m.axioms
      m.places.axioms)
      (either (ConjectureMisses m) _ (placed (Misses demand.Universal) (misses decided demand.Universal) m.conjectures
      m.places.conjectures)
      (either (ConditionMisses m.places.conditions) (QuantifierStands m.places.quantifiers)
      (conditions decided m.places.conditions) (quantifiers m.places.quantifiers)))

  long_blocks : Found (HasLongBlock m)
  long_blocks =
      either (λ f. (f.at ≡ m.places.init) × HasManyPaths m.init f.code) _ (many m.init m.places.init)
      (either (SomePlaced HasManyPaths m.actions m.places.actions)
      (λ f. (f.at ≡ m.places.last) × HasManyPaths m.last f.code)
      (placed HasManyPaths many m.actions m.places.actions) (many m.last m.places.last))

  pub some : ((f : Fault) × IsFault m f) ⊎ ((f : Fault) → IsFault m f → ⊥)
  some = of (either (ClosesCycle m) (SentenceBreaks m) cycles sentences) long_blocks
    where
      of : Found (Breaks m) → Found (HasLongBlock m) → ((f : Fault) × IsFault m f) ⊎ ((f : Fault) → IsFault m f → ⊥)
      of (Some f, is) long = inl (f, inl is)
      of (None, stays) (Some f, is) = inl (f, inr (stays, is))
      of (None, stays) (None, short) =
          inr (λ f. elim [ inl broken ↦ stays f broken.is_one | inr long ↦ short f long.1.is_one ])

-- A walk along things and their places in one order, for the first thing that breaks a rule.
use Rattle.std.proofs.Common.{
  ◌≡◌,
  ◌⊎◌,
  ℕ,
  ◌-◌,
  ◌<◌,
  ◌≤◌,
  Bool,
  List,
  [],
  ◌∷◌,
  length,
  get_or,
  take,
  drop,
  Option,
  ◌↔◌,
  IsTrue,
  sym,
  ◌∙◌,
  ap,
  subst,
  arith,
}
use Rattle.std.proofs.lemmas.Grind.{common_steps}
use Rattle.fol_formula.specs.Syntax.{FormTree}
use Rattle.rml_lex.specs.declared.token.Fault.{Fault}
use Rattle.rml_lex.specs.declared.fault_code.FaultCode.{FaultCode}
use Rattle.rml_fragment.specs.Demands.{Meets, code_of}
use Rattle.rml_fragment.specs.First.{IsFirstOf, SomePlaced}
use Rattle.rml_fragment.specs.Faults.{Misses}
use Rattle.rml_fragment.specs.Search.{earlier, fault_unless, IsFirstSoFar}
use Rattle.rml_fragment.specs.declared.demand.Demand.{Demand}
use Rattle.rml_fragment.proofs.FirstFault.{first-earlier, step, done, unless-first}

all_but_none : {A : Type 0} (xs : List A) → take (length xs) xs ≡ xs
all_but_none xs = grind (arith, common_steps)

-- a list that is not empty, as a loop takes it apart
pub taken_apart : {A : Type 0} (xs : List A) (x : A) → 1 ≤ length xs → x ≡ get_or xs 0 x
    → xs ≡ x ∷ take (length xs - 1) (drop 1 xs)
taken_apart [] x some is = absurd (omega (arith, some))
taken_apart (y ∷ ys) x some is = grind (arith, common_steps, is)

pub number_apart : (ns : List ℕ) → 1 ≤ length ns → ns ≡ get_or ns 0 0 ∷ take (length ns - 1) (drop 1 ns)
number_apart [] some = absurd (omega (arith, some))
number_apart (n ∷ ns) some = grind (arith, common_steps)

module _ {A : Type 0} (Breaks : A → FaultCode → Type 0) (things : List A) (places : List ℕ) where
  abbrev Walked : List A → List ℕ → Option Fault → Type 0
  Walked rest left first = IsFirstSoFar (SomePlaced Breaks things places) (SomePlaced Breaks rest left) first

  -- one thing more was looked at
  pub goes_on : (rest others : List A) (left behind : List ℕ) (x : A) (at : ℕ) (first here next : Option Fault)
      → rest ≡ x ∷ others → left ≡ at ∷ behind → Walked rest left first
      → IsFirstOf (λ f. (f.at ≡ at) × Breaks x f.code) here → next ≡ earlier first here → Walked others behind next
  goes_on rest others left behind x at first here next parts place walked found is =
      subst (λ (o : Option Fault). Walked others behind o) (sym is)
      (step (SomePlaced Breaks things places) (λ f. (f.at ≡ at) × Breaks x f.code) (SomePlaced Breaks others behind)
      first here
      (subst (λ (xs : List A). Walked xs (at ∷ behind) first) parts
      (subst (λ (ns : List ℕ). Walked rest ns first) place walked)) found)

  -- no thing is left
  pub ends : (rest : List A) (left : List ℕ) (first : Option Fault) → length rest < 1 → Walked rest left first
      → IsFirstOf (SomePlaced Breaks things places) first
  ends [] left first none walked = done _ (SomePlaced Breaks [] left) first (λ f h. h) walked
  ends (x ∷ rest) left first none walked = absurd (omega (arith, none))

  -- no place is left
  pub places_end : (rest : List A) (left : List ℕ) (first : Option Fault) → length left < 1 → Walked rest left first
      → IsFirstOf (SomePlaced Breaks things places) first
  places_end rest (at ∷ left) first none walked = absurd (omega (arith, none))
  places_end [] [] first none walked = done _ (SomePlaced Breaks [] []) first (λ f h. h) walked
  places_end (x ∷ rest) [] first none walked = done _ (SomePlaced Breaks (x ∷ rest) []) first (λ f h. h) walked

-- the fault of a sentence that is not what it must be
pub missed : (d : Demand) (p : FormTree) (met : Bool) (code : FaultCode) (at : ℕ) (o : Option Fault)
    → IsTrue met ↔ Meets d p → code ≡ code_of d → o ≡ fault_unless met code at
    → IsFirstOf (λ f. (f.at ≡ at) × Misses d p f.code) o
missed d p met code at o so same is =
    subst (λ (r : Option Fault). IsFirstOf (λ f. (f.at ≡ at) × Misses d p f.code) r)
    (sym (is ∙ ap (λ (c : FaultCode). fault_unless met c at) same))
    (unless-first met (code_of d) at (Meets d p) so)

-- the same of things and places that are the same
pub along : {A : Type 0} (Breaks : A → FaultCode → Type 0) (xs ys : List A) (ns ms : List ℕ) (o : Option Fault)
    → xs ≡ ys → ns ≡ ms → IsFirstOf (SomePlaced Breaks xs ns) o → IsFirstOf (SomePlaced Breaks ys ms) o
along Breaks xs ys ns ms o things places first =
    subst (λ (zs : List _). IsFirstOf (SomePlaced Breaks zs ms) o) things
    (subst (λ (ks : List ℕ). IsFirstOf (SomePlaced Breaks xs ks) o) places first)

-- the earlier of the first faults of two kinds
pub of_both : (P Q : Fault → Type 0) (a b o : Option Fault) → o ≡ earlier a b → IsFirstOf P a → IsFirstOf Q b
    → IsFirstOf (λ f. P f ⊎ Q f) o
of_both P Q a b o is p q =
    subst (λ (r : Option Fault). IsFirstOf (λ f. P f ⊎ Q f) r) (sym is) (first-earlier P Q a b p q)

-- What a checked model lends is what it has, and so is what is answered of it.
use Rattle.std.proofs.Common.{◌≡◌, ℕ, List, length, sym, ap, ◌∙◌, subst}
use Rattle.fol_sig.specs.Tables.{Declared}
use Rattle.fol_sig.specs.Symbols.{symbols}
use Rattle.fol_sig.specs.Strata.{IsStrata}
use Rattle.fol_formula.specs.Syntax.{FormTree}
use Rattle.rml_command.specs.Models.{ModelTree}
use Rattle.rml_command.specs.declared.goal.Goal.{Goal}
use Rattle.rml_wp.specs.Preconditions.{answered}
use Rattle.rml_wp.specs.Answered.{IsAnswered}
use Rattle.limits.specs.Ceilings.{Ceilings}
use Rattle.ea_decide.specs.Decisions.{IsDecided}
use Rattle.ea_decide.specs.declared.decided.Decided.{Decided}

-- the signature of a model, and how many functions one has
pub signature_of : (given : Declared) (held m : ModelTree) → given ≡ held.signature → held ≡ m → given ≡ m.signature
signature_of given held m is same = is ∙ ap (λ (z : ModelTree). z.signature) same

pub functions_of : (f : ℕ) (given sig : Declared) → f ≡ length given.functions → given ≡ sig → f ≡ length sig.functions
functions_of f given sig is same = is ∙ ap (λ (z : Declared). length z.functions) same

pub axioms_of : (given : List FormTree) (held m : ModelTree) → given ≡ held.axioms → held ≡ m → given ≡ m.axioms
axioms_of given held m is same = is ∙ ap (λ (z : ModelTree). z.axioms) same

-- the order of a model's sorts is one for the signature over which a goal's sentences are
pub strata_of : (m : ModelTree) (goal : Goal) → IsAnswered m goal → (given : Declared) → given ≡ answered m goal
    → (order : List ℕ) → IsStrata (symbols m.signature) order → IsStrata (symbols given) order
strata_of m goal is given same order h =
    subst (λ (z : Declared). IsStrata (symbols z) order) (sym same) (is.strata order h)

-- the answer to a sentence of the signature
module _ (limits : Ceilings) (given sig : Declared) (p q : FormTree) (d e : Decided) where
  pub same_answer : given ≡ sig → p ≡ q → d ≡ e → IsDecided limits given p d → IsDecided limits sig q e
  same_answer s t u h =
      let by_signature = subst (λ (z : Declared). IsDecided limits z p d) s h in
      let by_sentence = subst (λ (r : FormTree). IsDecided limits sig r d) t by_signature in
      subst (λ (a : Decided). IsDecided limits sig q a) u by_sentence

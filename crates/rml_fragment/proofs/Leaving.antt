-- What the order of the sorts and the sentences say of the whole model.
use Rattle.std.proofs.Common.{◌≡◌, ℕ, Option, Some, None, subst, sym}
use Rattle.fol_sig.specs.Tables.{Declared}
use Rattle.fol_sig.specs.Symbols.{symbols}
use Rattle.fol_sig.specs.Strata.{IsOnCycle}
use Rattle.rml_lex.specs.declared.token.Fault.{Fault}
use Rattle.rml_command.specs.Models.{ModelTree}
use Rattle.rml_fragment.specs.First.{IsFirst, IsFirstOf}
use Rattle.rml_fragment.specs.Faults.{ClosesCycle, SentenceBreaks, Breaks}
use Rattle.rml_fragment.specs.Search.{earlier}
use Rattle.rml_fragment.proofs.FirstFault.{first-earlier}
use Rattle.rml_fragment.proofs.Exact.{no_cycle}

module _ (m : ModelTree) (signature : Declared) (same : signature ≡ m.signature) where
  no_cycles : ((f : ℕ) → IsOnCycle (symbols signature) f → ⊥) → (f : Fault) → ClosesCycle m f → ⊥
  no_cycles acyclic f =
      no_cycle m f (subst (λ (s : Declared). (g : ℕ) → IsOnCycle (symbols s) g → ⊥) same acyclic)

  -- the sorts have an order
  pub ordered : ((f : ℕ) → IsOnCycle (symbols signature) f → ⊥) → (o : Option Fault)
      → IsFirstOf (SentenceBreaks m) o → IsFirstOf (Breaks m) o
  ordered acyclic None first =
      first-earlier (ClosesCycle m) (SentenceBreaks m) None None (no_cycles acyclic) first
  ordered acyclic (Some f) first =
      first-earlier (ClosesCycle m) (SentenceBreaks m) None (Some f) (no_cycles acyclic) first

-- a function closes a cycle
pub cyclic : (m : ModelTree) (cycle fault : Fault) (sentences : Option Fault) → IsFirst (ClosesCycle m) cycle
    → IsFirstOf (SentenceBreaks m) sentences → Some fault ≡ earlier (Some cycle) sentences → IsFirst (Breaks m) fault
cyclic m cycle fault sentences closes first is =
    subst (λ (o : Option Fault). IsFirstOf (Breaks m) o) (sym is)
    (first-earlier (ClosesCycle m) (SentenceBreaks m) (Some cycle) sentences closes first)

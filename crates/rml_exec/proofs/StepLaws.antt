-- One turn of the loop that follows a path.
use Rattle.std.proofs.Common.{◌≡◌, ℕ, Option, List, ◌∷◌, sym, ap, ◌∙◌, subst}
use Rattle.fol_sig.specs.Tables.{Tables}
use Rattle.fol_sig.specs.Symbols.{Symbols, FitsStructure}
use Rattle.fol_formula.specs.Syntax.{FormTree}
use Rattle.rml_command.specs.Trees.{PrimitiveTree}
use Rattle.rml_command.specs.Outcomes.{Outcome, follow_path}
use Rattle.rml_command.specs.Models.{FitsPath}
use Rattle.rml_command.specs.declared.havoc.Havoc.{Havoc}
use Rattle.rml_exec.specs.Steps.{MovesTo, havocs_after}

-- one turn of the loop over a path
pub record Advanced (axioms : List FormTree) (sig : Symbols) (rest : List PrimitiveTree) (havocs : List Havoc)
    (next : Tables) (whole : Option Outcome) : Type 0 where
  pub fits : FitsPath sig rest
  pub structure : FitsStructure sig next
  pub same : follow_path axioms rest havocs next ≡ whole

pub advanced : (axioms given : List FormTree) (sig : Symbols) (q : PrimitiveTree) (all rest : List PrimitiveTree)
    (havocs left : List Havoc) (now next : Tables) (whole : Option Outcome) → all ≡ q ∷ rest → given ≡ axioms
    → left ≡ havocs_after q havocs → MovesTo given q havocs now next → FitsPath sig all → FitsStructure sig now
    → follow_path axioms all havocs now ≡ whole → Advanced axioms sig rest left next whole
advanced axioms given sig q all rest havocs left now next whole split same_axioms after step fits structure before =
    let f = subst (FitsPath sig) split fits in
    let move = subst (λ a. MovesTo a q havocs now next) same_axioms step in
    record {
      fits = f.1;
      structure = move.fits sig structure;
      same = ap (λ l. follow_path axioms rest l next) after ∙ sym (move.onward rest)
          ∙ ap (λ qs. follow_path axioms qs havocs now) (sym split) ∙ before;
    }

-- The step of a relation's havoc.
use Rattle.std.proofs.Common.{◌≡◌, ℕ, true, false, cond, Option, Some, None, List, [], ◌∷◌, drop, refl, sym, ap, ◌∙◌}
use Rattle.std.proofs.Common.{subst}
use Rattle.fol_sig.specs.Tables.{Tables}
use Rattle.fol_sig.specs.Symbols.{Symbols, FitsStructure}
use Rattle.fol_sig.specs.TupleSets.{with_tuples}
use Rattle.fol_formula.specs.Syntax.{FormTree}
use Rattle.rml_command.specs.Trees.{PrimitiveTree, havoc_rel}
use Rattle.fol_formula.specs.Sentences.{satisfies}
use Rattle.rml_command.specs.Outcomes.{Outcome, follow_path, are_tuples_of}
use Rattle.rml_command.specs.declared.havoc.Havoc.{Havoc}
use Rattle.rml_command.specs.declared.havoc.Havoc.TheVariants.{Tuples}
use Rattle.rml_exec.specs.Steps.{MovesTo, StepsTo, Judges}
use Rattle.rml_exec.specs.declared.trace.Followed.{Followed}
use Rattle.rml_exec.specs.declared.trace.Followed.TheVariants.{Ended, Aborted, Blocked}

goes-on : (axioms : List FormTree) (r : ℕ) (hs rest : List Havoc) (xss : List (List ℕ)) (s new : Tables)
    (qs : List PrimitiveTree)
    → hs ≡ Tuples xss ∷ rest → are_tuples_of s r xss ≡ true → new ≡ with_tuples s r xss
    → follow_path axioms (havoc_rel r ∷ qs) hs s
    ≡ cond (satisfies new axioms) (follow_path axioms qs (drop 1 hs) new) None
goes-on axioms r hs rest xss s new qs is there set =
    ap (λ (h : List Havoc). follow_path axioms (havoc_rel r ∷ qs) h s) is
    ∙ ap (λ b. cond b (cond (satisfies (with_tuples s r xss) axioms) (follow_path axioms qs rest (with_tuples s r xss))
    None) None) there
    ∙ ap (λ (w : Tables). cond (satisfies w axioms) (follow_path axioms qs rest w) None) (sym set)
    ∙ ap (λ (h : List Havoc). cond (satisfies new axioms) (follow_path axioms qs (drop 1 h) new) None) (sym is)

pub table-step : (axioms : List FormTree) (r : ℕ) (hs rest : List Havoc) (xss : List (List ℕ)) (s new : Tables)
    (f : Followed)
    → hs ≡ Tuples xss ∷ rest → are_tuples_of s r xss ≡ true → new ≡ with_tuples s r xss
    → ((sig : Symbols) → FitsStructure sig s → FitsStructure sig new) → Judges axioms new f
    → StepsTo axioms (havoc_rel r) hs s f
table-step axioms r hs rest xss s new (Ended e) is there set fits h = record {
  onward = λ qs.
      goes-on axioms r hs rest xss s new qs is there set
      ∙ ap (λ b. cond b (follow_path axioms qs (drop 1 hs) new) None) h.1
      ∙ ap (follow_path axioms qs (drop 1 hs)) (sym h.0);
  fits = λ sig f. subst (FitsStructure sig) (sym h.0) (fits sig f);
}
table-step axioms r hs rest xss s new Aborted is there set fits h = absurd h
table-step axioms r hs rest xss s new Blocked is there set fits h =
    λ qs. goes-on axioms r hs rest xss s new qs is there set
    ∙ ap (λ b. cond b (follow_path axioms qs (drop 1 hs) new) None) h

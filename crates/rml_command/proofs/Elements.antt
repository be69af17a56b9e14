-- A path without the havoc of a relation takes elements alone.
use Rattle.std.proofs.Common.{◌≡◌, ℕ, cond, Some, None, List, [], ◌∷◌, length, refl, ap, ◌∙◌}
use Rattle.std.proofs.Common.{arith}
use Rattle.std.specs.Prelude.{nat_lt}
use Rattle.fol_sig.specs.Tables.{Tables}
use Rattle.fol_sig.specs.Symbols.{Symbols}
use Rattle.fol_formula.specs.Syntax.{FormTree}
use Rattle.rml_command.specs.Trees.{PrimitiveTree, assume, set_rel, set_fun, havoc, havoc_rel, abort}
use Rattle.fol_formula.specs.Sentences.{is_true, satisfies}
use Rattle.rml_command.specs.Outcomes.{Outcome, follow_path, set_relation, set_function}
use Rattle.rml_command.specs.Outcomes.{set_variable, range_of}
use Rattle.rml_command.specs.Paths.{EndsAtAbort, havoc_count}
use Rattle.rml_command.specs.Models.{FitsSteps}
use Rattle.rml_command.specs.Elements.{elements_of, havocs_of, TracesAreElements}
use Rattle.rml_command.specs.declared.havoc.Havoc.{Havoc}
use Rattle.rml_command.specs.declared.havoc.Havoc.TheVariants.{Element, Tuples}
use Rattle.rml_command.proofs.Following.{passes}

none-left : (havocs : List Havoc) → length havocs ≡ 0 → havocs_of (elements_of havocs) ≡ havocs
none-left [] e = refl
none-left (h ∷ havocs) e = absurd (omega (arith, e))

back : (xs : List ℕ) → elements_of (havocs_of xs) ≡ xs
back [] = refl
back (x ∷ xs) = ap (λ ys. x ∷ ys) (back xs)

module _ (sig : Symbols) (axioms : List FormTree) where
  taken : (p : List PrimitiveTree) (havocs : List Havoc) (s : Tables) (o : Outcome) → FitsSteps sig p → EndsAtAbort p
      → length havocs ≡ havoc_count p → follow_path axioms p havocs s ≡ Some o
      → havocs_of (elements_of havocs) ≡ havocs
  taken [] havocs s o f last count e = none-left havocs count
  taken (assume p ∷ qs) havocs s o f last count e =
      taken qs havocs s o f.1 last.1 count (passes (is_true s p) (follow_path axioms qs havocs s) o e).1
  taken (set_rel r by ∷ qs) havocs s o f last count e =
      let new = set_relation s r by in
      taken qs havocs new o f.1 last.1 count (passes (satisfies new axioms) (follow_path axioms qs havocs new) o e).1
  taken (set_fun g by ∷ qs) havocs s o f last count e =
      let new = set_function s g by in
      taken qs havocs new o f.1 last.1 count (passes (satisfies new axioms) (follow_path axioms qs havocs new) o e).1
  taken (havoc v ∷ qs) [] s o f last count e = absurd (cc e)
  taken (havoc v ∷ qs) (Element x ∷ havocs) s o f last count e =
      let new = set_variable s v x in
      let g = passes (nat_lt x (range_of s v)) (cond (satisfies new axioms) (follow_path axioms qs havocs new) None) o
      e in
      let h = passes (satisfies new axioms) (follow_path axioms qs havocs new) o g.1 in
      let rest : length havocs ≡ havoc_count qs = omega (arith, count) in
      ap (λ (hs : List Havoc). Element x ∷ hs) (taken qs havocs new o f.1 last.1 rest h.1)
  taken (havoc v ∷ qs) (Tuples xss ∷ havocs) s o f last count e = absurd (cc e)
  taken (havoc_rel r ∷ qs) havocs s o f last count e = absurd f.0
  taken (abort ∷ qs) havocs s o f last count e =
      none-left havocs (count ∙ ap havoc_count (last.0 refl))

pub traces_are_elements : TracesAreElements
traces_are_elements = record {
  back = back;
  taken = λ sig axioms p havocs s o f last count e. taken sig axioms p havocs s o f last count e;
}

-- A path's end has the sizes of its start.
use Rattle.std.proofs.Common.{◌≡◌, ℕ, Bool, true, false, List, [], ◌∷◌, Option, Some, None, ap, cond}
use Rattle.std.specs.Prelude.{nat_lt}
use Rattle.fol_sig.specs.Tables.{Tables}
use Rattle.fol_sig.specs.TupleSets.{with_tuples}
use Rattle.fol_formula.specs.Syntax.{FormTree}
use Rattle.rml_command.specs.Trees.{PrimitiveTree, assume, set_rel, set_fun, havoc, havoc_rel, abort}
use Rattle.fol_formula.specs.Sentences.{is_true, satisfies}
use Rattle.rml_command.specs.Outcomes.{Outcome, ended, follow_path, set_relation}
use Rattle.rml_command.specs.Outcomes.{set_function, set_variable, range_of, are_tuples_of}
use Rattle.rml_command.specs.declared.havoc.Havoc.{Havoc}
use Rattle.rml_command.specs.declared.havoc.Havoc.TheVariants.{Element, Tuples}

-- where a test is passed, and the rest ends so
passed : (b : Bool) (o : Option Outcome) (t : Tables) (sizes : List ℕ)
    → (o ≡ Some (ended t) → t.sizes ≡ sizes) → cond b o None ≡ Some (ended t) → t.sizes ≡ sizes
passed true o t sizes f e = f e
passed false o t sizes f e = cc e

same_tables : (s t : Tables) → Some (ended s) ≡ Some (ended t) → t.sizes ≡ s.sizes
same_tables s t e = let i : t ≡ s = cc e in ap (λ (x : Tables). x.sizes) i

pub keeps_sizes : (axioms : List FormTree) (qs : List PrimitiveTree) (hs : List Havoc) (s t : Tables)
    → follow_path axioms qs hs s ≡ Some (ended t) → t.sizes ≡ s.sizes
keeps_sizes axioms [] hs s t e = same_tables s t e
keeps_sizes axioms (assume p ∷ qs) hs s t e =
    passed (is_true s p) (follow_path axioms qs hs s) t s.sizes (keeps_sizes axioms qs hs s t) e
keeps_sizes axioms (set_rel r by ∷ qs) hs s t e =
    passed (satisfies (set_relation s r by) axioms) (follow_path axioms qs hs (set_relation s r by)) t s.sizes
    (keeps_sizes axioms qs hs (set_relation s r by) t) e
keeps_sizes axioms (set_fun f by ∷ qs) hs s t e =
    passed (satisfies (set_function s f by) axioms) (follow_path axioms qs hs (set_function s f by)) t s.sizes
    (keeps_sizes axioms qs hs (set_function s f by) t) e
keeps_sizes axioms (havoc v ∷ qs) [] s t e = cc e
keeps_sizes axioms (havoc v ∷ qs) (Element x ∷ hs) s t e =
    passed (nat_lt x (range_of s v))
    (cond (satisfies (set_variable s v x) axioms) (follow_path axioms qs hs (set_variable s v x)) None) t s.sizes
    (passed (satisfies (set_variable s v x) axioms) (follow_path axioms qs hs (set_variable s v x)) t s.sizes
    (keeps_sizes axioms qs hs (set_variable s v x) t)) e
keeps_sizes axioms (havoc v ∷ qs) (Tuples xss ∷ hs) s t e = cc e
keeps_sizes axioms (havoc_rel r ∷ qs) [] s t e = cc e
keeps_sizes axioms (havoc_rel r ∷ qs) (Element x ∷ hs) s t e = cc e
keeps_sizes axioms (havoc_rel r ∷ qs) (Tuples xss ∷ hs) s t e =
    passed (are_tuples_of s r xss)
    (cond (satisfies (with_tuples s r xss) axioms) (follow_path axioms qs hs (with_tuples s r xss)) None) t s.sizes
    (passed (satisfies (with_tuples s r xss) axioms) (follow_path axioms qs hs (with_tuples s r xss)) t s.sizes
    (keeps_sizes axioms qs hs (with_tuples s r xss) t)) e
keeps_sizes axioms (abort ∷ qs) hs s t e = cc e

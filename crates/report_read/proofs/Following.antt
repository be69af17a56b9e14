-- Where a path leads, and with which entries.
use Rattle.std.proofs.Common.{◌≡◌, List, [], ◌∷◌, Some, None, sym, ap, subst, cond}
use Rattle.std.specs.Prelude.{nat_lt}
use Rattle.std.proofs.lemmas.Bool.{ltb-true}
use Rattle.fol_sig.specs.Tables.{Tables}
use Rattle.fol_sig.specs.Symbols.{Symbols, FitsStructure}
use Rattle.fol_sig.specs.TupleSets.{has_tuple, with_tuples}
use Rattle.fol_formula.specs.Syntax.{FormTree}
use Rattle.rml_command.specs.Trees.{PrimitiveTree, assume, set_rel, set_fun, havoc, havoc_rel, abort}
use Rattle.fol_formula.specs.Sentences.{is_true, satisfies}
use Rattle.rml_command.specs.Outcomes.{ended, follow_path, set_relation}
use Rattle.rml_command.specs.Outcomes.{set_function, set_variable, range_of, are_tuples_of}
use Rattle.rml_command.specs.Models.{FitsPath}
use Rattle.rml_command.specs.declared.havoc.Havoc.{Havoc}
use Rattle.rml_command.specs.declared.havoc.Havoc.TheVariants.{Element, Tuples}
use Rattle.rml_command.specs.Laws.{UpdatesKeepSymbols}
use Rattle.report_read.proofs.Pieces.{tested}

-- the end of a path
pub record IsEndOf (sig : Symbols) (s t : Tables) : Type 0 where
  pub fits : FitsStructure sig t
  pub sizes : t.sizes ≡ s.sizes

module _ (sig : Symbols) (law : UpdatesKeepSymbols) (axioms : List FormTree) where
  pub ends_in : (qs : List PrimitiveTree) (hs : List Havoc) (s t : Tables) → FitsPath sig qs → FitsStructure sig s
      → follow_path axioms qs hs s ≡ Some (ended t) → IsEndOf sig s t
  ends_in [] hs s t path fits e =
      let i : s ≡ t = cc e in
      record { fits = subst (FitsStructure sig) i fits; sizes = sym (ap (λ (u : Tables). u.sizes) i) }
  ends_in (assume p ∷ qs) hs s t path fits e =
      let a = tested (is_true s p) (follow_path axioms qs hs s) (ended t) e in
      ends_in qs hs s t path.1 fits a.1
  ends_in (set_rel r by ∷ qs) hs s t path fits e =
      let a = tested (satisfies (set_relation s r by) axioms) (follow_path axioms qs hs (set_relation s r by)) (ended t)
      e in
      let h = ends_in qs hs (set_relation s r by) t path.1 (law.relation sig s r by path.0 fits) a.1 in
      record { fits = h.fits; sizes = h.sizes }
  ends_in (set_fun f by ∷ qs) hs s t path fits e =
      let a = tested (satisfies (set_function s f by) axioms) (follow_path axioms qs hs (set_function s f by)) (ended t)
      e in
      let h = ends_in qs hs (set_function s f by) t path.1 (law.function sig s f by path.0 fits) a.1 in
      record { fits = h.fits; sizes = h.sizes }
  ends_in (havoc v ∷ qs) [] s t path fits e = absurd (cc e)
  ends_in (havoc v ∷ qs) (Element x ∷ hs) s t path fits e =
      let a = tested (nat_lt x (range_of s v))
      (cond (satisfies (set_variable s v x) axioms) (follow_path axioms qs hs (set_variable s v x)) None) (ended t) e in
      let b = tested (satisfies (set_variable s v x) axioms) (follow_path axioms qs hs (set_variable s v x)) (ended t)
      a.1 in
      let h = ends_in qs hs (set_variable s v x) t path.1
      (law.variable sig s v x path.0 (ltb-true x (range_of s v) a.0) fits) b.1 in
      record { fits = h.fits; sizes = h.sizes }
  ends_in (havoc v ∷ qs) (Tuples xss ∷ hs) s t path fits e = absurd (cc e)
  ends_in (havoc_rel r ∷ qs) [] s t path fits e = absurd (cc e)
  ends_in (havoc_rel r ∷ qs) (Element x ∷ hs) s t path fits e = absurd (cc e)
  ends_in (havoc_rel r ∷ qs) (Tuples xss ∷ hs) s t path fits e =
      let new = with_tuples s r xss in
      let a = tested (are_tuples_of s r xss)
      (cond (satisfies new axioms) (follow_path axioms qs hs new) None) (ended t) e in
      let b = tested (satisfies new axioms) (follow_path axioms qs hs new) (ended t) a.1 in
      let h = ends_in qs hs new t path.1 (law.table sig s r (has_tuple xss) path.0 fits) b.1 in
      record { fits = h.fits; sizes = h.sizes }
  ends_in (abort ∷ qs) hs s t path fits e = absurd (cc e)

-- The outcomes of a path are the ends of following it with some elements and tuples.
use Rattle.std.proofs.Common.{◌≡◌, inl, inr, suc, Bool, true, false, cond, Option, Some, None, List, [], ◌∷◌}
use Rattle.std.proofs.Common.{replicate, refl, sym, ap, ◌∙◌, subst}
use Rattle.std.specs.Prelude.{nat_lt}
use Rattle.std.proofs.lemmas.Bool.{lt-ltb, ltb-true}
use Rattle.std.proofs.lemmas.List.{length-replicate}
use Rattle.fol_sig.specs.Tables.{Tables}
use Rattle.fol_sig.specs.TupleSets.{has_tuple, with_table, with_tuples, tuples_where, TablesAreTuples}
use Rattle.fol_formula.specs.Syntax.{FormTree}
use Rattle.rml_command.specs.Trees.{PrimitiveTree, assume, set_rel, set_fun, havoc, havoc_rel, abort}
use Rattle.rml_command.specs.Outcomes.{Outcome, ended, aborted, PrimitiveHasOutcome, PathHasOutcome, follow_path}
use Rattle.fol_formula.specs.Sentences.{is_true, satisfies}
use Rattle.rml_command.specs.Outcomes.{set_relation, set_function, set_variable, range_of}
use Rattle.rml_command.specs.Outcomes.{are_tuples_of}
use Rattle.rml_command.specs.Paths.{havoc_count}
use Rattle.rml_command.specs.Laws.{IsFollowed, PathHasFollowedOutcomes}
use Rattle.rml_command.specs.declared.havoc.Havoc.{Havoc}
use Rattle.rml_command.specs.declared.havoc.Havoc.TheVariants.{Element, Tuples}

pub passes : (b : Bool) (x : Option Outcome) (o : Outcome) → cond b x None ≡ Some o → (b ≡ true) × (x ≡ Some o)
passes true x o e = (refl, e)
passes false x o e = absurd (cc e)

pub same_end : (a b : Tables) → ended a ≡ ended b → a ≡ b
same_end a b e = cc e

module _ (tables : TablesAreTuples) (axioms : List FormTree) where
  stopped : (q : PrimitiveTree) (qs : List PrimitiveTree) (s : Tables) (o : Outcome) → o ≡ aborted
      → PrimitiveHasOutcome axioms q s aborted → IsFollowed axioms (q ∷ qs) s o
  stopped (assume p) qs s o e h = let z = h.0 in absurd (cc)
  stopped (set_rel r by) qs s o e h = let z = h.0 in absurd (cc)
  stopped (set_fun f by) qs s o e h = let z = h.0 in absurd (cc)
  stopped (havoc v) qs s o e h = let z = h.2.0 in absurd (cc)
  stopped (havoc_rel r) qs s o e h = let z = h.1.0 in absurd (cc)
  stopped abort qs s o e h =
      record {
        havocs = replicate (havoc_count qs) (Element 0);
        count = length-replicate (havoc_count qs) (Element 0);
        ends = ap Some (sym e);
      }

  moved : (q : PrimitiveTree) (qs : List PrimitiveTree) (s : Tables) (o : Outcome) (mid : Tables)
      → PrimitiveHasOutcome axioms q s (ended mid) → IsFollowed axioms qs mid o → IsFollowed axioms (q ∷ qs) s o
  moved (assume p) qs s o mid h t =
      let u = subst (λ z. IsFollowed axioms qs z o) (same_end mid s h.0) t in
      record {
        havocs = u.havocs;
        count = u.count;
        ends = ap (λ b. cond b (follow_path axioms qs u.havocs s) None) h.1 ∙ u.ends;
      }
  moved (set_rel r by) qs s o mid h t =
      let new = set_relation s r by in
      let u = subst (λ z. IsFollowed axioms qs z o) (same_end mid new h.0) t in
      record {
        havocs = u.havocs;
        count = u.count;
        ends = ap (λ b. cond b (follow_path axioms qs u.havocs new) None) h.1 ∙ u.ends;
      }
  moved (set_fun f by) qs s o mid h t =
      let new = set_function s f by in
      let u = subst (λ z. IsFollowed axioms qs z o) (same_end mid new h.0) t in
      record {
        havocs = u.havocs;
        count = u.count;
        ends = ap (λ b. cond b (follow_path axioms qs u.havocs new) None) h.1 ∙ u.ends;
      }
  moved (havoc v) qs s o mid h t =
      let new = set_variable s v h.0 in
      let u = subst (λ z. IsFollowed axioms qs z o) (same_end mid new h.2.0) t in
      record {
        havocs = Element h.0 ∷ u.havocs;
        count = ap suc u.count;
        ends = ap (λ b. cond b (cond (satisfies new axioms) (follow_path axioms qs u.havocs new) None) None)
            (lt-ltb h.0 (range_of s v) h.1)
            ∙ ap (λ b. cond b (follow_path axioms qs u.havocs new) None) h.2.1
            ∙ u.ends;
      }
  moved (havoc_rel r) qs s o mid h t =
      let xss = tuples_where s r h.0 in
      let new = with_tuples s r xss in
      let table = tables s r h.0 in
      let u = subst (λ z. IsFollowed axioms qs z o) (same_end mid (with_table s r h.0) h.1.0 ∙ sym table.same) t in
      let lawful = ap (λ z. satisfies z axioms) table.same ∙ h.1.1 in
      record {
        havocs = Tuples xss ∷ u.havocs;
        count = ap suc u.count;
        ends = ap (λ b. cond b (cond (satisfies new axioms) (follow_path axioms qs u.havocs new) None) None)
            table.in_range
            ∙ ap (λ b. cond b (follow_path axioms qs u.havocs new) None) lawful
            ∙ u.ends;
      }
  moved abort qs s o mid h t = absurd (cc h)

  pub followed : (p : List PrimitiveTree) (s : Tables) (o : Outcome) → PathHasOutcome axioms p s o
      → IsFollowed axioms p s o
  followed [] s o h = record { havocs = []; count = refl; ends = ap Some (sym h) }
  followed (q ∷ qs) s o (inl h) = stopped q qs s o h.0 h.1
  followed (q ∷ qs) s o (inr h) = moved q qs s o h.0 h.1 (followed qs h.0 o h.2)

  pub reached : (p : List PrimitiveTree) (havocs : List Havoc) (s : Tables) (o : Outcome)
      → follow_path axioms p havocs s ≡ Some o → PathHasOutcome axioms p s o
  reached [] havocs s o e = let z : ended s ≡ o = cc in sym z
  reached (assume p ∷ qs) havocs s o e =
      let h = passes (is_true s p) (follow_path axioms qs havocs s) o e in
      inr (s, (refl, h.0), reached qs havocs s o h.1)
  reached (set_rel r by ∷ qs) havocs s o e =
      let new = set_relation s r by in
      let h = passes (satisfies new axioms) (follow_path axioms qs havocs new) o e in
      inr (new, (refl, h.0), reached qs havocs new o h.1)
  reached (set_fun f by ∷ qs) havocs s o e =
      let new = set_function s f by in
      let h = passes (satisfies new axioms) (follow_path axioms qs havocs new) o e in
      inr (new, (refl, h.0), reached qs havocs new o h.1)
  reached (havoc v ∷ qs) [] s o e = absurd (cc e)
  reached (havoc v ∷ qs) (Element x ∷ havocs) s o e =
      let new = set_variable s v x in
      let g = passes (nat_lt x (range_of s v)) (cond (satisfies new axioms) (follow_path axioms qs havocs new) None) o
      e in
      let h = passes (satisfies new axioms) (follow_path axioms qs havocs new) o g.1 in
      inr (new, (x, ltb-true x (range_of s v) g.0, (refl, h.0)), reached qs havocs new o h.1)
  reached (havoc v ∷ qs) (Tuples xss ∷ havocs) s o e = absurd (cc e)
  reached (havoc_rel r ∷ qs) [] s o e = absurd (cc e)
  reached (havoc_rel r ∷ qs) (Element x ∷ havocs) s o e = absurd (cc e)
  reached (havoc_rel r ∷ qs) (Tuples xss ∷ havocs) s o e =
      let new = with_tuples s r xss in
      let g = passes (are_tuples_of s r xss) (cond (satisfies new axioms) (follow_path axioms qs havocs new) None) o
      e in
      let h = passes (satisfies new axioms) (follow_path axioms qs havocs new) o g.1 in
      inr (new, (has_tuple xss, (refl, h.0)), reached qs havocs new o h.1)
  reached (abort ∷ qs) havocs s o e = let z : aborted ≡ o = cc in inl (sym z, refl)

pub following_law : TablesAreTuples → PathHasFollowedOutcomes
following_law tables axioms p s o = (followed tables axioms p s o, λ h. reached tables axioms p h.havocs s o h.ends)

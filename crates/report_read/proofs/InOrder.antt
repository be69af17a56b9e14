-- A trace with the tuples of its tables in order: it is what a path asks for, its text is the same, and following it
-- leads where the given one leads.
use Rattle.std.proofs.Common.{◌≡◌, ℕ, ◌<◌, Option, Some, None, List, [], ◌∷◌, ◌++◌, length, refl, sym, ap, ◌∙◌}
use Rattle.std.proofs.Common.{subst, cond}
use Rattle.std.specs.Prelude.{nat_lt, slice_index, codes}
use Rattle.std.specs.List.{filter}
use Rattle.std.proofs.lemmas.Bool.{ltb-true}
use Rattle.fol_sig.specs.Tables.{Tables, relation_at, function_at}
use Rattle.fol_sig.specs.Symbols.{Symbols, FitsStructure, symbols}
use Rattle.fol_sig.specs.Tuples.{tuples, TuplesAreNumbered}
use Rattle.fol_sig.specs.TupleSets.{has_tuple, with_tuples, TablesAreTuples}
use Rattle.fol_formula.specs.Syntax.{FormTree}
use Rattle.rml_command.specs.Trees.{PrimitiveTree, assume, set_rel, set_fun, havoc, havoc_rel, abort}
use Rattle.fol_formula.specs.Sentences.{is_true, satisfies}
use Rattle.rml_command.specs.Outcomes.{Outcome, ended, aborted, follow_path, set_relation}
use Rattle.rml_command.specs.Outcomes.{set_function, set_variable, range_of, are_tuples_of}
use Rattle.rml_command.specs.Paths.{EndsAtAbort}
use Rattle.rml_command.specs.Models.{ModelTree, FitsPath}
use Rattle.rml_command.specs.Fragment.{IsChecked}
use Rattle.rml_command.specs.Goals.{goal_path, IsCounterexample, FailsGoal}
use Rattle.rml_command.specs.Laws.{UpdatesKeepSymbols, GoalPathsFit, PathsEndAtAbort}
use Rattle.rml_command.specs.declared.goal.About.{About}
use Rattle.rml_command.specs.declared.goal.About.TheVariants as about
use Rattle.rml_command.specs.declared.havoc.Havoc.{Havoc}
use Rattle.rml_command.specs.declared.havoc.Havoc.TheVariants.{Element, Tuples}
use Rattle.rml_exec.specs.declared.trace.Counterexample.{Counterexample}
use Rattle.rml_report.specs.HavocText.{element_text, relation_text, havocs_text, havoc_line}
use Rattle.rml_report.specs.ReportText.{followed}
use Rattle.printed_report.specs.Executions.{listed, AreAsked, AreAskedAlong}
use Rattle.report_read.specs.Printing.{in_order, in_order_along, printed_shown, IsShownAlike, PrintedIsShown}
use Rattle.report_read.proofs.Pieces.{tested}
use Rattle.report_read.proofs.Members.{filter_kept}
use Rattle.report_read.proofs.HavocLines.{asked_count, tuples_distinct, same_set}

module _ (numbered : TuplesAreNumbered) (tables : TablesAreTuples) (law : UpdatesKeepSymbols) (sig : Symbols)
    (axioms : List FormTree) (s : Tables) (start : FitsStructure sig s) where
  same_range : (now : Tables) (v : ℕ) → FitsStructure sig now → now.sizes ≡ s.sizes → v < sig.functions
      → range_of now v ≡ range_of s v
  same_range now v fits sizes lt =
      ap (λ z. slice_index z (function_at now v).into) sizes
      ∙ ap (slice_index s.sizes) (sym (fits.into_of v lt) ∙ start.into_of v lt)

  same_listed : (now : Tables) (r : ℕ) (xss : List (List ℕ)) → FitsStructure sig now → now.sizes ≡ s.sizes
      → r < sig.relations → listed now r xss ≡ listed s r xss
  same_listed now r xss fits sizes lt =
      ap (λ z. filter (has_tuple xss) (tuples z (relation_at now r).sorts)) sizes
      ∙ ap (λ ks. filter (has_tuple xss) (tuples s.sizes ks)) (sym (fits.sorts_of r lt) ∙ start.sorts_of r lt)

  listed_twice : (r : ℕ) (xss : List (List ℕ)) → listed s r (listed s r xss) ≡ listed s r xss
  listed_twice r xss =
      filter_kept (has_tuple xss) (tuples s.sizes (relation_at s r).sorts)
      (tuples_distinct numbered s.sizes (relation_at s r).sorts)

  listed_text : (r : ℕ) (xss : List (List ℕ)) → relation_text s r (listed s r xss) ≡ relation_text s r xss
  unfolding relation_text
  listed_text r xss = ap (λ l. 32 ∷ l) (same_set numbered s.sizes (relation_at s r).sorts xss)

  record IsInOrder (path : List PrimitiveTree) (hs : List Havoc) (now : Tables) : Type 0 where
    asked : AreAsked s path (in_order s path hs)
    text : havocs_text s path (in_order s path hs) ≡ havocs_text s path hs
    follows : follow_path axioms path (in_order s path hs) now ≡ follow_path axioms path hs now

  in_order_is : (qs : List PrimitiveTree) (hs : List Havoc) (now : Tables) (o : Outcome) → FitsPath sig qs
      → EndsAtAbort qs → FitsStructure sig now → now.sizes ≡ s.sizes → follow_path axioms qs hs now ≡ Some o
      → IsInOrder qs hs now
  in_order_is [] hs now o path last fits sizes e = record { asked = refl; text = refl; follows = refl }
  in_order_is (assume p ∷ qs) hs now o path last fits sizes e =
      let a = tested (is_true now p) (follow_path axioms qs hs now) o e in
      let r = in_order_is qs hs now o path.1 last.1 fits sizes a.1 in
      record {
        asked = (tt, r.asked);
        text = r.text;
        follows = ap (λ f. cond (is_true now p) f None) r.follows;
      }
  in_order_is (set_rel r by ∷ qs) hs now o path last fits sizes e =
      let new = set_relation now r by in
      let a = tested (satisfies new axioms) (follow_path axioms qs hs new) o e in
      let h = in_order_is qs hs new o path.1 last.1 (law.relation sig now r by path.0 fits) sizes a.1 in
      record {
        asked = (tt, h.asked);
        text = h.text;
        follows = ap (λ f. cond (satisfies (set_relation now r by) axioms) f None) h.follows;
      }
  in_order_is (set_fun g by ∷ qs) hs now o path last fits sizes e =
      let new = set_function now g by in
      let a = tested (satisfies new axioms) (follow_path axioms qs hs new) o e in
      let h = in_order_is qs hs new o path.1 last.1 (law.function sig now g by path.0 fits) sizes a.1 in
      record {
        asked = (tt, h.asked);
        text = h.text;
        follows = ap (λ f. cond (satisfies (set_function now g by) axioms) f None) h.follows;
      }
  in_order_is (havoc v ∷ qs) [] now o path last fits sizes e = absurd (cc e)
  in_order_is (havoc v ∷ qs) (Element x ∷ hs) now o path last fits sizes e =
      let new = set_variable now v x in
      let a = tested (nat_lt x (range_of now v))
      (cond (satisfies new axioms) (follow_path axioms qs hs new) None) o e in
      let b = tested (satisfies new axioms) (follow_path axioms qs hs new) o a.1 in
      let lt : x < range_of now v = ltb-true x (range_of now v) a.0 in
      let h = in_order_is qs hs new o path.1 last.1 (law.variable sig now v x path.0 lt fits) sizes b.1 in
      record {
        asked = (subst (λ n. x < n) (same_range now v fits sizes path.0.0) lt, h.asked);
        text = ap (λ l. element_text x ++ l) h.text;
        follows = ap (λ f. cond (nat_lt x (range_of now v)) (cond (satisfies (set_variable now v x) axioms) f None)
            None) h.follows;
      }
  in_order_is (havoc v ∷ qs) (Tuples xss ∷ hs) now o path last fits sizes e = absurd (cc e)
  in_order_is (havoc_rel r ∷ qs) [] now o path last fits sizes e = absurd (cc e)
  in_order_is (havoc_rel r ∷ qs) (Element x ∷ hs) now o path last fits sizes e = absurd (cc e)
  in_order_is (havoc_rel r ∷ qs) (Tuples xss ∷ hs) now o path last fits sizes e =
      let new = with_tuples now r xss in
      let ys : List (List ℕ) = listed s r xss in
      let same = same_listed now r xss fits sizes path.0 in
      let its = tables now r (has_tuple xss) in
      let a = tested (are_tuples_of now r xss)
      (cond (satisfies new axioms) (follow_path axioms qs hs new) None) o e in
      let b = tested (satisfies new axioms) (follow_path axioms qs hs new) o a.1 in
      let there : are_tuples_of now r ys ≡ are_tuples_of now r xss =
      sym (ap (are_tuples_of now r) same) ∙ its.in_range ∙ sym a.0 in
      let set : with_tuples now r ys ≡ with_tuples now r xss =
      sym (ap (with_tuples now r) same) ∙ its.same in
      let h = in_order_is qs hs new o path.1 last.1 (law.table sig now r (has_tuple xss) path.0 fits) sizes b.1 in
      record {
        asked = (listed_twice r xss, h.asked);
        text = ap (λ l. l ++ havocs_text s qs (in_order s qs hs)) (listed_text r xss)
            ∙ ap (λ l. relation_text s r xss ++ l) h.text;
        follows = ap (λ t. cond t (cond (satisfies (with_tuples now r ys) axioms)
            (follow_path axioms qs (in_order s qs hs) (with_tuples now r ys)) None) None) there
            ∙ ap (λ u. cond (are_tuples_of now r xss) (cond (satisfies u axioms)
            (follow_path axioms qs (in_order s qs hs) u) None) None) set
            ∙ ap (λ f. cond (are_tuples_of now r xss) (cond (satisfies (with_tuples now r xss) axioms) f None) None)
            h.follows;
      }
  in_order_is (abort ∷ qs) hs now o path last fits sizes e =
      let none : qs ≡ [] = last.0 refl in
      record {
        asked = (tt, subst (λ ps. AreAsked s ps (in_order s ps hs)) (sym none) refl);
        text = subst (λ ps. havocs_text s ps (in_order s ps hs) ≡ havocs_text s ps hs) (sym none) refl;
        follows = refl;
      }

-- of a counterexample
module _ (numbered : TuplesAreNumbered) (tables : TablesAreTuples) (updates : UpdatesKeepSymbols) (law : GoalPathsFit)
    (ends : PathsEndAtAbort) (m : ModelTree) (ok : IsChecked m) (shown : Counterexample)
    (is : IsCounterexample m m.conjectures shown.goal shown.structure shown.trace.havoc shown.values) where
  has_outcome : (a : About) (values : List ℕ) (o : Option Outcome) → FailsGoal m a values o
      → (r : Outcome) × (o ≡ Some r)
  has_outcome about.Abort values o f = (aborted, f.0)
  has_outcome (about.Conjecture k) values o f = (ended f.1, f.3)

  abbrev along : List Havoc
  along = in_order shown.structure is.path shown.trace.havoc

  in_order_along_is : IsInOrder numbered tables updates (symbols m.signature) m.axioms shown.structure is.structure
      is.path shown.trace.havoc shown.structure
  in_order_along_is =
      let o = has_outcome shown.goal.about shown.values
      (follow_path m.axioms is.path shown.trace.havoc shown.structure) is.fails in
      in_order_is numbered tables updates (symbols m.signature) m.axioms shown.structure is.structure is.path
      shown.trace.havoc shown.structure o.0
      (law.symbols_fit m shown.goal is.path ok.model.fits is.is_path) (ends.goals m shown.goal is.path is.is_path)
      is.structure refl o.1

  same_along : in_order_along shown.structure (goal_path m shown.goal) shown.trace.havoc ≡ along
  same_along = ap (λ o. in_order_along shown.structure o shown.trace.havoc) is.is_path

  pub asked_along : AreAskedAlong shown.structure (goal_path m shown.goal) (printed_shown m shown).trace.havoc
  asked_along =
      subst (λ o. AreAskedAlong shown.structure o (in_order_along shown.structure o shown.trace.havoc))
      (sym is.is_path) in_order_along_is.asked

  pub same_line : havoc_line shown.structure (goal_path m shown.goal) (printed_shown m shown).trace.havoc
      ≡ havoc_line shown.structure (goal_path m shown.goal) shown.trace.havoc
  unfolding havoc_line
  same_line =
      subst (λ o. havoc_line shown.structure o (in_order_along shown.structure o shown.trace.havoc)
      ≡ havoc_line shown.structure o shown.trace.havoc) (sym is.is_path)
      (ap (λ l. (codes "  havoc:" ++ l) ++ codes "\n") in_order_along_is.text)

  pub shown_alike : IsShownAlike m shown
  shown_alike = record {
    refutes = record {
      path = is.path;
      is_path = is.is_path;
      structure = is.structure;
      allowed = is.allowed;
      count = ap length same_along ∙ asked_count shown.structure is.path along in_order_along_is.asked;
      fails = subst (FailsGoal m shown.goal.about shown.values)
          (sym (ap (λ hs. follow_path m.axioms is.path hs shown.structure) same_along ∙ in_order_along_is.follows))
          is.fails;
    };
    ends = ap (λ o. followed m o (printed_shown m shown)) is.is_path
        ∙ ap (λ hs. follow_path m.axioms is.path hs shown.structure) same_along
        ∙ in_order_along_is.follows
        ∙ sym (ap (λ o. followed m o shown) is.is_path);
  }

pub printed_is_shown : TuplesAreNumbered → TablesAreTuples → UpdatesKeepSymbols → GoalPathsFit → PathsEndAtAbort
    → PrintedIsShown
printed_is_shown numbered tables updates law ends =
    λ m shown ok is. shown_alike numbered tables updates law ends m ok shown is.refutes

-- Whatever the trace with which a path has an outcome, its tables are those of fresh relations of some structure.
use Rattle.std.proofs.Common.{◌≡◌, ◌<◌, ◌+◌, ℕ, suc, Bool, true, cond, Option, Some, None, List, [], ◌∷◌}
use Rattle.std.proofs.Common.{length, map}
use Rattle.std.proofs.Common.{false, refl, sym, ap, ◌∙◌, subst, arith, reverse}
use Rattle.std.specs.Prelude.{nat_lt, slice_index_or}
use Rattle.std.specs.List.{filter}
use Rattle.std.proofs.lemmas.Bool.{ltb-true}
use Rattle.std.proofs.lemmas.List.{reverse-reverse}
use Rattle.std.proofs.lemmas.List.Elements.{All-cons}
use Rattle.fol_sig.specs.Tables.{Tables, RelationTable, IsFullRelation, cell_at, relation_at, rel_at}
use Rattle.fol_sig.specs.Symbols.{Symbols, FitsStructure}
use Rattle.fol_sig.specs.Growing.{AreTablesOf}
use Rattle.fol_sig.specs.Tuples.{tuples}
use Rattle.fol_sig.specs.TupleSets.{has_tuple, with_table, with_tuples, tuples_where, tuples_of, TablesAreExtensional}
use Rattle.fol_sig.specs.TupleSets.{TablesAreTuples}
use Rattle.fol_sig.specs.Updates.{UpdatesRelation}
use Rattle.fol_formula.specs.Syntax.{FormTree}
use Rattle.rml_command.specs.Trees.{PrimitiveTree, assume, set_rel, set_fun, havoc, havoc_rel, abort}
use Rattle.fol_formula.specs.Sentences.{is_true, satisfies}
use Rattle.rml_command.specs.Outcomes.{Outcome, follow_path, set_relation, set_function}
use Rattle.rml_command.specs.Outcomes.{set_variable, range_of, are_tuples_of}
use Rattle.rml_command.specs.Paths.{EndsAtAbort, havoc_count}
use Rattle.rml_command.specs.Models.{FitsPath}
use Rattle.rml_command.specs.Laws.{UpdatesKeepSymbols}
use Rattle.rml_command.specs.Fresh.{written, havocked, havocs_under}
use Rattle.rml_command.specs.declared.havoc.Havoc.{Havoc}
use Rattle.rml_command.specs.declared.havoc.Havoc.TheVariants.{Element, Tuples}
use Rattle.rml_wp.proofs.Under.{passes}

-- what the crates below promise of tables
pub record TablesAreTaken : Type 0 where
  pub keep : UpdatesKeepSymbols
  pub updates : (s : Tables) (r : ℕ) (f : List ℕ → Bool) → UpdatesRelation s r f
  pub extensional : TablesAreExtensional
  pub sets : TablesAreTuples

abbrev blank : RelationTable
blank = record { sorts = []; cells = [] }

-- the tuples of a table
abbrev listed : List ℕ → RelationTable → List (List ℕ)
listed sizes u = filter (λ xs. cell_at sizes u xs false) (tuples sizes u.sorts)

goes-on : (b : Bool) (x : Option Outcome) (o : Outcome) → b ≡ true → x ≡ Some o → cond b x None ≡ Some o
goes-on true x o e is = is
goes-on false x o e is = absurd (cc e)

-- the structure's tables of relations are these, from a number on
abbrev Stand : Tables → ℕ → List RelationTable → Type 0
Stand t n us = (i : ℕ) → i < length us → relation_at t (n + i) ≡ slice_index_or us i blank

rest-stand : (t : Tables) (n : ℕ) (u : RelationTable) (us : List RelationTable) → Stand t n (u ∷ us)
    → Stand t (suc n) us
rest-stand t n u us h i lt =
    let next : suc n + i ≡ n + suc i = omega arith in
    ap (relation_at t) next ∙ h (suc i) (omega (arith, lt))

first-stands : (t : Tables) (n : ℕ) (u : RelationTable) (us : List RelationTable) → Stand t n (u ∷ us)
    → relation_at t n ≡ u
first-stands t n u us h = let here : n ≡ n + 0 = omega arith in ap (relation_at t) here ∙ h 0 (omega arith)

-- tables and elements with which the path has the outcome
pub record IsTaken (axioms : List FormTree) (sig : Symbols) (p : List PrimitiveTree) (s : Tables) (o : Outcome)
    : Type 0 where
  pub tables : List RelationTable
  pub elements : List ℕ
  pub are : AreTablesOf s.sizes (havocked sig p) tables
  pub count : (in_sig : Symbols) (n : ℕ) → length elements ≡ havoc_count (written in_sig n p)
  pub same : (t : Tables) (n : ℕ) → t.sizes ≡ s.sizes → Stand t n tables
      → follow_path axioms p (havocs_under t n p elements) s ≡ Some o

no-tables : (sizes : List ℕ) → AreTablesOf sizes [] []
no-tables sizes = record { count = refl; sorts = refl; full = λ i d lt. absurd (omega (arith, lt)) }

module _ (laws : TablesAreTaken) (axioms : List FormTree) (sig : Symbols) where
  module _ (s : Tables) (fits : FitsStructure sig s) (r : ℕ) (known : r < sig.relations) (xss : List (List ℕ)) where
    abbrev new : Tables
    new = with_tuples s r xss

    new-fits : FitsStructure sig new
    new-fits = laws.keep.table sig s r (has_tuple xss) known fits

    there : r < length s.relations
    there = let count = fits.relations in omega (arith, known, count)

    same-sorts : (relation_at new r).sorts ≡ (relation_at s r).sorts
    same-sorts = sym (new-fits.sorts_of r known) ∙ fits.sorts_of r known

    -- the new relation is true of these tuples
    new-table : with_table s r (rel_at new r) ≡ new
    new-table =
        let f : List ℕ → Bool = rel_at new r in
        laws.extensional s r (λ tuple. f (reverse tuple)) (λ tuple. has_tuple xss (reverse tuple))
        (λ xs range. ap f (reverse-reverse xs)
        ∙ (laws.updates s r (λ tuple. has_tuple xss (reverse tuple))).here xs there range)

    -- a relation with its table lists tuples that make it
    lists : (t : Tables) (n : ℕ) → t.sizes ≡ s.sizes → relation_at t n ≡ relation_at new r
        → tuples_of t n ≡ tuples_where s r (rel_at new r)
    lists t n sizes is =
        ap (λ u. listed t.sizes u) is ∙ ap (λ k. listed k (relation_at new r)) sizes
        ∙ ap (λ ks. filter (rel_at new r) (tuples s.sizes ks)) same-sorts

    again : (t : Tables) (n : ℕ) → t.sizes ≡ s.sizes → relation_at t n ≡ relation_at new r
        → with_tuples s r (tuples_of t n) ≡ new
    again t n sizes is =
        ap (with_tuples s r) (lists t n sizes is) ∙ (laws.sets s r (rel_at new r)).same ∙ new-table

    in-range : (t : Tables) (n : ℕ) → t.sizes ≡ s.sizes → relation_at t n ≡ relation_at new r
        → are_tuples_of s r (tuples_of t n) ≡ true
    in-range t n sizes is = ap (are_tuples_of s r) (lists t n sizes is) ∙ (laws.sets s r (rel_at new r)).in_range

  pub taken : (p : List PrimitiveTree) (hs : List Havoc) (s : Tables) (o : Outcome) → FitsPath sig p → EndsAtAbort p
      → FitsStructure sig s → follow_path axioms p hs s ≡ Some o → IsTaken axioms sig p s o
  taken [] hs s o f ends fits is = record {
    tables = [];
    elements = [];
    are = no-tables s.sizes;
    count = λ in_sig n. refl;
    same = λ t n sizes stand. is;
  }
  taken (assume p ∷ qs) hs s o f ends fits is =
      let h = passes (is_true s p) (follow_path axioms qs hs s) o is in
      let w = taken qs hs s o f.1 ends.1 fits h.1 in
      record {
        tables = w.tables;
        elements = w.elements;
        are = w.are;
        count = w.count;
        same = λ t n sizes stand. goes-on (is_true s p) _ o h.0 (w.same t n sizes stand);
      }
  taken (set_rel r by ∷ qs) hs s o f ends fits is =
      let mid = set_relation s r by in
      let h = passes (satisfies mid axioms) (follow_path axioms qs hs mid) o is in
      let w = taken qs hs mid o f.1 ends.1 (laws.keep.relation sig s r by f.0 fits) h.1 in
      record {
        tables = w.tables;
        elements = w.elements;
        are = w.are;
        count = w.count;
        same = λ t n sizes stand. goes-on (satisfies mid axioms) _ o h.0 (w.same t n sizes stand);
      }
  taken (set_fun k by ∷ qs) hs s o f ends fits is =
      let mid = set_function s k by in
      let h = passes (satisfies mid axioms) (follow_path axioms qs hs mid) o is in
      let w = taken qs hs mid o f.1 ends.1 (laws.keep.function sig s k by f.0 fits) h.1 in
      record {
        tables = w.tables;
        elements = w.elements;
        are = w.are;
        count = w.count;
        same = λ t n sizes stand. goes-on (satisfies mid axioms) _ o h.0 (w.same t n sizes stand);
      }
  taken (havoc v ∷ qs) [] s o f ends fits is = absurd (cc is)
  taken (havoc v ∷ qs) (Element x ∷ hs) s o f ends fits is =
      let mid = set_variable s v x in
      let inner = cond (satisfies mid axioms) (follow_path axioms qs hs mid) None in
      let g = passes (nat_lt x (range_of s v)) inner o is in
      let h = passes (satisfies mid axioms) (follow_path axioms qs hs mid) o g.1 in
      let within = ltb-true x (range_of s v) g.0 in
      let w = taken qs hs mid o f.1 ends.1 (laws.keep.variable sig s v x f.0 within fits) h.1 in
      record {
        tables = w.tables;
        elements = x ∷ w.elements;
        are = w.are;
        count = λ in_sig n. ap suc (w.count in_sig n);
        same = λ t n sizes stand.
            goes-on (nat_lt x (range_of s v)) _ o g.0
            (goes-on (satisfies mid axioms) _ o h.0 (w.same t n sizes stand));
      }
  taken (havoc v ∷ qs) (Tuples xss ∷ hs) s o f ends fits is = absurd (cc is)
  taken (havoc_rel r ∷ qs) [] s o f ends fits is = absurd (cc is)
  taken (havoc_rel r ∷ qs) (Element x ∷ hs) s o f ends fits is = absurd (cc is)
  taken (havoc_rel r ∷ qs) (Tuples xss ∷ hs) s o f ends fits is =
      let mid = with_tuples s r xss in
      let inner = cond (satisfies mid axioms) (follow_path axioms qs hs mid) None in
      let g = passes (are_tuples_of s r xss) inner o is in
      let h = passes (satisfies mid axioms) (follow_path axioms qs hs mid) o g.1 in
      let mid_fits = new-fits s fits r f.0 xss in
      let w = taken qs hs mid o f.1 ends.1 mid_fits h.1 in
      let table = relation_at mid r in
      let known : r < length mid.relations =
      (let at = f.0 in let count = mid_fits.relations in omega (arith, at, count)) in
      record {
        tables = table ∷ w.tables;
        elements = w.elements;
        are = record {
          count = ap suc w.are.count;
          sorts = ap (λ ks. ks ∷ map (λ (u : RelationTable). u.sorts) w.tables) (sym (mid_fits.sorts_of r f.0))
              ∙ ap (λ kss. sig.sorts_of r ∷ kss) w.are.sorts;
          full = All-cons (IsFullRelation s.sizes) table w.tables (mid_fits.whole.relations_full r blank known)
              w.are.full;
        };
        count = λ in_sig n. w.count in_sig (suc n);
        same = λ t n sizes stand.
            let here = first-stands t n table w.tables stand in
            let same_mid = again s fits r f.0 xss t n sizes here in
            let rest = w.same t (suc n) sizes (rest-stand t n table w.tables stand) in
            goes-on (are_tuples_of s r (tuples_of t n)) _ o (in-range s fits r f.0 xss t n sizes here)
            (ap (λ z. cond (satisfies z axioms)
            (follow_path axioms qs (havocs_under t (suc n) qs w.elements) z) None) same_mid
            ∙ goes-on (satisfies mid axioms) _ o h.0 rest);
      }
  taken (abort ∷ qs) hs s o f ends fits is =
      let none = ends.0 refl in
      record {
        tables = [];
        elements = [];
        are = subst (λ (p : List PrimitiveTree). AreTablesOf s.sizes (havocked sig p) []) (sym none)
            (no-tables s.sizes);
        count = λ in_sig n. sym (ap (λ (p : List PrimitiveTree). havoc_count (written in_sig n p)) none);
        same = λ t n sizes stand. is;
      }

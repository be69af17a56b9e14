-- The structure of the classes, by its definition: its tables are read off the members of the classes.
use Rattle.std.proofs.Common.{◌≡◌, ℕ, ◌<◌, Bool, true, false, List, [], length, get_or, map, refl, sym, ap, ◌∙◌}
use Rattle.std.proofs.Common.{subst, arith, ⊎_elim}
use Rattle.std.specs.Prelude.{All}
use Rattle.std.proofs.lemmas.Bool.{cases_lt}
use Rattle.std.proofs.lemmas.List.{length-map, get_or_past}
use Rattle.std.proofs.lemmas.List.Elements.{All-from_get_or}
use Rattle.fol_sig.specs.Symbols.{Symbols, FitsStructure, AreSorted}
use Rattle.fol_sig.specs.Tables.{Tables, RelationTable, FunctionTable, InRange, IsFullRelation, IsFullFunction}
use Rattle.fol_sig.specs.Tables.{tuple_count, place_of, rel_at}
use Rattle.fol_sig.specs.Tuples.{TuplesAreNumbered, tuple_at}
use Rattle.ground_terms.specs.Terms.{Lists, term_counts, AreTerms, StandOnce}
use Rattle.ground_terms.specs.Numberings.{numbering, IsPlaced}
use Rattle.ground_terms.specs.Values.{Elements, elements_of}
use Rattle.ground_terms.specs.declared.atom.Atom.{Atom}
use Rattle.ground_terms.specs.declared.atom.Atom.TheVariants.{Rel, Eq}
use Rattle.equality_axioms.specs.Laws.{IsEquality}
use Rattle.structure_back.specs.ReadBack.{IsReadBack}
use Rattle.structure_back.specs.Rows.{Rows, row_of, looked_up}
use Rattle.structure_back.specs.Leaders.{AreReflexive, AreLeaders}
use Rattle.structure_back.specs.Classes.{AreClasses}
use Rattle.structure_back.specs.Tables.{AreRelationsRead, AreFunctionsRead, value_at}
use Rattle.structure_back.proofs.Listed.{
  listed,
  length-listed,
  listed-at,
  least,
  least-within,
  least-holds,
  least-first,
}
use Rattle.structure_back.proofs.Numbered.{lengths-are, reflexive, led, classes}
use Rattle.structure_back.proofs.Classed.{all-classed}
use Rattle.structure_back.proofs.Setting.{picked-within}
use Rattle.structure_back.proofs.Reading.{alike, along_truth, members-back, read_back}

-- the leader of each term: the first that is called equal to it
module _ (counts : List ℕ) (a : Atom → Bool) where
  abbrev leads : ℕ → ℕ → ℕ
  leads k x = least (λ y. a (Eq (record { 0 = k }) y x)) x

  abbrev pub leader_row : ℕ → List ℕ
  leader_row k = listed (get_or counts k 0) (leads k)

  abbrev pub leaders : Rows
  leaders = listed (length counts) leader_row

  row-is : (k : ℕ) → k < length counts → row_of leaders k ≡ leader_row k
  row-is k lt = listed-at (length counts) k leader_row [] lt

  long : map length leaders ≡ counts
  long = lengths-are leaders counts (length-listed (length counts) leader_row)
      (λ k lt. ap length (row-is k (subst (λ n. k < n) (length-listed (length counts) leader_row) lt))
      ∙ length-listed (get_or counts k 0) (leads k))

  lead-is : (k x : ℕ) → k < length counts → x < get_or counts k 0 → looked_up leaders k x ≡ leads k x
  lead-is k x lk lx = ap (λ row. get_or row x 0) (row-is k lk) ∙ listed-at (get_or counts k 0) x (leads k) 0 lx

  known : (k x : ℕ) → x < get_or counts k 0 → k < length counts
  known k x lx = ⊎_elim
      (λ less. less)
      (λ le. absurd (let past = get_or_past counts k 0 le in omega (arith, past, lx)))
      (cases_lt k (length counts))

  pub are-leaders : AreReflexive counts a → AreLeaders counts a leaders
  are-leaders reflexive = record {
    long = long;
    first = λ k x lx.
        let is = lead-is k x (known k x lx) lx in
        let le = least-within (λ y. a (Eq (record { 0 = k }) y x)) x in
        omega (arith, is, le);
    equal = λ k x lk lx.
        subst (λ z. a (Eq k z x) ≡ true) (sym (lead-is k.0 x lk lx))
        (least-holds (λ y. a (Eq k y x)) x (reflexive k x lk lx));
    least = λ k x y lk lx t.
        let is = lead-is k.0 x lk lx in
        let le = least-first (λ z. a (Eq k z x)) x y t in
        omega (arith, is, le);
  }

module _ (numbered : TuplesAreNumbered) (sig : Symbols) (lists : Lists) (a : Atom → Bool) (sorted : AreSorted sig)
    (eq : IsEquality sig (numbering sig lists) a) (sizes : List ℕ) (numbers members : Rows)
    (h : AreClasses sig (term_counts lists) a sizes numbers members)
    (placed : (f : ℕ) (xs : List ℕ) → f < sig.functions → InRange (term_counts lists) (sig.from_of f) xs
    → IsPlaced sig lists f xs) where
  abbrev v : Elements
  v = looked_up numbers

  abbrev member : Elements
  member = looked_up members

  abbrev relation_cell : ℕ → ℕ → Bool
  relation_cell r n =
      a (Rel (record { 0 = r }) (elements_of member (sig.sorts_of r) (tuple_at sizes (sig.sorts_of r) n)))

  abbrev relation_table : ℕ → RelationTable
  relation_table r = record {
    sorts = sig.sorts_of r;
    cells = listed (tuple_count sizes (sig.sorts_of r)) (relation_cell r);
  }

  abbrev function_cell : ℕ → ℕ → ℕ
  function_cell f n = value_at sig (numbering sig lists) v member f (tuple_at sizes (sig.from_of f) n)

  abbrev function_table : ℕ → FunctionTable
  function_table f = record {
    sorts = sig.from_of f;
    into = sig.into_of f;
    cells = listed (tuple_count sizes (sig.from_of f)) (function_cell f);
  }

  abbrev pub quotient : Tables
  quotient = record {
    sizes = sizes;
    relations = listed sig.relations relation_table;
    functions = listed sig.functions function_table;
  }

  abbrev no_relation : RelationTable
  no_relation = record { sorts = []; cells = [] }

  abbrev no_function : FunctionTable
  no_function = record { sorts = []; into = 0; cells = [] }

  there : (ks cs : List ℕ) → All (λ k. k < sig.sorts) ks → InRange sizes ks cs
      → InRange (term_counts lists) ks (elements_of member ks cs)
  there ks cs o inside = picked-within sizes (term_counts lists) sig.sorts member h.member_within ks cs o inside

  in-sizes : (ks : List ℕ) → All (λ k. k < sig.sorts) ks → All (λ k. k < length sizes) ks
  in-sizes ks o = subst (λ n. All (λ k. k < n) ks) (sym h.sorts) o

  relation-full : (r : ℕ) → r < sig.relations → IsFullRelation sizes (relation_table r)
  relation-full r lt = record {
    sorted = in-sizes (sig.sorts_of r) (sorted.relations r lt);
    short = sorted.relations_short r lt;
    full = length-listed (tuple_count sizes (sig.sorts_of r)) (relation_cell r);
  }

  cell-within : (f n : ℕ) → f < sig.functions → n < tuple_count sizes (sig.from_of f)
      → function_cell f n < get_or sizes (sig.into_of f) 0
  cell-within f n lf ln =
      let ks = sig.from_of f in
      let cs = tuple_at sizes ks n in
      let inside = there ks cs (sorted.functions f lf) ((numbered sizes ks).tuple_within n ln) in
      h.within (sig.into_of f) ((numbering sig lists).place f (elements_of member ks cs)) (sorted.into f lf)
      (placed f (elements_of member ks cs) lf inside).within

  function-full : (f : ℕ) → f < sig.functions → IsFullFunction sizes (function_table f)
  function-full f lt =
      let count = tuple_count sizes (sig.from_of f) in
      let long = length-listed count (function_cell f) in
      record {
        sorted = in-sizes (sig.from_of f) (sorted.functions f lt);
        short = sorted.functions_short f lt;
        into_sorted = subst (λ n. sig.into_of f < n) (sym h.sorts) (sorted.into f lt);
        full = long;
        within = All-from_get_or (λ x. x < get_or sizes (sig.into_of f) 0) (listed count (function_cell f)) 0
            (λ n ln. let l : n < count = omega (arith, ln, long) in
            subst (λ x. x < get_or sizes (sig.into_of f) 0) (sym (listed-at count n (function_cell f) 0 l))
            (cell-within f n lt l));
      }

  fits : FitsStructure sig quotient
  fits =
      let relations_long = length-listed sig.relations relation_table in
      let functions_long = length-listed sig.functions function_table in
      record {
        whole = record {
          positive = All-from_get_or (λ n. 0 < n) sizes 0 (λ k lt. h.some k (subst (λ n. k < n) h.sorts lt));
          relations_full = All-from_get_or (IsFullRelation sizes) (listed sig.relations relation_table) no_relation
              (λ r lt. let l : r < sig.relations = omega (arith, lt, relations_long) in
              subst (IsFullRelation sizes) (sym (listed-at sig.relations r relation_table no_relation l))
              (relation-full r l));
          functions_full = All-from_get_or (IsFullFunction sizes) (listed sig.functions function_table) no_function
              (λ f lt. let l : f < sig.functions = omega (arith, lt, functions_long) in
              subst (IsFullFunction sizes) (sym (listed-at sig.functions f function_table no_function l))
              (function-full f l));
        };
        sorts = sym h.sorts;
        relations = sym relations_long;
        functions = sym functions_long;
        sorts_of = λ r lt. sym
            (ap (λ (t : RelationTable). t.sorts) (listed-at sig.relations r relation_table no_relation lt));
        from_of = λ f lt. sym
            (ap (λ (t : FunctionTable). t.sorts) (listed-at sig.functions f function_table no_function lt));
        into_of = λ f lt. sym
            (ap (λ (t : FunctionTable). t.into) (listed-at sig.functions f function_table no_function lt));
      }

  relation-value : (r : ℕ) (cs : List ℕ) → r < sig.relations → InRange sizes (sig.sorts_of r) cs
      → rel_at quotient r cs ≡ a (Rel (record { 0 = r }) (elements_of member (sig.sorts_of r) cs))
  relation-value r cs lt inside =
      let ks = sig.sorts_of r in
      let tuple = numbered sizes ks in
      ap (λ (t : RelationTable). get_or t.cells (place_of sizes t.sorts cs) false)
      (listed-at sig.relations r relation_table no_relation lt)
      ∙ listed-at (tuple_count sizes ks) (place_of sizes ks cs) (relation_cell r) false (tuple.place_within cs inside)
      ∙ ap (λ ds. a (Rel (record { 0 = r }) (elements_of member ks ds))) (tuple.tuple_of_place cs inside)

  function-value : AreFunctionsRead sig (numbering sig lists) v member quotient
  function-value f cs lt inside =
      let ks = sig.from_of f in
      let tuple = numbered sizes ks in
      ap (λ (t : FunctionTable). get_or t.cells (place_of sizes t.sorts cs) 0)
      (listed-at sig.functions f function_table no_function lt)
      ∙ listed-at (tuple_count sizes ks) (place_of sizes ks cs) (function_cell f) 0 (tuple.place_within cs inside)
      ∙ ap (value_at sig (numbering sig lists) v member f) (tuple.tuple_of_place cs inside)

  relations-read : AreRelationsRead sig (term_counts lists) a v quotient
  relations-read = record {
    whole = λ r xs given t.
        let ks = sig.sorts_of r.0 in
        let o = sorted.relations r.0 given.0 in
        let cs = elements_of v ks xs in
        let inside = picked-within (term_counts lists) sizes sig.sorts v h.within ks xs o given.1 in
        let ys = elements_of member ks cs in
        let back = there ks cs o inside in
        let names = numbering sig lists in
        let same = alike sig names a sizes numbers members sorted eq h ks xs ys o given.1 back
        (sym (members-back sig names a sizes numbers members sorted eq h ks cs o inside)) in
        relation-value r.0 cs given.0 inside
        ∙ along_truth sig names a sizes numbers members sorted eq h ks (λ zs. a (Rel r zs))
        (λ i zs z l u lz d w. eq.relations r i zs z given.0 l u lz d w) xs ys given.1 back same t;
    only = λ r cs lt inside t.
        let ks = sig.sorts_of r.0 in
        let o = sorted.relations r.0 lt in
        let ys = elements_of member ks cs in (
          Rel r ys,
          (
            ys,
            (lt, there ks cs o inside),
            refl,
            members-back sig (numbering sig lists) a sizes numbers members sorted eq h ks cs o inside,
          ),
          sym (relation-value r.0 cs lt inside) ∙ t,
        );
  }

  pub quotient-reads : StandOnce sig lists → ((k : ℕ) → k < sig.sorts → AreTerms sig lists k)
      → IsReadBack sig lists a quotient
  quotient-reads once terms =
      read_back sig lists a sizes numbers members quotient sorted once terms placed eq h fits refl relations-read
      function-value

pub some-structure : TuplesAreNumbered → (sig : Symbols) (lists : Lists) (a : Atom → Bool) → AreSorted sig
    → length lists ≡ sig.sorts → IsEquality sig (numbering sig lists) a
    → ((f : ℕ) (xs : List ℕ) → f < sig.functions → InRange (term_counts lists) (sig.from_of f) xs
    → IsPlaced sig lists f xs)
    → StandOnce sig lists → ((k : ℕ) → k < sig.sorts → AreTerms sig lists k)
    → (s : Tables) × IsReadBack sig lists a s
some-structure numbered sig lists a sorted closed eq placed once terms =
    let counts = term_counts lists in
    let names = numbering sig lists in
    let counted = length-map lists length ∙ closed in
    let lead = are-leaders counts a (reflexive sig names a counted eq) in
    let rows = leaders counts a in
    let rows_long = length-listed (length counts) (leader_row counts a) in
    let made = all-classed rows (led sig names a counted eq rows lead) sig.sorts (omega (arith, rows_long, counted)) in
    let h = classes sig names a counted eq rows lead made.0 made.1 made.2 made.3 (λ k lk. (terms k lk).some) in (
      quotient numbered sig lists a sorted eq made.0 made.1 made.2 h placed,
      quotient-reads numbered sig lists a sorted eq made.0 made.1 made.2 h placed once terms,
    )

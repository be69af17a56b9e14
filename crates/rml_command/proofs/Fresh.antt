-- A path under the tables of its fresh relations.
use Rattle.std.proofs.Common.{◌≡◌, ℕ, zero, suc, ◌+◌, ◌-◌, ◌<◌, ◌≤◌, Bool, true, false, cond, Option, None}
use Rattle.std.proofs.Common.{List, [], ◌∷◌}
use Rattle.std.proofs.Common.{◌++◌, All, length, get_or, take, map, refl, sym, ap, ◌∙◌, subst, arith, take_all}
use Rattle.std.specs.Prelude.{reverse, nat_lt}
use Rattle.std.specs.List.{AllByRecursion, filter}
use mathlib.Core.Path.{fun_ext}
use Rattle.std.proofs.lemmas.Bool.{ltb-true}
use Rattle.std.proofs.lemmas.List.{reverse-reverse, reverse-append, length-reverse, length-append, take_more}
use Rattle.std.proofs.lemmas.List.{get_or-set_other, get_or-reverse, get_or_at, append_assoc}
use Rattle.std.proofs.lemmas.List.Elements.{All-nil, All-cons, All-get_or}
use Rattle.fol_sig.specs.Tables.{Declared, AreSorts, Tables, RelationTable, FunctionTable, InRange, reading, Reading}
use Rattle.fol_sig.specs.Tables.{size_at, relation_at}
use Rattle.fol_sig.specs.Tables.{function_at, rel_at, cell_at}
use Rattle.fol_sig.specs.Symbols.{Symbols, FitsStructure, symbols}
use Rattle.fol_sig.specs.Ranges.{RangesAreAlong}
use Rattle.fol_sig.specs.Constants.{reduct}
use Rattle.fol_sig.specs.Tuples.{tuples}
use Rattle.fol_sig.specs.Updates.{cells_from, with_relation_cells, with_function_cells}
use Rattle.fol_sig.specs.TupleSets.{with_tuples, tuples_of, tuples_where, TablesAreExtensional, IsItsTuples}
use Rattle.fol_sig.specs.TupleSets.{TablesAreTuples}
use Rattle.fol_sig.specs.Growing.{Grows, GrowsByRelations, SignaturesGrowByRelations, StructuresReduce}
use Rattle.fol_sig.specs.Growing.{CommutesWithUpdates, ReductsCommuteWithUpdates}
use Rattle.fol_formula.specs.Syntax.{FormTree, TermTree, forms_of}
use Rattle.fol_formula.specs.Truth.{truth, value, values}
use Rattle.fol_formula.specs.Fits.{FitsForm, FitsForms, FitsTerm, FitsTerms}
use Rattle.fol_formula.specs.Fragments.{AreQuantifierFreeTerms}
use Rattle.fol_formula.specs.Growing.{ReadsItsOwn, TruthReadsItsOwn, FittingIsKept}
use Rattle.rml_command.specs.Trees.{PrimitiveTree, assume, set_rel, set_fun, havoc, havoc_rel, abort}
use Rattle.fol_formula.specs.Sentences.{all_of, is_true, satisfies}
use Rattle.rml_command.specs.Outcomes.{Outcome, follow_path, set_relation}
use Rattle.rml_command.specs.Outcomes.{set_function, set_variable, range_of, are_tuples_of}
use Rattle.rml_command.specs.Models.{FitsPrimitive, FitsPath}
use Rattle.rml_command.specs.Laws.{UpdatesKeepSymbols}
use Rattle.rml_command.specs.Fresh.{parameters, at_parameters, written, havocked, havocs_under, cut_outcome}
use Rattle.rml_command.specs.Fresh.{FreshTablesAreFollowed, WrittenPathsFit, FreshSignaturesGrow}
use Rattle.rml_command.specs.Fragment.{IsInFragment}
use Rattle.rml_command.specs.declared.havoc.Havoc.{Havoc}
use Rattle.rml_command.specs.declared.havoc.Havoc.TheVariants.{Element}

-- what the crates below promise of growing signatures and of tables
pub record Knows : Type 0 where
  pub reduces : StructuresReduce
  pub stays : ReductsCommuteWithUpdates
  pub along : RangesAreAlong
  pub same : TablesAreExtensional
  pub tuples : TablesAreTuples
  pub fitting : FittingIsKept
  pub reads : TruthReadsItsOwn
  pub keep : UpdatesKeepSymbols

-- the parameters have the elements of a tuple as their values, which has its last element first
first-values : (s : Reading) (k : ℕ) (env : List ℕ) → k ≤ length env → values s (parameters k) env
    ≡ reverse (take k env)
first-values s zero env le = refl
first-values s (suc k) env le =
    let lt : k < length env = omega (arith, le) in
    let more : suc k ≡ k + 1 = omega arith in
    ap (λ xs. get_or env k 0 ∷ xs) (first-values s k env (omega (arith, le)))
    ∙ sym (reverse-append (take k env) (get_or env k 0 ∷ []))
    ∙ ap reverse (sym (take_more env k 0 lt) ∙ ap (λ n. take n env) (sym more))

parameter-values : (s : Reading) (k : ℕ) (xs : List ℕ) → length xs ≡ k → values s (parameters k) (reverse xs) ≡ xs
parameter-values s k xs long =
    first-values s k (reverse xs) (omega (arith, long, length-reverse xs))
    ∙ ap reverse (take_all k (reverse xs) (omega (arith, long, length-reverse xs)))
    ∙ reverse-reverse xs

-- the parameters of a symbol have its argument sorts
parameters-fit : (sig : Symbols) (all done ks : List ℕ) → done ++ ks ≡ all
    → FitsTerms sig (reverse all) (parameters (length ks)) ks
parameters-fit sig all done [] e = tt
parameters-fit sig all done (k ∷ ks) e =
    let whole : length all ≡ length done + suc (length ks) = ap length (sym e) ∙ length-append done (k ∷ ks) in
    let lt : length ks < length all = omega (arith, whole) in
    let at : length all - 1 - length ks ≡ length done = omega (arith, whole) in (
      (
        omega (arith, lt, length-reverse all),
        get_or-reverse all (length ks) 0 lt
            ∙ ap (λ i. get_or all i 0) at
            ∙ ap (λ xs. get_or xs (length done) 0) (sym e)
            ∙ get_or_at done k ks 0 (length done) refl,
      ),
      parameters-fit sig all (done ++ k ∷ []) ks (append_assoc done (k ∷ []) ks ∙ e),
    )

parameters-free : (k : ℕ) → AreQuantifierFreeTerms (parameters k)
parameters-free zero = tt
parameters-free (suc k) = (tt, parameters-free k)

all-fit : (sig : Symbols) (ps : List FormTree) → AllByRecursion (FitsForm sig []) ps → FitsForms sig [] (forms_of ps)
all-fit sig [] h = tt
all-fit sig (p ∷ ps) h = (h.0, all-fit sig ps h.1)

cut-cond : (sig : Symbols) (b : Bool) (x : Option Outcome)
    → cut_outcome sig (cond b x None) ≡ cond b (cut_outcome sig x) None
cut-cond sig true x = refl
cut-cond sig false x = refl

abbrev no_table : RelationTable
no_table = record { sorts = []; cells = [] }

-- the tuples of a table
abbrev listed : List ℕ → RelationTable → List (List ℕ)
listed sizes u = filter (λ xs. cell_at sizes u xs false) (tuples sizes u.sorts)

-- the relations from this number on are those of a path's relation havocs
record AreFresh (sig more : Symbols) (n : ℕ) (p : List PrimitiveTree) : Type 0 where
  behind : sig.relations ≤ n
  room : n + length (havocked sig p) ≤ more.relations
  sorts : (i : ℕ) → i < length (havocked sig p) → more.sorts_of (n + i) ≡ get_or (havocked sig p) i []

module _ (laws : Knows) (sig more : Symbols) (g : Grows sig more) (axioms : List FormTree)
    (fit : AllByRecursion (FitsForm sig []) axioms) where
  wider : (r : ℕ) → r < sig.relations → r < more.relations
  wider r lt = omega (arith, lt, g.relations)

  wider-function : (v : ℕ) → v < sig.functions → v < more.functions
  wider-function v lt = omega (arith, lt, g.functions)

  -- what fits the signature fits the grown one
  relation-fits : (r : ℕ) (by : FormTree) → FitsPrimitive sig (set_rel r by) → FitsPrimitive more (set_rel r by)
  relation-fits r by h = (
    wider r h.0,
    subst (λ ks. FitsForm more (reverse ks) by) (sym (g.sorts_of r h.0))
        ((laws.fitting sig more g).formulas (reverse (sig.sorts_of r)) by h.1),
  )

  function-fits : (k : ℕ) (by : TermTree) → FitsPrimitive sig (set_fun k by) → FitsPrimitive more (set_fun k by)
  function-fits k by h = (
    wider-function k h.0,
    subst (λ j. FitsTerm more (reverse (more.from_of k)) by j) (sym (g.into_of k h.0))
        (subst (λ ks. FitsTerm more (reverse ks) by (sig.into_of k)) (sym (g.from_of k h.0))
        ((laws.fitting sig more g).terms (reverse (sig.from_of k)) by (sig.into_of k) h.1)),
  )

  -- so does a fresh relation at the parameters of the relation that is havocked
  fresh-fits : (r n : ℕ) → r < sig.relations → n < more.relations → more.sorts_of n ≡ sig.sorts_of r
      → length (more.sorts_of n) ≤ 8 → FitsPrimitive more (set_rel r (at_parameters n (length (sig.sorts_of r))))
  fresh-fits r n known there sorts short =
      let k = length (sig.sorts_of r) in (
        wider r known,
        (
          there,
          short,
          subst (λ ks. FitsTerms more (reverse ks) (parameters k) (more.sorts_of n)) (sym (g.sorts_of r known))
              (subst (λ ks. FitsTerms more (reverse (sig.sorts_of r)) (parameters k) ks) (sym sorts)
              (parameters-fit more (sig.sorts_of r) [] (sig.sorts_of r) refl)),
        ),
      )

  variable-fits : (v : ℕ) → FitsPrimitive sig (havoc v) → FitsPrimitive more (havoc v)
  variable-fits v h = (
    wider-function v h.0,
    g.from_of v h.0 ∙ h.1,
    subst (λ n. more.into_of v < n) (sym g.sorts) (subst (λ k. k < sig.sorts) (sym (g.into_of v h.0)) h.2),
  )

  module _ (t : Tables) (f : FitsStructure more t) where
    abbrev small : Tables
    small = reduct sig t

    reads : ReadsItsOwn sig (reading t) (reading small)
    reads = laws.reads sig (reading t) (reading small) (laws.reduces sig more t g f).alike

    stays : CommutesWithUpdates sig t
    stays = laws.stays sig t

    lawful : satisfies small axioms ≡ satisfies t axioms
    lawful = sym (reads.formulas (all_of axioms) [] [] (all-fit sig axioms fit))

    sorts-there : (r : ℕ) → r < sig.relations → (relation_at t r).sorts ≡ (relation_at small r).sorts
    sorts-there r lt = ap (λ (u : RelationTable). u.sorts) (sym (stays.relation_table r lt))

    cut-relation : (r : ℕ) (by : FormTree) → FitsPrimitive sig (set_rel r by)
        → reduct sig (set_relation t r by) ≡ set_relation small r by
    cut-relation r by h =
        let old : List ℕ → Bool = (λ tuple. truth (reading t) by tuple) in
        let new : List ℕ → Bool = (λ tuple. truth (reading small) by tuple) in
        let e : old ≡ new = fun_ext (λ tuple. reads.formulas by (reverse (sig.sorts_of r)) tuple h.1) in
        stays.relation r (cells_from t.sizes old (relation_at t r).sorts []) h.0
        ∙ ap (λ ks. with_relation_cells small r (cells_from t.sizes old ks [])) (sorts-there r h.0)
        ∙ ap (λ (d : List ℕ → Bool). with_relation_cells small r
        (cells_from t.sizes d (relation_at small r).sorts [])) e

    cut-function : (k : ℕ) (by : TermTree) → FitsPrimitive sig (set_fun k by)
        → reduct sig (set_function t k by) ≡ set_function small k by
    cut-function k by h =
        let old : List ℕ → ℕ = (λ tuple. value (reading t) by tuple) in
        let new : List ℕ → ℕ = (λ tuple. value (reading small) by tuple) in
        let e : old ≡ new =
        fun_ext (λ tuple. reads.terms by (reverse (sig.from_of k)) tuple (sig.into_of k) h.1) in
        stays.function k (cells_from t.sizes old (function_at t k).sorts []) h.0
        ∙ ap (λ (u : FunctionTable). with_function_cells small k (cells_from t.sizes old u.sorts []))
        (sym (stays.function_table k h.0))
        ∙ ap (λ (d : List ℕ → ℕ). with_function_cells small k (cells_from t.sizes d (function_at small k).sorts [])) e

    cut-variable : (v x : ℕ) → FitsPrimitive sig (havoc v) → reduct sig (set_variable t v x) ≡ set_variable small v x
    cut-variable v x h =
        let all : List ℕ → ℕ = (λ tuple. x) in
        stays.function v (cells_from t.sizes all (function_at t v).sorts []) h.0
        ∙ ap (λ (u : FunctionTable). with_function_cells small v (cells_from t.sizes all u.sorts []))
        (sym (stays.function_table v h.0))

    range-there : (v : ℕ) → v < sig.functions → range_of small v ≡ range_of t v
    range-there v lt = ap (λ (u : FunctionTable). size_at t u.into) (stays.function_table v lt)

    module _ (r n : ℕ) (known : r < sig.relations) (there : n < more.relations)
        (sorts : more.sorts_of n ≡ sig.sorts_of r) where
      own-sorts : sig.sorts_of r ≡ (relation_at small r).sorts
      own-sorts = sym (g.sorts_of r known) ∙ f.sorts_of r (wider r known) ∙ sorts-there r known

      same-sorts : (relation_at t n).sorts ≡ (relation_at small r).sorts
      same-sorts = sym (f.sorts_of n there) ∙ sorts ∙ own-sorts

      the-tuples : tuples_of t n ≡ tuples_where small r (rel_at t n)
      the-tuples = ap (λ ks. filter (rel_at t n) (tuples t.sizes ks)) same-sorts

      table : IsItsTuples small r (rel_at t n)
      table = laws.tuples small r (rel_at t n)

      tuples-there : are_tuples_of small r (tuples_of t n) ≡ true
      tuples-there = ap (are_tuples_of small r) the-tuples ∙ table.in_range

      cut-table : reduct sig (set_relation t r (at_parameters n (length (sig.sorts_of r))))
          ≡ with_tuples small r (tuples_of t n)
      cut-table =
          let k = length (sig.sorts_of r) in
          let old : List ℕ → Bool = (λ tuple. truth (reading t) (at_parameters n k) tuple) in
          let long : (xs : List ℕ) → InRange t.sizes (relation_at small r).sorts xs → length xs ≡ k =
          (λ xs h. sym ((laws.along t.sizes (relation_at small r).sorts xs h).long) ∙ ap length (sym own-sorts)) in
          stays.relation r (cells_from t.sizes old (relation_at t r).sorts []) known
          ∙ ap (λ ks. with_relation_cells small r (cells_from t.sizes old ks [])) (sorts-there r known)
          ∙ laws.same small r old (λ tuple. rel_at t n (reverse tuple))
          (λ xs h. ap (rel_at t n) (parameter-values (reading t) k xs (long xs h) ∙ sym (reverse-reverse xs)))
          ∙ sym table.same
          ∙ ap (with_tuples small r) (sym the-tuples)

  -- the tables of the fresh relations are as they were
  record AsIn (t0 t : Tables) : Type 0 where
    sizes : t.sizes ≡ t0.sizes
    fresh : (q : ℕ) → sig.relations ≤ q → relation_at t q ≡ relation_at t0 q

  still-listed : (t0 t : Tables) (q : ℕ) → AsIn t0 t → sig.relations ≤ q → tuples_of t q ≡ tuples_of t0 q
  still-listed t0 t q h le =
      ap (λ sizes. listed sizes (relation_at t q)) h.sizes ∙ ap (listed t0.sizes) (h.fresh q le)

  as-in-relation : (t0 t : Tables) (r : ℕ) (cells : List Bool) → r < sig.relations → AsIn t0 t
      → AsIn t0 (with_relation_cells t r cells)
  as-in-relation t0 t r cells lt h = record {
    sizes = h.sizes;
    fresh = λ q le. get_or-set_other t.relations r q _ no_table (λ e. omega (arith, lt, le, e)) ∙ h.fresh q le;
  }

  as-in-function : (t0 t : Tables) (k : ℕ) (cells : List ℕ) → AsIn t0 t → AsIn t0 (with_function_cells t k cells)
  as-in-function t0 t k cells h = record { sizes = h.sizes; fresh = h.fresh }

  -- a step to a new structure
  step : (qs ps : List PrimitiveTree) (hs es : List Havoc) (new cut : Tables) → FitsStructure more new
      → reduct sig new ≡ cut
      → follow_path axioms qs hs (reduct sig new) ≡ cut_outcome sig (follow_path axioms ps es new)
      → cond (satisfies cut axioms) (follow_path axioms qs hs cut) None
      ≡ cut_outcome sig (cond (satisfies new axioms) (follow_path axioms ps es new) None)
  step qs ps hs es new cut f e rest =
      ap (λ (s : Tables). cond (satisfies s axioms) (follow_path axioms qs hs s) None) (sym e)
      ∙ ap (λ b. cond b (follow_path axioms qs hs (reduct sig new)) None) (lawful new f)
      ∙ ap (λ x. cond (satisfies new axioms) x None) rest
      ∙ sym (cut-cond sig (satisfies new axioms) (follow_path axioms ps es new))

  next-fresh : (n r : ℕ) (qs : List PrimitiveTree) → AreFresh sig more n (havoc_rel r ∷ qs)
      → AreFresh sig more (suc n) qs
  next-fresh n r qs h = record {
    behind = omega (arith, h.behind);
    room = omega (arith, h.room);
    sorts = λ i lt.
        let e : suc n + i ≡ n + suc i = omega arith in
        ap more.sorts_of e ∙ h.sorts (suc i) (omega (arith, lt));
  }

  -- a step to another element of a variable
  in-sort : (v x : ℕ) (qs ps : List PrimitiveTree) (hs es : List Havoc) (t : Tables) (f : FitsStructure more t)
      → FitsPrimitive sig (havoc v)
      → (x < range_of t v → follow_path axioms qs hs (reduct sig (set_variable t v x))
      ≡ cut_outcome sig (follow_path axioms ps es (set_variable t v x)))
      → (b : Bool) → nat_lt x (range_of t v) ≡ b
      → follow_path axioms (havoc v ∷ qs) (Element x ∷ hs) (reduct sig t)
      ≡ cut_outcome sig (follow_path axioms (havoc v ∷ ps) (Element x ∷ es) t)
  in-sort v x qs ps hs es t f fits rest true is =
      let new = set_variable t v x in
      let small = reduct sig t in
      let lt = ltb-true x (range_of t v) is in
      let after = cond (satisfies (set_variable small v x) axioms) (follow_path axioms qs hs (set_variable small v x))
      None
      in
      ap (λ m. cond (nat_lt x m) after None) (range-there t f v fits.0)
      ∙ ap (λ b. cond b after None) is
      ∙ step qs ps hs es new (set_variable small v x) (laws.keep.variable more t v x (variable-fits v fits) lt f)
      (cut-variable t f v x fits) (rest lt)
      ∙ sym (ap (λ b. cut_outcome sig (cond b (cond (satisfies new axioms) (follow_path axioms ps es new) None) None))
      is)
  in-sort v x qs ps hs es t f fits rest false is =
      let new = set_variable t v x in
      let small = reduct sig t in
      let after = cond (satisfies (set_variable small v x) axioms) (follow_path axioms qs hs (set_variable small v x))
      None
      in
      ap (λ m. cond (nat_lt x m) after None) (range-there t f v fits.0)
      ∙ ap (λ b. cond b after None) is
      ∙ sym (ap (λ b. cut_outcome sig (cond b (cond (satisfies new axioms) (follow_path axioms ps es new) None) None))
      is)

  same-fresh : (n : ℕ) (p : List PrimitiveTree) → sig.relations ≤ n → n + length (havocked sig p) ≤ more.relations
      → ((i : ℕ) → i < length (havocked sig p) → more.sorts_of (n + i) ≡ get_or (havocked sig p) i [])
      → AreFresh sig more n p
  same-fresh n p behind room sorts = record { behind = behind; room = room; sorts = sorts }

  follows : (p : List PrimitiveTree) (n : ℕ) (xs : List ℕ) (t0 t : Tables) → FitsPath sig p → FitsStructure more t
      → AsIn t0 t → AreFresh sig more n p
      → follow_path axioms p (havocs_under t0 n p xs) (reduct sig t)
      ≡ cut_outcome sig (follow_path axioms (written sig n p) (map Element xs) t)
  follows [] n xs t0 t fits f old fresh = refl
  follows (assume p ∷ qs) n xs t0 t fits f old fresh =
      ap (λ b. cond b (follow_path axioms qs (havocs_under t0 n qs xs) (reduct sig t)) None)
      (sym ((reads t f).formulas p [] [] fits.0))
      ∙ ap (λ x. cond (is_true t p) x None)
      (follows qs n xs t0 t fits.1 f old (same-fresh n qs fresh.behind fresh.room fresh.sorts))
      ∙ sym (cut-cond sig (is_true t p) (follow_path axioms (written sig n qs) (map Element xs) t))
  follows (set_rel r by ∷ qs) n xs t0 t fits f old fresh =
      let new = set_relation t r by in
      let f' = laws.keep.relation more t r by (relation-fits r by fits.0) f in
      step qs (written sig n qs) (havocs_under t0 n qs xs) (map Element xs) new _ f' (cut-relation t f r by fits.0)
      (follows qs n xs t0 new fits.1 f' (as-in-relation t0 t r _ fits.0.0 old)
      (same-fresh n qs fresh.behind fresh.room fresh.sorts))
  follows (set_fun k by ∷ qs) n xs t0 t fits f old fresh =
      let new = set_function t k by in
      let f' = laws.keep.function more t k by (function-fits k by fits.0) f in
      step qs (written sig n qs) (havocs_under t0 n qs xs) (map Element xs) new _ f' (cut-function t f k by fits.0)
      (follows qs n xs t0 new fits.1 f' (as-in-function t0 t k _ old)
      (same-fresh n qs fresh.behind fresh.room fresh.sorts))
  follows (havoc v ∷ qs) n [] t0 t fits f old fresh = refl
  follows (havoc v ∷ qs) n (x ∷ xs) t0 t fits f old fresh =
      in-sort v x qs (written sig n qs) (havocs_under t0 n qs xs) (map Element xs) t f fits.0
      (λ lt. follows qs n xs t0 (set_variable t v x) fits.1
      (laws.keep.variable more t v x (variable-fits v fits.0) lt f) (as-in-function t0 t v _ old)
      (same-fresh n qs fresh.behind fresh.room fresh.sorts)) (nat_lt x (range_of t v)) refl
  follows (havoc_rel r ∷ qs) n xs t0 t fits f old fresh =
      let k = length (sig.sorts_of r) in
      let new = set_relation t r (at_parameters n k) in
      let here : n + 0 ≡ n = omega arith in
      let sorts : more.sorts_of n ≡ sig.sorts_of r =
      ap more.sorts_of (sym here) ∙ fresh.sorts 0 (omega arith) in
      let there : n < more.relations = omega (arith, fresh.room) in
      let short = g.new_short n fresh.behind there in
      let f' = laws.keep.relation more t r (at_parameters n k) (fresh-fits r n fits.0 there sorts short) f in
      let small = reduct sig t in
      let hs = havocs_under t0 (suc n) qs xs in
      ap (λ (xss : List (List ℕ)). cond (are_tuples_of small r xss)
      (cond (satisfies (with_tuples small r xss) axioms) (follow_path axioms qs hs (with_tuples small r xss)) None)
      None) (sym (still-listed t0 t n old fresh.behind))
      ∙ ap (λ b. cond b (cond (satisfies (with_tuples small r (tuples_of t n)) axioms)
      (follow_path axioms qs hs (with_tuples small r (tuples_of t n))) None) None)
      (tuples-there t f r n fits.0 there sorts)
      ∙ step qs (written sig (suc n) qs) hs (map Element xs) new (with_tuples small r (tuples_of t n)) f'
      (cut-table t f r n fits.0 there sorts)
      (follows qs (suc n) xs t0 new fits.1 f' (as-in-relation t0 t r _ fits.0 old) (next-fresh n r qs fresh))
  follows (abort ∷ qs) n xs t0 t fits f old fresh = refl

  -- the written path fits the grown signature
  written-fits : (p : List PrimitiveTree) (n : ℕ) → FitsPath sig p → AreFresh sig more n p
      → FitsPath more (written sig n p)
  written-fits [] n f h = tt
  written-fits (assume p ∷ qs) n f h =
      ((laws.fitting sig more g).formulas [] p f.0, written-fits qs n f.1 (same-fresh n qs h.behind h.room h.sorts))
  written-fits (set_rel r by ∷ qs) n f h =
      (relation-fits r by f.0, written-fits qs n f.1 (same-fresh n qs h.behind h.room h.sorts))
  written-fits (set_fun k by ∷ qs) n f h =
      (function-fits k by f.0, written-fits qs n f.1 (same-fresh n qs h.behind h.room h.sorts))
  written-fits (havoc v ∷ qs) n f h =
      (variable-fits v f.0, written-fits qs n f.1 (same-fresh n qs h.behind h.room h.sorts))
  written-fits (havoc_rel r ∷ qs) n f h =
      let here : n + 0 ≡ n = omega arith in
      let sorts : more.sorts_of n ≡ sig.sorts_of r = ap more.sorts_of (sym here) ∙ h.sorts 0 (omega arith) in
      let there : n < more.relations = omega (arith, h.room) in
      (fresh-fits r n f.0 there sorts (g.new_short n h.behind there), written-fits qs (suc n) f.1 (next-fresh n r qs h))
  written-fits (abort ∷ qs) n f h = (tt, written-fits qs n f.1 (same-fresh n qs h.behind h.room h.sorts))

written-stays : (sig : Symbols) (p : List PrimitiveTree) (n : ℕ) → AllByRecursion IsInFragment p
    → AllByRecursion IsInFragment (written sig n p)
written-stays sig [] n h = tt
written-stays sig (assume p ∷ qs) n h = (h.0, written-stays sig qs n h.1)
written-stays sig (set_rel r by ∷ qs) n h = (h.0, written-stays sig qs n h.1)
written-stays sig (set_fun k by ∷ qs) n h = (h.0, written-stays sig qs n h.1)
written-stays sig (havoc v ∷ qs) n h = (tt, written-stays sig qs n h.1)
written-stays sig (havoc_rel r ∷ qs) n h =
    (parameters-free (length (sig.sorts_of r)), written-stays sig qs (suc n) h.1)
written-stays sig (abort ∷ qs) n h = (tt, written-stays sig qs n h.1)

fresh-there : (sig more : Symbols) (p : List PrimitiveTree) → GrowsByRelations sig (havocked sig p) more
    → AreFresh sig more sig.relations p
fresh-there sig more p by = record {
  behind = omega arith;
  room = omega (arith, by.count);
  sorts = by.sorts;
}

pub fresh_tables_are_followed : Knows → FreshTablesAreFollowed
fresh_tables_are_followed laws sig more axioms p t xs by fit fits f =
    follows laws sig more by.grows axioms fit p sig.relations xs t t fits f
    (record { sizes = refl; fresh = λ q le. refl }) (fresh-there sig more p by)

pub written_paths_fit : Knows → WrittenPathsFit
written_paths_fit laws sig more p by fits = record {
  fits = written-fits laws sig more by.grows [] tt p sig.relations fits (fresh-there sig more p by);
  fragment = written-stays sig p sig.relations;
}

-- the sorts of the fresh relations are those of relations of the signature
module _ (sig : Declared) (P : List ℕ → Type 0) (each : All P sig.relations) where
  all-havocked : (p : List PrimitiveTree) → FitsPath (symbols sig) p → All P (havocked (symbols sig) p)
  all-havocked [] f = All-nil P
  all-havocked (assume p ∷ qs) f = all-havocked qs f.1
  all-havocked (set_rel r by ∷ qs) f = all-havocked qs f.1
  all-havocked (set_fun k by ∷ qs) f = all-havocked qs f.1
  all-havocked (havoc v ∷ qs) f = all-havocked qs f.1
  all-havocked (havoc_rel r ∷ qs) f =
      All-cons P ((symbols sig).sorts_of r) (havocked (symbols sig) qs)
      (All-get_or P sig.relations r [] f.0 each) (all-havocked qs f.1)
  all-havocked (abort ∷ qs) f = all-havocked qs f.1

pub fresh_signatures_grow : SignaturesGrowByRelations → FreshSignaturesGrow
fresh_signatures_grow law sig p ok fits =
    law sig (havocked (symbols sig) p) (all-havocked sig (AreSorts sig.sorts) ok.relations_sorted p fits)
    (all-havocked sig (λ (ks : List ℕ). length ks ≤ 8) ok.relations_short p fits)

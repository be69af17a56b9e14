-- A text is as long as any of its parts, and a report's text names each true tuple of the structures that it shows.
use Rattle.std.proofs.Common.{◌≡◌, ℕ, zero, suc, ◌+◌, ◌<◌, ◌≤◌, Bool, true, false, cond, List, [], ◌∷◌, ◌++◌, length}
use Rattle.std.proofs.Common.{map}
use Rattle.std.proofs.Common.{refl, sym, ap, ◌∙◌, subst, ⊎_elim, arith, append_assoc, append-nil, length-append}
use Rattle.std.proofs.Common.{flat_map, count_by, le_trans, codes}
use Rattle.std.specs.Prelude.{slice_index}
use Rattle.std.specs.List.{AllByRecursion}
use Rattle.std.proofs.lemmas.Bool.{cases_lt}
use Rattle.std.proofs.lemmas.List.Sums.{sum_by-cons, sum_by-append}
use Rattle.fol_sig.specs.Tables.{Tables, relation_at, rel_at}
use Rattle.fol_sig.specs.Tuples.{join_below, tuples}
use Rattle.rml_command.specs.Models.{ModelTree}
use Rattle.rml_command.specs.Goals.{goal_path}
use Rattle.rml_command.specs.declared.names.Names.{Names}
use Rattle.rml_command.specs.declared.goal.About.{About}
use Rattle.rml_exec.specs.declared.trace.Counterexample.{Counterexample}
use Rattle.rml_report.specs.HavocText.{havoc_line}
use Rattle.rml_report.specs.TableText.{each_tuple, listed_text, tuple_text, cell_text, value_text, values_text}
use Rattle.rml_report.specs.TableText.{symbol_label, symbol_line, relation_line, function_line, tables_text, sorts_text}
use Rattle.fol_sig.specs.SymbolTables.{arguments_of}
use Rattle.fol_sig.specs.declared.symbol.Symbol.{Symbol}
use Rattle.fol_sig.specs.declared.symbol.Symbol.TheVariants as symbol
use Rattle.rml_report.specs.ReportText.{head_text, path_line, least_line, outcome_text, execution_text, block_text}
use Rattle.rml_report.specs.ReportText.{answer_text, group_text, axioms_text, verdict_text, report_text}
use Rattle.rml_report.specs.declared.least.Least.{Least}
use Rattle.rml_report.specs.declared.report.Group.{Group}
use Rattle.rml_report.specs.declared.report.Report.{Report}
use Rattle.cti_minimise.specs.Extents.{true_tuples}

front : (xs ys : List ℕ) → length xs ≤ length (xs ++ ys)
front xs ys = omega (arith, length-append xs ys)

back : (xs ys : List ℕ) → length ys ≤ length (xs ++ ys)
back xs ys = omega (arith, length-append xs ys)

-- behind one part, and in front of others
inside : (xs ys zs : List ℕ) → length ys ≤ length (xs ++ ys ++ zs)
inside xs ys zs = le_trans (back xs ys) (front (xs ++ ys) zs)

joined : (n : ℕ) (f : ℕ → List ℕ) (r : ℕ) → r < n → length (f r) ≤ length (join_below n f)
joined zero f r lt = absurd (omega (arith, lt))
joined (suc n) f r lt =
    ⊎_elim
    (λ less. le_trans (joined n f r less) (front (join_below n f) (f n)))
    (λ ge.
    let same : n ≡ r = omega (arith, ge, lt) in
    subst (λ (i : ℕ). length (f i) ≤ length (join_below n f ++ f n)) same (back (join_below n f) (f n)))
    (cases_lt r n)

each_part : {A : Type 0} (f : A → List ℕ) (n : ℕ) (xs : List A) → length (flat_map f xs) ≤ n
    → AllByRecursion (λ x. length (f x) ≤ n) xs
each_part f n [] le = tt
each_part f n (x ∷ xs) le = (
  le_trans (front (f x) (flat_map f xs)) le,
  each_part f n xs (le_trans (back (f x) (flat_map f xs)) le),
)

-- each tuple that passes a test has a text
module _ (test : List ℕ → Bool) (text : List ℕ → List ℕ) (long : (xs : List ℕ) → cond (test xs) 1 0 ≤ length (text xs))
    (sizes : List ℕ) where
  abbrev passing : List ℕ → List (List ℕ) → ℕ
  passing before ts = count_by (λ xs. test (before ++ xs)) ts

  below : (p : List ℕ → Bool) (A : ℕ → List ℕ) (B : ℕ → List (List ℕ))
      → ((x : ℕ) → count_by p (B x) ≤ length (A x))
      → (n : ℕ) → count_by p (join_below n B) ≤ length (join_below n A)
  below p A B each zero = omega arith
  below p A B each (suc n) =
      let rest = below p A B each n in
      let here = each n in
      let texts = length-append (join_below n A) (A n) in
      let counts = sum_by-append (λ xs. cond (p xs) 1 0) (join_below n B) (B n) in
      omega (arith, rest, here, texts, counts)

  shifted : (before : List ℕ) (x : ℕ) (ts : List (List ℕ))
      → passing before (map (λ xs. x ∷ xs) ts) ≡ passing (before ++ x ∷ []) ts
  shifted before x [] = refl
  shifted before x (t ∷ ts) =
      sum_by-cons (λ xs. cond (test (before ++ xs)) 1 0) (x ∷ t) (map (λ xs. x ∷ xs) ts)
      ∙ ap (λ n. cond (test (before ++ x ∷ t)) 1 0 + n) (shifted before x ts)
      ∙ ap (λ (l : List ℕ). cond (test l) 1 0 + passing (before ++ x ∷ []) ts) (sym (append_assoc before (x ∷ []) t))
      ∙ sym (sum_by-cons (λ xs. cond (test ((before ++ x ∷ []) ++ xs)) 1 0) t ts)

  each_long : (ks before : List ℕ) → passing before (tuples sizes ks) ≤ length (each_tuple sizes text ks before)
  each_long [] before =
      let one : passing before ([] ∷ []) ≡ cond (test before) 1 0 =
      sum_by-cons (λ xs. cond (test (before ++ xs)) 1 0) [] []
      ∙ ap (λ (l : List ℕ). cond (test l) 1 0 + 0) (append-nil before) ∙ omega arith in
      let here = long before in
      omega (arith, one, here)
  each_long (k ∷ ks) before =
      below (λ xs. test (before ++ xs)) (λ x. each_tuple sizes text ks (before ++ x ∷ []))
      (λ x. map (λ xs. x ∷ xs) (tuples sizes ks))
      (λ x. let same = shifted before x (tuples sizes ks) in let there = each_long ks (before ++ x ∷ []) in
      omega (arith, same, there))
      (slice_index sizes k)

module _ (names : Names) (s : Tables) where
  tuple_long : (xs : List ℕ) → 1 ≤ length (tuple_text xs)
  unfolding tuple_text
  tuple_long xs = omega (arith, length-append (codes " (" ++ listed_text xs) (codes ")"))

  cell_long : (r : ℕ) (xs : List ℕ)
      → cond (rel_at s r xs) 1 0 ≤ length (cell_text s (symbol.Relation (record { 0 = r })) xs)
  cell_long r xs = by (rel_at s r xs)
    where
      by : (b : Bool) → cond b 1 0 ≤ length (cond b (tuple_text xs) [])
      by true = tuple_long xs
      by false = omega arith

  values_long : (r : ℕ) (ks : List ℕ)
      → count_by (rel_at s r) (tuples s.sizes ks)
      ≤ length (values_text s (symbol.Relation (record { 0 = r })) ks)
  values_long r [] = by (rel_at s r [])
    where
      by : (b : Bool) → 0 + cond b 1 0 ≤ length (codes " " ++ value_text s (symbol.Relation (record { 0 = r })))
      by true = omega (arith, length-append (codes " ") (value_text s (symbol.Relation (record { 0 = r }))))
      by false = omega arith
  values_long r (k ∷ ks) =
      each_long (rel_at s r) (cell_text s (symbol.Relation (record { 0 = r }))) (cell_long r) s.sizes (k ∷ ks) []

  line_long : (r : ℕ) → true_tuples s.sizes (relation_at s r) ≤ length (relation_line names s r)
  unfolding symbol_line
  line_long r =
      let q : Symbol = symbol.Relation (record { 0 = r }) in
      le_trans (values_long r (relation_at s r).sorts)
      (inside (symbol_label names q (arguments_of s q)) (values_text s q (arguments_of s q)) (codes "\n"))

  tables_long : (r : ℕ) → r < length s.relations
      → true_tuples s.sizes (relation_at s r) ≤ length (tables_text names s)
  unfolding tables_text
  tables_long r lt =
      le_trans (line_long r)
      (le_trans (joined (length s.relations) (relation_line names s) r lt)
      (front (join_below (length s.relations) (relation_line names s))
      (join_below (length s.functions) (function_line names s))))

module _ (m : ModelTree) where
  execution_long : (a : About) (shown : Counterexample)
      → length (tables_text m.names shown.structure) ≤ length (execution_text m a shown)
  unfolding execution_text
  execution_long a shown =
      let s = shown.structure in
      let before = codes "  before\n" ++ sorts_text m.names s in
      let havoc = havoc_line s (goal_path m shown.goal) shown.trace.havoc in
      le_trans (inside before (tables_text m.names s) havoc)
      (front (before ++ tables_text m.names s ++ havoc) (outcome_text m a shown))

  block_long : (a : About) (paths : ℕ) (l : Least) (shown : Counterexample)
      → length (tables_text m.names shown.structure) ≤ length (block_text m a paths l shown)
  unfolding block_text
  block_long a paths l shown =
      le_trans (execution_long a shown)
      (back (codes ": fails\n" ++ path_line shown.trace.path paths ++ least_line m.names l) (execution_text m a shown))

  -- no relation of a structure that is shown is true of more tuples than the text is long
  pub tuples_shown : (a : About) (paths : ℕ) (l : Least) (shown : Counterexample) (r : ℕ)
      → r < length shown.structure.relations
      → true_tuples shown.structure.sizes (relation_at shown.structure r) ≤ length (block_text m a paths l shown)
  tuples_shown a paths l shown r lt = le_trans (tables_long m.names shown.structure r lt) (block_long a paths l shown)

  group_long : (g : Group) → length (answer_text m g.about g.answer) ≤ length (group_text m g)
  unfolding group_text
  group_long g = back (head_text m.names g.stage g.about) (answer_text m g.about g.answer)

  groups_long : (r : Report) → length (flat_map (group_text m) r.groups) ≤ length (report_text m r)
  unfolding report_text
  groups_long r = inside (axioms_text r.axioms) (flat_map (group_text m) r.groups) (verdict_text r.verdict)

  pub answers_long : (r : Report) (n : ℕ) → length (report_text m r) ≤ n
      → AllByRecursion (λ (g : Group). length (answer_text m g.about g.answer) ≤ n) r.groups
  answers_long r n le = behind r.groups (each_part (group_text m) n r.groups (le_trans (groups_long r) le))
    where
      behind : (gs : List Group) → AllByRecursion (λ (g : Group). length (group_text m g) ≤ n) gs
          → AllByRecursion (λ (g : Group). length (answer_text m g.about g.answer) ≤ n) gs
      behind [] h = tt
      behind (g ∷ gs) h = (le_trans (group_long g) h.0, behind gs h.1)

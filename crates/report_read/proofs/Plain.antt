-- Lines without a line feed but at their end.
use Rattle.std.proofs.Common.{◌≡◌, ℕ, zero, suc, ◌+◌, ◌<◌, ◌≤◌, ◌^◌, ◌%◌, Bool, true, false, List, [], ◌∷◌}
use Rattle.std.proofs.Common.{◌++◌, length, Option, Some, None}
use Rattle.std.proofs.Common.{refl, ap, cond, arith}
use Rattle.std.specs.Prelude.{codes, decimal, slice_index, ◌==◌}
use Rattle.std.specs.List.{AllByRecursion}
use Rattle.std.proofs.lemmas.Bool.{ne_eqb}
use Rattle.std.proofs.lemmas.Fmt.{decimal_by_steps}
use Rattle.std.proofs.lemmas.List.Elements.{All-get_or, recursion_from_All}
use Rattle.base.proofs.Lists.{all_push, all_more}
use Rattle.fol_sig.specs.Tables.{Tables, IsStructure, IsFullFunction, relation_at, function_at, rel_at, fun_at, size_at}
use Rattle.fol_sig.specs.Tables.{place_of}
use Rattle.fol_sig.specs.Tuples.{join_below}
use Rattle.fol_sig.specs.TupleSets.{has_tuple}
use Rattle.rml_command.specs.Trees.{PrimitiveTree, assume, set_rel, set_fun, havoc, havoc_rel, abort}
use Rattle.rml_command.specs.declared.havoc.Havoc.{Havoc}
use Rattle.rml_command.specs.declared.havoc.Havoc.TheVariants.{Element, Tuples}
use Rattle.rml_command.specs.declared.names.Names.{Names}
use Rattle.rml_command.specs.declared.goal.Stage.{Stage}
use Rattle.rml_command.specs.declared.goal.Stage.TheVariants as stage
use Rattle.rml_command.specs.declared.goal.About.{About}
use Rattle.rml_command.specs.declared.goal.About.TheVariants as about
use Rattle.rml_report.specs.Words.{name_at, labelled, truth_text, cause_text, numbers_text, numbers_line}
use Rattle.rml_report.specs.TableText.{each_tuple, more_text, listed_text, tuple_text, cell_text}
use Rattle.rml_report.specs.TableText.{values_text, bare_text, member_text, set_text}
use Rattle.rml_report.specs.HavocText.{element_text, relation_text, havocs_text, havoc_line}
use Rattle.rml_report.specs.TableText.{symbol_label, symbol_line, sort_line, relation_line, function_line}
use Rattle.rml_report.specs.ReportText.{stage_text, about_text, head_text, path_line, bound_text, stopped_text}
use Rattle.rml_report.specs.ReportText.{least_text}
use Rattle.rml_report.specs.ReportText.{least_line, undecided_text, open_text, axioms_text, verdict_text}
use Rattle.fol_sig.specs.declared.symbol.Symbol.TheVariants as symbol
use Rattle.rml_report.specs.declared.least.Bound.{Bound}
use Rattle.rml_report.specs.declared.least.Bound.TheVariants as at
use Rattle.limits.specs.declared.cause.Cause.{Cause}
use Rattle.limits.specs.declared.cause.Cause.TheVariants as cause
use Rattle.rml_report.specs.declared.least.Least.{Least}
use Rattle.rml_report.specs.declared.report.Axioms.{Axioms}
use Rattle.rml_report.specs.declared.report.Axioms.TheVariants as axioms
use Rattle.rml_report.specs.declared.report.Verdict.{Verdict}
use Rattle.rml_report.specs.declared.report.Verdict.TheVariants as verdict
use Rattle.line_scan.specs.Scanning.{most}
use Rattle.line_scan.specs.Laws.{is_whole, is_none}
use Rattle.printed_report.specs.Executions.{AreAsked, AreAskedAlong}
use Rattle.printed_report.specs.Lines.{IsCause, IsCounted, IsAxioms}
use Rattle.report_read.specs.Printing.{is_plain, ArePlain, HasPlainNames}
use Rattle.report_read.proofs.Fitting.{no_function_table}

abbrev pub Plain : List ℕ → Type 0
Plain bs = is_plain bs ≡ true

abbrev pub Whole : List ℕ → Type 0
Whole bs = is_whole bs ≡ true

abbrev pub AreSmall : List ℕ → Type 0
AreSmall ns = AllByRecursion (λ n. n ≤ most) ns

pub plain_append : (xs ys : List ℕ) → Plain xs → Plain ys → Plain (xs ++ ys)
plain_append [] ys h k = k
plain_append (x ∷ xs) ys h k = by (x == 10) h (λ f. plain_append xs ys f k)
  where
    by : (t : Bool) → cond t false (is_plain xs) ≡ true → (Plain xs → Plain (xs ++ ys))
        → cond t false (is_plain (xs ++ ys)) ≡ true
    by true f more = absurd (cc f)
    by false f more = more f

pub whole_behind : (xs ys : List ℕ) → Plain xs → Whole ys → Whole (xs ++ ys)
whole_behind [] ys h k = k
whole_behind (x ∷ xs) ys h k = by (x == 10) h (λ f. whole_behind xs ys f k)
  where
    by : (t : Bool) → cond t false (is_plain xs) ≡ true → (Plain xs → Whole (xs ++ ys))
        → cond t (is_none (xs ++ ys)) (is_whole (xs ++ ys)) ≡ true
    by true f more = absurd (cc f)
    by false f more = more f

pub whole_line : (xs : List ℕ) → Plain xs → Whole (xs ++ codes "\n")
whole_line xs h = whole_behind xs (codes "\n") h refl

a_digit : (d : ℕ) → Plain ((48 + d) ∷ [])
a_digit d = ap (λ t. cond t false true) (ne_eqb (48 + d) 10 (λ h. absurd (omega (arith, h))))

digits_plain : (n : ℕ) → n < 2 ^ 64 → Plain (decimal n)
digits_plain = decimal_by_steps (λ _ ds. Plain ds) (λ n lt. a_digit n)
    (λ n ds ten front. plain_append ds ((48 + n % 10) ∷ []) front (a_digit (n % 10)))

pub plain_decimal : (n : ℕ) → n ≤ most → Plain (decimal n)
plain_decimal n le = digits_plain n (omega arith)

plain_name : (names : List (List ℕ)) (k : ℕ) → ArePlain names → Plain (name_at names k)
plain_name [] k all = refl
plain_name (n ∷ ns) zero all = all.0
plain_name (n ∷ ns) (suc k) all = plain_name ns k all.1

plain_labelled : (before name behind : List ℕ) → Plain before → Plain name → Plain behind
    → Plain (labelled before name behind)
unfolding labelled
plain_labelled before name behind a b c = plain_append (before ++ name) behind (plain_append before name a b) c

plain_below : (n : ℕ) (f : ℕ → List ℕ) → ((x : ℕ) → x < n → Plain (f x)) → Plain (join_below n f)
plain_below zero f h = refl
plain_below (suc n) f h =
    plain_append (join_below n f) (f n) (plain_below n f (λ x lt. h x (omega (arith, lt)))) (h n (omega arith))

plain_more : (xs : List ℕ) → AreSmall xs → Plain (more_text xs)
unfolding more_text
plain_more [] all = refl
plain_more (x ∷ xs) all =
    plain_append (codes "," ++ decimal x) (more_text xs)
    (plain_append (codes ",") (decimal x) refl (plain_decimal x all.0)) (plain_more xs all.1)

plain_listed : (xs : List ℕ) → AreSmall xs → Plain (listed_text xs)
plain_listed [] all = refl
plain_listed (x ∷ xs) all = plain_append (decimal x) (more_text xs) (plain_decimal x all.0) (plain_more xs all.1)

plain_tuple : (xs : List ℕ) → AreSmall xs → Plain (tuple_text xs)
unfolding tuple_text
plain_tuple xs all =
    plain_append (codes " (" ++ listed_text xs) (codes ")")
    (plain_append (codes " (") (listed_text xs) refl (plain_listed xs all)) refl

plain_numbers : (xs : List ℕ) → AreSmall xs → Plain (numbers_text xs)
unfolding numbers_text
plain_numbers [] all = refl
plain_numbers (x ∷ xs) all =
    plain_append (codes " " ++ decimal x) (numbers_text xs)
    (plain_append (codes " ") (decimal x) refl (plain_decimal x all.0)) (plain_numbers xs all.1)

pub whole_numbers : (word xs : List ℕ) → Plain word → AreSmall xs → Whole (numbers_line word xs)
unfolding numbers_line
whole_numbers word xs h all =
    whole_line (word ++ numbers_text xs) (plain_append word (numbers_text xs) h (plain_numbers xs all))

plain_each : (sizes : List ℕ) → ((k : ℕ) → slice_index sizes k ≤ most) → (f : List ℕ → List ℕ)
    → ((xs : List ℕ) → AreSmall xs → Plain (f xs)) → (ks before : List ℕ) → AreSmall before
    → Plain (each_tuple sizes f ks before)
plain_each sizes small f h [] before all = h before all
plain_each sizes small f h (k ∷ ks) before all =
    plain_below (slice_index sizes k) (λ x. each_tuple sizes f ks (before ++ x ∷ []))
    (λ x lt. plain_each sizes small f h ks (before ++ x ∷ [])
    (all_push (λ n. n ≤ most) before x all (omega (arith, lt, small k))))

index_small : (ns : List ℕ) (i : ℕ) → AreSmall ns → slice_index ns i ≤ most
index_small [] zero all = omega arith
index_small [] (suc i) all = omega arith
index_small (n ∷ ns) zero all = all.0
index_small (n ∷ ns) (suc i) all = index_small ns i all.1

plain_if : (t : Bool) (xs : List ℕ) → Plain xs → Plain (cond t xs [])
plain_if true xs h = h
plain_if false xs h = refl

plain_truth : (t : Bool) → Plain (truth_text t)
unfolding truth_text
plain_truth true = refl
plain_truth false = refl

-- the line of a path's havocs
plain_bare : (xs : List ℕ) → AreSmall xs → Plain (bare_text xs)
unfolding bare_text
plain_bare xs all =
    plain_append (codes "(" ++ listed_text xs) (codes ")")
    (plain_append (codes "(") (listed_text xs) refl (plain_listed xs all)) refl

plain_set : (sizes : List ℕ) → ((k : ℕ) → slice_index sizes k ≤ most) → (ks : List ℕ) (xss : List (List ℕ))
    → Plain (set_text sizes ks xss)
plain_set sizes small [] xss = plain_truth (has_tuple xss [])
plain_set sizes small (k ∷ ks) xss =
    plain_append (codes "{" ++ each_tuple sizes (member_text xss) (k ∷ ks) []) (codes "}")
    (plain_append (codes "{") (each_tuple sizes (member_text xss) (k ∷ ks) []) refl
    (plain_each sizes small (member_text xss)
    (λ xs all. plain_if (has_tuple xss xs) (bare_text xs) (plain_bare xs all)) (k ∷ ks) [] tt)) refl

module _ (s : Tables) (small : (k : ℕ) → slice_index s.sizes k ≤ most) where
  plain_havocs : (path : List PrimitiveTree) (hs : List Havoc) → AreAsked s path hs → Plain (havocs_text s path hs)
  unfolding element_text relation_text
  plain_havocs [] hs is = refl
  plain_havocs (assume p ∷ qs) hs is = plain_havocs qs hs is.1
  plain_havocs (set_rel r by ∷ qs) hs is = plain_havocs qs hs is.1
  plain_havocs (set_fun f by ∷ qs) hs is = plain_havocs qs hs is.1
  plain_havocs (havoc v ∷ qs) [] is = absurd is.0
  plain_havocs (havoc v ∷ qs) (Element x ∷ hs) is =
      plain_append (codes " " ++ decimal x) (havocs_text s qs hs)
      (plain_append (codes " ") (decimal x) refl
      (plain_decimal x (omega (arith, is.0, small (function_at s v).into)))) (plain_havocs qs hs is.1)
  plain_havocs (havoc v ∷ qs) (Tuples xss ∷ hs) is = absurd is.0
  plain_havocs (havoc_rel r ∷ qs) [] is = absurd is.0
  plain_havocs (havoc_rel r ∷ qs) (Element x ∷ hs) is = absurd is.0
  plain_havocs (havoc_rel r ∷ qs) (Tuples xss ∷ hs) is =
      plain_append (codes " " ++ set_text s.sizes (relation_at s r).sorts xss) (havocs_text s qs hs)
      (plain_append (codes " ") (set_text s.sizes (relation_at s r).sorts xss) refl
      (plain_set s.sizes small (relation_at s r).sorts xss)) (plain_havocs qs hs is.1)
  plain_havocs (abort ∷ qs) hs is = plain_havocs qs hs is.1

  pub whole_havocs : (path : Option (List PrimitiveTree)) (hs : List Havoc) → AreAskedAlong s path hs
      → Whole (havoc_line s path hs)
  unfolding havoc_line
  whole_havocs None hs is = absurd is
  whole_havocs (Some path) hs is =
      whole_line (codes "  havoc:" ++ havocs_text s path hs)
      (plain_append (codes "  havoc:") (havocs_text s path hs) refl (plain_havocs path hs is))

-- the lines of a structure
module _ (names : Names) (plain : HasPlainNames names) (s : Tables) (whole : IsStructure s)
    (small : (k : ℕ) → slice_index s.sizes k ≤ most) where
  image_small : (f : ℕ) (xs : List ℕ) → f < length s.functions → fun_at s f xs ≤ most
  image_small f xs lt =
      let full = All-get_or (IsFullFunction s.sizes) s.functions f no_function_table lt whole.functions_full in
      index_small (function_at s f).cells (place_of s.sizes (function_at s f).sorts xs)
      (all_more (λ x. x < slice_index s.sizes (function_at s f).into) (λ x. x ≤ most)
      (λ x below. omega (arith, below, small (function_at s f).into)) (function_at s f).cells
      (recursion_from_All (λ x. x < slice_index s.sizes (function_at s f).into) (function_at s f).cells full.within))

  plain_relation : (r : ℕ) (ks : List ℕ) → Plain (values_text s (symbol.Relation (record { 0 = r })) ks)
  plain_relation r [] = plain_append (codes " ") (truth_text (rel_at s r [])) refl (plain_truth (rel_at s r []))
  plain_relation r (k ∷ ks) =
      plain_each s.sizes small (cell_text s (symbol.Relation (record { 0 = r })))
      (λ xs all. plain_if (rel_at s r xs) (tuple_text xs) (plain_tuple xs all)) (k ∷ ks) [] tt

  plain_function : (f : ℕ) → f < length s.functions → (ks : List ℕ)
      → Plain (values_text s (symbol.Function (record { 0 = f })) ks)
  plain_function f lt [] =
      plain_append (codes " ") (decimal (fun_at s f [])) refl (plain_decimal (fun_at s f []) (image_small f [] lt))
  plain_function f lt (k ∷ ks) =
      plain_each s.sizes small (cell_text s (symbol.Function (record { 0 = f })))
      (λ xs all. plain_append (tuple_text xs ++ codes "->") (decimal (fun_at s f xs))
      (plain_append (tuple_text xs) (codes "->") (plain_tuple xs all) refl)
      (plain_decimal (fun_at s f xs) (image_small f xs lt))) (k ∷ ks) [] tt

  plain_label : (f : ℕ) (ks : List ℕ) → Plain (symbol_label names (symbol.Function (record { 0 = f })) ks)
  plain_label f [] = plain_labelled (codes "    variable ") (name_at names.functions f) (codes ":") refl
      (plain_name names.functions f plain.functions) refl
  plain_label f (k ∷ ks) = plain_labelled (codes "    function ") (name_at names.functions f) (codes ":") refl
      (plain_name names.functions f plain.functions) refl

  pub whole_relation : (r : ℕ) → Whole (relation_line names s r)
  unfolding symbol_line
  whole_relation r =
      whole_line (labelled (codes "    relation ") (name_at names.relations r) (codes ":")
      ++ values_text s (symbol.Relation (record { 0 = r })) (relation_at s r).sorts)
      (plain_append (labelled (codes "    relation ") (name_at names.relations r) (codes ":"))
      (values_text s (symbol.Relation (record { 0 = r })) (relation_at s r).sorts)
      (plain_labelled (codes "    relation ") (name_at names.relations r) (codes ":") refl
      (plain_name names.relations r plain.relations) refl)
      (plain_relation r (relation_at s r).sorts))

  pub whole_function : (f : ℕ) → f < length s.functions → Whole (function_line names s f)
  unfolding symbol_line
  whole_function f lt =
      whole_line (symbol_label names (symbol.Function (record { 0 = f })) (function_at s f).sorts
      ++ values_text s (symbol.Function (record { 0 = f })) (function_at s f).sorts)
      (plain_append (symbol_label names (symbol.Function (record { 0 = f })) (function_at s f).sorts)
      (values_text s (symbol.Function (record { 0 = f })) (function_at s f).sorts)
      (plain_label f (function_at s f).sorts) (plain_function f lt (function_at s f).sorts))

  pub whole_sort : (k : ℕ) → Whole (sort_line names k (size_at s k))
  unfolding sort_line
  whole_sort k =
      whole_line (labelled (codes "    sort ") (name_at names.sorts k) (codes " ") ++ decimal (size_at s k))
      (plain_append (labelled (codes "    sort ") (name_at names.sorts k) (codes " ")) (decimal (size_at s k))
      (plain_labelled (codes "    sort ") (name_at names.sorts k) (codes " ") refl
      (plain_name names.sorts k plain.sorts) refl) (plain_decimal (size_at s k) (small k)))

-- the other lines
plain_cause : (c : Cause) → IsCause c → Plain (cause_text c)
plain_cause cause.Formula can = refl
plain_cause (cause.Terms n) can = plain_append (codes "terms ") (decimal n) refl (plain_decimal n can)
plain_cause (cause.Ground n) can = plain_append (codes "ground ") (decimal n) refl (plain_decimal n can)
plain_cause (cause.Conflicts n) can = plain_append (codes "conflicts ") (decimal n) refl (plain_decimal n can)

counted_plain : (c : Cause) → IsCounted c → Plain (cause_text c)
counted_plain cause.Formula can = absurd can
counted_plain (cause.Terms n) can = plain_cause (cause.Terms n) can
counted_plain (cause.Ground n) can = plain_cause (cause.Ground n) can
counted_plain (cause.Conflicts n) can = plain_cause (cause.Conflicts n) can

pub whole_axioms : (a : Axioms) → IsAxioms a → Whole (axioms_text a)
unfolding open_text
whole_axioms axioms.Consistent can = refl
whole_axioms axioms.Inconsistent can = refl
whole_axioms (axioms.Undecided c) can =
    whole_line (codes "axioms: undecided " ++ cause_text c)
    (plain_append (codes "axioms: undecided ") (cause_text c) refl (counted_plain c can))

pub whole_verdict : (v : Verdict) → Whole (verdict_text v)
whole_verdict verdict.Inductive = refl
whole_verdict verdict.NotInductive = refl
whole_verdict verdict.Undecided = refl

pub whole_path : (path paths : ℕ) → path ≤ most → paths ≤ most → Whole (path_line path paths)
unfolding path_line
whole_path path paths a b =
    whole_line (((codes "  path " ++ decimal path) ++ codes " of ") ++ decimal paths)
    (plain_append ((codes "  path " ++ decimal path) ++ codes " of ") (decimal paths)
    (plain_append (codes "  path " ++ decimal path) (codes " of ")
    (plain_append (codes "  path ") (decimal path) refl (plain_decimal path a)) refl) (plain_decimal paths b))

module _ (names : Names) (plain : HasPlainNames names) where
  plain_stage : (s : Stage) → Plain (stage_text names s)
  plain_stage stage.Init = refl
  plain_stage (stage.Action a) =
      plain_append (codes "action ") (name_at names.actions a) refl (plain_name names.actions a plain.actions)
  plain_stage stage.Final = refl

  plain_about : (a : About) → Plain (about_text names a)
  plain_about about.Abort = refl
  plain_about (about.Conjecture k) =
      plain_append (codes " ") (name_at names.conjectures k) refl (plain_name names.conjectures k plain.conjectures)

  plain_head : (s : Stage) (a : About) → Plain (head_text names s a)
  unfolding head_text
  plain_head s a = plain_append (stage_text names s) (about_text names a) (plain_stage s) (plain_about a)

  pub whole_head : (s : Stage) (a : About) (words : List ℕ) → Whole words → Whole (head_text names s a ++ words)
  whole_head s a words h = whole_behind (head_text names s a) words (plain_head s a) h

  plain_bound : (b : Bound) → Plain (bound_text names b)
  plain_bound (at.Sort k) = plain_labelled (codes "stopped ") (name_at names.sorts k.0) (codes " ") refl
      (plain_name names.sorts k.0 plain.sorts) refl
  plain_bound (at.Rel r) = plain_labelled (codes "stopped relation ") (name_at names.relations r.0) (codes " ") refl
      (plain_name names.relations r.0 plain.relations) refl

  pub whole_least : (l : Least) → Plain (least_text names l) → Whole (least_line names l)
  unfolding least_line
  whole_least l h =
      whole_line (codes "  least: " ++ least_text names l)
      (plain_append (codes "  least: ") (least_text names l) refl h)

  pub plain_stopped : (b : Bound) (size : ℕ) (c : Cause) → size ≤ most → IsCounted c
      → Plain (stopped_text names b size c)
  unfolding stopped_text
  plain_stopped b size c le can =
      plain_append ((bound_text names b ++ decimal size) ++ codes " ") (cause_text c)
      (plain_append (bound_text names b ++ decimal size) (codes " ")
      (plain_append (bound_text names b) (decimal size) (plain_bound b) (plain_decimal size le)) refl)
      (counted_plain c can)

pub whole_undecided : (path : ℕ) (c : Cause) → path ≤ most → IsCause c → Whole (undecided_text path c)
unfolding undecided_text
whole_undecided path c le can =
    whole_line (((codes ": undecided path " ++ decimal path) ++ codes " ") ++ cause_text c)
    (plain_append ((codes ": undecided path " ++ decimal path) ++ codes " ") (cause_text c)
    (plain_append (codes ": undecided path " ++ decimal path) (codes " ")
    (plain_append (codes ": undecided path ") (decimal path) refl (plain_decimal path le)) refl) (plain_cause c can))

-- The line that says whether a structure is least, that of the axioms, and the lines of elements.
use Rattle.std.proofs.Common.{◌≡◌, ℕ, zero, suc, ◌<◌, ◌≤◌, Bool, true, false, List, [], ◌∷◌, ◌++◌, length, map, All}
use Rattle.std.proofs.Common.{Some, None, refl, sym, ap, ◌∙◌, subst, cond, arith, append_assoc}
use Rattle.std.specs.Prelude.{codes, decimal, slice_index, nat_le}
use Rattle.std.specs.Str.{bytes_eq}
use Rattle.std.specs.List.{AllByRecursion}
use Rattle.std.proofs.lemmas.Bool.{leb-true, le-leb}
use Rattle.fol_sig.specs.Tables.{InRange}
use Rattle.rml_command.specs.Models.{ModelTree}
use Rattle.rml_command.specs.declared.names.Names.{Names}
use Rattle.rml_report.specs.Words.{cause_text, labelled, numbers_text, numbers_line, name_at}
use Rattle.rml_report.specs.ReportText.{stopped_text, least_line}
use Rattle.rml_report.specs.declared.least.Bound.TheVariants as at
use Rattle.limits.specs.declared.cause.Cause.{Cause}
use Rattle.rml_report.specs.declared.least.Least.{Least}
use Rattle.rml_report.specs.declared.least.Least.TheVariants as least
use Rattle.rml_report.specs.declared.report.Axioms.TheVariants as axioms
use Rattle.line_scan.specs.Scanning.{behind, number_at, most}
use Rattle.line_scan.specs.Laws.{ScansAreExact}
use Rattle.printed_report.specs.Lines.{IsCounted, IsLeast, IsLeastLine, IsAxiomsLine}
use Rattle.report_values.specs.ValueReading.{choose, on}
use Rattle.report_read.specs.LineReading.{behind_counted, ends, is_stop, stops_at, stops_at_some}
use Rattle.report_values.specs.ValueReading.{elements_in}
use Rattle.report_read.specs.LineReading.{stops_at_relation, is_stopped, is_least_line, is_axioms_line}
use Rattle.report_values.specs.ValueReading.{elements_end}
use Rattle.report_read.specs.Reading.{passing}
use Rattle.report_read.proofs.Pieces.{apart6, passed_test, behind_then, number_then}
use Rattle.report_read.proofs.Parts.{IsLine}
use Rattle.report_read.proofs.LineLaws.{chosen, taken, kept, are_words, other_words, counted_end, counted_end_sound}
use Rattle.report_read.proofs.LineLaws.{not_words, axioms_there, axioms_sound, elements_there, elements_sound}

-- a line that is only looked at
flag_line : (find : List ℕ → Bool) (Is : List ℕ → Type 0) → ((line : List ℕ) → Is line → find line ≡ true)
    → ((line : List ℕ) → find line ≡ true → Is line) → find [] ≡ false → (line : List ℕ) → Is line
    → IsLine (λ l. passing (find l)) (λ (_ : Unit {0}) l. Is l)
flag_line find Is to back none line is = record {
  there = λ u l h. ap passing (to l h);
  sound = λ l u e. back l (kept (find l) tt u e).test;
  empty = ap passing none;
  value = tt;
  line = line;
  some = is;
}

pub axioms_line_is : ScansAreExact → IsLine (λ l. passing (is_axioms_line l)) (λ (_ : Unit {0}) l. IsAxiomsLine l)
axioms_line_is x = flag_line is_axioms_line IsAxiomsLine (axioms_there x) (axioms_sound x) refl
    (codes "axioms: consistent\n") (record { axioms = axioms.Consistent; can = tt; text = refl })

-- behind the word `stopped`
abbrev stop_text : List ℕ → ℕ → Cause → List ℕ
stop_text name size c = name ++ (codes " " ++ (decimal size ++ (codes " " ++ (cause_text c ++ codes "\n"))))

stopped_line_is : (names : Names) (k : ℕ) (size : ℕ) (c : Cause)
    → least_line names (least.Stopped (at.Sort (record { 0 = k })) size c)
    ≡ codes "  least: stopped " ++ stop_text (name_at names.sorts k) size c
unfolding least_line stopped_text labelled
stopped_line_is names k size c =
    ap (λ l. codes "  least: stopped " ++ l)
    (apart6 (name_at names.sorts k) (codes " ") (decimal size) (codes " ") (cause_text c) (codes "\n"))

relation_line_stopped : (names : Names) (r : ℕ) (size : ℕ) (c : Cause)
    → least_line names (least.Stopped (at.Rel (record { 0 = r })) size c)
    ≡ codes "  least: stopped " ++ (codes "relation " ++ stop_text (name_at names.relations r) size c)
unfolding least_line stopped_text labelled
relation_line_stopped names r size c =
    ap (λ l. codes "  least: stopped " ++ (codes "relation " ++ l))
    (apart6 (name_at names.relations r) (codes " ") (decimal size) (codes " ") (cause_text c) (codes "\n"))

or_right : (t u : Bool) → u ≡ true → cond t true u ≡ true
or_right true u e = refl
or_right false u e = e

-- one of the names
pub record StopsAt (bound : ℕ) (names : List (List ℕ)) (bs : List ℕ) : Type 0 where
  pub number : ℕ
  pub known : number < length names
  pub stops : stops_at bound bs (name_at names number) ≡ true

some_there : (bound : ℕ) (names : List (List ℕ)) (k : ℕ) (bs : List ℕ) → k < length names
    → stops_at bound bs (name_at names k) ≡ true → stops_at_some bound names bs ≡ true
some_there bound [] k bs lt e = absurd (omega (arith, lt))
some_there bound (n ∷ ns) zero bs lt e = ap (λ t. cond t true (stops_at_some bound ns bs)) e
some_there bound (n ∷ ns) (suc k) bs lt e =
    or_right (stops_at bound bs n) (stops_at_some bound ns bs) (some_there bound ns k bs (omega (arith, lt)) e)

some_sound : (bound : ℕ) (names : List (List ℕ)) (bs : List ℕ) → stops_at_some bound names bs ≡ true
    → StopsAt bound names bs
some_sound bound [] bs e = absurd (cc e)
some_sound bound (n ∷ ns) bs e = by (stops_at bound bs n) refl e (some_sound bound ns bs)
  where
    by : (t : Bool) → stops_at bound bs n ≡ t → cond t true (stops_at_some bound ns bs) ≡ true
        → (stops_at_some bound ns bs ≡ true → StopsAt bound ns bs) → StopsAt bound (n ∷ ns) bs
    by true is f more = record { number = 0; known = omega arith; stops = is }
    by false is f more =
        let s = more f in record { number = suc s.number; known = omega (arith, s.known); stops = s.stops }

pub record IsStop (bound : ℕ) (name bs : List ℕ) : Type 0 where
  pub size : ℕ
  pub small : size ≤ bound
  pub cause : Cause
  pub can : IsCounted cause
  pub text : bs ≡ stop_text name size cause

module _ (x : ScansAreExact) where
  stop_there : (bound size : ℕ) (c : Cause) (name : List ℕ) → size ≤ bound → bound ≤ most → IsCounted c
      → stops_at bound (stop_text name size c) name ≡ true
  stop_there bound size c name le room can =
      ap (λ o. choose o (λ a. choose (behind (codes " ") a) (is_stop bound) false) false)
      (x.behind_there name (codes " " ++ (decimal size ++ (codes " " ++ (cause_text c ++ codes "\n")))))
      ∙ ap (λ o. choose o (λ (n : ℕ × List ℕ). cond (nat_le n.0 bound)
      (choose (behind (codes " ") n.1) (λ a. ends (behind_counted a)) false) false) false)
      (x.number_there size (codes " " ++ (cause_text c ++ codes "\n")) (omega arith) refl)
      ∙ ap (λ t. cond t (ends (behind_counted (cause_text c ++ codes "\n"))) false) (le-leb size bound le)
      ∙ counted_end x c can

  stop_sound : (bound : ℕ) (name bs : List ℕ) → stops_at bound bs name ≡ true → IsStop bound name bs
  stop_sound bound name bs e =
      let a = chosen (behind name bs) (λ a. choose (behind (codes " ") a) (is_stop bound) false) e in
      let b = chosen (behind (codes " ") a.value) (is_stop bound) a.holds in
      let c = chosen (number_at b.value) (λ (n : ℕ × List ℕ). cond (nat_le n.0 bound)
      (choose (behind (codes " ") n.1) (λ a. ends (behind_counted a)) false) false) b.holds in
      let t : (nat_le c.value.0 bound ≡ true)
      × (choose (behind (codes " ") c.value.1) (λ a. ends (behind_counted a)) false ≡ true) =
      passed_test (nat_le c.value.0 bound)
      (choose (behind (codes " ") c.value.1) (λ a. ends (behind_counted a)) false) c.holds in
      let d = chosen (behind (codes " ") c.value.1) (λ a. ends (behind_counted a)) t.1 in
      let h = counted_end_sound x d.value d.holds in
      record {
        size = c.value.0;
        small = leb-true c.value.0 bound t.0;
        cause = h.cause_is;
        can = h.can;
        text = behind_then x name bs a.value
            (codes " " ++ (decimal c.value.0 ++ (codes " " ++ (cause_text h.cause_is ++ codes "\n")))) a.found
            (behind_then x (codes " ") a.value b.value
            (decimal c.value.0 ++ (codes " " ++ (cause_text h.cause_is ++ codes "\n"))) b.found
            (number_then x b.value c.value (codes " " ++ (cause_text h.cause_is ++ codes "\n")) c.found
            (behind_then x (codes " ") c.value.1 d.value (cause_text h.cause_is ++ codes "\n") d.found h.text)));
      }

  stopped_there : (names : Names) (rest : List ℕ)
      → is_least_line names (codes "  least: stopped " ++ rest) ≡ is_stopped names rest
  stopped_there names rest =
      let bs : List ℕ = codes "  least: stopped " ++ rest in
      let found : behind (codes "  least: stopped ") bs ≡ Some rest = refl in
      ap (λ t. cond t true (choose (behind (codes "  least: stopped ") bs) (is_stopped names) false))
      (other_words (codes "  least: yes\n") bs
      (not_words x (codes "  least: stopped ") rest bs (codes "  least: yes\n") found refl))

  module _ (m : ModelTree) where
    least_there : (line : List ℕ) → IsLeastLine m line → is_least_line m.names line ≡ true
    unfolding least_line
    least_there line is = by is.least is.can is.text
      where
        by : (l : Least) → IsLeast m l → line ≡ least_line m.names l → is_least_line m.names line ≡ true
        by least.Yes can e = ap (is_least_line m.names) e
        by (least.Stopped (at.Sort k) size c) can e =
            let rest : List ℕ = stop_text (name_at m.names.sorts k.0) size c in
            ap (is_least_line m.names) (e ∙ stopped_line_is m.names k.0 size c)
            ∙ stopped_there m.names (stop_text (name_at m.names.sorts k.0) size c)
            ∙ ap (λ t. cond t true (stops_at_relation m.names (stop_text (name_at m.names.sorts k.0) size c)))
            (some_there 100000 m.names.sorts k.0 (stop_text (name_at m.names.sorts k.0) size c) can.0.0
            (stop_there 100000 size c (name_at m.names.sorts k.0) can.0.1 (omega arith) can.1))
        by (least.Stopped (at.Rel r) size c) can e =
            let rest : List ℕ = stop_text (name_at m.names.relations r.0) size c in
            ap (is_least_line m.names) (e ∙ relation_line_stopped m.names r.0 size c)
            ∙ stopped_there m.names (codes "relation " ++ stop_text (name_at m.names.relations r.0) size c)
            ∙ or_right (stops_at_some 100000 m.names.sorts (codes "relation " ++ rest))
            (stops_at_relation m.names (codes "relation " ++ rest))
            (some_there most m.names.relations r.0 (stop_text (name_at m.names.relations r.0) size c) can.0.0
            (stop_there most size c (name_at m.names.relations r.0) can.0.1 (omega arith) can.1))

    stopped_sound : (line rest : List ℕ) → behind (codes "  least: stopped ") line ≡ Some rest
        → is_stopped m.names rest ≡ true → IsLeastLine m line
    stopped_sound line rest found e = by (stops_at_some 100000 m.names.sorts rest) refl e
      where
        by : (t : Bool) → stops_at_some 100000 m.names.sorts rest ≡ t
            → cond t true (stops_at_relation m.names rest) ≡ true → IsLeastLine m line
        by true is f =
            let s = some_sound 100000 m.names.sorts rest is in
            let h = stop_sound 100000 (name_at m.names.sorts s.number) rest s.stops in
            record {
              least = least.Stopped (at.Sort (record { 0 = s.number })) h.size h.cause;
              can = ((s.known, h.small), h.can);
              text = behind_then x (codes "  least: stopped ") line rest
                  (stop_text (name_at m.names.sorts s.number) h.size h.cause) found h.text
                  ∙ sym (stopped_line_is m.names s.number h.size h.cause);
            }
        by false is f =
            let a = chosen (behind (codes "relation ") rest) (stops_at_some most m.names.relations) f in
            let s = some_sound most m.names.relations a.value a.holds in
            let h = stop_sound most (name_at m.names.relations s.number) a.value s.stops in
            record {
              least = least.Stopped (at.Rel (record { 0 = s.number })) h.size h.cause;
              can = ((s.known, h.small), h.can);
              text = behind_then x (codes "  least: stopped ") line rest
                  (codes "relation " ++ stop_text (name_at m.names.relations s.number) h.size h.cause) found
                  (behind_then x (codes "relation ") rest a.value
                  (stop_text (name_at m.names.relations s.number) h.size h.cause) a.found h.text)
                  ∙ sym (relation_line_stopped m.names s.number h.size h.cause);
            }

    least_sound : (line : List ℕ) → is_least_line m.names line ≡ true → IsLeastLine m line
    unfolding least_line
    least_sound line e = by (bytes_eq line (codes "  least: yes\n")) refl e
      where
        by : (t : Bool) → bytes_eq line (codes "  least: yes\n") ≡ t
            → cond t true (choose (behind (codes "  least: stopped ") line) (is_stopped m.names) false) ≡ true
            → IsLeastLine m line
        by true is f = record { least = least.Yes; can = tt; text = are_words (codes "  least: yes\n") line is }
        by false is f =
            let a = chosen (behind (codes "  least: stopped ") line) (is_stopped m.names) f in
            stopped_sound line a.value a.found a.holds

    least_yes : IsLeastLine m (codes "  least: yes\n")
    unfolding least_line
    least_yes = record { least = least.Yes; can = tt; text = refl }

    pub least_line_is : IsLine (λ l. passing (is_least_line m.names l)) (λ (_ : Unit {0}) l. IsLeastLine m l)
    least_line_is = flag_line (is_least_line m.names) (IsLeastLine m) least_there least_sound refl
        (codes "  least: yes\n") least_yes

  -- elements behind a word
  pub record IsElements (sizes ks word xs line : List ℕ) : Type 0 where
    pub in_range : InRange sizes ks xs
    pub text : line ≡ numbers_line word xs

  elements_in_there : (sizes ks word : List ℕ) → ((k : ℕ) → slice_index sizes k ≤ most) → (xs line : List ℕ)
      → IsElements sizes ks word xs line → elements_in sizes ks word line ≡ Some xs
  unfolding numbers_line
  elements_in_there sizes ks word small xs line is =
      ap (elements_in sizes ks word) (is.text ∙ append_assoc word (numbers_text xs) (codes "\n"))
      ∙ ap (λ o. on o (elements_end sizes ks [])) (x.behind_there word (numbers_text xs ++ codes "\n"))
      ∙ elements_there x sizes ks [] xs small is.in_range

  elements_in_sound : (sizes ks word line xs : List ℕ) → elements_in sizes ks word line ≡ Some xs
      → IsElements sizes ks word xs line
  unfolding numbers_line
  elements_in_sound sizes ks word line xs e =
      let a = taken (behind word line) (elements_end sizes ks []) xs e in
      let r = elements_sound x sizes ks [] xs a.value a.gives in
      record {
        in_range = subst (InRange sizes ks) (sym r.all) r.in_range;
        text = behind_then x word line a.value (numbers_text xs ++ codes "\n") a.found
            (r.text ∙ ap (λ l. numbers_text l ++ codes "\n") (sym r.all))
            ∙ sym (append_assoc word (numbers_text xs) (codes "\n"));
      }

  pub elements_line_is : (sizes ks word : List ℕ) → ((k : ℕ) → slice_index sizes k ≤ most) → behind word [] ≡ None
      → InRange sizes ks (map (λ _. 0) ks) → IsLine (elements_in sizes ks word) (IsElements sizes ks word)
  elements_line_is sizes ks word small none zeros = record {
    there = elements_in_there sizes ks word small;
    sound = elements_in_sound sizes ks word;
    empty = ap (λ o. on o (elements_end sizes ks [])) none;
    value = map (λ _. 0) ks;
    line = numbers_line word (map (λ _. 0) ks);
    some = record { in_range = zeros; text = refl };
  }

-- each sort has an element
pub zeros_in : (sizes ks : List ℕ) → All (λ n. 0 < n) sizes → AllByRecursion (λ k. k < length sizes) ks
    → InRange sizes ks (map (λ _. 0) ks)
zeros_in sizes [] positive all = tt
zeros_in sizes (k ∷ ks) positive all = (positive k 0 all.0, zeros_in sizes ks positive all.1)

pub small_at : (sizes : List ℕ) → AllByRecursion (λ n. n ≤ 100000) sizes → (k : ℕ) → slice_index sizes k ≤ most
small_at [] all zero = omega arith
small_at [] all (suc k) = omega arith
small_at (n ∷ ns) all zero = omega (arith, all.0)
small_at (n ∷ ns) all (suc k) = small_at ns all.1 k

-- What a line is found to say is what it says: one law for each kind of line.
use Rattle.std.proofs.Common.{◌≡◌, ℕ, ◌<◌, ◌≤◌, Bool, true, false, List, [], ◌∷◌, ◌++◌, Option, Some, None, refl}
use Rattle.std.proofs.Common.{sym, ap, ◌∙◌, subst, cond, arith, append_assoc, append-nil}
use Rattle.std.specs.Prelude.{◌&&◌, nat_le, nat_lt, codes, decimal, slice_index}
use Rattle.std.specs.Str.{bytes_eq}
use Rattle.std.proofs.lemmas.Slice.Eq.{bytes_eq-Decides}
use Rattle.std.proofs.lemmas.Bool.{and_parts, and_from, leb-true, le-leb, ltb-true, lt-ltb}
use Rattle.fol_sig.specs.Tables.{InRange}
use Rattle.rml_report.specs.Words.{cause_text, labelled, numbers_text}
use Rattle.rml_report.specs.ReportText.{axioms_text, open_text}
use Rattle.limits.specs.declared.cause.Cause.{Cause}
use Rattle.limits.specs.declared.cause.Cause.TheVariants as cause
use Rattle.rml_report.specs.declared.report.Axioms.{Axioms}
use Rattle.rml_report.specs.declared.report.Axioms.TheVariants as axioms
use Rattle.line_scan.specs.Scanning.{behind, number_at, is_end, most}
use Rattle.line_scan.specs.Laws.{ScansAreExact, ends_number}
use Rattle.printed_report.specs.Lines.{IsCounted, IsAxioms, IsAxiomsLine}
use Rattle.report_values.specs.ValueReading.{choose, on}
use Rattle.report_read.specs.LineReading.{behind_number, behind_counted, ends, is_open_axioms}
use Rattle.report_read.specs.LineReading.{is_axioms_line}
use Rattle.report_values.specs.ValueReading.{behind_labelled, value_at, element_at}
use Rattle.report_read.specs.LineReading.{size_in, size_end}
use Rattle.report_values.specs.ValueReading.{elements_end}

pub record Chosen {A : Type 0} (o : Option A) (f : A → Bool) : Type 0 where
  pub value : A
  pub found : o ≡ Some value
  pub holds : f value ≡ true

pub chosen : {A : Type 0} (o : Option A) (f : A → Bool) → choose o f false ≡ true → Chosen o f
chosen None f e = absurd (cc e)
chosen (Some a) f e = record { value = a; found = refl; holds = e }

pub record Taken {A B : Type 0} (o : Option A) (f : A → Option B) (b : B) : Type 0 where
  pub value : A
  pub found : o ≡ Some value
  pub gives : f value ≡ Some b

pub taken : {A B : Type 0} (o : Option A) (f : A → Option B) (b : B) → on o f ≡ Some b → Taken o f b
taken None f b e = absurd (cc e)
taken (Some a) f b e = record { value = a; found = refl; gives = e }

pub record Kept {A : Type 0} (t : Bool) (a b : A) : Type 0 where
  pub test : t ≡ true
  pub value : a ≡ b

pub kept : {A : Type 0} (t : Bool) (a b : A) → cond t (Some a) None ≡ Some b → Kept t a b
kept true a b e = record { test = refl; value = cc e }
kept false a b e = absurd (cc e)

-- the line is these words
pub same_words : (words line : List ℕ) → line ≡ words → bytes_eq line words ≡ true
same_words words line e = (bytes_eq-Decides line words).1 e

pub are_words : (words line : List ℕ) → bytes_eq line words ≡ true → line ≡ words
are_words words line e = (bytes_eq-Decides line words).0 e

pub other_words : (words line : List ℕ) → (line ≡ words → ⊥) → bytes_eq line words ≡ false
other_words words line differ = by (bytes_eq line words) refl
  where
    by : (t : Bool) → bytes_eq line words ≡ t → bytes_eq line words ≡ false
    by true e = absurd (differ ((bytes_eq-Decides line words).0 e))
    by false e = e

module _ (x : ScansAreExact) where
  record IsNumbered (word bs rest : List ℕ) : Type 0 where
    number : ℕ
    small : number ≤ most
    text : bs ≡ (word ++ decimal number) ++ rest

  numbered : (word bs a rest : List ℕ) → behind word bs ≡ Some a → behind_number a ≡ Some rest
      → IsNumbered word bs rest
  numbered word bs a rest found e =
      let t = taken (number_at a) (λ (n : ℕ × List ℕ). Some n.1) rest e in
      let s : (a ≡ decimal t.value.0 ++ t.value.1) × (t.value.0 ≤ most) =
      x.number_sound a t.value.0 t.value.1 t.found in
      let r : t.value.1 ≡ rest = cc t.gives in
      record {
        number = t.value.0;
        small = s.1;
        text = x.behind_sound word bs a found ∙ ap (λ l. word ++ l) (s.0 ∙ ap (λ l. decimal t.value.0 ++ l) r)
            ∙ sym (append_assoc word (decimal t.value.0) rest);
      }

  -- a cause with a number is passed over
  pub counted_there : (c : Cause) (rest : List ℕ) → IsCounted c → ends_number rest ≡ true
      → behind_counted (cause_text c ++ rest) ≡ Some rest
  counted_there cause.Formula rest can e = absurd can
  counted_there (cause.Terms n) rest can e =
      ap behind_counted (append_assoc (codes "terms ") (decimal n) rest)
      ∙ ap (λ o. on o (λ (m : ℕ × List ℕ). Some m.1)) (x.number_there n rest can e)
  counted_there (cause.Ground n) rest can e =
      ap behind_counted (append_assoc (codes "ground ") (decimal n) rest)
      ∙ ap (λ o. on o (λ (m : ℕ × List ℕ). Some m.1)) (x.number_there n rest can e)
  counted_there (cause.Conflicts n) rest can e =
      ap behind_counted (append_assoc (codes "conflicts ") (decimal n) rest)
      ∙ ap (λ o. on o (λ (m : ℕ × List ℕ). Some m.1)) (x.number_there n rest can e)

  record HasCause (bs rest : List ℕ) : Type 0 where
    cause_is : Cause
    can : IsCounted cause_is
    text : bs ≡ cause_text cause_is ++ rest

  counted_by : (bs rest : List ℕ) (o p q : Option (List ℕ)) → behind (codes "terms ") bs ≡ o
      → behind (codes "ground ") bs ≡ p → behind (codes "conflicts ") bs ≡ q
      → choose o behind_number (choose p behind_number (choose q behind_number None)) ≡ Some rest → HasCause bs rest
  counted_by bs rest (Some a) p q i j k e =
      let n = numbered (codes "terms ") bs a rest i e in
      record { cause_is = cause.Terms n.number; can = n.small; text = n.text }
  counted_by bs rest None (Some a) q i j k e =
      let n = numbered (codes "ground ") bs a rest j e in
      record { cause_is = cause.Ground n.number; can = n.small; text = n.text }
  counted_by bs rest None None (Some a) i j k e =
      let n = numbered (codes "conflicts ") bs a rest k e in
      record { cause_is = cause.Conflicts n.number; can = n.small; text = n.text }
  counted_by bs rest None None None i j k e = absurd (cc e)

  counted_sound : (bs rest : List ℕ) → behind_counted bs ≡ Some rest → HasCause bs rest
  counted_sound bs rest e =
      counted_by bs rest (behind (codes "terms ") bs) (behind (codes "ground ") bs) (behind (codes "conflicts ") bs)
      refl refl refl e

  -- and the end of the line
  pub counted_end : (c : Cause) → IsCounted c → ends (behind_counted (cause_text c ++ codes "\n")) ≡ true
  counted_end c can =
      ap ends (counted_there c (codes "\n") can refl) ∙ x.end_there

  pub record HasCauseEnd (bs : List ℕ) : Type 0 where
    pub cause_is : Cause
    pub can : IsCounted cause_is
    pub text : bs ≡ cause_text cause_is ++ codes "\n"

  pub counted_end_sound : (bs : List ℕ) → ends (behind_counted bs) ≡ true → HasCauseEnd bs
  counted_end_sound bs e =
      let c = chosen (behind_counted bs) is_end e in
      let h = counted_sound bs c.value c.found in
      record {
        cause_is = h.cause_is;
        can = h.can;
        text = h.text ∙ ap (λ l. cause_text h.cause_is ++ l) (x.end_sound c.value c.holds);
      }

  -- the line of the axioms
  pub not_words : (w r line words : List ℕ) → behind w line ≡ Some r → behind w words ≡ None → line ≡ words → ⊥
  not_words w r line words found missing e =
      let f : behind w line ≡ behind w words = ap (behind w) e in cc (f, found, missing)

  open_there : (c : Cause) → IsCounted c → is_axioms_line (open_text c) ≡ true
  unfolding open_text
  open_there c can =
      let rest : List ℕ = cause_text c ++ codes "\n" in
      let is : behind (codes "axioms: undecided ") (open_text c) ≡ Some (cause_text c ++ codes "\n") = refl in
      let a = other_words (codes "axioms: consistent\n") (open_text c)
      (not_words (codes "axioms: undecided ") rest (open_text c) (codes "axioms: consistent\n") is refl) in
      let b = other_words (codes "axioms: inconsistent\n") (open_text c)
      (not_words (codes "axioms: undecided ") rest (open_text c) (codes "axioms: inconsistent\n") is refl) in
      ap (λ t. cond t true (cond (bytes_eq (open_text c) (codes "axioms: inconsistent\n")) true
      (is_open_axioms (open_text c)))) a
      ∙ ap (λ t. cond t true (is_open_axioms (open_text c))) b
      ∙ ap (λ o. choose o (λ l. ends (behind_counted l)) false) is ∙ counted_end c can

  pub axioms_there : (line : List ℕ) → IsAxiomsLine line → is_axioms_line line ≡ true
  axioms_there line is = by is.axioms is.can is.text
    where
      by : (a : Axioms) → IsAxioms a → line ≡ axioms_text a → is_axioms_line line ≡ true
      by axioms.Consistent can e = ap is_axioms_line e
      by axioms.Inconsistent can e = ap is_axioms_line e
      by (axioms.Undecided c) can e = ap is_axioms_line e ∙ open_there c can

  open_sound : (line : List ℕ) → is_open_axioms line ≡ true → IsAxiomsLine line
  unfolding open_text
  open_sound line e =
      let c = chosen (behind (codes "axioms: undecided ") line) (λ l. ends (behind_counted l)) e in
      let h = counted_end_sound c.value c.holds in
      record {
        axioms = axioms.Undecided h.cause_is;
        can = h.can;
        text = x.behind_sound (codes "axioms: undecided ") line c.value c.found
            ∙ ap (λ l. codes "axioms: undecided " ++ l) h.text;
      }

  pub axioms_sound : (line : List ℕ) → is_axioms_line line ≡ true → IsAxiomsLine line
  axioms_sound line e =
      by (bytes_eq line (codes "axioms: consistent\n")) (bytes_eq line (codes "axioms: inconsistent\n")) refl refl e
    where
      by : (t u : Bool) → bytes_eq line (codes "axioms: consistent\n") ≡ t
          → bytes_eq line (codes "axioms: inconsistent\n") ≡ u
          → cond t true (cond u true (is_open_axioms line)) ≡ true → IsAxiomsLine line
      by true u i j f = record {
        axioms = axioms.Consistent;
        can = tt;
        text = are_words (codes "axioms: consistent\n") line i;
      }
      by false true i j f = record {
        axioms = axioms.Inconsistent;
        can = tt;
        text = are_words (codes "axioms: inconsistent\n") line j;
      }
      by false false i j f = open_sound line f

  -- a name between two words
  pub labelled_there : (before name after rest : List ℕ)
      → behind_labelled before name after (labelled before name after ++ rest) ≡ Some rest
  unfolding labelled
  labelled_there before name after rest =
      ap (behind_labelled before name after)
      (append_assoc (before ++ name) after rest ∙ append_assoc before name (after ++ rest))
      ∙ ap (λ o. on o (λ a. on (behind name a) (behind after))) (x.behind_there before (name ++ (after ++ rest)))
      ∙ ap (λ o. on o (behind after)) (x.behind_there name (after ++ rest))
      ∙ x.behind_there after rest

  pub labelled_sound : (before name after bs rest : List ℕ) → behind_labelled before name after bs ≡ Some rest
      → bs ≡ labelled before name after ++ rest
  unfolding labelled
  labelled_sound before name after bs rest e =
      let a = taken (behind before bs) (λ l. on (behind name l) (behind after)) rest e in
      let b = taken (behind name a.value) (behind after) rest a.gives in
      x.behind_sound before bs a.value a.found
      ∙ ap (λ l. before ++ l) (x.behind_sound name a.value b.value b.found
      ∙ ap (λ l. name ++ l) (x.behind_sound after b.value rest b.gives))
      ∙ sym (append_assoc (before ++ name) after rest ∙ append_assoc before name (after ++ rest))

  -- the line of a sort
  pub record IsSortLine (name : List ℕ) (size : ℕ) (line : List ℕ) : Type 0 where
    pub least : 1 ≤ size
    pub most_is : size ≤ 100000
    pub text : line ≡ labelled (codes "    sort ") name (codes " ") ++ (decimal size ++ codes "\n")

  pub size_there : (name : List ℕ) (size : ℕ) (line : List ℕ) → IsSortLine name size line
      → size_in name line ≡ Some size
  size_there name size line is =
      let tests : nat_le 1 size && nat_le size 100000 && is_end (codes "\n") ≡ true =
      and_from (nat_le 1 size && nat_le size 100000) (is_end (codes "\n"))
      (and_from (nat_le 1 size) (nat_le size 100000) (le-leb 1 size is.least) (le-leb size 100000 is.most_is))
      x.end_there in
      let small : size ≤ most = let m = is.most_is in omega (arith, m) in
      ap (size_in name) is.text
      ∙ ap (λ o. on o size_end) (labelled_there (codes "    sort ") name (codes " ") (decimal size ++ codes "\n"))
      ∙ ap (λ o. on o (λ (n : ℕ × List ℕ). cond (nat_le 1 n.0 && nat_le n.0 100000 && is_end n.1) (Some n.0) None))
      (x.number_there size (codes "\n") small refl)
      ∙ ap (λ t. cond t (Some size) None) tests

  pub size_sound : (name : List ℕ) (size : ℕ) (line : List ℕ) → size_in name line ≡ Some size
      → IsSortLine name size line
  size_sound name size line e =
      let a = taken (behind_labelled (codes "    sort ") name (codes " ") line) size_end size e in
      let b = taken (number_at a.value)
      (λ (n : ℕ × List ℕ). cond (nat_le 1 n.0 && nat_le n.0 100000 && is_end n.1) (Some n.0) None) size a.gives in
      let k = kept (nat_le 1 b.value.0 && nat_le b.value.0 100000 && is_end b.value.1) b.value.0 size b.gives in
      let p = and_parts (nat_le 1 b.value.0 && nat_le b.value.0 100000) (is_end b.value.1) k.test in
      let q = and_parts (nat_le 1 b.value.0) (nat_le b.value.0 100000) p.0 in
      let v : b.value.0 ≡ size = k.value in
      let s : (a.value ≡ decimal b.value.0 ++ b.value.1) × (b.value.0 ≤ most) =
      x.number_sound a.value b.value.0 b.value.1 b.found in
      let lo : 1 ≤ b.value.0 = leb-true 1 b.value.0 q.0 in
      let hi : b.value.0 ≤ 100000 = leb-true b.value.0 100000 q.1 in
      record {
        least = omega (arith, lo, v);
        most_is = omega (arith, hi, v);
        text = labelled_sound (codes "    sort ") name (codes " ") line a.value a.found
            ∙ ap (λ l. labelled (codes "    sort ") name (codes " ") ++ l)
            (s.0 ∙ ap (λ n. decimal n ++ b.value.1) v ∙ ap (λ l. decimal size ++ l) (x.end_sound b.value.1 p.1));
      }

  -- elements, each behind a blank, and the end
  ends_numbers : (xs : List ℕ) → ends_number (numbers_text xs ++ codes "\n") ≡ true
  unfolding numbers_text
  ends_numbers [] = refl
  ends_numbers (n ∷ ns) = refl

  pub value_there : (size n : ℕ) (rest : List ℕ) → n < size → size ≤ most → ends_number rest ≡ true
      → value_at size (decimal n ++ rest) ≡ Some (n, rest)
  value_there size n rest lt le over =
      ap (λ o. on o (λ (m : ℕ × List ℕ). cond (nat_lt m.0 size) (Some m) None))
      (x.number_there n rest (omega arith) over)
      ∙ ap (λ t. cond t (Some (n, rest)) None) (lt-ltb n size lt)

  pub record IsValue (size : ℕ) (bs : List ℕ) (n : ℕ × List ℕ) : Type 0 where
    pub below : n.0 < size
    pub text : bs ≡ decimal n.0 ++ n.1

  pub value_sound : (size : ℕ) (bs : List ℕ) (n : ℕ × List ℕ) → value_at size bs ≡ Some n → IsValue size bs n
  value_sound size bs n e =
      let a = taken (number_at bs) (λ (m : ℕ × List ℕ). cond (nat_lt m.0 size) (Some m) None) n e in
      let k = kept (nat_lt a.value.0 size) a.value n a.gives in
      let s : (bs ≡ decimal a.value.0 ++ a.value.1) × (a.value.0 ≤ most) =
      x.number_sound bs a.value.0 a.value.1 a.found in
      subst (IsValue size bs) k.value (record { below = ltb-true a.value.0 size k.test; text = s.0 })

  pub elements_there : (sizes ks done xs : List ℕ) → ((k : ℕ) → slice_index sizes k ≤ most) → InRange sizes ks xs
      → elements_end sizes ks done (numbers_text xs ++ codes "\n") ≡ Some (done ++ xs)
  unfolding numbers_text
  elements_there sizes [] done [] small h = ap Some (sym (append-nil done))
  elements_there sizes [] done (y ∷ ys) small h = absurd h
  elements_there sizes (k ∷ ks) done [] small h = absurd h
  elements_there sizes (k ∷ ks) done (y ∷ ys) small h =
      ap (λ l. elements_end sizes (k ∷ ks) done (32 ∷ l)) (append_assoc (decimal y) (numbers_text ys) (codes "\n"))
      ∙ ap (λ o. on o (λ (n : ℕ × List ℕ). elements_end sizes ks (done ++ n.0 ∷ []) n.1))
      (value_there (slice_index sizes k) y (numbers_text ys ++ codes "\n") h.0 (small k) (ends_numbers ys))
      ∙ elements_there sizes ks (done ++ y ∷ []) ys small h.1
      ∙ ap Some (append_assoc done (y ∷ []) ys)

  pub record AreElements (sizes ks done xs bs : List ℕ) : Type 0 where
    pub values : List ℕ
    pub in_range : InRange sizes ks values
    pub all : xs ≡ done ++ values
    pub text : bs ≡ numbers_text values ++ codes "\n"

  pub elements_sound : (sizes ks done xs bs : List ℕ) → elements_end sizes ks done bs ≡ Some xs
      → AreElements sizes ks done xs bs
  unfolding numbers_text
  elements_sound sizes [] done xs bs e =
      let k = kept (is_end bs) done xs e in
      record {
        values = [];
        in_range = tt;
        all = sym k.value ∙ sym (append-nil done);
        text = x.end_sound bs k.test;
      }
  elements_sound sizes (k ∷ ks) done xs bs e =
      let a = taken (element_at (slice_index sizes k) bs)
      (λ (n : ℕ × List ℕ). elements_end sizes ks (done ++ n.0 ∷ []) n.1) xs e in
      let b = taken (behind (codes " ") bs) (value_at (slice_index sizes k)) a.value a.found in
      let v = value_sound (slice_index sizes k) b.value a.value b.gives in
      let r = elements_sound sizes ks (done ++ a.value.0 ∷ []) xs a.value.1 a.gives in
      record {
        values = a.value.0 ∷ r.values;
        in_range = (v.below, r.in_range);
        all = r.all ∙ append_assoc done (a.value.0 ∷ []) r.values;
        text = x.behind_sound (codes " ") bs b.value b.found
            ∙ ap (λ l. codes " " ++ l) (v.text ∙ ap (λ l. decimal a.value.0 ++ l) r.text
            ∙ sym (append_assoc (decimal a.value.0) (numbers_text r.values) (codes "\n")));
      }

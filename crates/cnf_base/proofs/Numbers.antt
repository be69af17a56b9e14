-- Numbers and literals as they are written, and as words.
use Rattle.std.proofs.Common.{◌≡◌, ℕ, ◌+◌, ◌-◌, ◌*◌, ◌/◌, ◌%◌, ◌^◌, ◌<◌, ◌≤◌, ◌||◌, Bool, true, false, List, [], ◌∷◌}
use Rattle.std.proofs.Common.{◌++◌, Option, Some, None, length, take, refl, ◌∙◌, ap, cond, arith}
use Rattle.std.specs.Prelude.{◌==◌, ◌&&◌, not, nat_le, decimal}
use Rattle.std.specs.List.{prefix_len}
use Rattle.std.proofs.lemmas.Bool.{ne_eqb, and_parts, leb-true, le-leb, and_from}
use Rattle.std.proofs.lemmas.Fmt.{decimal_by_steps, decimal_nonempty, length-decimal-le}
use Rattle.std.proofs.lemmas.List.{take_at}
use Rattle.cnf_base.specs.declared.text.LineMode.{LineMode}
use Rattle.cnf_base.specs.declared.text.LineMode.TheVariants.{LineStart, InLine, InWord, Comment}
use Rattle.cnf_base.specs.declared.text.Numeral.{Numeral}
use Rattle.cnf_base.specs.Literals.{variable_of, is_positive, IsLiteral}
use Rattle.base.specs.Bytes.{is_digit, is_blank}
use Rattle.cnf_base.specs.Modes.{behind, next_mode, begins_word, word_of, words_from}
use Rattle.cnf_base.specs.Starts.{IsBetween}
use Rattle.cnf_base.specs.Numerals.{with_digits, digits_value, signed, number_of}
use Rattle.cnf_base.specs.Writing.{literal_text}
use Rattle.cnf_base.proofs.Scanning.{inside}

-- digits
abbrev Digits : List ℕ → Type 0
Digits [] = Unit {0}
Digits (d ∷ ds) = (is_digit d ≡ true) × Digits ds

push_digit : (ds : List ℕ) (d : ℕ) → Digits ds → is_digit d ≡ true → Digits (ds ++ d ∷ [])
push_digit [] d p q = (q, tt)
push_digit (x ∷ ds) d p q = (p.0, push_digit ds d p.1 q)

a_digit : (r : ℕ) → r < 10 → is_digit (48 + r) ≡ true
a_digit r h = and_from (nat_le 48 (48 + r)) (nat_le (48 + r) 57) (le-leb 48 (48 + r) (omega arith))
    (le-leb (48 + r) 57 (omega arith))

still : (b : Bool) (x y : Option ℕ) (k : ℕ) (z : Option ℕ) → (x ≡ Some k → y ≡ z) → cond b x None ≡ Some k
    → cond b y None ≡ z
still true x y k z f h = f h
still false x y k z f h = cc h

digit_more : (m : ℕ) (ds : List ℕ) (k r : ℕ) → with_digits m ds ≡ Some k → r < 10 → k * 10 + r ≤ 2147483647
    → with_digits m (ds ++ (48 + r) ∷ []) ≡ Some (k * 10 + r)
digit_more m [] k r h lt le =
    let i : m ≡ k = cc h in
    let v : m * 10 + ((48 + r) - 48) ≡ k * 10 + r = omega arith in
    let t : is_digit (48 + r) && nat_le (m * 10 + ((48 + r) - 48)) 2147483647 ≡ true =
    and_from (is_digit (48 + r)) (nat_le (m * 10 + ((48 + r) - 48)) 2147483647) (a_digit r lt)
    (le-leb (m * 10 + ((48 + r) - 48)) 2147483647 (omega (arith, v, le))) in
    ap (λ b. cond b (Some (m * 10 + ((48 + r) - 48))) None) t ∙ ap Some v
digit_more m (d ∷ ds) k r h lt le =
    still (is_digit d && nat_le (m * 10 + (d - 48)) 2147483647) (with_digits (m * 10 + (d - 48)) ds)
    (with_digits (m * 10 + (d - 48)) (ds ++ (48 + r) ∷ [])) k (Some (k * 10 + r))
    (λ e. digit_more (m * 10 + (d - 48)) ds k r e lt le) h

record IsDecimal (n : ℕ) (ds : List ℕ) : Type 0 where
  digits : Digits ds
  value : with_digits 0 ds ≡ Some n

decimal_is : (n : ℕ) → n < 2 ^ 64 → n ≤ 2147483647 → IsDecimal n (decimal n)
decimal_is = decimal_by_steps (λ n ds. n ≤ 2147483647 → IsDecimal n ds)
    (λ n lt le. record {
      digits = (a_digit n lt, tt);
      value = digit_more 0 [] 0 n refl lt (omega arith) ∙ ap Some (omega arith);
    })
    (λ n ds ten rest le.
    let r = rest (omega arith) in
    let v : n / 10 * 10 + n % 10 ≡ n = omega arith in
    record {
      digits = push_digit ds (48 + n % 10) r.digits (a_digit (n % 10) (omega arith));
      value = digit_more 0 ds (n / 10) (n % 10) r.value (omega arith) (omega (arith, v)) ∙ ap Some v;
    })

digits_value_is : (n : ℕ) → n ≤ 2147483647 → digits_value (decimal n) ≡ Some n
digits_value_is n le =
    let lt : n < 2 ^ 64 = omega arith in
    let d = decimal_is n lt le in
    let t = and_from (nat_le 1 (length (decimal n))) (nat_le (length (decimal n)) 10)
    (le-leb 1 (length (decimal n)) (decimal_nonempty n lt))
    (le-leb (length (decimal n)) 10 (length-decimal-le 10 n (omega arith) (omega arith) lt)) in
    ap (λ b. cond b (with_digits 0 (decimal n)) None) t ∙ d.value

pub digit_bounds : (d : ℕ) → is_digit d ≡ true → (48 ≤ d) × (d ≤ 57)
digit_bounds d h = let p = and_parts (nat_le 48 d) (nat_le d 57) h in (leb-true 48 d p.0, leb-true d 57 p.1)

other : (d k : ℕ) → is_digit d ≡ true → (k < 48) → (d == k) ≡ false
other d k h lt = let b = digit_bounds d h in ne_eqb d k (λ e. absurd (omega (arith, b.0, e)))

or4 : (a b c d : Bool) → a ≡ false → b ≡ false → c ≡ false → d ≡ false → a || b || c || d ≡ false
or4 a b c d p q r s = cc

pub no_blank : (d : ℕ) → is_digit d ≡ true → is_blank d ≡ false
no_blank d h = or4 (d == 32) (d == 9) (d == 13) (d == 10) (other d 32 h (omega arith)) (other d 9 h (omega arith))
    (other d 13 h (omega arith)) (other d 10 h (omega arith))

by_sign : (ds : List ℕ) → Digits ds → 0 < length ds → number_of ds ≡ signed false (digits_value ds)
by_sign [] p h = absurd (omega arith)
by_sign (d ∷ ds) p h = ap (λ b. cond b (signed true (digits_value ds)) (signed false (digits_value (d ∷ ds))))
    (other d 45 p.0 (omega arith))

pub number_of-decimal : (n : ℕ) → n ≤ 2147483647 → number_of (decimal n) ≡ Some (record { negative = false; value = n })
number_of-decimal n le =
    let lt : n < 2 ^ 64 = omega arith in
    by_sign (decimal n) (decimal_is n lt le).digits (decimal_nonempty n lt) ∙ ap (signed false) (digits_value_is n le)

pub number_of-negative : (n : ℕ) → 0 < n → n ≤ 2147483647
    → number_of (45 ∷ decimal n) ≡ Some (record { negative = true; value = n })
number_of-negative n some le =
    ap (signed true) (digits_value_is n le)
    ∙ ap (λ b. cond b None (Some (record { negative = true; value = n }))) (ne_eqb n 0 (λ e. absurd (omega arith)))

-- words
abbrev Solid : List ℕ → Type 0
Solid [] = Unit {0}
Solid (b ∷ bs) = (is_blank b ≡ false) × Solid bs

solid_digits : (ds : List ℕ) → Digits ds → Solid ds
solid_digits [] p = tt
solid_digits (d ∷ ds) p = (no_blank d p.0, solid_digits ds p.1)

through_word : (ds rest : List ℕ) (b at : ℕ) → Solid ds → is_blank b ≡ true
    → words_from InWord at (ds ++ b ∷ rest) ≡ words_from (behind b) (at + length ds + 1) rest
through_word [] rest b at p q = ap (λ k. words_from (behind b) k rest) (omega arith)
through_word (d ∷ ds) rest b at p q =
    ap (λ m. words_from m (at + 1) (ds ++ b ∷ rest)) (inside d p.0) ∙ through_word ds rest b (at + 1) p.1 q
    ∙ ap (λ k. words_from (behind b) k rest) (omega arith)

solid_len : (ds rest : List ℕ) (b : ℕ) → Solid ds → is_blank b ≡ true
    → prefix_len (λ x. not (is_blank x)) (ds ++ b ∷ rest) ≡ length ds
solid_len [] rest b p q = ap (λ x. cond (not x) (1 + prefix_len (λ x. not (is_blank x)) rest) 0) q
solid_len (d ∷ ds) rest b p q =
    ap (λ x. cond (not x) (1 + prefix_len (λ x. not (is_blank x)) (ds ++ b ∷ rest)) 0) p.0
    ∙ ap (λ k. 1 + k) (solid_len ds rest b p.1 q) ∙ omega arith

stops : (ds rest : List ℕ) (b : ℕ) → Solid ds → is_blank b ≡ true → word_of (ds ++ b ∷ rest) ≡ ds
stops ds rest b p q = ap (λ k. take k (ds ++ b ∷ rest)) (solid_len ds rest b p q)
    ∙ take_at ds (b ∷ rest) (length ds) refl

pub one_word : (mode : LineMode) (d : ℕ) (ds rest : List ℕ) (b at : ℕ) → begins_word mode d ≡ true
    → next_mode mode d ≡ InWord → Solid (d ∷ ds) → is_blank b ≡ true
    → words_from mode at ((d ∷ ds) ++ b ∷ rest)
    ≡ record { at = at; text = d ∷ ds } ∷ words_from (behind b) (at + length (d ∷ ds) + 1) rest
one_word mode d ds rest b at starts goes p q =
    ap (λ x. cond x (record { at = at; text = word_of ((d ∷ ds) ++ b ∷ rest) } ∷ words_from (next_mode mode d)
    (at + 1) (ds ++ b ∷ rest)) (words_from (next_mode mode d) (at + 1) (ds ++ b ∷ rest))) starts
    ∙ (let t = stops (d ∷ ds) rest b p q in
    let w = ap (λ m. words_from m (at + 1) (ds ++ b ∷ rest)) goes ∙ through_word ds rest b (at + 1) p.1 q
    ∙ ap (λ k. words_from (behind b) k rest) (omega arith) in
    λ i. record { at = at; text = t i } ∷ w i)

-- a word of digits, with or without a sign, behind a blank or at the start of a line
pub begins : (mode : LineMode) (d : ℕ) → IsBetween mode → is_blank d ≡ false → (d == 99) ≡ false
    → begins_word mode d ≡ true
begins LineStart d o p q = ap (λ x. cond x false (not (is_blank d))) q ∙ ap not p
begins InLine d o p q = ap not p
begins InWord d o p q = absurd o
begins Comment d o p q = absurd o

goes : (mode : LineMode) (d : ℕ) → IsBetween mode → is_blank d ≡ false → (d == 99) ≡ false → next_mode mode d ≡ InWord
goes LineStart d o p q = ap (λ x. cond x Comment (behind d)) q ∙ inside d p
goes InLine d o p q = inside d p
goes InWord d o p q = absurd o
goes Comment d o p q = absurd o

not_c : (d : ℕ) → is_digit d ≡ true → (d == 99) ≡ false
not_c d h = let b = digit_bounds d h in ne_eqb d 99 (λ e. absurd (omega (arith, b.1, e)))

pub digits_word : (mode : LineMode) (ds rest : List ℕ) (b at : ℕ) → IsBetween mode → Digits ds → 0 < length ds
    → is_blank b ≡ true
    → words_from mode at (ds ++ b ∷ rest)
    ≡ record { at = at; text = ds } ∷ words_from (behind b) (at + length ds + 1) rest
digits_word mode [] rest b at o p l q = absurd (omega arith)
digits_word mode (d ∷ ds) rest b at o p l q =
    one_word mode d ds rest b at (begins mode d o (no_blank d p.0) (not_c d p.0))
    (goes mode d o (no_blank d p.0) (not_c d p.0)) (solid_digits (d ∷ ds) p) q

pub decimal_word : (mode : LineMode) (n : ℕ) (rest : List ℕ) (b at : ℕ) → IsBetween mode → n ≤ 2147483647
    → is_blank b ≡ true
    → words_from mode at (decimal n ++ b ∷ rest)
    ≡ record { at = at; text = decimal n } ∷ words_from (behind b) (at + length (decimal n) + 1) rest
decimal_word mode n rest b at o le q =
    let lt : n < 2 ^ 64 = omega arith in
    digits_word mode (decimal n) rest b at o (decimal_is n lt le).digits (decimal_nonempty n lt) q

pub negative_word : (mode : LineMode) (n : ℕ) (rest : List ℕ) (b at : ℕ) → IsBetween mode → n ≤ 2147483647
    → is_blank b ≡ true
    → words_from mode at ((45 ∷ decimal n) ++ b ∷ rest)
    ≡ record { at = at; text = 45 ∷ decimal n } ∷ words_from (behind b) (at + length (45 ∷ decimal n) + 1) rest
negative_word mode n rest b at o le q =
    let lt : n < 2 ^ 64 = omega arith in
    one_word mode 45 (decimal n) rest b at (begins mode 45 o refl refl) (goes mode 45 o refl refl)
    (refl, solid_digits (decimal n) (decimal_is n lt le).digits) q

lit_word_by : (s : Bool) (n : ℕ) (mode : LineMode) (rest : List ℕ) (at : ℕ) → IsBetween mode → n ≤ 2147483647
    → words_from mode at ((cond s (decimal n) (45 ∷ decimal n)) ++ 32 ∷ rest)
    ≡ record { at = at; text = cond s (decimal n) (45 ∷ decimal n) } ∷ words_from InLine
    (at + length (cond s (decimal n) (45 ∷ decimal n)) + 1) rest
lit_word_by true n mode rest at o le = decimal_word mode n rest 32 at o le refl
lit_word_by false n mode rest at o le = negative_word mode n rest 32 at o le refl

lit_number_by : (s : Bool) (n : ℕ) → 0 < n → n ≤ 2147483647
    → number_of (cond s (decimal n) (45 ∷ decimal n)) ≡ Some (record { negative = not s; value = n })
lit_number_by true n some le = number_of-decimal n le
lit_number_by false n some le = number_of-negative n some le

pub literal_word : (mode : LineMode) (n l : ℕ) (rest : List ℕ) (at : ℕ) → IsBetween mode → n ≤ 2147483647
    → IsLiteral n l
    → words_from mode at (literal_text l ++ 32 ∷ rest)
    ≡ record { at = at; text = literal_text l } ∷ words_from InLine (at + length (literal_text l) + 1) rest
literal_word mode n l rest at o le h = let small : variable_of l ≤ 2147483647 = omega (arith, h.1, le) in lit_word_by
    (is_positive l) (variable_of l) mode rest at o small

pub number_of-literal : (n l : ℕ) → n ≤ 2147483647 → IsLiteral n l
    → number_of (literal_text l) ≡ Some (record { negative = not (is_positive l); value = variable_of l })
number_of-literal n l le h = let small : variable_of l ≤ 2147483647 = omega (arith, h.1, le) in lit_number_by
    (is_positive l) (variable_of l) h.0 small

-- no number is above 2147483647
small_cond : (b : Bool) (x : Option ℕ) (k : ℕ) → cond b x None ≡ Some k → (b ≡ true) × (x ≡ Some k)
small_cond true x k h = (refl, h)
small_cond false x k h = absurd (cc)

digits_small : (ds : List ℕ) (n k : ℕ) → n ≤ 2147483647 → with_digits n ds ≡ Some k → k ≤ 2147483647
digits_small [] n k h e = let q : n ≡ k = cc in rw q at h
digits_small (d ∷ ds) n k h e =
    let c = small_cond (is_digit d && nat_le (n * 10 + (d - 48)) 2147483647) (with_digits (n * 10 + (d - 48)) ds) k e in
    let p = and_parts (is_digit d) (nat_le (n * 10 + (d - 48)) 2147483647) c.0 in
    digits_small ds (n * 10 + (d - 48)) k (leb-true (n * 10 + (d - 48)) 2147483647 p.1) c.1

value_small : (ds : List ℕ) (k : ℕ) → digits_value ds ≡ Some k → k ≤ 2147483647
value_small ds k e = digits_small ds 0 k (omega arith)
    (small_cond (nat_le 1 (length ds) && nat_le (length ds) 10) (with_digits 0 ds) k e).1

signed_small : (s : Bool) (o : Option ℕ) (n : Numeral) → ((k : ℕ) → o ≡ Some k → k ≤ 2147483647) → signed s o ≡ Some n
    → n.value ≤ 2147483647
signed_small s None n h e = absurd (cc)
signed_small s (Some k) n h e = at (s && (k == 0)) e
  where
    at : (b : Bool) → cond b None (Some (record { negative = s; value = k })) ≡ Some n → n.value ≤ 2147483647
    at true e = absurd (cc)
    at false e = let q : record { negative = s; value = k }
        ≡ n = cc in rw (ap (λ (m : Numeral). m.value) q) at (h k refl)

pub number_small : (text : List ℕ) (n : Numeral) → number_of text ≡ Some n → n.value ≤ 2147483647
number_small [] n e = absurd (cc)
number_small (b ∷ bytes) n e = at (b == 45) e
  where
    at : (c : Bool) → cond c (signed true (digits_value bytes)) (signed false (digits_value (b ∷ bytes))) ≡ Some n
        → n.value ≤ 2147483647
    at true e = signed_small true (digits_value bytes) n (value_small bytes) e
    at false e = signed_small false (digits_value (b ∷ bytes)) n (value_small (b ∷ bytes)) e

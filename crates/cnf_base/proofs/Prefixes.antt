-- A word in front of some bytes, and the number that it says.
use Rattle.std.proofs.Common.{◌≡◌, ℕ, zero, suc, ◌+◌, ◌-◌, ◌*◌, ◌<◌, ◌≤◌, Bool, true, false, List, [], ◌∷◌, Some}
use Rattle.std.proofs.Common.{None, length, take, drop, get_or, refl, sym, subst, ◌∙◌, ap, cond, arith}
use Rattle.std.specs.Prelude.{◌==◌, ◌&&◌, not, nat_le}
use Rattle.std.proofs.lemmas.Bool.{ne_eqb, eqb-true, le-leb, and_from}
use Rattle.std.proofs.lemmas.List.{length-take-le, drop-drop}
use Rattle.std.proofs.Math.Seq.{take-length}
use Rattle.std.proofs.lemmas.Grind.{common_steps}
use Rattle.cnf_base.specs.declared.text.LineMode.{LineMode}
use Rattle.cnf_base.specs.declared.text.LineMode.TheVariants.{LineStart, InLine, InWord}
use Rattle.cnf_base.specs.declared.text.Numeral.{Numeral}
use Rattle.base.specs.Bytes.{is_digit, is_blank}
use Rattle.cnf_base.specs.Modes.{behind, begins_word, word_of, words_from}
use Rattle.cnf_base.specs.Starts.{IsBetween, IsAtStart}
use Rattle.cnf_base.specs.Fronts.{word_len}
use Rattle.cnf_base.specs.Numerals.{with_digits, digits_value, signed, number_of}
use Rattle.cnf_base.proofs.Numbers.{no_blank, begins, digit_bounds}
use Rattle.cnf_base.proofs.Scanning.{first_word}

-- over one byte of a word
solid_len : (b : ℕ) (bs : List ℕ) → is_blank b ≡ false → word_len (b ∷ bs) ≡ 1 + word_len bs
solid_len b bs h = ap (λ x. cond (not x) (1 + word_len bs) 0) h

take_more : (k : ℕ) (b : ℕ) (bs : List ℕ) → take (1 + k) (b ∷ bs) ≡ b ∷ take k bs
take_more k b bs = grind (arith, common_steps)

solid_word : (b : ℕ) (bs : List ℕ) → is_blank b ≡ false → word_of (b ∷ bs) ≡ b ∷ word_of bs
solid_word b bs h = ap (λ k. take k (b ∷ bs)) (solid_len b bs h) ∙ take_more (word_len bs) b bs

pub one_solid : (d : ℕ) (bs : List ℕ) → is_digit d ≡ true → word_len (d ∷ bs) ≡ 1 + word_len bs
one_solid d bs h = solid_len d bs (no_blank d h)

pub one_digit : (n d : ℕ) (bs : List ℕ) → is_digit d ≡ true → n * 10 + (d - 48) ≤ 2147483647
    → with_digits n (word_of (d ∷ bs)) ≡ with_digits (n * 10 + (d - 48)) (word_of bs)
one_digit n d bs h le =
    let t = and_from (is_digit d) (nat_le (n * 10 + (d - 48)) 2147483647) h
    (le-leb (n * 10 + (d - 48)) 2147483647 le) in
    ap (with_digits n) (solid_word d bs (no_blank d h))
    ∙ ap (λ b. cond b (with_digits (n * 10 + (d - 48)) (word_of bs)) None) t

after_is : (d : ℕ) (bs : List ℕ) → take (length (d ∷ bs) - 1) (drop 1 (d ∷ bs)) ≡ bs
after_is d bs = let k : length (d ∷ bs) - 1 ≡ length bs = omega arith in ap (λ n. take n bs) k ∙ take-length bs

one_dropped : (k b : ℕ) (bs all : List ℕ) → b ∷ bs ≡ drop k all → bs ≡ drop (k + 1) all
one_dropped k b bs all e = ap (drop 1) e ∙ drop-drop 1 k all

-- how far a walk over digits is
pub record IsOver (bytes rest : List ℕ) (count value : ℕ) : Type 0 where
  pub rest_is : rest ≡ drop count bytes
  pub within : count + length rest ≡ length bytes
  pub len : count + word_len rest ≡ word_len bytes
  pub same : with_digits value (word_of rest) ≡ with_digits 0 (word_of bytes)
  pub small : value ≤ 2147483639

one_over : (bytes : List ℕ) (d : ℕ) (bs : List ℕ) (count value : ℕ) → IsOver bytes (d ∷ bs) count value
    → is_digit d ≡ true → value ≤ 214748363
    → IsOver bytes bs (count + 1) (value * 10 + (d - 48))
one_over bytes d bs count value o h le =
    let b = digit_bounds d h in
    let small : value * 10 + (d - 48) ≤ 2147483639 = omega (arith, b.0, b.1, le) in
    let fits : value * 10 + (d - 48) ≤ 2147483647 = omega (arith, small) in
    let within = o.within in
    let len = o.len in
    let one = one_solid d bs h in
    record {
      rest_is = one_dropped count d bs bytes o.rest_is;
      within = grind (arith, common_steps, within);
      len = omega (arith, len, one);
      same = sym (one_digit value d bs h fits) ∙ o.same;
      small = small;
    }

pub one_more : (bytes rest : List ℕ) (count value : ℕ) → IsOver bytes rest count value → 0 < length rest
    → is_digit (get_or rest 0 0) ≡ true → value ≤ 214748363
    → IsOver bytes (take (length rest - 1) (drop 1 rest)) (count + 1) (value * 10 + (get_or rest 0 0 - 48))
one_more bytes [] count value o p h le = absurd (omega arith)
one_more bytes (d ∷ bs) count value o p h le =
    subst (λ (l : List ℕ). IsOver bytes l (count + 1) (value * 10 + (d - 48))) (sym (after_is d bs))
    (one_over bytes d bs count value o h le)

-- behind a sign
pub negative_value : (bs : List ℕ) (n : ℕ) → digits_value (word_of bs) ≡ Some n → (n == 0) ≡ false
    → number_of (word_of (45 ∷ bs)) ≡ Some (record { negative = true; value = n })
negative_value bs n v z =
    ap number_of (solid_word 45 bs refl) ∙ ap (signed true) v
    ∙ ap (λ b. cond b None (Some (record { negative = true; value = n }))) z

-- the same of bytes whose first is the sign
pub negative_front : (bytes : List ℕ) (n : ℕ) → 0 < length bytes → get_or bytes 0 0 ≡ 45
    → digits_value (word_of (take (length bytes - 1) (drop 1 bytes))) ≡ Some n
    → (n ≡ 0 → ⊥) → number_of (word_of bytes) ≡ Some (record { negative = true; value = n })
negative_front [] n p e v z = absurd (omega arith)
negative_front (b ∷ bs) n p e v z =
    ap (λ (x : ℕ). number_of (word_of (x ∷ bs))) e
    ∙ negative_value bs n (ap (λ (l : List ℕ). digits_value (word_of l)) (sym (after_is b bs)) ∙ v) (ne_eqb n 0 z)

-- no number begins with 99, the letter of a comment
not_99 : (ds : List ℕ) (n : Numeral) → number_of (99 ∷ ds) ≡ Some n → ⊥
not_99 ds n e = at (nat_le 1 (length (99 ∷ ds)) && nat_le (length (99 ∷ ds)) 10) e
  where
    at : (c : Bool) → signed false (cond c None None) ≡ Some n → ⊥
    at true e = cc e
    at false e = cc e

between : (b : ℕ) → is_blank b ≡ true → IsBetween (behind b)
between b h = at (b == 10) (is_blank b) h
  where
    at : (c d : Bool) → d ≡ true → IsBetween (cond c LineStart (cond d InLine InWord))
    at true d e = tt
    at false true e = tt
    at false false e = absurd (cc)

-- A word behind a blank that ends a word is the next one.
pub next_is : (b at : ℕ) (bytes : List ℕ) (n : Numeral) → is_blank b ≡ true → 0 < word_len bytes
    → number_of (word_of bytes) ≡ Some n
    → words_from InWord at (b ∷ bytes) ≡ record { at = at + 1; text = word_of bytes } ∷ words_from InWord
    (at + 1 + word_len bytes) (drop (word_len bytes) bytes)
next_is b at bytes n e p v = first_word (behind b) (at + 1) bytes (starts bytes p v) p
  where
    starts : (bytes : List ℕ) → 0 < word_len bytes → number_of (word_of bytes) ≡ Some n → IsAtStart (behind b) bytes
    starts [] p v = tt
    starts (d ∷ ds) p v = by (is_blank d) refl (d == 99) refl
      where
        by : (x : Bool) → is_blank d ≡ x → (y : Bool) → (d == 99) ≡ y → begins_word (behind b) d ≡ true
        by true q y r = let z : word_len (d ∷ ds)
            ≡ 0 = ap (λ x. cond (not x) (1 + word_len ds) 0) q in absurd (omega (arith, z, p))
        by false q true r = absurd (not_99 (word_of ds) n
            (ap (λ (x : ℕ). number_of (x ∷ word_of ds)) (sym (eqb-true d 99 r))
            ∙ ap number_of (sym (solid_word d ds q)) ∙ v))
        by false q false r = begins (behind b) d (between b e) q r

abbrev tail : List ℕ → List ℕ
tail all = take (length all - 1) (drop 1 all)

pub next_behind : (mode : LineMode) (all : List ℕ) (at len : ℕ) (after : List ℕ) (n : Numeral) → mode ≡ InWord
    → 0 < length all → is_blank (get_or all 0 0) ≡ true
    → after ≡ drop len (tail all) → len ≡ word_len (tail all) → 0 < len → number_of (word_of (tail all)) ≡ Some n
    → words_from mode at all ≡ record { at = at + 1; text = word_of (tail all) } ∷ words_from mode (at + 1 + len) after
next_behind mode [] at len after n m p e a l s v = absurd (omega arith)
next_behind mode (b ∷ bs) at len after n m p e a l s v =
    let same : tail (b ∷ bs) ≡ bs = after_is b bs in
    let some : 0 < word_len (tail (b ∷ bs)) = omega (arith, l, s) in
    let next = next_is b at (tail (b ∷ bs)) n e some v in
    ap (λ (x : LineMode). words_from x at (b ∷ bs)) m
    ∙ ap (λ (xs : List ℕ). words_from InWord at (b ∷ xs)) (sym same)
    ∙ next
    ∙ (λ i. record { at = at + 1; text = word_of (tail (b ∷ bs)) } ∷ words_from (sym m i) (at + 1 + sym l i)
    ((ap (λ k. drop k (tail (b ∷ bs))) (sym l) ∙ sym a) i))

-- where the word ends behind its digits
pub whole_value : (bytes rest : List ℕ) (count value : ℕ) → count + word_len rest ≡ word_len bytes
    → count + length rest ≡ length bytes
    → with_digits value (word_of rest) ≡ with_digits 0 (word_of bytes) → word_len rest ≡ 0 → 0 < count → count ≤ 10
    → digits_value (word_of bytes) ≡ Some value
whole_value bytes rest count value l w v z p q =
    let len : count ≡ word_len bytes = omega (arith, l, z) in
    let within : word_len bytes ≤ length bytes = omega (arith, len, w) in
    let all : length (word_of bytes) ≡ word_len bytes = length-take-le (word_len bytes) bytes within in
    let t = and_from (nat_le 1 (length (word_of bytes))) (nat_le (length (word_of bytes)) 10)
    (le-leb 1 (length (word_of bytes)) (omega (arith, all, len, p)))
    (le-leb (length (word_of bytes)) 10 (omega (arith, all, len, q))) in
    ap (λ b. cond b (with_digits 0 (word_of bytes)) None) t ∙ sym v ∙ ap (λ k. with_digits value (take k rest)) z

-- digits alone are no sign
not_45 : (ds : List ℕ) (n : ℕ) → digits_value (45 ∷ ds) ≡ Some n → ⊥
not_45 ds n e = at (nat_le 1 (length (45 ∷ ds)) && nat_le (length (45 ∷ ds)) 10) e
  where
    at : (c : Bool) → cond c None None ≡ Some n → ⊥
    at true e = cc e
    at false e = cc e

unsigned_value : (ds : List ℕ) (n : ℕ) → digits_value ds ≡ Some n
    → number_of ds ≡ Some (record { negative = false; value = n })
unsigned_value [] n e = absurd (cc e)
unsigned_value (d ∷ ds) n e = by (d == 45) refl
  where
    by : (b : Bool) → (d == 45) ≡ b → number_of (d ∷ ds) ≡ Some (record { negative = false; value = n })
    by true q = absurd (not_45 ds n (ap (λ (x : ℕ). digits_value (x ∷ ds)) (sym (eqb-true d 45 q)) ∙ e))
    by false q = ap (λ b. cond b (signed true (digits_value ds)) (signed false (digits_value (d ∷ ds)))) q
        ∙ ap (signed false) e

-- no digits make 0
no_digits : (bytes rest : List ℕ) (value : ℕ) → rest ≡ drop 0 bytes → word_len rest ≡ 0
    → with_digits value (word_of rest) ≡ with_digits 0 (word_of bytes) → value ≡ 0
no_digits bytes rest value is z v =
    let nothing : word_of rest ≡ [] = ap (λ k. take k rest) z in
    let some : Some value ≡ Some 0 = sym (ap (with_digits value) nothing) ∙ v
    ∙ ap (λ (l : List ℕ). with_digits 0 (word_of l)) (sym is) ∙ ap (with_digits 0) nothing in
    cc some

-- The word behind a blank, where digits end it.
pub id_behind : (mode : LineMode) (all : List ℕ) (at len value : ℕ) (after : List ℕ) → mode ≡ InWord → 0 < length all
    → is_blank (get_or all 0 0) ≡ true
    → after ≡ drop len (tail all) → len + length after ≡ length (tail all) → len + word_len after ≡ word_len (tail all)
    → with_digits value (word_of after) ≡ with_digits 0 (word_of (tail all)) → word_len after ≡ 0 → len ≤ 10
    → (value ≡ 0 → ⊥)
    → (words_from mode at all ≡ record { at = at + 1; text = word_of (tail all) } ∷ words_from mode
    (at + 1 + len) after)
    × (number_of (word_of (tail all)) ≡ Some (record { negative = false; value = value }))
id_behind mode all at len value after m p e a w l v z q s =
    let some : 0 < len = positive len (λ none. s
    (no_digits (tail all) after value (subst (λ k. after ≡ drop k (tail all)) none a) z v)) in
    let number = unsigned_value (word_of (tail all)) value (whole_value (tail all) after len value l w v z some q) in (
      next_behind mode all at len after (record { negative = false; value = value }) m p e a
          (omega (arith, l, z)) some number,
      number,
    )
  where
    positive : (n : ℕ) → (n ≡ 0 → ⊥) → 0 < n
    positive zero h = absurd (h refl)
    positive (suc n) h = omega arith

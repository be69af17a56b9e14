-- Words and numbers are found where they stand in front, and nowhere else.
use Rattle.std.proofs.Common.{◌≡◌, ℕ, zero, suc, ◌+◌, ◌-◌, ◌*◌, ◌/◌, ◌%◌, ◌^◌, ◌<◌, ◌≤◌, Bool, true, false, List, []}
use Rattle.std.proofs.Common.{◌∷◌}
use Rattle.std.proofs.Common.{◌++◌, Option, Some, None, refl, sym, ◌∙◌, ap, cond, arith, append_assoc}
use Rattle.std.specs.Prelude.{◌==◌, not, nat_le, decimal, codes}
use Rattle.std.proofs.lemmas.Slice.Eq.{bytes_eq-Decides}
use Rattle.std.proofs.lemmas.Bool.{ne_eqb, eq-eqb, eqb-true, eqb-false, and_parts, leb-true, le-leb, and_from}
use Rattle.std.proofs.lemmas.Fmt.{decimal_by_steps, decimal_digit, decimal_step}
use Rattle.base.specs.Bytes.{is_digit}
use Rattle.line_scan.specs.Scanning.{behind, number_at, more_digits, most}
use Rattle.line_scan.specs.Laws.{ends_number, ScansAreExact}

same : (b : ℕ) → (b == b) ≡ true
same b = eq-eqb b b refl

-- what two found pairs have
abbrev number_in : Option (ℕ × List ℕ) → ℕ
number_in None = 0
number_in (Some p) = p.0

abbrev rest_in : Option (ℕ × List ℕ) → List ℕ
rest_in None = []
rest_in (Some p) = p.1

behind_there : (text rest : List ℕ) → behind text (text ++ rest) ≡ Some rest
behind_there [] rest = refl
behind_there (c ∷ cs) rest =
    ap (λ t. cond t (behind cs (cs ++ rest)) None) (same c) ∙ behind_there cs rest

behind_sound : (text bs rest : List ℕ) → behind text bs ≡ Some rest → bs ≡ text ++ rest
behind_sound [] bs rest e = cc e
behind_sound (c ∷ cs) [] rest e = cc e
behind_sound (c ∷ cs) (b ∷ bs) rest e = by (b == c) refl e (behind_sound cs bs rest)
  where
    by : (t : Bool) → (b == c) ≡ t → cond t (behind cs bs) None ≡ Some rest
        → (behind cs bs ≡ Some rest → bs ≡ cs ++ rest) → b ∷ bs ≡ c ∷ (cs ++ rest)
    by true is h more = let i : b ≡ c = eqb-true b c is in let m = more h in cc (i, m)
    by false is h more = cc h

a_digit : (r : ℕ) → r < 10 → is_digit (48 + r) ≡ true
a_digit r h = and_from (nat_le 48 (48 + r)) (nat_le (48 + r) 57) (le-leb 48 (48 + r) (omega arith))
    (le-leb (48 + r) 57 (omega arith))

digit_bounds : (d : ℕ) → is_digit d ≡ true → (48 ≤ d) × (d ≤ 57)
digit_bounds d h = let p = and_parts (nat_le 48 d) (nat_le d 57) h in (leb-true 48 d p.0, leb-true d 57 p.1)

-- a digit goes on
goes_on : (v r n : ℕ) (rest : List ℕ) → r < 10 → n ≡ v * 10 + r → n ≤ most
    → more_digits v ((48 + r) ∷ rest) ≡ more_digits n rest
goes_on v r n rest lt is le =
    let e : v * 10 + ((48 + r) - 48) ≡ n = omega (arith, is) in
    ap (λ t. cond t (cond (nat_le (v * 10 + ((48 + r) - 48)) most) (more_digits (v * 10 + ((48 + r) - 48)) rest) None)
    (Some (v, (48 + r) ∷ rest))) (a_digit r lt)
    ∙ ap (λ k. cond (nat_le k most) (more_digits k rest) None) e
    ∙ ap (λ t. cond t (more_digits n rest) None) (le-leb n most le)

first_digit : (n : ℕ) (rest : List ℕ) → n < 10 → 0 < n → number_at ((48 + n) ∷ rest) ≡ more_digits n rest
first_digit n rest lt some =
    let e : (48 + n) - 48 ≡ n = omega arith in
    ap (λ t. cond t (cond ((48 + n) == 48) (Some (0, rest)) (more_digits ((48 + n) - 48) rest)) None) (a_digit n lt)
    ∙ ap (λ t. cond t (Some (0, rest)) (more_digits ((48 + n) - 48) rest))
    (ne_eqb (48 + n) 48 (λ h. absurd (omega (arith, h))))
    ∙ ap (λ k. more_digits k rest) e

-- reading it leads to its value, in the middle of digits
abbrev IsRead : ℕ → List ℕ → Type 0
IsRead n ds = n ≤ most → 0 < n → (rest : List ℕ) → number_at (ds ++ rest) ≡ more_digits n rest

are_read : (n : ℕ) → n < 2 ^ 64 → IsRead n (decimal n)
are_read = decimal_by_steps IsRead
    (λ n lt le some rest. first_digit n rest lt some)
    (λ n ds ten front le some rest.
    let v : n ≡ n / 10 * 10 + n % 10 = omega arith in
    ap number_at (append_assoc ds ((48 + n % 10) ∷ []) rest)
    ∙ front (omega arith) (omega arith) ((48 + n % 10) ∷ rest)
    ∙ goes_on (n / 10) (n % 10) n rest (omega arith) v le)

stops : (n : ℕ) (rest : List ℕ) → ends_number rest ≡ true → more_digits n rest ≡ Some (n, rest)
stops n [] e = refl
stops n (b ∷ bs) e = by (is_digit b) e
  where
    by : (t : Bool) → not t ≡ true
        → cond t (cond (nat_le (n * 10 + (b - 48)) most) (more_digits (n * 10 + (b - 48)) bs) None) (Some (n, b ∷ bs))
        ≡ Some (n, b ∷ bs)
    by true h = cc h
    by false h = refl

zero_there : (rest : List ℕ) → number_at (decimal 0 ++ rest) ≡ Some (0, rest)
zero_there rest = ap (λ ds. number_at (ds ++ rest)) (decimal_digit 0 (omega arith))

positive : (n : ℕ) → (n ≡ 0 → ⊥) → 0 < n
positive zero h = absurd (h refl)
positive (suc n) h = omega arith

number_there : (n : ℕ) (rest : List ℕ) → n ≤ most → ends_number rest ≡ true
    → number_at (decimal n ++ rest) ≡ Some (n, rest)
number_there n rest le over = by (n == 0) refl
  where
    by : (t : Bool) → (n == 0) ≡ t → number_at (decimal n ++ rest) ≡ Some (n, rest)
    by true e = let z : n ≡ 0 = eqb-true n 0 e in rw z (zero_there rest)
    by false e = let some : 0 < n = positive n (eqb-false n 0 e) in
        are_read n (omega arith) le some rest ∙ stops n rest over

-- one digit more
longer : (v b n : ℕ) → 0 < v → 48 ≤ b → b ≤ 57 → n ≡ v * 10 + (b - 48) → n ≤ most → decimal n ≡ decimal v ++ b ∷ []
longer v b n some lo hi is le =
    let q : n / 10 ≡ v = omega (arith, is) in
    let r : 48 + n % 10 ≡ b = omega (arith, is) in
    decimal_step n (omega (arith, is)) (omega arith) ∙ ap (λ k. decimal k ++ (48 + n % 10) ∷ []) q
    ∙ ap (λ k. decimal v ++ k ∷ []) r

record IsNumber (v : ℕ) (bs : List ℕ) (n : ℕ) (rest : List ℕ) : Type 0 where
  text : decimal v ++ bs ≡ decimal n ++ rest
  small : n ≤ most

more_sound : (bs : List ℕ) (v n : ℕ) (rest : List ℕ) → more_digits v bs ≡ Some (n, rest) → 0 < v → v ≤ most
    → IsNumber v bs n rest
more_sound [] v n rest e some le =
    let i : v ≡ n = ap number_in e in let r : [] ≡ rest = ap rest_in e in
    record { text = ap (λ k. decimal k ++ []) i ∙ ap (λ l. decimal n ++ l) r; small = omega (arith, i) }
more_sound (b ∷ bs) v n rest e some le =
    by (is_digit b) (nat_le (v * 10 + (b - 48)) most) refl refl e (more_sound bs (v * 10 + (b - 48)) n rest)
  where
    by : (t u : Bool) → is_digit b ≡ t → nat_le (v * 10 + (b - 48)) most ≡ u
        → cond t (cond u (more_digits (v * 10 + (b - 48)) bs) None) (Some (v, b ∷ bs)) ≡ Some (n, rest)
        → (more_digits (v * 10 + (b - 48)) bs ≡ Some (n, rest) → 0 < v * 10 + (b - 48) → v * 10 + (b - 48) ≤ most
        → IsNumber (v * 10 + (b - 48)) bs n rest)
        → IsNumber v (b ∷ bs) n rest
    by false u is lim h more =
        let i : v ≡ n = ap number_in h in let r : b ∷ bs ≡ rest = ap rest_in h in
        record { text = ap (λ k. decimal k ++ b ∷ bs) i ∙ ap (λ l. decimal n ++ l) r; small = omega (arith, i) }
    by true false is lim h more = cc h
    by true true is lim h more =
        let d = digit_bounds b is in
        let l : v * 10 + (b - 48) ≤ most = leb-true (v * 10 + (b - 48)) most lim in
        let m = more h (omega arith) l in
        record {
          text = sym (append_assoc (decimal v) (b ∷ []) bs)
              ∙ ap (λ ds. ds ++ bs) (sym (longer v b (v * 10 + (b - 48)) some d.0 d.1 refl l)) ∙ m.text;
          small = m.small;
        }

above : (b : ℕ) → 48 ≤ b → (b ≡ 48 → ⊥) → 0 < b - 48
above b lo h = positive (b - 48) (λ e. h (omega (arith, e)))

number_sound : (bs : List ℕ) (n : ℕ) (rest : List ℕ) → number_at bs ≡ Some (n, rest)
    → (bs ≡ decimal n ++ rest) × (n ≤ most)
number_sound [] n rest e = cc e
number_sound (b ∷ bs) n rest e = by (is_digit b) (b == 48) refl refl e
  where
    by : (t u : Bool) → is_digit b ≡ t → (b == 48) ≡ u
        → cond t (cond u (Some (0, bs)) (more_digits (b - 48) bs)) None ≡ Some (n, rest)
        → (b ∷ bs ≡ decimal n ++ rest) × (n ≤ most)
    by false u is nought h = cc h
    by true true is nought h =
        let z : b ≡ 48 = eqb-true b 48 nought in
        let i : 0 ≡ n = ap number_in h in let r : bs ≡ rest = ap rest_in h in
        let d : decimal 0 ≡ 48 ∷ [] = decimal_digit 0 (omega arith) in (
          ap (λ k. k ∷ bs) z ∙ ap (λ l. l ++ bs) (sym d) ∙ ap (λ k. decimal k ++ bs) i ∙ ap (λ l. decimal n ++ l) r,
          omega (arith, i),
        )
    by true false is nought h =
        let d = digit_bounds b is in
        let some : 0 < b - 48 = above b d.0 (eqb-false b 48 nought) in
        let m = more_sound bs (b - 48) n rest h some (omega arith) in
        let e : 48 + (b - 48) ≡ b = omega (arith, d) in
        (ap (λ k. k ∷ bs) (sym e) ∙ ap (λ l. l ++ bs) (sym (decimal_digit (b - 48) (omega arith))) ∙ m.text, m.small)

pub exact : ScansAreExact
exact = record {
  behind_there = behind_there;
  behind_sound = behind_sound;
  number_there = number_there;
  number_sound = number_sound;
  end_there = refl;
  end_sound = λ bs e. (bytes_eq-Decides bs (codes "\n")).0 e;
}

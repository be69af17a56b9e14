-- A text and the lines that it is cut into.
use Rattle.std.proofs.Common.{◌≡◌, ℕ, suc, ◌+◌, ◌<◌, Bool, true, false, List, [], ◌∷◌, length, take, drop}
use Rattle.std.proofs.Common.{refl, ap, ◌∙◌, cond, arith}
use Rattle.std.specs.Prelude.{◌==◌}
use Rattle.std.proofs.lemmas.Bool.{ne_eqb}
use Rattle.line_scan.specs.Lines.{lines_of, onto, first_of, behind_first, first_length_of}

full : (b : ℕ) (ls : List (List ℕ)) → onto b ls ≡ [] → ⊥
full b [] e = cc e
full b (l ∷ ls) e = cc e

-- no lines, no bytes
pub no_lines : (bs : List ℕ) → lines_of bs ≡ [] → bs ≡ []
no_lines [] e = refl
no_lines (b ∷ bs) e = absurd (by (b == 10) e)
  where
    by : (t : Bool) → cond t ((b ∷ []) ∷ lines_of bs) (onto b (lines_of bs)) ≡ [] → ⊥
    by true f = cc f
    by false f = full b (lines_of bs) f

head_onto : (b : ℕ) (ls : List (List ℕ)) → b ∷ first_of ls ≡ first_of (onto b ls)
head_onto b [] = refl
head_onto b (l ∷ ls) = refl

tail_onto : (b : ℕ) (ls : List (List ℕ)) → behind_first ls ≡ behind_first (onto b ls)
tail_onto b [] = refl
tail_onto b (l ∷ ls) = refl

-- the first line is the front of the text
pub first_is : (bs : List ℕ) → take (first_length_of bs) bs ≡ first_of (lines_of bs)
first_is [] = refl
first_is (b ∷ bs) = by (b == 10) (first_is bs)
  where
    by : (t : Bool) → take (first_length_of bs) bs ≡ first_of (lines_of bs)
        → take (1 + cond t 0 (first_length_of bs)) (b ∷ bs)
        ≡ first_of (cond t ((b ∷ []) ∷ lines_of bs) (onto b (lines_of bs)))
    by true h = refl
    by false h = let e : 1 + first_length_of bs ≡ suc (first_length_of bs) = omega arith in
        rw e (ap (λ (l : List ℕ). b ∷ l) h ∙ head_onto b (lines_of bs))

-- the other lines are what stands behind it
pub rest_is : (bs : List ℕ) → lines_of (drop (first_length_of bs) bs) ≡ behind_first (lines_of bs)
rest_is [] = refl
rest_is (b ∷ bs) = by (b == 10) (rest_is bs)
  where
    by : (t : Bool) → lines_of (drop (first_length_of bs) bs) ≡ behind_first (lines_of bs)
        → lines_of (drop (1 + cond t 0 (first_length_of bs)) (b ∷ bs))
        ≡ behind_first (cond t ((b ∷ []) ∷ lines_of bs) (onto b (lines_of bs)))
    by true h = refl
    by false h = let e : 1 + first_length_of bs ≡ suc (first_length_of bs) = omega arith in
        rw e (h ∙ tail_onto b (lines_of bs))

pub some_first : (b : ℕ) (bs : List ℕ) → 0 < first_length_of (b ∷ bs)
some_first b bs = omega arith

count_onto : (b : ℕ) (ls : List (List ℕ)) → 1 + length (behind_first (onto b ls)) ≡ length (onto b ls)
count_onto b [] = refl
count_onto b (l ∷ ls) = omega arith

pub count_is : (b : ℕ) (bs : List ℕ) → 1 + length (behind_first (lines_of (b ∷ bs))) ≡ length (lines_of (b ∷ bs))
count_is b bs = by (b == 10)
  where
    by : (t : Bool) → 1 + length (behind_first (cond t ((b ∷ []) ∷ lines_of bs) (onto b (lines_of bs))))
        ≡ length (cond t ((b ∷ []) ∷ lines_of bs) (onto b (lines_of bs)))
    by true = omega arith
    by false = count_onto b (lines_of bs)

-- a text that is not empty has so many lines behind its first
pub one_more : (bs : List ℕ) → (length bs == 0) ≡ false → 1 + length (behind_first (lines_of bs)) ≡ length (lines_of bs)
one_more [] e = cc e
one_more (b ∷ bs) e = count_is b bs

pub back : (bs : List ℕ) → bs ≡ [] → lines_of bs ≡ []
back bs e = ap lines_of e

pub length_none : (bs : List ℕ) → (length bs == 0) ≡ true → bs ≡ []
length_none [] e = refl
length_none (b ∷ bs) e =
    let f : (length (b ∷ bs) == 0) ≡ false = ne_eqb (length (b ∷ bs)) 0 (λ h. absurd (omega (arith, h))) in cc (e, f)

pub none_length : (bs : List ℕ) → bs ≡ [] → (length bs == 0) ≡ true
none_length bs e = ap (λ (l : List ℕ). length l == 0) e

-- Behind two texts: behind the second, behind the first.
use Rattle.std.proofs.Common.{◌≡◌, ℕ, ◌-◌, ◌<◌, ◌≤◌, Bool, true, false, List, [], ◌∷◌, ◌++◌, length, take, drop, get_or}
use Rattle.std.proofs.Common.{Option, Some, None, refl, sym, ap, ◌∙◌, cond, arith}
use Rattle.std.specs.Prelude.{◌==◌, codes, decimal}
use Rattle.rml_report.specs.TableText.{more_text}
use Rattle.line_scan.specs.Scanning.{behind}
use Rattle.report_values.specs.ValueReading.{on}

pub behind_append : (xs ys bs : List ℕ) → behind (xs ++ ys) bs ≡ on (behind xs bs) (behind ys)
behind_append [] ys bs = refl
behind_append (x ∷ xs) ys [] = refl
behind_append (x ∷ xs) ys (b ∷ bs) = by (b == x) (behind_append xs ys bs)
  where
    by : (t : Bool) → behind (xs ++ ys) bs ≡ on (behind xs bs) (behind ys)
        → cond t (behind (xs ++ ys) bs) None ≡ on (cond t (behind xs bs) None) (behind ys)
    by true h = h
    by false h = refl

-- one more number of a tuple
pub more_step : (x : ℕ) (xs bs : List ℕ)
    → behind (more_text (x ∷ xs)) bs ≡ on (behind (codes "," ++ decimal x) bs) (behind (more_text xs))
unfolding more_text
more_step x xs bs = behind_append (codes "," ++ decimal x) (more_text xs) bs

pub more_turn : (x : ℕ) (xs bs next : List ℕ) (o : Option (List ℕ)) → o ≡ behind (codes "," ++ decimal x) bs
    → o ≡ Some next → behind (more_text (x ∷ xs)) bs ≡ behind (more_text xs) next
more_turn x xs bs next o is found =
    more_step x xs bs ∙ ap (λ p. on p (behind (more_text xs))) (sym is ∙ found)

pub more_stop : (x : ℕ) (xs bs : List ℕ) (o : Option (List ℕ)) → o ≡ behind (codes "," ++ decimal x) bs → o ≡ None
    → behind (more_text (x ∷ xs)) bs ≡ None
more_stop x xs bs o is missing = more_step x xs bs ∙ ap (λ p. on p (behind (more_text xs))) (sym is ∙ missing)

pub more_end : (xs bs : List ℕ) → length xs < 1 → Some bs ≡ behind (more_text xs) bs
unfolding more_text
more_end [] bs lt = refl
more_end (x ∷ xs) bs lt = absurd (omega (arith, lt))

take_length : {A : Type 0} (ys : List A) → take (length ys) ys ≡ ys
take_length [] = refl
take_length (y ∷ ys) = ap (λ l. y ∷ l) (take_length ys)

-- the first of a list, and the others
pub first_and_rest : {A : Type 0} (xs : List A) (d : A) → 1 ≤ length xs
    → xs ≡ get_or xs 0 d ∷ take (length xs - 1) (drop 1 xs)
first_and_rest [] d le = absurd (omega (arith, le))
first_and_rest (x ∷ xs) d le =
    let e : length (x ∷ xs) - 1 ≡ length xs = omega arith in
    ap (λ l. x ∷ l) (sym (ap (λ n. take n xs) e ∙ take_length xs))

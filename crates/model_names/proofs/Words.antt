-- The bytes of a token that is a name.
use Rattle.std.proofs.Common.{◌≡◌, ℕ, zero, suc, ◌+◌, ◌-◌, Bool, true, false, cond, Option, Some, None, List, [], ◌∷◌}
use Rattle.std.proofs.Common.{length, take, drop, refl, sym, ap, ◌∙◌, subst, arith, drop-drop}
use Rattle.std.specs.Prelude.{nat_lt, ◌||◌}
use Rattle.std.specs.List.{AllByRecursion, prefix_len}
use Rattle.base.specs.Bytes.{is_digit}
use Rattle.rml_lex.specs.Bytes.{is_letter, goes_on, gap_len}
use Rattle.rml_lex.specs.Spelling.{reserved, sign_at}
use Rattle.rml_lex.specs.Tokens.{front_of, word_front, number_front, sign_front, word_kind, word_of, Reads, AreTokens}
use Rattle.rml_lex.specs.declared.token.Token.{Token}
use Rattle.rml_lex.specs.declared.token.Kind.{Kind}
use Rattle.rml_lex.specs.declared.token.Kind.TheVariants as kind
use Rattle.rml_lex.specs.declared.token.Sign.{Sign}
use Rattle.rml_lex.specs.declared.token.Word.{Word}
use Rattle.rml_lex.specs.declared.token.Front.{Front}
use Rattle.rml_lex.specs.declared.token.Front.TheVariants as front
use Rattle.rml_lex.specs.declared.fault_code.FaultCode.TheVariants as fault_code
use Rattle.model_names.specs.ModelNames.{IsWord}

-- as many bytes as go on from the front do
all_go_on : (xs : List ℕ) → IsWord (take (prefix_len goes_on xs) xs)
all_go_on [] = tt
all_go_on (x ∷ xs) = by (goes_on x) refl (all_go_on xs)
  where
    by : (t : Bool) → goes_on x ≡ t → IsWord (take (prefix_len goes_on xs) xs)
        → IsWord (take (cond t (1 + prefix_len goes_on xs) 0) (x ∷ xs))
    by true is rest =
        let e : suc (prefix_len goes_on xs) ≡ 1 + prefix_len goes_on xs = omega arith in
        subst (λ (n : ℕ). IsWord (take n (x ∷ xs))) e (is, rest)
    by false is rest = tt

-- what the front says of a word
of_word : (bs : List ℕ) (n k : ℕ) (t : Bool) → cond t (front.Fault fault_code.LongName)
    (front.Token (word_kind (reserved (take n bs))) n)
    ≡ front.Token kind.Name k → k ≡ n
of_word bs n k true e = absurd (cc e)
of_word bs n k false e = cc e

no_number : (n k : ℕ) (t : Bool)
    → cond t (front.Fault fault_code.BadNumber) (front.Token kind.Number n) ≡ front.Token kind.Name k → ⊥
no_number n k true e = cc e
no_number n k false e = cc e

no_sign : (row : Option (List ℕ × Sign)) (k : ℕ) → sign_front row ≡ front.Token kind.Name k → ⊥
no_sign None k e = cc e
no_sign (Some row) k e = cc e

name_in_front : (bs : List ℕ) (k : ℕ) → front_of bs ≡ front.Token kind.Name k → IsWord (take k bs)
name_in_front [] k e = absurd (cc e)
name_in_front (b ∷ bs) k e = by (is_letter b) (is_digit b) e
  where
    by : (l d : Bool)
        → cond l (word_front (b ∷ bs) (prefix_len goes_on (b ∷ bs)))
        (cond d (number_front (prefix_len is_digit (b ∷ bs)) (prefix_len goes_on (b ∷ bs)))
        (sign_front (sign_at (b ∷ bs))))
        ≡ front.Token kind.Name k → IsWord (take k (b ∷ bs))
    by true d h =
        let n : k ≡ prefix_len goes_on (b ∷ bs) =
        of_word (b ∷ bs) (prefix_len goes_on (b ∷ bs)) k (nat_lt 64 (prefix_len goes_on (b ∷ bs))) h in
        subst (λ (i : ℕ). IsWord (take i (b ∷ bs))) (sym n) (all_go_on (b ∷ bs))
    by false true h =
        absurd (no_number (prefix_len is_digit (b ∷ bs)) k
        (nat_lt 9 (prefix_len is_digit (b ∷ bs)) || nat_lt (prefix_len is_digit (b ∷ bs))
        (prefix_len goes_on (b ∷ bs))) h)
    by false false h = absurd (no_sign (sign_at (b ∷ bs)) k h)

-- the token is no name, or a word of the text
abbrev pub NamesWord : List ℕ → Token → Type 0
NamesWord text t = t.kind ≡ kind.Name → IsWord (word_of text t)

read_words : (text : List ℕ) (tokens : List Token) (bs : List ℕ) (at : ℕ) (rest : List ℕ) (end : ℕ)
    → bs ≡ drop at text → Reads bs at tokens rest end → AllByRecursion (NamesWord text) tokens
read_words text [] bs at rest end is read = tt
read_words text (t ∷ tokens) bs at rest end is (n, token, start, stop, more) = (
  λ name.
      let here = name_in_front (drop (gap_len false bs) bs) n (token ∙ ap (λ k. front.Token k n) name) in
      let long : t.end - t.start ≡ n = omega (arith, stop) in
      let there : drop (gap_len false bs) bs ≡ drop t.start text =
      ap (drop (gap_len false bs)) is ∙ drop-drop (gap_len false bs) at text
      ∙ ap (λ (k : ℕ). drop k text) (sym start) in
      subst (λ (k : ℕ). IsWord (take k (drop t.start text))) (sym long) (subst (λ xs. IsWord (take n xs)) there here),
  read_words text tokens (drop n (drop (gap_len false bs) bs)) t.end rest end
      (ap (drop n) (ap (drop (gap_len false bs)) is ∙ drop-drop (gap_len false bs) at text
      ∙ ap (λ (k : ℕ). drop k text) (sym start)) ∙ drop-drop n t.start text ∙ ap (λ (k : ℕ). drop k text) (sym stop))
      more,
)

pub name_tokens_are_words : (text : List ℕ) (tokens : List Token) → AreTokens text tokens
    → AllByRecursion (NamesWord text) tokens
name_tokens_are_words text tokens are = read_words text tokens text 0 [] are.0 refl are.1

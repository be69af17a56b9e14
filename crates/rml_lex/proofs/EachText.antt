-- Each text has tokens or a first fault.
use Rattle.std.proofs.Common.{
  ◌≡◌,
  ℕ,
  zero,
  suc,
  ◌+◌,
  ◌<◌,
  ◌≤◌,
  ◌⊎◌,
  inl,
  inr,
  Bool,
  true,
  false,
  cond,
  List,
  [],
  ◌∷◌,
  length,
  length-drop,
  drop,
  Some,
  refl,
  rules,
  sym,
  arith,
}
use Rattle.std.specs.Prelude.{nat_lt, nat_eq, ◌||◌}
use Rattle.std.specs.List.{find, starts_with, prefix_len, AllByRecursion}
use Rattle.rml_lex.specs.declared.token.Token.{Token}
use Rattle.rml_lex.specs.declared.token.Kind.{Kind}
use Rattle.rml_lex.specs.declared.token.Sign.{Sign}
use Rattle.rml_lex.specs.declared.token.Fault.{Fault}
use Rattle.rml_lex.specs.declared.fault_code.FaultCode.{FaultCode}
use Rattle.rml_lex.specs.declared.token.Front.{Front}
use Rattle.rml_lex.specs.declared.token.Front.TheVariants as front
use Rattle.rml_lex.specs.Bytes.{is_letter, goes_on, gap_len}
use Rattle.base.specs.Bytes.{is_digit}
use Rattle.rml_lex.specs.Spelling.{signs}
use Rattle.rml_lex.specs.Tokens.{front_of, sign_front, Reads, AreTokens, IsFault}
use Rattle.rml_lex.proofs.Front.{nothing_left}

-- a token takes at least one byte
abbrev Takes : Front → Type 0
Takes (front.Token kind n) = 0 < n
Takes front.End = Unit {0}
Takes (front.Fault code) = Unit {0}

by_test : (b : Bool) (x y : Front) → (b ≡ true → Takes x) → (b ≡ false → Takes y) → Takes (cond b x y)
by_test true x y p q = p refl
by_test false x y p q = q refl

begins : (p : ℕ → Bool) (b : ℕ) (bytes : List ℕ) → p b ≡ true → 0 < prefix_len p (b ∷ bytes)
begins p b bytes is = rw is (omega arith)

letter_goes_on : (x y : Bool) → x ≡ true → (x || y) ≡ true
letter_goes_on true y is = refl
letter_goes_on false y is = cc is

digit_goes_on : (x y : Bool) → y ≡ true → (x || y) ≡ true
digit_goes_on true y is = refl
digit_goes_on false y is = is

found : (test : List ℕ × Sign → Bool) (rows : List (List ℕ × Sign))
    → AllByRecursion (λ row. 0 < length row.0) rows → Takes (sign_front (find test rows))
found test [] all = tt
found test (row ∷ rows) all = at (test row) (found test rows all.1)
  where
    at : (b : Bool) → Takes (sign_front (find test rows)) → Takes (sign_front (cond b (Some row) (find test rows)))
    at true later = all.0
    at false later = later

front_takes : (bytes : List ℕ) → Takes (front_of bytes)
front_takes [] = tt
front_takes (b ∷ bytes) =
    by_test (is_letter b) _ _
    (λ letter. by_test (nat_lt 64 (prefix_len goes_on (b ∷ bytes))) _ _ (λ long. tt)
    (λ short. begins goes_on b bytes (letter_goes_on (is_letter b) (is_digit b) letter)))
    (λ no_letter. by_test (is_digit b) _ _
    (λ digit. by_test
    (nat_lt 9 (prefix_len is_digit (b ∷ bytes))
    || nat_lt (prefix_len is_digit (b ∷ bytes)) (prefix_len goes_on (b ∷ bytes))) _ _
    (λ bad. tt) (λ good. begins is_digit b bytes digit))
    (λ no_digit. found (λ row. starts_with nat_eq (b ∷ bytes) row.0) signs (search rules depth 40)))

-- the bytes are all tokens
abbrev IsRead : List ℕ → ℕ → Type 0
IsRead bytes at = (tokens : List Token) × (end : ℕ) × Reads bytes at tokens [] end

-- behind tokens stands what is none
abbrev IsStopped : List ℕ → ℕ → Type 0
IsStopped bytes at =
    (tokens : List Token) × (rest : List ℕ) × (end : ℕ) × (code : FaultCode) × Reads bytes at tokens rest end
    × (front_of rest ≡ front.Fault code)

abbrev rest_of : List ℕ → List ℕ
rest_of bytes = drop (gap_len false bytes) bytes

takes : (bytes : List ℕ) (kind : Kind) (n : ℕ) → front_of bytes ≡ front.Token kind n → 0 < n
takes bytes kind n is = let taken = front_takes bytes in rw is at taken

some_left : (bytes : List ℕ) (kind : Kind) (n : ℕ) → front_of bytes ≡ front.Token kind n → 0 < length bytes
some_left [] kind n is = cc is
some_left (b ∷ bytes) kind n is = omega arith

turn : (bytes : List ℕ) (at : ℕ) (f : Front) → front_of (rest_of bytes) ≡ f
    → ((n : ℕ) → 0 < n → 0 < length (rest_of bytes) → (start : ℕ)
    → IsRead (drop n (rest_of bytes)) start ⊎ IsStopped (drop n (rest_of bytes)) start)
    → IsRead bytes at ⊎ IsStopped bytes at
turn bytes at front.End is more = inl ([], at + gap_len false bytes, (sym (nothing_left (rest_of bytes) is), refl))
turn bytes at (front.Fault code) is more =
    inr ([], rest_of bytes, at + gap_len false bytes, code, (refl, refl), is)
turn bytes at (front.Token kind n) is more =
    onward (more n (takes (rest_of bytes) kind n is) (some_left (rest_of bytes) kind n is) token.end)
  where
    token : Token
    token = record { kind = kind; start = at + gap_len false bytes; end = at + gap_len false bytes + n }

    onward : IsRead (drop n (rest_of bytes)) (at + gap_len false bytes + n)
        ⊎ IsStopped (drop n (rest_of bytes)) (at + gap_len false bytes + n) → IsRead bytes at ⊎ IsStopped bytes at
    onward (inl read) = inl (token ∷ read.0, read.1, (n, is, refl, refl, read.2))
    onward (inr stopped) =
        inr (token ∷ stopped.0, stopped.1, stopped.2, stopped.3, (n, is, refl, refl, stopped.4), stopped.5)

each_from : (fuel : ℕ) (bytes : List ℕ) (at : ℕ) → length bytes ≤ fuel → IsRead bytes at ⊎ IsStopped bytes at
each_from zero [] at within = inl ([], at + 0, (refl, refl))
each_from zero (b ∷ bytes) at within = absurd (omega arith)
each_from (suc fuel) bytes at within =
    turn bytes at (front_of (rest_of bytes)) refl
    (λ n some left start. each_from fuel (drop n (rest_of bytes)) start
    (omega (arith, length-drop n (rest_of bytes), length-drop (gap_len false bytes) bytes)))

pub each_text : (text : List ℕ)
    → ((tokens : List Token) × AreTokens text tokens) ⊎ ((fault : Fault) × IsFault text fault)
each_text text = of (each_from (length text) text 0 (omega arith))
  where
    of : IsRead text 0 ⊎ IsStopped text 0
        → ((tokens : List Token) × AreTokens text tokens) ⊎ ((fault : Fault) × IsFault text fault)
    of (inl read) = inl (read.0, (read.1, read.2))
    of (inr stopped) =
        inr (record { code = stopped.3; at = stopped.2 }, (stopped.0, stopped.1, stopped.4, stopped.5))

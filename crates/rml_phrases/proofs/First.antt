-- The first token, as the parser's patterns see it.
use Rattle.std.proofs.Common.{
  ◌≡◌,
  ◌+◌,
  ◌-◌,
  ◌≤◌,
  true,
  false,
  [],
  ◌∷◌,
  length,
  get_or,
  take,
  drop,
  Ok,
  refl,
  sym,
  ap,
  arith,
}
use Rattle.std.specs.Prelude.{◌==◌}
use Rattle.std.proofs.lemmas.Grind.{common_steps}
use Rattle.rml_lex.specs.declared.token.Kind.{Kind}
use Rattle.rml_lex.specs.declared.token.Token.{Token}
use Rattle.rml_phrases.specs.Language.{Tokens}
use Rattle.rml_phrases.specs.Reading.{number, begins, Follows, Unexpected, fails, expect_at}
use Rattle.rml_phrases.proofs.Exact.{same_kind}

rest_is : (us : Tokens) → take (length us + 1 - 1) us ≡ us
rest_is us = grind (arith, common_steps)

tail_is : (t : Token) (us : Tokens) → take (length (t ∷ us) - 1) (drop 1 (t ∷ us)) ≡ us
tail_is t us = grind (arith, common_steps)

pub first_same : (k : Kind) (ts : Tokens) (d : Token) → 1 ≤ length ts → (number k == number (get_or ts 0 d).kind)
    ≡ true → Follows k ts (take (length ts - 1) (drop 1 ts))
first_same k [] d le e = absurd (omega arith)
first_same k (t ∷ us) d le e = record {
  token = t;
  parts = ap (λ (r : Tokens). t ∷ r) (sym (tail_is t us));
  kind =
      sym (same_kind k t.kind e);
}

pub first_other : (k : Kind) (ts : Tokens) (d : Token) → (number k == number (get_or ts 0 d).kind) ≡ false
    → begins (k ∷ []) ts ≡ false
first_other k [] d e = refl
first_other k (t ∷ us) d e = rw e refl

pub terminal_same : (k : Kind) (ts : Tokens) (d : Token) → 1 ≤ length ts → (number k == number (get_or ts 0 d).kind)
    ≡ true → expect_at k ts ≡ Ok (get_or ts 0 d, take (length ts - 1) (drop 1 ts))
terminal_same k [] d le e = absurd (omega arith)
terminal_same k (t ∷ us) d le e = rw e (ap (λ (r : Tokens). Ok (t, r)) (sym (tail_is t us)))

pub terminal_other : (k : Kind) (ts : Tokens) (d : Token) → (number k == number (get_or ts 0 d).kind) ≡ false
    → expect_at k ts ≡ fails Unexpected ts
terminal_other k [] d e = refl
terminal_other k (t ∷ us) d e = rw e refl

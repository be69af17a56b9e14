use Rattle.std.proofs.Common.{◌≡◌, ℕ, ◌+◌, false, List, [], ◌++◌, drop, refl, subst, arith}
use Rattle.std.proofs.lemmas.List.{append-nil}
use Rattle.std.proofs.lemmas.Grind.{common_steps}
use Rattle.rml_lex.specs.declared.token.Token.{Token}
use Rattle.rml_lex.specs.declared.token.Front.TheVariants as front
use Rattle.rml_lex.specs.Bytes.{gap_len}
use Rattle.rml_lex.specs.Tokens.{Reads, front_of}
use Rattle.rml_lex.proofs.Front.{nothing_left}
use Rattle.rml_lex.proofs.lexer.lex.Goals as goal

-- what is read behind these tokens, where the rest is read and nothing of it is a token
closes : (text bytes : List ℕ) (at : ℕ) (tokens : List Token)
    → ((more : List Token) (rest : List ℕ) (end : ℕ) → Reads bytes at more rest end
    → Reads text 0 (tokens ++ more) rest end)
    → Reads text 0 tokens (drop (gap_len false bytes) bytes) (at + gap_len false bytes)
closes text bytes at tokens onward =
    subst (λ (ts : List Token). Reads text 0 ts (drop (gap_len false bytes) bytes) (at + gap_len false bytes))
    (append-nil tokens)
    (onward [] (drop (gap_len false bytes) bytes) (at + gap_len false bytes) (refl, refl))

pub returns-in-End-clause-tokens : goal.returns-in-End-clause-tokens
returns-in-End-clause-tokens c =
    let bytes = c.loop-tokens.rest.now in
    let whole = closes _ _ _ _ c.loop-tokens.invariant.onward in
    let is : front_of (drop (gap_len false bytes) bytes) ≡ front.End =
    grind (arith, common_steps, c.in-End.ensures.value) in (
      c.loop-tokens.at + gap_len false bytes,
      subst (λ (l : List ℕ). Reads c.args.text.now 0 c.loop-tokens.tokens.items l
          (c.loop-tokens.at + gap_len false bytes)) (nothing_left _ is) whole,
    )

pub returns-in-Fault-clause-fault : goal.returns-in-Fault-clause-fault
returns-in-Fault-clause-fault c =
    let bytes = c.loop-tokens.rest.now in
    let whole = closes _ _ _ _ c.loop-tokens.invariant.onward in
    let is : front_of (drop (gap_len false bytes) bytes) ≡ front.Fault c.in-Fault.code =
    grind (arith, common_steps, c.in-Fault.ensures.value) in
    (c.loop-tokens.tokens.items, drop (gap_len false bytes) bytes, rw c.gap_len-skipped.ensures.value whole, is)

-- Tokens that stand in a text.
use Rattle.std.proofs.Common.{ℕ, ◌≤◌, List, [], ◌∷◌, ◌++◌, arith}
use Rattle.std.specs.List.{AllByRecursion}
use Rattle.rml_lex.specs.declared.token.Token.{Token}
use Rattle.rml_lex.specs.Tokens.{EndsBy}
use Rattle.rml_phrases.proofs.Walk.{Rules}

pub parts : {A : Type 0} (P : A → Type 0) (u v : List A) → AllByRecursion P (u ++ v)
    → AllByRecursion P u × AllByRecursion P v
parts P [] v h = (tt, h)
parts P (x ∷ u) v h = let r = parts P u v h.1 in ((h.0, r.0), r.1)

module _ (n : ℕ) where
  abbrev pub rules : Rules
  rules = record {
    OfTokens = λ lo hi ts. AllByRecursion (EndsBy n) ts;
    OfPlace = λ lo at. at ≤ n;
    cut = λ lo hi u v h. let s = parts (EndsBy n) u v h in (lo, s.0, s.1);
    front = λ lo hi u v h. (parts (EndsBy n) u v h).0;
    back = λ lo hi u v h. (parts (EndsBy n) u v h).1;
    begin = λ lo hi t ts h. (omega (arith, h.0.0, h.0.1), h);
  }

  pub start_within : (t : Token) → AllByRecursion (EndsBy n) (t ∷ []) → t.start ≤ n
  start_within t h = omega (arith, h.0.0, h.0.1)

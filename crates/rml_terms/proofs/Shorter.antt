-- What reads a term takes a token.
use Rattle.std.proofs.Common.{◌≡◌, ℕ, ◌<◌, length, Ok}
use Rattle.rml_phrases.specs.Language.{Tokens}
use Rattle.rml_phrases.proofs.Loop.{shorter}
use Rattle.rml_terms.specs.declared.tree.Name.{Name}
use Rattle.rml_terms.specs.Tree.{ExprTree}
use Rattle.rml_terms.specs.Reading.{name_at, expr_at, unary_at, and_at, inners}
use Rattle.rml_terms.proofs.Grammar.{deeper, name_good, expr_good, unary_good, and_good}

pub name_shorter : (ts : Tokens) (z : Name × Tokens) → name_at ts ≡ Ok z → length z.1 < length ts
name_shorter = shorter _ _ _ _ name_good.exact

pub expr_shorter : (n : ℕ) (ts : Tokens) (z : ExprTree × Tokens) → expr_at (inners n) ts ≡ Ok z → length z.1 < length ts
expr_shorter n = shorter _ _ _ _ (expr_good _ _ _ _ (deeper n)).exact

pub unary_shorter : (n : ℕ) (ts : Tokens) (z : ExprTree × Tokens) → unary_at (inners n) ts ≡ Ok z
    → length z.1 < length ts
unary_shorter n = shorter _ _ _ _ (unary_good _ _ _ _ (deeper n)).exact

pub and_shorter : (n : ℕ) (ts : Tokens) (z : ExprTree × Tokens) → and_at (inners n) ts ≡ Ok z → length z.1 < length ts
and_shorter n = shorter _ _ _ _ (and_good _ _ _ _ (deeper n)).exact

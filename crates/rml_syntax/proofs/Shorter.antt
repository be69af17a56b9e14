-- What reads a parameter, a command or an item takes a token.
use Rattle.std.proofs.Common.{◌≡◌, ℕ, ◌<◌, List, length, Ok}
use Rattle.rml_phrases.specs.Language.{Tokens}
use Rattle.rml_phrases.proofs.Loop.{shorter}
use Rattle.rml_terms.specs.declared.tree.Binder.{Binder}
use Rattle.rml_terms.specs.Reading.{binder_at}
use Rattle.rml_terms.specs.Laws.{AreRead}
use Rattle.rml_syntax.specs.declared.tree.Format.{Format}
use Rattle.rml_syntax.specs.Tree.{CommandTree, ItemTree}
use Rattle.rml_syntax.specs.Reading.{inners, block_at, cmd_at, item_at}
use Rattle.rml_syntax.proofs.Grammar.{deeper, binder_good, block_good, cmd_good, item_good}

module _ (terms : AreRead) (n : ℕ) where
  pub cmd_shorter : (ts : Tokens) (z : CommandTree × Tokens) → cmd_at (inners n) ts ≡ Ok z → length z.1 < length ts
  cmd_shorter = shorter _ _ _ _ (cmd_good terms _ _ _ _ (deeper terms n)).exact

  pub block_shorter : (ts : Tokens) (z : List CommandTree × Tokens) → block_at (inners n) ts ≡ Ok z
      → length z.1 < length ts
  block_shorter = shorter _ _ _ _ (block_good terms _ _ _ _ (deeper terms n)).exact

  pub item_shorter : (f : Format) (ts : Tokens) (z : ItemTree × Tokens) → item_at f (inners n) ts ≡ Ok z
      → length z.1 < length ts
  item_shorter f = shorter _ _ _ _ (item_good terms _ _ _ _ (deeper terms n) f).exact

pub binder_shorter : (ts : Tokens) (z : Binder × Tokens) → binder_at ts ≡ Ok z → length z.1 < length ts
binder_shorter = shorter _ _ _ _ binder_good.exact

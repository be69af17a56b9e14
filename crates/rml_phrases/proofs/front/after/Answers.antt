use Rattle.std.proofs.Common.{sym, ◌∙◌}
use Rattle.rml_phrases.proofs.First.{first_same, first_other}
use Rattle.rml_phrases.proofs.front.after.Goals as goal

pub returns-then-is_one_kind : goal.returns-then-is_one_kind
returns-then-is_one_kind c =
    first_same c.args.kind c.args.tokens.now _ c.in-len1-up.len_at_least
    (sym c.is_one_kind.ensures ∙ c.if-is_one_kind.true)

pub returns-else-is_one_kind : goal.returns-else-is_one_kind
returns-else-is_one_kind c =
    first_other c.args.kind c.args.tokens.now _ (sym c.is_one_kind.ensures ∙ c.if-is_one_kind.false)

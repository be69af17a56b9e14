use Rattle.std.proofs.Common.{length}
use Rattle.rml_lex.specs.declared.token.Kind.TheVariants.{Sign}
use Rattle.rml_lex.specs.declared.token.Sign.TheVariants.{Comma}
use Rattle.rml_terms.specs.Reading.{binder_at}
use Rattle.rml_phrases.proofs.Loop.{Goes}
use Rattle.rml_syntax.proofs.items.more_binders.Given as goal

abbrev pub invariant-loop-next : goal.invariant-loop-next
invariant-loop-next l = Goes (Sign Comma) binder_at l.all.items l.fn.all.items l.rest l.fn.tokens

abbrev pub decreases-loop-next : goal.decreases-loop-next
decreases-loop-next l = length l.rest

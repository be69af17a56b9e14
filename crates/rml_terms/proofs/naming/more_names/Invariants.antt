use Rattle.std.proofs.Common.{length}
use Rattle.rml_lex.specs.declared.token.Kind.TheVariants.{Sign}
use Rattle.rml_lex.specs.declared.token.Sign.TheVariants.{Comma}
use Rattle.rml_terms.specs.Reading.{name_at}
use Rattle.rml_phrases.proofs.Loop.{Goes}
use Rattle.rml_terms.proofs.naming.more_names.Given as goal

abbrev pub invariant-loop-next : goal.invariant-loop-next
invariant-loop-next l = Goes (Sign Comma) name_at l.all.items l.fn.all.items l.rest l.fn.tokens

abbrev pub decreases-loop-next : goal.decreases-loop-next
decreases-loop-next l = length l.rest

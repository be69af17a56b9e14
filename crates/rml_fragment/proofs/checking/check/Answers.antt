use Rattle.std.proofs.Common.{inl, inr}
use Rattle.std.proofs.lemmas.Result.{on_ok_weaker}
use Rattle.rml_lex.specs.declared.token.Fault.{Fault}
use Rattle.rml_fragment.specs.Faults.{HasLongBlock}
use Rattle.rml_fragment.proofs.checking.check.Goals as goal

pub returns-in-Ok-clause-faultless : goal.returns-in-Ok-clause-faultless
returns-in-Ok-clause-faultless c =
    on_ok_weaker c.check_blocks.result
    (λ (short : (f : Fault) → HasLongBlock c.args.model f → ⊥) (f : Fault). elim [
      | inl first ↦ c.in-Ok.ensures.faultless f first.is_one
      | inr long ↦ short f long.1.is_one
    ])
    c.check_blocks.ensures.faultless

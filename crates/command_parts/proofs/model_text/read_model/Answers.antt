-- A text has one model or one fault.
use Rattle.std.proofs.Common.{ℕ, List, length}
use Rattle.base.specs.Because.{Because}
use Rattle.base.specs.declared.refused.Refused.{Refused}
use Rattle.base.specs.declared.refused.Refused.TheVariants.{For, NoMemory}
use Rattle.rml_lex.specs.Tokens.{StandsBy}
use Rattle.rml_lex.specs.declared.token.Fault.{Fault}
use Rattle.rml_front.specs.Texts.{IsFaultOf}
use Rattle.rml_front.specs.Laws.{AnswersAreUnique}
use Rattle.command_parts.specs.ModelTexts.{IsTheFault}
use Rattle.command_parts.proofs.model_text.read_model.Goals as goal

the_fault : AnswersAreUnique → (text : List ℕ) (refused : Refused Fault) → Because (IsFaultOf text) refused
    → Because (StandsBy (length text)) refused
    → Because (IsTheFault text) refused
the_fault unique text (For f) is place = record {
  is_fault = is;
  place = place;
  only_fault = λ g other. unique.fault text g f other is;
  no_model = λ m model. unique.not_both text m f model is;
}
the_fault unique text NoMemory is place = tt

pub returns-in-Ok-clause-model : goal.returns-in-Ok-clause-model
returns-in-Ok-clause-model c =
    let is = c.in-Ok.ensures.model in
    record {
      is_model = is;
      only_model = λ m other. c.text_law.ensures.model c.args.text.now m c.in-Ok.model other is;
      no_fault = λ f other. c.text_law.ensures.not_both c.args.text.now c.in-Ok.model f is other;
    }

pub returns-in-Err-clause-fault : goal.returns-in-Err-clause-fault
returns-in-Err-clause-fault c =
    the_fault c.text_law.ensures c.args.text.now c.in-Err.refused c.in-Err.ensures.fault c.in-Err.ensures.place

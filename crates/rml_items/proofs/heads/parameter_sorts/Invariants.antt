use Rattle.std.proofs.Common.{◌≡◌, ◌≤◌, ◌+◌, ◌++◌, drop, length}
use Rattle.rml_syntax.specs.Within.{BindersWithin}
use Rattle.rml_names.specs.Drafts.{words_in}
use Rattle.rml_items.specs.Items.{parameter_sorts}
use Rattle.rml_items.proofs.heads.parameter_sorts.Given as goal

abbrev pub invariant-loop-parameter : goal.invariant-loop-parameter
invariant-loop-parameter l = record {
  within : BindersWithin (length l.text) (drop l.parameter-index l.parameters);
  counted : length l.sorts ≡ l.parameter-index;
  few : length l.parameters ≤ 8;
  made : l.sorts ++ parameter_sorts l.text (words_in l.known) (drop l.parameter-index l.parameters)
      ≡ parameter_sorts l.text (words_in l.known) l.parameters;
}

use Rattle.std.proofs.Common.{◌≡◌, ◌<◌, drop, length}
use Rattle.rml_terms.specs.Within.{NamesWithin}
use Rattle.rml_sort_check.specs.Demands.{first_fault}
use Rattle.rml_names.specs.Growth.{with_elements}
use Rattle.rml_names.specs.Drafts.{words_in}
use Rattle.rml_names.specs.Sound.{IsSorted}
use Rattle.rml_items.specs.Items.{element_demands}
use Rattle.rml_items.proofs.heads.add_elements.Given as goal

abbrev pub invariant-loop-name : goal.invariant-loop-name
invariant-loop-name l = record {
  within : NamesWithin (length l.text) (drop l.name-index l.names);
  sound : IsSorted (words_in l.known);
  known : l.sort.0 < (words_in l.known).signature.sorts;
  demands : first_fault (element_demands l.text (words_in l.known) l.sort.0 (drop l.name-index l.names))
      ≡ first_fault (element_demands l.text (words_in l.fn.known) l.sort.0 l.names);
  made : with_elements l.text (words_in l.known) l.sort.0 (drop l.name-index l.names)
      ≡ with_elements l.text (words_in l.fn.known) l.sort.0 l.names;
}

use Rattle.std.proofs.Common.{◌≡◌, ◌≤◌, ◌++◌, drop, length, map}
use Rattle.fol_sig.specs.Tables.{AreSorts}
use Rattle.rml_terms.specs.Within.{NamesWithin}
use Rattle.rml_names.specs.Meanings.{sort_number}
use Rattle.rml_sort_check.specs.Demands.{first_fault}
use Rattle.rml_items.specs.Items.{sort_demands}
use Rattle.rml_names.specs.Drafts.{words_in}
use Rattle.rml_items.proofs.heads.argument_sorts.Given as goal

abbrev pub invariant-loop-name : goal.invariant-loop-name
invariant-loop-name l = record {
  within : NamesWithin (length l.text) (drop l.name-index l.names);
  demands : first_fault (sort_demands l.text (words_in l.known) (length l.sorts) (drop l.name-index l.names))
      ≡ first_fault (sort_demands l.text (words_in l.known) 0 l.names);
  made : l.sorts ++ map (sort_number l.text (words_in l.known)) (drop l.name-index l.names)
      ≡ map (sort_number l.text (words_in l.known)) l.names;
  known : AreSorts (words_in l.known).signature.sorts l.sorts;
  few : length l.sorts ≤ 8;
}

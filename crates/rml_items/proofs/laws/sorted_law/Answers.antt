use Rattle.rml_items.proofs.Sorted.{words_sorted}
use Rattle.rml_items.proofs.laws.sorted_law.Goals as goal

pub returns : goal.returns
returns c = words_sorted

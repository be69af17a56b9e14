use Rattle.rml_front.proofs.Unique.{answers_are_unique}
use Rattle.rml_front.proofs.laws.text_law.Goals as goal

pub returns : goal.returns
returns c = answers_are_unique (record {
  some_tokens = c.one_reading.ensures.some;
  one_tokens = c.one_reading.ensures.tokens;
  tokens_or_fault = c.one_reading.ensures.not_both;
  one_byte_fault = c.one_reading.ensures.fault;
  some_tree = c.one_tree_or_fault.ensures.some;
  one_tree = c.one_tree_or_fault.ensures.tree;
  one_grammar_fault = c.one_tree_or_fault.ensures.fault;
  tree_or_fault = c.one_tree_or_fault.ensures.not_both;
  some_fragment_fault = c.fault_law.ensures.some;
  one_fragment_fault = c.fault_law.ensures.one;
})

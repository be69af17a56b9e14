use Rattle.std.proofs.Common.{◌≡◌, ◌<◌, get_or, length, sym, subst, ◌∙◌, arith}
use Rattle.rml_terms.specs.declared.tree.Name.{Name}
use Rattle.rml_names.specs.Vocabulary.{Vocabulary}
use Rattle.rml_names.specs.Meanings.{bytes_of, is_symbol}
use Rattle.rml_names.specs.Growth.{with_element, with_elements}
use Rattle.rml_names.specs.Drafts.{words_in}
use Rattle.rml_names.specs.Sound.{IsSorted}
use Rattle.rml_sort_check.specs.Demands.{first_fault}
use Rattle.rml_items.specs.Items.{element_demands}
use Rattle.rml_items.proofs.SortLists.{read_again, names_left, element_refused, element_turn, elements_made}
use Rattle.rml_items.proofs.Sorted.{declared_few_alone, element_sorted}
use Rattle.rml_items.proofs.heads.add_elements.Goals as goal

pub returns-in-Some : goal.returns-in-Some
returns-in-Some c =
    let xs = c.args.names.now in
    let i = c.loop-name.name-index in
    let x : Name = get_or xs i (record { start = 0; end = 0 }) in
    let lt = c.loop-name-test.true in
    let is : x ≡ get_or xs i x = read_again xs i (record { start = 0; end = 0 }) lt in
    element_refused c.args.text.now c.args.sort.0 xs i x lt is (words_in c.loop-name.known) _ c.in-Some.fault
    (sym c.symbol_fault.ensures ∙ c.in-Some.is) c.loop-name.invariant.demands

pub loop-name-preserved : goal.loop-name-preserved
loop-name-preserved c =
    let text = c.args.text.now in
    let xs = c.args.names.now in
    let i = c.loop-name.name-index in
    let x : Name = get_or xs i (record { start = 0; end = 0 }) in
    let lt = c.loop-name-test.true in
    let is : x ≡ get_or xs i x = read_again xs i (record { start = 0; end = 0 }) lt in
    let v = words_in c.loop-name.known in
    let next = words_in c.add_element.new.self in
    let same : next ≡ with_element text v c.args.sort.0 x = c.in_ok-add_element.ensures in
    let met = sym c.symbol_fault.ensures ∙ c.in_default.is in
    let few = declared_few_alone text v (is_symbol v (bytes_of text x)) x met in
    record {
      within = names_left (length text) xs i x lt is c.loop-name.invariant.within;
      sound = subst IsSorted (sym same)
          (element_sorted text v c.args.sort.0 x c.loop-name.invariant.sound few c.loop-name.invariant.known);
      known = subst (λ (w : Vocabulary). c.args.sort.0 < w.signature.sorts) (sym same) c.loop-name.invariant.known;
      demands = element_turn text c.args.sort.0 xs i x lt is v next _ same met c.loop-name.invariant.demands;
      made = elements_made text c.args.sort.0 xs i x lt is v next _ same c.loop-name.invariant.made;
    }

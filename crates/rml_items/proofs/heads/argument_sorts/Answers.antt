use Rattle.std.proofs.Common.{◌≡◌, ℕ, ◌+◌, ◌<◌, ◌++◌, ◌∷◌, [], true, suc, nat_lt, length, map, get_or, refl, ap, ◌∙◌}
use Rattle.std.proofs.Common.{arith, length-append}
use Rattle.std.proofs.lemmas.Bool.Decides.{nat_tests}
use Rattle.base.proofs.Lists.{list_turn}
use Rattle.rml_terms.specs.declared.tree.Name.{Name}
use Rattle.rml_names.specs.Meanings.{sort_number}
use Rattle.rml_names.specs.Drafts.{words_in}
use Rattle.rml_items.proofs.SortLists.{read_again, names_left, sort_turn, sort_more, as_many}
use Rattle.rml_items.proofs.heads.argument_sorts.Goals as goal

pub loop-name-preserved : goal.loop-name-preserved
loop-name-preserved c =
    let m = words_in c.args.known.now in
    let text = c.args.text.now in
    let xs = c.args.names.now in
    let i = c.loop-name.name-index in
    let x : Name = get_or xs i (record { start = 0; end = 0 }) in
    let lt = c.loop-name-test.true in
    let is : x ≡ get_or xs i x = read_again xs i (record { start = 0; end = 0 }) lt in
    let old = c.loop-name.sorts in
    let new = c.push.new.self in
    let k = c.in_ok-sort.sort.0 in
    let below : length old < 8 =
    omega (arith, c.if-as_slice-ge-MAX_ARGUMENTS.false, as_many c.as_slice.result.now old c.as_slice.ensures.value) in
    let longer : length new ≡ length old + 1 = omega (arith, ap length c.push.ensures, length-append old (k ∷ [])) in
    let next : length new ≡ suc (length old) = omega (arith, longer) in
    let few : nat_lt (length old) 8 ≡ true = grind (arith, nat_tests, below) in
    record {
      within = names_left (length text) xs i x lt is c.loop-name.invariant.within;
      demands = sort_turn text m (length old) (length new) xs i x lt is c.loop-name.invariant.demands
          c.in_ok-sort.ensures.sort.1 few next;
      made = list_turn (λ ns. map (sort_number text m) ns) (λ n. sort_number text m n ∷ []) xs i x old new
          (map (sort_number text m) xs) refl lt is
          (c.push.ensures ∙ ap (λ (j : ℕ). old ++ j ∷ []) c.in_ok-sort.ensures.sort.0) c.loop-name.invariant.made;
      known = sort_more m.signature.sorts old new k c.push.ensures c.loop-name.invariant.known
          c.in_ok-sort.ensures.known;
      few = omega (arith, longer, below);
    }

use Rattle.std.proofs.Common.{◌≡◌, ◌++◌, [], Option, Some, None, length, refl, sym, subst, ◌∙◌, arith}
use Rattle.rml_lex.specs.declared.token.Fault.{Fault}
use Rattle.rml_terms.specs.Tree.{expr_tree}
use Rattle.rml_syntax.specs.Tree.{command_tree}
use Rattle.rml_syntax.specs.Shape.{CommandNests, BlockNests, BlocksNest}
use Rattle.rml_syntax.specs.Within.{CommandWithin, BlockWithin, BlocksWithin}
use Rattle.rml_names.specs.Drafts.{words_in}
use Rattle.rml_sort_check.specs.declared.wanted.Wanted.TheVariants.{Formula}
use Rattle.rml_sort_check.specs.Demands.{first_fault, demands, command_demands, block_demands, blocks_demands}
use Rattle.rml_sort_check.specs.Firsts.{first_left, first_right}
use Rattle.rml_items.specs.Walking.{tree_of, trees_of, rest_nests, rest_within, rest_blocks_nest, rest_blocks_within}
use Rattle.rml_items.specs.Walking.{front_nests, front_within, front_block_nests, front_block_within, choice_given}
use Rattle.rml_items.specs.Walking.{branches_nest, of_if, of_choice, element_met, element_stops, all_met}
use Rattle.rml_items.specs.Walking.{element_smaller, choice_smaller}
use Rattle.rml_terms.specs.Shape.{max_nesting}
use Rattle.rml_items.proofs.blocks.+judging.Goals as goal

pub block_fault-command_fault-requires : goal.block_fault-command_fault-requires
block_fault-command_fault-requires t c =
    let xs = c.args.commands.now in
    let i = c.loop-c.c-index in
    let x = c.c-item.result in (
      omega (arith, c.decreases, element_smaller xs i x c.loop-c-test.true c.c-item.is),
      (
        front_nests max_nesting xs i x c.loop-c-test.true c.c-item.is c.loop-c.invariant.nests,
        (
          front_within (length c.args.text.now) xs i x c.loop-c-test.true c.c-item.is c.loop-c.invariant.within,
          c.requires.sound,
        ),
      ),
    )

pub block_fault-returns-in-Some : goal.block_fault-returns-in-Some
block_fault-returns-in-Some t c =
    let text = c.args.text.now in
    let v = words_in c.args.known.now in
    element_stops (λ cs. block_demands text v c.args.format (tree_of cs))
    (λ x. command_demands text v c.args.format (command_tree x)) (λ x cs. refl) c.args.commands.now c.loop-c.c-index
    c.c-item.result c.in-Some.fault c.loop-c-test.true c.c-item.is c.loop-c.invariant.left
    (sym c.command_fault.ensures ∙ c.in-Some.is)

pub block_fault-loop-c-preserved : goal.block_fault-loop-c-preserved
block_fault-loop-c-preserved t c =
    let text = c.args.text.now in
    let v = words_in c.args.known.now in
    let xs = c.args.commands.now in
    let i = c.loop-c.c-index in
    let x = c.c-item.result in
    let lt = c.loop-c-test.true in
    let is = c.c-item.is in
    record {
      nests = rest_nests max_nesting xs i x lt is c.loop-c.invariant.nests;
      within = rest_within (length text) xs i x lt is c.loop-c.invariant.within;
      left = element_met (λ cs. block_demands text v c.args.format (tree_of cs))
          (λ y. command_demands text v c.args.format (command_tree y)) (λ y cs. refl) xs i x lt is
          c.loop-c.invariant.left (sym c.command_fault.ensures ∙ c.in_default.is);
    }

-- ---- `if`

pub command_fault-returns-in-Some : goal.command_fault-returns-in-Some
command_fault-returns-in-Some t c =
    let text = c.args.text.now in
    let v = words_in c.args.known.now in
    let i = c.in-If in
    let de = demands text v [] Formula (expr_tree i.e) in
    let da = block_demands text v c.args.format (tree_of i.a.items) in
    let db = block_demands text v c.args.format (tree_of i.b.items) in
    of_if (λ s. Some c.in-Some.fault ≡ first_fault (command_demands text v c.args.format s)) c.args.c.now i.field-0 i.e
    i.a i.b i.is
    (sym (first_left de (da ++ db) c.in-Some.fault (sym c.sentence_fault-in-If.ensures ∙ c.in-Some.is)))

pub command_fault-returns-in-Some-block_fault : goal.command_fault-returns-in-Some-block_fault
command_fault-returns-in-Some-block_fault t c =
    let text = c.args.text.now in
    let v = words_in c.args.known.now in
    let i = c.in-If in
    let f = c.in-Some-block_fault.fault in
    let de = demands text v [] Formula (expr_tree i.e) in
    let da = block_demands text v c.args.format (tree_of i.a.items) in
    let db = block_demands text v c.args.format (tree_of i.b.items) in
    let found = subst (λ cs. first_fault (block_demands text v c.args.format (tree_of cs)) ≡ Some f)
    c.deref.ensures.value (sym c.block_fault.ensures ∙ c.in-Some-block_fault.is) in
    of_if (λ s. Some f ≡ first_fault (command_demands text v c.args.format s)) c.args.c.now i.field-0 i.e i.a i.b i.is
    (sym (first_right de (da ++ db) (sym c.sentence_fault-in-If.ensures ∙ c.in_default.is)
    ∙ first_left da db f found))

pub command_fault-returns-in_default-block_fault : goal.command_fault-returns-in_default-block_fault
command_fault-returns-in_default-block_fault t c =
    let text = c.args.text.now in
    let v = words_in c.args.known.now in
    let i = c.in-If in
    let r = c.block_fault-in-If.result in
    let de = demands text v [] Formula (expr_tree i.e) in
    let da = block_demands text v c.args.format (tree_of i.a.items) in
    let db = block_demands text v c.args.format (tree_of i.b.items) in
    let none = subst (λ cs. first_fault (block_demands text v c.args.format (tree_of cs)) ≡ None)
    c.deref.ensures.value (sym c.block_fault.ensures ∙ c.in_default-block_fault.is) in
    let last = subst (λ cs. r ≡ first_fault (block_demands text v c.args.format (tree_of cs)))
    c.deref-in-If.ensures.value c.block_fault-in-If.ensures in
    of_if (λ s. r ≡ first_fault (command_demands text v c.args.format s)) c.args.c.now i.field-0 i.e i.a i.b i.is
    (last ∙ sym (first_right da db none)
    ∙ sym (first_right de (da ++ db) (sym c.sentence_fault-in-If.ensures ∙ c.in_default.is)))

-- ---- `choose`

pub command_fault-loop-b-init : goal.command_fault-loop-b-init
command_fault-loop-b-init t c =
    let at = c.in-Choose.field-0 in
    let all = c.in-Choose.all in
    let xs = c.deref-b-items.result.now in
    let within = choice_given (CommandWithin (length c.args.text.now)) c.args.c.now at all xs c.in-Choose.is
    c.deref-b-items.ensures.value c.requires.within in
    record {
      nests = branches_nest max_nesting at (trees_of xs)
          (choice_given (CommandNests max_nesting) c.args.c.now at all xs c.in-Choose.is c.deref-b-items.ensures.value
          c.requires.nests);
      within = within.1;
      left = refl;
    }

pub command_fault-block_fault-requires-in-loop-b : goal.command_fault-block_fault-requires-in-loop-b
command_fault-block_fault-requires-in-loop-b t c =
    let xs = c.deref-b-items.result.now in
    let i = c.loop-b.b-index in
    let x = c.b-item.result in
    let nests = front_block_nests max_nesting xs i x c.loop-b-test.true c.b-item.is c.loop-b.invariant.nests in
    let within = front_block_within (length c.args.text.now) xs i x c.loop-b-test.true c.b-item.is
    c.loop-b.invariant.within in (
      omega (
        arith,
        c.decreases,
        choice_smaller c.args.c.now c.in-Choose.field-0 c.in-Choose.all xs i x
            c.deref-in-loop-b.result.now c.in-Choose.is c.deref-b-items.ensures.value c.loop-b-test.true c.b-item.is
            c.deref-in-loop-b.ensures.value,
      ),
      (
        subst (λ cs. BlockNests max_nesting (tree_of cs)) (sym c.deref-in-loop-b.ensures.value) nests,
        (
          subst (λ cs. BlockWithin (length c.args.text.now) (tree_of cs)) (sym c.deref-in-loop-b.ensures.value) within,
          c.requires.sound,
        ),
      ),
    )

pub command_fault-returns-in-Some-block_fault-2 : goal.command_fault-returns-in-Some-block_fault-2
command_fault-returns-in-Some-block_fault-2 t c =
    let text = c.args.text.now in
    let v = words_in c.args.known.now in
    let xs = c.deref-b-items.result.now in
    let f = c.in-Some-block_fault-2.fault in
    let found = subst (λ cs. first_fault (block_demands text v c.args.format (tree_of cs)) ≡ Some f)
    c.deref-in-loop-b.ensures.value (sym c.block_fault-in-loop-b.ensures ∙ c.in-Some-block_fault-2.is) in
    of_choice (λ s. Some f ≡ first_fault (command_demands text v c.args.format s)) c.args.c.now c.in-Choose.field-0
    c.in-Choose.all c.in-Choose.is
    (subst (λ bs. Some f ≡ first_fault (blocks_demands text v c.args.format (trees_of bs)))
    c.deref-b-items.ensures.value
    (element_stops (λ bs. blocks_demands text v c.args.format (trees_of bs))
    (λ b. block_demands text v c.args.format (tree_of b.items)) (λ b bs. refl) xs c.loop-b.b-index c.b-item.result f
    c.loop-b-test.true c.b-item.is c.loop-b.invariant.left found))

pub command_fault-loop-b-preserved : goal.command_fault-loop-b-preserved
command_fault-loop-b-preserved t c =
    let text = c.args.text.now in
    let v = words_in c.args.known.now in
    let xs = c.deref-b-items.result.now in
    let i = c.loop-b.b-index in
    let x = c.b-item.result in
    let lt = c.loop-b-test.true in
    let is = c.b-item.is in
    let none = subst (λ cs. first_fault (block_demands text v c.args.format (tree_of cs)) ≡ None)
    c.deref-in-loop-b.ensures.value (sym c.block_fault-in-loop-b.ensures ∙ c.in_default-block_fault-2.is) in
    record {
      nests = rest_blocks_nest max_nesting xs i x lt is c.loop-b.invariant.nests;
      within = rest_blocks_within (length text) xs i x lt is c.loop-b.invariant.within;
      left = element_met (λ bs. blocks_demands text v c.args.format (trees_of bs))
          (λ b. block_demands text v c.args.format (tree_of b.items)) (λ b bs. refl) xs i x lt is
          c.loop-b.invariant.left none;
    }

pub command_fault-returns-after-loop-b : goal.command_fault-returns-after-loop-b
command_fault-returns-after-loop-b t c =
    let text = c.args.text.now in
    let v = words_in c.args.known.now in
    let xs = c.deref-b-items.result.now in
    let met = all_met (λ bs. blocks_demands text v c.args.format (trees_of bs))
    (λ b. block_demands text v c.args.format (tree_of b.items)) (λ b bs. refl) xs c.loop-b.b-index refl
    c.loop-b-test.false c.loop-b.invariant.left in
    of_choice (λ s. None ≡ first_fault (command_demands text v c.args.format s)) c.args.c.now c.in-Choose.field-0
    c.in-Choose.all c.in-Choose.is
    (subst (λ bs. None ≡ first_fault (blocks_demands text v c.args.format (trees_of bs)))
    c.deref-b-items.ensures.value (sym met))

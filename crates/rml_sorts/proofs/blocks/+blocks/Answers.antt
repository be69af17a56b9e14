use Rattle.std.proofs.Common.{arith, ◌≡◌, ◌++◌, ◌∷◌, [], None, length, map, refl, sym, subst, ap, ◌∙◌}
use Rattle.base.proofs.Lists.{list_turn, list_end}
use Rattle.rml_terms.specs.Tree.{expr_tree}
use Rattle.rml_syntax.specs.Tree.{command_tree}
use Rattle.rml_syntax.specs.Shape.{CommandNests, BlockNests}
use Rattle.rml_syntax.specs.Within.{CommandWithin, BlockWithin}
use Rattle.rml_command.specs.Trees.{choose, seq}
use Rattle.rml_command.specs.Trees as trees
use Rattle.rml_command.specs.View.{command, commands}
use Rattle.rml_names.specs.Drafts.{draft_in}
use Rattle.rml_sort_check.specs.declared.wanted.Wanted.TheVariants as wanted
use Rattle.rml_sort_check.specs.Demands.{first_fault, demands, command_demands, block_demands, blocks_demands}
use Rattle.rml_sort_check.specs.Firsts.{met_left, met_right}
use Rattle.rml_elaborate.specs.Formulas.{formula_of}
use Rattle.rml_elaborate.specs.Sizes.{large_use_in_formula}
use Rattle.rml_items.specs.Answered.{Refuses, at_err, refuses_left, refuses_right, both_met}
use Rattle.rml_items.specs.Walking.{tree_of, trees_of, rest_nests, rest_within, rest_blocks_nest, rest_blocks_within}
use Rattle.rml_items.specs.Walking.{front_nests, front_within, front_block_nests, front_block_within, if_given}
use Rattle.rml_items.specs.Walking.{choice_given, branches_nest, of_if, of_choice, element_refused, element_met, element_meets}
use Rattle.rml_items.specs.Walking.{others_meet, all_met, first_smaller, second_smaller, element_smaller, choice_smaller}
use Rattle.rml_sorts.specs.Commands.{command_of, commands_of, branches_of, conditions_of, conditions_of_block}
use Rattle.rml_sorts.specs.Commands.{conditions_of_blocks}
use Rattle.rml_sorts.specs.Sizes.{no_large_use, command_sizes, block_sizes, blocks_sizes}
use Rattle.rml_terms.specs.Shape.{max_nesting}
use Rattle.rml_sorts.proofs.BlockLists.{block_list, branch_list, block_is, branches_are, pushed_command, branching_is}
use Rattle.rml_sorts.proofs.BlockLists.{all_noted}
use Rattle.rml_sorts.proofs.blocks.+blocks.Goals as goal

pub block-returns-in_err-command-clause-command : goal.block-returns-in_err-command-clause-command
block-returns-in_err-command-clause-command t c =
    let v = (draft_in c.args.draft.now).vocabulary in
    let bodies = (draft_in c.args.draft.now).bodies in
    let xs = c.args.commands.now in
    at_err (λ r. commands r.items) c.from_residual.result c.in_err-command.field-0.0
    (block_sizes c.args.text.now v bodies (tree_of xs)) (commands_of c.args.text.now v bodies (tree_of xs))
    c.from_residual.ensures.1
    (element_refused (λ cs. block_sizes c.args.text.now v bodies (tree_of cs))
    (λ x. command_sizes c.args.text.now v bodies (command_tree x)) (λ x cs. refl) xs c.loop-c.c-index c.c-item.result
    c.in_err-command.field-0.0
    c.loop-c-test.true c.c-item.is c.loop-c.invariant.sizes c.in_err-command.ensures.command)

pub block-loop-c-preserved : goal.block-loop-c-preserved
block-loop-c-preserved t c =
    let v = (draft_in c.args.draft.now).vocabulary in
    let bodies = (draft_in c.args.draft.now).bodies in
    let text = c.args.text.now in
    let xs = c.args.commands.now in
    let i = c.loop-c.c-index in
    let x = c.c-item.result in
    let lt = c.loop-c-test.true in
    let is = c.c-item.is in
    let done = c.in_ok-command.ensures.command in
    record {
      nests = rest_nests max_nesting xs i x lt is c.loop-c.invariant.nests;
      within = rest_within (length text) xs i x lt is c.loop-c.invariant.within;
      met = others_meet (λ cs. block_demands text v c.args.format (tree_of cs))
          (λ y. command_demands text v c.args.format (command_tree y)) (λ y cs. refl) xs i x lt is
          c.loop-c.invariant.met;
      sizes = element_met (λ cs. block_sizes text v bodies (tree_of cs)) (λ y. command_sizes text v bodies (command_tree y))
          (λ y cs. refl) xs i x lt is c.loop-c.invariant.sizes done.1;
      built = list_turn (λ cs. block_list text v bodies (tree_of cs)) (λ y. command_of text v bodies (command_tree y) ∷ []) xs i x
          (map command c.loop-c.all.items) (map command c.push.new.self.items) (block_list text v bodies (tree_of xs)) refl lt
          is
          (pushed_command c.loop-c.all.items c.push.new.self.items c.in_ok-command.field-0
          (command_of text v bodies (command_tree x)) c.in_ok-push.ensures.items done.0) c.loop-c.invariant.built;
      noted = list_turn (λ cs. conditions_of_block text v bodies (tree_of cs)) (λ y. conditions_of text v bodies (command_tree y)) xs
          i x c.loop-c.conditions.items c.command.new.conditions.items
          (c.args.conditions.now.items ++ conditions_of_block text v bodies (tree_of xs)) refl lt is
          c.in_ok-command.ensures.conditions c.loop-c.invariant.noted;
    }

pub block-returns-clause-command : goal.block-returns-clause-command
block-returns-clause-command t c =
    let v = (draft_in c.args.draft.now).vocabulary in
    let bodies = (draft_in c.args.draft.now).bodies in
    let text = c.args.text.now in
    let xs = c.args.commands.now in
    let i = c.loop-c.c-index in (
      ap trees.commands_of (list_end (λ cs. block_list text v bodies (tree_of cs)) xs i (map command c.loop-c.all.items)
          (block_list text v bodies (tree_of xs)) refl c.loop-c-test.false c.loop-c.invariant.built)
          ∙ block_is text v bodies (tree_of xs),
      all_met (λ cs. block_sizes text v bodies (tree_of cs)) (λ y. command_sizes text v bodies (command_tree y)) (λ y cs. refl) xs
          i refl c.loop-c-test.false c.loop-c.invariant.sizes,
    )

pub command-returns-in_err-sentence-in-If-clause-command : goal.command-returns-in_err-sentence-in-If-clause-command
command-returns-in_err-sentence-in-If-clause-command t c =
    let v = (draft_in c.args.draft.now).vocabulary in
    let bodies = (draft_in c.args.draft.now).bodies in
    let text = c.args.text.now in
    let i = c.in-If in
    let de = no_large_use (large_use_in_formula text v bodies [] (expr_tree i.e)) in
    let da = block_sizes text v bodies (tree_of i.a.items) in
    let db = block_sizes text v bodies (tree_of i.b.items) in
    at_err command c.from_residual.result c.in_err-sentence-in-If.field-0.0
    (command_sizes text v bodies (command_tree c.args.c.now)) (command_of text v bodies (command_tree c.args.c.now))
    c.from_residual.ensures.1
    (of_if (λ t. Refuses (command_sizes text v bodies t) c.in_err-sentence-in-If.field-0.0) c.args.c.now i.at i.e i.a i.b
    i.is
    (refuses_left de (da ++ db) c.in_err-sentence-in-If.field-0.0 c.in_err-sentence-in-If.ensures.sentence))

pub command-returns-in_err-first-in-If-clause-command : goal.command-returns-in_err-first-in-If-clause-command
command-returns-in_err-first-in-If-clause-command t c =
    let v = (draft_in c.args.draft.now).vocabulary in
    let bodies = (draft_in c.args.draft.now).bodies in
    let text = c.args.text.now in
    let i = c.in-If in
    let de = no_large_use (large_use_in_formula text v bodies [] (expr_tree i.e)) in
    let da = block_sizes text v bodies (tree_of i.a.items) in
    let db = block_sizes text v bodies (tree_of i.b.items) in
    at_err command c.from_residual-in_err-first-in-If.result c.in_err-first-in-If.field-0.0
    (command_sizes text v bodies (command_tree c.args.c.now)) (command_of text v bodies (command_tree c.args.c.now))
    c.from_residual-in_err-first-in-If.ensures.1
    (of_if (λ t. Refuses (command_sizes text v bodies t) c.in_err-first-in-If.field-0.0) c.args.c.now i.at i.e i.a i.b i.is
    (refuses_right de (da ++ db) c.in_err-first-in-If.field-0.0 c.in_ok-sentence-in-If.ensures.sentence.1
    (refuses_left da db c.in_err-first-in-If.field-0.0
    (subst (λ cs. Refuses (block_sizes text v bodies (tree_of cs)) c.in_err-first-in-If.field-0.0) c.deref.ensures.value
    c.in_err-first-in-If.ensures.command))))

pub command-returns-in_err-second-in-If-clause-command : goal.command-returns-in_err-second-in-If-clause-command
command-returns-in_err-second-in-If-clause-command t c =
    let v = (draft_in c.args.draft.now).vocabulary in
    let bodies = (draft_in c.args.draft.now).bodies in
    let text = c.args.text.now in
    let i = c.in-If in
    let de = no_large_use (large_use_in_formula text v bodies [] (expr_tree i.e)) in
    let da = block_sizes text v bodies (tree_of i.a.items) in
    let db = block_sizes text v bodies (tree_of i.b.items) in
    at_err command c.from_residual-in_err-second-in-If.result c.in_err-second-in-If.field-0.0
    (command_sizes text v bodies (command_tree c.args.c.now)) (command_of text v bodies (command_tree c.args.c.now))
    c.from_residual-in_err-second-in-If.ensures.1
    (of_if (λ t. Refuses (command_sizes text v bodies t) c.in_err-second-in-If.field-0.0) c.args.c.now i.at i.e i.a i.b i.is
    (refuses_right de (da ++ db) c.in_err-second-in-If.field-0.0 c.in_ok-sentence-in-If.ensures.sentence.1
    (refuses_right da db c.in_err-second-in-If.field-0.0
    (subst (λ cs. first_fault (block_sizes text v bodies (tree_of cs)) ≡ None) c.deref.ensures.value
    c.in_ok-first-in-If.ensures.command.1)
    (subst (λ cs. Refuses (block_sizes text v bodies (tree_of cs)) c.in_err-second-in-If.field-0.0)
    c.deref-in-If.ensures.value c.in_err-second-in-If.ensures.command))))

pub command-returns-in_ok-command-in-If-clause-command : goal.command-returns-in_ok-command-in-If-clause-command
command-returns-in_ok-command-in-If-clause-command t c =
    let v = (draft_in c.args.draft.now).vocabulary in
    let bodies = (draft_in c.args.draft.now).bodies in
    let text = c.args.text.now in
    let i = c.in-If in
    let de = no_large_use (large_use_in_formula text v bodies [] (expr_tree i.e)) in
    let da = block_sizes text v bodies (tree_of i.a.items) in
    let db = block_sizes text v bodies (tree_of i.b.items) in
    let x = c.in_ok-command-in-If.command in (
      of_if (λ t. command x ≡ command_of text v bodies t) c.args.c.now i.at i.e i.a i.b i.is
          (branching_is (command x) c.in_ok-sentence-in-If.sentence (formula_of text v bodies [] (expr_tree i.e))
          (commands c.in_ok-first-in-If.first.items) (commands c.in_ok-second-in-If.second.items)
          (commands_of text v bodies (tree_of i.a.items)) (commands_of text v bodies (tree_of i.b.items))
          c.in_ok-command-in-If.ensures c.in_ok-sentence-in-If.ensures.sentence.0
          (c.in_ok-first-in-If.ensures.command.0 ∙ ap (λ cs. commands_of text v bodies (tree_of cs)) c.deref.ensures.value)
          (c.in_ok-second-in-If.ensures.command.0
          ∙ ap (λ cs. commands_of text v bodies (tree_of cs)) c.deref-in-If.ensures.value)),
      of_if (λ t. first_fault (command_sizes text v bodies t) ≡ None) c.args.c.now i.at i.e i.a i.b i.is
          (both_met de (da ++ db) c.in_ok-sentence-in-If.ensures.sentence.1
          (both_met da db
          (subst (λ cs. first_fault (block_sizes text v bodies (tree_of cs)) ≡ None) c.deref.ensures.value
          c.in_ok-first-in-If.ensures.command.1)
          (subst (λ cs. first_fault (block_sizes text v bodies (tree_of cs)) ≡ None) c.deref-in-If.ensures.value
          c.in_ok-second-in-If.ensures.command.1))),
    )

pub command-returns-in_ok-command-in-If-clause-conditions : goal.command-returns-in_ok-command-in-If-clause-conditions
command-returns-in_ok-command-in-If-clause-conditions t c =
    let v = (draft_in c.args.draft.now).vocabulary in
    let bodies = (draft_in c.args.draft.now).bodies in
    let text = c.args.text.now in
    let i = c.in-If in
    let de = no_large_use (large_use_in_formula text v bodies [] (expr_tree i.e)) in
    let da = block_sizes text v bodies (tree_of i.a.items) in
    let db = block_sizes text v bodies (tree_of i.b.items) in
    let old = c.args.conditions.now.items in
    of_if (λ t. c.block-in-If.new.conditions.items ≡ old ++ conditions_of text v bodies t) c.args.c.now i.at i.e i.a i.b i.is
    (all_noted old c.noted_sentence.new.conditions.items c.block.new.conditions.items c.block-in-If.new.conditions.items
    _ (conditions_of_block text v bodies (tree_of i.a.items)) (conditions_of_block text v bodies (tree_of i.b.items))
    c.in_ok-sentence-in-If.ensures.noted
    (c.in_ok-first-in-If.ensures.conditions
    ∙ ap (λ cs. c.noted_sentence.new.conditions.items ++ conditions_of_block text v bodies (tree_of cs))
    c.deref.ensures.value)
    (c.in_ok-second-in-If.ensures.conditions
    ∙ ap (λ cs. c.block.new.conditions.items ++ conditions_of_block text v bodies (tree_of cs))
    c.deref-in-If.ensures.value))

pub command-returns-in_err-commands-in-Choose-clause-command :
    goal.command-returns-in_err-commands-in-Choose-clause-command
command-returns-in_err-commands-in-Choose-clause-command t c =
    let v = (draft_in c.args.draft.now).vocabulary in
    let bodies = (draft_in c.args.draft.now).bodies in
    let text = c.args.text.now in
    let at = c.in-Choose.field-0 in
    let all = c.in-Choose.all in
    let xs = c.deref-b-items.result.now in
    let i = c.loop-b.b-index in
    at_err command c.from_residual-in_err-commands-in-Choose.result c.in_err-commands-in-Choose.field-0.0
    (command_sizes text v bodies (command_tree c.args.c.now)) (command_of text v bodies (command_tree c.args.c.now))
    c.from_residual-in_err-commands-in-Choose.ensures.1
    (of_choice (λ t. Refuses (command_sizes text v bodies t) c.in_err-commands-in-Choose.field-0.0) c.args.c.now at all
    c.in-Choose.is
    (subst (λ bs. Refuses (blocks_sizes text v bodies (trees_of bs)) c.in_err-commands-in-Choose.field-0.0)
    c.deref-b-items.ensures.value
    (element_refused (λ bs. blocks_sizes text v bodies (trees_of bs)) (λ b. block_sizes text v bodies (tree_of b.items))
    (λ b bs. refl) xs i c.b-item.result c.in_err-commands-in-Choose.field-0.0
    c.loop-b-test.true c.b-item.is c.loop-b.invariant.sizes
    (subst (λ cs. Refuses (block_sizes text v bodies (tree_of cs)) c.in_err-commands-in-Choose.field-0.0)
    c.deref-in-loop-b.ensures.value c.in_err-commands-in-Choose.ensures.command))))

pub command-loop-b-preserved : goal.command-loop-b-preserved
command-loop-b-preserved t c =
    let v = (draft_in c.args.draft.now).vocabulary in
    let bodies = (draft_in c.args.draft.now).bodies in
    let text = c.args.text.now in
    let xs = c.deref-b-items.result.now in
    let i = c.loop-b.b-index in
    let x = c.b-item.result in
    let lt = c.loop-b-test.true in
    let is = c.b-item.is in
    let value = c.deref-in-loop-b.ensures.value in
    let done = c.in_ok-commands-in-Choose.ensures.command in
    record {
      nests = rest_blocks_nest max_nesting xs i x lt is c.loop-b.invariant.nests;
      within = rest_blocks_within (length text) xs i x lt is c.loop-b.invariant.within;
      met = others_meet (λ bs. blocks_demands text v c.args.format (trees_of bs))
          (λ b. block_demands text v c.args.format (tree_of b.items)) (λ b bs. refl) xs i x lt is
          c.loop-b.invariant.met;
      sizes = element_met (λ bs. blocks_sizes text v bodies (trees_of bs)) (λ b. block_sizes text v bodies (tree_of b.items))
          (λ b bs. refl) xs i x lt is c.loop-b.invariant.sizes
          (subst (λ cs. first_fault (block_sizes text v bodies (tree_of cs)) ≡ None) value done.1);
      built = list_turn (λ bs. branch_list text v bodies (trees_of bs)) (λ b. seq (commands_of text v bodies (tree_of b.items)) ∷ [])
          xs i x (map command c.loop-b.branches.items) (map command c.push.new.self.items)
          (branch_list text v bodies (trees_of xs)) refl lt is
          (pushed_command c.loop-b.branches.items c.push.new.self.items c.sequence.result
          (seq (commands_of text v bodies (tree_of x.items))) c.in_ok-push-in-Choose.ensures.items
          (c.sequence.ensures ∙ ap seq (done.0 ∙ ap (λ cs. commands_of text v bodies (tree_of cs)) value)))
          c.loop-b.invariant.built;
      noted = list_turn (λ bs. conditions_of_blocks text v bodies (trees_of bs))
          (λ b. conditions_of_block text v bodies (tree_of b.items)) xs i x c.loop-b.conditions.items
          c.block-in-loop-b.new.conditions.items
          (c.args.conditions.now.items ++ conditions_of_blocks text v bodies (trees_of xs)) refl lt is
          (c.in_ok-commands-in-Choose.ensures.conditions
          ∙ ap (λ cs. c.loop-b.conditions.items ++ conditions_of_block text v bodies (tree_of cs)) value)
          c.loop-b.invariant.noted;
    }

pub command-returns-after-loop-b-clause-command : goal.command-returns-after-loop-b-clause-command
command-returns-after-loop-b-clause-command t c =
    let v = (draft_in c.args.draft.now).vocabulary in
    let bodies = (draft_in c.args.draft.now).bodies in
    let text = c.args.text.now in
    let at = c.in-Choose.field-0 in
    let all = c.in-Choose.all in
    let xs = c.deref-b-items.result.now in
    let i = c.loop-b.b-index in
    let built = list_end (λ bs. branch_list text v bodies (trees_of bs)) xs i (map command c.loop-b.branches.items)
    (branch_list text v bodies (trees_of xs)) refl c.loop-b-test.false c.loop-b.invariant.built in
    let met = all_met (λ bs. blocks_sizes text v bodies (trees_of bs)) (λ b. block_sizes text v bodies (tree_of b.items))
    (λ b bs. refl) xs i refl c.loop-b-test.false c.loop-b.invariant.sizes in (
      of_choice (λ t. command c.choice_between.result ≡ command_of text v bodies t) c.args.c.now at all c.in-Choose.is
          (c.choice_between.ensures ∙ ap (λ l. choose (trees.commands_of l)) built
          ∙ ap choose (branches_are text v bodies (trees_of xs))
          ∙ ap (λ bs. choose (branches_of text v bodies (trees_of bs))) c.deref-b-items.ensures.value),
      of_choice (λ t. first_fault (command_sizes text v bodies t) ≡ None) c.args.c.now at all c.in-Choose.is
          (subst (λ bs. first_fault (blocks_sizes text v bodies (trees_of bs)) ≡ None) c.deref-b-items.ensures.value met),
    )

pub command-returns-after-loop-b-clause-conditions : goal.command-returns-after-loop-b-clause-conditions
command-returns-after-loop-b-clause-conditions t c =
    let v = (draft_in c.args.draft.now).vocabulary in
    let bodies = (draft_in c.args.draft.now).bodies in
    let text = c.args.text.now in
    let at = c.in-Choose.field-0 in
    let all = c.in-Choose.all in
    let xs = c.deref-b-items.result.now in
    let i = c.loop-b.b-index in
    let old = c.args.conditions.now.items in
    let noted = list_end (λ bs. conditions_of_blocks text v bodies (trees_of bs)) xs i c.loop-b.conditions.items
    (old ++ conditions_of_blocks text v bodies (trees_of xs)) refl c.loop-b-test.false c.loop-b.invariant.noted in
    of_choice (λ t. c.loop-b.conditions.items ≡ old ++ conditions_of text v bodies t) c.args.c.now at all c.in-Choose.is
    (subst (λ bs. c.loop-b.conditions.items ≡ old ++ conditions_of_blocks text v bodies (trees_of bs))
    c.deref-b-items.ensures.value noted)

pub command-block-requires : goal.command-block-requires
command-block-requires t c =
    let i = c.in-If in
    let text = c.args.text.now in
    let v = (draft_in c.args.draft.now).vocabulary in
    let de = demands text v [] wanted.Formula (expr_tree i.e) in
    let da = block_demands text v c.args.format (tree_of c.deref.result.now) in
    let db = block_demands text v c.args.format (tree_of i.b.items) in
    let met = if_given (λ t. first_fault (command_demands text v c.args.format t) ≡ None) c.args.c.now i.at i.e i.a i.b
    c.deref.result.now i.b.items i.is c.deref.ensures.value refl c.requires.met in
    let first = met_left da db (met_right de (da ++ db) met) in
    let nests = if_given (CommandNests max_nesting) c.args.c.now i.at i.e i.a i.b c.deref.result.now i.b.items i.is
    c.deref.ensures.value refl c.requires.nests in
    let within = if_given (CommandWithin (length c.args.text.now)) c.args.c.now i.at i.e i.a i.b c.deref.result.now
    i.b.items i.is c.deref.ensures.value refl c.requires.within in (
      omega (
        arith,
        c.decreases,
        first_smaller c.args.c.now i.at i.e i.a i.b c.deref.result.now i.is
            c.deref.ensures.value,
      ),
      (nests.1, (within.2, (c.requires.sound, first))),
    )

pub command-block-requires-in-If : goal.command-block-requires-in-If
command-block-requires-in-If t c =
    let i = c.in-If in
    let text = c.args.text.now in
    let v = (draft_in c.args.draft.now).vocabulary in
    let de = demands text v [] wanted.Formula (expr_tree i.e) in
    let da = block_demands text v c.args.format (tree_of i.a.items) in
    let db = block_demands text v c.args.format (tree_of c.deref-in-If.result.now) in
    let met = if_given (λ t. first_fault (command_demands text v c.args.format t) ≡ None) c.args.c.now i.at i.e i.a i.b
    i.a.items c.deref-in-If.result.now i.is refl c.deref-in-If.ensures.value c.requires.met in
    let second = met_right da db (met_right de (da ++ db) met) in
    let nests = if_given (CommandNests max_nesting) c.args.c.now i.at i.e i.a i.b i.a.items c.deref-in-If.result.now i.is refl
    c.deref-in-If.ensures.value c.requires.nests in
    let within = if_given (CommandWithin (length c.args.text.now)) c.args.c.now i.at i.e i.a i.b i.a.items
    c.deref-in-If.result.now i.is refl c.deref-in-If.ensures.value c.requires.within in (
      omega (
        arith,
        c.decreases,
        second_smaller c.args.c.now i.at i.e i.a i.b c.deref-in-If.result.now i.is
            c.deref-in-If.ensures.value,
      ),
      (nests.2, (within.3, (c.requires.sound, second))),
    )

pub block-command-requires : goal.block-command-requires
block-command-requires t c =
    let xs = c.args.commands.now in
    let i = c.loop-c.c-index in
    let x = c.c-item.result in (
      omega (arith, c.decreases, element_smaller xs i x c.loop-c-test.true c.c-item.is),
      (
        front_nests max_nesting xs i x c.loop-c-test.true c.c-item.is c.loop-c.invariant.nests,
        (
          front_within (length c.args.text.now) xs i x c.loop-c-test.true c.c-item.is c.loop-c.invariant.within,
          (
            c.requires.sound,
            element_meets
                (λ cs. block_demands c.args.text.now (draft_in c.args.draft.now).vocabulary c.args.format (tree_of cs))
                (λ y. command_demands c.args.text.now (draft_in c.args.draft.now).vocabulary c.args.format (command_tree y))
                (λ y cs. refl) xs i x c.loop-c-test.true c.c-item.is c.loop-c.invariant.met,
          ),
        ),
      ),
    )

pub command-block-requires-in-loop-b : goal.command-block-requires-in-loop-b
command-block-requires-in-loop-b t c =
    let xs = c.deref-b-items.result.now in
    let i = c.loop-b.b-index in
    let x = c.b-item.result in
    let nests = front_block_nests max_nesting xs i x c.loop-b-test.true c.b-item.is c.loop-b.invariant.nests in
    let within = front_block_within (length c.args.text.now) xs i x c.loop-b-test.true c.b-item.is
    c.loop-b.invariant.within in (
      omega (
        arith,
        c.decreases,
        choice_smaller c.args.c.now c.in-Choose.field-0 c.in-Choose.all xs i x
            c.deref-in-loop-b.result.now c.in-Choose.is c.deref-b-items.ensures.value c.loop-b-test.true c.b-item.is
            c.deref-in-loop-b.ensures.value,
      ),
      (
        subst (λ cs. BlockNests max_nesting (tree_of cs)) (sym c.deref-in-loop-b.ensures.value) nests,
        (
          subst (λ cs. BlockWithin (length c.args.text.now) (tree_of cs)) (sym c.deref-in-loop-b.ensures.value) within,
          (
            c.requires.sound,
            subst
                (λ cs. first_fault
                (block_demands c.args.text.now (draft_in c.args.draft.now).vocabulary c.args.format (tree_of cs)) ≡ None)
                (sym c.deref-in-loop-b.ensures.value)
                (element_meets
                (λ bs. blocks_demands c.args.text.now (draft_in c.args.draft.now).vocabulary c.args.format (trees_of bs))
                (λ b. block_demands c.args.text.now (draft_in c.args.draft.now).vocabulary c.args.format
                (tree_of b.items)) (λ b bs. refl) xs i x c.loop-b-test.true c.b-item.is c.loop-b.invariant.met),
          ),
        ),
      ),
    )

pub command-noted_sentence-requires-clause-met : goal.command-noted_sentence-requires-clause-met
command-noted_sentence-requires-clause-met t c =
    let i = c.in-If in
    let text = c.args.text.now in
    let v = (draft_in c.args.draft.now).vocabulary in
    let da = block_demands text v c.args.format (tree_of i.a.items) in
    let db = block_demands text v c.args.format (tree_of i.b.items) in
    met_left (demands text v [] wanted.Formula (expr_tree i.e)) (da ++ db)
    (if_given (λ t. first_fault (command_demands text v c.args.format t) ≡ None) c.args.c.now i.at i.e i.a i.b
    i.a.items i.b.items i.is refl refl c.requires.met)

pub command-loop-b-init : goal.command-loop-b-init
command-loop-b-init t c =
    let text = c.args.text.now in
    let v = (draft_in c.args.draft.now).vocabulary in
    let at = c.in-Choose.field-0 in
    let all = c.in-Choose.all in
    let xs = c.deref-b-items.result.now in
    let value = c.deref-b-items.ensures.value in
    let is = c.in-Choose.is in
    let within = choice_given (CommandWithin (length text)) c.args.c.now at all xs is value c.requires.within in
    record {
      nests = branches_nest max_nesting at (trees_of xs) (choice_given (CommandNests max_nesting) c.args.c.now at all xs is value c.requires.nests);
      within = within.1;
      met = choice_given (λ t. first_fault (command_demands text v c.args.format t) ≡ None) c.args.c.now at all xs is value
          c.requires.met;
      sizes = refl;
      built = rw (c.new-branches.ensures.items) refl;
      noted = refl;
    }

use Rattle.std.proofs.Common.{◌≡◌, ◌∙◌, ◌+◌, length, sym, ap, arith}
use Rattle.std.proofs.lemmas.List.{length-append}
use Rattle.fol_sig.specs.Tables.{Declared}
use Rattle.fol_sig.specs.Symbols.{symbols}
use Rattle.rml_command.specs.Models.{ModelTree}
use Rattle.rml_command.specs.Goals.{goal_path}
use Rattle.rml_command.specs.Fresh.{havocked, havocs_under}
use Rattle.rml_wp.specs.Preconditions.{path_or_none}
use Rattle.rml_wp.specs.Written.{relation_havocs, havocked_count}
use Rattle.rml_wp.proofs.witness.goal_havocs.Goals as goal

pub havocs_with_tables-requires-clause-there : goal.havocs_with_tables-requires-clause-there
havocs_with_tables-requires-clause-there c =
    let m = c.args.checked.now in
    let g = c.args.goal.now in
    let path = c.path-path.result in
    let sig = c.signature.ensures.value ∙ ap (λ (z : ModelTree). z.signature) c.model.ensures.value in
    let fresh = c.relation_count-fresh.ensures ∙ ap (λ (d : Declared). length d.relations) sig in
    let is_path : path_or_none (goal_path m g) ≡ path = ap path_or_none c.path-path.ensures.path in
    let count = length-append m.signature.relations (havocked (symbols m.signature) (path_or_none (goal_path m g)))
    ∙ ap (λ n. length m.signature.relations + n)
    (havocked_count (symbols m.signature) (path_or_none (goal_path m g)) ∙ ap relation_havocs is_path) in
    let there = ap (λ (d : Declared). length d.relations) (sym c.requires.answered) in
    let here = c.requires.structure.relations in
    omega (arith, fresh, count, there, here)

pub havocs_with_tables-requires-clause-few : goal.havocs_with_tables-requires-clause-few
havocs_with_tables-requires-clause-few c =
    let here = c.requires.structure.relations in
    let few = c.sorts.ensures.signature.few_relations in
    omega (arith, here, few)

pub returns : goal.returns
returns c =
    let m = c.args.checked.now in
    let g = c.args.goal.now in
    let s = c.args.structure.now in
    let xs = c.args.elements.now in
    let sig = c.signature.ensures.value ∙ ap (λ (z : ModelTree). z.signature) c.model.ensures.value in
    let fresh = c.relation_count-fresh.ensures ∙ ap (λ (d : Declared). length d.relations) sig in
    let is_path = sym (ap path_or_none c.path-path.ensures.path) in
    c.in_ok-havocs.ensures ∙ ap (λ n. havocs_under s n c.path-path.result xs) fresh
    ∙ ap (λ p. havocs_under s (length m.signature.relations) p xs) is_path

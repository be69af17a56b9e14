use Rattle.std.proofs.Common.{◌≡◌, ◌⊎◌, ℕ, map, ap, ◌∙◌, subst, Option}
use Rattle.rml_command.specs.Trees.{CommandTree}
use Rattle.rml_command.specs.View.{command}
use Rattle.rml_command.specs.declared.places.Places.{Places}
use Rattle.rml_lex.specs.declared.token.Fault.{Fault}
use Rattle.rml_fragment.specs.First.{IsFirstOf, SomePlaced}
use Rattle.rml_fragment.specs.Faults.{HasManyPaths}
use Rattle.rml_fragment.proofs.Placed.{along, of_both}
use Rattle.rml_fragment.proofs.long.long_block_fault.Goals as goal

-- one block at one place
abbrev At : ℕ → CommandTree → Fault → Type 0
At at block f = (f.at ≡ at) × HasManyPaths block f.code

moved : (at to : ℕ) (block other : CommandTree) (o : Option Fault) → at ≡ to → block ≡ other
    → IsFirstOf (At at block) o → IsFirstOf (At to other) o
moved at to block other o place same first =
    subst (λ (b : CommandTree). IsFirstOf (At to b) o) same
    (subst (λ (n : ℕ). IsFirstOf (At n block) o) place first)

pub returns : goal.returns
returns c =
    let m = c.args.model.now in
    let p = c.places-places.result.now in
    let places = c.places-places.ensures.value in
    let init =
    moved p.init m.places.init (command c.init.result.now) m.init c.block_fault-init.result
    (ap (λ (q : Places). q.init) places) c.init.ensures.value c.block_fault-init.ensures in
    let last =
    moved p.last m.places.last (command c.last.result.now) m.last c.block_fault-last.result
    (ap (λ (q : Places). q.last) places) c.last.ensures.value c.block_fault-last.ensures in
    let actions =
    along HasManyPaths (map command c.actions.result.now) m.actions c.as_slice.result.now m.places.actions
    c.action_fault-actions.result c.actions.ensures.value
    (c.as_slice.ensures ∙ ap (λ (q : Places). q.actions) places) c.action_fault-actions.ensures in
    let Actions : Fault → Type 0 = SomePlaced HasManyPaths m.actions m.places.actions in
    let Last : Fault → Type 0 = At m.places.last m.last in
    let others =
    of_both Actions Last c.action_fault-actions.result c.block_fault-last.result c.earlier-others.result
    c.earlier-others.ensures actions last in
    of_both (At m.places.init m.init) (λ f. Actions f ⊎ Last f) c.block_fault-init.result c.earlier-others.result
    c.earlier.result c.earlier.ensures init others

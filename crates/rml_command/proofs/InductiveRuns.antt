-- The conjectures of an inductive set are together an inductive invariant.
use Rattle.std.proofs.Common.{◌≡◌, inl, inr, ℕ, suc, true, ◌&&◌, List, [], ◌∷◌, refl, ap, ◌∙◌}
use Rattle.std.specs.Prelude.{slice_get, slice_index_or, Some}
use Rattle.std.proofs.lemmas.Option.{slice_get-get_or}
use Rattle.fol_sig.specs.Tables.{Tables, reading}
use Rattle.fol_sig.specs.Symbols.{FitsStructure, symbols}
use Rattle.fol_formula.specs.Syntax.{FormTree, top, forms_of}
use Rattle.fol_formula.specs.Truth.{all_true}
use Rattle.fol_formula.specs.Sentences.{is_true, satisfies}
use Rattle.rml_command.specs.Trees.{CommandTree}
use Rattle.rml_command.specs.Outcomes.{ended, HasOutcome, PathHasOutcome}
use Rattle.rml_command.specs.Paths.{paths_of}
use Rattle.rml_command.specs.Goals.{block_of, paths_of_block}
use Rattle.rml_command.specs.Models.{ModelTree}
use Rattle.rml_command.specs.Invariants.{IsInductiveInvariant}
use Rattle.rml_command.specs.InductiveSets.{conjectures_of, Has, Keeps, IsInductive}
use Rattle.rml_command.specs.Laws.{InductiveInvariantsHold, InductiveSetsHold}
use Rattle.rml_command.specs.declared.goal.Stage.{Stage}
use Rattle.rml_command.specs.declared.goal.Stage.TheVariants as stage
use Rattle.rml_command.proofs.Some.{some_at}
use Rattle.rml_command.proofs.PathLaw.{by_path}

all_true_there : (m : ModelTree) (s : Tables) (ks : List ℕ)
    → ((k : ℕ) → Has ks k → is_true s (slice_index_or m.conjectures k top) ≡ true)
    → satisfies s (conjectures_of m ks) ≡ true
all_true_there m s [] each = refl
all_true_there m s (k ∷ ks) each =
    ap (λ b. b && all_true (reading s) (forms_of (conjectures_of m ks)) []) (each k (inl refl))
    ∙ all_true_there m s ks (λ n has. each n (inr has))

-- what the paths of a block keep, the block keeps
kept_by_block : (m : ModelTree) (held : List FormTree) (st : Stage) (c : FormTree) (block : CommandTree)
    (s new : Tables) → block_of m st ≡ Some block → Keeps m held st c → FitsStructure (symbols m.signature) s
    → satisfies s m.axioms ≡ true → satisfies s held ≡ true → HasOutcome m.axioms block s (ended new)
    → is_true new c ≡ true
kept_by_block m held st c block s new at keeps fits lawful before h =
    let w = some_at (λ p. PathHasOutcome m.axioms p s (ended new)) (paths_of block)
    (by_path m.axioms block s (ended new) h) in
    keeps (suc w.0) w.1 s new (ap (λ b. slice_get (paths_of_block b) w.0) at ∙ w.2) fits lawful before w.3

inductive_invariant : (m : ModelTree) (ks : List ℕ) → IsInductive m ks → IsInductiveInvariant m (conjectures_of m ks)
inductive_invariant m ks is = record {
  init = λ s new fits lawful h. all_true_there m new ks (λ k has.
      kept_by_block m [] stage.Init (slice_index_or m.conjectures k top) m.init s new refl
      (is.init k (slice_index_or m.conjectures k top) has
      (slice_get-get_or m.conjectures k top (is.conjectures k has))) fits lawful refl h);
  actions = λ a action s new at fits lawful before h. all_true_there m new ks (λ k has.
      kept_by_block m (conjectures_of m ks) (stage.Action a) (slice_index_or m.conjectures k top) action s new at
      (is.actions k (slice_index_or m.conjectures k top) a has
      (slice_get-get_or m.conjectures k top (is.conjectures k has))) fits lawful before h);
}

pub true_conjectures : InductiveInvariantsHold → InductiveSetsHold
true_conjectures law m ks run fits is ok = law m (conjectures_of m ks) run fits (inductive_invariant m ks is) ok

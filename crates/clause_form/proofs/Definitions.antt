-- What the clauses of an And or an Or say.
use Rattle.std.proofs.Common.{◌≡◌, ℕ, Bool, true, false, List, [], ◌∷◌, refl, ◌∙◌, ap}
use Rattle.std.specs.Prelude.{◌&&◌, ◌||◌, not}
use Rattle.cnf_base.specs.declared.cnf.Entry.{Entry}
use Rattle.cnf_base.specs.declared.cnf.Entry.TheVariants.{Clause, True}
use Rattle.cnf_base.specs.Literals.{is_true, opposite}
use Rattle.cnf_base.specs.Clauses.{entry_of}
use Rattle.ground_terms.specs.declared.ground.Junction.{Junction}
use Rattle.ground_terms.specs.declared.ground.Junction.TheVariants.{And, Or}
use Rattle.clause_form.specs.Clauses.{unless_true, implies, implies_each, definition}
use Rattle.clause_form.proofs.Below.{EntriesAreTrue}
use Rattle.clause_form.proofs.Truths.{any_lit, all_lits, entry_true, all_entries_true, all_entries_true-append}
use Rattle.clause_form.proofs.Truths.{or_nothing, made_true}

module _ (truth : EntriesAreTrue) (value : ℕ → Bool) where
  and_nothing : (a : Bool) → a && true ≡ a
  and_nothing true = refl
  and_nothing false = refl

  -- an And's or an Or's truth by its parts' literals
  abbrev pub joined : Junction → List ℕ → Bool
  joined And ls = all_lits value ls
  joined Or ls = any_lit value ls

  kept_truth : (e : Entry) → all_entries_true value (unless_true e) ≡ entry_true value e
  kept_truth (Clause ls) = and_nothing (any_lit value ls)
  kept_truth True = refl

  implies_truth : (d : ℕ) (ls : List ℕ)
      → all_entries_true value (implies d ls) ≡ not (is_true value d) || any_lit value ls
  implies_truth d ls =
      kept_truth (entry_of [] (opposite d ∷ ls)) ∙ made_true value truth (opposite d ∷ ls)
      ∙ ap (λ b. b || any_lit value ls) (truth.opposite_true value d)

  spread : (a b c : Bool) → (a || b) && (a || c) ≡ a || (b && c)
  spread true b c = refl
  spread false b c = refl

  or_true : (a : Bool) → true ≡ a || true
  or_true true = refl
  or_true false = refl

  each_truth : (d : ℕ) (ls : List ℕ)
      → all_entries_true value (implies_each d ls) ≡ not (is_true value d) || all_lits value ls
  each_truth d [] = or_true (not (is_true value d))
  each_truth d (l ∷ ls) =
      all_entries_true-append value (implies d (l ∷ [])) (implies_each d ls)
      ∙ ap (λ b. b && all_entries_true value (implies_each d ls))
      (implies_truth d (l ∷ []) ∙ ap (λ b. not (is_true value d) || b) (or_nothing value (is_true value l)))
      ∙ ap (λ b. (not (is_true value d) || is_true value l) && b) (each_truth d ls)
      ∙ spread (not (is_true value d)) (is_true value l) (all_lits value ls)

  pub definition_truth : (j : Junction) (d : ℕ) (ls : List ℕ)
      → all_entries_true value (definition j d ls) ≡ not (is_true value d) || joined j ls
  definition_truth And d ls = each_truth d ls
  definition_truth Or d ls = implies_truth d ls

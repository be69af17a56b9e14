-- Fresh relations are behind the signature's own, so a path has the same precondition over both signatures.
use Rattle.std.proofs.Common.{◌≡◌, ℕ, ◌||◌, List, [], ◌∷◌, length, refl, sym, ap, ◌∙◌}
use Rattle.fol_sig.specs.Symbols.{Symbols, symbols}
use Rattle.fol_formula.specs.Syntax.{FormTree, for_all}
use Rattle.fol_subst.specs.Replace.{change_const, changed_form}
use Rattle.fol_subst.specs.Limits.{is_too_large}
use Rattle.rml_command.specs.Trees.{PrimitiveTree, assume, set_rel, set_fun, havoc, havoc_rel, abort}
use Rattle.rml_command.specs.Models.{ModelTree}
use Rattle.rml_command.specs.Goals.{goal_path}
use Rattle.rml_command.specs.declared.goal.Goal.{Goal}
use Rattle.rml_command.specs.Fresh.{written}
use Rattle.rml_wp.specs.declared.premises.Premises.{Premises}
use Rattle.rml_wp.specs.Preconditions.{back_of, where_lawful, precondition_of, passes_limit, premises_of, target_of}
use Rattle.rml_wp.specs.Preconditions.{path_or_none, answered, written_path, goal_precondition}
use Rattle.rml_wp.specs.Preconditions.{goal_passes_limit}

-- a signature that differs in its relations alone gives the same preconditions
module _ (sig more : Symbols) (same : (v : ℕ) → more.into_of v ≡ sig.into_of v) where
  back-same : (axioms : List FormTree) (q : PrimitiveTree) (rest : FormTree)
      → back_of more axioms q rest ≡ back_of sig axioms q rest
  back-same axioms (assume p) rest = refl
  back-same axioms (set_rel r by) rest = refl
  back-same axioms (set_fun f by) rest = refl
  back-same axioms (havoc v) rest =
      ap (λ k. for_all k (changed_form (change_const v 0) 0 (where_lawful axioms rest))) (same v)
  back-same axioms (havoc_rel r) rest = refl
  back-same axioms abort rest = refl

  module _ (behind : PrimitiveTree → List FormTree) (target : FormTree) where
    pub precondition-same : (qs : List PrimitiveTree)
        → precondition_of more behind target qs ≡ precondition_of sig behind target qs
    precondition-same [] = refl
    precondition-same (q ∷ qs) =
        ap (back_of more (behind q) q) (precondition-same qs)
        ∙ back-same (behind q) q (precondition_of sig behind target qs)

    pub limit-same : (qs : List PrimitiveTree)
        → passes_limit more behind target qs ≡ passes_limit sig behind target qs
    limit-same [] = refl
    limit-same (q ∷ qs) =
        λ i. is_too_large (precondition-same (q ∷ qs) i) || limit-same qs i

-- ---- of a goal

module _ (premises : Premises) (given m : ModelTree) (goal : Goal) (p : List PrimitiveTree) (same : given ≡ m)
    (is : p ≡ path_or_none (goal_path m goal)) where
  pub goal_tree : precondition_of (symbols given.signature) (premises_of premises given.axioms)
      (target_of given goal.about) (written (symbols given.signature) (length given.signature.relations) p)
      ≡ goal_precondition premises m goal
  goal_tree =
      ap (λ (z : ModelTree). precondition_of (symbols z.signature) (premises_of premises z.axioms)
      (target_of z goal.about) (written (symbols z.signature) (length z.signature.relations) p)) same
      ∙ ap (λ q. precondition_of (symbols m.signature) (premises_of premises m.axioms) (target_of m goal.about)
      (written (symbols m.signature) (length m.signature.relations) q)) is
      ∙ sym (precondition-same (symbols m.signature) (symbols (answered m goal)) (λ v. refl)
      (premises_of premises m.axioms) (target_of m goal.about) (written_path m goal))

  pub goal_limit : passes_limit (symbols given.signature) (premises_of premises given.axioms)
      (target_of given goal.about) (written (symbols given.signature) (length given.signature.relations) p)
      ≡ goal_passes_limit premises m goal
  goal_limit =
      ap (λ (z : ModelTree). passes_limit (symbols z.signature) (premises_of premises z.axioms)
      (target_of z goal.about) (written (symbols z.signature) (length z.signature.relations) p)) same
      ∙ ap (λ q. passes_limit (symbols m.signature) (premises_of premises m.axioms) (target_of m goal.about)
      (written (symbols m.signature) (length m.signature.relations) q)) is
      ∙ sym (limit-same (symbols m.signature) (symbols (answered m goal)) (λ v. refl)
      (premises_of premises m.axioms) (target_of m goal.about) (written_path m goal))

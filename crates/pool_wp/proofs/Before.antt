-- What is made before a step, from what stood in the pool before.
use Rattle.std.proofs.Common.{◌≡◌, ℕ, List, ap, ◌∙◌}
use Rattle.fol_formula.specs.Syntax.{FormTree, TermTree, implication}
use Rattle.fol_subst.specs.Rules.{form_by}
use Rattle.fol_subst.specs.Replace.{Change, change_rel, change_fun, changing, changed_form}
use Rattle.fol_pool.specs.Trees.{Tree, IsAt, Grows, HasForm, a_form, a_term, as_formula, as_term, form_at, term_at}
use Rattle.pool_subst.specs.Staying.{form_stays}
use Rattle.pool_subst.specs.Replacements.{HasReplacement, change_in, replacement_stays}
use Rattle.pool_subst.specs.declared.replacement.Replacement.{Replacement}

-- a change by the same rules, of the same formula
pub changed_is : (ts : List Tree) (n : ℕ) (c d : Change) (p q : FormTree) → changing c ≡ changing d → p ≡ q
    → IsAt ts n (a_form (changed_form c 0 p)) → IsAt ts n (a_form (changed_form d 0 q))
changed_is ts n c d p q e f h = (h.0, h.1 ∙ (λ i. a_form (form_by (e i) 0 (f i))))

-- what is changed was made first, and then what it becomes
pub is_changed : (old one new : List Tree) (within made : ℕ) (change : Replacement) (p : FormTree) → Grows old one
    → HasReplacement old change → IsAt one within (a_form p)
    → IsAt new made (a_form (changed_form (change_in one change) 0 (form_at one within)))
    → IsAt new made (a_form (changed_form (change_in old change) 0 p))
is_changed old one new within made change p grows has inside is =
    changed_is new made (change_in one change) (change_in old change) (form_at one within) p
    (replacement_stays change old one has grows).1 (ap as_formula inside.1) is

-- what replaces the symbol was taken in first
module _ (old one new : List Tree) (lawful rest by made n : ℕ) (g : Grows old one) (law : HasForm old lawful)
    (there : HasForm old rest) where
  stays : implication (form_at one lawful) (form_at one rest)
      ≡ implication (form_at old lawful) (form_at old rest)
  stays = λ i. implication ((form_stays old one g lawful law).1 i) ((form_stays old one g rest there).1 i)

  pub rel_changed : (p : FormTree) → IsAt one by (a_form p)
      → IsAt new made (a_form (changed_form (change_rel n (form_at one by)) 0
      (implication (form_at one lawful) (form_at one rest))))
      → IsAt new made (a_form (changed_form (change_rel n p) 0 (implication (form_at old lawful) (form_at old rest))))
  rel_changed p taken is =
      (is.0, is.1 ∙ (λ i. a_form (changed_form (change_rel n (as_formula (taken.1 i))) 0 (stays i))))

  pub fun_changed : (t : TermTree) → IsAt one by (a_term t)
      → IsAt new made (a_form (changed_form (change_fun n (term_at one by)) 0
      (implication (form_at one lawful) (form_at one rest))))
      → IsAt new made (a_form (changed_form (change_fun n t) 0 (implication (form_at old lawful) (form_at old rest))))
  fun_changed t taken is =
      (is.0, is.1 ∙ (λ i. a_form (changed_form (change_fun n (as_term (taken.1 i))) 0 (stays i))))

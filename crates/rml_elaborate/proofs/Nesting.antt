-- How deep the binders of an expression lie inside one another.
use Rattle.std.proofs.Common.{◌≡◌, ◌≤◌, ◌-◌, ◌+◌, ℕ, zero, suc, List, [], ◌∷◌, length, refl, sym, ap, ◌∙◌, subst, arith}
use Rattle.rml_terms.specs.declared.tree.Binder.{Binder}
use Rattle.rml_terms.specs.declared.tree.Quantifier.{Quantifier}
use Rattle.rml_terms.specs.Tree.{ExprTree, ExprTrees, Quantified}
use Rattle.rml_terms.specs.Shape.{ExprNests, ExprsNest, max_nesting}
use Rattle.rml_names.specs.declared.scope.Scope.TheVariants.{Outside}
use Rattle.rml_names.specs.declared.scope.Scope.TheViews.{rolls-Outside}
use Rattle.rml_names.specs.declared.scope.Scope.TheOpen as opened
use Rattle.rml_names.specs.declared.scope.Scope.TheFolds.{fold-roll-Scope}
use Rattle.rml_names.specs.Meanings.{BoundName}
use Rattle.rml_names.specs.Scopes.{bound_names, scope_step, max_bound}
use Rattle.rml_names.specs.Nesting.{nests_more, nest_more}

-- under m binders
pub record NestsUnder (m : ℕ) (a : ExprTree) : Type 0 where
  pub few : m ≤ max_bound
  pub nests : ExprNests (max_bound - m) a

pub nests_under : (q : Quantifier) (at : ℕ) (b : Binder) (a : ExprTree) (k n m : ℕ) → n ≡ max_bound - k → m ≡ k + 1
    → ExprNests n (Quantified q at b a) → NestsUnder m a
nests_under q at b a k zero m left more h = absurd h
nests_under q at b a k (suc n) m left more h =
    let less : n ≡ max_bound - m = omega arith in
    record { few = omega arith; nests = subst (λ (i : ℕ). ExprNests i a) less h }

-- the body of a quantifier, under its binder
pub nests_inside : (q : Quantifier) (at : ℕ) (b : Binder) (a : ExprTree) (x : BoundName) (bs inner : List BoundName)
    → inner ≡ x ∷ bs
    → ExprNests (max_bound - length bs) (Quantified q at b a) → NestsUnder (length inner) a
nests_inside q at b a x bs inner is h =
    let more : length inner ≡ length bs + 1 = omega (arith, ap length is) in
    nests_under q at b a (length bs) (max_bound - length bs) (length inner) refl more h

-- without a binder around
outside : bound_names Outside ≡ []
outside = ap bound_names (sym rolls-Outside) ∙ fold-roll-Scope (List BoundName) scope_step opened.Outside

pub nests_outside : (e : ExprTree) → ExprNests max_nesting e → ExprNests (max_bound - length (bound_names Outside)) e
nests_outside e h =
    nests_more e max_nesting (max_bound - length (bound_names Outside)) (omega (arith, ap length outside)) h

pub nest_outside : (es : ExprTrees) → ExprsNest max_nesting es → ExprsNest (max_bound - length (bound_names Outside)) es
nest_outside es h =
    nest_more es max_nesting (max_bound - length (bound_names Outside)) (omega (arith, ap length outside)) h

-- What a walk knows of its nodes stays so as the pool grows.
use Rattle.std.proofs.Common.{◌≡◌, ℕ, ◌-◌, ◌<◌, ◌≤◌, ◌==◌, ◌&&◌, if◌then◌else◌, Bool, true, false, List, length}
use Rattle.std.proofs.Common.{get_or, max, Some, refl, sym, ap, subst, ◌∙◌, arith}
use Rattle.std.proofs.lemmas.Bool.{eqb-true}
use Rattle.std.specs.List.{All}
use Rattle.std.proofs.Math.Nat.{max-le}
use Rattle.fol_formula.specs.Syntax.{top, bottom, rel, equal, negation, conjunction, disjunction}
use Rattle.fol_formula.specs.Syntax.{implication, equivalence, for_all, for_some, bound, app, ite}
use Rattle.fol_subst.specs.Rules.{Rules, form_by, term_by}
use Rattle.fol_pool.specs.Trees.{Tree, IsAt, Grows, a_form, some_forms, a_term, some_terms, tree_at, form_at, term_at}
use Rattle.fol_pool.specs.Trees.{HasForm, HasTerm, as_formula, as_term}
use Rattle.fol_pool.specs.Growing.{stays_below, tree_stays, stays_at}
use Rattle.fol_pool.specs.declared.shape.Node.{Node}
use Rattle.pool_subst.specs.Memos.{Entries, kept, AreRight}
use Rattle.pool_subst.specs.Walks.{tree_by, parts_by, top_by}

-- two parts stand below a node where each does
pub both_below : (a b n : ℕ) → a < n → b < n → max a b < n
both_below a b n p q =
    let most : max a b ≤ n - 1 = max-le {a = a} {b = b} {k = n - 1} (omega (arith, p)) (omega (arith, q)) in
    omega (arith, most, p)

-- an end of a row has no greater number than the row
pub end_below : (ends : List Node) (i row : ℕ) (end : Node) → All (λ n. n.0 ≤ row) ends → i < length ends
    → end ≡ get_or ends i end → end.0 ≤ row
end_below ends i row end most lt is = subst (λ (n : Node). n.0 ≤ row) (sym is) (most i end lt)

-- ---- the parts first, and then the top

whole : (r : Rules) (d : ℕ) (t : Tree) → top_by r d (parts_by r d t) ≡ tree_by r d t
whole r d (a_form top) = refl
whole r d (a_form bottom) = refl
whole r d (a_form (rel q args)) = refl
whole r d (a_form (equal a b)) = refl
whole r d (a_form (negation p)) = refl
whole r d (a_form (conjunction ps)) = refl
whole r d (a_form (disjunction ps)) = refl
whole r d (a_form (implication p q)) = refl
whole r d (a_form (equivalence p q)) = refl
whole r d (a_form (for_all k p)) = refl
whole r d (a_form (for_some k p)) = refl
whole r d (some_forms ps) = refl
whole r d (a_term (bound i)) = refl
whole r d (a_term (app f args)) = refl
whole r d (a_term (ite p a b)) = refl
whole r d (some_terms ts) = refl

-- ---- what was made before

-- the rules say the same
pub right_along : (q r : Rules) (ts : List Tree) (es : Entries) → q ≡ r → AreRight q ts es → AreRight r ts es
right_along q r ts es e right = subst (λ (s : Rules). AreRight s ts es) e right

-- what became of a node, by rules that say the same, of what stood there before
pub made_along : (q r : Rules) (old now new : List Tree) (d n made : ℕ) → q ≡ r → Grows old now → n < length old
    → IsAt new made (tree_by q d (tree_at now n)) → IsAt new made (tree_by r d (tree_at old n))
made_along q r old now new d n made e g lt h =
    (h.0, h.1 ∙ (λ i. tree_by (e i) d (tree_stays old now g n lt i)))

-- what became of a shape whose parts were changed
pub made_whole : (q r : Rules) (new : List Tree) (d made : ℕ) (shape old : Tree) → q ≡ r
    → shape ≡ parts_by r d old → IsAt new made (top_by q d shape) → IsAt new made (tree_by r d old)
made_whole q r new d made shape old e parts h = (h.0, h.1 ∙ (λ i. top_by (e i) d (parts i)) ∙ whole r d old)

-- ---- a choice

module _ (r : Rules) (d : ℕ) (old new : List Tree) (n made : ℕ) (is : IsAt new made (tree_by r d (tree_at old n))) where
  form_is : HasForm old n → form_at new made ≡ form_by r d (form_at old n)
  form_is has = ap as_formula (is.1 ∙ ap (tree_by r d) has.1)

  term_is : HasTerm old n → term_at new made ≡ term_by r d (term_at old n)
  term_is has = ap as_term (is.1 ∙ ap (tree_by r d) has.1)

-- the condition was changed first, then the two terms
pub choice : (q r : Rules) (old now new : List Tree) (d : ℕ) (p a b x y z : Node) (tree : Tree) → q ≡ r
    → Grows old now → Grows now new → HasForm old p.0 → HasTerm old a.0 → HasTerm old b.0
    → IsAt now x.0 (tree_by r d (tree_at old p.0)) → IsAt new y.0 (tree_by q d (tree_at now a.0))
    → IsAt new z.0 (tree_by q d (tree_at now b.0))
    → a_term (ite (form_at old p.0) (term_at old a.0) (term_at old b.0)) ≡ tree
    → a_term (ite (form_at new x.0) (term_at new y.0) (term_at new z.0)) ≡ parts_by r d tree
choice q r old now new d p a b x y z tree e g more cond one two first second third is =
    let f = form_is r d old new p.0 x.0 (stays_at now new more x.0 (tree_by r d (tree_at old p.0)) first) cond in
    let s = term_is r d old new a.0 y.0 (made_along q r old now new d a.0 y.0 e g one.0 second) one in
    let t = term_is r d old new b.0 z.0 (made_along q r old now new d b.0 z.0 e g two.0 third) two in
    (λ i. a_term (ite (f i) (s i) (t i))) ∙ ap (parts_by r d) is

-- ---- what is noted

module _ (r : Rules) (old new : List Tree) (before after : Entries) (at : Node) (depth : ℕ) (made : Node)
    (grows : Grows old new) (right : AreRight r new before) (lt : at.0 < length old)
    (is : IsAt new made.0 (tree_by r depth (tree_at old at.0)))
    (noted : (n d : ℕ)
    → kept after n d ≡ (if (at.0 == n) && (depth == d) then Some made else kept before n d)) where
  abbrev Right : ℕ → ℕ → Node → Type 0
  Right n d made = (n < length new) × IsAt new made.0 (tree_by r d (tree_at new n))

  one : Right at.0 depth made
  one = (
    stays_below old new grows at.0 lt,
    (is.0, is.1 ∙ ap (tree_by r depth) (sym (tree_stays old new grows at.0 lt))),
  )

  cases : (n d : ℕ) (m : Node) (a b : Bool) → (at.0 == n) ≡ a → (depth == d) ≡ b
      → (if a && b then Some made else kept before n d) ≡ Some m → Right n d m
  cases n d m true true p q e =
      subst (λ (k : ℕ). Right k d m) (eqb-true at.0 n p)
      (subst (λ (k : ℕ). Right at.0 k m) (eqb-true depth d q) (subst (λ (k : Node). Right at.0 depth k) (same e) one))
    where
      same : Some made ≡ Some m → made ≡ m
      same e = cc e
  cases n d m true false p q e = right n d m e
  cases n d m false b p q e = right n d m e

  pub noted_right : AreRight r new after
  noted_right n d m e = cases n d m (at.0 == n) (depth == d) refl refl (sym (noted n d) ∙ e)

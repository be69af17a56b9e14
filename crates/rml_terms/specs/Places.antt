-- Where the names and the nodes of an expression begin, in the order of reading.
use Rattle.std.specs.Prelude.{ℕ, Bool, true, false, List, [], ◌∷◌, ◌++◌, map}
use Rattle.rml_terms.specs.declared.tree.Name.{Name}
use Rattle.rml_terms.specs.Tree.{ExprTree, ExprTrees, True, False, Apply, Ite, Equal, Not, And, Or, Implies, Iff}
use Rattle.rml_terms.specs.Tree.{Quantified, no_expr, and_expr}

-- where each of the names begins
abbrev pub name_places : List Name → List ℕ
name_places names = map (λ n. n.start) names

-- The places of an expression. Binders of one list are quantifiers inside one another that all stand at the word before
-- the list: so a quantifier that is the body of another (`inner`) has the places of its binder and its body alone.
abbrev mutual
  pub places_in : Bool → ExprTree → List ℕ
  places_in inner (True at) = at ∷ []
  places_in inner (False at) = at ∷ []
  places_in inner (Apply name args) = name.start ∷ places_of_exprs args
  places_in inner (Ite at c a b) = at ∷ (places_in false c ++ (places_in false a ++ places_in false b))
  places_in inner (Equal at a b) = at ∷ (places_in false a ++ places_in false b)
  places_in inner (Not at a) = at ∷ places_in false a
  places_in inner (And at args) = at ∷ places_of_exprs args
  places_in inner (Or at args) = at ∷ places_of_exprs args
  places_in inner (Implies at a b) = at ∷ (places_in false a ++ places_in false b)
  places_in inner (Iff at a b) = at ∷ (places_in false a ++ places_in false b)
  places_in true (Quantified q at b a) = b.name.start ∷ b.sort.start ∷ places_in true a
  places_in false (Quantified q at b a) = at ∷ b.name.start ∷ b.sort.start ∷ places_in true a

  pub places_of_exprs : ExprTrees → List ℕ
  places_of_exprs no_expr = []
  places_of_exprs (and_expr e es) = places_in false e ++ places_of_exprs es

-- the places of an expression that stands by itself: a quantifier at its front has its own
abbrev pub places_of_expr : ExprTree → List ℕ
places_of_expr e = places_in false e

-- Formulas at nodes, one by one.
use Rattle.std.proofs.Common.{◌≡◌, ℕ, ◌<◌, List, [], ◌∷◌, length, get_or, zero, suc, sym, ap, ◌∙◌, arith}
use Rattle.std.proofs.lemmas.List.{length-map}
use Rattle.std.specs.Prelude.{slice_index_or}
use Rattle.fol_formula.specs.Syntax.{FormTree, top}
use Rattle.fol_pool.specs.Trees.{Tree, IsAt, a_form, form_at}
use Rattle.fol_pool.specs.Rows.{AreForms, forms_are}
use Rattle.fol_pool.specs.declared.shape.Node.{Node}

pub forms_length : (ts : List Tree) (ns : List Node) (ps : List FormTree) → AreForms ts ns ps → length ns ≡ length ps
forms_length ts ns ps h =
    sym (length-map ns (λ (n : Node). form_at ts n.0)) ∙ ap length (forms_are ts ns ps h)

-- the formula of one number
pub formula_there : (ts : List Tree) (ns : List Node) (ps : List FormTree) (k : ℕ) (d : Node) → AreForms ts ns ps
    → k < length ns → IsAt ts (get_or ns k d).0 (a_form (slice_index_or ps k top))
formula_there ts [] ps k d h lt = absurd (omega (arith, lt))
formula_there ts (n ∷ ns) [] k d h lt = absurd h
formula_there ts (n ∷ ns) (p ∷ ps) zero d h lt = h.0
formula_there ts (n ∷ ns) (p ∷ ps) (suc k) d h lt = formula_there ts ns ps k d h.1 (omega (arith, lt))

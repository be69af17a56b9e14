-- A log that ends with the empty clause has an empty addition.
use Rattle.std.proofs.Common.{◌≡◌, ℕ, true, List, [], ◌∷◌, ◌++◌, refl, ap, ◌∙◌}
use Rattle.lrat_log.specs.declared.line.Line.{Line}
use Rattle.lrat_log.specs.declared.line.Line.TheVariants.{Add, Delete}
use Rattle.lrat_log.specs.Accepted.{adds_empty}
use Rattle.lrat_log.specs.Refutations.{IsRefutation}
use Rattle.cnf_base.specs.Formulas.{Formula}

ends-empty : (before : List Line) (id : ℕ) (hints : List ℕ) → adds_empty (before ++ Add id [] hints ∷ []) ≡ true
ends-empty [] id hints = refl
ends-empty (Add k [] hs ∷ lines) id hints = refl
ends-empty (Add k (l ∷ ls) hs ∷ lines) id hints = ends-empty lines id hints
ends-empty (Delete k ids ∷ lines) id hints = ends-empty lines id hints

pub refutes : (f : Formula) (budget : ℕ) (lines : List Line) → IsRefutation f budget lines → adds_empty lines ≡ true
refutes f budget lines r = ap adds_empty r.ends ∙ ends-empty r.before r.id r.hints

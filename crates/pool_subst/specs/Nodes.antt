-- Nodes at which terms stand.
use Rattle.std.specs.Prelude.{List, map}
use Rattle.std.specs.List.{AllByRecursion}
use Rattle.fol_formula.specs.Syntax.{TermTree}
use Rattle.fol_pool.specs.Trees.{Tree, HasTerm, term_at}
use Rattle.fol_pool.specs.declared.shape.Node.{Node}

-- a term stands at each
abbrev pub HaveTerms : List Tree → List Node → Type 0
HaveTerms ts nodes = AllByRecursion (λ n. HasTerm ts n.0) nodes

-- the terms that stand there
abbrev pub terms_of : List Tree → List Node → List TermTree
terms_of ts nodes = map (λ n. term_at ts n.0) nodes

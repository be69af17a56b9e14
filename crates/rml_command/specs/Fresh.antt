-- Havocs of relations written out: the havoc of a relation is an update to a fresh relation, whose tables are the
-- values that it may give.
use Rattle.std.specs.Prelude.{◌≡◌, ℕ, zero, suc, List, [], ◌∷◌, length, map, Option, Some, None}
use Rattle.std.specs.List.{AllByRecursion}
use Rattle.fol_sig.specs.Tables.{Declared, Tables, IsSignature}
use Rattle.fol_sig.specs.Symbols.{Symbols, FitsStructure, symbols}
use Rattle.fol_sig.specs.Constants.{reduct}
use Rattle.fol_sig.specs.TupleSets.{tuples_of}
use Rattle.fol_sig.specs.Growing.{GrowsByRelations, GrowsSignatureByRelations, grown_by_relations}
use Rattle.fol_formula.specs.Syntax.{FormTree, TermTrees, rel, bound, no_terms, term_then}
use Rattle.fol_formula.specs.Fits.{FitsForm}
use Rattle.rml_command.specs.Trees.{PrimitiveTree, assume, set_rel, set_fun, havoc, havoc_rel, abort}
use Rattle.rml_command.specs.Outcomes.{Outcome, ended, aborted, follow_path}
use Rattle.rml_command.specs.Models.{FitsPath}
use Rattle.rml_command.specs.Fragment.{IsInFragment}
use Rattle.rml_command.specs.declared.havoc.Havoc.{Havoc}
use Rattle.rml_command.specs.declared.havoc.Havoc.TheVariants.{Element, Tuples}

-- so many parameters in order, the last one 0
abbrev pub parameters : ℕ → TermTrees
parameters zero = no_terms
parameters (suc n) = term_then (bound n) (parameters n)

-- a relation at its parameters
abbrev pub at_parameters : ℕ → ℕ → FormTree
at_parameters r n = rel r (parameters n)

-- the path where each havoc of a relation is an update to a relation of its own, numbered from n on
abbrev pub written : Symbols → ℕ → List PrimitiveTree → List PrimitiveTree
written sig n [] = []
written sig n (assume p ∷ qs) = assume p ∷ written sig n qs
written sig n (set_rel r by ∷ qs) = set_rel r by ∷ written sig n qs
written sig n (set_fun f by ∷ qs) = set_fun f by ∷ written sig n qs
written sig n (havoc v ∷ qs) = havoc v ∷ written sig n qs
written sig n (havoc_rel r ∷ qs) = set_rel r (at_parameters n (length (sig.sorts_of r))) ∷ written sig (suc n) qs
written sig n (abort ∷ qs) = abort ∷ written sig n qs

-- the argument sorts of the relations that a path havocs, in order
abbrev pub havocked : Symbols → List PrimitiveTree → List (List ℕ)
havocked sig [] = []
havocked sig (assume p ∷ qs) = havocked sig qs
havocked sig (set_rel r by ∷ qs) = havocked sig qs
havocked sig (set_fun f by ∷ qs) = havocked sig qs
havocked sig (havoc v ∷ qs) = havocked sig qs
havocked sig (havoc_rel r ∷ qs) = sig.sorts_of r ∷ havocked sig qs
havocked sig (abort ∷ qs) = havocked sig qs

-- The signature with one fresh relation behind its own for each havoc of a relation, in order, with the arguments of
-- the relation that is havocked.
abbrev pub with_fresh : Declared → List PrimitiveTree → Declared
with_fresh sig p = grown_by_relations sig (havocked (symbols sig) p)

-- What following a path takes: these elements for the variables, and for the relations the tuples of which the fresh
-- relations are true, which are numbered from n on.
abbrev pub havocs_under : Tables → ℕ → List PrimitiveTree → List ℕ → List Havoc
havocs_under t n [] xs = []
havocs_under t n (assume p ∷ qs) xs = havocs_under t n qs xs
havocs_under t n (set_rel r by ∷ qs) xs = havocs_under t n qs xs
havocs_under t n (set_fun f by ∷ qs) xs = havocs_under t n qs xs
havocs_under t n (havoc v ∷ qs) [] = []
havocs_under t n (havoc v ∷ qs) (x ∷ xs) = Element x ∷ havocs_under t n qs xs
havocs_under t n (havoc_rel r ∷ qs) xs = Tuples (tuples_of t n) ∷ havocs_under t (suc n) qs xs
havocs_under t n (abort ∷ qs) xs = havocs_under t n qs xs

-- an outcome without the fresh relations
abbrev pub cut_outcome : Symbols → Option Outcome → Option Outcome
cut_outcome sig None = None
cut_outcome sig (Some (ended t)) = Some (ended (reduct sig t))
cut_outcome sig (Some aborted) = Some aborted

-- Following a path under the tables of its fresh relations, from the structure without them, is following the path
-- where its relation havocs are written out.
abbrev pub FreshTablesAreFollowed : Type 0
FreshTablesAreFollowed = (sig more : Symbols) (axioms : List FormTree) (p : List PrimitiveTree) (t : Tables)
    (xs : List ℕ) → GrowsByRelations sig (havocked sig p) more → AllByRecursion (FitsForm sig []) axioms
    → FitsPath sig p → FitsStructure more t
    → follow_path axioms p (havocs_under t sig.relations p xs) (reduct sig t)
    ≡ cut_outcome sig (follow_path axioms (written sig sig.relations p) (map Element xs) t)

-- the path that is written out has the symbols of the grown signature, and stays in the fragment
pub record WrittenFits (sig more : Symbols) (p : List PrimitiveTree) : Type 0 where
  pub fits : FitsPath more (written sig sig.relations p)
  pub fragment : AllByRecursion IsInFragment p → AllByRecursion IsInFragment (written sig sig.relations p)

-- so it is of every path that fits its signature
abbrev pub WrittenPathsFit : Type 0
WrittenPathsFit = (sig more : Symbols) (p : List PrimitiveTree) → GrowsByRelations sig (havocked sig p) more
    → FitsPath sig p → WrittenFits sig more p

-- the signature with fresh relations is one that grew by them
abbrev pub FreshSignaturesGrow : Type 0
FreshSignaturesGrow = (sig : Declared) (p : List PrimitiveTree) → IsSignature sig → FitsPath (symbols sig) p
    → GrowsSignatureByRelations sig (havocked (symbols sig) p)

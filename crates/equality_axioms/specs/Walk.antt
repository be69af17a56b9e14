-- What the walk over the tuples of a scheme keeps.
use Rattle.std.specs.Prelude.{ℕ, ◌<◌, List, ◌++◌, length}
use Rattle.fol_sig.specs.Symbols.{Symbols}
use Rattle.fol_sig.specs.Tables.{InRange}
use Rattle.equality_axioms.specs.declared.scheme.Scheme.{Scheme}
use Rattle.equality_axioms.specs.declared.scheme.Scheme.TheVariants.{Reflexive, Symmetric, Transitive, Relation}
use Rattle.equality_axioms.specs.declared.scheme.Scheme.TheVariants.{Function}
use Rattle.equality_axioms.specs.Axioms.{scheme_sorts}

-- the symbols have what the scheme names
abbrev pub IsSchemeOf : Symbols → Scheme → Type 0
IsSchemeOf sig (Reflexive k) = k.0 < sig.sorts
IsSchemeOf sig (Symmetric k) = k.0 < sig.sorts
IsSchemeOf sig (Transitive k) = k.0 < sig.sorts
IsSchemeOf sig (Relation r i) = (r.0 < sig.relations) × (i < length (sig.sorts_of r.0))
IsSchemeOf sig (Function f i) = (f.0 < sig.functions) × (i < length (sig.from_of f.0))

-- with any terms of these sorts behind it, the tuple is one of terms that the scheme ranges over
abbrev pub FillsScheme : Symbols → List ℕ → Scheme → List ℕ → List ℕ → Type 0
FillsScheme sig counts scheme tuple sorts =
    (xs : List ℕ) → InRange counts sorts xs → InRange counts (scheme_sorts sig scheme) (tuple ++ xs)

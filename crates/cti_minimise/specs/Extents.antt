-- What counterexamples are compared by: the sizes of the sorts, and then of how many tuples each relation is true.
use Rattle.std.specs.Prelude.{ℕ, ◌+◌, ◌<◌, nat_lt, if◌then◌else◌, false, List, ◌++◌, length, map, count_by}
use Rattle.fol_sig.specs.Tables.{Tables, Declared, RelationTable, cell_at}
use Rattle.fol_sig.specs.Tuples.{tuples}
use Rattle.rml_report.specs.declared.least.Bound.{Bound}
use Rattle.rml_report.specs.declared.least.Bound.TheVariants.{Sort, Rel}

-- how many of the tuples of elements of its argument sorts a relation is true of
abbrev pub true_tuples : List ℕ → RelationTable → ℕ
true_tuples sizes t = count_by (λ xs. cell_at sizes t xs false) (tuples sizes t.sorts)

-- the sizes of the sorts and then the numbers of the relations' true tuples, each in order of declaration
abbrev pub extent : Tables → List ℕ
extent s = s.sizes ++ map (true_tuples s.sizes) s.relations

-- how many numbers that are
abbrev pub places : Declared → ℕ
places sig = sig.sorts + length sig.relations

-- the place of a sort's size, or of a relation's number, among them
abbrev pub bound_place : Declared → Bound → ℕ
bound_place sig (Sort k) = k.0
bound_place sig (Rel r) = sig.sorts + r.0

-- the signature has that sort, or that relation
abbrev pub HasBound : Declared → Bound → Type 0
HasBound sig (Sort k) = k.0 < sig.sorts
HasBound sig (Rel r) = r.0 < length sig.relations

-- the least number that a structure may have at a place: a sort has an element, and a relation may be false
abbrev pub lowest : Declared → ℕ → ℕ
lowest sig place = if nat_lt place sig.sorts then 1 else 0

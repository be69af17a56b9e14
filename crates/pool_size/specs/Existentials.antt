-- How often the nodes of a pool stand in a sentence, and the existentials of one sort that are counted by that. Private
-- contracts alone cite this.
use Rattle.std.specs.Prelude.{◌≡◌, ℕ, zero, suc, ◌+◌, ◌*◌, ◌<◌, Bool, true, false, List, length, get_or, set}
use Rattle.std.specs.Prelude.{slice_index}
use Rattle.fol_formula.specs.Syntax.{FormTree}
use Rattle.fol_formula.specs.Counts.{saturated}
use Rattle.fol_pool.specs.Trees.{Tree, a_form, some_forms, a_term, some_terms, tree_at}
use Rattle.fol_pool.specs.declared.shape.Shape.{Shape}
use Rattle.fol_pool.specs.declared.shape.Shape.TheVariants as shape
use Rattle.ground_size.specs.Existentials.{some, some_of_all}
use Rattle.ground_size.specs.Walks.{raised_at}
use Rattle.ground_size.specs.declared.signed.SignedCount.{SignedCount}

-- the existentials of a sort in the normal form of a tree, or of its negation; a term has none
abbrev pub some_in : ℕ → Bool → Tree → ℕ
some_in k positive (a_form p) = some k positive p
some_in k positive (some_forms ps) = some_of_all k positive ps
some_in k positive (a_term t) = 0
some_in k positive (some_terms ts) = 0

-- those of a tree that stands so many times as it is, and so many times negated
abbrev pub some_times : ℕ → Tree → SignedCount → ℕ
some_times k t s = s.positive * some_in k true t + s.negative * some_in k false t

-- a node that stands nowhere
abbrev pub nowhere : SignedCount
nowhere = record { positive = 0; negative = 0 }

-- how often a node stands
abbrev pub entry : List SignedCount → ℕ → SignedCount
entry table n = get_or table n nowhere

-- the existentials of the first n nodes, each of which stands as often as the table says
abbrev pub some_below : ℕ → List Tree → List SignedCount → ℕ → ℕ
some_below k ts table zero = 0
some_below k ts table (suc n) = some_below k ts table n + some_times k (tree_at ts n) (entry table n)

-- what stands so many times as it is, and so many times negated, stands the other way round in a negation
abbrev pub turned : SignedCount → SignedCount
turned s = record { positive = s.negative; negative = s.positive }

-- a side of an equivalence stands there as it is and negated, each as often as the equivalence in all
abbrev pub both_ways : SignedCount → SignedCount
both_ways s = record {
  positive = saturated (s.positive + s.negative);
  negative = saturated (s.positive + s.negative);
}

-- what stands as often as both say, in 64 bits
abbrev pub together : SignedCount → SignedCount → SignedCount
together s x = record {
  positive = saturated (s.positive + x.positive);
  negative = saturated (s.negative + x.negative);
}

-- the table where a node stands so many times more
abbrev pub with_more : List SignedCount → ℕ → SignedCount → List SignedCount
with_more table n more = set table n (together (entry table n) more)

-- the table where the parts of a shape stand so many times more, as they stand in it
abbrev pub with_parts : Shape → SignedCount → List SignedCount → List SignedCount
with_parts (shape.Not p) s table = with_more table p.0 (turned s)
with_parts (shape.And ps) s table = with_more table ps.0 s
with_parts (shape.Or ps) s table = with_more table ps.0 s
with_parts (shape.Implies p q) s table = with_more (with_more table p.0 (turned s)) q.0 s
with_parts (shape.Iff p q) s table = with_more (with_more table p.0 (both_ways s)) q.0 (both_ways s)
with_parts (shape.Forall k p) s table = with_more table p.0 s
with_parts (shape.Exists k p) s table = with_more table p.0 s
with_parts (shape.FormThen p ps) s table = with_more (with_more table p.0 s) ps.0 s
with_parts _ s table = table

-- the counts of the sorts with the quantifier of a shape that stands so many times: a universal is an existential
-- where it is negated
abbrev pub with_quantifier : Shape → SignedCount → List ℕ → List ℕ
with_quantifier (shape.Forall k p) s counts = raised_at counts k.0 s.negative
with_quantifier (shape.Exists k p) s counts = raised_at counts k.0 s.positive
with_quantifier _ s counts = counts

-- of each sort, what is counted and what the first n nodes have makes up as much as before and a tree that stood so
-- many times
abbrev pub IsSharedOut : List Tree → ℕ → Tree → SignedCount → List ℕ → List SignedCount → List ℕ → List SignedCount
    → Type 0
IsSharedOut ts n t s counts table counts' table' = (k : ℕ) → k < length counts
    → saturated (slice_index counts' k + some_below k ts table' n)
    ≡ saturated (slice_index counts k + some_below k ts table n + some_times k t s)

-- of each sort, what is counted and what the first n nodes have makes up the existentials of a formula
abbrev pub AreAwaited : ℕ → FormTree → List Tree → List ℕ → List SignedCount → ℕ → Type 0
AreAwaited sorts p ts counts table n = (k : ℕ) → k < sorts
    → saturated (slice_index counts k + some_below k ts table n) ≡ saturated (some k true p)

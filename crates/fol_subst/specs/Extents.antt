-- How large the result of a replacement is, counted without the result, as the code counts. Counts stop at 1000001.
use Rattle.std.specs.Prelude.{ℕ, suc, ◌+◌, ◌-◌, ◌*◌, ◌==◌, nat_lt, ◌||◌, max, min, if◌then◌else◌, Bool, false}
use Rattle.fol_formula.specs.Counts.{form_nodes, form_depth, term_nodes, term_depth}
use Rattle.fol_formula.specs.Syntax.{FormTree, FormTrees, TermTree, TermTrees, top, bottom, rel, equal, negation}
use Rattle.fol_formula.specs.Syntax.{conjunction, disjunction, implication, equivalence, for_all, for_some, no_forms}
use Rattle.fol_formula.specs.Syntax.{form_then, bound, app, ite, no_terms, term_then, size_of}
use Rattle.fol_subst.specs.Replace.{Change, change_rel, change_fun, change_const}
use Rattle.fol_subst.specs.declared.extent.Extent.{Extent}

-- a count that stops at 1000001
abbrev pub capped : ℕ → ℕ
capped n = min n 1000001

-- this count and depth
abbrev pub extent : ℕ → ℕ → Extent
extent count depth = record { count = capped count; depth = capped depth }

-- of no node
abbrev pub none : Extent
none = record { count = 0; depth = 0 }

-- of one node without any below it
abbrev pub one : Extent
one = record { count = 1; depth = 1 }

-- of two parts side by side: the counts together, and the greater depth
abbrev pub beside : Extent → Extent → Extent
beside a b = record { count = capped (a.count + b.count); depth = max a.depth b.depth }

-- one node above
abbrev pub over : Extent → Extent
over a = record { count = capped (a.count + 1); depth = capped (a.depth + 1) }

-- one level further down, where there is any
abbrev pub under : Extent → Extent
under a = record { count = a.count; depth = if a.depth == 0 then 0 else capped (a.depth + 1) }

-- a formula of this extent where these places of it, which count as one node each, hold a part each
abbrev pub put_in : Extent → Extent → Extent → Extent
put_in a places part = record {
  count = capped (a.count + places.count * (part.count - 1));
  depth = if places.depth == 0 then a.depth else max a.depth (capped (places.depth + part.depth - 1));
}

-- the places of an index, which has the next number under a binder
abbrev mutual
  pub places_form : ℕ → FormTree → Extent
  places_form i top = none
  places_form i bottom = none
  places_form i (rel r args) = under (places_terms i args)
  places_form i (equal a b) = under (beside (places_term i a) (places_term i b))
  places_form i (negation p) = under (places_form i p)
  places_form i (conjunction ps) = under (places_forms i ps)
  places_form i (disjunction ps) = under (places_forms i ps)
  places_form i (implication p q) = under (beside (places_form i p) (places_form i q))
  places_form i (equivalence p q) = under (beside (places_form i p) (places_form i q))
  places_form i (for_all k p) = under (places_form (suc i) p)
  places_form i (for_some k p) = under (places_form (suc i) p)

  pub places_forms : ℕ → FormTrees → Extent
  places_forms i no_forms = none
  places_forms i (form_then p ps) = beside (places_form i p) (places_forms i ps)

  pub places_term : ℕ → TermTree → Extent
  places_term i (bound n) = if n == i then one else none
  places_term i (app f args) = under (places_terms i args)
  places_term i (ite p a b) = under (beside (places_form i p) (beside (places_term i a) (places_term i b)))

  pub places_terms : ℕ → TermTrees → Extent
  places_terms i no_terms = none
  places_terms i (term_then t ts) = beside (places_term i t) (places_terms i ts)

-- the extent of what replaces the symbol; that of an index is one node
abbrev pub extent_of : Change → Extent
extent_of (change_rel r by) = extent (form_nodes by) (form_depth by)
extent_of (change_fun g by) = extent (term_nodes by) (term_depth by)
extent_of (change_const g index) = one

-- the places of parameter i in what replaces the symbol; an index has no parameters
abbrev pub places_of : Change → ℕ → Extent
places_of (change_rel r by) i = places_form i by
places_of (change_fun g by) i = places_term i by
places_of (change_const g index) i = none

-- whether this relation is replaced
abbrev pub changes_rel : Change → ℕ → Bool
changes_rel (change_rel r by) q = q == r
changes_rel (change_fun g by) q = false
changes_rel (change_const g index) q = false

-- whether this function or variable is replaced
abbrev pub changes_fun : Change → ℕ → Bool
changes_fun (change_rel r by) f = false
changes_fun (change_fun g by) f = f == g
changes_fun (change_const g index) f = f == g

-- the extent of the result
abbrev mutual
  pub extent_form : Change → FormTree → Extent
  extent_form c top = one
  extent_form c bottom = one
  extent_form c (rel q args) =
      if changes_rel c q then extent_instance c (extent_of c) args else over (extent_terms c args)
  extent_form c (equal a b) = over (beside (extent_term c a) (extent_term c b))
  extent_form c (negation p) = over (extent_form c p)
  extent_form c (conjunction ps) = over (extent_forms c ps)
  extent_form c (disjunction ps) = over (extent_forms c ps)
  extent_form c (implication p q) = over (beside (extent_form c p) (extent_form c q))
  extent_form c (equivalence p q) = over (beside (extent_form c p) (extent_form c q))
  extent_form c (for_all k p) = over (extent_form c p)
  extent_form c (for_some k p) = over (extent_form c p)

  pub extent_forms : Change → FormTrees → Extent
  extent_forms c no_forms = none
  extent_forms c (form_then p ps) = beside (extent_form c p) (extent_forms c ps)

  pub extent_term : Change → TermTree → Extent
  extent_term c (bound n) = one
  extent_term c (app f args) =
      if changes_fun c f then extent_instance c (extent_of c) args else over (extent_terms c args)
  extent_term c (ite p a b) = over (beside (extent_form c p) (beside (extent_term c a) (extent_term c b)))

  pub extent_terms : Change → TermTrees → Extent
  extent_terms c no_terms = none
  extent_terms c (term_then t ts) = beside (extent_term c t) (extent_terms c ts)

  -- the last argument is parameter 0
  pub extent_instance : Change → Extent → TermTrees → Extent
  extent_instance c whole no_terms = whole
  extent_instance c whole (term_then t ts) =
      extent_instance c (put_in whole (places_of c (size_of ts)) (extent_term c t)) ts

-- above the limits: more than 1000000 nodes, or deeper than 1000
abbrev pub is_over : Extent → Bool
is_over a = nat_lt 1000000 a.count || nat_lt 1000 a.depth

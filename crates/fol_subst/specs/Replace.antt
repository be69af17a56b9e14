-- A relation is replaced by a formula, a function by a term, or a variable by an index, without capture.
use Rattle.std.specs.Prelude.{◌≡◌, ℕ, ◌+◌, ◌-◌, ◌<◌, nat_lt, ◌==◌, if◌then◌else◌, Bool, List, [], length, slice_index}
use Rattle.std.specs.Prelude.{slice_index_or, reverse}
use Rattle.fol_sig.specs.Tables.{Reading}
use Rattle.fol_sig.specs.Symbols.{Symbols}
use Rattle.fol_formula.specs.Truth.{truth, value}
use Rattle.fol_formula.specs.Fits.{FitsForm, FitsTerm}
use Rattle.fol_formula.specs.Syntax.{FormTree, FormTrees, TermTree, TermTrees, rel, bound, app, list_of}
use Rattle.fol_subst.specs.Rules.{Rules, of_indices, form_by, forms_by, term_by, terms_by}
use Rattle.fol_subst.specs.Shift.{shift_term}

-- Under `depth` binders the index means a binder, or else an argument, which is taken under those binders; one beyond
-- the arguments is an index outside of them.
abbrev pub picked : ℕ → List TermTree → ℕ → TermTree
picked depth args i =
    if nat_lt i depth then bound i
    else shift_term 0 depth (slice_index_or args (i - depth) (bound (i - depth - length args)))

-- the rules by which arguments stand in the place of indices; symbols stay
abbrev pub putting : List TermTree → Rules
putting args = of_indices (λ depth i. picked depth args i)

-- the arguments stand in the place of the indices that are bound outside
abbrev pub put_form : ℕ → List TermTree → FormTree → FormTree
put_form depth args p = form_by (putting args) depth p

-- the same in a row of formulas
abbrev pub put_forms : ℕ → List TermTree → FormTrees → FormTrees
put_forms depth args ps = forms_by (putting args) depth ps

-- the same in a term
abbrev pub put_term : ℕ → List TermTree → TermTree → TermTree
put_term depth args t = term_by (putting args) depth t

-- the same in a row of terms
abbrev pub put_terms : ℕ → List TermTree → TermTrees → TermTrees
put_terms depth args ts = terms_by (putting args) depth ts

-- what is replaced: a relation by a formula, a function by a term, or a variable by the index that has this number
-- outside
pub data Change : Type 0 where
  change_rel : ℕ → FormTree → Change
  change_fun : ℕ → TermTree → Change
  change_const : ℕ → ℕ → Change

-- a relation before these arguments: what replaces it with them put in, or the atom as it is
abbrev pub rel_instance : Change → ℕ → TermTrees → FormTree
rel_instance (change_rel r by) q args = if q == r then put_form 0 (reverse (list_of args)) by else rel q args
rel_instance (change_fun g by) q args = rel q args
rel_instance (change_const g index) q args = rel q args

-- a function before these arguments, under `depth` binders: what replaces it with them put in, or the term as it is
abbrev pub app_instance : Change → ℕ → ℕ → TermTrees → TermTree
app_instance (change_rel r by) depth f args = app f args
app_instance (change_fun g by) depth f args = if f == g then put_term 0 (reverse (list_of args)) by else app f args
app_instance (change_const g index) depth f args = if f == g then bound (depth + index) else app f args

-- the rules of a change: indices stay
abbrev pub changing : Change → Rules
changing c = record {
  index = λ depth i. bound i;
  relation = λ q args. rel_instance c q args;
  function = λ depth f args. app_instance c depth f args;
}

-- the formula, which stands under `depth` binders, with the symbol replaced
abbrev pub changed_form : Change → ℕ → FormTree → FormTree
changed_form c depth p = form_by (changing c) depth p

-- the same of a row of formulas
abbrev pub changed_forms : Change → ℕ → FormTrees → FormTrees
changed_forms c depth ps = forms_by (changing c) depth ps

-- the same of a term
abbrev pub changed_term : Change → ℕ → TermTree → TermTree
changed_term c depth t = term_by (changing c) depth t

-- the same of a row of terms
abbrev pub changed_terms : Change → ℕ → TermTrees → TermTrees
changed_terms c depth ts = terms_by (changing c) depth ts

-- the structure with another table of r
abbrev pub with_rel : Reading → ℕ → (List ℕ → Bool) → Reading
with_rel s r table = record { size = s.size; rel = λ q xs. if q == r then table xs else s.rel q xs; fun = s.fun }

-- the structure with another table of g
abbrev pub with_fun : Reading → ℕ → (List ℕ → ℕ) → Reading
with_fun s g table = record { size = s.size; rel = s.rel; fun = λ f xs. if f == g then table xs else s.fun f xs }

-- the structure with the table of the symbol set to the values of what replaces it
abbrev pub updated : Reading → Change → List ℕ → Reading
updated s (change_rel r by) env = with_rel s r (λ xs. truth s by (reverse xs))
updated s (change_fun g by) env = with_fun s g (λ xs. value s by (reverse xs))
updated s (change_const g index) env = with_fun s g (λ xs. slice_index env index)

-- what replaces the symbol fits it
abbrev pub CanChange : Symbols → List ℕ → Change → Type 0
CanChange sig sorts (change_rel r by) = (r < sig.relations) × FitsForm sig (reverse (sig.sorts_of r)) by
CanChange sig sorts (change_fun g by) = (g < sig.functions) × FitsTerm sig (reverse (sig.from_of g)) by (sig.into_of g)
CanChange sig sorts (change_const g index) =
    (g < sig.functions) × (sig.from_of g ≡ []) × (index < length sorts) × (slice_index sorts index ≡ sig.into_of g)

-- true exactly where the old formula is true in the updated structure
abbrev pub IsReplaced : FormTree → Change → FormTree → Type 0
IsReplaced within c new = (s : Reading) (env : List ℕ) → truth s new env ≡ truth (updated s c env) within env

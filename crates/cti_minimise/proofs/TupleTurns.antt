-- The turns of the loops that make a bound on a relation.
use Rattle.std.proofs.Common.{◌≡◌, ℕ, suc, ◌+◌, ◌-◌, ◌*◌, ◌<◌, ◌≤◌, List, [], ◌∷◌, ◌++◌, length, map, drop, get_or}
use Rattle.std.proofs.Common.{sym, ap, ◌∙◌, arith}
use Rattle.std.proofs.lemmas.List.{drop_more, get_or-map, length-map}
use Rattle.fol_sig.specs.Tables.{numbers}
use Rattle.fol_sig.specs.declared.Sort.{Sort}
use Rattle.fol_formula.specs.Syntax.{FormTree, conjunction, form_then, forms_then}
use Rattle.fol_formula.specs.Lists.{FormLists}
use Rattle.fol_formula.specs.View.{form}
use Rattle.fol_formula.specs.declared.Formula.{Formula}
use Rattle.cti_minimise.specs.TupleBounds.{tuple_equations, tuple_choices}

-- One more quantifier in front, where F puts one for each sort and Q puts one.
pub quantified-more : (F : List ℕ → FormTree → FormTree) (Q : ℕ → FormTree → FormTree)
    → ((k : ℕ) (ks : List ℕ) (p : FormTree) → F (k ∷ ks) p ≡ Q k (F ks p))
    → (sorts : List Sort) (left : ℕ) (d : Sort) (p made new : FormTree) → 0 < left → left ≤ length sorts
    → made ≡ F (drop left (numbers sorts)) p → new ≡ Q (get_or sorts (left - 1) d).0 made
    → new ≡ F (drop (left - 1) (numbers sorts)) p
quantified-more F Q step sorts left d p made new some le before is =
    let i = left - 1 in
    let ks = numbers sorts in
    let next : i + 1 ≡ left = omega (arith, some) in
    let count = length-map sorts (λ (k : Sort). k.0) in
    let within : i < length sorts = omega (arith, some, le) in
    let lt : i < length ks = omega (arith, within, count) in
    let front = drop_more ks i 0 lt in
    let sort = get_or-map (λ (k : Sort). k.0) sorts i d 0 within in
    is ∙ ap (Q (get_or sorts i d).0) (before ∙ ap (λ j. F (drop j ks) p) (sym next))
    ∙ ap (λ k. Q k (F (drop (i + 1) ks) p)) (sym sort) ∙ sym (step (get_or ks i 0) (drop (i + 1) ks) p)
    ∙ ap (λ js. F js p) (sym front)

-- one more tuple
pub chosen-more : FormLists → (items new : List Formula) (f : Formula) (m left : ℕ) → 0 < left
    → new ≡ items ++ f ∷ [] → form f ≡ conjunction (tuple_equations (left * m) m)
    → forms_then (map form new) (tuple_choices m (left - 1)) ≡ forms_then (map form items) (tuple_choices m left)
chosen-more lists items new f m left some pushed is =
    let next : left ≡ suc (left - 1) = omega (arith, some) in
    let rest = tuple_choices m (left - 1) in
    ap (λ (xs : List Formula). forms_then (map form xs) rest) pushed ∙ lists.pushed items f rest
    ∙ ap (λ (p : FormTree). forms_then (map form items) (form_then p rest))
    (is ∙ ap (λ n. conjunction (tuple_equations (n * m) m)) next)
    ∙ ap (λ n. forms_then (map form items) (tuple_choices m n)) (sym next)

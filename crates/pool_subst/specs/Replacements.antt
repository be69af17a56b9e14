-- What a `Replacement` of nodes stands for.
use Rattle.std.specs.Prelude.{◌≡◌, List, refl}
use Rattle.std.proofs.Common.{ap}
use Rattle.fol_subst.specs.Replace.{Change, change_rel, change_fun, change_const, changing}
use Rattle.fol_pool.specs.Trees.{Tree, Grows, HasForm, HasTerm, form_at, term_at}
use Rattle.pool_subst.specs.Staying.{form_stays, term_stays}
use Rattle.pool_subst.specs.declared.replacement.Replacement.{Replacement}
use Rattle.pool_subst.specs.declared.replacement.Replacement.TheVariants.{Rel, Fun, Const}

-- what is replaced, and by what, as trees
abbrev pub change_in : List Tree → Replacement → Change
change_in ts (Rel r by) = change_rel r.0 (form_at ts by.0)
change_in ts (Fun g by) = change_fun g.0 (term_at ts by.0)
change_in ts (Const g index) = change_const g.0 index

-- a formula stands at the node by which a relation is replaced, a term at the one by which a function is
abbrev pub HasReplacement : List Tree → Replacement → Type 0
HasReplacement ts (Rel r by) = HasForm ts by.0
HasReplacement ts (Fun g by) = HasTerm ts by.0
HasReplacement ts (Const g index) = Unit {0}

-- ---- laws

-- the change stays the same as the pool grows
pub replacement_stays : (c : Replacement) (old new : List Tree) → HasReplacement old c → Grows old new
    → HasReplacement new c × (changing (change_in new c) ≡ changing (change_in old c))
replacement_stays (Rel r by) old new has grows =
    let s = form_stays old new grows by.0 has in
    (s.0, ap (λ p. changing (change_rel r.0 p)) s.1)
replacement_stays (Fun g by) old new has grows =
    let s = term_stays old new grows by.0 has in
    (s.0, ap (λ t. changing (change_fun g.0 t)) s.1)
replacement_stays (Const g index) old new has grows = (tt, refl)

-- Where the symbol that is replaced occurs among the nodes of a pool, by a table of the first nodes.
use Rattle.std.specs.Prelude.{◌≡◌, ◌≤◌, Bool, List, length, map, take}
use Rattle.std.proofs.Common.{sym, ap, ◌∙◌, arith}
use Rattle.std.proofs.lemmas.List.{take-append-le, length-take, length-map}
use Rattle.std.proofs.Math.Nat.{min-le_right}
use Rattle.fol_occurs.specs.Occurs.{Named, the_rel, the_fun, form_mentions, forms_mention, term_mentions, terms_mention}
use Rattle.fol_subst.specs.Replace.{changing}
use Rattle.fol_pool.specs.Trees.{Tree, Grows, a_form, some_forms, a_term, some_terms}
use Rattle.pool_subst.specs.Replacements.{HasReplacement, change_in, replacement_stays}
use Rattle.pool_subst.specs.declared.replacement.Replacement.{Replacement}
use Rattle.pool_subst.specs.declared.replacement.Replacement.TheVariants.{Rel, Fun, Const}

-- the symbol that is replaced
abbrev pub replaced : Replacement → Named
replaced (Rel r by) = the_rel r.0
replaced (Fun g by) = the_fun g.0
replaced (Const g index) = the_fun g.0

-- whether a symbol occurs in what stands at a node
abbrev pub tree_mentions : Named → Tree → Bool
tree_mentions x (a_form p) = form_mentions x p
tree_mentions x (some_forms ps) = forms_mention x ps
tree_mentions x (a_term t) = term_mentions x t
tree_mentions x (some_terms ts) = terms_mention x ts

-- the table says of each of the first nodes whether the symbol occurs there
abbrev pub TellsOf : Named → List Tree → List Bool → Type 0
TellsOf x ts table = table ≡ map (tree_mentions x) (take (length table) ts)

-- what a replacement and its table stand on
abbrev pub HasReplacing : List Tree → Replacement → List Bool → Type 0
HasReplacing ts c table = HasReplacement ts c × TellsOf (replaced c) ts table

-- ---- laws

-- the table stays right as the pool grows
tells_on : (x : Named) (old new : List Tree) (table : List Bool) → Grows old new → TellsOf x old table
    → TellsOf x new table
tells_on x old new table grows tells =
    let n = length table in
    let count = ap length tells ∙ length-map (take n old) (tree_mentions x) ∙ length-take n old in
    let few : n ≤ length old = omega (arith, count, min-le_right n (length old)) in
    tells ∙ sym (ap (λ (l : List Tree). map (tree_mentions x) (take n l)) grows.1
    ∙ ap (map (tree_mentions x)) (take-append-le n old grows.0 few))

-- and so does the change
pub replacing_stays : (c : Replacement) (table : List Bool) (old new : List Tree) → HasReplacing old c table
    → Grows old new → HasReplacing new c table × (changing (change_in new c) ≡ changing (change_in old c))
replacing_stays c table old new has grows =
    let s = replacement_stays c old new has.0 grows in
    ((s.0, tells_on (replaced c) old new table grows has.1), s.1)

use Rattle.std.proofs.Common.{◌≡◌, ◌++◌, List, map, refl, sym, subst}
use Rattle.fol_formula.specs.Syntax.{TermTree}
use Rattle.fol_nnf.specs.Normal.{Leaf as LeafOf, given}
use Rattle.fol_pool.specs.Trees.{a_term, as_term, as_formula, form_at}
use Rattle.pool_nnf.specs.Leaves.{AreLeaves, term_leaf}
use Rattle.pool_nnf.specs.declared.leaf.Leaf.{Leaf}
use Rattle.fol_pool.specs.Growing.{read_stays}
use Rattle.pool_nnf.proofs.Joining.{leaves_here, leaves_same, leaves_stay, leaves_append}
use Rattle.pool_nnf.proofs.normals.Normals.choice.Goals as goal

pub each_given-requires-2-clause-leaves : goal.each_given-requires-2-clause-leaves
each_given-requires-2-clause-leaves c =
    leaves_here a_term as_term (λ t. refl) c.args.self.now c.each_given.new.self c.each_given.ensures.grows
    c.args.second.now c.requires.second

pub returns-clause-leaves : goal.returns-clause-leaves
returns-clause-leaves c =
    let start = c.args.self.now in
    let old = c.each_given.new.self in
    let new = c.each_given-2.new.self in
    let second = c.args.second.now in
    let grows = c.each_given.ensures.grows in
    let all = c.in_ok-all.all.items in
    let more = c.in_ok-more.more.items in
    let ms : List (LeafOf TermTree) =
    map (given (form_at start c.args.yes.0)) (map (term_leaf start) c.args.first.now) in
    let ns : List (LeafOf TermTree) = map (given (form_at start c.args.no.0)) (map (term_leaf start) second) in
    let condition = read_stays start old grows as_formula c.args.no.0 c.requires.no.0 in
    let leaves = leaves_same a_term as_term (λ t. refl) start old grows second c.requires.second in
    let same : map (given (form_at old c.args.no.0)) (map (term_leaf old) second) ≡ ns =
    λ i. map (given (condition i)) (leaves i) in
    let first = leaves_stay a_term old new c.each_given-2.ensures.grows all ms c.in_ok-all.ensures.leaves in
    let behind =
    subst (λ (ks : List (LeafOf TermTree)). AreLeaves a_term new more ks) same c.in_ok-more.ensures.leaves in
    subst (λ (ls : List Leaf). AreLeaves a_term new ls (ms ++ ns)) (sym c.in_ok-append.ensures.items)
    (leaves_append a_term new all more ms ns first behind)

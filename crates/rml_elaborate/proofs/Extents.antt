-- How extents add up along a list, and what is told by them.
use Rattle.std.proofs.Common.{◌≡◌, ℕ, zero, suc, min, refl, ◌+◌, ◌<◌, ◌≤◌, ◌||◌, nat_lt, max, List, ◌∷◌, length, get_or, drop, sym, ap, ◌∙◌}
use Rattle.std.proofs.Common.{Option, arith}
use Rattle.std.proofs.lemmas.Bool.Decides.{nat_tests}
use Rattle.base.proofs.Lists.{drop_read}
use Rattle.fol_formula.specs.Syntax.{FormTree, FormTrees, TermTree, TermTrees, no_forms, form_then, no_terms, term_then}
use Rattle.fol_formula.specs.Syntax.{size_of, negation}
use Rattle.fol_formula.specs.Counts.{form_nodes, form_depth, term_nodes, term_depth}
use Rattle.fol_subst.specs.Extents.{capped, extent, none, one, beside, over, put_in, places_form}
use Rattle.fol_subst.specs.declared.extent.Extent.{Extent}
use Rattle.fol_subst.specs.Templates.{filled, form_extent, forms_extent, term_extent, terms_extent, ExtentsAreCounts}
use Rattle.rml_command.specs.Fresh.{parameters}
use Rattle.rml_elaborate.specs.Updates.{at_tuple, right_of_insertion, right_of_removal}
use Rattle.rml_elaborate.specs.Updates.{right_of_placement}
use Rattle.rml_elaborate.specs.Sizes.{is_beyond, is_large, is_large_term, where_large}

abbrev raw : ℕ → ℕ → Extent
raw count depth = record { count = count; depth = depth }

pub none-beside : (x : Extent) → x.count ≤ 1000001 → beside none x ≡ x
none-beside x small =
    let e1 : capped (0 + x.count) ≡ x.count = omega arith in
    let e2 : max 0 x.depth ≡ x.depth = omega arith in
    ap (λ n. raw n (max 0 x.depth)) e1 ∙ ap (raw x.count) e2

pub beside-none : (x : Extent) → x.count ≤ 1000001 → beside x none ≡ x
beside-none x small =
    let e1 : capped (x.count + 0) ≡ x.count = omega arith in
    let e2 : max x.depth 0 ≡ x.depth = omega arith in
    ap (λ n. raw n (max x.depth 0)) e1 ∙ ap (raw x.count) e2

beside-assoc : (x y z : Extent) → beside (beside x y) z ≡ beside x (beside y z)
beside-assoc x y z =
    let e1 : capped (capped (x.count + y.count) + z.count) ≡ capped (x.count + capped (y.count + z.count)) =
    omega arith in
    let e2 : max (max x.depth y.depth) z.depth ≡ max x.depth (max y.depth z.depth) = omega arith in
    ap (λ n. raw n (max (max x.depth y.depth) z.depth)) e1
    ∙ ap (raw (capped (x.count + capped (y.count + z.count)))) e2

pub forms-small : (ps : FormTrees) → (forms_extent ps).count ≤ 1000001
forms-small no_forms = omega arith
forms-small (form_then p ps) = omega arith

pub terms-small : (ts : TermTrees) → (terms_extent ts).count ≤ 1000001
terms-small no_terms = omega arith
terms-small (term_then t ts) = omega arith

pub form-small : ExtentsAreCounts → (p : FormTree) → (form_extent p).count ≤ 1000001
form-small counts p = let e = ap (λ z. z.count) (counts.form p) in omega (arith, e)

-- one turn of a loop that puts the extents of a list beside one another
pub extents_turn : {A : Type 0} (F : List A → Extent) (xs : List A) (i : ℕ) (x : A) (first all new whole : Extent)
    → F (x ∷ drop (i + 1) xs) ≡ beside first (F (drop (i + 1) xs)) → i < length xs → x ≡ get_or xs i x
    → new ≡ beside all first → beside all (F (drop i xs)) ≡ whole → beside new (F (drop (i + 1) xs)) ≡ whole
extents_turn F xs i x first all new whole by lt is added before =
    let rest = F (drop (i + 1) xs) in
    ap (λ z. beside z rest) added
    ∙ beside-assoc all first rest
    ∙ ap (beside all) (sym by)
    ∙ ap (λ z. beside all (F z)) (sym (drop_read xs i x lt is))
    ∙ before

-- one turn of a loop that puts arguments into the places of their parameters
pub filled_turn : {A : Type 0} (body : FormTree) (F : List A → TermTrees) (xs : List A) (i j : ℕ) (x : A)
    (first : TermTree) (all new whole : Extent)
    → F (x ∷ drop (i + 1) xs) ≡ term_then first (F (drop (i + 1) xs)) → i < length xs → x ≡ get_or xs i x
    → j ≡ size_of (F (drop (i + 1) xs)) → new ≡ put_in all (places_form j body) (term_extent first)
    → filled body all (F (drop i xs)) ≡ whole → filled body new (F (drop (i + 1) xs)) ≡ whole
filled_turn body F xs i j x first all new whole by lt is size put before =
    let rest = F (drop (i + 1) xs) in
    ap (λ z. filled body z rest) (put ∙ ap (λ n. put_in all (places_form n body) (term_extent first)) size)
    ∙ ap (filled body all) (sym by)
    ∙ ap (λ z. filled body all (F z)) (sym (drop_read xs i x lt is))
    ∙ before

-- counts that stop above the limits tell what is beyond them
beyond : (n d : ℕ) → is_beyond (capped n) (capped d) ≡ is_beyond n d
beyond n d = grind (arith, nat_tests)

pub beyond_form : ExtentsAreCounts → (p : FormTree) (x : Extent) → x ≡ form_extent p
    → is_beyond x.count x.depth ≡ is_large p
beyond_form counts p x e = ap (λ z. is_beyond z.count z.depth) (e ∙ counts.form p) ∙ beyond (form_nodes p) (form_depth p)

pub beyond_term : ExtentsAreCounts → (t : TermTree) (x : Extent) → x ≡ term_extent t
    → is_beyond x.count x.depth ≡ is_large_term t
beyond_term counts t x e = ap (λ z. is_beyond z.count z.depth) (e ∙ counts.term t) ∙ beyond (term_nodes t) (term_depth t)

-- the place of a use, where what it stands in is too large
pub told_form : ExtentsAreCounts → (p : FormTree) (x : Extent) (place at result : Option ℕ) → x ≡ form_extent p
    → place ≡ at → result ≡ where_large (is_beyond x.count x.depth) place → result ≡ where_large (is_large p) at
told_form counts p x place at result e h told =
    told ∙ ap (λ b. where_large b place) (beyond_form counts p x e) ∙ ap (where_large (is_large p)) h

pub told_term : ExtentsAreCounts → (t : TermTree) (x : Extent) (place at result : Option ℕ) → x ≡ term_extent t
    → place ≡ at → result ≡ where_large (is_beyond x.count x.depth) place → result ≡ where_large (is_large_term t) at
told_term counts t x place at result e h told =
    told ∙ ap (λ b. where_large b place) (beyond_term counts t x e) ∙ ap (where_large (is_large_term t)) h

-- parameters, and the right sides of updates of one tuple
pub parameters_extend : (n : ℕ) → extent n (min n 1) ≡ terms_extent (parameters n)
parameters_extend zero = refl
parameters_extend (suc n) =
    let e1 : capped (suc n) ≡ capped (1 + capped n) = omega arith in
    let e2 : capped (min (suc n) 1) ≡ max 1 (capped (min n 1)) = omega arith in
    ap (λ k. raw k (capped (min (suc n) 1))) e1
    ∙ ap (raw (capped (1 + capped n))) e2
    ∙ ap (beside one) (parameters_extend n)

pub inserted : ExtentsAreCounts → (r n : ℕ) (ts : TermTrees) (params held tuple both whole : Extent)
    → n ≡ size_of ts → params ≡ terms_extent (parameters n) → held ≡ over params
    → tuple ≡ form_extent (at_tuple ts) → both ≡ beside held tuple → whole ≡ over both
    → whole ≡ form_extent (right_of_insertion r ts)
inserted counts r n ts params held tuple both whole count e1 e2 e3 e4 e5 =
    let own = terms_extent (parameters (size_of ts)) in
    let first : held ≡ over own = e2 ∙ ap over (e1 ∙ ap (λ k. terms_extent (parameters k)) count) in
    let second = e3 ∙ sym (beside-none (form_extent (at_tuple ts)) (form-small counts (at_tuple ts))) in
    e5 ∙ ap over (e4 ∙ ap (λ z. beside z tuple) first ∙ ap (beside (over own)) second)

pub removed : ExtentsAreCounts → (r n : ℕ) (ts : TermTrees) (params held tuple other both whole : Extent)
    → n ≡ size_of ts → params ≡ terms_extent (parameters n) → held ≡ over params
    → tuple ≡ form_extent (at_tuple ts) → other ≡ over tuple → both ≡ beside held other → whole ≡ over both
    → whole ≡ form_extent (right_of_removal r ts)
removed counts r n ts params held tuple other both whole count e1 e2 e3 e4 e5 e6 =
    let own = terms_extent (parameters (size_of ts)) in
    let not_there = negation (at_tuple ts) in
    let first : held ≡ over own = e2 ∙ ap over (e1 ∙ ap (λ k. terms_extent (parameters k)) count) in
    let second = e4 ∙ ap over e3 ∙ sym (beside-none (form_extent not_there) (form-small counts not_there)) in
    e6 ∙ ap over (e5 ∙ ap (λ z. beside z other) first ∙ ap (beside (over own)) second)

pub placed : (f n : ℕ) (ts : TermTrees) (u : TermTree) (params kept put both tuple all whole : Extent)
    → n ≡ size_of ts → params ≡ terms_extent (parameters n) → kept ≡ over params → put ≡ term_extent u
    → both ≡ beside put kept → tuple ≡ form_extent (at_tuple ts) → all ≡ beside tuple both → whole ≡ over all
    → whole ≡ term_extent (right_of_placement f ts u)
placed f n ts u params kept put both tuple all whole count e1 e2 e3 e4 e5 e6 e7 =
    let own = terms_extent (parameters (size_of ts)) in
    let third : kept ≡ over own = e2 ∙ ap over (e1 ∙ ap (λ k. terms_extent (parameters k)) count) in
    let second = e4 ∙ ap (λ z. beside z kept) e3 ∙ ap (beside (term_extent u)) third in
    e7 ∙ ap over (e6 ∙ ap (λ z. beside z both) e5 ∙ ap (beside (form_extent (at_tuple ts))) second)

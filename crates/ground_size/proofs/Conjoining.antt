-- What is counted of the parts of an And, one behind the other.
use Rattle.std.proofs.Common.{
  ◌≡◌,
  ℕ,
  ◌+◌,
  ◌<◌,
  true,
  List,
  [],
  ◌∷◌,
  ◌++◌,
  length,
  drop,
  get_or,
  refl,
  sym,
  ap,
  ◌∙◌,
  arith,
}
use Rattle.std.proofs.lemmas.List.{drop_more}
use Rattle.fol_formula.specs.Syntax.{FormTree, forms_of}
use Rattle.fol_nnf.specs.Normal.{normal, normals}
use Rattle.ground_size.specs.declared.parts.Part.{Part}
use Rattle.ground_size.specs.Conjoined.{forms_at, parts_of}
use Rattle.ground_size.specs.Sizes.{instance_nodes, all_instance_nodes}
use Rattle.ground_size.specs.Walks.{raised, all_raised}

raised-over : (y n : ℕ) (ps qs : List FormTree) (counts : List ℕ)
    → all_raised y n (forms_of (ps ++ qs)) counts ≡ all_raised y n (forms_of qs) (all_raised y n (forms_of ps) counts)
raised-over y n [] qs counts = refl
raised-over y n (p ∷ ps) qs counts = raised-over y n ps qs (raised y n p counts)

-- the nodes of the instances of these formulas
abbrev pub nodes : List ℕ → List FormTree → ℕ
nodes counts ps = all_instance_nodes counts (normals true (forms_of ps))

none : (a : ℕ) → a ≡ 0 + a
none a = omega arith

regrouped : (a b c : ℕ) → a + (b + c) ≡ a + b + c
regrouped a b c = omega arith

nodes-over : (counts : List ℕ) (ps qs : List FormTree) → nodes counts (ps ++ qs) ≡ nodes counts ps + nodes counts qs
nodes-over counts [] qs = none (nodes counts qs)
nodes-over counts (p ∷ ps) qs =
    let first = instance_nodes counts (normal true p) in
    ap (λ n. first + n) (nodes-over counts ps qs) ∙ regrouped first (nodes counts ps) (nodes counts qs)

-- the part at a place, and those behind it
parts-at : (parts : List Part) (i : ℕ) (d : Part) → i < length parts
    → parts_of (drop i parts) ≡ forms_at (get_or parts i d) ++ parts_of (drop (i + 1) parts)
parts-at parts i d lt = ap parts_of (drop_more parts i d lt)

pub raised-turn : (parts : List Part) (i : ℕ) (d : Part) (counts counts' all : List ℕ) → i < length parts
    → counts' ≡ all_raised 1 0 (forms_of (forms_at (get_or parts i d))) counts
    → all_raised 1 0 (forms_of (parts_of (drop i parts))) counts ≡ all
    → all_raised 1 0 (forms_of (parts_of (drop (i + 1) parts))) counts' ≡ all
raised-turn parts i d counts counts' all lt is h =
    let rest = parts_of (drop (i + 1) parts) in
    ap (all_raised 1 0 (forms_of rest)) is
    ∙ sym (raised-over 1 0 (forms_at (get_or parts i d)) rest counts)
    ∙ ap (λ ps. all_raised 1 0 (forms_of ps) counts) (sym (parts-at parts i d lt)) ∙ h

pub nodes-split : (parts : List Part) (i : ℕ) (d : Part) (counts : List ℕ) → i < length parts
    → nodes counts (parts_of (drop i parts))
    ≡ nodes counts (forms_at (get_or parts i d)) + nodes counts (parts_of (drop (i + 1) parts))
nodes-split parts i d counts lt =
    ap (nodes counts) (parts-at parts i d lt)
    ∙ nodes-over counts (forms_at (get_or parts i d)) (parts_of (drop (i + 1) parts))

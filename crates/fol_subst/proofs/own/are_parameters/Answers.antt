use Rattle.std.proofs.Common.{◌≡◌, suc, ◌-◌, ◌≤◌, ◌&&◌, List, [], ◌∷◌, length, get_or, take, drop, refl, sym, ap, ◌∙◌}
use Rattle.std.proofs.Common.{arith}
use Rattle.std.proofs.lemmas.List.{take_all}
use Rattle.fol_formula.specs.Syntax.{size_of}
use Rattle.fol_formula.specs.View.{term, terms}
use Rattle.fol_formula.specs.declared.Term.{Term}
use Rattle.fol_subst.specs.Unchanged.{is_index, are_parameters}
use Rattle.fol_subst.proofs.own.are_parameters.Goals as goal

size : (ts : List Term) → size_of (terms ts) ≡ length ts
size [] = refl
size (t ∷ ts) = ap suc (size ts)

abbrev behind : List Term → List Term
behind ts = take (length ts - 1) (drop 1 ts)

turn : (ts : List Term) (t : Term) → 1 ≤ length ts → t ≡ get_or ts 0 t
    → are_parameters (terms ts) ≡ (is_index (length (behind ts)) (term t) && are_parameters (terms (behind ts)))
turn [] t some is = absurd (omega arith)
turn (x ∷ ts) t some is =
    let e : behind (x ∷ ts) ≡ ts = take_all (length (x ∷ ts) - 1) ts (omega arith) in
    ap (λ n. is_index n (term x) && are_parameters (terms ts)) (size ts)
    ∙ ap (λ u. is_index (length ts) (term u) && are_parameters (terms ts)) (sym is)
    ∙ ap (λ l. is_index (length l) (term t) && are_parameters (terms l)) (sym e)

pub returns-then-not-is_index : goal.returns-then-not-is_index
returns-then-not-is_index c =
    let rest = c.loop-rest.rest.now in
    sym (turn rest c.t-item.result c.in-len1-up.len_at_least c.t-item.is
    ∙ ap (λ b. b && are_parameters (terms (behind rest))) (sym c.is_index.ensures ∙ c.if-not-is_index.true))
    ∙ c.loop-rest.invariant

pub loop-rest-preserved : goal.loop-rest-preserved
loop-rest-preserved c =
    let rest = c.loop-rest.rest.now in
    sym (turn rest c.t-item.result c.in-len1-up.len_at_least c.t-item.is
    ∙ ap (λ b. b && are_parameters (terms (behind rest))) (sym c.is_index.ensures ∙ c.if-not-is_index.false))
    ∙ c.loop-rest.invariant

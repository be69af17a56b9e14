-- The clauses that are written call by call are those of the formulas.
use Rattle.std.proofs.Common.{◌≡◌, ℕ, ◌+◌, ◌≤◌, false, List, [], ◌∷◌, ◌++◌, length, take, drop, refl, sym, ◌∙◌, ap}
use Rattle.std.proofs.Common.{cond, arith, append_assoc, length-append}
use Rattle.std.specs.Prelude.{◌==◌}
use Rattle.std.proofs.lemmas.Bool.{ne_eqb, eq-eqb}
use Rattle.std.proofs.lemmas.List.{append-nil, drop-append-le, length-drop}
use Rattle.cnf_base.specs.declared.cnf.Entry.{Entry}
use Rattle.cnf_base.specs.declared.cnf.Entry.TheVariants.{Clause}
use Rattle.ground_terms.specs.declared.ground.Junction.{Junction}
use Rattle.ground_terms.specs.Trees.{Tree, Trees, literal, node, none, part, count}
use Rattle.ground_terms.specs.Calls.{Call, a_literal, a_node, calls_of, calls_of_all}
use Rattle.clause_form.specs.declared.frame.Frame.{Frame}
use Rattle.clause_form.specs.Numbers.{Numbers, start, with_place, after, after_all, lit_of, lits_of, place_lit}
use Rattle.clause_form.specs.Clauses.{definition, clauses_of, clauses_of_all, formula_clauses}
use Rattle.clause_form.proofs.Counting.{length-lits_of}
use Rattle.clause_form.specs.Machine.{State, state, settle, settle_nodes, frame, act, step, run, at_start}

pub run-append : (s : State) (xs ys : List Call) → run s (xs ++ ys) ≡ run (run s xs) ys
run-append s [] ys = refl
run-append s (x ∷ xs) ys = run-append (step s x) xs ys

pub same_runs : (calls : List Call) (x y : State) → settle x ≡ settle y → settle (run x calls) ≡ settle (run y calls)
same_runs [] x y e = e
same_runs (c ∷ calls) x y e = ap (λ s. settle (run (act s c) calls)) e

-- a formula behind what is settled, and the parts of the innermost node
abbrev behind : Numbers → List Frame → List ℕ → List Entry → Tree → State
behind n fs ls es p = state (after n p) fs (ls ++ lit_of n p ∷ []) (es ++ clauses_of n p)

abbrev all_parts : Numbers → Frame → List Frame → List ℕ → List Entry → Trees → State
all_parts n f fs ls es ps = state (after_all n ps) (f ∷ fs) (ls ++ lits_of n ps) (es ++ clauses_of_all n ps)

take_all : (xs ys : List ℕ) → take (length xs) (xs ++ ys) ≡ xs
take_all [] ys = refl
take_all (x ∷ xs) ys = ap (λ l. x ∷ l) (take_all xs ys)

drop_all : (xs ys : List ℕ) → drop (length xs) (xs ++ ys) ≡ ys
drop_all [] ys = refl
drop_all (x ∷ xs) ys = drop_all xs ys

differ : (m n k : ℕ) → m + (k + 1) ≡ n → (m == n) ≡ false
differ m n k e = ne_eqb m n (λ z. absurd (omega arith))

stays_open : (n : Numbers) (f : Frame) (fs : List Frame) (ls : List ℕ) (es : List Entry) (k : ℕ)
    → length (drop f.start ls) + (k + 1) ≡ f.parts
    → settle (state n (f ∷ fs) ls es) ≡ state n (f ∷ fs) ls es
stays_open n f fs ls es k e =
    ap (λ b. cond b (settle_nodes n fs (take f.start ls) (es ++ definition f.junction f.own (drop f.start ls)))
    (state n (f ∷ fs) ls es))
    (differ (length (drop f.start ls)) f.parts k e)

one_more : (k : ℕ) (ls : List ℕ) (l : ℕ) → k ≤ length ls → length (drop k (ls ++ l ∷ [])) ≡ length (drop k ls) + 1
one_more k ls l h = ap length (drop-append-le k ls (l ∷ []) h) ∙ length-append (drop k ls) (l ∷ [])

node_ends : (n m : Numbers) (j : Junction) (fs : List Frame) (ls parts : List ℕ) (es : List Entry) (k : ℕ)
    → length parts ≡ k
    → settle (state m (frame j n k ls ∷ fs) ((ls ++ place_lit n ∷ []) ++ parts) es)
    ≡ settle (state m fs (ls ++ place_lit n ∷ []) (es ++ definition j (place_lit n) parts))
node_ends n m j fs ls parts es k full =
    let own : length ls + 1 ≡ length (ls ++ place_lit n ∷ []) = sym (length-append ls (place_lit n ∷ [])) in
    let t : take (length ls + 1) ((ls ++ place_lit n ∷ []) ++ parts) ≡ ls ++ place_lit n ∷ [] =
    ap (λ k. take k ((ls ++ place_lit n ∷ []) ++ parts)) own ∙ take_all (ls ++ place_lit n ∷ []) parts in
    let d : drop (length ls + 1) ((ls ++ place_lit n ∷ []) ++ parts) ≡ parts =
    ap (λ k. drop k ((ls ++ place_lit n ∷ []) ++ parts)) own ∙ drop_all (ls ++ place_lit n ∷ []) parts in
    (λ i. cond (length (d i) == k) (settle_nodes m fs (t i) (es ++ definition j (place_lit n) (d i)))
    (state m (frame j n k ls ∷ fs) ((ls ++ place_lit n ∷ []) ++ parts) es))
    ∙ ap (λ b. cond b (settle_nodes m fs (ls ++ place_lit n ∷ []) (es ++ definition j (place_lit n) parts))
    (state m (frame j n k ls ∷ fs) ((ls ++ place_lit n ∷ []) ++ parts) es)) (eq-eqb (length parts) k full)

none_yet : (ls : List ℕ) (l : ℕ) → length (drop (length ls + 1) (ls ++ l ∷ [])) ≡ 0
none_yet ls l = length-drop (length ls + 1) (ls ++ l ∷ []) ∙ (let h = length-append ls (l ∷ []) in omega (arith, h))

mutual
  pub formula_runs : (p : Tree) (n : Numbers) (fs : List Frame) (ls : List ℕ) (es : List Entry)
      → settle (state n fs ls es) ≡ state n fs ls es
      → settle (run (state n fs ls es) (calls_of p)) ≡ settle (behind n fs ls es p)
  formula_runs (literal a positive) n fs ls es e =
      ap (λ s. settle (act s (a_literal a positive))) e
      ∙ ap (λ x. settle (state (after n (literal a positive)) fs (ls ++ lit_of n (literal a positive) ∷ []) x))
      (sym (append-nil es))
  formula_runs (node j ps) n fs ls es e =
      let f : Frame = frame j n (count ps) ls in
      let h1 = length-append ls (place_lit n ∷ []) in
      let h2 = none_yet ls (place_lit n) in
      ap (λ s. settle (run (act s (a_node j (count ps))) (calls_of_all ps))) e
      ∙ parts_run ps (with_place n) f fs (ls ++ place_lit n ∷ []) es (omega (arith, h1))
      (ap (λ k. k + count ps) h2 ∙ omega arith)
      ∙ node_ends n (after_all (with_place n) ps) j fs ls (lits_of (with_place n) ps)
      (es ++ clauses_of_all (with_place n) ps) (count ps) (length-lits_of (with_place n) ps)
      ∙ ap (λ x. settle (state (after_all (with_place n) ps) fs (ls ++ place_lit n ∷ []) x))
      (append_assoc es (clauses_of_all (with_place n) ps) (definition j (place_lit n) (lits_of (with_place n) ps)))

  pub parts_run : (ps : Trees) (n : Numbers) (f : Frame) (fs : List Frame) (ls : List ℕ) (es : List Entry)
      → f.start ≤ length ls
      → length (drop f.start ls) + count ps ≡ f.parts
      → settle (run (state n (f ∷ fs) ls es) (calls_of_all ps)) ≡ settle (all_parts n f fs ls es ps)
  parts_run none n f fs ls es b e =
      let l = sym (append-nil ls) in
      let c = sym (append-nil es) in
      λ i. settle (state n (f ∷ fs) (l i) (c i))
  parts_run (part p ps) n f fs ls es b e =
      let s : State = state n (f ∷ fs) ls es in
      let longer = length-append ls (lit_of n p ∷ []) in
      let more = one_more f.start ls (lit_of n p) b in
      ap settle (run-append s (calls_of p) (calls_of_all ps))
      ∙ same_runs (calls_of_all ps) (run s (calls_of p)) (behind n (f ∷ fs) ls es p)
      (formula_runs p n (f ∷ fs) ls es (stays_open n f fs ls es (count ps) e))
      ∙ parts_run ps (after n p) f fs (ls ++ lit_of n p ∷ []) (es ++ clauses_of n p) (omega (arith, longer))
      (ap (λ k. k + count ps) more ∙ omega arith)
      ∙ (λ i. settle
      (state (after_all (after n p) ps) (f ∷ fs) (append_assoc ls (lit_of n p ∷ []) (lits_of (after n p) ps) i)
      (append_assoc es (clauses_of n p) (clauses_of_all (after n p) ps) i)))

formulas_run : (ps : Trees) (n : Numbers) (es : List Entry)
    → settle (run (state n [] [] es) (calls_of_all ps)) ≡ state (after_all n ps) [] [] (es ++ formula_clauses n ps)
formulas_run none n es = ap (state n [] []) (sym (append-nil es))
formulas_run (part p ps) n es =
    let unit : List Entry = Clause (lit_of n p ∷ []) ∷ [] in
    let s : State = state n [] [] es in
    let next : State = state (after n p) [] [] ((es ++ clauses_of n p) ++ unit) in
    ap settle (run-append s (calls_of p) (calls_of_all ps))
    ∙ same_runs (calls_of_all ps) (run s (calls_of p)) next (formula_runs p n [] [] es refl)
    ∙ formulas_run ps (after n p) ((es ++ clauses_of n p) ++ unit)
    ∙ ap (state (after_all (after n p) ps) [] [])
    (append_assoc (es ++ clauses_of n p) unit (formula_clauses (after n p) ps)
    ∙ append_assoc es (clauses_of n p) (unit ++ formula_clauses (after n p) ps))

pub whole_run : (ps : Trees)
    → settle (run at_start (calls_of_all ps)) ≡ state (after_all start ps) [] [] (formula_clauses start ps)
whole_run ps = formulas_run ps start []

-- The search finds the path of a number.
use Rattle.std.proofs.Common.{◌≡◌, inl, inr, ℕ, zero, suc, ◌+◌, ◌-◌, ◌<◌, ◌≤◌, ◌==◌, min, false, cond}
use Rattle.std.proofs.Common.{nat_lt, Some, None, List, [], ◌∷◌, ◌++◌, length, map, refl, sym, ap, ◌∙◌, arith}
use Rattle.std.proofs.Common.{slice_get}
use Rattle.std.proofs.lemmas.Bool.{cases_lt, eq-eqb, ne_eqb}
use Rattle.base.specs.Lists.{numbered}
use Rattle.fol_formula.specs.Syntax.{negation}
use Rattle.rml_syntax.specs.Tree.{CommandTree, Block, Blocks, Skip, Abort, Assume, Assert, If, Choose, Insert, Remove}
use Rattle.rml_syntax.specs.Tree.{Put, Assign, no_command, and_command, no_block, and_block}
use Rattle.rml_command.specs.Trees.{PrimitiveTree, assume}
use Rattle.rml_command.specs.Paths.{has_abort}
use Rattle.rml_terms.specs.Tree.{ExprTree}
use Rattle.rml_syntax.specs.declared.tree.Format.{Format}
use Rattle.rml_names.specs.Drafts.{DraftTree}
use Rattle.rml_elaborate.specs.Formulas.{formula_of}
use Rattle.rml_sort_check.specs.declared.wanted.Wanted.TheVariants as wanted
use Rattle.rml_sort_check.specs.Demands.{first_fault, demands, command_demands, block_demands, blocks_demands}
use Rattle.rml_sort_check.specs.Firsts.{met_left, met_right}
use Rattle.branches.specs.declared.mark.Mark.{Mark}
use Rattle.branches.specs.declared.mark.Turn.TheVariants as turns
use Rattle.branches.specs.Marked.{MarkedPath, unmarked, marked, joined, branch_count}
use Rattle.branches.specs.Marked.{marked_paths, marked_block, marked_branches}
use Rattle.branches.specs.Stages.{marks_in}
use Rattle.branches.specs.Search.{Found, found, behind, mark, then_along, most, sum, count_through, count_through_block}
use Rattle.branches.specs.Search.{count_through_each, along, along_block, along_each}
use Rattle.branches.proofs.Updates.{insert_path, remove_path, put_path, assign_path}
use Rattle.branches.proofs.Updates.{inserted_on, removed_on, put_on, assigned_on}
use Rattle.branches.proofs.Picking.{weight, pick, aborts, cond_below, cond_above, weight-append, pick-left, pick-right}
use Rattle.branches.proofs.Picking.{weight-joined, pick-joined, weight-all_on, pick-all_on, same_along, weight-one}
use Rattle.branches.proofs.Picking.{pick-one}

-- a count that stops at the greatest
abbrev capped : ℕ → ℕ
capped n = min n most

-- Paths behind a mark in front of others. `c` is what the search counts of them, `here` and `there` what it finds.
module _ (p : MarkedPath) (on : aborts p ≡ false) (xs ys : List MarkedPath) (n k : ℕ) where
  weight-both : weight (map (joined p) xs ++ ys) n ≡ weight xs n + weight ys n
  weight-both =
      let a = weight-append (map (joined p) xs) ys n in
      let b = weight-joined p on xs n in
      omega (arith, a, b)

  pick-both : (c : ℕ) (here there : Found) → k < most → c ≡ capped (weight xs n)
      → (k < weight xs n → here ≡ pick xs n k)
      → (weight xs n ≤ k → there ≡ pick ys n (k - weight xs n))
      → cond (nat_lt k c) (behind p.marks here) there ≡ pick (map (joined p) xs ++ ys) n k
  pick-both c here there small counted first second =
      let w = weight-joined p on xs n in
      elim (cases_lt k (weight xs n)) as
      (λ _. cond (nat_lt k c) (behind p.marks here) there ≡ pick (map (joined p) xs ++ ys) n k) [
        | inl in_first ↦
            cond_below k c _ _ (omega (arith, small, counted, in_first))
            ∙ ap (behind p.marks) (first in_first)
            ∙ sym (pick-left (map (joined p) xs) ys n k (omega (arith, w, in_first))
            ∙ pick-joined p on xs n k in_first)
        | inr later ↦
            cond_above k c _ _ (omega (arith, small, counted, later))
            ∙ second later
            ∙ sym (pick-right (map (joined p) xs) ys n k (omega (arith, w, later)) ∙ ap (λ s. pick ys n (k - s)) w)
      ]

-- one path that goes on and has no mark
one_counted : (qs : List PrimitiveTree) (n : ℕ) → has_abort qs ≡ false
    → capped n ≡ capped (weight (unmarked qs ∷ []) n)
one_counted qs n on = let e : cond (has_abort qs) 1 n ≡ n = ap (λ b. cond b 1 n) on in omega (arith, e)

one_found : (qs : List PrimitiveTree) (n k : ℕ) → has_abort qs ≡ false → k < weight (unmarked qs ∷ []) n
    → found [] (Some k) ≡ pick (unmarked qs ∷ []) n k
one_found qs n k on h =
    sym (cond_below k (cond (has_abort qs) 1 n) _ _ (omega (arith, h)) ∙ ap (λ b. found [] (cond b None (Some k))) on)

assert_found : (fails passes : Mark) (n k : ℕ) → k < 1 + (n + 0)
    → cond (k == 0) (found (fails ∷ []) None) (found (passes ∷ []) (Some (k - 1)))
    ≡ cond (nat_lt k 1) (found (fails ∷ []) None)
    (cond (nat_lt (k - 1) n) (found (passes ∷ []) (Some (k - 1))) (found [] None))
assert_found fails passes n k h = elim (cases_lt k 1) as
    (λ _. cond (k == 0) (found (fails ∷ []) None) (found (passes ∷ []) (Some (k - 1)))
    ≡ cond (nat_lt k 1) (found (fails ∷ []) None)
    (cond (nat_lt (k - 1) n) (found (passes ∷ []) (Some (k - 1))) (found [] None))) [
      | inl first ↦
          ap (λ t. cond t (found (fails ∷ []) None) (found (passes ∷ []) (Some (k - 1))))
          (eq-eqb k 0 (omega (arith, first)))
          ∙ sym (cond_below k 1 _ _ first)
      | inr later ↦
          ap (λ t. cond t (found (fails ∷ []) None) (found (passes ∷ []) (Some (k - 1))))
          (ne_eqb k 0 (λ e. omega (arith, e, later)))
          ∙ sym (cond_above k 1 _ _ later ∙ cond_below (k - 1) n _ _ (omega (arith, h, later)))
    ]

module _ (text : List ℕ) (format : Format) (d : DraftTree) where
  abbrev paths : CommandTree → List MarkedPath
  paths c = marked_paths text d c

  abbrev block : Block → List MarkedPath
  block b = marked_block text d b

  abbrev IsMet : CommandTree → Type 0
  IsMet c = first_fault (command_demands text d.vocabulary format c) ≡ None

  abbrev IsBlockMet : Block → Type 0
  IsBlockMet b = first_fault (block_demands text d.vocabulary format b) ≡ None

  abbrev AreBlocksMet : Blocks → Type 0
  AreBlocksMet bs = first_fault (blocks_demands text d.vocabulary format bs) ≡ None

  first_met : (e : ExprTree) (a b : Block) (at : ℕ) → IsMet (If at e a b) → IsBlockMet a
  first_met e a b at h =
      met_left (block_demands text d.vocabulary format a) (block_demands text d.vocabulary format b)
      (met_right (demands text d.vocabulary [] wanted.Formula e) (block_demands text d.vocabulary format a ++ block_demands text d.vocabulary format b) h)

  second_met : (e : ExprTree) (a b : Block) (at : ℕ) → IsMet (If at e a b) → IsBlockMet b
  second_met e a b at h =
      met_right (block_demands text d.vocabulary format a) (block_demands text d.vocabulary format b)
      (met_right (demands text d.vocabulary [] wanted.Formula e) (block_demands text d.vocabulary format a ++ block_demands text d.vocabulary format b) h)

  abbrev holds : ℕ → ExprTree → MarkedPath
  holds at e = marked at turns.IfHolds (assume (formula_of text d.vocabulary d.bodies [] e) ∷ [])

  abbrev fails : ℕ → ExprTree → MarkedPath
  fails at e = marked at turns.IfFails (assume (negation (formula_of text d.vocabulary d.bodies [] e)) ∷ [])

  abbrev takes : ℕ → ℕ → ℕ → MarkedPath
  takes at i count = marked at (turns.Takes (record { number = i; count = count })) []

  -- ---- counts

  mutual
    pub counted : (c : CommandTree) (n : ℕ) → IsMet c → count_through c (capped n) ≡ capped (weight (paths c) n)
    counted (Skip at) n ok = one_counted [] n refl
    counted (Abort at) n ok = omega arith
    counted (Assume at e) n ok = one_counted (assume (formula_of text d.vocabulary d.bodies [] e) ∷ []) n refl
    counted (Assert at e) n ok = omega arith
    counted (If at e a b) n ok =
        let first = counted_block a n (first_met e a b at ok) in
        let second = counted_block b n (second_met e a b at ok) in
        let all = weight-both (holds at e) refl (block a) (map (joined (fails at e)) (block b)) n 0 in
        let last = weight-joined (fails at e) refl (block b) n in
        omega (arith, first, second, all, last)
    counted (Choose at bs) n ok =
        let w = weight (marked_branches text d at 1 (branch_count bs) bs) n in
        let none : 0 + w ≡ w = omega arith in
        counted_each at 1 (branch_count bs) bs n 0 ok ∙ ap capped none
    counted (Insert at name args) n ok =
        one_counted (insert_path text format d name args) n (inserted_on text format d at name args ok)
    counted (Remove at name args) n ok =
        one_counted (remove_path text format d name args) n (removed_on text format d at name args ok)
    counted (Put at name args e) n ok =
        one_counted (put_path text format d name args e) n (put_on text format d at name args e ok)
    counted (Assign name ps value) n ok =
        one_counted (assign_path text format d name ps value) n (assigned_on text format d name ps value ok)

    pub counted_block : (b : Block) (n : ℕ) → IsBlockMet b
        → count_through_block b (capped n) ≡ capped (weight (block b) n)
    counted_block no_command n ok = one_counted [] n refl
    counted_block (and_command c cs) n ok =
        ap (count_through c) (counted_block cs n (met_right (command_demands text d.vocabulary format c) (block_demands text d.vocabulary format cs) ok))
        ∙ counted c (weight (block cs) n) (met_left (command_demands text d.vocabulary format c) (block_demands text d.vocabulary format cs) ok)
        ∙ ap capped (sym (weight-all_on (block cs) n (paths c)))

    counted_each : (at i count : ℕ) (bs : Blocks) (n before : ℕ) → AreBlocksMet bs
        → count_through_each bs (capped n) (capped before)
        ≡ capped (before + weight (marked_branches text d at i count bs) n)
    counted_each at i count no_block n before ok = omega arith
    counted_each at i count (and_block b bs) n before ok =
        let h = counted_block b n (met_left (block_demands text d.vocabulary format b) (blocks_demands text d.vocabulary format bs) ok) in
        let rest = marked_branches text d at (i + 1) count bs in
        let first : sum (capped before) (count_through_block b (capped n)) ≡ capped (before + weight (block b) n) =
        omega (arith, h) in
        let all = weight-both (takes at i count) refl (block b) rest n 0 in
        let more : before + weight (block b) n + weight rest n
        ≡ before + weight (map (joined (takes at i count)) (block b) ++ rest) n = omega (arith, all) in
        ap (count_through_each bs (capped n)) first
        ∙ counted_each at (i + 1) count bs n (before + weight (block b) n)
        (met_right (block_demands text d.vocabulary format b) (blocks_demands text d.vocabulary format bs) ok)
        ∙ ap capped more

  -- ---- what is found

  mutual
    pub finds : (c : CommandTree) (n k : ℕ) → IsMet c → k < most → k < weight (paths c) n
        → along c (capped n) k ≡ pick (paths c) n k
    finds (Skip at) n k ok small h = one_found [] n k refl h
    finds (Abort at) n k ok small h = sym (cond_below k 1 _ _ (omega (arith, h)))
    finds (Assume at e) n k ok small h = one_found (assume (formula_of text d.vocabulary d.bodies [] e) ∷ []) n k refl h
    finds (Assert at e) n k ok small h = assert_found _ _ n k h
    finds (If at e a b) n k ok small h =
        let first = counted_block a n (first_met e a b at ok) in
        let all = weight-both (holds at e) refl (block a) (map (joined (fails at e)) (block b)) n 0 in
        let last = weight-joined (fails at e) refl (block b) n in
        let w = weight (block a) n in
        pick-both (holds at e) refl (block a) (map (joined (fails at e)) (block b)) n k
        (count_through_block a (capped n)) (along_block a (capped n) k)
        (behind (mark at turns.IfFails) (along_block b (capped n) (k - count_through_block a (capped n))))
        small first (λ lt. finds_block a n k (first_met e a b at ok) small lt)
        (λ le.
        let same : count_through_block a (capped n) ≡ w = omega (arith, first, small, le) in
        let lt : k - w < weight (block b) n = omega (arith, h, all, last, le) in
        ap (λ s. behind (mark at turns.IfFails) (along_block b (capped n) (k - s))) same
        ∙ ap (behind (mark at turns.IfFails))
        (finds_block b n (k - w) (second_met e a b at ok) (omega (arith, small)) lt)
        ∙ sym (pick-joined (fails at e) refl (block b) n (k - w) lt))
    finds (Choose at bs) n k ok small h = finds_each at 1 (branch_count bs) bs n k ok small h
    finds (Insert at name args) n k ok small h =
        one_found (insert_path text format d name args) n k (inserted_on text format d at name args ok) h
    finds (Remove at name args) n k ok small h =
        one_found (remove_path text format d name args) n k (removed_on text format d at name args ok) h
    finds (Put at name args e) n k ok small h =
        one_found (put_path text format d name args e) n k (put_on text format d at name args e ok) h
    finds (Assign name ps value) n k ok small h =
        one_found (assign_path text format d name ps value) n k (assigned_on text format d name ps value ok) h

    pub finds_block : (b : Block) (n k : ℕ) → IsBlockMet b → k < most → k < weight (block b) n
        → along_block b (capped n) k ≡ pick (block b) n k
    finds_block no_command n k ok small h = one_found [] n k refl h
    finds_block (and_command c cs) n k ok small h =
        let ok_c = met_left (command_demands text d.vocabulary format c) (block_demands text d.vocabulary format cs) ok in
        let ok_cs = met_right (command_demands text d.vocabulary format c) (block_demands text d.vocabulary format cs) ok in
        let all = weight-all_on (block cs) n (paths c) in
        let lt : k < weight (paths c) (weight (block cs) n) = omega (arith, h, all) in
        ap (λ w. then_along (along c w k) (along_block cs (capped n))) (counted_block cs n ok_cs)
        ∙ ap (λ f. then_along f (along_block cs (capped n))) (finds c (weight (block cs) n) k ok_c small lt)
        ∙ same_along (along_block cs (capped n)) (pick (block cs) n) (paths c) (weight (block cs) n) k
        (λ j below le. finds_block cs n j ok_cs (omega (arith, small, le)) below)
        ∙ sym (pick-all_on (block cs) n (paths c) k lt)

    finds_each : (at i count : ℕ) (bs : Blocks) (n k : ℕ) → AreBlocksMet bs → k < most
        → k < weight (marked_branches text d at i count bs) n
        → along_each at i count bs (capped n) k ≡ pick (marked_branches text d at i count bs) n k
    finds_each at i count no_block n k ok small h = absurd (omega (arith, h))
    finds_each at i count (and_block b bs) n k ok small h =
        let ok_b = met_left (block_demands text d.vocabulary format b) (blocks_demands text d.vocabulary format bs) ok in
        let ok_bs = met_right (block_demands text d.vocabulary format b) (blocks_demands text d.vocabulary format bs) ok in
        let rest = marked_branches text d at (i + 1) count bs in
        let first = counted_block b n ok_b in
        let all = weight-both (takes at i count) refl (block b) rest n 0 in
        let w = weight (block b) n in
        pick-both (takes at i count) refl (block b) rest n k
        (count_through_block b (capped n)) (along_block b (capped n) k)
        (along_each at (i + 1) count bs (capped n) (k - count_through_block b (capped n)))
        small first (λ lt. finds_block b n k ok_b small lt)
        (λ le.
        let same : count_through_block b (capped n) ≡ w = omega (arith, first, small, le) in
        ap (λ s. along_each at (i + 1) count bs (capped n) (k - s)) same
        ∙ finds_each at (i + 1) count bs n (k - w) ok_bs (omega (arith, small)) (omega (arith, h, all, le)))

  -- ---- a path of a block

  beyond : (xs : List MarkedPath) (k : ℕ) → length xs ≤ k → marks_in (slice_get xs k) ≡ []
  beyond [] zero h = refl
  beyond [] (suc k) h = refl
  beyond (x ∷ xs) zero h = absurd (omega (arith, h))
  beyond (x ∷ xs) (suc k) h = beyond xs k (omega (arith, h))

  pub path_found : (b : Block) (k : ℕ) → IsBlockMet b → k < most → k < count_through_block b 1
      → (along_block b 1 k).marks ≡ marks_in (slice_get (block b) k)
  path_found b k ok small h =
      let all = counted_block b 1 ok in
      ap (λ f. f.marks) (finds_block b 1 k ok small (omega (arith, all, h))) ∙ pick-one (block b) k

  pub no_path : (b : Block) (k : ℕ) → IsBlockMet b → k < most → count_through_block b 1 ≤ k
      → marks_in (slice_get (block b) k) ≡ []
  no_path b k ok small h =
      let all = counted_block b 1 ok in
      let one = weight-one (block b) in
      beyond (block b) k (omega (arith, all, one, small, h))

-- ---- a path by its number from 1

numbered-is : (xs : List MarkedPath) (path : ℕ) → 0 < path → numbered xs path ≡ slice_get xs (path - 1)
numbered-is xs zero h = absurd (omega (arith, h))
numbered-is xs (suc k) h = let e : k ≡ suc k - 1 = omega arith in ap (slice_get xs) e

pub numbered_found : (text : List ℕ) (format : Format) (d : DraftTree) (b : Block) (path : ℕ)
    → first_fault (block_demands text d.vocabulary format b) ≡ None → 0 < path → path - 1 < most → path - 1 < count_through_block b 1
    → (along_block b 1 (path - 1)).marks ≡ marks_in (numbered (marked_block text d b) path)
numbered_found text format d b path ok some small h =
    path_found text format d b (path - 1) ok small h ∙ ap marks_in (sym (numbered-is (marked_block text d b) path some))

pub none_numbered : (text : List ℕ) (format : Format) (d : DraftTree) (b : Block) (path : ℕ)
    → first_fault (block_demands text d.vocabulary format b) ≡ None → 0 < path → path - 1 < most → count_through_block b 1 ≤ path - 1
    → marks_in (numbered (marked_block text d b) path) ≡ []
none_numbered text format d b path ok some small h =
    ap marks_in (numbered-is (marked_block text d b) path some) ∙ no_path text format d b (path - 1) ok small h

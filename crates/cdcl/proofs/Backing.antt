-- Going back to a lower level.
use Rattle.std.proofs.Common.{◌≡◌, ℕ, ◌-◌, ◌<◌, ◌≤◌, ◌⊎◌, List, length, get_or, take, arith, ap, sym, ◌∙◌, inl, inr}
use Rattle.std.proofs.lemmas.Grind.{common_steps, get_or_default_zero}
use Rattle.std.proofs.lemmas.Bool.{cases_lt}
use Rattle.std.proofs.lemmas.List.{get_or-take}
use Rattle.cdcl.specs.declared.search.Search.{Search}
use Rattle.cdcl_tables.specs.Levels.{AreRising}
use Rattle.cdcl.specs.Solver.{WentBack}

pub went_back : (a b : Search) (popped : List ℕ) (to second : ℕ) → b.starts.items ≡ popped
    → length popped < length a.starts.items → popped ≡ take (length popped) a.starts.items
    → to ≡ get_or a.starts.items (length popped) 0 → second ≤ to
    → ((i : ℕ) → i < length popped → get_or a.starts.items i 0 < second)
    → b.state.clauses ≡ a.state.clauses → b.state.trail.size ≡ a.state.trail.size
    → b.state.trail.steps ≡ take to a.state.trail.steps → b.head ≡ to → to ≤ length a.state.trail.steps
    → WentBack a b second
went_back a b popped to second e f t q ab bf sc sz st h w = record {
  clauses = sc;
  size = sz;
  fewer = rw e f;
  steps = rw (e, ← q) st;
  above = rw (e, ← q) ab;
  before = λ i k. rw (same i k) (bf i (rw (← e) k));
  starts = same;
  head = h ∙ sym (ap length st ∙ grind (arith, common_steps, w));
}
  where
    same : (i : ℕ) → i < length b.starts.items → get_or b.starts.items i 0 ≡ get_or a.starts.items i 0
    same i k = ap (λ (x : List ℕ). get_or x i 0) (e ∙ t) ∙ get_or-take (length popped) a.starts.items i 0 (rw (← e) k)

pub last_start : (starts : List ℕ) (n at : ℕ) → n ≡ length starts → 0 < length starts → at ≡ get_or starts (n - 1) at
    → at ≡ get_or starts (length starts - 1) 0
last_start starts n at e h q =
    let a : at ≡ get_or starts (length starts - 1) at = q ∙ ap (λ (k : ℕ). get_or starts (k - 1) at) e in
    a ∙ get_or_default_zero starts (length starts - 1) at (omega arith)

-- no start is above the last one
pub start_at_most : (starts : List ℕ) (i : ℕ) → AreRising starts → i < length starts
    → get_or starts i 0 ≤ get_or starts (length starts - 1) 0
start_at_most starts i r h = two (cases_lt i (length starts - 1))
  where
    two : (i < length starts - 1) ⊎ (length starts - 1 ≤ i) → get_or starts i 0 ≤ get_or starts (length starts - 1) 0
    two (inl k) = let x = r i (length starts - 1) k (omega arith) in omega arith
    two (inr k) = let q : i ≡ length starts - 1 = omega arith in rw q (omega arith)

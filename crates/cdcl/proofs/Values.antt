-- Truth values that satisfy a formula.
use Rattle.std.proofs.Common.{◌≡◌, ℕ, ◌+◌, ◌*◌, ◌/◌, ◌%◌, ◌<◌, ◌≤◌, ◌⊎◌, not, eqb, Bool, true, false, List}
use Rattle.std.proofs.Common.{length, arith, ap, sym, if◌then◌else◌, ◌∙◌, inl, inr, Some}
use Rattle.std.proofs.lemmas.Grind.{common_steps}
use Rattle.std.proofs.lemmas.Bool.{cases_lt, eq-eqb, ne_eqb}
use Rattle.cnf_base.specs.declared.cnf.Entry.{Entry}
use Rattle.cnf_base.specs.declared.cnf.Entry.TheVariants.{Clause, True}
use Rattle.cnf_base.specs.Literals.{variable_of, opposite, member, is_true, IsLiteral}
use Rattle.cnf_base.specs.Clauses.{SatisfiesEntry}
use Rattle.cnf_base.specs.Formulas.{Formula, IsModel, value_of}
use Rattle.lrat_log.specs.declared.line.Line.{Line}
use Rattle.lrat_log.specs.Learnt.{IsConsistent}
use Rattle.cdcl.specs.declared.search.Search.{Search}
use Rattle.cdcl.specs.TrailValue.{TrailValue}
use Rattle.cdcl.specs.Trail.{is_set, HasTrue}
use Rattle.lrat_log.specs.Held.{held_by}
use Rattle.cdcl.specs.Assigned.{AreAllSet, HasValue}
use Rattle.cdcl.specs.State.{pairs_of}
use Rattle.cdcl.specs.Holding.{IsHolding}
use Rattle.cdcl.specs.Solver.{IsSearch}
use Rattle.cdcl.specs.Logged.{IsLogged}
use Rattle.cdcl.proofs.Entries.{held_at}
use Rattle.cdcl.proofs.Literals.{opposite-even, opposite-odd}
use Rattle.cdcl.proofs.Members.{member_all}
use Rattle.cdcl.proofs.Trails.{trail_consistent}
use Rattle.cdcl.proofs.Watching.{safe_satisfied}
use Rattle.cdcl.proofs.Logging.{literal_in}
use Rattle.cdcl.proofs.Searching.{state_holds}

-- the values of the variables up to a number, where those above are false
pub record AreValues (values : List Bool) (set : ℕ → Bool) (size index : ℕ) : Type 0 where
  pub below : (i : ℕ) → 0 < i → i ≤ index → 2 * i < size → value_of values i ≡ set (2 * i)
  pub above : (i : ℕ) → index < i → value_of values i ≡ false

-- the value of one more
pub values_more : (old new : List Bool) (set : ℕ → Bool) (size index : ℕ) (b : Bool) → AreValues old set size index
    → (2 * (index + 1) < size → b ≡ set (2 * (index + 1)))
    → ((i : ℕ) → 0 < i → value_of new i ≡ (if eqb i (index + 1) then b else value_of old i))
    → AreValues new set size (index + 1)
values_more old new set size index b a here n = record {
  below = λ i p h s. at i p h s (cases_lt i (index + 1));
  above = λ i h. other i (omega arith) (λ e. omega arith) ∙ a.above i (omega arith);
}
  where
    other : (i : ℕ) → 0 < i → (i ≡ index + 1 → ⊥) → value_of new i ≡ value_of old i
    other i p h = n i p ∙ ap (λ (c : Bool). if c then b else value_of old i) (ne_eqb i (index + 1) h)

    at : (i : ℕ) → 0 < i → i ≤ index + 1 → 2 * i < size → (i < index + 1) ⊎ (index + 1 ≤ i)
        → value_of new i ≡ set (2 * i)
    at i p h s (inl q) = other i p (λ e. omega arith) ∙ a.below i p (omega arith) s
    at i p h s (inr q) =
        let e : i ≡ index + 1 = omega arith in
        n i p ∙ ap (λ (c : Bool). if c then b else value_of old i) (eq-eqb i (index + 1) e)
        ∙ here (let x = s in omega arith) ∙ ap (λ (j : ℕ). set (2 * j)) (sym e)

-- a literal is the one or the other of its variable
even_or_odd : (l : ℕ) → (l ≡ 2 * variable_of l) ⊎ (l ≡ 2 * variable_of l + 1)
even_or_odd l = at (cases_lt (l % 2) 1)
  where
    at : (l % 2 < 1) ⊎ (1 ≤ l % 2) → (l ≡ 2 * (l / 2)) ⊎ (l ≡ 2 * (l / 2) + 1)
    at (inl h) = inl (omega arith)
    at (inr h) = inr (omega arith)

true_even : (value : ℕ → Bool) (v : ℕ) → is_true value (2 * v) ≡ value v
unfolding is_true
true_even value v = grind (arith, common_steps)

true_odd : (value : ℕ → Bool) (v : ℕ) → is_true value (2 * v + 1) ≡ not (value v)
unfolding is_true
true_odd value v = grind (arith, common_steps)

-- a literal that is set is true
set_is_true : (set value : ℕ → Bool) (l size : ℕ) → IsConsistent set
    → ((i : ℕ) → 0 < i → 2 * i < size → value i ≡ set (2 * i)) → 0 < variable_of l → 2 * variable_of l < size
    → set l ≡ true → is_true value l ≡ true
set_is_true set value l size k a p h s = at (even_or_odd l)
  where
    at : (l ≡ 2 * variable_of l) ⊎ (l ≡ 2 * variable_of l + 1) → is_true value l ≡ true
    at (inl e) = ap (is_true value) e ∙ true_even value (variable_of l) ∙ a (variable_of l) p h ∙ ap set (sym e) ∙ s
    at (inr e) =
        let t : set (2 * variable_of l + 1) ≡ true = ap set (sym e) ∙ s in
        let f : set (2 * variable_of l) ≡ false =
        ap set (sym (opposite-odd (variable_of l))) ∙ k (2 * variable_of l + 1) t in
        ap (is_true value) e ∙ true_odd value (variable_of l) ∙ ap not (a (variable_of l) p h ∙ f)

-- where all variables are set, each literal or its opposite is
set_or_opposite : (t : TrailValue) (l : ℕ) → AreAllSet t → 0 < variable_of l → l < t.size → opposite l < t.size
    → (is_set t.steps l ≡ true) ⊎ (is_set t.steps (opposite l) ≡ true)
set_or_opposite t l a p h g = at (even_or_odd l)
  where
    at : (l ≡ 2 * variable_of l) ⊎ (l ≡ 2 * variable_of l + 1) → (is_set t.steps l ≡ true)
        ⊎ (is_set t.steps (opposite l) ≡ true)
    at (inl e) =
        let o : opposite l ≡ 2 * variable_of l + 1 = ap opposite e ∙ opposite-even (variable_of l) in
        two (a (variable_of l) p (omega arith))
      where
        two : HasValue t (variable_of l) → (is_set t.steps l ≡ true) ⊎ (is_set t.steps (opposite l) ≡ true)
        two (inl s) = inl (ap (is_set t.steps) e ∙ s)
        two (inr s) = inr (ap (is_set t.steps) (ap opposite e ∙ opposite-even (variable_of l)) ∙ s)
    at (inr e) = two (a (variable_of l) p (omega arith))
      where
        two : HasValue t (variable_of l) → (is_set t.steps l ≡ true) ⊎ (is_set t.steps (opposite l) ≡ true)
        two (inl s) = inr (ap (is_set t.steps) (ap opposite e ∙ opposite-odd (variable_of l)) ∙ s)
        two (inr s) = inl (ap (is_set t.steps) e ∙ s)

-- truth values where all variables are set and each held clause has a true literal
pub held_model : (f : Formula) (es : List Entry) (t : TrailValue) (lines : List Line) (values : List Bool)
    → IsHolding es t
    → ((k : ℕ) (c : List ℕ) → held_by es (k + 1) ≡ Some (Clause c)
    → ((l : ℕ) → member l c ≡ true → (is_set t.steps l ≡ true) ⊎ (is_set t.steps (opposite l) ≡ true))
    → HasTrue (is_set t.steps) c)
    → AreAllSet t → IsLogged f es lines → length values ≡ f.variables
    → ((i : ℕ) → 0 < i → i ≤ f.variables → 2 * i < t.size → value_of values i ≡ is_set t.steps (2 * i))
    → IsModel f values
held_model f es t lines values v tr all g n a = (n, λ k e q. at k e (g.formula (k + 1) e (held_at f.clauses k ∙ q)))
  where
    at : (k : ℕ) (e : Entry) → held_by es (k + 1) ≡ Some e → SatisfiesEntry (value_of values) e
    at k True q = tt
    at k (Clause c) q =
        let small = v.small (k + 1) c q in
        let over = g.over (k + 1) c q in
        let w = tr k c q
        (λ l m. (let b = member_all t.size c l small m in
        set_or_opposite t l all (literal_in f.variables c l over m).0 b.0 b.1)) in
        let il = literal_in f.variables c w.0 over w.1 in
        let b = member_all t.size c w.0 small w.1 in
        (w.0, w.1, one w.0 il b.0 w.2)
      where
        one : (l : ℕ) → IsLiteral f.variables l → l < t.size → is_set t.steps l ≡ true
            → is_true (value_of values) l ≡ true
        one l il lt on = literal_true l il (even_or_odd l) lt on
          where
            literal_true : (l : ℕ) → IsLiteral f.variables l → (l ≡ 2 * variable_of l) ⊎ (l ≡ 2 * variable_of l + 1)
                → l < t.size → is_set t.steps l ≡ true → is_true (value_of values) l ≡ true
            literal_true l il q lt on =
                set_is_true (is_set t.steps) (λ i. value_of values i) l (2 * variable_of l + 1)
                (trail_consistent (held_by es) t.steps (length t.steps) v.trail (omega arith))
                (λ i p b. a i p (let x = il.1 in omega arith) (below q i b)) il.0 (omega arith) on
              where
                below : (l ≡ 2 * variable_of l) ⊎ (l ≡ 2 * variable_of l + 1) → (i : ℕ) → 2 * i < 2 * variable_of l + 1
                    → 2 * i < t.size
                below (inl e) i b = omega arith
                below (inr e) i b = omega arith

-- the truth values of a search of which nothing is left to draw
pub model : (f : Formula) (s : Search) (lines : List Line) (values : List Bool) → IsSearch s
    → s.head ≡ length s.state.trail.steps → AreAllSet s.state.trail → IsLogged f s.state.clauses lines
    → length values ≡ f.variables
    → ((i : ℕ) → 0 < i → i ≤ f.variables → 2 * i < s.state.trail.size
    → value_of values i ≡ is_set s.state.trail.steps (2 * i)) → IsModel f values
model f s lines values v h all g n a =
    held_model f s.state.clauses s.state.trail lines values (state_holds s.state v.search.state)
    (λ k c q o. safe_satisfied (is_set s.state.trail.steps) c (pairs_of s.state k) o
    (let safe = v.search.levels.watching.at_head k c q in rw h at safe)) all g n a

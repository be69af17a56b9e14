-- What a Clauser stands for after a call.
use Rattle.std.proofs.Common.{◌≡◌, ℕ, ◌≤◌, Bool, true, false, List, [], ◌∷◌, ◌++◌, Option, Some, None, length, drop}
use Rattle.std.proofs.Common.{take, refl, sym, ◌∙◌, ap, subst, cond, arith}
use Rattle.std.specs.Prelude.{◌==◌}
use Rattle.cnf_base.specs.declared.cnf.Entry.{Entry}
use Rattle.cnf_base.specs.Formulas.{IsFormula}
use Rattle.ground_terms.specs.declared.atom.Atom.{Atom}
use Rattle.ground_terms.specs.declared.ground.Junction.{Junction}
use Rattle.ground_terms.specs.Trees.{Trees}
use Rattle.ground_terms.specs.Calls.{Call, a_literal, a_node, calls_of_all}
use Rattle.clause_form.specs.declared.frame.Frame.{Frame}
use Rattle.clause_form.specs.Numbers.{Numbers, start, variable_in, with_atom_by, after_all}
use Rattle.clause_form.specs.Clauses.{definition, clause_form, formula_clauses}
use Rattle.clause_form.specs.Machine.{State, state, settle, settle_nodes, act, run, at_start}
use Rattle.clause_form.specs.Stands.{StandsBy}
use Rattle.clause_form.proofs.Runs.{run-append, whole_run}
use Rattle.clause_form.proofs.Below.{EntriesAreIn}
use Rattle.clause_form.proofs.Range.{is_formula}

either : (b : Bool) (x y : State) (n : Numbers) → x.numbers ≡ n → y.numbers ≡ n → (cond b x y).numbers ≡ n
either true x y n p q = p
either false x y n p q = q

numbers-settle_nodes : (n : Numbers) (fs : List Frame) (ls : List ℕ) (es : List Entry)
    → (settle_nodes n fs ls es).numbers ≡ n
numbers-settle_nodes n [] [] es = refl
numbers-settle_nodes n [] (l ∷ ls) es = refl
numbers-settle_nodes n (f ∷ fs) ls es =
    either (length (drop f.start ls) == f.parts)
    (settle_nodes n fs (take f.start ls) (es ++ definition f.junction f.own (drop f.start ls)))
    (state n (f ∷ fs) ls es) n
    (numbers-settle_nodes n fs (take f.start ls) (es ++ definition f.junction f.own (drop f.start ls))) refl

pub numbers-settle : (s : State) → (settle s).numbers ≡ s.numbers
numbers-settle s = numbers-settle_nodes s.numbers s.nodes s.lits s.clauses

atom_rises : (o : Option ℕ) (n : Numbers) (a : Atom) → n.variables ≤ (with_atom_by o n a).variables
atom_rises (Some v) n a = omega arith
atom_rises None n a = omega arith

act_rises : (s : State) (c : Call) → s.numbers.variables ≤ (act s c).numbers.variables
act_rises s (a_literal a positive) = atom_rises (variable_in s.numbers.atoms a) s.numbers a
act_rises s (a_node j parts) = omega arith

run_last : (calls : List Call) (c : Call) → run at_start (calls ++ c ∷ []) ≡ act (settle (run at_start calls)) c
run_last calls c = run-append at_start calls (c ∷ [])

-- a call that was written
pub stands_on : (old mid new : State) (calls : List Call) (c : Call) → StandsBy false old calls → mid ≡ settle old
    → new ≡ act mid c → StandsBy false new (calls ++ c ∷ [])
stands_on old mid new calls c h e f = ap settle (f ∙ ap (λ s. act s c) (e ∙ h) ∙ sym (run_last calls c))

-- a call behind too many variables
pub stands_full : (s t : State) (calls : List Call) (c : Call) → StandsBy true s calls
    → StandsBy true t (calls ++ c ∷ [])
stands_full s t calls c h =
    let r = act_rises (settle (run at_start calls)) c in
    let e = ap (λ n. n.variables) (numbers-settle (run at_start calls)) in
    let l = ap (λ x. x.numbers.variables) (run_last calls c) in
    omega (arith, h, r, e, l)

-- the call that has too many
pub fills_node : (old mid t : State) (calls : List Call) (j : Junction) (parts : ℕ) → StandsBy false old calls
    → mid ≡ settle old → mid.numbers.variables ≡ 2147483647
    → StandsBy true t (calls ++ a_node j parts ∷ [])
fills_node old mid t calls j parts h e full =
    let l = ap (λ x. x.numbers.variables) (run_last calls (a_node j parts)) in
    let m = ap (λ x. x.numbers.variables) (e ∙ h) in
    omega (arith, l, m, full)

pub fills_literal : (old mid t : State) (calls : List Call) (a : Atom) (positive : Bool) → StandsBy false old calls
    → mid ≡ settle old → variable_in mid.numbers.atoms a ≡ None
    → mid.numbers.variables ≡ 2147483647 → StandsBy true t (calls ++ a_literal a positive ∷ [])
fills_literal old mid t calls a positive h e new full =
    let l = ap (λ x. x.numbers.variables) (run_last calls (a_literal a positive)
    ∙ ap (λ s. act s (a_literal a positive)) (sym (e ∙ h))) in
    let o = ap (λ (o : Option ℕ). (with_atom_by o mid.numbers a).variables) new in
    omega (arith, l, o, full)

pub record Whole (board : State) (ps : Trees) : Type 0 where
  pub numbers : board.numbers ≡ after_all start ps
  pub clauses : board.clauses ≡ formula_clauses start ps

pub whole : (old new : State) (ps : Trees) → StandsBy false old (calls_of_all ps) → new ≡ settle old → Whole new ps
whole old new ps h e = let f = e ∙ h
    ∙ whole_run ps in record { numbers = ap (λ s. s.numbers) f; clauses = ap (λ s. s.clauses) f }

pub not_full : (s : State) (ps : Trees) (full : Bool) → StandsBy full s (calls_of_all ps)
    → (clause_form ps).variables ≤ 2147483647 → StandsBy false s (calls_of_all ps)
not_full s ps false h b = h
not_full s ps true h b =
    let e = ap (λ n. n.variables) (sym (numbers-settle (run at_start (calls_of_all ps)))
    ∙ ap (λ s. s.numbers) (whole_run ps)) in
    absurd (omega (arith, h, b, e))

settled_by : (b : Bool) (n : Numbers) (f : Frame) (fs : List Frame) (ls : List ℕ) (es : List Entry) (x : State)
    → settle x ≡ x
    → settle (state n (f ∷ fs) ls es) ≡ cond b x (state n (f ∷ fs) ls es)
    → settle (cond b x (state n (f ∷ fs) ls es)) ≡ cond b x (state n (f ∷ fs) ls es)
settled_by true n f fs ls es x h e = h
settled_by false n f fs ls es x h e = e

settled_twice : (n : Numbers) (fs : List Frame) (ls : List ℕ) (es : List Entry)
    → settle (settle_nodes n fs ls es) ≡ settle_nodes n fs ls es
settled_twice n [] [] es = refl
settled_twice n [] (l ∷ ls) es = refl
settled_twice n (f ∷ fs) ls es =
    settled_by (length (drop f.start ls) == f.parts) n f fs ls es
    (settle_nodes n fs (take f.start ls) (es ++ definition f.junction f.own (drop f.start ls)))
    (settled_twice n fs (take f.start ls) (es ++ definition f.junction f.own (drop f.start ls))) refl

settle-settle : (s : State) → settle (settle s) ≡ settle s
settle-settle s = settled_twice s.numbers s.nodes s.lits s.clauses

-- the same, where the test of `full` said which
pub still_full : (b : Bool) → b ≡ true → (s : State) (calls : List Call) (c : Call) → StandsBy b s calls
    → StandsBy b s (calls ++ c ∷ [])
still_full true e s calls c h = stands_full s s calls c h
still_full false e s calls c h = cc e

pub goes_on : (b : Bool) → b ≡ false → (old mid new : State) (calls : List Call) (c : Call) → mid ≡ settle old
    → new ≡ act mid c → StandsBy b old calls → StandsBy b new (calls ++ c ∷ [])
goes_on true e old mid new calls c p q h = cc e
goes_on false e old mid new calls c p q h = stands_on old mid new calls c h p q

pub refuses : (b : Bool) → b ≡ false → (old mid new : State) (calls : List Call) → mid ≡ settle old → new ≡ mid
    → StandsBy b old calls → StandsBy b new calls
refuses true e old mid new calls p q h = cc e
refuses false e old mid new calls p q h = ap settle (q ∙ p) ∙ settle-settle old ∙ h

pub too_many_nodes : (b : Bool) → b ≡ false → (old mid t : State) (calls : List Call) (j : Junction) (parts : ℕ)
    → mid ≡ settle old → mid.numbers.variables ≡ 2147483647
    → StandsBy b old calls → StandsBy true t (calls ++ a_node j parts ∷ [])
too_many_nodes true e old mid t calls j parts p q h = cc e
too_many_nodes false e old mid t calls j parts p q h = fills_node old mid t calls j parts h p q

pub too_many_atoms : (b : Bool) → b ≡ false → (old mid t : State) (calls : List Call) (a : Atom) (positive : Bool)
    → mid ≡ settle old → variable_in mid.numbers.atoms a ≡ None
    → mid.numbers.variables ≡ 2147483647 → StandsBy b old calls → StandsBy true t (calls ++ a_literal a positive ∷ [])
too_many_atoms true e old mid t calls a positive p n q h = cc e
too_many_atoms false e old mid t calls a positive p n q h = fills_literal old mid t calls a positive h p n q

pub is_formula_of : EntriesAreIn → (s : State) (ps : Trees) → Whole s ps
    → IsFormula (record { variables = s.numbers.variables; clauses = s.clauses })
is_formula_of entries s ps w =
    let e : clause_form ps ≡ record { variables = s.numbers.variables; clauses = s.clauses } = sym
    (λ i. record { variables = (w.numbers i).variables; clauses = w.clauses i }) in
    subst IsFormula e (is_formula entries ps)

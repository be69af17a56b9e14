-- The truth of literals, clauses and formulas as a test.
use Rattle.std.proofs.Common.{◌≡◌, ℕ, ◌+◌, ◌*◌, eqb, Bool, true, false, cond, List, [], ◌∷◌, ◌++◌, Some, slice_get}
use Rattle.std.proofs.Common.{zero, suc, refl, sym, ◌∙◌, ap, arith}
use Rattle.std.specs.Prelude.{◌&&◌, ◌||◌, not}
use Rattle.std.proofs.lemmas.Bool.{and_parts, and_from, or_left, or_right, eqb-true, eq-eqb}
use Rattle.std.proofs.lemmas.Grind.{common_steps}
use Rattle.cnf_base.specs.declared.cnf.Entry.{Entry}
use Rattle.cnf_base.specs.declared.cnf.Entry.TheVariants.{Clause, True}
use Rattle.cnf_base.specs.Literals.{is_true, is_positive, variable_of, literal_of, member}
use Rattle.cnf_base.specs.Clauses.{SatisfiesClause, SatisfiesEntry, entry_of}
use Rattle.cnf_base.specs.Formulas.{Formula, Satisfies}
use Rattle.clause_form.proofs.Below.{EntriesAreTrue}

-- a literal of a variable is true where the variable has its sign
pub literal_truth : (value : ℕ → Bool) (positive : Bool) (v : ℕ)
    → is_true value (literal_of positive v) ≡ cond positive (value v) (not (value v))
unfolding is_true
literal_truth value true v =
    let s : is_positive (2 * v) ≡ true = eq-eqb _ 0 (omega arith) in
    let n : variable_of (2 * v) ≡ v = omega arith in
    λ i. cond (s i) (value (n i)) (not (value (n i)))
literal_truth value false v =
    let s : is_positive (2 * v + 1) ≡ false = grind (arith, common_steps) in
    let n : variable_of (2 * v + 1) ≡ v = omega arith in
    λ i. cond (s i) (value (n i)) (not (value (n i)))

module _ (value : ℕ → Bool) where
  abbrev pub any_lit : List ℕ → Bool
  any_lit [] = false
  any_lit (l ∷ ls) = is_true value l || any_lit ls

  abbrev pub all_lits : List ℕ → Bool
  all_lits [] = true
  all_lits (l ∷ ls) = is_true value l && all_lits ls

  abbrev pub entry_true : Entry → Bool
  entry_true (Clause ls) = any_lit ls
  entry_true True = true

  abbrev pub all_entries_true : List Entry → Bool
  all_entries_true [] = true
  all_entries_true (e ∷ es) = entry_true e && all_entries_true es

  and_assoc : (a b c : Bool) → (a && (b && c)) ≡ ((a && b) && c)
  and_assoc true b c = refl
  and_assoc false b c = refl

  pub all_entries_true-append : (xs ys : List Entry)
      → all_entries_true (xs ++ ys) ≡ (all_entries_true xs && all_entries_true ys)
  all_entries_true-append [] ys = refl
  all_entries_true-append (x ∷ xs) ys = ap (λ b. entry_true x && b) (all_entries_true-append xs ys)
      ∙ and_assoc (entry_true x) (all_entries_true xs) (all_entries_true ys)

  pub or_nothing : (a : Bool) → (a || false) ≡ a
  or_nothing true = refl
  or_nothing false = refl

  -- the test says what the definitions say
  any_of_clause : (ls : List ℕ) (l : ℕ) → member l ls ≡ true → is_true value l ≡ true → any_lit ls ≡ true
  any_of_clause [] l m t = cc m
  any_of_clause (x ∷ ls) l m t = by (eqb l x) refl m (any_of_clause ls l)
    where
      by : (b : Bool) → eqb l x ≡ b → (b || member l ls) ≡ true
          → (member l ls ≡ true → is_true value l ≡ true → any_lit ls ≡ true) → (is_true value x || any_lit ls) ≡ true
      by true e m r = or_left (is_true value x) (any_lit ls) (ap (is_true value) (sym (eqb-true l x e)) ∙ t)
      by false e m r = or_right (is_true value x) (any_lit ls) (r m t)

  clause_of_any : (ls : List ℕ) → any_lit ls ≡ true → SatisfiesClause value ls
  clause_of_any [] h = cc h
  clause_of_any (x ∷ ls) h = by (is_true value x) refl h (clause_of_any ls)
    where
      by : (b : Bool) → is_true value x ≡ b → (b || any_lit ls) ≡ true
          → (any_lit ls ≡ true → SatisfiesClause value ls) → SatisfiesClause value (x ∷ ls)
      by true e h r = (x, or_left (eqb x x) (member x ls) (eq-eqb x x refl), e)
      by false e h r = let s = r h in (s.0, or_right (eqb s.0 x) (member s.0 ls) s.1, s.2)

  entry_is_true : (e : Entry) → SatisfiesEntry value e → entry_true e ≡ true
  entry_is_true (Clause ls) s = any_of_clause ls s.0 s.1 s.2
  entry_is_true True s = refl

  entry_satisfies : (e : Entry) → entry_true e ≡ true → SatisfiesEntry value e
  entry_satisfies (Clause ls) h = clause_of_any ls h
  entry_satisfies True h = tt

  each_true : (es : List Entry) → ((k : ℕ) (e : Entry) → slice_get es k ≡ Some e → SatisfiesEntry value e)
      → all_entries_true es ≡ true
  each_true [] f = refl
  each_true (e ∷ es) f = and_from _ _ (entry_is_true e (f 0 e refl)) (each_true es (λ k x h. f (suc k) x h))

  pub all_true_of : (f : Formula) → Satisfies value f → all_entries_true f.clauses ≡ true
  all_true_of f s = each_true f.clauses s

  some_same : {A : Type 0} (x y : A) → Some x ≡ Some y → x ≡ y
  some_same x y h = cc h

  each_satisfied : (es : List Entry) → all_entries_true es ≡ true → (k : ℕ) (e : Entry) → slice_get es k ≡ Some e
      → SatisfiesEntry value e
  each_satisfied [] h k e g = cc g
  each_satisfied (x ∷ es) h zero e g =
      entry_satisfies e (ap entry_true (sym (some_same x e g)) ∙ (and_parts (entry_true x) (all_entries_true es) h).0)
  each_satisfied (x ∷ es) h (suc k) e g = each_satisfied es (and_parts (entry_true x) (all_entries_true es) h).1 k e g

  pub satisfies_of : (f : Formula) → all_entries_true f.clauses ≡ true → Satisfies value f
  satisfies_of f h = each_satisfied f.clauses h

  both_ways : (a b : Bool) → (a ≡ true → b ≡ true) → (b ≡ true → a ≡ true) → a ≡ b
  both_ways true b f g = sym (f refl)
  both_ways false true f g = g refl
  both_ways false false f g = refl

  pub made_true : EntriesAreTrue → (ls : List ℕ) → entry_true (entry_of [] ls) ≡ any_lit ls
  made_true truth ls = both_ways _ _
      (λ h. let s = (truth.entry_true value ls).0 (entry_satisfies (entry_of [] ls) h) in any_of_clause ls s.0 s.1 s.2)
      (λ h. entry_is_true (entry_of [] ls) ((truth.entry_true value ls).1 (clause_of_any ls h)))

-- The literals are of the variables.
use Rattle.std.proofs.Common.{◌≡◌, ℕ, ◌+◌, ◌<◌, ◌≤◌, Bool, true, false, List, [], ◌∷◌, ◌++◌, Option, Some, None, refl}
use Rattle.std.proofs.Common.{sym, ◌∙◌, cond, arith}
use Rattle.std.specs.Option.{unwrap_or}
use Rattle.cnf_base.specs.declared.cnf.Entry.{Entry}
use Rattle.cnf_base.specs.declared.cnf.Entry.TheVariants.{Clause, True}
use Rattle.cnf_base.specs.Literals.{literal_of, opposite, IsLiteral, AreLiterals}
use Rattle.cnf_base.specs.Clauses.{entry_of, IsEntry}
use Rattle.cnf_base.specs.Formulas.{AreEntries, IsFormula}
use Rattle.ground_terms.specs.declared.atom.Atom.{Atom}
use Rattle.ground_terms.specs.Same.{same_atom}
use Rattle.ground_terms.specs.declared.ground.Junction.{Junction}
use Rattle.ground_terms.specs.declared.ground.Junction.TheVariants.{And, Or}
use Rattle.ground_terms.specs.Trees.{Tree, Trees, literal, node, none, part}
use Rattle.clause_form.specs.Numbers.{Numbers, start, variable_in, with_place, with_atom_by, after, after_all}
use Rattle.clause_form.specs.Numbers.{atom_variable, place_lit, lit_of, lits_of}
use Rattle.clause_form.specs.Clauses.{unless_true, implies, implies_each, definition, clauses_of, clauses_of_all}
use Rattle.clause_form.specs.Clauses.{formula_clauses, clause_form}
use Rattle.clause_form.proofs.Below.{EntriesAreIn}
use Rattle.clause_form.proofs.Growth.{found_last, keeps_append}

signed : (positive : Bool) (m v : ℕ) → 0 < v → v ≤ m → IsLiteral m (literal_of positive v)
signed true m v p q = (omega (arith, p), omega (arith, q))
signed false m v p q = (omega (arith, p), omega (arith, q))

append_entries : (m : ℕ) (xs ys : List Entry) → AreEntries m xs → AreEntries m ys → AreEntries m (xs ++ ys)
append_entries m [] ys p q = q
append_entries m (x ∷ xs) ys p q = (p.0, append_entries m xs ys p.1 q)

unless_in : (m : ℕ) (e : Entry) → IsEntry m e → AreEntries m (unless_true e)
unless_in m (Clause ls) p = (p, tt)
unless_in m True p = tt

module _ (entries : EntriesAreIn) where
  entry_is_in : (m : ℕ) (ls : List ℕ) → AreLiterals m ls → AreEntries m (unless_true (entry_of [] ls))
  entry_is_in m ls p = unless_in m (entry_of [] ls) (entries.entry_in m ls p)

  implies_in : (m d : ℕ) (ls : List ℕ) → IsLiteral m d → AreLiterals m ls → AreEntries m (implies d ls)
  implies_in m d ls p r = entry_is_in m (opposite d ∷ ls) (entries.opposite_in m d p, r)

  each_in : (m d : ℕ) (ls : List ℕ) → IsLiteral m d → AreLiterals m ls → AreEntries m (implies_each d ls)
  each_in m d [] p r = tt
  each_in m d (l ∷ ls) p r =
      append_entries m (implies d (l ∷ [])) (implies_each d ls) (implies_in m d (l ∷ []) p (r.0, tt))
      (each_in m d ls p r.1)

  definition_in : (m d : ℕ) (j : Junction) (ls : List ℕ) → IsLiteral m d → AreLiterals m ls
      → AreEntries m (definition j d ls)
  definition_in m d And ls p r = each_in m d ls p r
  definition_in m d Or ls p r = implies_in m d ls p r

-- each atom's variable is one that was given
abbrev pub Numbered : Numbers → Type 0
Numbered n = (a : Atom) (k : ℕ) → variable_in n.atoms a ≡ Some k → (0 < k) × (k ≤ n.variables)

new_numbered : (n : Numbers) (a b : Atom) (k : ℕ) (o : Option ℕ) → Numbered n → variable_in n.atoms b ≡ o
    → variable_in (n.atoms ++ (a, n.variables + 1) ∷ []) b ≡ Some k
    → (0 < k) × (k ≤ n.variables + 1)
new_numbered n a b k None f e h = by (same_atom b a) (sym (found_last n.atoms a b (n.variables + 1) e) ∙ h)
  where
    by : (t : Bool) → cond t (Some (n.variables + 1)) None ≡ Some k → (0 < k) × (k ≤ n.variables + 1)
    by true h = let i : n.variables + 1 ≡ k = cc h in (omega arith, omega arith)
    by false h = cc h
new_numbered n a b k (Some m) f e h =
    let s : Some m ≡ Some k = sym (keeps_append n.atoms ((a, n.variables + 1) ∷ []) b m e) ∙ h in
    let i : m ≡ k = cc s in
    let g = f b m e in (omega (arith, g.0), omega (arith, g.1))

numbered_atom : (o : Option ℕ) (n : Numbers) (a : Atom) → Numbered n → Numbered (with_atom_by o n a)
numbered_atom (Some v) n a f = f
numbered_atom None n a f = λ b k h. new_numbered n a b k (variable_in n.atoms b) f refl h

numbered_place : (n : Numbers) → Numbered n → Numbered (with_place n)
numbered_place n f = λ b k h. let g = f b k h in (g.0, omega (arith, g.1))

mutual
  pub numbered_after : (n : Numbers) (p : Tree) → Numbered n → Numbered (after n p)
  numbered_after n (literal a positive) f = numbered_atom (variable_in n.atoms a) n a f
  numbered_after n (node j ps) f = numbered_after_all (with_place n) ps (numbered_place n f)

  pub numbered_after_all : (n : Numbers) (ps : Trees) → Numbered n → Numbered (after_all n ps)
  numbered_after_all n none f = f
  numbered_after_all n (part p ps) f = numbered_after_all (after n p) ps (numbered_after n p f)

rises_atom : (o : Option ℕ) (n : Numbers) (a : Atom) → n.variables ≤ (with_atom_by o n a).variables
rises_atom (Some v) n a = omega arith
rises_atom None n a = omega arith

mutual
  pub rises : (n : Numbers) (p : Tree) → n.variables ≤ (after n p).variables
  rises n (literal a positive) = rises_atom (variable_in n.atoms a) n a
  rises n (node j ps) = let h = rises_all (with_place n) ps in omega (arith, h)

  pub rises_all : (n : Numbers) (ps : Trees) → n.variables ≤ (after_all n ps).variables
  rises_all n none = omega arith
  rises_all n (part p ps) = let h = rises n p in let h' = rises_all (after n p) ps in omega (arith, h, h')

atom_in : (o : Option ℕ) (n : Numbers) (a : Atom) → Numbered n → variable_in n.atoms a ≡ o
    → (0 < unwrap_or o (n.variables + 1)) × (unwrap_or o (n.variables + 1) ≤ (with_atom_by o n a).variables)
atom_in (Some v) n a f e = f a v e
atom_in None n a f e = (omega arith, omega arith)

lit_in : (n : Numbers) (p : Tree) → Numbered n → IsLiteral (after n p).variables (lit_of n p)
lit_in n (literal a positive) f = let h = atom_in (variable_in n.atoms a) n a f refl in
    signed positive _ (atom_variable n a) h.0 h.1
lit_in n (node j ps) f = signed true _ (n.variables + 1) (omega arith) (rises_all (with_place n) ps)

wider : (l m : ℕ) (x : ℕ) → l ≤ m → IsLiteral l x → IsLiteral m x
wider l m x h p = (p.0, omega (arith, h, p.1))

lits_in : (m : ℕ) (n : Numbers) (ps : Trees) → Numbered n → (after_all n ps).variables ≤ m
    → AreLiterals m (lits_of n ps)
lits_in m n none f h = tt
lits_in m n (part p ps) f h =
    let r = rises_all (after n p) ps in (
      wider (after n p).variables m (lit_of n p) (omega (arith, h, r)) (lit_in n p f),
      lits_in m (after n p) ps (numbered_after n p f) h,
    )

module _ (entries : EntriesAreIn) where
  mutual
    clauses_in : (m : ℕ) (n : Numbers) (p : Tree) → Numbered n → (after n p).variables ≤ m
        → AreEntries m (clauses_of n p)
    clauses_in m n (literal a positive) f h = tt
    clauses_in m n (node j ps) f h =
        let r = rises_all (with_place n) ps in
        append_entries m (clauses_of_all (with_place n) ps) (definition j (place_lit n) (lits_of (with_place n) ps))
        (clauses_in_all m (with_place n) ps (numbered_place n f) h)
        (definition_in entries m (place_lit n) j (lits_of (with_place n) ps)
        (signed true m (n.variables + 1) (omega arith) (omega (arith, h, r)))
        (lits_in m (with_place n) ps (numbered_place n f) h))

    clauses_in_all : (m : ℕ) (n : Numbers) (ps : Trees) → Numbered n → (after_all n ps).variables ≤ m
        → AreEntries m (clauses_of_all n ps)
    clauses_in_all m n none f h = tt
    clauses_in_all m n (part p ps) f h =
        let r = rises_all (after n p) ps in
        append_entries m (clauses_of n p) (clauses_of_all (after n p) ps) (clauses_in m n p f (omega (arith, h, r)))
        (clauses_in_all m (after n p) ps (numbered_after n p f) h)

  formulas_in : (m : ℕ) (n : Numbers) (ps : Trees) → Numbered n → (after_all n ps).variables ≤ m
      → AreEntries m (formula_clauses n ps)
  formulas_in m n none f h = tt
  formulas_in m n (part p ps) f h =
      let r = rises_all (after n p) ps in
      append_entries m (clauses_of n p) (Clause (lit_of n p ∷ []) ∷ formula_clauses (after n p) ps)
      (clauses_in m n p f (omega (arith, h, r))) (
        ((refl, refl, tt), (wider (after n p).variables m (lit_of n p) (omega (arith, h, r)) (lit_in n p f), tt)),
        formulas_in m (after n p) ps (numbered_after n p f) h,
      )

  pub is_formula : (ps : Trees) → IsFormula (clause_form ps)
  is_formula ps = formulas_in (clause_form ps).variables start ps (λ a k h. cc h) (omega arith)

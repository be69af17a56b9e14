-- How many atoms formulas have whose atoms are among some given ones.
use Rattle.std.proofs.Common.{◌≡◌, ℕ, ◌+◌, ◌≤◌, true, List, [], ◌∷◌, ◌++◌, Option, Some, None}
use Rattle.std.proofs.Common.{length, cond, refl, sym, ap, ◌∙◌, arith, length-append, ⊎_elim}
use Rattle.std.proofs.lemmas.Bool.{or_cases, false≢true}
use Rattle.ground_terms.specs.declared.atom.Atom.{Atom}
use Rattle.ground_terms.specs.Same.{same_atom, holds_in}
use Rattle.ground_terms.specs.Literals.{IsOver, AreOver, AreFlat}
use Rattle.ground_terms.specs.Trees.{Tree, Trees, literal, node, none, part, trees_of, nodes_all}
use Rattle.clause_form.specs.Numbers.{Numbers, start, variable_in, with_place, with_atom_by, after, after_all}
use Rattle.clause_form.specs.Clauses.{clause_form}
use Rattle.clause_form.proofs.Below.{AtomsAreSame}
use Rattle.clause_form.proofs.Growth.{keeps_append, found_last}
use Rattle.clause_form.proofs.Counting.{few_places, atoms_and_places}
use Rattle.clause_form.proofs.FlatCounting.{few_places_behind}

-- how many of these atoms have no variable
abbrev none_for : Option ℕ → ℕ
none_for (Some v) = 0
none_for None = 1

abbrev missing : List (Atom × ℕ) → List Atom → ℕ
missing known [] = 0
missing known (a ∷ named) = none_for (variable_in known a) + missing known named

-- one more atom leaves no more of them without
none_for-kept : (o p : Option ℕ) → ((k : ℕ) → o ≡ Some k → p ≡ Some k) → none_for p ≤ none_for o
none_for-kept (Some v) p h = let e = ap none_for (h v refl) in omega (arith, e)
none_for-kept None (Some w) h = omega arith
none_for-kept None None h = omega arith

missing-more : (known : List (Atom × ℕ)) (e : Atom × ℕ) (named : List Atom)
    → missing (known ++ e ∷ []) named ≤ missing known named
missing-more known e [] = omega arith
missing-more known e (a ∷ named) =
    let here = none_for-kept (variable_in known a) (variable_in (known ++ e ∷ []) a)
    (λ k h. keeps_append known (e ∷ []) a k h) in
    let rest = missing-more known e named in
    omega (arith, here, rest)

module _ (atoms : AtomsAreSame) where
  -- and one of them that is new leaves fewer
  missing-new : (known : List (Atom × ℕ)) (a : Atom) (v : ℕ) (named : List Atom) → variable_in known a ≡ None
      → holds_in named a ≡ true → missing (known ++ (a, v) ∷ []) named + 1 ≤ missing known named
  missing-new known a v [] new h = absurd (false≢true h)
  missing-new known a v (b ∷ named) new h =
      ⊎_elim
      (λ yes.
      let same : a ≡ b = atoms.same a b yes in
      let before = ap none_for (ap (variable_in known) (sym same) ∙ new) in
      let now = ap none_for (ap (variable_in (known ++ (a, v) ∷ [])) (sym same) ∙ found_last known a a v new
      ∙ ap (λ t. cond t (Some v) None) (atoms.reflexive a)) in
      let rest = missing-more known (a, v) named in
      omega (arith, before, now, rest))
      (λ later.
      let here = none_for-kept (variable_in known b) (variable_in (known ++ (a, v) ∷ []) b)
      (λ k kept. keeps_append known ((a, v) ∷ []) b k kept) in
      let rest = missing-new known a v named new later in
      omega (arith, here, rest))
      (or_cases (same_atom a b) (holds_in named a) h)

  -- those with a variable and those without are no more than before
  one-atom : (o : Option ℕ) (n : Numbers) (a : Atom) (named : List Atom) → variable_in n.atoms a ≡ o
      → holds_in named a ≡ true → length (with_atom_by o n a).atoms + missing (with_atom_by o n a).atoms named
      ≤ length n.atoms + missing n.atoms named
  one-atom (Some v) n a named e h = omega arith
  one-atom None n a named e h =
      let fewer = missing-new n.atoms a (n.variables + 1) named e h in
      let longer = length-append n.atoms ((a, n.variables + 1) ∷ []) in
      omega (arith, fewer, longer)

  mutual
    few-atoms : (n : Numbers) (p : Tree) (named : List Atom) → IsOver named p
        → length (after n p).atoms + missing (after n p).atoms named ≤ length n.atoms + missing n.atoms named
    few-atoms n (literal a positive) named h = one-atom (variable_in n.atoms a) n a named refl h
    few-atoms n (node j ps) named h = few-atoms_all (with_place n) ps named h

    few-atoms_all : (n : Numbers) (ps : Trees) (named : List Atom) → AreOver named ps
        → length (after_all n ps).atoms + missing (after_all n ps).atoms named ≤ length n.atoms + missing n.atoms named
    few-atoms_all n none named h = omega arith
    few-atoms_all n (part p ps) named h =
        let here = few-atoms n p named h.0 in
        let rest = few-atoms_all (after n p) ps named h.1 in
        omega (arith, here, rest)

  few-missing : (known : List (Atom × ℕ)) (named : List Atom) → missing known named ≤ length named
  few-missing known [] = omega arith
  few-missing known (a ∷ named) =
      let here = one (variable_in known a) in
      let rest = few-missing known named in
      omega (arith, here, rest)
    where
      one : (o : Option ℕ) → none_for o ≤ 1
      one (Some v) = omega arith
      one None = omega arith

  after-append : (n : Numbers) (ps qs : List Tree)
      → after_all n (trees_of (ps ++ qs)) ≡ after_all (after_all n (trees_of ps)) (trees_of qs)
  after-append n [] qs = refl
  after-append n (p ∷ ps) qs = after-append (after n p) ps qs

  pub few_variables_behind : (ps qs : List Tree) (named : List Atom) → AreFlat qs → AreOver named (trees_of qs)
      → (clause_form (trees_of (ps ++ qs))).variables ≤ nodes_all (trees_of ps) + length qs + length named
  few_variables_behind ps qs named flat over =
      let before = after_all start (trees_of ps) in
      let all = atoms_and_places (trees_of (ps ++ qs)) in
      let same = ap (λ n. length n.atoms) (after-append start ps qs) in
      let places = few_places_behind ps qs flat in
      let first = atoms_and_places (trees_of ps) in
      let few = few_places (trees_of ps) in
      let more = few-atoms_all before (trees_of qs) named over in
      let missed = few-missing before.atoms named in
      omega (arith, all, same, places, first, few, more, missed)

-- Atoms keep their variables.
use Rattle.std.proofs.Common.{◌≡◌, ℕ, ◌+◌, Bool, true, false, List, [], ◌∷◌, ◌++◌, Option, Some, None, refl, ◌∙◌, ap}
use Rattle.std.proofs.Common.{cond}
use Rattle.std.specs.Option.{unwrap_or}
use Rattle.ground_terms.specs.declared.atom.Atom.{Atom}
use Rattle.ground_terms.specs.Same.{same_atom}
use Rattle.ground_terms.specs.Trees.{Tree, Trees, literal, node, none, part}
use Rattle.clause_form.proofs.Below.{AtomsAreSame}
use Rattle.clause_form.specs.Numbers.{Numbers, variable_in, with_place, with_atom_by, with_atom, after, after_all}
use Rattle.clause_form.specs.Numbers.{atom_variable}

abbrev pub Keeps : List (Atom × ℕ) → List (Atom × ℕ) → Type 0
Keeps old new = (a : Atom) (k : ℕ) → variable_in old a ≡ Some k → variable_in new a ≡ Some k

kept_one : (t : Bool) (k v : ℕ) (r s : Option ℕ) → (r ≡ Some k → s ≡ Some k) → cond t (Some v) r ≡ Some k
    → cond t (Some v) s ≡ Some k
kept_one true k v r s f h = h
kept_one false k v r s f h = f h

pub keeps_append : (xs ys : List (Atom × ℕ)) → Keeps xs (xs ++ ys)
keeps_append [] ys a k h = cc h
keeps_append (x ∷ xs) ys a k h =
    kept_one (same_atom a x.0) k x.1 (variable_in xs a) (variable_in (xs ++ ys) a) (keeps_append xs ys a k) h

pub keeps_atom_by : (o : Option ℕ) (n : Numbers) (a : Atom) → Keeps n.atoms (with_atom_by o n a).atoms
keeps_atom_by None n a b k h = keeps_append n.atoms ((a, n.variables + 1) ∷ []) b k h
keeps_atom_by (Some v) n a b k h = h

mutual
  pub keeps_after : (n : Numbers) (p : Tree) → Keeps n.atoms (after n p).atoms
  keeps_after n (literal a positive) b k h = keeps_atom_by (variable_in n.atoms a) n a b k h
  keeps_after n (node j ps) b k h = keeps_after_all (with_place n) ps b k h

  pub keeps_after_all : (n : Numbers) (ps : Trees) → Keeps n.atoms (after_all n ps).atoms
  keeps_after_all n none b k h = h
  keeps_after_all n (part p ps) b k h = keeps_after_all (after n p) ps b k (keeps_after n p b k h)

-- an atom that is new stands at the end
later : (t : Bool) (v : ℕ) (r s o : Option ℕ) → (r ≡ None → s ≡ o) → cond t (Some v) r ≡ None → cond t (Some v) s ≡ o
later true v r s o f h = cc h
later false v r s o f h = f h

pub found_last : (xs : List (Atom × ℕ)) (a b : Atom) (k : ℕ) → variable_in xs b ≡ None
    → variable_in (xs ++ (a, k) ∷ []) b ≡ cond (same_atom b a) (Some k) None
found_last [] a b k h = refl
found_last (x ∷ xs) a b k h =
    later (same_atom b x.0) x.1 (variable_in xs b) (variable_in (xs ++ (a, k) ∷ []) b)
    (cond (same_atom b a) (Some k) None) (found_last xs a b k) h

-- an atom has its variable once it has stood
module _ (atoms : AtomsAreSame) where
  known_by : (o : Option ℕ) (n : Numbers) (a : Atom) → variable_in n.atoms a ≡ o
      → variable_in (with_atom_by o n a).atoms a ≡ Some (unwrap_or o (n.variables + 1))
  known_by None n a e = found_last n.atoms a a (n.variables + 1) e
      ∙ ap (λ t. cond t (Some (n.variables + 1)) None) (atoms.reflexive a)
  known_by (Some v) n a e = e

  pub known : (n : Numbers) (a : Atom) → variable_in (with_atom n a).atoms a ≡ Some (atom_variable n a)
  known n a = known_by (variable_in n.atoms a) n a refl

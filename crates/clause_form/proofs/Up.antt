-- An assignment that satisfies the formulas extends to values that satisfy the clauses: each And and Or has its truth.
use Rattle.std.proofs.Common.{◌≡◌, ℕ, ◌+◌, ◌-◌, Bool, true, false, List, [], ◌∷◌, ◌++◌, Option, Some, None, length}
use Rattle.std.proofs.Common.{refl, sym, ◌∙◌, ap, subst, cond, arith, append_assoc, length-append, get_or}
use Rattle.std.specs.Prelude.{◌&&◌, ◌||◌, not}
use Rattle.std.proofs.lemmas.Bool.{and_parts, and_from}
use Rattle.std.proofs.lemmas.List.{get_or-append-add, append-nil}
use Rattle.cnf_base.specs.declared.cnf.Entry.TheVariants.{Clause}
use Rattle.cnf_base.specs.Literals.{is_true}
use Rattle.cnf_base.specs.Formulas.{value_of}
use Rattle.ground_terms.specs.declared.atom.Atom.{Atom}
use Rattle.ground_terms.specs.Same.{same_atom}
use Rattle.ground_terms.specs.declared.ground.Junction.{Junction}
use Rattle.ground_terms.specs.declared.ground.Junction.TheVariants.{And, Or}
use Rattle.ground_terms.specs.Trees.{Tree, Trees, literal, node, none, part, truth, all_true, any_true}
use Rattle.clause_form.specs.Numbers.{Numbers, start, variable_in, with_place, with_atom_by, after, after_all}
use Rattle.clause_form.specs.Numbers.{place_lit, lit_of, lits_of}
use Rattle.clause_form.specs.Clauses.{definition, clauses_of, clauses_of_all, formula_clauses, clause_form}
use Rattle.clause_form.specs.Meaning.{Extends, ExtendsToModel, atoms_of}
use Rattle.clause_form.proofs.Below.{AtomsAreSame, EntriesAreTrue}
use Rattle.clause_form.proofs.Truths.{literal_truth, any_lit, all_lits, all_entries_true, all_entries_true-append}
use Rattle.clause_form.proofs.Truths.{or_nothing, satisfies_of}
use Rattle.clause_form.proofs.Definitions.{joined, definition_truth}
use Rattle.clause_form.proofs.Growth.{found_last, keeps_append}
use Rattle.clause_form.proofs.Down.{literal_value}

at_end : (before rest : List Bool) (t : Bool) (n : ℕ) → length before ≡ n → value_of (before ++ t ∷ rest) (n + 1) ≡ t
at_end before rest t n e =
    let i : (n + 1) - 1 ≡ length before + 0 = omega arith in
    ap (λ k. get_or (before ++ t ∷ rest) k false) i ∙ get_or-append-add before (t ∷ rest) 0 false

module _ (same_atoms : AtomsAreSame) (entries : EntriesAreTrue) (v : Atom → Bool) where
  abbrev more_atom : Option ℕ → Atom → List Bool
  more_atom (Some k) a = []
  more_atom None a = v a ∷ []

  -- the values of the variables that a formula brings
  abbrev mutual
    more : Numbers → Tree → List Bool
    more n (literal a positive) = more_atom (variable_in n.atoms a) a
    more n (node j ps) = truth v (node j ps) ∷ more_all (with_place n) ps

    more_all : Numbers → Trees → List Bool
    more_all n none = []
    more_all n (part p ps) = more n p ++ more_all (after n p) ps

  -- the values so far give the atoms so far theirs, whatever follows
  record Fits (n : Numbers) (before : List Bool) : Type 0 where
    len : length before ≡ n.variables
    atoms : (rest : List Bool) → Extends v n.atoms (value_of (before ++ rest))

  plus_one : (before : List Bool) (t : Bool) (n : ℕ) → length before ≡ n → length (before ++ t ∷ []) ≡ n + 1
  plus_one before t n e = length-append before (t ∷ []) ∙ omega arith

  fits_place : (n : Numbers) (before : List Bool) (t : Bool) → Fits n before → Fits (with_place n) (before ++ t ∷ [])
  fits_place n before t f = record {
    len = plus_one before t n.variables f.len;
    atoms = λ rest a k h. subst (λ w. value_of w k ≡ v a) (sym (append_assoc before (t ∷ []) rest))
        (f.atoms (t ∷ rest) a k h);
  }

  last_atom : (before rest : List Bool) (a b : Atom) (n k : ℕ) (t : Bool) → same_atom b a ≡ t → length before ≡ n
      → cond t (Some (n + 1)) None ≡ Some k
      → value_of (before ++ v a ∷ rest) k ≡ v b
  last_atom before rest a b n k true s e h =
      let i : n + 1 ≡ k = cc h in
      ap (value_of (before ++ v a ∷ rest)) (sym i) ∙ at_end before rest (v a) n e ∙ ap v (sym (same_atoms.same b a s))
  last_atom before rest a b n k false s e h = cc h

  new_atom : (n : Numbers) (before rest : List Bool) (a b : Atom) (k : ℕ) (o : Option ℕ) → Fits n before
      → variable_in n.atoms b ≡ o
      → variable_in (n.atoms ++ (a, n.variables + 1) ∷ []) b ≡ Some k → value_of (before ++ v a ∷ rest) k ≡ v b
  new_atom n before rest a b k None f e h =
      last_atom before rest a b n.variables k (same_atom b a) refl f.len
      (sym (found_last n.atoms a b (n.variables + 1) e) ∙ h)
  new_atom n before rest a b k (Some m) f e h =
      let s : Some m ≡ Some k = sym (keeps_append n.atoms ((a, n.variables + 1) ∷ []) b m e) ∙ h in
      let i : m ≡ k = cc s in
      ap (value_of (before ++ v a ∷ rest)) (sym i) ∙ f.atoms (v a ∷ rest) b m e

  fits_atom : (o : Option ℕ) (n : Numbers) (before : List Bool) (a : Atom) → Fits n before
      → Fits (with_atom_by o n a) (before ++ more_atom o a)
  fits_atom (Some k) n before a f = subst (Fits n) (sym (append-nil before)) f
  fits_atom None n before a f = record {
    len = plus_one before (v a) n.variables f.len;
    atoms = λ rest b k h. subst (λ w. value_of w k ≡ v b) (sym (append_assoc before (v a ∷ []) rest))
        (new_atom n before rest a b k (variable_in n.atoms b) f refl h);
  }

  mutual
    fits_after : (n : Numbers) (p : Tree) (before : List Bool) → Fits n before → Fits (after n p) (before ++ more n p)
    fits_after n (literal a positive) before f = fits_atom (variable_in n.atoms a) n before a f
    fits_after n (node j ps) before f =
        subst (Fits (after_all (with_place n) ps))
        (append_assoc before (truth v (node j ps) ∷ []) (more_all (with_place n) ps))
        (fits_after_all (with_place n) ps (before ++ truth v (node j ps) ∷ [])
        (fits_place n before (truth v (node j ps)) f))

    fits_after_all : (n : Numbers) (ps : Trees) (before : List Bool) → Fits n before
        → Fits (after_all n ps) (before ++ more_all n ps)
    fits_after_all n none before f = subst (Fits n) (sym (append-nil before)) f
    fits_after_all n (part p ps) before f =
        subst (Fits (after_all (after n p) ps)) (append_assoc before (more n p) (more_all (after n p) ps))
        (fits_after_all (after n p) ps (before ++ more n p) (fits_after n p before f))

  not_or : (t : Bool) → not t || t ≡ true
  not_or true = refl
  not_or false = refl

  same_or : (a b : Bool) → a ≡ b → not a || b ≡ true
  same_or a b e = ap (λ x. not x || b) e ∙ not_or b

  -- what holds of a formula's clauses, and of its literal, at values that go on behind it
  record Good (n : Numbers) (p : Tree) (w : List Bool) : Type 0 where
    lit : is_true (value_of w) (lit_of n p) ≡ truth v p
    clauses : all_entries_true (value_of w) (clauses_of n p) ≡ true

  record GoodAll (n : Numbers) (ps : Trees) (w : List Bool) : Type 0 where
    all : all_lits (value_of w) (lits_of n ps) ≡ all_true v ps
    any : any_lit (value_of w) (lits_of n ps) ≡ any_true v ps
    clauses : all_entries_true (value_of w) (clauses_of_all n ps) ≡ true

  joins : (j : Junction) (n : Numbers) (ps : Trees) (w : List Bool) → GoodAll n ps w
      → joined entries (value_of w) j (lits_of n ps) ≡ truth v (node j ps)
  joins And n ps w g = g.all
  joins Or n ps w g = g.any

  mutual
    good : (n : Numbers) (p : Tree) (before rest w : List Bool) → Fits n before → w ≡ (before ++ more n p) ++ rest
        → Good n p w
    good n (literal a positive) before rest w f e = record {
      lit = literal_value same_atoms entries v (value_of w) n a positive
          (subst (λ x. Extends v (after n (literal a positive)).atoms (value_of x)) (sym e)
          ((fits_after n (literal a positive) before f).atoms rest));
      clauses = refl;
    }
    good n (node j ps) before rest w f e =
        let t : Bool = truth v (node j ps) in
        let e' : w ≡ ((before ++ t ∷ []) ++ more_all (with_place n) ps) ++ rest =
        e ∙ ap (λ x. x ++ rest) (sym (append_assoc before (t ∷ []) (more_all (with_place n) ps))) in
        let g = good_all (with_place n) ps (before ++ t ∷ []) rest w (fits_place n before t f) e' in
        let here : value_of w (n.variables + 1) ≡ t =
        ap (λ x. value_of x (n.variables + 1)) (e ∙ append_assoc before (t ∷ more_all (with_place n) ps) rest)
        ∙ at_end before (more_all (with_place n) ps ++ rest) t n.variables f.len in
        let own : is_true (value_of w) (place_lit n) ≡ t = literal_truth (value_of w) true (n.variables + 1) ∙ here in
        record {
          lit = own;
          clauses = all_entries_true-append (value_of w) (clauses_of_all (with_place n) ps)
              (definition j (place_lit n) (lits_of (with_place n) ps))
              ∙ and_from _ _ g.clauses
              (definition_truth entries (value_of w) j (place_lit n) (lits_of (with_place n) ps)
              ∙ same_or _ _ (own ∙ sym (joins j (with_place n) ps w g)));
        }

    good_all : (n : Numbers) (ps : Trees) (before rest w : List Bool) → Fits n before
        → w ≡ (before ++ more_all n ps) ++ rest → GoodAll n ps w
    good_all n none before rest w f e = record { all = refl; any = refl; clauses = refl }
    good_all n (part p ps) before rest w f e =
        let e2 : w ≡ ((before ++ more n p) ++ more_all (after n p) ps) ++ rest =
        e ∙ ap (λ x. x ++ rest) (sym (append_assoc before (more n p) (more_all (after n p) ps))) in
        let e1 : w ≡ (before ++ more n p) ++ (more_all (after n p) ps ++ rest) = e2
        ∙ append_assoc (before ++ more n p) (more_all (after n p) ps) rest in
        let g = good n p before (more_all (after n p) ps ++ rest) w f e1 in
        let gs = good_all (after n p) ps (before ++ more n p) rest w (fits_after n p before f) e2 in
        record {
          all = λ i. g.lit i && gs.all i;
          any = λ i. g.lit i || gs.any i;
          clauses = all_entries_true-append (value_of w) (clauses_of n p) (clauses_of_all (after n p) ps)
              ∙ and_from _ _ g.clauses gs.clauses;
        }

  formulas_good : (n : Numbers) (ps : Trees) (before rest w : List Bool) → Fits n before
      → w ≡ (before ++ more_all n ps) ++ rest → all_true v ps ≡ true
      → all_entries_true (value_of w) (formula_clauses n ps) ≡ true
  formulas_good n none before rest w f e h = refl
  formulas_good n (part p ps) before rest w f e h =
      let h' = and_parts (truth v p) (all_true v ps) h in
      let e2 : w ≡ ((before ++ more n p) ++ more_all (after n p) ps) ++ rest =
      e ∙ ap (λ x. x ++ rest) (sym (append_assoc before (more n p) (more_all (after n p) ps))) in
      let e1 : w ≡ (before ++ more n p) ++ (more_all (after n p) ps ++ rest) = e2
      ∙ append_assoc (before ++ more n p) (more_all (after n p) ps) rest in
      let g = good n p before (more_all (after n p) ps ++ rest) w f e1 in
      all_entries_true-append (value_of w) (clauses_of n p) (Clause (lit_of n p ∷ []) ∷ formula_clauses (after n p) ps)
      ∙ and_from _ _ g.clauses
      (and_from _ _ (or_nothing (value_of w) (is_true (value_of w) (lit_of n p)) ∙ g.lit ∙ h'.0)
      (formulas_good (after n p) ps (before ++ more n p) rest w (fits_after n p before f) e2 h'.1))

  fits_start : Fits start []
  fits_start = record { len = refl; atoms = λ rest a k h. cc h }

  pub satisfied_up : (ps : Trees) → all_true v ps ≡ true → ExtendsToModel v (atoms_of ps) (clause_form ps)
  satisfied_up ps h =
      let f = fits_after_all start ps [] fits_start in
      record {
        values = more_all start ps;
        extends = λ a k e. subst (λ w. value_of w k ≡ v a) (append-nil (more_all start ps)) (f.atoms [] a k e);
        model = (
          f.len,
          satisfies_of (value_of (more_all start ps)) (clause_form ps)
              (formulas_good start ps [] [] (more_all start ps) fits_start (sym (append-nil (more_all start ps))) h),
        );
      }

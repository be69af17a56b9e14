-- Where a formula with no existential under a universal is true, some values for its existentials witness it.
use Rattle.std.proofs.Common.{◌≡◌, ℕ, suc, ◌+◌, true, ◌&&◌, List, [], ◌∷◌, ◌++◌, length, replicate, refl, sym, ap, ◌∙◌}
use Rattle.std.proofs.Common.{subst, arith, ⊎_elim}
use Rattle.std.specs.Prelude.{slice_index, nat_lt}
use Rattle.std.proofs.lemmas.Bool.{lt-ltb, or_cases, or_left, or_right, and_parts, and_from, false≢true}
use Rattle.std.proofs.lemmas.List.{length-replicate, length-append, append_assoc, append-nil}
use Rattle.fol_sig.specs.Tables.{Reading}
use Rattle.fol_formula.specs.Syntax.{FormTree, FormTrees, top, bottom, rel, equal, negation, conjunction, disjunction}
use Rattle.fol_formula.specs.Syntax.{implication, equivalence, for_all, for_some, no_forms, form_then}
use Rattle.fol_formula.specs.Truth.{truth, all_true, any_true}
use Rattle.fol_formula.specs.NormalForms.{HasNoExistentialUnderUniversal, HaveNoExistentialUnderUniversal}
use Rattle.fol_formula.specs.Witnesses.{some_sorts, some_sorts_of, some_count, is_witnessed, are_witnessed}
use Rattle.fol_formula.specs.Witnesses.{one_is_witnessed, WitnessesExist}
use Rattle.fol_formula.proofs.Below.{any_below-one}
use Rattle.fol_formula.proofs.Witnessed.{without_existentials}

at_front : (front : List ℕ) (x : ℕ) (rest : List ℕ) → slice_index (front ++ (x ∷ rest)) (length front) ≡ x
at_front [] x rest = refl
at_front (y ∷ front) x rest = at_front front x rest

module _ (s : Reading) where
  record Found (p : FormTree) (env : List ℕ) : Type 0 where
    pub witnesses : List ℕ
    pub count : length witnesses ≡ some_count p
    pub hold : (front back : List ℕ) → is_witnessed s (front ++ (witnesses ++ back)) (length front) p env ≡ true

  record FoundAll (ps : FormTrees) (env : List ℕ) : Type 0 where
    pub witnesses : List ℕ
    pub count : length witnesses ≡ length (some_sorts_of ps)
    pub hold : (front back : List ℕ) → are_witnessed s (front ++ (witnesses ++ back)) (length front) ps env ≡ true

  record FoundOne (ps : FormTrees) (env : List ℕ) : Type 0 where
    pub witnesses : List ℕ
    pub count : length witnesses ≡ length (some_sorts_of ps)
    pub hold : (front back : List ℕ) → one_is_witnessed s (front ++ (witnesses ++ back)) (length front) ps env ≡ true

  -- the values of two parts beside one another
  sum : (a b x y : List ℕ) → length a ≡ length x → length b ≡ length y → length (a ++ b) ≡ length (x ++ y)
  sum a b x y e h = let l = length-append a b in let r = length-append x y in omega (arith, l, r, e, h)

  first_list : (front a b back : List ℕ) → front ++ (a ++ (b ++ back)) ≡ front ++ ((a ++ b) ++ back)
  first_list front a b back = ap (λ z. front ++ z) (sym (append_assoc a b back))

  second_list : (front a b back : List ℕ) → (front ++ a) ++ (b ++ back) ≡ front ++ ((a ++ b) ++ back)
  second_list front a b back = append_assoc front a (b ++ back) ∙ first_list front a b back

  second_place : (front a : List ℕ) (p : FormTree) → length a ≡ some_count p
      → length (front ++ a) ≡ length front + some_count p
  second_place front a p e = let l = length-append front a in omega (arith, l, e)

  first_holds : (p : FormTree) (env front a b back : List ℕ)
      → is_witnessed s (front ++ (a ++ (b ++ back))) (length front) p env ≡ true
      → is_witnessed s (front ++ ((a ++ b) ++ back)) (length front) p env ≡ true
  first_holds p env front a b back h =
      subst (λ ws. is_witnessed s ws (length front) p env ≡ true) (first_list front a b back) h

  plain : (p : FormTree) (env : List ℕ) → ((ws : List ℕ) (at : ℕ) → is_witnessed s ws at p env ≡ truth s p env)
      → truth s p env ≡ true → Found p env
  plain p env same e =
      record {
        witnesses = replicate (some_count p) 0;
        count = length-replicate (some_count p) 0;
        hold = λ front back. same _ _ ∙ e;
      }

  mutual
    found : (p : FormTree) (env : List ℕ) → HasNoExistentialUnderUniversal p → truth s p env ≡ true → Found p env
    found top env h e = plain top env (λ ws at. refl) e
    found bottom env h e = plain bottom env (λ ws at. refl) e
    found (rel r args) env h e = plain (rel r args) env (λ ws at. refl) e
    found (equal a b) env h e = plain (equal a b) env (λ ws at. refl) e
    found (negation p) env h e = plain (negation p) env (λ ws at. refl) e
    found (conjunction ps) env h e = let r = found_all ps env h e in
        record { witnesses = r.witnesses; count = r.count; hold = r.hold }
    found (disjunction ps) env h e = let r = found_one ps env h e in
        record { witnesses = r.witnesses; count = r.count; hold = r.hold }
    found (implication p q) env h e = plain (implication p q) env (λ ws at. refl) e
    found (equivalence p q) env h e = plain (equivalence p q) env (λ ws at. refl) e
    found (for_all k p) env h e =
        plain (for_all k p) env (λ ws at. (without_existentials (for_all k p) h).witnessed s ws at env) e
    found (for_some k p) env h e =
        let w = any_below-one (s.size k) (λ x. truth s p (x ∷ env)) e in
        let x = w.0 in
        let r = found p (x ∷ env) h w.2 in
        record {
          witnesses = x ∷ r.witnesses;
          count = ap suc r.count;
          hold = λ front back.
              let here = at_front front x (r.witnesses ++ back) in
              let place : length (front ++ (x ∷ [])) ≡ suc (length front) =
              length-append front (x ∷ []) ∙ omega arith in
              let rest = subst (λ at. is_witnessed s (front ++ (x ∷ (r.witnesses ++ back))) at p (x ∷ env) ≡ true) place
              (subst (λ ws. is_witnessed s ws (length (front ++ (x ∷ []))) p (x ∷ env) ≡ true)
              (append_assoc front (x ∷ []) (r.witnesses ++ back)) (r.hold (front ++ (x ∷ [])) back)) in
              subst (λ y.
              (nat_lt y (s.size k) && is_witnessed s (front ++ (x ∷ (r.witnesses ++ back))) (suc (length front)) p
              (y ∷ env)) ≡ true) (sym here)
              (and_from (nat_lt x (s.size k))
              (is_witnessed s (front ++ (x ∷ (r.witnesses ++ back))) (suc (length front)) p (x ∷ env))
              (lt-ltb x (s.size k) w.1) rest);
        }

    found_all : (ps : FormTrees) (env : List ℕ) → HaveNoExistentialUnderUniversal ps → all_true s ps env ≡ true
        → FoundAll ps env
    found_all no_forms env h e = record { witnesses = []; count = refl; hold = λ front back. refl }
    found_all (form_then p ps) env h e =
        let t = and_parts (truth s p env) (all_true s ps env) e in
        let a = found p env h.0 t.0 in
        let b = found_all ps env h.1 t.1 in
        record {
          witnesses = a.witnesses ++ b.witnesses;
          count = sum a.witnesses b.witnesses (some_sorts p) (some_sorts_of ps) a.count b.count;
          hold = λ front back.
              and_from _ _ (first_holds p env front a.witnesses b.witnesses back (a.hold front (b.witnesses ++ back)))
              (subst (λ at. are_witnessed s (front ++ ((a.witnesses ++ b.witnesses) ++ back)) at ps env ≡ true)
              (second_place front a.witnesses p a.count)
              (subst (λ ws. are_witnessed s ws (length (front ++ a.witnesses)) ps env ≡ true)
              (second_list front a.witnesses b.witnesses back) (b.hold (front ++ a.witnesses) back)));
        }

    found_one : (ps : FormTrees) (env : List ℕ) → HaveNoExistentialUnderUniversal ps → any_true s ps env ≡ true
        → FoundOne ps env
    found_one no_forms env h e = absurd (false≢true e)
    found_one (form_then p ps) env h e =
        ⊎_elim
        (λ t.
        let a = found p env h.0 t in
        let zeros = replicate (length (some_sorts_of ps)) 0 in
        record {
          witnesses = a.witnesses ++ zeros;
          count = sum a.witnesses zeros (some_sorts p) (some_sorts_of ps) a.count
              (length-replicate (length (some_sorts_of ps)) 0);
          hold = λ front back. or_left _ _
              (first_holds p env front a.witnesses zeros back (a.hold front (zeros ++ back)));
        })
        (λ t.
        let b = found_one ps env h.1 t in
        let zeros = replicate (some_count p) 0 in
        record {
          witnesses = zeros ++ b.witnesses;
          count = sum zeros b.witnesses (some_sorts p) (some_sorts_of ps) (length-replicate (some_count p) 0) b.count;
          hold = λ front back.
              or_right _ _
              (subst (λ at. one_is_witnessed s (front ++ ((zeros ++ b.witnesses) ++ back)) at ps env ≡ true)
              (second_place front zeros p (length-replicate (some_count p) 0))
              (subst (λ ws. one_is_witnessed s ws (length (front ++ zeros)) ps env ≡ true)
              (second_list front zeros b.witnesses back) (b.hold (front ++ zeros) back)));
        })
        (or_cases (truth s p env) (any_true s ps env) e)

pub witnesses_exist : WitnessesExist
witnesses_exist s p env h e =
    let r = found s p env h e in
    (r.witnesses, r.count, subst (λ ws. is_witnessed s ws 0 p env ≡ true) (append-nil r.witnesses) (r.hold [] []))

-- What is set on literals, and on literals under names.
use Rattle.std.proofs.Common.{◌≡◌, ℕ, zero, suc, ◌+◌, ◌*◌, ◌<◌, ◌≤◌, ◌⊎◌, ◌||◌, eqb, Bool, true, false, List, []}
use Rattle.std.proofs.Common.{◌∷◌, length, map, refl, arith, ap, sym, subst, if◌then◌else◌, ◌∙◌, inl, inr, Option, Some}
use Rattle.std.proofs.Common.{None}
use Rattle.std.proofs.lemmas.Grind.{common_steps}
use Rattle.std.proofs.lemmas.Bool.{eqb-true}
use Rattle.cnf_base.specs.declared.cnf.Entry.{Entry}
use Rattle.cnf_base.specs.declared.cnf.Entry.TheVariants.{Clause, True}
use Rattle.cnf_base.specs.Literals.{opposite, member, IsLiteral, AreLiterals}
use Rattle.lrat_log.specs.Held.{Held}
use Rattle.lrat_log.specs.Accepted.{also, all_false}
use Rattle.lrat_log.specs.Learnt.{IsFalse, IsUnit, IsConsistent, IsQuiet, IsPropagationConsistent, IsNew, StandsInHint}
use Rattle.lrat_log.specs.Learnt.{IsChain, IsResolvent}
use Rattle.renumbering.specs.Named.{named, named_entry}
use Rattle.cnf_base.specs.Rising.{AreRising}
use Rattle.renumbering.proofs.Naming.{map_member, member_map, literal_in, opposite_literal, named_opposite, named_once}
use Rattle.renumbering.proofs.Naming.{named_eqb, named_member}

abbrev pub named_option : List ℕ → Option Entry → Option Entry
named_option names None = None
named_option names (Some e) = Some (named_entry names e)

-- what is held under names, over literals of the names
pub record IsHeldAs (names : List ℕ) (dense held : Held) : Type 0 where
  pub same : (id : ℕ) → held id ≡ named_option names (dense id)
  pub over : (id : ℕ) (c : List ℕ) → dense id ≡ Some (Clause c) → AreLiterals (length names) c

held_clause : (names : List ℕ) (dense held : Held) (id : ℕ) (c : List ℕ) → IsHeldAs names dense held
    → dense id ≡ Some (Clause c) → held id ≡ Some (Clause (map (named names) c))
held_clause names dense held id c h e = h.same id ∙ ap (named_option names) e

-- a held clause has a dense one
dense_clause : (names : List ℕ) (dense held : Held) (id : ℕ) (d : List ℕ) → IsHeldAs names dense held
    → held id ≡ Some (Clause d)
    → (c : List ℕ) × (dense id ≡ Some (Clause c)) × (map (named names) c ≡ d)
dense_clause names dense held id d h e = at (dense id) refl (sym (h.same id) ∙ e)
  where
    at : (o : Option Entry) → dense id ≡ o → named_option names o ≡ Some (Clause d) → (c : List ℕ)
        × (dense id ≡ Some (Clause c)) × (map (named names) c ≡ d)
    at None q k = absurd (cc)
    at (Some True) q k = absurd (cc)
    at (Some (Clause c)) q k = (c, q, cc)

-- the same is set on the literals of the names
abbrev pub AreSetAs : List ℕ → (ℕ → Bool) → (ℕ → Bool) → Type 0
AreSetAs names dense set = (l : ℕ) → IsLiteral (length names) l → set (named names l) ≡ dense l

module _ (most : ℕ) (names : List ℕ) (rising : AreRising most 0 names) where
  pub set_opposite : (dense set : ℕ → Bool) (l : ℕ) → AreSetAs names dense set → IsLiteral (length names) l
      → set (opposite (named names l)) ≡ dense (opposite l)
  set_opposite dense set l a h = ap set (sym (named_opposite names l))
      ∙ a (opposite l) (opposite_literal (length names) l h)

  named_false : (dense set : ℕ → Bool) (c : List ℕ) → AreSetAs names dense set → AreLiterals (length names) c
      → IsFalse dense c → IsFalse set (map (named names) c)
  named_false dense set c a o f x m =
      let y = member_map (named names) c x m in
      ap (λ (z : ℕ). set (opposite z)) (sym y.2) ∙ set_opposite dense set y.0 a (literal_in (length names) c y.0 o y.1)
      ∙ f y.0 y.1

  false_back : (dense set : ℕ → Bool) (c : List ℕ) → AreSetAs names dense set → AreLiterals (length names) c
      → IsFalse set (map (named names) c) → IsFalse dense c
  false_back dense set c a o f y m =
      sym (set_opposite dense set y a (literal_in (length names) c y o m))
      ∙ f (named names y) (map_member (named names) c y m)

  named_unit : (dense set : ℕ → Bool) (c : List ℕ) (l : ℕ) → AreSetAs names dense set → AreLiterals (length names) c
      → IsUnit dense c l → IsUnit set (map (named names) c) (named names l)
  named_unit dense set c l a o u = record {
    stands = map_member (named names) c l u.stands;
    not_true = a l (literal_in (length names) c l o u.stands) ∙ u.not_true;
    not_false = set_opposite dense set l a (literal_in (length names) c l o u.stands) ∙ u.not_false;
    others_false = λ x m. (let y = member_map (named names) c x m in at x y.0 y.1 y.2 (u.others_false y.0 y.1));
  }
    where
      at : (x y : ℕ) → member y c ≡ true → named names y ≡ x → (y ≡ l) ⊎ (dense (opposite y) ≡ true)
          → (x ≡ named names l) ⊎ (set (opposite x) ≡ true)
      at x y m e (inl q) = inl (sym e ∙ ap (named names) q)
      at x y m e (inr q) = inr (ap (λ (z : ℕ). set (opposite z)) (sym e)
          ∙ set_opposite dense set y a (literal_in (length names) c y o m) ∙ q)

  unit_back : (dense set : ℕ → Bool) (c : List ℕ) (k : ℕ) → AreSetAs names dense set → AreLiterals (length names) c
      → IsUnit set (map (named names) c) k → (l : ℕ) × IsUnit dense c l
  unit_back dense set c k a o u = at (member_map (named names) c k u.stands)
    where
      at : (l : ℕ) × (member l c ≡ true) × (named names l ≡ k) → (l : ℕ) × IsUnit dense c l
      at w = (
        w.0,
        record {
          stands = w.1;
          not_true = sym (a w.0 i) ∙ ap set w.2 ∙ u.not_true;
          not_false = sym (set_opposite dense set w.0 a i) ∙ ap (λ (z : ℕ). set (opposite z)) w.2 ∙ u.not_false;
          others_false = λ y m. other y m (u.others_false (named names y) (map_member (named names) c y m));
        },
      )
        where
          i : IsLiteral (length names) w.0
          i = literal_in (length names) c w.0 o w.1

          other : (y : ℕ) → member y c ≡ true → (named names y ≡ k) ⊎ (set (opposite (named names y)) ≡ true)
              → (y ≡ w.0) ⊎ (dense (opposite y) ≡ true)
          other y m (inl q) = inl (named_once most names rising y w.0 (literal_in (length names) c y o m) i (q
              ∙ sym w.2))
          other y m (inr q) = inr (sym (set_opposite dense set y a (literal_in (length names) c y o m)) ∙ q)

  pub also_named : (dense set : ℕ → Bool) (l : ℕ) → AreSetAs names dense set → IsLiteral (length names) l
      → AreSetAs names (also dense l) (also set (named names l))
  also_named dense set l a h x k = ap (λ (b : Bool). b || set (named names x)) (named_eqb most names rising x l k h)
      ∙ ap (λ (b : Bool). eqb x l || b) (a x k)

  pub false_named : (c : List ℕ) → AreLiterals (length names) c
      → AreSetAs names (all_false c) (all_false (map (named names) c))
  false_named c o l h =
      ap (λ (x : ℕ). member x (map (named names) c)) (sym (named_opposite names l))
      ∙ named_member most names rising c (opposite l) o (opposite_literal (length names) l h)

  module _ (dense held : Held) (alike : IsHeldAs names dense held) where
    named_stands : (hints : List ℕ) (l : ℕ) → StandsInHint dense hints l → StandsInHint held hints (named names l)
    named_stands hints l s = (
      s.0,
      map (named names) s.1,
      s.2,
      held_clause names dense held s.0 s.1 alike s.3,
      map_member (named names) s.1 l s.4,
    )

    named_chain : (hints : List ℕ) (s t : ℕ → Bool) → AreSetAs names s t → IsChain dense hints s → IsChain held hints t
    named_chain [] s t a k = k
    named_chain (h ∷ []) s t a k = (
      map (named names) k.0,
      held_clause names dense held h k.0 alike k.1,
      named_false s t k.0 a (alike.over h k.0 k.1) k.2,
    )
    named_chain (h ∷ (g ∷ gs)) s t a k = (
      map (named names) k.0,
      named names k.1,
      held_clause names dense held h k.0 alike k.2,
      named_unit s t k.0 k.1 a (alike.over h k.0 k.2) k.3,
      subst (StandsInHint held (g ∷ gs)) (named_opposite names k.1) (named_stands (g ∷ gs) (opposite k.1) k.4),
      named_chain (g ∷ gs) (also s k.1) (also t (named names k.1))
          (also_named s t k.1 a (literal_in (length names) k.0 k.1 (alike.over h k.0 k.2) k.3.stands)) k.5,
    )

    pub named_resolvent : (ls hints : List ℕ) → AreLiterals (length names) ls → IsResolvent dense ls hints
        → IsResolvent held (map (named names) ls) hints
    named_resolvent ls hints o r = record {
      drawn = λ x m. (let y = member_map (named names) ls x m in subst (StandsInHint held hints) y.2
          (named_stands hints y.0 (r.drawn y.0 y.1)));
      chain = named_chain hints (all_false ls) (all_false (map (named names) ls)) (false_named ls o) r.chain;
    }

-- the literals of the first variables that are set, where n is twice their number
set_of_first : (ℕ → Bool) → ℕ → List ℕ
set_of_first s zero = []
set_of_first s (suc n) = if s (n + 2) then (n + 2) ∷ set_of_first s n else set_of_first s n

first_member : (s : ℕ → Bool) (n x : ℕ) → member x (set_of_first s n) ≡ true → (2 ≤ x) × (x < n + 2) × (s x ≡ true)
unfolding set_of_first
first_member s zero x h = absurd (cc)
first_member s (suc n) x h = at (s (n + 2)) refl h (λ k. less (first_member s n x k))
  where
    less : (2 ≤ x) × (x < n + 2) × (s x ≡ true) → (2 ≤ x) × (x < suc n + 2) × (s x ≡ true)
    less r = let a = r.1 in (r.0, omega arith, r.2)

    two : s (n + 2) ≡ true → (b : Bool) → eqb x (n + 2) ≡ b → (b || member x (set_of_first s n)) ≡ true
        → (member x (set_of_first s n) ≡ true → (2 ≤ x) × (x < suc n + 2) × (s x ≡ true)) → (2 ≤ x) × (x < suc n + 2)
        × (s x ≡ true)
    two e true q k r = let z : x ≡ n + 2 = eqb-true x (n + 2) q in (omega arith, omega arith, ap s z ∙ e)
    two e false q k r = r k

    at : (b : Bool) → s (n + 2) ≡ b → member x (if b then (n + 2) ∷ set_of_first s n else set_of_first s n) ≡ true
        → (member x (set_of_first s n) ≡ true → (2 ≤ x) × (x < suc n + 2) × (s x ≡ true)) → (2 ≤ x) × (x < suc n + 2)
        × (s x ≡ true)
    at false e k r = r k
    at true e k r = two e (eqb x (n + 2)) refl k r

member_first : (s : ℕ → Bool) (n x : ℕ) → 2 ≤ x → x < n + 2 → s x ≡ true → member x (set_of_first s n) ≡ true
unfolding set_of_first
member_first s zero x a b h = absurd (omega arith)
member_first s (suc n) x a b h = at (eqb x (n + 2)) refl (s (n + 2)) refl (λ lt. member_first s n x a lt h)
  where
    less : eqb x (n + 2) ≡ false → x < n + 2
    less q = grind (arith, common_steps, q, b)

    rest : (d : Bool) → eqb x (n + 2) ≡ false → member x (set_of_first s n) ≡ true
        → member x (if d then (n + 2) ∷ set_of_first s n else set_of_first s n) ≡ true
    rest true q r = ap (λ (b : Bool). b || member x (set_of_first s n)) q ∙ r
    rest false q r = r

    at : (b : Bool) → eqb x (n + 2) ≡ b → (d : Bool) → s (n + 2) ≡ d → (x < n + 2 → member x (set_of_first s n) ≡ true)
        → member x (if d then (n + 2) ∷ set_of_first s n else set_of_first s n) ≡ true
    at true q true e r = ap (λ (b : Bool). b || member x (set_of_first s n)) q
    at true q false e r = let z : s x ≡ s (n + 2) = ap s (eqb-true x (n + 2) q) in absurd (cc)
    at false q d e r = rest d q (r (less q))

firsts : (s : ℕ → Bool) (m n : ℕ) → n ≤ 2 * m → AreLiterals m (set_of_first s n)
unfolding set_of_first
firsts s m zero h = tt
firsts s m (suc n) h = at (s (n + 2)) (firsts s m n (omega arith))
  where
    at : (b : Bool) → AreLiterals m (set_of_first s n)
        → AreLiterals m (if b then (n + 2) ∷ set_of_first s n else set_of_first s n)
    at true r = ((omega arith, omega arith), r)
    at false r = r

same_bool : (a b : Bool) → (a ≡ true → b ≡ true) → (b ≡ true → a ≡ true) → a ≡ b
same_bool true b f g = sym (f refl)
same_bool false true f g = g refl
same_bool false false f g = refl

-- what is set under names, and nothing else
carried : List ℕ → (ℕ → Bool) → ℕ → Bool
carried names s x = member x (map (named names) (set_of_first s (2 * length names)))

module _ (most : ℕ) (names : List ℕ) (rising : AreRising most 0 names) where
  carried_as : (s : ℕ → Bool) → AreSetAs names s (carried names s)
  unfolding carried
  carried_as s l h =
      named_member most names rising (set_of_first s (2 * length names)) l
      (firsts s (length names) (2 * length names) (omega arith)) h
      ∙ same_bool (member l (set_of_first s (2 * length names))) (s l)
      (λ m. (first_member s (2 * length names) l m).2)
      (λ t. (let a = h.0 in let b = h.1 in member_first s (2 * length names) l (omega arith) (omega arith) t))

  carried_consistent : (s : ℕ → Bool) → IsConsistent s → IsConsistent (carried names s)
  unfolding carried
  carried_consistent s k x h =
      let y = member_map (named names) (set_of_first s (2 * length names)) x h in
      let i = literal_in (length names) (set_of_first s (2 * length names)) y.0
      (firsts s (length names) (2 * length names) (omega arith)) y.1 in
      ap (λ (z : ℕ). carried names s (opposite z)) (sym y.2)
      ∙ set_opposite most names rising s (carried names s) y.0 (carried_as s) i
      ∙ k y.0 (first_member s (2 * length names) y.0 y.1).2

  module _ (dense held : Held) (alike : IsHeldAs names dense held) where
    carried_quiet : (s : ℕ → Bool) → IsQuiet dense s → IsQuiet held (carried names s)
    carried_quiet s q id d e = at (dense_clause names dense held id d alike e)
      where
        at : (c : List ℕ) × (dense id ≡ Some (Clause c)) × (map (named names) c ≡ d) → (IsFalse (carried names s) d → ⊥)
            × ((l : ℕ) → IsUnit (carried names s) d l → ⊥)
        at w = (
          (λ f. (q id w.0 w.1).0 (false_back most names rising s (carried names s) w.0 (carried_as s)
              (alike.over id w.0 w.1) (subst (IsFalse (carried names s)) (sym w.2) f))),
          (λ l u. (let b = unit_back most names rising s (carried names s) w.0 l (carried_as s) (alike.over id w.0 w.1)
              (subst (λ (c : List ℕ). IsUnit (carried names s) c l) (sym w.2) u) in (q id w.0 w.1).1 b.0 b.1)),
        )

    pub named_propagation : IsPropagationConsistent dense → IsPropagationConsistent held
    named_propagation p = (carried names p.0, carried_consistent p.0 p.1, carried_quiet p.0 p.2)

    pub named_new : (ls : List ℕ) → AreLiterals (length names) ls → IsNew dense ls → IsNew held (map (named names) ls)
    named_new ls o n = (
      carried names n.0,
      carried_consistent n.0 n.1,
      (named names n.2.0, named_unit most names rising n.0 (carried names n.0) ls n.2.0 (carried_as n.0) o n.2.1),
      carried_quiet n.0 n.3,
    )

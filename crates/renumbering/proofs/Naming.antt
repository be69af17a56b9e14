-- Literals and clauses under names.
use Rattle.std.proofs.Common.{◌≡◌, ℕ, ◌-◌, ◌||◌, eqb, Bool, true, false, not, List, [], ◌∷◌, length}
use Rattle.std.proofs.Common.{get_or, map, refl, arith, ap, sym, ◌∙◌}
use Rattle.std.proofs.lemmas.Grind.{common_steps}
use Rattle.std.proofs.lemmas.Bool.{eqb-true, eq-eqb, ne_eqb}
use Rattle.cnf_base.specs.Literals.{opposite, variable_of, is_positive, literal_of, member, IsLiteral, AreLiterals}
use Rattle.cnf_base.specs.Clauses.{IsClause, has_opposites}
use Rattle.renumbering.specs.Named.{named}
use Rattle.cnf_base.specs.Rising.{AreRising}
use Rattle.renumbering.proofs.Numbers.{variable_of-literal_of, is_positive-literal_of, literal_of-variable_of}
use Rattle.renumbering.proofs.Numbers.{variable_of-opposite, is_positive-opposite, opposite-literal_of, rising_at}
use Rattle.renumbering.proofs.Numbers.{rising_once}

-- under any map
pub map_member : (f : ℕ → ℕ) (c : List ℕ) (y : ℕ) → member y c ≡ true → member (f y) (map f c) ≡ true
map_member f [] y h = absurd (cc)
map_member f (x ∷ c) y h = at (eqb y x) refl (λ k. map_member f c y k)
  where
    at : (b : Bool) → eqb y x ≡ b → (member y c ≡ true → member (f y) (map f c) ≡ true)
        → (eqb (f y) (f x) || member (f y) (map f c)) ≡ true
    at true e r = let q : eqb (f y) (f x) ≡ true = eq-eqb (f y) (f x) (ap f (eqb-true y x e)) in grind
        (arith, common_steps, q)
    at false e r = let q = r (grind (arith, common_steps, h, e)) in grind (arith, common_steps, q)

pub member_map : (f : ℕ → ℕ) (c : List ℕ) (z : ℕ) → member z (map f c) ≡ true → (y : ℕ) × (member y c ≡ true)
    × (f y ≡ z)
member_map f [] z h = absurd (cc)
member_map f (x ∷ c) z h = at (eqb z (f x)) refl (λ k. member_map f c z k)
  where
    at : (b : Bool) → eqb z (f x) ≡ b → (member z (map f c) ≡ true → (y : ℕ) × (member y c ≡ true) × (f y ≡ z))
        → (y : ℕ) × (member y (x ∷ c) ≡ true) × (f y ≡ z)
    at true e r = (
      x,
      (let q : eqb x x ≡ true = eq-eqb x x refl in grind (arith, common_steps, q)),
      sym
          (eqb-true z (f x) e),
    )
    at false e r = let t = r (grind (arith, common_steps, h, e)) in
        (t.0, (let q = t.1 in grind (arith, common_steps, q)), t.2)

pub literal_in : (m : ℕ) (c : List ℕ) (y : ℕ) → AreLiterals m c → member y c ≡ true → IsLiteral m y
literal_in m [] y a h = absurd (cc)
literal_in m (x ∷ c) y a h = at (eqb y x) refl (λ k. literal_in m c y a.1 k)
  where
    at : (b : Bool) → eqb y x ≡ b → (member y c ≡ true → IsLiteral m y) → IsLiteral m y
    at true e r = let q : y ≡ x = eqb-true y x e in rw q a.0
    at false e r = r (grind (arith, common_steps, h, e))

pub opposite_literal : (m l : ℕ) → IsLiteral m l → IsLiteral m (opposite l)
opposite_literal m l h = rw (variable_of-opposite l) h

pub named_opposite : (names : List ℕ) (l : ℕ) → named names (opposite l) ≡ opposite (named names l)
named_opposite names l =
    ap (λ (b : Bool). literal_of b (get_or names (variable_of (opposite l) - 1) 0)) (is_positive-opposite l)
    ∙ ap (λ (v : ℕ). literal_of (not (is_positive l)) (get_or names (v - 1) 0)) (variable_of-opposite l)
    ∙ sym (opposite-literal_of (is_positive l) (get_or names (variable_of l - 1) 0))

not_member : (b c : Bool) → (b ≡ true → c ≡ true) → c ≡ false → b ≡ false
not_member true c f e = sym (f refl) ∙ e
not_member false c f e = refl

-- a clause whose named literals are a clause
pub clause_back : (names c : List ℕ) → IsClause (map (named names) c) → IsClause c
clause_back names [] h = tt
clause_back names (x ∷ c) h = (
  not_member (member x c) (member (named names x) (map (named names) c)) (map_member (named names) c x) h.0,
  not_member (member (opposite x) c) (member (opposite (named names x)) (map (named names) c))
      (λ k. ap (λ (y : ℕ). member y (map (named names) c)) (sym (named_opposite names x))
      ∙ map_member (named names) c (opposite x) k) h.1,
  clause_back names c h.2,
)

module _ (most : ℕ) (names : List ℕ) (rising : AreRising most 0 names) where
  pub named_literal : (l : ℕ) → IsLiteral (length names) l → IsLiteral most (named names l)
  named_literal l h =
      let a = h.0 in
      let b = h.1 in
      let t = rising_at most 0 names (variable_of l - 1) rising (omega arith) in
      let v = variable_of-literal_of (is_positive l) (get_or names (variable_of l - 1) 0) in
      rw v t

  pub named_literals : (c : List ℕ) → AreLiterals (length names) c → AreLiterals most (map (named names) c)
  named_literals [] h = tt
  named_literals (l ∷ c) h = (named_literal l h.0, named_literals c h.1)

  pub named_once : (x y : ℕ) → IsLiteral (length names) x → IsLiteral (length names) y → named names x ≡ named names y
      → x ≡ y
  named_once x y h k e =
      let hx = h.0 in
      let hx2 = h.1 in
      let ky = k.0 in
      let ky2 = k.1 in
      let p : is_positive x ≡ is_positive y = sym
      (is_positive-literal_of (is_positive x) (get_or names (variable_of x - 1) 0)) ∙ ap is_positive e
      ∙ is_positive-literal_of (is_positive y) (get_or names (variable_of y - 1) 0) in
      let n : get_or names (variable_of x - 1) 0 ≡ get_or names (variable_of y - 1) 0 =
      sym (variable_of-literal_of (is_positive x) (get_or names (variable_of x - 1) 0)) ∙ ap variable_of e
      ∙ variable_of-literal_of (is_positive y) (get_or names (variable_of y - 1) 0) in
      let i : variable_of x - 1 ≡ variable_of y - 1 = rising_once most 0 names (variable_of x - 1)
      (variable_of y - 1) rising (omega arith) (omega arith) n in
      let v : variable_of x ≡ variable_of y = omega arith in
      sym (literal_of-variable_of x) ∙ ap (λ (b : Bool). literal_of b (variable_of x)) p
      ∙ ap (literal_of (is_positive y)) v ∙ literal_of-variable_of y

  pub named_eqb : (x y : ℕ) → IsLiteral (length names) x → IsLiteral (length names) y
      → eqb (named names x) (named names y) ≡ eqb x y
  named_eqb x y h k = at (eqb x y) refl
    where
      at : (b : Bool) → eqb x y ≡ b → eqb (named names x) (named names y) ≡ b
      at true e = eq-eqb (named names x) (named names y) (ap (named names) (eqb-true x y e))
      at false e = ne_eqb (named names x) (named names y)
          (λ q. (let s : eqb x y ≡ true = eq-eqb x y (named_once x y h k q) in absurd (cc)))

  pub named_member : (c : List ℕ) (x : ℕ) → AreLiterals (length names) c → IsLiteral (length names) x
      → member (named names x) (map (named names) c) ≡ member x c
  named_member [] x a h = refl
  named_member (y ∷ c) x a h = ap (λ (b : Bool). b || member (named names x) (map (named names) c))
      (named_eqb x y h a.0) ∙ ap (λ (b : Bool). eqb x y || b) (named_member c x a.1 h)

  pub named_has_opposites : (c : List ℕ) → AreLiterals (length names) c
      → has_opposites (map (named names) c) ≡ has_opposites c
  named_has_opposites [] a = refl
  named_has_opposites (x ∷ c) a =
      ap (λ (y : ℕ). member y (map (named names) c) || has_opposites (map (named names) c))
      (sym (named_opposite names x))
      ∙ ap (λ (b : Bool). b || has_opposites (map (named names) c))
      (named_member c (opposite x) a.1 (opposite_literal (length names) x a.0))
      ∙ ap (λ (b : Bool). member (opposite x) c || b) (named_has_opposites c a.1)

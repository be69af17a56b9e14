-- What is learnt is new, so over V variables fewer than 3 ^ V clauses are learnt: the code of a clause is a number
-- of V digits to the base three, and different clauses have different codes.
use Rattle.std.proofs.Common.{◌≡◌, ℕ, zero, suc, ◌+◌, ◌*◌, ◌<◌, ◌≤◌, ◌^◌, ◌⊎◌, ◌||◌, eqb, Bool, true, false, cond}
use Rattle.std.proofs.Common.{List, [], ◌∷◌, refl, sym, ◌∙◌, ap, subst, arith, inl, inr, Some, length, slice_get}
use Rattle.std.proofs.lemmas.Grind.{common_steps}
use Rattle.std.proofs.Math.Nat.{pow-suc}
use Rattle.std.proofs.lemmas.Map.Keys.{IsDistinct-cons}
use Rattle.std.proofs.lemmas.Map.Steps.{length-le_from_distinct_below}
use Rattle.std.specs.List.{AllByRecursion, IsDistinct, list_any}
use Rattle.cnf_base.specs.declared.cnf.Entry.{Entry}
use Rattle.cnf_base.specs.declared.cnf.Entry.TheVariants.{Clause}
use Rattle.cnf_base.specs.Literals.{opposite, member, variable_of, IsLiteral, AreLiterals}
use Rattle.cnf_base.specs.Clauses.{has_opposites}
use Rattle.cnf_base.specs.Formulas.{Formula}
use Rattle.lrat_log.specs.declared.line.Line.{Line}
use Rattle.lrat_log.specs.declared.line.Line.TheVariants.{Add, Delete}
use Rattle.lrat_log.specs.Held.{Held, held_of, added_entry, with_entry, after_line}
use Rattle.lrat_log.specs.Learnt.{IsFalse, IsUnit, IsLearnt, AreLearntFrom, AreLearnt, IsWithin}
use Rattle.lrat_log.specs.Refutations.{IsSpent}

-- A clause within one that truth values make unit is unit or false under them.
within_unit : (set : ℕ → Bool) (c d : List ℕ) (l : ℕ) → IsUnit set d l → IsWithin c d
    → IsFalse set c ⊎ IsUnit set c l
within_unit set c d l u w = at (member l c) refl
  where
    at : (b : Bool) → member l c ≡ b → IsFalse set c ⊎ IsUnit set c l
    at true e = inr
        (record {
          stands = e;
          not_true = u.not_true;
          not_false = u.not_false;
          others_false = λ x m. u.others_false x (w x m);
        })
    at false e = inl (λ x m. other x m (u.others_false x (w x m)))
      where
        other : (x : ℕ) → member x c ≡ true → (x ≡ l) ⊎ (set (opposite x) ≡ true) → set (opposite x) ≡ true
        other x m (inl q) = let f : member x c ≡ false = rw q e in absurd (cc)
        other x m (inr t) = t

-- a learnt clause contains no held one
pub learnt_is_new : (held : Held) (ls hints : List ℕ) (id : ℕ) (c : List ℕ) → IsLearnt held ls hints
    → held id ≡ Some (Clause c) → IsWithin c ls → ⊥
learnt_is_new held ls hints id c learnt h w =
    let new = learnt.new in
    let quiet = new.3 id c h in
    elim (within_unit new.0 c ls new.2.0 new.2.1 w) [ inl f ↦ quiet.0 f | inr u ↦ quiet.1 new.2.0 u ]

-- what an addition leaves under another id, and what it puts under its own
other_entry : (held : Held) (id : ℕ) (e : Entry) (h : ℕ) → h < id → with_entry held id e h ≡ held h
other_entry held id e h lt = grind (arith, common_steps, lt)

own_entry : (held : Held) (id : ℕ) (ls : List ℕ) → has_opposites ls ≡ false
    → with_entry held id (added_entry ls) id ≡ Some (Clause ls)
own_entry held id ls n = grind (arith, common_steps, n)

-- a clause that is held before learnt additions lies within none of them
kept_apart : (n : ℕ) (held : Held) (last : ℕ) (lines : List Line) → AreLearntFrom n held last lines
    → (h : ℕ) (c : List ℕ) → h ≤ last → held h ≡ Some (Clause c)
    → (k m : ℕ) (d hs : List ℕ) → slice_get lines k ≡ Some (Add m d hs) → IsWithin c d → ⊥
kept_apart n held last [] a h c le e k m d hs at w = absurd (cc at)
kept_apart n held last (Add id ls hints ∷ lines) a h c le e zero m d hs at w =
    let same : d ≡ ls = cc at in
    learnt_is_new held ls hints h c a.1 e (subst (IsWithin c) same w)
kept_apart n held last (Add id ls hints ∷ lines) a h c le e (suc k) m d hs at w =
    let first = a.0.0 in
    let below : h < id = omega arith in
    let kept = other_entry held id (added_entry ls) h below ∙ e in
    kept_apart n (after_line held (Add id ls hints)) id lines a.2 h c (omega arith) kept k m d hs at w
kept_apart n held last (Delete id ids ∷ lines) a h c le e k m d hs at w = absurd a

-- no learnt clause lies within a later one
pub learnt_differ : (n : ℕ) (held : Held) (last : ℕ) (lines : List Line) → AreLearntFrom n held last lines
    → (j k m i : ℕ) (c d gs hs : List ℕ) → j < k
    → slice_get lines j ≡ Some (Add m c gs) → slice_get lines k ≡ Some (Add i d hs) → IsWithin c d → ⊥
learnt_differ n held last [] a j k m i c d gs hs lt p q w = absurd (cc p)
learnt_differ n held last (Add id ls hints ∷ lines) a j zero m i c d gs hs lt p q w = omega arith
learnt_differ n held last (Add id ls hints ∷ lines) a zero (suc k) m i c d gs hs lt p q w =
    let same : c ≡ ls = cc p in
    kept_apart n (after_line held (Add id ls hints)) id lines a.2 id ls (omega arith)
    (own_entry held id ls a.1.no_opposites) k i d hs q (subst (λ x. IsWithin x d) same w)
learnt_differ n held last (Add id ls hints ∷ lines) a (suc j) (suc k) m i c d gs hs lt p q w =
    learnt_differ n (after_line held (Add id ls hints)) id lines a.2 j k m i c d gs hs (omega arith) p q w
learnt_differ n held last (Delete id ids ∷ lines) a j k m i c d gs hs lt p q w = absurd a

-- A clause's digit at a variable: it is absent, positive or negative.
abbrev choice : Bool → Bool → ℕ
choice positive negative = cond positive 1 (cond negative 2 0)

abbrev digit : ℕ → List ℕ → ℕ
digit v ls = choice (member (2 * v) ls) (member (2 * v + 1) ls)

digit-small : (v : ℕ) (ls : List ℕ) → digit v ls < 3
digit-small v ls = at (member (2 * v) ls) (member (2 * v + 1) ls)
  where
    at : (b e : Bool) → choice b e < 3
    at true e = omega arith
    at false true = omega arith
    at false false = omega arith

digit_one : (v : ℕ) (ls : List ℕ) → digit v ls ≡ 1 → member (2 * v) ls ≡ true
digit_one v ls h = at (member (2 * v) ls) (member (2 * v + 1) ls) h
  where
    at : (b e : Bool) → choice b e ≡ 1 → b ≡ true
    at true e h = refl
    at false true h = absurd (cc h)
    at false false h = absurd (cc h)

digit_two : (v : ℕ) (ls : List ℕ) → digit v ls ≡ 2 → member (2 * v + 1) ls ≡ true
digit_two v ls h = at (member (2 * v) ls) (member (2 * v + 1) ls) h
  where
    at : (b e : Bool) → choice b e ≡ 2 → e ≡ true
    at true e h = absurd (cc h)
    at false true h = refl
    at false false h = absurd (cc h)

-- the digits of a clause at the variables 1 to n, as one number
abbrev code : ℕ → List ℕ → ℕ
code zero ls = 0
code (suc n) ls = code n ls * 3 + digit (suc n) ls

code-small : (n : ℕ) (ls : List ℕ) → code n ls < 3 ^ n
code-small zero ls = omega arith
code-small (suc n) ls =
    let r = code-small n ls in
    let d = digit-small (suc n) ls in
    let p : 3 ^ suc n ≡ 3 ^ n * 3 = pow-suc 3 n in
    subst (λ x. code (suc n) ls < x) (sym p) (omega arith)

-- a number says its digits
same_digits : (n : ℕ) (c d : List ℕ) → code n c ≡ code n d → (v : ℕ) → 0 < v → v ≤ n → digit v c ≡ digit v d
same_digits zero c d e v above most = omega arith
same_digits (suc n) c d e v above most =
    let x = digit-small (suc n) c in
    let y = digit-small (suc n) d in
    let front : code n c ≡ code n d = omega arith in
    let last : digit (suc n) c ≡ digit (suc n) d = omega arith in
    at (eqb v (suc n)) refl last (same_digits n c d front v above)
  where
    at : (b : Bool) → eqb v (suc n) ≡ b → digit (suc n) c ≡ digit (suc n) d
        → (v ≤ n → digit v c ≡ digit v d) → digit v c ≡ digit v d
    at true q last r =
        let s : v ≡ suc n = grind (arith, common_steps, q) in
        subst (λ x. digit x c ≡ digit x d) (sym s) last
    at false q last r = r (grind (arith, common_steps, q, most))

member_literal : (n : ℕ) (ls : List ℕ) → AreLiterals n ls → (l : ℕ) → member l ls ≡ true → IsLiteral n l
member_literal n [] a l m = absurd (cc m)
member_literal n (x ∷ ls) a l m = at (eqb l x) refl m (member_literal n ls a.1 l)
  where
    at : (b : Bool) → eqb l x ≡ b → (b || member l ls) ≡ true → (member l ls ≡ true → IsLiteral n l) → IsLiteral n l
    at true q m r = let s : l ≡ x = grind (arith, common_steps, q) in subst (IsLiteral n) (sym s) a.0
    at false q m r = r m

-- what is known of opposites
pub record AreOpposites : Type 0 where
  pub twice : (l : ℕ) → opposite (opposite l) ≡ l
  pub differs : (l : ℕ) → opposite l ≡ l → ⊥

module _ (laws : AreOpposites) where
  alone : (ls : List ℕ) → has_opposites ls ≡ false → (l : ℕ) → member l ls ≡ true → member (opposite l) ls ≡ false
  alone [] n l m = absurd (cc m)
  alone (x ∷ ls) n l m =
      let none : member (opposite x) ls ≡ false = grind (arith, common_steps, n) in
      let rest : has_opposites ls ≡ false = grind (arith, common_steps, n) in
      at (eqb l x) refl (eqb (opposite l) x) refl none (alone ls rest l)
    where
      at : (b : Bool) → eqb l x ≡ b → (e : Bool) → eqb (opposite l) x ≡ e → member (opposite x) ls ≡ false
          → (member l ls ≡ true → member (opposite l) ls ≡ false) → (e || member (opposite l) ls) ≡ false
      at true q true s none r =
          let t : l ≡ x = grind (arith, common_steps, q) in
          let u : opposite l ≡ x = grind (arith, common_steps, s) in
          absurd (laws.differs l (u ∙ sym t))
      at true q false s none r =
          let t : l ≡ x = grind (arith, common_steps, q) in
          subst (λ y. member (opposite y) ls ≡ false) (sym t) none
      at false q true s none r =
          let u : opposite l ≡ x = grind (arith, common_steps, s) in
          let t : opposite x ≡ l = ap opposite (sym u) ∙ laws.twice l in
          let inside : member l ls ≡ true = grind (arith, common_steps, q, m) in
          let outside : member l ls ≡ false = subst (λ y. member y ls ≡ false) t none in
          absurd (cc)
      at false q false s none r = r (grind (arith, common_steps, q, m))

  positive_opposite : (v : ℕ) → opposite (2 * v + 1) ≡ 2 * v
  unfolding opposite
  positive_opposite v = grind (arith, common_steps)

  -- clauses of one code have the same literals
  same_code : (n : ℕ) (c d : List ℕ) → AreLiterals n c → has_opposites c ≡ false → code n c ≡ code n d → IsWithin c d
  same_code n c d a none e l m =
      let is = member_literal n c a l m in
      let above : 0 < variable_of l = is.0 in
      let most : variable_of l ≤ n = is.1 in
      let same = same_digits n c d e (variable_of l) above most in
      at (parity l) same
    where
      parity : (l : ℕ) → (l ≡ 2 * variable_of l) ⊎ (l ≡ 2 * variable_of l + 1)
      parity l = by_test (eqb l (2 * variable_of l)) refl
        where
          by_test : (b : Bool) → eqb l (2 * variable_of l) ≡ b
              → (l ≡ 2 * variable_of l) ⊎ (l ≡ 2 * variable_of l + 1)
          by_test true q = inl (grind (arith, common_steps, q))
          by_test false q = inr (grind (arith, common_steps, q))

      at : (l ≡ 2 * variable_of l) ⊎ (l ≡ 2 * variable_of l + 1)
          → digit (variable_of l) c ≡ digit (variable_of l) d → member l d ≡ true
      at (inl q) same =
          let p : member (2 * variable_of l) c ≡ true = subst (λ x. member x c ≡ true) q m in
          let one : digit (variable_of l) c ≡ 1 = rw p refl in
          subst (λ x. member x d ≡ true) (sym q) (digit_one (variable_of l) d (sym same ∙ one))
      at (inr q) same =
          let p : member (2 * variable_of l + 1) c ≡ true = subst (λ x. member x c ≡ true) q m in
          let z : member (2 * variable_of l) c ≡ false =
          subst (λ x. member x c ≡ false) (positive_opposite (variable_of l))
          (alone c none (2 * variable_of l + 1) p) in
          let two : digit (variable_of l) c ≡ 2 = rw (z, p) refl in
          subst (λ x. member x d ≡ true) (sym q) (digit_two (variable_of l) d (sym same ∙ two))

  unequal : (x y : ℕ) → (x ≡ y → ⊥) → eqb x y ≡ false
  unequal x y h = at (eqb x y) refl
    where
      at : (b : Bool) → eqb x y ≡ b → b ≡ false
      at true q = let s : x ≡ y = grind (arith, common_steps, q) in absurd (h s)
      at false q = refl

  -- the codes of the clauses that are added
  abbrev codes_of : ℕ → List Line → List ℕ
  codes_of n [] = []
  codes_of n (Add id ls hints ∷ lines) = code n ls ∷ codes_of n lines
  codes_of n (Delete id ids ∷ lines) = codes_of n lines

  apart : (n : ℕ) (held : Held) (last : ℕ) (lines : List Line) → AreLearntFrom n held last lines
      → (h : ℕ) (c : List ℕ) → h ≤ last → held h ≡ Some (Clause c) → AreLiterals n c → has_opposites c ≡ false
      → AllByRecursion (λ y. eqb (code n c) y ≡ false) (codes_of n lines)
  apart n held last [] a h c le e over none = tt
  apart n held last (Add id ls hints ∷ lines) a h c le e over none =
      let first = a.0.0 in
      let below : h < id = omega arith in
      let kept = other_entry held id (added_entry ls) h below ∙ e in (
        unequal (code n c) (code n ls) (λ q. learnt_is_new held ls hints h c a.1 e (same_code n c ls over none q)),
        apart n (after_line held (Add id ls hints)) id lines a.2 h c (omega arith) kept over none,
      )
  apart n held last (Delete id ids ∷ lines) a h c le e over none = absurd a

  distinct : (n : ℕ) (held : Held) (last : ℕ) (lines : List Line) → AreLearntFrom n held last lines
      → IsDistinct eqb (codes_of n lines)
  unfolding IsDistinct
  distinct n held last [] a = tt
  distinct n held last (Add id ls hints ∷ lines) a = IsDistinct-cons eqb (code n ls) (codes_of n lines)
      (apart n (after_line held (Add id ls hints)) id lines a.2 id ls (omega arith)
      (own_entry held id ls a.1.no_opposites) a.0.1 a.1.no_opposites)
      (distinct n (after_line held (Add id ls hints)) id lines a.2)
  distinct n held last (Delete id ids ∷ lines) a = absurd a

  -- none is the code of the empty clause
  not_empty : (n : ℕ) (held : Held) (last : ℕ) (lines : List Line) → AreLearntFrom n held last lines
      → AllByRecursion (λ y. eqb (code n []) y ≡ false) (codes_of n lines)
  not_empty n held last [] a = tt
  not_empty n held last (Add id [] hints ∷ lines) a = absurd (a.1.not_empty refl)
  not_empty n held last (Add id (l ∷ ls) hints ∷ lines) a = (
    unequal (code n []) (code n (l ∷ ls)) (λ q. none (same_code n (l ∷ ls) [] a.0.1 a.1.no_opposites (sym q))),
    not_empty n (after_line held (Add id (l ∷ ls) hints)) id lines a.2,
  )
    where
      none : IsWithin (l ∷ ls) [] → ⊥
      none w = let f = w l (grind (arith, common_steps)) in absurd (cc f)
  not_empty n held last (Delete id ids ∷ lines) a = absurd a

  below_bound : (n : ℕ) (lines : List Line) (q : ℕ) → list_any (eqb q) (codes_of n lines) ≡ true → q < 3 ^ n
  below_bound n [] q h = absurd (cc h)
  below_bound n (Add id ls hints ∷ lines) q h = at (eqb q (code n ls)) refl h (below_bound n lines q)
    where
      at : (b : Bool) → eqb q (code n ls) ≡ b → (b || list_any (eqb q) (codes_of n lines)) ≡ true
          → (list_any (eqb q) (codes_of n lines) ≡ true → q < 3 ^ n) → q < 3 ^ n
      at true e g r =
          let s : q ≡ code n ls = grind (arith, common_steps, e) in
          subst (λ x. x < 3 ^ n) (sym s) (code-small n ls)
      at false e g r = r g
  below_bound n (Delete id ids ∷ lines) q h = below_bound n lines q h

  length-codes_of : (n : ℕ) (held : Held) (last : ℕ) (lines : List Line) → AreLearntFrom n held last lines
      → length (codes_of n lines) ≡ length lines
  length-codes_of n held last [] a = refl
  length-codes_of n held last (Add id ls hints ∷ lines) a =
      ap suc (length-codes_of n (after_line held (Add id ls hints)) id lines a.2)
  length-codes_of n held last (Delete id ids ∷ lines) a = absurd a

  pub fewer_are_learnt : (f : Formula) (lines : List Line) → AreLearnt f lines → length lines < 3 ^ f.variables
  fewer_are_learnt f lines a =
      let n = f.variables in
      let held = held_of f in
      let last = length f.clauses in
      let bound = length-le_from_distinct_below (code n [] ∷ codes_of n lines) (3 ^ n)
      (IsDistinct-cons eqb (code n []) (codes_of n lines) (not_empty n held last lines a)
      (distinct n held last lines a))
      (below_bound n (Add 0 [] [] ∷ lines)) in
      let same = length-codes_of n held last lines a in
      omega arith

  pub budget_is_below : (f : Formula) (budget : ℕ) (lines : List Line) → IsSpent f budget lines
      → budget < 3 ^ f.variables
  budget_is_below f budget lines s = let l = fewer_are_learnt f lines s.learnt in let e = s.exact in omega arith

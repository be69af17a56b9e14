-- Members of a clause, and the search for a literal to watch.
use Rattle.std.proofs.Common.{◌≡◌, ℕ, zero, suc, ◌+◌, ◌<◌, ◌⊎◌, ◌||◌, eqb, Bool, true, false, List, [], ◌∷◌, ◌++◌}
use Rattle.std.proofs.Common.{length, get_or, take, drop, refl, arith, ap, sym, inl, inr, ◌∙◌, Option, None, Some}
use Rattle.std.proofs.Common.{MatchOption}
use Rattle.std.proofs.lemmas.Grind.{common_steps}
use Rattle.std.specs.List.{All}
use Rattle.std.proofs.lemmas.List.{take_more}
use Rattle.cnf_base.specs.Literals.{opposite, member}
use Rattle.cdcl.proofs.Literals.{member-append}
use Rattle.cdcl.specs.declared.propagate.Open.{Open}
use Rattle.cdcl.specs.Visit.{AreFalseBut, IsOpen}

pub member-get_or : (xs : List ℕ) (i : ℕ) → i < length xs → member (get_or xs i 0) xs ≡ true
member-get_or [] i h = absurd (omega arith)
member-get_or (x ∷ xs) zero h = grind (arith, common_steps)
member-get_or (x ∷ xs) (suc i) h = let r = member-get_or xs i (omega arith) in grind (arith, common_steps, r)

pub member-take : (x : ℕ) (xs : List ℕ) (i : ℕ) → i < length xs → member x (take (i + 1) xs)
    ≡ (member x (take i xs) || eqb x (get_or xs i 0))
member-take x xs i h =
    let e : take (i + 1) xs ≡ take i xs ++ (get_or xs i 0 ∷ []) = take_more xs i 0 h in
    let m = member-append x (take i xs) (get_or xs i 0 ∷ []) in
    let a : member x (take (i + 1) xs) ≡ member x (take i xs ++ (get_or xs i 0 ∷ [])) = ap (member x) e in
    grind (arith, common_steps, m, a)

pub false_but_more : (set : ℕ → Bool) (c : List ℕ) (a b i : ℕ) → i < length c
    → (get_or c i 0 ≡ a) ⊎ (get_or c i 0 ≡ b) ⊎ (set (opposite (get_or c i 0)) ≡ true)
    → AreFalseBut set (take i c) a b → AreFalseBut set (take (i + 1) c) a b
false_but_more set c a b i h n f x s = at (member x (take i c)) refl (member-take x c i h)
  where
    at : (m : Bool) → member x (take i c) ≡ m → member x (take (i + 1) c)
        ≡ (member x (take i c) || eqb x (get_or c i 0))
        → (x ≡ a) ⊎ (x ≡ b) ⊎ (set (opposite x) ≡ true)
    at true e k = f x e
    at false e k =
        let q : get_or c i 0 ≡ x = grind (arith, common_steps, k, e, s) in
        rw q at n

-- what each element of a clause has, each member has
pub member_all : (n : ℕ) (c : List ℕ) (x : ℕ) → All (λ l. (l < n) × (opposite l < n)) c → member x c ≡ true
    → (x < n) × (opposite x < n)
member_all n [] x a s = absurd (cc)
member_all n (y ∷ c) x a s = at (eqb x y) refl (λ m. member_all n c x (λ i d h. a (suc i) d (omega arith)) m)
  where
    at : (b : Bool) → eqb x y ≡ b → (member x c ≡ true → (x < n) × (opposite x < n)) → (x < n) × (opposite x < n)
    at true e r = let q : x ≡ y = grind (arith, common_steps, e) in rw q (a 0 0 (omega arith))
    at false e r = r (grind (arith, common_steps, e, s))

-- a member of a part, and of the whole
in_front : (c : List ℕ) (k x : ℕ) → member x (take k c) ≡ true → member x c ≡ true
in_front [] zero x h = h
in_front [] (suc k) x h = h
in_front (y ∷ c) zero x h = absurd (cc)
in_front (y ∷ c) (suc k) x h = at (eqb x y) refl (λ q. in_front c k x q)
  where
    at : (b : Bool) → eqb x y ≡ b → (member x (take k c) ≡ true → member x c ≡ true) → (eqb x y || member x c) ≡ true
    at true e r = grind (arith, common_steps, e)
    at false e r = let q = r (grind (arith, common_steps, e, h)) in grind (arith, common_steps, q)

in_back : (c : List ℕ) (k x : ℕ) → member x (drop k c) ≡ true → member x c ≡ true
in_back [] zero x h = h
in_back [] (suc k) x h = h
in_back (y ∷ c) zero x h = h
in_back (y ∷ c) (suc k) x h = let q = in_back c k x h in grind (arith, common_steps, q)

in_either : (c : List ℕ) (k x : ℕ) → member x c ≡ true → (member x (take k c) ≡ true) ⊎ (member x (drop k c) ≡ true)
in_either [] k x h = absurd (cc)
in_either (y ∷ c) zero x h = inr h
in_either (y ∷ c) (suc k) x h = at (eqb x y) refl (λ q. in_either c k x q)
  where
    at : (b : Bool) → eqb x y ≡ b
        → (member x c ≡ true → (member x (take k c) ≡ true) ⊎ (member x (drop k c) ≡ true))
        → ((eqb x y || member x (take k c)) ≡ true) ⊎ (member x (drop k c) ≡ true)
    at true e r = inl (grind (arith, common_steps, e))
    at false e r = more (r (grind (arith, common_steps, e, h)))
      where
        more : (member x (take k c) ≡ true) ⊎ (member x (drop k c) ≡ true)
            → ((eqb x y || member x (take k c)) ≡ true) ⊎ (member x (drop k c) ≡ true)
        more (inl q) = inl (grind (arith, common_steps, q))
        more (inr q) = inr q

-- what a search in the two parts of a clause finds
module _ (set : ℕ → Bool) (c front back : List ℕ) (k a b : ℕ) (f : front ≡ take k c) (g : back ≡ drop k c) where
  pub open_behind : (l : ℕ) → IsOpen set back a b l → IsOpen set c a b l
  open_behind l o = record {
    stands = in_back c k l (ap (member l) (sym g) ∙ o.stands);
    not_first = o.not_first;
    not_second = o.not_second;
    not_false = o.not_false;
  }

  open_before : (l : ℕ) → IsOpen set front a b l → IsOpen set c a b l
  open_before l o = record {
    stands = in_front c k l (ap (member l) (sym f) ∙ o.stands);
    not_first = o.not_first;
    not_second = o.not_second;
    not_false = o.not_false;
  }

  all_false : AreFalseBut set front a b → AreFalseBut set back a b → AreFalseBut set c a b
  all_false p q x m = at (in_either c k x m)
    where
      at : (member x (take k c) ≡ true) ⊎ (member x (drop k c) ≡ true)
          → (x ≡ a) ⊎ (x ≡ b) ⊎ (set (opposite x) ≡ true)
      at (inl h) = p x (ap (member x) f ∙ h)
      at (inr h) = q x (ap (member x) g ∙ h)

  pub found_before : (r : Option Open) → AreFalseBut set back a b
      → MatchOption r (AreFalseBut set front a b) (λ o. IsOpen set front a b o.literal)
      → MatchOption r (AreFalseBut set c a b) (λ o. IsOpen set c a b o.literal)
  found_before None q p = all_false p q
  found_before (Some o) q p = open_before o.literal p

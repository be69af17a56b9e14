-- What a list of literals makes.
use Rattle.std.proofs.Common.{◌≡◌, ℕ, ◌<◌, ◌≤◌, ◌||◌, ◌⊎◌, not, eqb, Bool, true, false, List, [], ◌∷◌, ◌++◌, refl}
use Rattle.std.proofs.Common.{sym, ◌∙◌, ap, subst, cond, arith, inl, inr, append_assoc}
use Rattle.std.proofs.lemmas.Bool.{eqb-true, or_parts, or_from}
use Rattle.std.proofs.lemmas.List.{append-nil}
use Rattle.std.proofs.lemmas.Grind.{common_steps}
use Rattle.cnf_base.specs.declared.cnf.Entry.{Entry}
use Rattle.cnf_base.specs.declared.cnf.Entry.TheVariants.{Clause, True}
use Rattle.cnf_base.specs.Literals.{opposite, member, is_true, IsLiteral, AreLiterals}
use Rattle.cnf_base.specs.Clauses.{IsClause, IsEntry, entry_of, with_literal, SatisfiesClause, SatisfiesEntry}
use Rattle.cnf_base.proofs.Literals.{variable_of-opposite, is_true-opposite, member-push, eqb_sym, eqb-opposite}
use Rattle.cnf_base.proofs.Clauses.{wider_clause, longer_clause}

pub opposite_literal : (n l : ℕ) → IsLiteral n l → IsLiteral n (opposite l)
opposite_literal n l h = subst (λ (v : ℕ). (0 < v) × (v ≤ n)) (sym (variable_of-opposite l)) h

pub push_literal : (n : ℕ) (xs : List ℕ) (l : ℕ) → AreLiterals n xs → IsLiteral n l → AreLiterals n (xs ++ l ∷ [])
push_literal n [] l p q = (q, tt)
push_literal n (x ∷ xs) l p q = (p.0, push_literal n xs l p.1 q)

kept_literals : (n : ℕ) (kept : List ℕ) (l : ℕ) (b : Bool) → AreLiterals n kept → IsLiteral n l
    → AreLiterals n (cond b kept (kept ++ l ∷ []))
kept_literals n kept l true p q = p
kept_literals n kept l false p q = push_literal n kept l p q

true_or : (n : ℕ) (b : Bool) (e : Entry) → 0 < n → (b ≡ false → IsEntry n e) → IsEntry n (cond b True e)
true_or n true e p q = p
true_or n false e p q = q refl

pub entry_in : (n : ℕ) (kept ls : List ℕ) → IsClause kept → AreLiterals n kept → AreLiterals n ls
    → IsEntry n (entry_of kept ls)
entry_in n kept [] k p q = (k, p)
entry_in n kept (l ∷ ls) k p q =
    let some : 0 < n = omega (arith, q.0.0, q.0.1) in
    true_or n (member (opposite l) kept) (entry_of (with_literal kept l) ls) some
    (λ apart. entry_in n (with_literal kept l) ls (wider_clause kept l k apart)
    (kept_literals n kept l (member l kept) p q.0) q.1)

-- a clause makes itself
has_middle : (kept ls : List ℕ) (l m : ℕ) → member m (kept ++ l ∷ ls) ≡ false → eqb m l ≡ false
has_middle [] ls l m h = (or_parts (eqb m l) (member m ls) h).0
has_middle (k ∷ kept) ls l m h = has_middle kept ls l m (or_parts (eqb m k) (member m (kept ++ l ∷ ls)) h).1

apart : (kept ls : List ℕ) (l : ℕ) → IsClause (kept ++ l ∷ ls)
    → (member (opposite l) kept ≡ false) × (member l kept ≡ false)
apart [] ls l h = (refl, refl)
apart (k ∷ kept) ls l h =
    let r = apart kept ls l h.2 in (
      or_from (eqb (opposite l) k) (member (opposite l) kept)
          (eqb-opposite l k ∙ has_middle kept ls l (opposite k) h.1) r.0,
      or_from (eqb l k) (member l kept) (eqb_sym l k ∙ has_middle kept ls l k h.0) r.1,
    )

pub entry_kept : (kept ls : List ℕ) → IsClause (kept ++ ls) → entry_of kept ls ≡ Clause (kept ++ ls)
entry_kept kept [] h = ap Clause (sym (append-nil kept))
entry_kept kept (l ∷ ls) h =
    let a = apart kept ls l h in
    longer_clause kept l a.0 a.1 ls ∙ entry_kept (kept ++ l ∷ []) ls (subst IsClause
    (sym (append_assoc kept (l ∷ []) ls)) h) ∙ ap Clause (append_assoc kept (l ∷ []) ls)

-- truth
pub member-with : (x : ℕ) (kept : List ℕ) (l : ℕ) → member x (with_literal kept l) ≡ (member x kept || eqb x l)
member-with x kept l = at (member l kept) refl
  where
    here : (b : Bool) → eqb x l ≡ b → member l kept ≡ true → member x kept ≡ (member x kept || b)
    here true e h = let q : x ≡ l = eqb-true x l e in let m : member x kept
        ≡ true = rw q h in grind (arith, common_steps, m)
    here false e h = grind (arith, common_steps)

    at : (b : Bool) → member l kept ≡ b → member x (cond b kept (kept ++ l ∷ [])) ≡ (member x kept || eqb x l)
    at true e = here (eqb x l) refl e
    at false e = member-push x kept l

wider_satisfied : (v : ℕ → Bool) (kept : List ℕ) (l : ℕ) (ls : List ℕ)
    → SatisfiesClause v kept ⊎ SatisfiesClause v (l ∷ ls)
    → SatisfiesClause v (with_literal kept l) ⊎ SatisfiesClause v ls
wider_satisfied v kept l ls (inl (x, m, t)) = let e = member-with x kept l in inl
    (x, grind (arith, common_steps, e, m), t)
wider_satisfied v kept l ls (inr (x, m, t)) = at (eqb x l) refl
  where
    at : (b : Bool) → eqb x l ≡ b → SatisfiesClause v (with_literal kept l) ⊎ SatisfiesClause v ls
    at true e = let w = member-with x kept l in inl (x, grind (arith, common_steps, w, e), t)
    at false e = inr (x, grind (arith, common_steps, e, m), t)

pub entry_satisfied : (v : ℕ → Bool) (kept ls : List ℕ) → SatisfiesClause v kept ⊎ SatisfiesClause v ls
    → SatisfiesEntry v (entry_of kept ls)
entry_satisfied v kept [] (inl s) = s
entry_satisfied v kept [] (inr (x, m, t)) = absurd (cc)
entry_satisfied v kept (l ∷ ls) s = at (member (opposite l) kept)
    (entry_satisfied v (with_literal kept l) ls (wider_satisfied v kept l ls s))
  where
    at : (b : Bool) → SatisfiesEntry v (entry_of (with_literal kept l) ls)
        → SatisfiesEntry v (cond b True (entry_of (with_literal kept l) ls))
    at true r = tt
    at false r = r

narrower_satisfied : (v : ℕ → Bool) (kept : List ℕ) (l : ℕ) (ls : List ℕ)
    → SatisfiesClause v (with_literal kept l) ⊎ SatisfiesClause v ls
    → SatisfiesClause v kept ⊎ SatisfiesClause v (l ∷ ls)
narrower_satisfied v kept l ls (inr (x, m, t)) = inr (x, grind (arith, common_steps, m), t)
narrower_satisfied v kept l ls (inl (x, m, t)) = at (member x kept) refl
  where
    at : (b : Bool) → member x kept ≡ b → SatisfiesClause v kept ⊎ SatisfiesClause v (l ∷ ls)
    at true e = inl (x, e, t)
    at false e = let w = member-with x kept l in inr (x, grind (arith, common_steps, w, e, m), t)

either_satisfied : (v : ℕ → Bool) (kept : List ℕ) (l : ℕ) (ls : List ℕ) → member (opposite l) kept ≡ true
    → SatisfiesClause v kept ⊎ SatisfiesClause v (l ∷ ls)
either_satisfied v kept l ls m = at (is_true v l) refl
  where
    at : (b : Bool) → is_true v l ≡ b → SatisfiesClause v kept ⊎ SatisfiesClause v (l ∷ ls)
    at true e = inr (l, grind (arith, common_steps), e)
    at false e = inl (opposite l, m, is_true-opposite v l ∙ ap not e)

pub entry_satisfies : (v : ℕ → Bool) (kept ls : List ℕ) → SatisfiesEntry v (entry_of kept ls)
    → SatisfiesClause v kept ⊎ SatisfiesClause v ls
entry_satisfies v kept [] s = inl s
entry_satisfies v kept (l ∷ ls) s = at (member (opposite l) kept) refl s
    (λ r. narrower_satisfied v kept l ls (entry_satisfies v (with_literal kept l) ls r))
  where
    at : (b : Bool) → member (opposite l) kept ≡ b → SatisfiesEntry v (cond b True (entry_of (with_literal kept l) ls))
        → (SatisfiesEntry v (entry_of (with_literal kept l) ls) → SatisfiesClause v kept ⊎ SatisfiesClause v (l ∷ ls))
        → SatisfiesClause v kept ⊎ SatisfiesClause v (l ∷ ls)
    at true e s r = either_satisfied v kept l ls e
    at false e s r = r s

pub from_none : (v : ℕ → Bool) (ls : List ℕ) → SatisfiesClause v [] ⊎ SatisfiesClause v ls → SatisfiesClause v ls
from_none v ls (inl (x, m, t)) = absurd (cc)
from_none v ls (inr s) = s

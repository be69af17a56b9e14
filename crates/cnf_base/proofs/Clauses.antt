-- A clause that grows at its end.
use Rattle.std.proofs.Common.{◌≡◌, ℕ, eqb, Bool, true, false, List, [], ◌∷◌, ◌++◌, refl, ◌∙◌, ap, cond}
use Rattle.std.proofs.lemmas.Bool.{or_parts, or_from}
use Rattle.cnf_base.specs.declared.cnf.Entry.TheVariants.{True}
use Rattle.cnf_base.specs.Literals.{opposite, member}
use Rattle.cnf_base.specs.Clauses.{IsClause, entry_of, with_literal}
use Rattle.cnf_base.proofs.Literals.{eqb_sym, eqb-opposite, member-push}

pub push_clause : (ls : List ℕ) (l : ℕ) → IsClause ls → member (opposite l) ls ≡ false → member l ls ≡ false
    → IsClause (ls ++ l ∷ [])
push_clause [] l h p q = (refl, refl, tt)
push_clause (k ∷ ls) l h p q =
    let a = or_parts (eqb (opposite l) k) (member (opposite l) ls) p in
    let b = or_parts (eqb l k) (member l ls) q in (
      member-push k ls l ∙ or_from _ _ h.0 (eqb_sym k l ∙ b.0),
      member-push (opposite k) ls l ∙ or_from _ _ h.1 (eqb-opposite k l ∙ a.0),
      push_clause ls l h.2 a.1 b.1,
    )

one_way : (kept : List ℕ) (l : ℕ) (b : Bool) → member l kept ≡ b → IsClause kept → member (opposite l) kept ≡ false
    → IsClause (cond b kept (kept ++ l ∷ []))
one_way kept l true e h p = h
one_way kept l false e h p = push_clause kept l h p e

pub wider_clause : (kept : List ℕ) (l : ℕ) → IsClause kept → member (opposite l) kept ≡ false
    → IsClause (with_literal kept l)
wider_clause kept l h p = one_way kept l (member l kept) refl h p

pub same_clause : (kept : List ℕ) (l : ℕ) → member (opposite l) kept ≡ false → member l kept ≡ true → (ls : List ℕ)
    → entry_of kept (l ∷ ls) ≡ entry_of kept ls
same_clause kept l h p ls = ap (λ b. cond b True (entry_of (with_literal kept l) ls)) h
    ∙ ap (λ b. entry_of (cond b kept (kept ++ l ∷ [])) ls) p

pub longer_clause : (kept : List ℕ) (l : ℕ) → member (opposite l) kept ≡ false → member l kept ≡ false → (ls : List ℕ)
    → entry_of kept (l ∷ ls) ≡ entry_of (kept ++ l ∷ []) ls
longer_clause kept l h p ls = ap (λ b. cond b True (entry_of (with_literal kept l) ls)) h
    ∙ ap (λ b. entry_of (cond b kept (kept ++ l ∷ [])) ls) p

pub entry_ends : (kept : List ℕ) (l : ℕ) → member (opposite l) kept ≡ true → (ls : List ℕ)
    → entry_of kept (l ∷ ls) ≡ True
entry_ends kept l h ls = ap (λ b. cond b True (entry_of (with_literal kept l) ls)) h

pub ruleset literal_added = (push_clause, same_clause, longer_clause, entry_ends)

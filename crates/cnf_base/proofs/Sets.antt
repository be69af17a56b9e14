-- A table of literals as a list.
use Rattle.std.proofs.Common.{◌≡◌, ℕ, ◌||◌, eqb, Bool, false, List, [], ◌∷◌, ◌++◌, refl, ap, cond}
use Rattle.std.specs.List.{list_any}
use Rattle.indexmap.specs.IndexSet.{insert_key}
use Rattle.cnf_base.specs.declared.cnf.Entry.TheVariants.{True}
use Rattle.cnf_base.specs.contracts.lit.LitPartialEq.TheImpl as lit_eq
use Rattle.cnf_base.specs.Literals.{member, opposite}
use Rattle.cnf_base.specs.Clauses.{entry_of, with_literal}
use Rattle.cnf_base.proofs.Clauses.{wider_clause, entry_ends}

abbrev equal : ℕ → ℕ → Bool
equal = (lit_eq.ghosts).eq

pub keys_have : (ks : List ℕ) (l : ℕ) → list_any (equal l) ks ≡ member l ks
keys_have [] l = refl
keys_have (k ∷ ks) l = ap (λ b. eqb l k || b) (keys_have ks l)

pub keys_wider : (ks : List ℕ) (l : ℕ) → insert_key equal ks l ≡ with_literal ks l
keys_wider ks l = ap (λ b. cond b ks (ks ++ l ∷ [])) (keys_have ks l)

pub entry_goes_on : (kept : List ℕ) (l : ℕ) → member (opposite l) kept ≡ false → (ls : List ℕ)
    → entry_of kept (l ∷ ls) ≡ entry_of (with_literal kept l) ls
entry_goes_on kept l h ls = ap (λ b. cond b True (entry_of (with_literal kept l) ls)) h

pub ruleset literal_added = (wider_clause, entry_goes_on, entry_ends)

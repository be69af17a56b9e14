-- The clauses of a formula, held one after another.
use Rattle.std.proofs.Common.{◌≡◌, ℕ, zero, suc, ◌+◌, ◌*◌, ◌<◌, Bool, List, [], ◌∷◌, ◌++◌, length, get_or, take}
use Rattle.std.proofs.Common.{slice_get, arith, ap, sym, subst, ◌∙◌, Some}
use Rattle.std.proofs.lemmas.List.{take_more}
use Rattle.std.specs.List.{All}
use Rattle.cnf_base.specs.declared.cnf.Entry.{Entry}
use Rattle.cnf_base.specs.declared.cnf.Entry.TheVariants.{Clause, True}
use Rattle.cnf_base.specs.Literals.{opposite, AreLiterals}
use Rattle.cnf_base.specs.Clauses.{IsClause}
use Rattle.cnf_base.specs.Formulas.{Formula, AreEntries, IsFormula}
use Rattle.lrat_log.specs.Held.{Held, held_by}
use Rattle.lrat_log.specs.Learnt.{StandsInHint, IsChain, IsResolvent}
use Rattle.cdcl_tables.specs.Extent.{AreUpTo}
use Rattle.cdcl.specs.Logged.{IsLogged}
use Rattle.cdcl.proofs.Literals.{opposite-below}
use Rattle.cdcl.proofs.Entries.{held_at}
use Rattle.cdcl.proofs.Asserting.{all_members}

entries_at : (n : ℕ) (es : List Entry) (k : ℕ) (c : List ℕ) → AreEntries n es → slice_get es k ≡ Some (Clause c)
    → IsClause c × AreLiterals n c
entries_at n [] k c a h = absurd (cc)
entries_at n (e ∷ es) (suc k) c a h = entries_at n es k c a.1 h
entries_at n (Clause d ∷ es) zero c a h = let q : d ≡ c = cc in
    subst (λ (x : List ℕ). IsClause x × AreLiterals n x) q a.0
entries_at n (True ∷ es) zero c a h = absurd (cc)

at_place : (es : List Entry) (k : ℕ) (e : Entry) → k < length es → e ≡ get_or es k e → slice_get es k ≡ Some e
at_place [] k e h q = absurd (omega arith)
at_place (x ∷ es) zero e h q = ap (λ (y : Entry). Some y) (sym q)
at_place (x ∷ es) (suc k) e h q = at_place es k e (omega arith) q

default_at : (es : List Entry) (k : ℕ) (e : Entry) → slice_get es k ≡ Some e → get_or es k True ≡ e
default_at [] k e h = absurd (cc)
default_at (x ∷ es) zero e h = cc
default_at (x ∷ es) (suc k) e h = default_at es k e h

-- an entry of a formula, of whose variables none is above g
pub entry_ready : (f : Formula) (es : List Entry) (k g size : ℕ) (e : Entry) → es ≡ f.clauses → IsFormula f
    → k < length es → e ≡ get_or es k e → AreUpTo g es (length es) → size ≡ 2 * (g + 1)
    → (c : List ℕ) → e ≡ Clause c → IsClause c × All (λ l. (l < size) × (opposite l < size)) c
entry_ready f es k g size e ef a h q u z c i =
    let s : slice_get es k ≡ Some (Clause c) = at_place es k e h q ∙ ap (λ (y : Entry). Some y) i in
    let p = entries_at f.variables f.clauses k c a (ap (λ (x : List Entry). slice_get x k) (sym ef) ∙ s) in (
      p.0,
      all_members c size (λ x m. (let v = u k c h (default_at es k (Clause c) s) x m in
          let lt : x < 2 * (g + 1) = omega arith in
          (rw z lt, rw z (opposite-below (g + 1) x lt)))),
    )

pub taken_more : (es held : List Entry) (k : ℕ) (e : Entry) → k < length es → e ≡ get_or es k e
    → held ≡ take k es ++ e ∷ [] → held ≡ take (k + 1) es
taken_more es held k e h q s = s ∙ ap (λ (x : Entry). take k es ++ x ∷ []) q ∙ sym (take_more es k e h)

get_take : (es : List Entry) (m k : ℕ) (e : Entry) → slice_get (take m es) k ≡ Some e → slice_get es k ≡ Some e
get_take [] zero k e h = absurd (cc)
get_take [] (suc m) k e h = absurd (cc)
get_take (x ∷ es) zero k e h = absurd (cc)
get_take (x ∷ es) (suc m) zero e h = h
get_take (x ∷ es) (suc m) (suc k) e h = get_take es m k e h

held_take : (es : List Entry) (m id : ℕ) (e : Entry) → held_by (take m es) id ≡ Some e → held_by es id ≡ Some e
held_take es m zero e h = absurd (cc)
held_take es m (suc k) e h =
    let s : suc k ≡ k + 1 = omega arith in
    ap (held_by es) s ∙ held_at es k
    ∙ get_take es m k e (sym (held_at (take m es) k) ∙ ap (held_by (take m es)) (sym s) ∙ h)

stands_more : (held more : Held) (hints : List ℕ) (l : ℕ) → ((id : ℕ) (e : Entry) → held id ≡ Some e → more id ≡ Some e)
    → StandsInHint held hints l → StandsInHint more hints l
stands_more held more hints l m s = (s.0, s.1, s.2, m s.0 (Clause s.1) s.3, s.4)

chain_more : (held more : Held) (hints : List ℕ) (set : ℕ → Bool)
    → ((id : ℕ) (e : Entry) → held id ≡ Some e → more id ≡ Some e) → IsChain held hints set → IsChain more hints set
chain_more held more [] set m k = k
chain_more held more (h ∷ []) set m k = (k.0, m h (Clause k.0) k.1, k.2)
chain_more held more (h ∷ (g ∷ gs)) set m k = (
  k.0,
  k.1,
  m h (Clause k.0) k.2,
  k.3,
  stands_more held more (g ∷ gs) (opposite k.1) m k.4,
  chain_more held more (g ∷ gs) (Rattle.lrat_log.specs.Accepted.also set k.1) m k.5,
)

-- a resolvent of the first clauses
pub resolvent_taken : (es held : List Entry) (m : ℕ) (ls hints : List ℕ) → held ≡ take m es
    → IsResolvent (held_by held) ls hints → IsResolvent (held_by es) ls hints
resolvent_taken es held m ls hints q r = record {
  drawn = λ l s. stands_more (held_by held) (held_by es) hints l more (r.drawn l s);
  chain = chain_more (held_by held) (held_by es) hints (Rattle.lrat_log.specs.Accepted.all_false ls) more r.chain;
}
  where
    more : (id : ℕ) (e : Entry) → held_by held id ≡ Some e → held_by es id ≡ Some e
    more id e h = held_take es m id e (ap (λ (y : List Entry). held_by y id) (sym q) ∙ h)

-- nothing is logged
pub logged_begins : (f : Formula) (held : List Entry) → held ≡ f.clauses → IsFormula f → IsLogged f held []
logged_begins f held q a = record {
  learnt = tt;
  after = λ id. ap (λ (x : List Entry). held_by x id) (sym q);
  last = ap length (sym q);
  count = (let n = ap length q in omega arith);
  log = tt;
  over = λ id c h. over id c (ap (λ (x : List Entry). held_by x id) (sym q) ∙ h);
  formula = λ id e h. ap (λ (x : List Entry). held_by x id) q ∙ h;
}
  where
    over : (id : ℕ) (c : List ℕ) → held_by f.clauses id ≡ Some (Clause c) → AreLiterals f.variables c
    over zero c h = absurd (cc)
    over (suc k) c h =
        (entries_at f.variables f.clauses k c a
        (sym (held_at f.clauses k) ∙ ap (held_by f.clauses) (let s : k + 1 ≡ suc k = omega arith in s) ∙ h)).1

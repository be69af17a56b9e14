-- A log that grows with the clauses.
use Rattle.std.proofs.Common.{◌≡◌, ℕ, zero, suc, ◌+◌, ◌<◌, ◌≤◌, ◌⊎◌, eqb, Bool, true, false, cond, if◌then◌else◌, List}
use Rattle.std.proofs.Common.{[], ◌∷◌, ◌++◌, length, length-append, slice_get, refl, arith, ap, sym, subst, ◌∙◌, inl}
use Rattle.std.proofs.Common.{inr, Some, Option}
use mathlib.Core.Path.{fun_ext}
use Rattle.std.proofs.lemmas.Grind.{common_steps}
use Rattle.std.proofs.lemmas.Bool.{cases_lt}
use Rattle.std.proofs.lemmas.Option.{slice_get_past}
use Rattle.cnf_base.specs.declared.cnf.Entry.{Entry}
use Rattle.cnf_base.specs.declared.cnf.Entry.TheVariants.{Clause, True}
use Rattle.cnf_base.specs.Literals.{member, IsLiteral, AreLiterals}
use Rattle.cnf_base.specs.Clauses.{has_opposites}
use Rattle.cnf_base.specs.Formulas.{Formula}
use Rattle.lrat_log.specs.declared.line.Line.{Line}
use Rattle.lrat_log.specs.declared.line.Line.TheVariants.{Add}
use Rattle.lrat_log.specs.Held.{Held, held_of, added_entry, after_lines, held_by}
use Rattle.lrat_log.specs.declared.outcome.Outcome.TheVariants.{Accepted}
use Rattle.lrat_log.specs.Accepted.{last_id, outcome_of, IsAccepted}
use Rattle.lrat_log.specs.Learnt.{IsChain, IsResolvent, IsLearnt}
use Rattle.lrat_log.specs.Refutations.{IsRefutation}
use Rattle.lrat_log.specs.Logs.{AreIds, IsLineOver}
use Rattle.cdcl.specs.Logged.{IsLogged}
use Rattle.cdcl.proofs.GrowthLaws.{AreGrowthLaws}
use Rattle.cdcl.proofs.Entries.{held_id, held_at, held_old, held_new, held_either, get_old}

-- each hint of a chain is the id of a held clause
pub chain_ids : (es : List Entry) (hints : List ℕ) (set : ℕ → Bool) → length es ≤ 2147483647
    → IsChain (held_by es) hints set → AreIds hints
chain_ids es [] set n k = tt
chain_ids es (h ∷ []) set n k = let i = held_id es h (Clause k.0) k.1 in let a = i.0 in let b = i.1 in
    ((a, omega arith), tt)
chain_ids es (h ∷ (g ∷ gs)) set n k =
    let i = held_id es h (Clause k.0) k.2 in
    let a = i.0 in
    let b = i.1 in
    ((a, omega arith), chain_ids es (g ∷ gs) (Rattle.lrat_log.specs.Accepted.also set k.1) n k.5)

pub literal_in : (n : ℕ) (c : List ℕ) (l : ℕ) → AreLiterals n c → member l c ≡ true → IsLiteral n l
literal_in n [] l a m = absurd (cc)
literal_in n (x ∷ c) l a m = at (eqb l x) refl (λ r. literal_in n c l a.1 r)
  where
    at : (b : Bool) → eqb l x ≡ b → (member l c ≡ true → IsLiteral n l) → IsLiteral n l
    at true e r = let q : l ≡ x = grind (arith, common_steps, e) in rw q a.0
    at false e r = r (grind (arith, common_steps, e, m))

literals_all : (n : ℕ) (ls : List ℕ) → ((x : ℕ) → member x ls ≡ true → IsLiteral n x) → AreLiterals n ls
literals_all n [] f = tt
literals_all n (l ∷ ls) f =
    (f l (grind (arith, common_steps)), literals_all n ls (λ x m. f x (grind (arith, common_steps, m))))

-- the literals of a resolvent are those of the held clauses
pub resolvent_over : (n : ℕ) (held : Held) (ls hints : List ℕ)
    → ((id : ℕ) (c : List ℕ) → held id ≡ Some (Clause c) → AreLiterals n c) → IsResolvent held ls hints
    → AreLiterals n ls
resolvent_over n held ls hints o r =
    literals_all n ls (λ x m. (let d = r.drawn x m in literal_in n d.1 x (o d.0 d.1 d.3) d.4))

held_push : (es : List Entry) (e : Entry) (k : ℕ) → held_by (es ++ e ∷ []) k
    ≡ cond (eqb k (length es + 1)) (Some e) (held_by es k)
held_push es e k = at (eqb k (length es + 1)) refl
  where
    at : (b : Bool) → eqb k (length es + 1) ≡ b → held_by (es ++ e ∷ []) k ≡ cond b (Some e) (held_by es k)
    at true q = ap (held_by (es ++ e ∷ [])) (let r : k ≡ length es + 1 = grind (arith, common_steps, q) in r)
        ∙ held_new es e
    at false q = other k q
      where
        other : (k : ℕ) → eqb k (length es + 1) ≡ false → held_by (es ++ e ∷ []) k ≡ held_by es k
        other zero q = refl
        other (suc j) q =
            let s : suc j ≡ j + 1 = omega arith in
            ap (held_by (es ++ e ∷ [])) s ∙ held_at (es ++ e ∷ []) j ∙ two (cases_lt j (length es)) ∙ sym (held_at es j)
            ∙ ap (held_by es) (sym s)
          where
            two : (j < length es) ⊎ (length es ≤ j) → slice_get (es ++ e ∷ []) j ≡ slice_get es j
            two (inl h) = get_old es e j h
            two (inr h) =
                let n = length-append es (e ∷ []) in
                let past : length es < j = grind (arith, common_steps, q, h) in
                slice_get_past (es ++ e ∷ []) j (omega arith) ∙ sym (slice_get_past es j (omega arith))

added_is : (ls : List ℕ) → has_opposites ls ≡ false → added_entry ls ≡ Clause ls
added_is ls n = ap (λ (b : Bool). if b then True else Clause ls) n

-- one more line, by the laws of logs
module _ (laws : AreGrowthLaws) where
  module _ (f : Formula) (es : List Entry) (lines : List Line) (id : ℕ) (g : IsLogged f es lines)
      (n : id ≡ length es + 1) (few : length es < 2147483647) where
    -- the line of a resolvent is in range
    pub resolvent_line : (ls hints : List ℕ) → IsResolvent (held_by es) ls hints
        → IsLineOver f.variables (last_id (length f.clauses) lines) (Add id ls hints)
    resolvent_line ls hints r = (
      (let a = g.last in omega arith),
      (omega arith, omega arith),
      resolvent_over f.variables (held_by es) ls hints g.over r,
      chain_ids es hints (Rattle.lrat_log.specs.Accepted.all_false ls) (omega arith) r.chain,
    )

    pub resolvent_after : (ls hints : List ℕ) → IsResolvent (held_by es) ls hints
        → IsResolvent (after_lines (held_of f) lines) ls hints
    resolvent_after ls hints = subst (λ (h : Held). IsResolvent h ls hints) (sym (fun_ext g.after))

    -- a learnt clause is held and logged
    pub logged_push : (fs : List Entry) (ls hints : List ℕ) → fs ≡ es ++ Clause ls ∷ [] → IsLearnt (held_by es) ls hints
        → IsLogged f fs (lines ++ Add id ls hints ∷ [])
    logged_push fs ls hints more l = record {
      learnt = laws.learnt f.variables (held_of f) (length f.clauses) lines id ls hints g.learnt (line.0, line.2)
          (subst (λ (h : Held). IsLearnt h ls hints) (sym (fun_ext g.after)) l);
      after = λ k. ap (λ (h : Held). h k) (laws.held (held_of f) lines (Add id ls hints)) ∙ same k;
      last = laws.last (length f.clauses) lines (Add id ls hints) ∙ n ∙ sym len;
      count = (let a = len in let b = g.count in let d = length-append lines (Add id ls hints ∷ []) in omega arith);
      log = laws.log f.variables (length f.clauses) lines (Add id ls hints) g.log line;
      over = λ k c h. at k c
          (held_either es (Clause ls) (Clause c) k (ap (λ (x : List Entry). held_by x k) (sym more) ∙ h));
      formula = λ k e h. ap (λ (x : List Entry). held_by x k) more ∙ held_old es (Clause ls) e k (g.formula k e h);
    }
      where
        len : length fs ≡ length es + 1
        len = ap length more ∙ length-append es (Clause ls ∷ [])

        line : IsLineOver f.variables (last_id (length f.clauses) lines) (Add id ls hints)
        line = resolvent_line ls hints l.resolvent

        same : (k : ℕ) → cond (eqb k id) (Some (added_entry ls)) (after_lines (held_of f) lines k) ≡ held_by fs k
        same k =
            ap (λ (e : Entry). cond (eqb k id) (Some e) (after_lines (held_of f) lines k)) (added_is ls l.no_opposites)
            ∙ ap (λ (o : Option Entry). cond (eqb k id) (Some (Clause ls)) o) (g.after k)
            ∙ ap (λ (m : ℕ). cond (eqb k m) (Some (Clause ls)) (held_by es k)) n
            ∙ sym (held_push es (Clause ls) k) ∙ ap (λ (x : List Entry). held_by x k) (sym more)

        at : (k : ℕ) (c : List ℕ) → (held_by es k ≡ Some (Clause c)) ⊎ ((k ≡ length es + 1) × (Clause ls ≡ Clause c))
            → AreLiterals f.variables c
        at k c (inl q) = g.over k c q
        at k c (inr q) = let e : ls ≡ c = clause_is ls c q.1 in subst (AreLiterals f.variables) e line.2
          where
            clause_is : (c d : List ℕ) → Clause c ≡ Clause d → c ≡ d
            clause_is c d e = cc

    -- the empty clause behind learnt clauses refutes the formula
    pub refutation : (hints : List ℕ) → IsResolvent (held_by es) [] hints → IsAccepted f lines
        → outcome_of (after_lines (held_of f) lines) (Add id [] hints) ≡ Accepted
        → IsRefutation f (length lines) (lines ++ Add id [] hints ∷ [])
    refutation hints r a o =
        let line = resolvent_line [] hints r in
        record {
          before = lines;
          id = id;
          hints = hints;
          ends = refl;
          within = omega arith;
          learnt = g.learnt;
          accepted = laws.accepted f.variables (held_of f) (length f.clauses) lines (Add id [] hints) a (line.0, line.2)
              o;
        }

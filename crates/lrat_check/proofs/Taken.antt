-- What a checker is after one more line.
use Rattle.std.proofs.Common.{◌≡◌, ℕ, zero, suc, ◌+◌, ◌<◌, ◌≤◌, ◌||◌, Bool, true, false, cond, eqb, List, [], ◌∷◌}
use Rattle.std.proofs.Common.{◌++◌, refl, arith, sym, ◌∙◌, length, get_or, Result, Ok, Err, take, slice_get, Some}
use Rattle.std.proofs.Common.{None, ◌-◌}
use Rattle.std.proofs.lemmas.Grind.{common_steps}
use Rattle.std.specs.List.{All}
use Rattle.std.specs.Result.{is_ok, is_err}
use Rattle.lrat_log.specs.declared.line.Line.{Line}
use Rattle.lrat_log.specs.declared.line.Line.TheVariants.{Add, Delete}
use Rattle.lrat_log.specs.declared.outcome.Outcome.{Outcome}
use Rattle.lrat_log.specs.declared.outcome.Outcome.TheVariants.{Accepted}
use Rattle.cnf_base.specs.declared.cnf.Entry.{Entry}
use Rattle.std.proofs.lemmas.List.{take_more}
use Rattle.cnf_base.specs.declared.cnf.Entry.TheVariants.{Clause, True}
use Rattle.cnf_base.specs.Clauses.{has_opposites}
use Rattle.cnf_base.specs.Formulas.{Formula}
use mathlib.Core.Path.{fun_ext}
use Rattle.lrat_log.specs.Held.{Held, held_of, added_entry, after_line, after_lines, with_entry, without}
use Rattle.lrat_log.specs.Accepted.{outcome_of_addition, outcome_of_deletion, last_id, outcome_of, IsFit, IsAccepted}
use Rattle.lrat_log.specs.Accepted.{adds_empty}
use Rattle.lrat_check.proofs.GrowthLaws.{AreGrowthLaws}
use Rattle.lrat_check.specs.declared.spans.Span.{Span}

pub get_push : (xs : List Entry) (e : Entry) (k : ℕ)
    → slice_get (xs ++ e ∷ []) k ≡ cond (eqb k (length xs)) (Some e) (slice_get xs k)
get_push [] e zero = refl
get_push [] e (suc k) = grind (arith, common_steps)
get_push (x ∷ xs) e zero = grind (arith, common_steps)
get_push (x ∷ xs) e (suc k) = grind (arith, common_steps, get_push xs e k)

pub with_clause_same : (h0 h1 g : Held) (id : ℕ) (ls : List ℕ) (t : Bool) → t ≡ has_opposites ls
    → ((k : ℕ) → h1 k ≡ with_entry h0 id (cond t True (Clause ls)) k) → ((k : ℕ) → h0 k ≡ g k)
    → (k : ℕ) → h1 k ≡ with_entry g id (added_entry ls) k
with_clause_same h0 h1 g id ls t e a b k =
    let ak = rw e at (a k) in
    let bk = b k in
    grind (arith, common_steps, ak, bk)

pub without_same : (h0 h1 g : Held) (ids : List ℕ) → ((k : ℕ) → h1 k ≡ without h0 ids k) → ((k : ℕ) → h0 k ≡ g k)
    → (k : ℕ) → h1 k ≡ without g ids k
without_same h0 h1 g ids a b k =
    let ak = a k in
    let bk = b k in
    grind (arith, common_steps, ak, bk)

pub ok_from_err : {A B : Type 0} (r : Result A B) → is_err r ≡ false → is_ok r ≡ true
ok_from_err (Ok x) h = refl
ok_from_err (Err e) h = absurd (cc)

pub addition_accepted : (h g : Held) (ls ms hints ks : List ℕ) (r : Outcome) → ((k : ℕ) → h k ≡ g k) → ms ≡ ls
    → ks ≡ hints
    → r ≡ outcome_of_addition h ms ks → r ≡ Accepted → outcome_of_addition g ls hints ≡ Accepted
addition_accepted h g ls ms hints ks r s a b e t =
    let same : h ≡ g = fun_ext s in
    let e2 : r ≡ outcome_of_addition g ls hints = rw (a, b, same) at e in
    sym e2 ∙ t

pub deletion_accepted : (h g : Held) (ids ks : List ℕ) (r : Outcome) → ((k : ℕ) → h k ≡ g k) → ks ≡ ids
    → r ≡ outcome_of_deletion h ks → r ≡ Accepted → outcome_of_deletion g ids ≡ Accepted
deletion_accepted h g ids ks r s b e t =
    let same : h ≡ g = fun_ext s in
    let e2 : r ≡ outcome_of_deletion g ids = rw (b, same) at e in
    sym e2 ∙ t

pub pushed_lines : (news olds lines : List Line) (copy line : Line) → news ≡ olds ++ copy ∷ [] → olds ≡ lines
    → copy ≡ line → news ≡ lines ++ line ∷ []
pushed_lines news olds lines copy line a b e = cc

-- the entries under their ids, one more
pub entry_more : (f : Formula) (i : ℕ) (e : Entry) (h0 h1 : Held) → i < length f.clauses → e ≡ get_or f.clauses i e
    → ((k : ℕ) → h0 k ≡ held_of (record { variables = f.variables; clauses = take i f.clauses }) k)
    → ((k : ℕ) → h1 k ≡ with_entry h0 (i + 1) e k)
    → (k : ℕ) → h1 k ≡ held_of (record { variables = f.variables; clauses = take (i + 1) f.clauses }) k
entry_more f i e h0 h1 l q a b k =
    let ak = a k in
    let bk = b k in
    let t : take (i + 1) f.clauses ≡ take i f.clauses ++ e ∷ [] = rw (take_more f.clauses i e l, ← q) refl in
    let ln : length (take i f.clauses) ≡ i = grind (arith, common_steps, l) in
    rw t (at k (take i f.clauses) ln ak bk)
  where
    at : (k : ℕ) (xs : List Entry) → length xs ≡ i → h0 k ≡ cond (eqb k 0) None (slice_get xs (k - 1))
        → h1 k ≡ cond (eqb k (i + 1)) (Some e) (h0 k)
        → h1 k ≡ cond (eqb k 0) None (slice_get (xs ++ e ∷ []) (k - 1))
    at zero xs ln ak bk = grind (arith, common_steps, ak, bk)
    at (suc k) xs ln ak bk = let g = get_push xs e k in grind (arith, common_steps, ak, bk, g, ln)

-- one more line, by the laws of logs
module _ (laws : AreGrowthLaws) where
  pub taken : (f : Formula) (lines news : List Line) (line : Line) → IsAccepted f lines → news ≡ lines ++ line ∷ []
      → IsFit f.variables (last_id (length f.clauses) lines) line
      → outcome_of (after_lines (held_of f) lines) line ≡ Accepted → IsAccepted f news
  taken f lines news line a e t o = rw e (laws.accepted f.variables (held_of f) (length f.clauses) lines line a t o)

  pub held_after : (f : Formula) (lines news : List Line) (line : Line) (h0 h1 : Held) → news ≡ lines ++ line ∷ []
      → ((k : ℕ) → h0 k ≡ after_lines (held_of f) lines k)
      → ((k : ℕ) → h1 k ≡ after_line (after_lines (held_of f) lines) line k)
      → (k : ℕ) → h1 k ≡ after_lines (held_of f) news k
  held_after f lines news line h0 h1 e a b k = rw (e, laws.held (held_of f) lines line) (b k)

  pub last_after : (n id : ℕ) (lines news : List Line) (ls hints : List ℕ) (rows : List Span)
      → news ≡ lines ++ Add id ls hints ∷ []
      → All (λ (r : Span). r.id ≤ id) rows → All (λ (r : Span). r.id ≤ last_id n news) rows
  last_after n id lines news ls hints rows e h = rw (e, laws.last n lines (Add id ls hints)) h

  pub last_kept : (n id : ℕ) (lines news : List Line) (ids : List ℕ) (rows qs : List Span)
      → news ≡ lines ++ Delete id ids ∷ []
      → length qs ≡ length rows → ((k : ℕ) (d : Span) → (get_or qs k d).id ≡ (get_or rows k d).id)
      → All (λ (r : Span). r.id ≤ last_id n lines) rows → All (λ (r : Span). r.id ≤ last_id n news) qs
  last_kept n id lines news ids rows qs e ln i h k d l =
      let a = h k d (rw ln at l) in
      let b = i k d in
      let c : (get_or qs k d).id ≤ last_id n lines = rw b a in
      rw (e, laws.last n lines (Delete id ids)) c

  pub refuted_after : (lines news : List Line) (id : ℕ) (ls ms hints : List ℕ) (old empty : Bool)
      → news ≡ lines ++ Add id ls hints ∷ [] → ms ≡ ls
      → old ≡ adds_empty lines → empty ≡ eqb (length ms) 0 → (old || empty) ≡ adds_empty news
  refuted_after lines news id ls ms hints old empty e a o m =
      let p = laws.addition lines id ls hints in
      rw (e, p, o, m, a) refl

-- Clauses in one list of literals, one more of them, and one more entry.
use Rattle.std.proofs.Common.{◌≡◌, ℕ, zero, suc, ◌+◌, ◌-◌, ◌<◌, ◌≤◌, Bool, false, List, [], ◌∷◌, ◌++◌}
use Rattle.std.proofs.Common.{length, get_or, slice_get, map, slice_range, refl, arith, ap, sym, ◌∙◌, Some, None, cond}
use Rattle.std.proofs.Common.{eqb, if◌then◌else◌}
use Rattle.std.proofs.lemmas.Grind.{common_steps}
use Rattle.cnf_base.specs.declared.cnf.Entry.{Entry}
use Rattle.cnf_base.specs.declared.cnf.Entry.TheVariants.{Clause, True}
use Rattle.cdcl_tables.specs.declared.clauses.Span.{Span}
use Rattle.base.proofs.Lists.{slice_range-append, slice_range-seam}
use Rattle.lrat_log.specs.Held.{held_by}
use Rattle.cdcl_tables.specs.ClausesView.{entry_of_span, IsWithin}

held_at : (es : List Entry) (k : ℕ) → held_by es (k + 1) ≡ slice_get es k
held_at es k =
    let a : eqb (k + 1) 0 ≡ false = grind (arith, common_steps) in
    let b : k + 1 - 1 ≡ k = omega arith in
    ap (λ (t : Bool). cond t None (slice_get es (k + 1 - 1))) a ∙ ap (slice_get es) b

old_span : (xs ys : List ℕ) (s : Span) → IsWithin (length xs) s → entry_of_span (xs ++ ys) s ≡ entry_of_span xs s
old_span xs ys s w = let e = slice_range-append xs ys s.start s.end w.0 w.1 in
    ap (λ (r : List ℕ). if s.is_true then True else Clause r) e

pub spans_pushed : (xs c : List ℕ) (spans : List Span) (s : Span)
    → ((i : ℕ) (d : Span) → i < length spans → IsWithin (length xs) (get_or spans i d))
    → s.start ≡ length xs → s.end ≡ length xs + length c → s.is_true ≡ false
    → map (entry_of_span (xs ++ c)) (spans ++ s ∷ []) ≡ map (entry_of_span xs) spans ++ Clause c ∷ []
spans_pushed xs c [] s a e f t =
    let r : slice_range (xs ++ c) s.start s.end ≡ c = rw (e, f) (slice_range-seam xs c _ refl) in
    let k : entry_of_span (xs ++ c) s ≡ Clause c = rw t (ap (λ (x : List ℕ). Clause x) r) in
    ap (λ (x : Entry). x ∷ []) k
spans_pushed xs c (z ∷ spans) s a e f t =
    let r = spans_pushed xs c spans s (λ i d h. a (suc i) d (omega arith)) e f t in
    let o = old_span xs c z (a 0 z (omega arith)) in
    cc

-- the entry with an id
get_span : (xs : List ℕ) (spans : List Span) (k : ℕ) (s : Span) → k < length spans → s ≡ get_or spans k s
    → slice_get (map (entry_of_span xs) spans) k ≡ Some (entry_of_span xs s)
get_span xs [] k s h e = absurd (omega arith)
get_span xs (z ∷ spans) zero s h e = ap (λ (y : Span). Some (entry_of_span xs y)) (sym e)
get_span xs (z ∷ spans) (suc k) s h e = get_span xs spans k s (omega arith) e

pub span_held : (xs : List ℕ) (spans : List Span) (id : ℕ) (s : Span) → 0 < id
    → id ≤ length (map (entry_of_span xs) spans) → s ≡ get_or spans (id - 1) s
    → held_by (map (entry_of_span xs) spans) id ≡ Some (entry_of_span xs s)
span_held xs spans id s p h e =
    let n : length (map (entry_of_span xs) spans) ≡ length spans = grind (arith, common_steps) in
    let q : id ≡ id - 1 + 1 = omega arith in
    ap (held_by (map (entry_of_span xs) spans)) q ∙ held_at (map (entry_of_span xs) spans) (id - 1)
    ∙ get_span xs spans (id - 1) s (omega arith) e

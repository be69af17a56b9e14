-- One more line of a whole log.
use Rattle.std.proofs.Common.{◌≡◌, ℕ, suc, ◌-◌, ◌<◌, List, [], ◌∷◌, ◌++◌, length, get_or, take, drop, refl, sym, ◌∙◌}
use Rattle.std.proofs.Common.{ap, subst, arith, append_assoc}
use Rattle.std.proofs.lemmas.Grind.{common_steps}
use Rattle.cnf_base.specs.Formulas.{Formula}
use Rattle.lrat_log.specs.declared.line.Line.{Line}
use Rattle.lrat_log.specs.declared.line.Line.TheVariants.{Add, Delete}
use Rattle.lrat_log.specs.declared.outcome.Outcome.{Outcome}
use Rattle.lrat_log.specs.declared.outcome.Outcome.TheVariants.{Accepted}
use Rattle.lrat_log.specs.Held.{Held, held_of, after_line, after_lines}
use Rattle.lrat_log.specs.Accepted.{last_id, outcome_of, IsFit, IsAccepted}
use Rattle.lrat_log.specs.Logs.{IsLineOver, IsLogOver}
use Rattle.lrat_check.specs.Checked.{Checked, held_now, last_of}
use Rattle.lrat_check.specs.Whole.{first_refusal, refusal_or}
use Rattle.lrat_check.proofs.GrowthLaws.{AreGrowthLaws}

is_fit : (v last : ℕ) (line : Line) → IsLineOver v last line → IsFit v last line
is_fit v last (Add id ls hints) h = (h.0, h.2)
is_fit v last (Delete id ids) h = tt

take_all : (xs : List Line) (n : ℕ) → n ≡ length xs → take n xs ≡ xs
take_all xs n e = grind (arith, common_steps, e)

goes_on : (h : Held) (x : Line) (xs : List Line) → outcome_of h x ≡ Accepted
    → first_refusal h (x ∷ xs) ≡ first_refusal (after_line h x) xs
goes_on h x xs o = ap (λ (r : Outcome). refusal_or r x (first_refusal (after_line h x) xs)) o

-- where a loop over a log stands
pub record Stands (f : Formula) (log : List Line) (c : Checked) (rest : List Line) : Type 0 where
  pub formula : c.formula ≡ f
  pub splits : log ≡ c.lines ++ rest
  pub over : IsLogOver f.variables (last_of c) rest
  pub accepted : IsAccepted f c.lines
  pub refusal : first_refusal (held_of f) log ≡ first_refusal (held_now c) rest

module _ (laws : AreGrowthLaws) where
  pub steps_on : (f : Formula) (log rest : List Line) (c new : Checked) (line : Line) → Stands f log c rest
      → 0 < length rest → line ≡ get_or rest 0 line
      → outcome_of (held_now c) line ≡ Accepted → new ≡ record { formula = c.formula; lines = c.lines ++ line ∷ [] }
      → Stands f log new (take (length rest - 1) (drop 1 rest))
  steps_on f log [] c new line s h l o e = absurd (omega arith)
  steps_on f log (x ∷ xs) c new line s h l o e =
      let tail : take (suc (length xs) - 1) xs ≡ xs = take_all xs (suc (length xs) - 1) (omega arith) in
      let lines : c.lines ++ x ∷ [] ≡ new.lines = ap (λ (k : Line). c.lines ++ k ∷ []) (sym l)
      ∙ sym (ap (λ (c : Checked). c.lines) e) in
      let last : last_id (last_of c) (x ∷ []) ≡ last_of new =
      ap (λ (k : Line). last_id (last_of c) (k ∷ [])) (sym l)
      ∙ sym (laws.last (length c.formula.clauses) c.lines line) ∙ sym (ap last_of e) in
      let held : after_line (held_now c) x ≡ held_now new =
      ap (after_line (held_now c)) (sym l) ∙ sym (laws.held (held_of c.formula) c.lines line) ∙ sym (ap held_now e) in
      let fit : IsFit f.variables (last_of c) line = subst (IsFit f.variables (last_of c)) (sym l)
      (is_fit f.variables (last_of c) x s.over.0) in
      let fit_here : IsFit f.variables (last_id (length f.clauses) c.lines) line = subst
      (λ (g : Formula). IsFit f.variables (last_id (length g.clauses) c.lines) line) s.formula fit in
      let outcome : outcome_of (after_lines (held_of f) c.lines) line
      ≡ Accepted = subst (λ (g : Formula). outcome_of (after_lines (held_of g) c.lines) line
      ≡ Accepted) s.formula o in
      record {
        formula = ap (λ (c : Checked). c.formula) e ∙ s.formula;
        splits = s.splits ∙ sym (append_assoc c.lines (x ∷ []) xs) ∙ (λ i. lines i ++ sym tail i);
        over = subst (IsLogOver f.variables (last_of new)) (sym tail)
            (subst (λ (n : ℕ). IsLogOver f.variables n xs) last s.over.1);
        refusal = s.refusal ∙ goes_on (held_now c) x xs (subst
            (λ (k : Line). outcome_of (held_now c) k ≡ Accepted) l o) ∙ (λ i. first_refusal (held i) (sym tail i));
        accepted = subst (IsAccepted f) (sym (ap (λ (c : Checked). c.lines) e))
            (laws.accepted f.variables (held_of f) (length f.clauses) c.lines line s.accepted fit_here outcome);
      }

  -- the same where the line is taken off the rest
  pub steps_off : (f : Formula) (log rest left : List Line) (c new : Checked) (line : Line) → Stands f log c rest
      → rest ≡ line ∷ left
      → outcome_of (held_now c) line ≡ Accepted → new ≡ record { formula = c.formula; lines = c.lines ++ line ∷ [] }
      → Stands f log new left
  steps_off f log rest left c new line s is o e =
      let here : Stands f log c (line ∷ left) = subst (Stands f log c) is s in
      let tail : take (suc (length left) - 1) left ≡ left = take_all left (suc (length left) - 1) (omega arith) in
      subst (Stands f log new) tail (steps_on f log (line ∷ left) c new line here (omega arith) refl o e)

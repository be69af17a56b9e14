-- What a log that is accepted shows about truth values.
use Rattle.std.proofs.Common.{◌≡◌, ℕ, ◌-◌, ◌⊎◌, eqb, not, Bool, true, false, cond, List, [], ◌∷◌, refl, arith, inl}
use Rattle.std.proofs.Common.{inr, subst, Option, Some, None, length, slice_get}
use Rattle.std.proofs.lemmas.Grind.{common_steps}
use Rattle.cnf_base.specs.declared.cnf.Entry.{Entry}
use Rattle.cnf_base.specs.declared.cnf.Entry.TheVariants.{Clause, True}
use Rattle.lrat_log.specs.declared.line.Line.{Line}
use Rattle.lrat_log.specs.declared.line.Line.TheVariants.{Add, Delete}
use Rattle.lrat_log.specs.declared.outcome.Effect.{Effect}
use Rattle.lrat_log.specs.declared.outcome.Effect.TheVariants.{Unknown, Falsified, Sets, Useless}
use Rattle.lrat_log.specs.declared.outcome.Outcome.{Outcome}
use Rattle.lrat_log.specs.declared.outcome.Outcome.TheVariants.{Accepted}
use Rattle.cnf_base.specs.Literals.{opposite, is_true, member}
use Rattle.cnf_base.specs.Clauses.{has_opposites, SatisfiesClause, SatisfiesEntry}
use Rattle.cnf_base.specs.Formulas.{Formula, Satisfies, IsUnsatisfiable}
use Rattle.lrat_log.specs.Held.{Held, SatisfiesHeld, added_entry, held_of, with_entry, without, after_line, after_lines}
use Rattle.lrat_log.specs.Accepted.{also, all_false, all_but, effect_of_clause, effect_of_entry, by_effect}
use Rattle.lrat_log.specs.Accepted.{outcome_of_hints, outcome_of_addition, outcome_of, IsAcceptedFrom, IsAccepted}
use Rattle.lrat_log.specs.Accepted.{adds_empty}

-- a literal is true where its opposite is false
module _ (is_true-opposite : (v : ℕ → Bool) (l : ℕ) → is_true v (opposite l) ≡ not (is_true v l)) where
  -- each literal that is set is true
  abbrev pub Makes : (ℕ → Bool) → (ℕ → Bool) → Type 0
  Makes v set = (l : ℕ) → set l ≡ true → is_true v l ≡ true

  false_of_set : (v set : ℕ → Bool) (l : ℕ) → Makes v set → set (opposite l) ≡ true → is_true v l ≡ false
  false_of_set v set l m h = grind (arith, common_steps, m (opposite l) h, is_true-opposite v l)

  -- what an effect says of the first literal
  pub cons_falsified : (b p q : Bool) (e : Effect) (x : ℕ)
      → cond b e (cond p Useless (cond q (Sets x) Useless)) ≡ Falsified
      → (b ≡ true) × (e ≡ Falsified)
  cons_falsified true p q e x h = (refl, h)
  cons_falsified false true q e x h = absurd (cc)
  cons_falsified false false true e x h = absurd (cc)
  cons_falsified false false false e x h = absurd (cc)

  pub cons_sets : (b p q : Bool) (e : Effect) (x y : ℕ) → cond b e (cond p Useless (cond q (Sets x) Useless)) ≡ Sets y
      → ((b ≡ true) × (e ≡ Sets y)) ⊎ ((b ≡ false) × (p ≡ false) × (q ≡ true) × (x ≡ y))
  cons_sets true p q e x y h = inl (refl, h)
  cons_sets false true q e x y h = absurd (cc)
  cons_sets false false true e x y h = inr (refl, refl, refl, cc)
  cons_sets false false false e x y h = absurd (cc)

  none_true : (v set : ℕ → Bool) (c : List ℕ) → Makes v set → effect_of_clause set c ≡ Falsified
      → (l : ℕ) → member l c ≡ true → is_true v l ≡ false
  none_true v set [] m e l h = absurd (cc)
  none_true v set (x ∷ c) m e l h =
      let i = cons_falsified (set (opposite x)) (set x) (all_but set x c) (effect_of_clause set c) x e in
      let f = false_of_set v set x m i.0 in
      let r = none_true v set c m i.1 l in
      grind (arith, common_steps, r, f, h)

  others_false : (v set : ℕ → Bool) (x : ℕ) (c : List ℕ) → Makes v set → all_but set x c ≡ true
      → (l : ℕ) → member l c ≡ true → is_true v l ≡ true → l ≡ x
  others_false v set x [] m e l h t = absurd (cc)
  others_false v set x (y ∷ c) m e l h t =
      let r = λ (k : all_but set x c ≡ true) (k2 : member l c ≡ true). others_false v set x c m k l k2 t in
      let f = false_of_set v set y m in
      grind (arith, common_steps, r, f, h, e, t)

  set_is_true : (v set : ℕ → Bool) (c : List ℕ) (x : ℕ) → Makes v set → effect_of_clause set c ≡ Sets x
      → (l : ℕ) → member l c ≡ true → is_true v l ≡ true → is_true v x ≡ true
  set_is_true v set [] x m e l h t = absurd (cc)
  set_is_true v set (y ∷ c) x m e l h t =
      at (cons_sets (set (opposite y)) (set y) (all_but set y c) (effect_of_clause set c) y x e)
      (λ k. set_is_true v set c x m k l)
    where
      at : ((set (opposite y) ≡ true) × (effect_of_clause set c ≡ Sets x)) ⊎
          ((set (opposite y) ≡ false) × (set y ≡ false) × (all_but set y c ≡ true) × (y ≡ x))
          → ((effect_of_clause set c ≡ Sets x) → member l c ≡ true → is_true v l ≡ true → is_true v x ≡ true)
          → is_true v x ≡ true
      at (inl w) r =
          let f = false_of_set v set y m w.0 in
          let r2 = λ (k : member l c ≡ true). r w.1 k t in
          grind (arith, common_steps, f, r2, h, t)
      at (inr w) r =
          let o = λ (k : member l c ≡ true). others_false v set y c m w.2 l k t in
          grind (arith, common_steps, o, w.3, h, t)

  also_makes : (v set : ℕ → Bool) (x : ℕ) → Makes v set → is_true v x ≡ true → Makes v (also set x)
  also_makes v set x m t l h = grind (arith, common_steps, m l, t, h)

  -- what the first hint does
  by_effect_accepted : (e : Effect) (next : ℕ → Outcome) → by_effect e next ≡ Accepted
      → (e ≡ Falsified) ⊎ ((l : ℕ) × (e ≡ Sets l) × (next l ≡ Accepted))
  by_effect_accepted Unknown next h = absurd (cc)
  by_effect_accepted Falsified next h = inl refl
  by_effect_accepted (Sets l) next h = inr (l, refl, h)
  by_effect_accepted Useless next h = absurd (cc)

  entry_falsified : (v set : ℕ → Bool) (o : Option Entry) → Makes v set
      → ((e : Entry) → o ≡ Some e → SatisfiesEntry v e)
      → effect_of_entry set o ≡ Falsified → ⊥
  entry_falsified v set None m s h = absurd (cc)
  entry_falsified v set (Some True) m s h = absurd (cc)
  entry_falsified v set (Some (Clause c)) m s h =
      let w = s (Clause c) refl in
      let n = none_true v set c m h w.0 w.1 in
      absurd (cc)

  entry_sets : (v set : ℕ → Bool) (o : Option Entry) (l : ℕ) → Makes v set
      → ((e : Entry) → o ≡ Some e → SatisfiesEntry v e)
      → effect_of_entry set o ≡ Sets l → is_true v l ≡ true
  entry_sets v set None l m s h = absurd (cc)
  entry_sets v set (Some True) l m s h = absurd (cc)
  entry_sets v set (Some (Clause c)) l m s h =
      let w = s (Clause c) refl in
      set_is_true v set c l m h w.0 w.1 w.2

  -- hints that end in a conflict leave no truth values that satisfy the held clauses and make the set literals true
  pub hints_refute : (v : ℕ → Bool) (held : Held) → SatisfiesHeld v held → (hs : List ℕ) (set : ℕ → Bool) → Makes v set
      → outcome_of_hints held hs set ≡ Accepted → ⊥
  hints_refute v held s [] set m h = absurd (cc)
  hints_refute v held s (k ∷ hs) set m h =
      at (by_effect_accepted (effect_of_entry set (held k)) (λ l. outcome_of_hints held hs (also set l)) h)
      (λ t. hints_refute v held s hs t)
    where
      at : (effect_of_entry set (held k) ≡ Falsified) ⊎
          ((l : ℕ) × (effect_of_entry set (held k) ≡ Sets l) × (outcome_of_hints held hs (also set l) ≡ Accepted))
          → ((t : ℕ → Bool) → Makes v t → outcome_of_hints held hs t ≡ Accepted → ⊥) → ⊥
      at (inl e) r = entry_falsified v set (held k) m (s k) e
      at (inr (l, e, g)) r = r (also set l) (also_makes v set l m (entry_sets v set (held k) l m (s k) e)) g

  -- either some literal of a clause is true, or every literal is false
  some_or_none : (v : ℕ → Bool) (ls : List ℕ)
      → SatisfiesClause v ls ⊎ ((l : ℕ) → member l ls ≡ true → is_true v l ≡ false)
  some_or_none v [] = inr (λ l h. absurd (cc))
  some_or_none v (x ∷ ls) = at (is_true v x) refl (some_or_none v ls)
    where
      at : (b : Bool) → is_true v x ≡ b → SatisfiesClause v ls ⊎ ((l : ℕ) → member l ls ≡ true → is_true v l ≡ false)
          → SatisfiesClause v (x ∷ ls) ⊎ ((l : ℕ) → member l (x ∷ ls) ≡ true → is_true v l ≡ false)
      at true e r = inl (x, grind (arith, common_steps), e)
      at false e (inl w) = inl (w.0, grind (arith, common_steps, w.1), w.2)
      at false e (inr f) = inr (λ l h. grind (arith, common_steps, f l, e, h))

  all_false_makes : (v : ℕ → Bool) (ls : List ℕ) → ((l : ℕ) → member l ls ≡ true → is_true v l ≡ false)
      → Makes v (all_false ls)
  all_false_makes v ls f l h = grind (arith, common_steps, f (opposite l) h, is_true-opposite v l)

  -- a clause with opposite literals is satisfied in any case
  opposites_satisfied : (v : ℕ → Bool) (ls : List ℕ) → has_opposites ls ≡ true → SatisfiesClause v ls
  opposites_satisfied v [] h = absurd (cc)
  opposites_satisfied v (l ∷ ls) h = at (member (opposite l) ls) refl (λ g. opposites_satisfied v ls g)
    where
      by_value : (b : Bool) → is_true v l ≡ b → member (opposite l) ls ≡ true → SatisfiesClause v (l ∷ ls)
      by_value true e m = (l, grind (arith, common_steps), e)
      by_value false e m = (
        opposite l,
        grind (arith, common_steps, m),
        grind
            (arith, common_steps, is_true-opposite v l, e),
      )

      at : (b : Bool) → member (opposite l) ls ≡ b → (has_opposites ls ≡ true → SatisfiesClause v ls)
          → SatisfiesClause v (l ∷ ls)
      at true e r = by_value (is_true v l) refl e
      at false e r = let w = r (grind (arith, common_steps, e, h)) in (w.0, grind (arith, common_steps, w.1), w.2)

  -- an accepted addition is satisfied by each truth values that satisfy the held clauses
  pub addition_follows : (v : ℕ → Bool) (held : Held) (ls hints : List ℕ) → SatisfiesHeld v held
      → outcome_of_addition held ls hints ≡ Accepted → SatisfiesClause v ls
  addition_follows v held ls hints s h = at (has_opposites ls) refl (some_or_none v ls) h
    where
      at : (b : Bool) → has_opposites ls ≡ b
          → SatisfiesClause v ls ⊎ ((l : ℕ) → member l ls ≡ true → is_true v l ≡ false)
          → cond b Accepted (outcome_of_hints held hints (all_false ls)) ≡ Accepted → SatisfiesClause v ls
      at true o w e = opposites_satisfied v ls o
      at false o (inl w) e = w
      at false o (inr f) e = absurd (hints_refute v held s hints (all_false ls) (all_false_makes v ls f) e)

  added_satisfied : (v : ℕ → Bool) (ls : List ℕ) → SatisfiesClause v ls → SatisfiesEntry v (added_entry ls)
  added_satisfied v ls s = at (has_opposites ls)
    where
      at : (b : Bool) → SatisfiesEntry v (cond b True (Clause ls))
      at true = tt
      at false = s

  addition_kept : (v : ℕ → Bool) (held : Held) (id : ℕ) (ls : List ℕ) → SatisfiesHeld v held
      → SatisfiesEntry v (added_entry ls)
      → SatisfiesHeld v (with_entry held id (added_entry ls))
  addition_kept v held id ls s t k e h = at (eqb k id) h
    where
      at : (b : Bool) → cond b (Some (added_entry ls)) (held k) ≡ Some e → SatisfiesEntry v e
      at true g = let same : added_entry ls ≡ e = cc in subst (SatisfiesEntry v) same t
      at false g = s k e g

  deletion_kept : (v : ℕ → Bool) (held : Held) (ids : List ℕ) → SatisfiesHeld v held
      → SatisfiesHeld v (without held ids)
  deletion_kept v held ids s k e h = at (member k ids) h
    where
      at : (b : Bool) → cond b None (held k) ≡ Some e → SatisfiesEntry v e
      at true g = absurd (cc)
      at false g = s k e g

  pub line_kept : (v : ℕ → Bool) (held : Held) (line : Line) → SatisfiesHeld v held → outcome_of held line ≡ Accepted
      → SatisfiesHeld v (after_line held line)
  line_kept v held (Add id ls hints) s h = addition_kept v held id ls s
      (added_satisfied v ls (addition_follows v held ls hints s h))
  line_kept v held (Delete id ids) s h = deletion_kept v held ids s

  -- truth values that satisfy what is held before the lines satisfy what is held after them
  pub lines_kept : (v : ℕ → Bool) (n : ℕ) (held : Held) (last : ℕ) (lines : List Line) → SatisfiesHeld v held
      → IsAcceptedFrom n held last lines → SatisfiesHeld v (after_lines held lines)
  lines_kept v n held last [] s a = s
  lines_kept v n held last (Add id ls hints ∷ lines) s a =
      lines_kept v n (after_line held (Add id ls hints)) id lines (line_kept v held (Add id ls hints) s a.1) a.2
  lines_kept v n held last (Delete id ids ∷ lines) s a =
      lines_kept v n (after_line held (Delete id ids)) last lines (line_kept v held (Delete id ids) s a.1) a.2

  -- no truth values satisfy what is held where an empty addition is accepted
  pub lines_refute : (v : ℕ → Bool) (n : ℕ) (held : Held) (last : ℕ) (lines : List Line) → SatisfiesHeld v held
      → IsAcceptedFrom n held last lines → adds_empty lines ≡ true → ⊥
  lines_refute v n held last [] s a e = absurd (cc)
  lines_refute v n held last (Add id [] hints ∷ lines) s a e =
      let w = addition_follows v held [] hints s a.1 in
      let h = w.1 in
      absurd (cc)
  lines_refute v n held last (Add id (l ∷ ls) hints ∷ lines) s a e =
      lines_refute v n (after_line held (Add id (l ∷ ls) hints)) id lines
      (line_kept v held (Add id (l ∷ ls) hints) s a.1) a.2 e
  lines_refute v n held last (Delete id ids ∷ lines) s a e =
      lines_refute v n (after_line held (Delete id ids)) last lines (line_kept v held (Delete id ids) s a.1) a.2 e

  satisfies_held : (v : ℕ → Bool) (f : Formula) → Satisfies v f → SatisfiesHeld v (held_of f)
  satisfies_held v f s id e h = at (eqb id 0) h
    where
      at : (b : Bool) → cond b None (slice_get f.clauses (id - 1)) ≡ Some e → SatisfiesEntry v e
      at true g = absurd (cc)
      at false g = s (id - 1) e g

  -- an accepted log with an empty addition: no truth values satisfy the formula
  pub refuted_is_unsatisfiable : (f : Formula) (lines : List Line) → IsAccepted f lines → adds_empty lines ≡ true
      → IsUnsatisfiable f
  refuted_is_unsatisfiable f lines a e v s =
      lines_refute v f.variables (held_of f) (length f.clauses) lines (satisfies_held v f s) a e

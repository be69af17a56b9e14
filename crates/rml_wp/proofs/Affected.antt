-- In a structure that satisfies the axioms, those in which a changed symbol does not occur stay true, so nothing
-- changes where they are no premises.
use Rattle.std.proofs.Common.{◌≡◌, ℕ, zero, suc, ◌<◌, Bool, true, false, not, ◌&&◌, ◌||◌, cond, List, [], ◌∷◌, ◌++◌}
use Rattle.std.proofs.Common.{refl}
use Rattle.std.proofs.Common.{sym, ap, ◌∙◌, subst, arith}
use Rattle.std.specs.List.{AllByRecursion}
use Rattle.fol_sig.specs.Tables.{Tables, reading, size_at}
use Rattle.fol_sig.specs.Symbols.{Symbols, FitsStructure}
use Rattle.fol_sig.specs.Updates.{UpdatesRelation, UpdatesFunction, with_function}
use Rattle.fol_formula.specs.Syntax.{FormTree, TermTree, negation}
use Rattle.fol_formula.specs.Truth.{truth, value, all_below}
use Rattle.fol_formula.specs.Fits.{FitsForm}
use Rattle.fol_subst.specs.Replace.{change_const, changed_form}
use Rattle.fol_occurs.specs.Occurs.{Named, the_rel, the_fun, form_mentions}
use Rattle.fol_occurs.specs.Laws.{AreReadAlikeAt, TruthReadsOccurring}
use Rattle.rml_command.specs.Trees.{PrimitiveTree, assume, set_rel, set_fun, havoc, havoc_rel, abort}
use Rattle.fol_formula.specs.Sentences.{is_true, satisfies, all_of}
use Rattle.rml_command.specs.Outcomes.{set_relation, set_function, set_variable, range_of}
use Rattle.rml_command.specs.Models.{FitsPath}
use Rattle.rml_command.specs.Laws.{UpdatesKeepSymbols}
use Rattle.rml_command.specs.declared.goal.Stage.{Stage}
use Rattle.rml_command.specs.declared.goal.Stage.TheVariants as stage
use Rattle.rml_wp.specs.declared.premises.Premises.{Premises}
use Rattle.rml_wp.specs.declared.premises.Premises.TheVariants.{All, Affected}
use Rattle.rml_wp.specs.Preconditions.{mentioning, premises_of, precondition_of, where_lawful, parts_before}
use Rattle.rml_wp.specs.Laws.{AffectedPremisesSuffice}
use Rattle.rml_wp.proofs.SomeAxioms.{each_of}
use Rattle.rml_wp.proofs.StepTruth.{Replaces, lawful-fits, precondition-fits, truth-set_rel, truth-set_fun, truth-havoc}

-- what the crates below promise of updates and of what occurs
pub record Spares : Type 0 where
  pub reads : TruthReadsOccurring
  pub relations : (s : Tables) (r : ℕ) (f : List ℕ → Bool) → UpdatesRelation s r f
  pub functions : (s : Tables) (g : ℕ) (f : List ℕ → ℕ) → UpdatesFunction s g f

-- the first structure is read as the second but for one symbol
abbrev IsAlikeBut : Tables → Tables → Named → Type 0
IsAlikeBut a b x = (among : Named → Bool) → among x ≡ false → AreReadAlikeAt among (reading a) (reading b)

but_relation : Spares → (s : Tables) (r : ℕ) (by : FormTree) → IsAlikeBut (set_relation s r by) s (the_rel r)
but_relation laws s r by among none = record {
  size = λ k. refl;
  rel = λ q xs h. (laws.relations s r (λ tuple. truth (reading s) by tuple)).others q xs
      (λ e. let z : among (the_rel r) ≡ true = subst (λ i. among (the_rel i) ≡ true) e h in absurd (cc (z, none)));
  fun = λ f xs h. refl;
}

but_function : Spares → (s : Tables) (g : ℕ) (f : List ℕ → ℕ)
    → (among : Named → Bool) → among (the_fun g) ≡ false
    → AreReadAlikeAt among (reading (with_function s g f)) (reading s)
but_function laws s g f among none = record {
  size = λ k. refl;
  rel = λ q xs h. refl;
  fun = λ q xs h. (laws.functions s g f).others q xs
      (λ e. let z : among (the_fun g) ≡ true = subst (λ i. among (the_fun i) ≡ true) e h in absurd (cc (z, none)));
}

both_parts : (a b : Bool) → (a && b) ≡ true → (a ≡ true) × (b ≡ true)
both_parts true b e = (refl, e)
both_parts false b e = absurd (cc e)

one_spared : TruthReadsOccurring → (a b : Tables) (x : Named) → IsAlikeBut a b x → (p : FormTree) (ps : List FormTree)
    (m : Bool) → form_mentions x p ≡ m → is_true b p ≡ true → satisfies a (mentioning x ps) ≡ satisfies a ps
    → satisfies a (cond m (p ∷ mentioning x ps) (mentioning x ps)) ≡ satisfies a (p ∷ ps)
one_spared reads a b x alike p ps true h e rest = ap (λ z. is_true a p && z) rest
one_spared reads a b x alike p ps false h e rest =
    let stays : is_true a p ≡ is_true b p =
    reads (reading a) (reading b) p [] (alike (λ y. form_mentions y p) h) in
    let holds : is_true a p ≡ true = stays ∙ e in
    rest ∙ ap (λ z. z && satisfies a ps) (sym holds)

-- the axioms that were true stay true, but for those in which the symbol occurs
spared : TruthReadsOccurring → (a b : Tables) (x : Named) → IsAlikeBut a b x → (axioms : List FormTree)
    → satisfies b axioms ≡ true → satisfies a (mentioning x axioms) ≡ satisfies a axioms
spared reads a b x alike [] e = refl
spared reads a b x alike (p ∷ ps) e =
    one_spared reads a b x alike p ps (form_mentions x p) refl (both_parts (is_true b p) (satisfies b ps) e).0
    (spared reads a b x alike ps (both_parts (is_true b p) (satisfies b ps) e).1)

-- behind a step from a structure that satisfies the axioms, all are true where the premises are
pub record AreEnough (sig : Symbols) (axioms : List FormTree) (behind : PrimitiveTree → List FormTree) : Type 0 where
  pub relation : (s : Tables) (r : ℕ) (by : FormTree) → satisfies s axioms ≡ true
      → satisfies (set_relation s r by) (behind (set_rel r by)) ≡ satisfies (set_relation s r by) axioms
  pub function : (s : Tables) (g : ℕ) (by : TermTree) → satisfies s axioms ≡ true
      → satisfies (set_function s g by) (behind (set_fun g by)) ≡ satisfies (set_function s g by) axioms
  pub variable : (s : Tables) (v x : ℕ) → satisfies s axioms ≡ true
      → satisfies (set_variable s v x) (behind (havoc v)) ≡ satisfies (set_variable s v x) axioms

pub are_enough : Spares → (sig : Symbols) (premises : Premises) (axioms : List FormTree)
    → AreEnough sig axioms (premises_of premises axioms)
are_enough laws sig All axioms =
    record { relation = λ s r by e. refl; function = λ s g by e. refl; variable = λ s v x e. refl }
are_enough laws sig Affected axioms = record {
  relation = λ s r by e. spared laws.reads (set_relation s r by) s (the_rel r) (but_relation laws s r by) axioms e;
  function = λ s g by e. spared laws.reads (set_function s g by) s (the_fun g)
      (but_function laws s g (λ tuple. value (reading s) by tuple)) axioms e;
  variable = λ s v x e. spared laws.reads (set_variable s v x) s (the_fun v) (but_function laws s v (λ tuple. x)) axioms
      e;
}

-- an implication whose premise and, under it, whose conclusion are the same
under_same : (a b x y : Bool) → a ≡ b → (b ≡ true → x ≡ y) → (not a || x) ≡ (not b || y)
under_same true true x y e h = h refl
under_same true false x y e h = absurd (cc e)
under_same false true x y e h = absurd (cc e)
under_same false false x y e h = refl

below_same : (n : ℕ) (p q : ℕ → Bool) → ((x : ℕ) → x < n → p x ≡ q x) → all_below n p ≡ all_below n q
below_same zero p q h = refl
below_same (suc n) p q h =
    let i = below_same n p q (λ x lt. h x (omega (arith, lt))) in let j = h n (omega arith) in cc (i, j)

module _ (spares : Spares) (laws : Replaces) (keep : UpdatesKeepSymbols) (sig : Symbols) (axioms : List FormTree)
    (target : FormTree) (axioms_fit : AllByRecursion (FitsForm sig []) axioms) (target_fits : FitsForm sig [] target)
  where
    abbrev pre : Premises → List PrimitiveTree → FormTree
    pre premises qs = precondition_of sig (premises_of premises axioms) target qs

    abbrev lawful : Premises → PrimitiveTree → List PrimitiveTree → FormTree
    lawful premises q qs = where_lawful (premises_of premises axioms q) (pre premises qs)

    abbrev fit : (premises : Premises) (q : PrimitiveTree) → AllByRecursion (FitsForm sig [])
        (premises_of premises axioms q)
    fit premises q = each_of (FitsForm sig []) premises axioms axioms_fit q

    lawful_fits : (premises : Premises) (q : PrimitiveTree) (qs : List PrimitiveTree) → FitsPath sig qs
        → FitsForm sig [] (lawful premises q qs)
    lawful_fits premises q qs f =
        lawful-fits sig (premises_of premises axioms q) (pre premises qs) (fit premises q)
        (precondition-fits laws sig (premises_of premises axioms) target qs (fit premises) target_fits f)

    enough : AreEnough sig axioms (premises_of Affected axioms)
    enough = are_enough spares sig Affected axioms

    pub same : (p : List PrimitiveTree) (s : Tables) → FitsPath sig p → FitsStructure sig s → satisfies s axioms ≡ true
        → is_true s (pre Affected p) ≡ is_true s (pre All p)
    same [] s f fits e = refl
    same (assume p ∷ qs) s f fits e = ap (λ z. not (is_true s p) || z) (same qs s f.1 fits e)
    same (set_rel r by ∷ qs) s f fits e =
        let new = set_relation s r by in
        truth-set_rel laws sig s fits r by (lawful Affected (set_rel r by) qs) f.0
        (lawful_fits Affected (set_rel r by) qs f.1)
        ∙ under_same (satisfies new (premises_of Affected axioms (set_rel r by))) (satisfies new axioms)
        (is_true new (pre Affected qs)) (is_true new (pre All qs)) (enough.relation s r by e)
        (λ h. same qs new f.1 (keep.relation sig s r by f.0 fits) h)
        ∙ sym (truth-set_rel laws sig s fits r by (lawful All (set_rel r by) qs) f.0
        (lawful_fits All (set_rel r by) qs f.1))
    same (set_fun g by ∷ qs) s f fits e =
        let new = set_function s g by in
        truth-set_fun laws sig s fits g by (lawful Affected (set_fun g by) qs) f.0
        (lawful_fits Affected (set_fun g by) qs f.1)
        ∙ under_same (satisfies new (premises_of Affected axioms (set_fun g by))) (satisfies new axioms)
        (is_true new (pre Affected qs)) (is_true new (pre All qs)) (enough.function s g by e)
        (λ h. same qs new f.1 (keep.function sig s g by f.0 fits) h)
        ∙ sym (truth-set_fun laws sig s fits g by (lawful All (set_fun g by) qs) f.0
        (lawful_fits All (set_fun g by) qs f.1))
    same (havoc v ∷ qs) s f fits e =
        below_same (size_at s (sig.into_of v))
        (λ y. truth (reading s) (changed_form (change_const v 0) 0 (lawful Affected (havoc v) qs)) (y ∷ []))
        (λ y. truth (reading s) (changed_form (change_const v 0) 0 (lawful All (havoc v) qs)) (y ∷ []))
        (λ x below.
        let lt : x < range_of s v = subst (λ k. x < size_at s k) (fits.into_of v f.0.0) below in
        let new = set_variable s v x in
        truth-havoc laws sig s fits v x (lawful Affected (havoc v) qs) f.0 (lawful_fits Affected (havoc v) qs f.1) lt
        ∙ under_same (satisfies new (premises_of Affected axioms (havoc v))) (satisfies new axioms)
        (is_true new (pre Affected qs)) (is_true new (pre All qs)) (enough.variable s v x e)
        (λ h. same qs new f.1 (keep.variable sig s v x f.0 lt fits) h)
        ∙ sym (truth-havoc laws sig s fits v x (lawful All (havoc v) qs) f.0 (lawful_fits All (havoc v) qs f.1) lt))
    same (havoc_rel r ∷ qs) s f fits e = refl
    same (abort ∷ qs) s f fits e = refl

pub affected_suffice : Spares → Replaces → UpdatesKeepSymbols → AffectedPremisesSuffice
affected_suffice spares laws keep sig axioms target p s a t f fits e =
    same spares laws keep sig axioms target a t p s f fits e

-- the axioms stand at the front of the sentence
under_and : (a x y : Bool) → (a ≡ true → x ≡ y) → (a && x) ≡ (a && y)
under_and true x y h = h refl
under_and false x y h = refl

pub starts_same : (st : Stage) (s : Tables) (a i n k : FormTree)
    → (is_true s a ≡ true → is_true s n ≡ is_true s k)
    → is_true s (all_of (parts_before st a i ++ negation n ∷ []))
    ≡ is_true s (all_of (parts_before st a i ++ negation k ∷ []))
starts_same stage.Init s a i n k h =
    under_and (is_true s a) (not (is_true s n) && true) (not (is_true s k) && true) (λ e. ap (λ z. not z && true) (h e))
starts_same (stage.Action _) s a i n k h =
    under_and (is_true s a) (is_true s i && (not (is_true s n) && true)) (is_true s i && (not (is_true s k) && true))
    (λ e. ap (λ z. is_true s i && (not z && true)) (h e))
starts_same stage.Final s a i n k h =
    under_and (is_true s a) (is_true s i && (not (is_true s n) && true)) (is_true s i && (not (is_true s k) && true))
    (λ e. ap (λ z. is_true s i && (not z && true)) (h e))

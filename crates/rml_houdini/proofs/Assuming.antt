-- What a refuting sentence with little assumed says of its goal.
use Rattle.std.proofs.Common.{◌≡◌, ℕ, Bool, true, false, List, [], ◌∷◌, ◌++◌, map, refl, sym, ap, ◌∙◌, subst}
use Rattle.std.specs.Prelude.{slice_index_or}
use Rattle.std.proofs.lemmas.Bool.{and_parts}
use Rattle.fol_sig.specs.Tables.{Declared, Tables, IsSignature}
use Rattle.fol_sig.specs.Strata.{IsStrata}
use Rattle.fol_sig.specs.Symbols.{Symbols, FitsStructure, symbols}
use Rattle.fol_sig.specs.Constants.{reduct}
use Rattle.fol_formula.specs.Syntax.{FormTree, top, negation}
use Rattle.fol_formula.specs.Fits.{FitsForm}
use Rattle.fol_formula.specs.Fragments.{IsEa}
use Rattle.fol_nnf.specs.Normal.{normal}
use Rattle.fol_nnf.specs.Laws.{FittingIsKept}
use Rattle.skolem.specs.Laws.{EachIsSkolemised, IsModel}
use Rattle.ground_size.specs.Counting.{skolem_signature}
use Rattle.rml_command.specs.Models.{ModelTree, FitsModel}
use Rattle.rml_command.specs.Fragment.{IsChecked}
use Rattle.fol_formula.specs.Sentences.{all_of, is_true}
use Rattle.rml_command.specs.Goals.{IsGoal}
use Rattle.rml_command.specs.declared.goal.Goal.{Goal}
use Rattle.rml_command.specs.declared.goal.Stage.{Stage}
use Rattle.rml_command.specs.declared.goal.Stage.TheVariants as stage
use Rattle.rml_wp.specs.declared.premises.Premises.TheVariants.{Affected}
use Rattle.rml_wp.specs.Preconditions.{answered, goal_precondition, parts_before, refuting}
use Rattle.rml_command.specs.InductiveSets.{conjectures_of}
use Rattle.rml_wp.specs.Answered.{IsAnswered, CounterexamplesAreCuts}
use Rattle.rml_wp.specs.Added.{AreAdded, refuting_where, RefutingSentencesFit, NoPartsAreAdded}
use Rattle.ea_decide.specs.GroundForm.{skolem_sentence}
use Rattle.ea_decide.specs.Decisions.{HasNoModel}
use Rattle.limits.specs.Ceilings.{Ceilings}
use Rattle.ea_decide.specs.declared.decided.Decided.{Decided}
use Rattle.pruned_decide.specs.Decisions.{IsDecidedSmall}
use Rattle.rml_command.specs.Goals.{HasNone}
use Rattle.rml_houdini.specs.Assuming.{lawful_parts, held_parts, assumed_sentence}
use Rattle.rml_houdini.specs.declared.assumed.Assumed.{Assumed}

-- the parts of the whole sentence, and those of which something is assumed
abbrev whole : Stage → List FormTree → List FormTree → FormTree → FormTree
whole st axioms held p = all_of (parts_before st (all_of axioms) (all_of held) ++ negation p ∷ [])

abbrev part : Bool → Stage → List FormTree → List FormTree → FormTree → FormTree
part b st axioms held p = all_of (lawful_parts b axioms ++ held_parts st held ++ negation p ∷ [])

-- what satisfies the whole satisfies the part
part-true : (s : Tables) (b : Bool) (st : Stage) (axioms held : List FormTree) (p : FormTree)
    → is_true s (whole st axioms held p) ≡ true → is_true s (part b st axioms held p) ≡ true
part-true s true stage.Init axioms held p h = h
part-true s true (stage.Action a) axioms held p h = h
part-true s true stage.Final axioms held p h = h
part-true s false stage.Init axioms held p h = (and_parts _ _ h).1
part-true s false (stage.Action a) axioms held p h = (and_parts _ _ h).1
part-true s false stage.Final axioms held p h = (and_parts _ _ h).1

part-ea : (b : Bool) (st : Stage) (axioms held : List FormTree) (p : FormTree) → IsEa (whole st axioms held p)
    → IsEa (part b st axioms held p)
part-ea true stage.Init axioms held p h = h
part-ea true (stage.Action a) axioms held p h = h
part-ea true stage.Final axioms held p h = h
part-ea false stage.Init axioms held p h = (h.0.1, h.1.1)
part-ea false (stage.Action a) axioms held p h = (h.0.1, h.1.1)
part-ea false stage.Final axioms held p h = (h.0.1, h.1.1)

part-fits : (sig : Symbols) (b : Bool) (st : Stage) (axioms held : List FormTree) (p : FormTree)
    → FitsForm sig [] (whole st axioms held p) → FitsForm sig [] (part b st axioms held p)
part-fits sig true stage.Init axioms held p h = h
part-fits sig true (stage.Action a) axioms held p h = h
part-fits sig true stage.Final axioms held p h = h
part-fits sig false stage.Init axioms held p h = h.1
part-fits sig false (stage.Action a) axioms held p h = h.1
part-fits sig false stage.Final axioms held p h = h.1

-- with the axioms the part is the whole
part-whole : (b : Bool) (st : Stage) (axioms held : List FormTree) (p : FormTree) → b ≡ true
    → part b st axioms held p ≡ whole st axioms held p
part-whole true stage.Init axioms held p is = refl
part-whole true (stage.Action a) axioms held p is = refl
part-whole true stage.Final axioms held p is = refl
part-whole false st axioms held p is = absurd (cc is)

-- the signature that a checked model lends is the model's
pub signature_of : (given : Declared) (lent m : ModelTree) → given ≡ lent.signature → lent ≡ m → given ≡ m.signature
signature_of given lent m is same = is ∙ ap (λ (z : ModelTree). z.signature) same

-- the order of a model's sorts is one for the signature over which a goal's sentences are
pub strata_of : (m : ModelTree) (goal : Goal) → IsAnswered m goal → (given : Declared) → given ≡ answered m goal
    → (order : List ℕ) → IsStrata (symbols m.signature) order → IsStrata (symbols given) order
strata_of m goal is given same order h =
    subst (λ (z : Declared). IsStrata (symbols z) order) (sym same) (is.strata order h)

-- what is answered of a sentence
pub same_answer : (limits : Ceilings) (given sig : Declared) (p : FormTree) (d e : Decided) → given ≡ sig → d ≡ e
    → IsDecidedSmall limits given p d → IsDecidedSmall limits sig p e
same_answer limits given sig p d e s u h =
    subst (λ (a : Decided). IsDecidedSmall limits sig p a) u
    (subst (λ (z : Declared). IsDecidedSmall limits z p d) s h)

module _ (m : ModelTree) (goal : Goal) (a : Assumed) where
  -- the parts that a model lends
  pub assembled : (lent : ModelTree) (axioms conjectures : List FormTree) (ks : List ℕ) (first both : List FormTree)
      (p q f : FormTree)
      → lent ≡ m → axioms ≡ lent.axioms → conjectures ≡ lent.conjectures → ks ≡ a.held.items
      → first ≡ lawful_parts a.lawful axioms
      → both ≡ first ++ held_parts goal.stage (map (λ k. slice_index_or conjectures k top) ks)
      → p ≡ q → q ≡ goal_precondition Affected m goal → f ≡ all_of (both ++ negation p ∷ [])
      → f ≡ assumed_sentence m a goal
  assembled lent axioms conjectures ks first both p q f same by_axioms by_conjectures of is_first is_both is by all =
      let lawful = by_axioms ∙ ap (λ (z : ModelTree). z.axioms) same in
      let given = by_conjectures ∙ ap (λ (z : ModelTree). z.conjectures) same in
      let held : map (λ k. slice_index_or conjectures k top) ks ≡ conjectures_of m a.held.items =
      ap (λ (cs : List FormTree). map (λ k. slice_index_or cs k top) ks) given ∙ ap (conjectures_of m) of in
      let parts = is_both ∙ ap (λ (ps : List FormTree). ps ++ held_parts goal.stage
      (map (λ k. slice_index_or conjectures k top) ks)) (is_first ∙ ap (lawful_parts a.lawful) lawful)
      ∙ ap (λ (cs : List FormTree). lawful_parts a.lawful m.axioms ++ held_parts goal.stage cs) held in
      all ∙ ap (λ (ps : List FormTree). all_of (ps ++ negation p ∷ [])) parts
      ∙ ap (λ (z : FormTree). all_of (lawful_parts a.lawful m.axioms ++ held_parts goal.stage
      (conjectures_of m a.held.items) ++ negation z ∷ [])) (is ∙ by)

  -- where no structure satisfies it, the goal has no counterexample where these conjectures hold
  pub none_assumed : CounterexamplesAreCuts → FitsModel m → IsSignature m.signature
      → AreAdded m (conjectures_of m a.held.items) [] → IsGoal m goal → (p : FormTree) → p ≡ assumed_sentence m a goal
      → HasNoModel (answered m goal) p → HasNone m (conjectures_of m a.held.items) goal
  none_assumed cuts fits ok added g p is none s havocs values counter =
      let held = conjectures_of m a.held.items in
      let w = cuts Affected m held goal s havocs values fits ok added.universal_fit g counter in
      none w.whole w.fits
      (subst (λ (q : FormTree). is_true w.whole q ≡ true) (sym is)
      (part-true w.whole a.lawful goal.stage m.axioms held (goal_precondition Affected m goal) w.holds))

  module _ (fit : RefutingSentencesFit) (none : NoPartsAreAdded) (checked : IsChecked m)
      (ok : IsSignature m.signature) (g : IsGoal m goal) (added : AreAdded m (conjectures_of m a.held.items) []) where
    pub assumed_ea : IsEa (assumed_sentence m a goal)
    assumed_ea =
        let held = conjectures_of m a.held.items in
        part-ea a.lawful goal.stage m.axioms held (goal_precondition Affected m goal)
        (subst IsEa (none Affected m held goal) (fit Affected m held [] goal checked ok g added).fragment)

    pub assumed_fits : FitsForm (symbols (answered m goal)) [] (assumed_sentence m a goal)
    assumed_fits =
        let held = conjectures_of m a.held.items in
        part-fits (symbols (answered m goal)) a.lawful goal.stage m.axioms held (goal_precondition Affected m goal)
        (subst (λ (q : FormTree). FitsForm (symbols (answered m goal)) [] q) (none Affected m held goal)
        (fit Affected m held [] goal checked ok g added).fits)

  -- with the axioms it is a refuting sentence of the goal
  pub is_whole : a.lawful ≡ true
      → assumed_sentence m a goal ≡ refuting Affected m (conjectures_of m a.held.items) goal
  is_whole lawful =
      part-whole a.lawful goal.stage m.axioms (conjectures_of m a.held.items) (goal_precondition Affected m goal)
      lawful

  pub is_refuting : NoPartsAreAdded → a.lawful ≡ true → (p : FormTree) → p ≡ assumed_sentence m a goal
      → p ≡ refuting_where Affected m (conjectures_of m a.held.items) [] goal
  is_refuting none lawful p is =
      is ∙ is_whole lawful ∙ sym (none Affected m (conjectures_of m a.held.items) goal)

-- without its constants a model of the sentence is a structure of the signature
pub met_fits : FittingIsKept → EachIsSkolemised → (sig : Declared) (p : FormTree) (t : Tables)
    → FitsForm (symbols sig) [] p → IsModel (symbols (skolem_signature sig p)) (skolem_sentence sig p) t
    → FitsStructure (symbols sig) (reduct (symbols sig) t)
met_fits fitting skolem sig p t fits model =
    ((skolem sig (normal true p) (fitting (symbols sig) [] true p fits)).models.without t model).structure

-- What a model of a goal's refuting sentence shows, once its existentials are constants.
use Rattle.std.proofs.Common.{◌≡◌, ℕ, ◌+◌, ◌<◌, ◌^◌, true, List, [], length, get_or, sym, ap, ◌∙◌, subst, arith}
use Rattle.fol_sig.specs.Tables.{Declared, Tables, IsSignature, fun_at}
use Rattle.fol_sig.specs.Symbols.{symbols}
use Rattle.fol_sig.specs.Constants.{reduct}
use Rattle.fol_formula.specs.Syntax.{FormTree}
use Rattle.fol_formula.specs.Counts.{saturated}
use Rattle.fol_formula.specs.Fits.{FitsForm}
use Rattle.fol_formula.specs.Witnesses.{existentials}
use Rattle.fol_nnf.specs.Normal.{normal}
use Rattle.skolem.specs.Laws.{HasConstant, ConstantsAreThere}
use Rattle.rml_command.specs.Models.{ModelTree}
use Rattle.rml_command.specs.Fragment.{IsChecked}
use Rattle.rml_command.specs.Goals.{IsGoal}
use Rattle.rml_command.specs.declared.goal.Goal.{Goal}
use Rattle.rml_wp.specs.declared.premises.Premises.{Premises}
use Rattle.rml_wp.specs.declared.premises.Premises.TheVariants.{All}
use Rattle.rml_wp.specs.Preconditions.{answered}
use Rattle.rml_wp.specs.Laws.{goal_havocs}
use Rattle.rml_wp.specs.Added.{refuting_where, RefutingSentencesFit, NoPartsAreAdded, ConjecturesAreAdded}
use Rattle.rml_wp.specs.Witnesses.{witness_places, values_at}
use Rattle.witness.specs.Laws.{IsRefutingNormal, RefutingNormalsFit, ModelsGiveCounterexamples}
use Rattle.obligation_decide.specs.GoalPassing.{refuting_sentence}
use Rattle.obligation_decide.specs.Restricted.{IsRefutingWith, RefutesAs}
use Rattle.obligation_decide.specs.WithConstants.{constant_sorts, HoldsWithConstants}

-- what is known of refuting sentences
pub record AreRead : Type 0 where
  pub none : NoPartsAreAdded
  pub conjectures : ConjecturesAreAdded
  pub normals : RefutingNormalsFit

-- so many functions stand before the constants of a sentence, and so many constants are counted
pub record AreCounted (sig : Declared) (p : FormTree) (f n : ℕ) : Type 0 where
  pub functions : f ≡ length sig.functions
  pub count : n ≡ saturated (existentials p)
  pub few : length sig.functions + length (constant_sorts p) < 2 ^ 32

-- the refuting sentence has no further parts
pub alone : AreRead → (m : ModelTree) (goal : Goal) → IsChecked m → IsRefutingWith All m goal (refuting_sentence m goal)
alone laws m goal checked = record {
  held = m.conjectures;
  more = [];
  added = (laws.conjectures m [] checked tt tt).all;
  is = sym (laws.none All m m.conjectures goal);
}

-- a refuting sentence with further parts is one over the answered signature
pub given_fits : RefutingSentencesFit → (premises : Premises) (m : ModelTree) (goal : Goal) (p : FormTree) → IsChecked m
    → IsSignature m.signature → IsGoal m goal → IsRefutingWith premises m goal p
    → FitsForm (symbols (answered m goal)) [] p
given_fits fit premises m goal p checked ok g with =
    subst (λ (q : FormTree). FitsForm (symbols (answered m goal)) [] q) (sym with.is)
    (fit premises m with.held with.more goal checked ok g with.added).fits

module _ (normals : RefutingNormalsFit) (premises : Premises) (m : ModelTree) (goal : Goal) (checked : IsChecked m)
    (ok : IsSignature m.signature) (g : IsGoal m goal)
    (p : FormTree) (with : IsRefutingWith premises m goal p) where
  -- the refuting sentence with these parts
  whole : p ≡ refuting_where premises m with.held with.more goal
  whole = with.is

  normal_fits : IsRefutingNormal premises m with.held with.more goal
  normal_fits = normals premises m with.held with.more goal checked ok g with.added

  pub normal-fits : FitsForm (symbols (answered m goal)) [] (normal true p)
  normal-fits =
      subst (λ (q : FormTree). FitsForm (symbols (answered m goal)) [] (normal true q)) (sym whole) normal_fits.fits

  -- it has a constant for each of its existentials
  constant-count : existentials p ≡ length (constant_sorts p)
  constant-count =
      let count = sym (ap length normal_fits.sorts) in
      subst (λ (q : FormTree). existentials q ≡ length (constant_sorts q)) (sym whole) count

  module _ (t : Tables) (model : HoldsWithConstants (answered m goal) p t) (f n : ℕ)
      (h : AreCounted (answered m goal) p f n) where
    pub all-counted : n ≡ length (constant_sorts p)
    all-counted = let same = constant-count in let e = h.count in let few = h.few in omega (arith, e, same, few)

    pub each-there : ConstantsAreThere → (i : ℕ) → i < n → HasConstant t (f + i)
    each-there there i lt =
        let within : i < length (constant_sorts p) = subst (λ (k : ℕ). i < k) all-counted lt in
        subst (λ (k : ℕ). HasConstant t (k + i)) (sym h.functions)
        (there (answered m goal) (normal true p) t normal-fits model.structure i within)

    -- with the values of the constants it is a counterexample
    pub is-shown : ModelsGiveCounterexamples → (xs : List ℕ)
        → ((i : ℕ) → i < n → get_or xs i 0 ≡ fun_at t (f + i) [])
        → RefutesAs premises m goal p
        (reduct (symbols m.signature) (reduct (symbols (answered m goal)) t))
        (goal_havocs m goal (reduct (symbols (answered m goal)) t)
        (values_at xs (witness_places premises m goal).havocs))
        (values_at xs (witness_places premises m goal).values)
    is-shown models xs values held more added is =
        let each = λ (q : FormTree).
        (i : ℕ) → i < length (constant_sorts q)
        → get_or xs i 0 ≡ fun_at t (length (answered m goal).functions + i) [] in
        let read : each p = λ i lt.
        let within : i < n = subst (λ (k : ℕ). i < k) (sym all-counted) lt in
        values i within ∙ ap (λ (k : ℕ). fun_at t (k + i) []) h.functions in
        let holds = subst (λ (q : FormTree). HoldsWithConstants (answered m goal) q t) is model in
        (models premises m held more goal t xs checked ok g added holds (subst each is read)).shown

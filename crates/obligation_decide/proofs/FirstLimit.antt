-- The limit that a goal passes first is a function of the model, since each sort has one number of ground terms.
use Rattle.std.proofs.Common.{◌≡◌, ℕ, Bool, true, false, List, [], ◌∷◌, sum, Option, Some, sym, ap, ◌∙◌}
use Rattle.std.specs.Prelude.{MatchBool}
use Rattle.fol_sig.specs.Tables.{IsSignature}
use Rattle.fol_sig.specs.Symbols.{symbols}
use Rattle.fol_sig.specs.Strata.{IsWalk, IsOnCycle}
use Rattle.fol_nnf.specs.Normal.{normal}
use Rattle.skolem.specs.Laws.{EachIsSkolemised}
use Rattle.ground_size.specs.Counting.{skolem_signature}
use Rattle.ground_size.specs.Sizes.{size_of}
use Rattle.rml_command.specs.Models.{ModelTree}
use Rattle.rml_command.specs.Fragment.{IsChecked}
use Rattle.rml_command.specs.Goals.{IsGoal}
use Rattle.rml_command.specs.declared.goal.Goal.{Goal}
use Rattle.rml_wp.specs.declared.premises.Premises.TheVariants.{All}
use Rattle.rml_wp.specs.Preconditions.{answered, goal_passes_limit}
use Rattle.limits.specs.declared.cause.Cause.{Cause}
use Rattle.limits.specs.declared.cause.Cause.TheVariants as cause
use Rattle.limits.specs.Ceilings.{Ceilings}
use Rattle.ea_decide.specs.Passing.{passed_of}
use Rattle.obligation_decide.specs.GoalPassing.{first_cause, refuting_sentence, SentencePasses}
use Rattle.obligation_decide.specs.Laws.{FirstLimitIsOne}
use Rattle.obligation_decide.proofs.Shown.{AreRead, alone, normal-fits}
use Rattle.obligation_decide.proofs.OneCount.{counts_are_one}

-- the answered signature has the functions of the model's
walk-there : (m : ModelTree) (goal : Goal) (k : ℕ) (fs : List ℕ) (q : ℕ) → IsWalk (symbols (answered m goal)) k fs q
    → IsWalk (symbols m.signature) k fs q
walk-there m goal k [] q w = w
walk-there m goal k (f ∷ fs) q w = (w.0, w.1, walk-there m goal _ fs q w.2)

cycle-there : (m : ModelTree) (goal : Goal) (f : ℕ) → IsOnCycle (symbols (answered m goal)) f
    → IsOnCycle (symbols m.signature) f
cycle-there m goal f c = record {
  sort = c.sort;
  rest = c.rest;
  closed = walk-there m goal c.sort (f ∷ c.rest) c.sort c.closed;
}

module _ (laws : AreRead) (skolem : EachIsSkolemised) (limits : Ceilings) (m : ModelTree) (goal : Goal)
    (checked : IsChecked m) (ok : IsSignature m.signature) (g : IsGoal m goal) where
  sentence-one : (a b : Option Cause) → SentencePasses limits m m.conjectures goal a → SentencePasses limits m m.conjectures goal b → a ≡ b
  sentence-one a b pa pb =
      let p = refuting_sentence m goal in
      let sig = symbols (answered m goal) in
      let fits = normal-fits laws.normals All m goal checked ok g p (alone laws m goal checked) in
      let grows = (skolem (answered m goal) (normal true p) fits).grows.grows in
      let more = symbols (skolem_signature (answered m goal) p) in
      let ca = pa.1.terms in
      let cb = pb.1.terms in
      let one = counts_are_one sig more grows pa.1.counts pb.1.counts ca cb
      (λ f c. checked.fragment.functions f (cycle-there m goal f c)) in
      let limit_of = λ (counts : List ℕ). passed_of limits (sum counts) (size_of (answered m goal) counts p) in
      let passed = pa.1.first ∙ ap limit_of one ∙ sym pb.1.first in
      pa.2 ∙ ap first_cause passed ∙ sym pb.2

  by-formula : (large : Bool) (a b : Option Cause)
      → MatchBool large (a ≡ Some cause.Formula) (SentencePasses limits m m.conjectures goal a)
      → MatchBool large (b ≡ Some cause.Formula) (SentencePasses limits m m.conjectures goal b) → a ≡ b
  by-formula true a b pa pb = pa ∙ sym pb
  by-formula false a b pa pb = sentence-one a b pa pb

pub first_limit_is_one : AreRead → EachIsSkolemised → FirstLimitIsOne
first_limit_is_one laws skolem limits m goal a b checked ok g pa pb =
    by-formula laws skolem limits m goal checked ok g (goal_passes_limit All m goal) a b pa pb

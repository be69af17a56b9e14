-- A refuting sentence with further parts behind its own, as a bound on sizes adds them.
use Rattle.std.specs.Prelude.{◌≡◌, ℕ, List, [], ◌++◌}
use Rattle.std.specs.List.{AllByRecursion}
use Rattle.fol_sig.specs.Tables.{IsSignature}
use Rattle.fol_sig.specs.Symbols.{symbols}
use Rattle.fol_formula.specs.Syntax.{FormTree}
use Rattle.fol_formula.specs.Fits.{FitsForm}
use Rattle.fol_formula.specs.Fragments.{IsEa, IsPlainUniversal}
use Rattle.fol_formula.specs.Sentences.{all_of}
use Rattle.rml_command.specs.Models.{ModelTree}
use Rattle.rml_command.specs.Fragment.{IsChecked}
use Rattle.rml_command.specs.Goals.{IsGoal}
use Rattle.rml_command.specs.declared.goal.Goal.{Goal}
use Rattle.rml_wp.specs.declared.premises.Premises.{Premises}
use Rattle.rml_wp.specs.declared.premises.Premises.TheVariants.{All}
use Rattle.rml_wp.specs.Preconditions.{refuting_parts, refuting, answered}
use Rattle.rml_command.specs.InductiveSets.{conjectures_of}

-- what is asked of sentences that hold before a stage in place of the conjectures, and of further parts of a refuting
-- sentence
pub record AreAdded (m : ModelTree) (held more : List FormTree) : Type 0 where
  pub universal : AllByRecursion IsPlainUniversal held
  pub universal_fit : AllByRecursion (FitsForm (symbols m.signature) []) held
  pub others : AllByRecursion IsEa more
  pub others_fit : AllByRecursion (FitsForm (symbols m.signature) []) more

-- the refuting sentence with these further parts
abbrev pub refuting_where : Premises → ModelTree → List FormTree → List FormTree → Goal → FormTree
refuting_where premises m held more goal = all_of (refuting_parts premises m held goal ++ more)

-- it is an exists-forall sentence over the answered signature
pub record IsRefutingSentence (premises : Premises) (m : ModelTree) (held more : List FormTree)
    (goal : Goal) : Type 0 where
  pub fragment : IsEa (refuting_where premises m held more goal)
  pub fits : FitsForm (symbols (answered m goal)) [] (refuting_where premises m held more goal)

-- So is the refuting sentence of each goal of a checked model, with all that may be added.
abbrev pub RefutingSentencesFit : Type 0
RefutingSentencesFit = (premises : Premises) (m : ModelTree) (held more : List FormTree) (goal : Goal) → IsChecked m
    → IsSignature m.signature → IsGoal m goal → AreAdded m held more → IsRefutingSentence premises m held more goal

-- Without further parts it is the refuting sentence.
abbrev pub NoPartsAreAdded : Type 0
NoPartsAreAdded =
    (premises : Premises) (m : ModelTree) (held : List FormTree) (goal : Goal)
    → refuting_where premises m held [] goal ≡ refuting premises m held goal

-- Conjectures of a checked model may hold in place of all, beside exists-forall sentences of the model.
pub record AddsConjectures (m : ModelTree) (more : List FormTree) : Type 0 where
  pub all : AreAdded m m.conjectures more
  pub some : (ks : List ℕ) → AreAdded m (conjectures_of m ks) more

-- So they may in each checked model.
abbrev pub ConjecturesAreAdded : Type 0
ConjecturesAreAdded = (m : ModelTree) (more : List FormTree) → IsChecked m → AllByRecursion IsEa more
    → AllByRecursion (FitsForm (symbols m.signature) []) more → AddsConjectures m more

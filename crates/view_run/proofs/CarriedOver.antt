-- What a question ends with, carried over to its answer as one of all.
use Rattle.std.proofs.Common.{◌≡◌, inl, inr, ℕ, List, [], Option, Some, Result, Ok, Err, refl}
use Rattle.rml_bytes.specs.declared.outside.LoadError.{LoadError}
use Rattle.rml_bytes.specs.Outside.{Told}
use Rattle.commands.specs.Ends.{EndsOne, EndsTwo}
use Rattle.commands.specs.Done.{due_in, outcome_in}
use Rattle.commands.specs.declared.command.Done.{Done}
use Rattle.command_parts.specs.ModelTexts.{model_limit}
use Rattle.replay_command.specs.Replay.{report_limit}
use Rattle.view_line.specs.declared.options.Options.{Options}
use Rattle.view_line.specs.Asking.{Query, of_check, of_houdini, of_bmc, of_why, of_replay, show}
use Rattle.view_run.specs.declared.viewed.Viewed.{Viewed}
use Rattle.view_run.specs.declared.ended.Answer.{Answer}
use Rattle.view_run.specs.declared.ended.Answer.TheVariants as answer
use Rattle.view_run.specs.Questions.{EndsAsAsked, AnswersAsked, counted_by, due_of}
use Rattle.view_run.specs.Inquiries.{EndsAsShown, IsShown, done_as}

module _ (q : Query) (options : Options) where
  abbrev Is : List ℕ → List ℕ → Done Viewed → Type 0
  Is = IsShown q (counted_by options) options.form

  one_ends : (told : Told) (before now : ℕ) (first second : List ℕ) → second ≡ [] → (r : Result (Done Viewed) LoadError)
      → EndsOne told model_limit before now first [] Is r
      → EndsOne told model_limit before now first second (AnswersAsked q options) (outcome_in (done_as r))
  one_ends told before now first second none (Ok d) ends = record {
    later = ends.later;
    none = none;
    cause = (ends.cause.0, ends.cause.1.0);
    complete = λ bytes whole short quiet. (ends.complete bytes whole short quiet).0;
  }
  one_ends told before now first second none (Err why) ends = record {
    later = ends.later;
    none = none;
    cause = ends.cause;
    complete = ends.complete;
  }

  two_ends : (told other : Told) (before now : ℕ) (first second : List ℕ) (r : Result (Done Viewed) LoadError)
      → EndsTwo told other model_limit report_limit before now first second Is r
      → EndsTwo told other model_limit report_limit before now first second (AnswersAsked q options)
      (outcome_in (done_as r))
  two_ends told other before now first second (Ok d) ends = record {
    later = ends.later;
    cause = elim ends.cause [
      | inl stopped ↦ inl stopped
      | inr given ↦ inr (given.0, (given.1.0, given.1.1.0))
    ];
    complete = λ bytes others whole also short small quiet.
        (ends.complete bytes others whole also short small quiet).0;
  }
  two_ends told other before now first second (Err why) ends = record {
    later = ends.later;
    cause = ends.cause;
    complete = ends.complete;
  }

  one_due : (told : Told) (before now : ℕ) (first second : List ℕ) (r : Result (Done Viewed) LoadError)
      → EndsOne told model_limit before now first [] Is r
      → due_in (done_as r) ≡ due_of (Some (show q options)) first second (outcome_in (done_as r))
  one_due told before now first second (Ok d) ends = ends.cause.1.1
  one_due told before now first second (Err why) ends = refl

  two_due : (told other : Told) (before now : ℕ) (first second : List ℕ) (r : Result (Done Viewed) LoadError)
      → EndsTwo told other model_limit report_limit before now first second Is r
      → due_in (done_as r) ≡ due_of (Some (show q options)) first second (outcome_in (done_as r))
  two_due told other before now first second (Ok d) ends = elim ends.cause [
    | inl stopped ↦ elim stopped.0 [ ]
    | inr given ↦ given.1.1.1
  ]
  two_due told other before now first second (Err why) ends = refl

module _ (told : List ℕ → Told) (before now : ℕ) (first second : List ℕ) (r : Result (Done Viewed) LoadError) where
  pub asked_ends : (q : Query) (options : Options)
      → EndsAsShown q (counted_by options) options.form told before now first second r
      → EndsAsAsked (Some (show q options)) told before now first second (outcome_in (done_as r))
  asked_ends (of_check file asked) options ends =
      one_ends (of_check file asked) options (told file) before now first second ends.0 r ends.1
  asked_ends (of_houdini file asked) options ends =
      one_ends (of_houdini file asked) options (told file) before now first second ends.0 r ends.1
  asked_ends (of_bmc file bound) options ends =
      one_ends (of_bmc file bound) options (told file) before now first second ends.0 r ends.1
  asked_ends (of_why file asked) options ends =
      one_ends (of_why file asked) options (told file) before now first second ends.0 r ends.1
  asked_ends (of_replay model report) options ends =
      two_ends (of_replay model report) options (told model) (told report) before now first second r ends

  pub asked_due : (q : Query) (options : Options)
      → EndsAsShown q (counted_by options) options.form told before now first second r
      → due_in (done_as r) ≡ due_of (Some (show q options)) first second (outcome_in (done_as r))
  asked_due (of_check file asked) options ends =
      one_due (of_check file asked) options (told file) before now first second r ends.1
  asked_due (of_houdini file asked) options ends =
      one_due (of_houdini file asked) options (told file) before now first second r ends.1
  asked_due (of_bmc file bound) options ends =
      one_due (of_bmc file bound) options (told file) before now first second r ends.1
  asked_due (of_why file asked) options ends =
      one_due (of_why file asked) options (told file) before now first second r ends.1
  asked_due (of_replay model report) options ends =
      two_due (of_replay model report) options (told model) (told report) before now first second r ends

use Rattle.rml_names.specs.Drafts.{draft_in}
use Rattle.rml_sorts.proofs.Few.{few_for_tuple}
use Rattle.rml_sorts.proofs.update_commands.remove_command.Goals as goal

pub large_use_in_removal-requires-clause-few : goal.large_use_in_removal-requires-clause-few
large_use_in_removal-requires-clause-few c =
    few_for_tuple c.args.text.now (draft_in c.args.draft.now).vocabulary c.requires.sound.words c.args.name
    c.args.args.now c.requires.met

pub removal-requires-clause-few : goal.removal-requires-clause-few
removal-requires-clause-few c =
    few_for_tuple c.args.text.now (draft_in c.args.draft.now).vocabulary c.requires.sound.words c.args.name
    c.args.args.now c.requires.met

-- What is answered with words alone.
use Rattle.std.specs.Prelude.{codes}
use Rattle.commands.specs.Due.{Due}
use Rattle.command_parts.specs.Saying.{on_out, on_err}
use Rattle.view_line.specs.HelpText.{help_text, usage_text}
use Rattle.view_run.specs.declared.words.Words.{Words}
use Rattle.view_run.specs.declared.words.Words.TheVariants.{Help, Version, Usage}

-- help and version on the sink of verdicts, with status 0; the usage on that of complaints, with status 2
abbrev pub words_due : Words → Due
words_due Help = on_out help_text 0
words_due Version = on_out (codes "ivyview 1, for models of rml 1 and 2\n") 0
words_due Usage = on_err usage_text 2

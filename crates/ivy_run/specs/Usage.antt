-- What is due for words that are no command line.
use Rattle.std.specs.Prelude.{◌++◌, codes}
use Rattle.commands.specs.Due.{Due}
use Rattle.command_parts.specs.Saying.{on_err}

-- the usage of each command, on the error output, with status 2
abbrev pub usage_due : Due
usage_due =
    on_err
    (codes "usage: ivycheck check FILE, emit FILE GOAL cnf|lrat, lrat CNF LOG, bmc FILE, houdini FILE, "
    ++ codes "replay MODEL REPORT, or sample N\n") 2

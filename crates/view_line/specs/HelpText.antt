-- What the words of a command line are.
use Rattle.std.specs.Prelude.{List, ℕ, ◌++◌, codes}

-- the questions
abbrev pub head_text : List ℕ
head_text =
    codes "ivyview: what ivycheck finds of a protocol's model, as a person wants to see it\n"
    ++ codes "\n"
    ++ codes "    ivyview check FILE              is the model inductive?\n"
    ++ codes "    ivyview bmc FILE --steps K      does a run with at most K actions (0 to 12) go wrong?\n"
    ++ codes "    ivyview houdini FILE            which of the conjectures are inductive together?\n"
    ++ codes "    ivyview why FILE                which conjectures carry which group of goals?\n"
    ++ codes "    ivyview replay MODEL REPORT     is a report that `ivycheck check` printed right?\n"
    ++ codes "\n"

-- the options
abbrev pub options_text : List ℕ
options_text =
    codes "A FILE may be -, for standard input. Options, anywhere among the words:\n"
    ++ codes "\n"
    ++ codes "    --terms N       a goal may have so many ground terms (400, up to 100000)\n"
    ++ codes "    --ground N      its ground formulas may have this size (2000000, up to 50000000)\n"
    ++ codes "    --conflicts N   so many clauses may be learnt for it (100000, up to 100000000)\n"
    ++ codes "    --lean          the first two are on lean counts (check, bmc, houdini)\n"
    ++ codes "    --dot           pictures (check, bmc, houdini): ivyview check FILE --dot >F.dot; dot -Tsvg -O F.dot\n"
    ++ codes "    --json          the whole outcome as one JSON value\n"
    ++ codes "    --help, --version\n"
    ++ codes "\n"

-- the status
abbrev pub status_text : List ℕ
status_text =
    codes "The status is 0 where all is well, 1 where something fails, 2 for words that are no command line,\n"
    ++ codes "3 where something is left open, 4 for a faulty or too long file, 5 where a file or a stream fails,\n"
    ++ codes "6 where a word is not UTF-8, 7 for want of memory.\n"

-- what `--help` is answered with
unfoldable pub help_text : List ℕ
help_text = head_text ++ options_text ++ status_text

-- words that are no command line are answered with what one is
unfoldable pub usage_text : List ℕ
usage_text = codes "ivyview: these words are no command line\n\n" ++ help_text

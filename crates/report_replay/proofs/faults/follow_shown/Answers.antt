use Rattle.std.proofs.Common.{◌≡◌, List, sym}
use Rattle.fol_sig.specs.Symbols.{FitsStructure, symbols}
use Rattle.fol_sig.specs.Tables.{Tables}
use Rattle.rml_command.specs.Models.{ModelTree}
use Rattle.rml_command.specs.Trees.{PrimitiveTree}
use Rattle.rml_command.specs.Outcomes.{follow_path}
use Rattle.rml_command.specs.declared.havoc.Havoc.{Havoc}
use Rattle.rml_exec.specs.declared.trace.Followed.{Followed}
use Rattle.rml_exec.specs.declared.trace.Followed.TheVariants.{Ended, Aborted, Blocked}
use Rattle.rml_exec.specs.Followed.{outcome_of, EndFits}
use Rattle.report_replay.specs.Judging.{EndIsAlike}
use Rattle.report_replay.proofs.Sizes.{keeps_sizes}
use Rattle.report_replay.proofs.faults.follow_shown.Goals as goal

is_alike : (m : ModelTree) (path : List PrimitiveTree) (hs : List Havoc) (s : Tables) (f : Followed)
    → FitsStructure (symbols m.signature) s → outcome_of f ≡ follow_path m.axioms path hs s
    → EndFits (symbols m.signature) f → EndIsAlike m s f
is_alike m path hs s (Ended t) fits e ends =
    record { first = fits; second = ends; sizes = keeps_sizes m.axioms path hs s t (sym e) }
is_alike m path hs s Aborted fits e ends = tt
is_alike m path hs s Blocked fits e ends = tt

pub returns-clause-end : goal.returns-clause-end
returns-clause-end c =
    is_alike c.args.checked.now c.path-path.result c.args.shown.now.trace.havoc c.args.shown.now.structure
    c.in_ok-followed.followed c.requires.structure c.in_ok-followed.ensures.outcome c.in_ok-followed.ensures.fits

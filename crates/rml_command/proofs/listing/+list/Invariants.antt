use Rattle.std.proofs.Common.{◌≡◌, ◌++◌, drop, map}
use Rattle.std.specs.List.{AllByRecursion, flat_map}
use Rattle.rml_command.specs.View.{commands}
use Rattle.rml_command.specs.Paths.{continued, paths_in_turn, paths_of_each}
use Rattle.rml_command.specs.Routes.{Grows, IsRoute, path_along}
use Rattle.rml_command.proofs.listing.+list.Given as goal

abbrev pub invariant-list_each-loop-branch : goal.invariant-list_each-loop-branch
invariant-list_each-loop-branch l = record {
  grown : Grows l.fn.into.items l.into.items;
  routes : AllByRecursion (IsRoute l.into.items) l.all.items;
  paths : map (path_along l.into.items) l.all.items ++ paths_of_each (commands (drop l.branch-index l.branches))
      ≡ paths_of_each (commands l.branches);
}

abbrev pub invariant-list_in_turn-loop-part : goal.invariant-list_in_turn-loop-part
invariant-list_in_turn-loop-part l = record {
  grown : Grows l.fn.into.items l.into.items;
  routes : AllByRecursion (IsRoute l.into.items) l.drafts;
  paths : flat_map (continued (paths_in_turn (commands (drop l.part-index l.parts))))
      (map (path_along l.into.items) l.drafts) ≡ paths_in_turn (commands l.parts);
}

use Rattle.std.proofs.Common.{sym, ap, ◌∙◌, map}
use Rattle.std.proofs.lemmas.List.{drop_all}
use Rattle.std.specs.List.{flat_map}
use Rattle.rml_command.specs.View.{command, commands}
use Rattle.rml_command.specs.Paths.{continued, paths_of, paths_in_turn}
use Rattle.rml_command.specs.Routes.{path_along}
use Rattle.rml_command.proofs.Counting.{continued-end}
use Rattle.rml_command.proofs.Loops.{next-paths, branch-paths}
use Rattle.rml_command.proofs.RouteLists.{stopped-paths, grows-twice, grows-none, behind-routes, behind-paths}
use Rattle.rml_command.proofs.RouteLists.{beside-routes, beside-paths, start-routes, start-paths}
use Rattle.rml_command.proofs.listing.+list.Goals as goal

pub list_behind-returns-then-not-goes_on-clause-paths : goal.list_behind-returns-then-not-goes_on-clause-paths
list_behind-returns-then-not-goes_on-clause-paths t c =
    stopped-paths c.args.into.now.items c.args.drafts (paths_of (command c.args.part.now))
    (c.goes_on.ensures c.if-not-goes_on.true) c.requires

pub list_behind-returns-clause-routes : goal.list_behind-returns-clause-routes
list_behind-returns-clause-routes t c =
    let next = c.in_ok-next in
    behind-routes c.args.into.now.items c.list.new.into.items next.ensures.grown c.args.drafts next.next.items
    c.in_ok-longer.longer c.in_ok-longer.ensures c.requires next.ensures.routes

pub list_behind-returns-clause-paths : goal.list_behind-returns-clause-paths
list_behind-returns-clause-paths t c =
    let next = c.in_ok-next in
    behind-paths c.args.into.now.items c.list.new.into.items next.ensures.grown c.args.drafts next.next.items
    c.in_ok-longer.longer (paths_of (command c.args.part.now)) c.in_ok-longer.ensures c.requires next.ensures.paths

pub list_each-loop-branch-preserved : goal.list_each-loop-branch-preserved
list_each-loop-branch-preserved t c =
    let h = c.loop-branch.invariant in
    let next = c.in_ok-next in
    let mid = c.loop-branch.into.items in
    let new = c.list.new.into.items in
    let all = c.loop-branch.all.items in
    record {
      grown = grows-twice c.args.into.now.items mid new h.grown next.ensures.grown;
      routes = beside-routes mid new next.ensures.grown all next.next.items c.append.new.self.items
          c.in_ok-append.ensures.items h.routes next.ensures.routes;
      paths = branch-paths c.args.branches.now c.loop-branch.branch-index c.branch-item.result c.loop-branch-test.true
          c.branch-item.is (map (path_along mid) all) (map (path_along new) c.append.new.self.items) _
          (beside-paths mid new next.ensures.grown all next.next.items c.append.new.self.items
          (paths_of (command c.branch-item.result)) c.in_ok-append.ensures.items h.routes next.ensures.paths) h.paths;
    }

pub list_in_turn-loop-part-init : goal.list_in_turn-loop-part-init
list_in_turn-loop-part-init t c = record {
  grown = grows-none c.args.into.now.items;
  routes = start-routes c.args.into.now.items c.in_ok-drafts.drafts c.in_ok-drafts.ensures;
  paths = start-paths c.args.into.now.items c.in_ok-drafts.drafts (paths_in_turn (commands c.args.parts.now))
      c.in_ok-drafts.ensures;
}

pub list_in_turn-loop-part-preserved : goal.list_in_turn-loop-part-preserved
list_in_turn-loop-part-preserved t c =
    let h = c.loop-part.invariant in
    let mid = c.loop-part.into.items in
    let new = c.list_behind.new.into.items in
    record {
      grown = grows-twice c.args.into.now.items mid new h.grown c.in_ok-drafts-2.ensures.grown;
      routes = c.in_ok-drafts-2.ensures.routes;
      paths = next-paths c.args.parts.now c.loop-part.part-index c.part-item.result c.loop-part-test.true c.part-item.is
          (map (path_along mid) c.loop-part.drafts) (map (path_along new) c.in_ok-drafts-2.drafts) _
          c.in_ok-drafts-2.ensures.paths h.paths;
    }

pub list_in_turn-returns-clause-paths : goal.list_in_turn-returns-clause-paths
list_in_turn-returns-clause-paths t c =
    let drafts = map (path_along c.loop-part.into.items) c.loop-part.drafts in
    ap (map (path_along c.loop-part.into.items)) c.in_ok-routes.ensures
    ∙ sym (ap (λ z. flat_map (continued (paths_in_turn (commands z))) drafts)
    (drop_all c.loop-part.part-index c.args.parts.now c.loop-part-test.false) ∙ continued-end drafts)
    ∙ c.loop-part.invariant.paths

use Rattle.std.proofs.Common.{sym, ◌∙◌}
use Rattle.cdcl.proofs.Searching.{search_grows, fewer_free}
use Rattle.cdcl.proofs.search.Search.propagate.Goals as goal

pub returns-clause-solver : goal.returns-clause-solver
returns-clause-solver c = record {
  search = search_grows c.args.self.now.state c.propagate.new.self c.args.self.now.starts.items c.args.self.now.head
      c.propagate.new.head c.requires.search c.in_ok-conflict.ensures.grows c.in_ok-conflict.ensures.state
      c.in_ok-conflict.ensures.within c.in_ok-conflict.ensures.watching;
  marked = c.requires.marked ∙ sym c.in_ok-conflict.ensures.grows.extends.size;
  clear = c.requires.clear;
}

pub returns-clause-fewer : goal.returns-clause-fewer
returns-clause-fewer c =
    fewer_free c.args.self.now.state.trail c.propagate.new.self.trail c.in_ok-conflict.ensures.grows.extends

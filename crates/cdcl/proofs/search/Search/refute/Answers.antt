use Rattle.cdcl.proofs.Searching.{state_holds}
use Rattle.cdcl.proofs.search.Search.refute.Goals as goal

pub refute-requires-clause-tables : goal.refute-requires-clause-tables
refute-requires-clause-tables c = state_holds c.args.self.now.state c.requires.state

use Rattle.std.proofs.Common.{[], inr}
use Rattle.cnf_base.proofs.Entries.{entry_in, entry_satisfied, entry_satisfies, from_none, entry_kept}
use Rattle.cnf_base.proofs.laws.entry_laws.Goals as goal

pub returns : goal.returns
returns c = record {
  entry = λ n ls p. entry_in n [] ls tt tt p;
  truth = λ v ls. (λ s. from_none v ls (entry_satisfies v [] ls s), λ s. entry_satisfied v [] ls (inr s));
  clause = λ ls h. entry_kept [] ls h;
}

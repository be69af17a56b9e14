-- A sink that was handed two lists of calls, one after the other.
use Rattle.std.proofs.Common.{List, [], ◌++◌, sym, ◌∙◌, subst}
use Rattle.std.proofs.lemmas.List.{append-nil}
use Rattle.ground_terms.specs.Calls.{Call}
use Rattle.ground_terms.specs.Taking.{TakesAll}

pub handed : (P Q R : List Call → Type 0) (first rest : List Call) → P [] → TakesAll P Q first
    → TakesAll Q R rest → R (first ++ rest)
handed P Q R first rest begins took then =
    let all = sym (append-nil took.some) ∙ took.split in
    let more = sym (append-nil then.some) ∙ then.split in
    let here : Q first = subst Q all (took.taken [] begins) in
    subst (λ calls. R (first ++ calls)) more (then.taken first here)

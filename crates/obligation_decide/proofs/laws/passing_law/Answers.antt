use Rattle.obligation_decide.proofs.FirstLimit.{first_limit_is_one}
use Rattle.obligation_decide.proofs.laws.passing_law.Goals as goal

pub returns : goal.returns
returns c =
    first_limit_is_one
    (record {
      none = c.sentence_law.ensures.alone;
      conjectures = c.sentence_law.ensures.conjectures;
      normals = c.sentence_law-2.ensures;
    })
    c.exactness.ensures.models

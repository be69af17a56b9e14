use Rattle.structure_back.proofs.Quotients.{some-structure}
use Rattle.structure_back.proofs.laws.reading_law.Goals as goal

pub returns : goal.returns
returns c = λ sig lists a sorted closed equality.
    some-structure c.tuple_laws.ensures sig lists a sorted closed.sorts (c.equality_laws.ensures sig lists a equality)
    (λ f xs lf r. c.place_laws.ensures.placed sig lists f xs sorted closed lf r)
    (c.place_laws.ensures.once sig lists closed) (λ k lk. c.place_laws.ensures.terms sig lists k closed lk)

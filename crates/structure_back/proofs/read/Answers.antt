use Rattle.std.proofs.Common.{◌≡◌, ◌<◌, length, sym, subst, ◌∙◌}
use Rattle.std.specs.Prelude.{All}
use Rattle.std.proofs.lemmas.List.{length-map}
use Rattle.std.proofs.lemmas.List.Elements.{All-from_get_or}
use Rattle.ground_terms.specs.Terms.{term_counts}
use Rattle.ground_terms.specs.Numberings.{numbering}
use Rattle.ground_terms.specs.Same.{holds_in}
use Rattle.ground_terms.specs.Universe.{symbols_in}
use Rattle.structure_back.specs.Rows.{looked_up}
use Rattle.structure_back.specs.Leaders.{AreReflexive, AreLeaders}
use Rattle.structure_back.specs.Classes.{AreNumbered, AreClasses}
use Rattle.structure_back.proofs.Numbered.{reflexive, led, classes}
use Rattle.structure_back.proofs.Setting.{blank-false}
use Rattle.structure_back.proofs.Reading.{relations-kept, read_back}
use Rattle.structure_back.proofs.read.Goals.{After-counts, After-deref}
use Rattle.structure_back.proofs.read.Goals as goal

counted : (c : After-counts)
    → length (term_counts c.args.universe.now.terms.now) ≡ c.args.universe.now.signature.now.sorts
counted c = length-map c.args.universe.now.terms.now length ∙ c.args.universe.now.closed.sorts

the-classes : (c : After-deref)
    → AreClasses (symbols_in c.args.universe.now) (term_counts c.args.universe.now.terms.now)
    (holds_in c.args.assignment.now) c.in_ok-classes.classes.sizes.items c.in_ok-classes.classes.numbers
    c.in_ok-classes.classes.members
the-classes c =
    let sig = symbols_in c.args.universe.now in
    let lists = c.args.universe.now.terms.now in
    let a = holds_in c.args.assignment.now in
    let made = c.in_ok-classes.classes in
    let leaders = c.in_ok-leaders.leaders in
    let counted = length-map c.args.universe.now.terms.now length ∙ c.args.universe.now.closed.sorts in
    classes sig (numbering sig lists) a counted (c.equality_laws.ensures sig lists a c.requires) leaders
    (subst (λ ns. AreLeaders ns a leaders) c.counts.ensures c.in_ok-leaders.ensures)
    made.sizes.items made.numbers made.members
    (subst (λ n. AreNumbered leaders n made.sizes.items made.numbers made.members) c.sorts-sorts.ensures.value
    c.in_ok-classes.ensures)
    (λ k lk. (c.place_laws.ensures.terms sig lists k c.args.universe.now.closed lk).some)

pub find_leaders-requires-clause-reflexive : goal.find_leaders-requires-clause-reflexive
find_leaders-requires-clause-reflexive c =
    let sig = symbols_in c.args.universe.now in
    let lists = c.args.universe.now.terms.now in
    let a = holds_in c.args.assignment.now in
    subst (λ ns. AreReflexive ns a) (sym c.counts.ensures)
    (reflexive sig (numbering sig lists) a (counted c) (c.equality_laws.ensures sig lists a c.requires))

pub number_classes-requires-clause-led : goal.number_classes-requires-clause-led
number_classes-requires-clause-led c =
    let sig = symbols_in c.args.universe.now in
    let lists = c.args.universe.now.terms.now in
    let a = holds_in c.args.assignment.now in
    let counted = length-map c.args.universe.now.terms.now length ∙ c.args.universe.now.closed.sorts in
    led sig (numbering sig lists) a counted
    (c.equality_laws.ensures sig lists a c.requires) c.in_ok-leaders.leaders
    (subst (λ ns. AreLeaders ns a c.in_ok-leaders.leaders) c.counts.ensures c.in_ok-leaders.ensures)

pub new-requires-clause-positive : goal.new-requires-clause-positive
new-requires-clause-positive c =
    let h = the-classes c in
    let sizes = c.in_ok-classes.classes.sizes.items in
    subst (All (λ n. 0 < n)) (sym c.deref.ensures.value)
    (All-from_get_or (λ n. 0 < n) sizes 0 (λ k lt. h.some k (subst (λ n. k < n) h.sorts lt)))

pub set_relations-requires-clause-classes : goal.set_relations-requires-clause-classes
set_relations-requires-clause-classes c =
    let h = the-classes ((goal.at.set_relations-requires-clause-classes c).After-deref) in
    record { sorts = h.sorts; long = h.numbers_long; within = h.within }

pub set_relations-requires-clause-blank : goal.set_relations-requires-clause-blank
set_relations-requires-clause-blank c =
    blank-false c.args.universe.now.signature.now c.deref.result.now c.in_ok-structure.structure
    c.in_ok-structure.ensures.value

pub set_functions-requires-clause-classes : goal.set_functions-requires-clause-classes
set_functions-requires-clause-classes c =
    let h = the-classes ((goal.at.set_functions-requires-clause-classes c).After-deref) in
    record {
      classes = record { sorts = h.sorts; long = h.numbers_long; within = h.within };
      long =
          h.members_long;
      within = h.member_within;
    }

pub returns : goal.returns
returns c =
    let sig = symbols_in c.args.universe.now in
    let lists = c.args.universe.now.terms.now in
    let a = holds_in c.args.assignment.now in
    let made = c.in_ok-classes.classes in
    let sorted = c.sorts-sorts.ensures.sorted in
    let old = c.set_relations.new.structure in
    let new = c.set_functions.new.structure in
    read_back sig lists a made.sizes.items made.numbers made.members new sorted
    (c.place_laws.ensures.once sig lists c.args.universe.now.closed)
    (λ k lk. c.place_laws.ensures.terms sig lists k c.args.universe.now.closed lk)
    (λ f xs lf r. c.place_laws.ensures.placed sig lists f xs sorted c.args.universe.now.closed lf r)
    (c.equality_laws.ensures sig lists a c.requires) (the-classes ((goal.at.returns c).After-deref))
    c.in_ok-set_functions.ensures.fits (c.in_ok-set_functions.ensures.sizes ∙ c.set_relations.ensures.sizes)
    (relations-kept sig (term_counts lists) a
    (looked_up made.numbers) old new c.in_ok-set_functions.ensures.sizes c.in_ok-set_functions.ensures.relations
    c.set_relations.ensures.read)
    c.in_ok-set_functions.ensures.read

use Rattle.std.proofs.Common.{◌≡◌, ◌+◌, ◌-◌, ◌<◌, length, get_or, take, map, set, subst, ap, sym, ◌∙◌, arith, rules}
use denote.Param.Weighed.{at_most}
use Rattle.fol_formula.specs.Syntax.{terms_then}
use Rattle.fol_formula.specs.View.{form, term, terms}
use Rattle.fol_formula.specs.declared.Term.{size-Term}
use Rattle.fol_subst.specs.Replace.{changed_terms}
use Rattle.fol_subst.specs.Room.{ReadyTerms, RoomTerms}
use Rattle.fol_subst.specs.Kept.{kept}
use Rattle.fol_subst.specs.Changes.{change_of}
use Rattle.base.proofs.Lists.{turned}
use Rattle.fol_subst.proofs.Rooms.{args-drop, turn-ready, turn-room, kept-more, kept_room-atom, kept_room-application}
use Rattle.fol_subst.proofs.Rooms.{built-atom, built-application}
use Rattle.fol_subst.proofs.change.+change.Goals as goal

pub change_kept-change_one-requires : goal.change_kept-change_one-requires
change_kept-change_one-requires t c =
    let h = c.loop-i.invariant in
    let lists = c.lists.ensures in
    let change = change_of c.args.c.now in
    let ts = c.loop-i.ts.items in
    let part = c.replace-part.result in
    let lt : c.loop-i.i < length ts = omega arith in
    let is = subst (λ z. z ≡ get_or ts c.loop-i.i z) (sym c.replace-part.ensures.value) c.index_mut.ensures.value in
    let size = args-drop lists.rows ts c.loop-i.index c.loop-i.i part h.few h.left lt in
    let ready = turn-ready lists.terms change ts c.loop-i.i part lt is h.ready in
    let room = turn-room lists.terms change c.args.depth ts c.loop-i.i (c.loop-i.index - 1) part lt is size h.room in
    let within : c.loop-i.i < length c.args.ts.items = omega (arith, h.count) in
    let old : part ≡ get_or c.args.ts.items c.loop-i.i part = is ∙ h.unvisited c.loop-i.i part (omega arith) in
    let smaller = at_most size-Term c.args.ts.items c.loop-i.i part within in
    (omega (arith, c.decreases, smaller, ap size-Term old), (c.requires.measures, (omega arith, (ready.0, room.here))))

pub change_kept-loop-i-preserved : goal.change_kept-loop-i-preserved
change_kept-loop-i-preserved t c =
    let h = c.loop-i.invariant in
    let lists = c.lists.ensures in
    let change = change_of c.args.c.now in
    let ts = c.loop-i.ts.items in
    let part = c.replace-part.result in
    let new = c.in_ok-ts.field-0 in
    let lt : c.loop-i.i < length ts = omega arith in
    let is = subst (λ z. z ≡ get_or ts c.loop-i.i z) (sym c.replace-part.ensures.value) c.index_mut.ensures.value in
    let size = args-drop lists.rows ts c.loop-i.index c.loop-i.i part h.few h.left lt in
    let ready = turn-ready lists.terms change ts c.loop-i.i part lt is h.ready in
    let room = turn-room lists.terms change c.args.depth ts c.loop-i.i (c.loop-i.index - 1) part lt is size h.room in
    let turn = turned ts c.loop-i.i c.replace-part.new.dest new lt in
    let front = take (c.loop-i.i + 1) (set (set ts c.loop-i.i c.replace-part.new.dest) c.loop-i.i new) in
    record {
      few = omega (arith, turn.count, h.few);
      left = omega (arith, turn.count, h.left);
      count = turn.count ∙ h.count;
      unvisited = λ k d le. turn.unvisited k d le ∙ h.unvisited k d (omega arith);
      ready = subst (λ z. ReadyTerms change (terms z)) (sym turn.left) ready.1;
      room = subst (λ z. RoomTerms c.args.depth (kept change (changed_terms change c.args.depth (terms z))))
          (sym turn.left) room.rest;
      made = ap (λ z. terms_then (map term front) (kept change (changed_terms change c.args.depth (terms z)))) turn.left
          ∙ kept-more lists.terms change c.args.depth ts (take c.loop-i.i ts) front c.loop-i.i (c.loop-i.index - 1) part
          new _ lt is size turn.made c.in_ok-ts.ensures h.made;
    }

pub change_atom-change_kept-requires : goal.change_atom-change_kept-requires
change_atom-change_kept-requires t c =
    let same = ap change_of c.in-Rel.is in
    let room = kept_room-atom (change_of c.args.c.now) c.in-Rel.r.0 c.args.q.0 c.args.depth (form c.in-Rel.by.now)
    (changed_terms (change_of c.args.c.now) c.args.depth (terms c.args.args.items)) same c.if-q-r.true
    c.requires.room in
    (search rules, (c.requires.measures, (c.requires.ready.0.0, (c.requires.ready.1, room))))

pub change_atom-returns-in_ok-f-in-Rel : goal.change_atom-returns-in_ok-f-in-Rel
change_atom-returns-in_ok-f-in-Rel t c =
    let same = ap change_of c.in-Rel.is in
    let built =
    built-atom c.lists.ensures.rows (change_of c.args.c.now) c.in-Rel.r.0 c.args.q.0 c.args.depth
    (form c.in-Rel.by.now) (terms c.args.args.items) c.in_ok-all-in-Rel.all.items c.deref.result.now same
    c.if-q-r.true (c.deref.ensures.value ∙ c.reverse.ensures.items)
    c.in_ok-all-in-Rel.ensures in
    c.in_ok-f-in-Rel.ensures ∙ built

pub change_application-change_kept-requires : goal.change_application-change_kept-requires
change_application-change_kept-requires t c =
    let same = ap change_of c.in-Fun.is in
    let room = kept_room-application (change_of c.args.c.now) c.in-Fun.g.0 c.args.f.0 c.args.depth
    (term c.in-Fun.by.now) (changed_terms (change_of c.args.c.now) c.args.depth (terms c.args.args.items)) same
    c.if-f-g.true c.requires.room in
    (search rules, (c.requires.measures, (c.requires.ready.0.0, (c.requires.ready.1, room))))

pub change_application-returns-in_ok-t-in-Fun : goal.change_application-returns-in_ok-t-in-Fun
change_application-returns-in_ok-t-in-Fun t c =
    let same = ap change_of c.in-Fun.is in
    let built =
    built-application c.lists.ensures.rows (change_of c.args.c.now) c.in-Fun.g.0 c.args.f.0 c.args.depth
    (term c.in-Fun.by.now) (terms c.args.args.items) c.in_ok-kept-in-Fun.kept.items c.deref.result.now same
    c.if-f-g.true (c.deref.ensures.value ∙ c.reverse.ensures.items)
    c.in_ok-kept-in-Fun.ensures in
    c.in_ok-t-in-Fun.ensures ∙ built

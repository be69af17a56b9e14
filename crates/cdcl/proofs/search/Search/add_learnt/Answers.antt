use Rattle.std.proofs.Common.{◌≡◌, ◌+◌, ℕ, [], ◌∷◌, ◌++◌, length, get_or, ap, sym, refl, ◌∙◌}
use Rattle.std.proofs.lemmas.Grind.{get_or_default_zero}
use Rattle.cdcl.specs.declared.state.State.{State}
use Rattle.cdcl.specs.TrailValue.{TrailValue}
use Rattle.cdcl.proofs.Searching.{search_at}
use Rattle.cdcl.proofs.Asserting.{learnt_search, not_empty}
use Rattle.cdcl.proofs.search.Search.add_learnt.Goals as goal

pub returns-clause-solver : goal.returns-clause-solver
returns-clause-solver c =
    let a = c.args.self.now.state in
    let b : State =
    record { clauses = c.add.new.self.clauses; trail = c.push.new.self; watches = c.add.new.self.watches } in
    let starts = c.args.self.now.starts.items in
    let ls = c.args.literals.now in
    let i = c.in_ok-add.ensures in
    let first : c.index-literals-0.result ≡ get_or ls 0 0 =
    c.index-literals-0.is ∙ get_or_default_zero ls 0 c.index-literals-0.result
    (not_empty ls c.requires.unit.stands) in
    let steps : b.trail.steps ≡ a.trail.steps ++ record { literal = get_or ls 0 0; reason = length a.clauses + 1 }
    ∷ [] =
    c.in_ok-push.ensures.steps
    ∙ ap (λ (t : TrailValue). t.steps ++ record { literal = c.index-literals-0.result; reason = c.len.result + 1 }
    ∷ []) i.trail
    ∙ ap (λ (n : ℕ). a.trail.steps ++ record { literal = n; reason = c.len.result + 1 } ∷ []) first
    ∙ ap (λ (n : ℕ). a.trail.steps ++ record { literal = get_or ls 0 0; reason = n + 1 } ∷ []) c.len.ensures in
    let size : b.trail.size ≡ a.trail.size = c.in_ok-push.ensures.size ∙ ap (λ (t : TrailValue). t.size) i.trail in
    let p = c.pair_at-pair.ensures in
    let k = search_at a starts starts c.args.self.now.head (length a.trail.steps) refl c.requires.drawn
    c.requires.solver.search in
    record {
      search = search_at b starts starts (length a.trail.steps) c.args.self.now.head refl (sym c.requires.drawn)
          (learnt_search a b starts ls c.args.second c.pair_at-pair.result k i.clauses i.added size steps
          c.requires.unit c.requires.small c.requires.room
          (p.first ∙ first) p.second (λ z. p.none z ∙ first) c.requires.second c.requires.stands c.requires.before);
      marked = c.requires.solver.marked ∙ sym size;
      clear = c.requires.solver.clear;
    }

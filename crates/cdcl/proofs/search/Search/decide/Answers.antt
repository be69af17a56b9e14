use Rattle.std.proofs.Common.{◌≡◌, ℕ, [], ◌∷◌, ◌++◌, length, ap, sym, refl, ◌∙◌}
use Rattle.cdcl.specs.declared.state.State.{State}
use Rattle.cdcl.proofs.Searching.{decided_search, unset_literal, search_at, decided_free}
use Rattle.cdcl.proofs.search.Search.decide.Goals as goal

pub returns-clause-solver : goal.returns-clause-solver
returns-clause-solver c =
    let a = c.args.self.now.state in
    let b : State = record { clauses = a.clauses; trail = c.push-2.new.self; watches = a.watches } in
    let starts = c.args.self.now.starts.items in
    let l = c.literal-literal.result in
    let u = unset_literal a.trail c.args.variable l c.literal-literal.ensures.either c.requires.unset in
    let k = search_at a starts starts c.args.self.now.head (length a.trail.steps) refl c.requires.drawn
    c.requires.solver.search in
    let s = decided_search a b starts l k refl refl c.in_ok-push-2.ensures.size c.in_ok-push-2.ensures.steps u.0 u.1 in
    let pushed : starts ++ length a.trail.steps ∷ [] ≡ c.push.new.self.items =
    sym (c.in_ok-push.ensures.items ∙ ap (λ (n : ℕ). starts ++ n ∷ []) c.len.ensures.len) in
    record {
      search = search_at b (starts ++ length a.trail.steps ∷ []) c.push.new.self.items (length a.trail.steps)
          c.args.self.now.head pushed (sym c.requires.drawn) s;
      marked = c.requires.solver.marked ∙ sym c.in_ok-push-2.ensures.size;
      clear = c.requires.solver.clear;
    }

pub returns-clause-fewer : goal.returns-clause-fewer
returns-clause-fewer c =
    let a = c.args.self.now.state in
    let l = c.literal-literal.result in
    let u = unset_literal a.trail c.args.variable l c.literal-literal.ensures.either c.requires.unset in
    decided_free a.trail c.push-2.new.self (record { literal = l; reason = 0 }) c.in_ok-push-2.ensures.steps u.0 u.2

use Rattle.std.proofs.Common.{◌≡◌, ◌≤◌, ℕ, Bool, List, length, get_or, take, arith, ap, sym, ◌∙◌}
use Rattle.cdcl.specs.Learning.{is_marked}
use Rattle.cdcl.proofs.Searching.{cut_search, search_at}
use Rattle.cdcl.proofs.Backing.{went_back}
use Rattle.cdcl.proofs.search.Search.go_back.Goals as goal

pub returns-clause-solver : goal.returns-clause-solver
returns-clause-solver c =
    let a = c.args.self.now in
    let b = c.cut.new.self in
    let popped : List ℕ = c.pop_starts-to.new.starts.items in
    let k = length popped in
    let starts = a.starts.items in
    let i = c.in_ok-cut.ensures in
    let steps : b.state.trail.steps ≡ take (get_or starts k 0) a.state.trail.steps =
    i.steps ∙ ap (λ (n : ℕ). take n a.state.trail.steps) c.pop_starts-to.ensures.to in
    record {
      search = search_at b.state (take k starts) b.starts.items (get_or starts k 0) b.head
          (sym (i.starts ∙ c.pop_starts-to.ensures.starts)) (sym (i.head ∙ c.pop_starts-to.ensures.to))
          (cut_search a.state b.state starts a.head k c.requires.solver.search c.pop_starts-to.ensures.fewer i.clauses
          i.watches i.size steps);
      marked = ap length i.marks ∙ c.requires.solver.marked ∙ sym i.size;
      clear = λ l. ap (λ (m : List Bool). is_marked m l) i.marks ∙ c.requires.solver.clear l;
    }

pub returns-clause-back : goal.returns-clause-back
returns-clause-back c =
    let a = c.args.self.now in
    let b = c.cut.new.self in
    let i = c.in_ok-cut.ensures in
    let within : c.pop_starts-to.result ≤ length a.state.trail.steps =
    (let e = c.pop_starts-to.ensures.to in
    let x = c.requires.solver.search.decisions.inside (length c.pop_starts-to.new.starts.items)
    c.pop_starts-to.ensures.fewer in omega arith) in
    went_back a b c.pop_starts-to.new.starts.items c.pop_starts-to.result c.args.second i.starts
    c.pop_starts-to.ensures.fewer c.pop_starts-to.ensures.starts
    c.pop_starts-to.ensures.to c.pop_starts-to.ensures.above c.pop_starts-to.ensures.before i.clauses i.size i.steps
    i.head within

use Rattle.std.proofs.Common.{length, sym, subst}
use Rattle.branches.specs.Within.{MarksWithin}
use Rattle.branches.proofs.source.Source.push_lines.Goals as goal

pub push_marks-requires : goal.push_marks-requires
push_marks-requires c =
    let text = c.self.inside.text.now in
    subst (λ ks. MarksWithin (length text) ks) (sym c.deref.ensures.value)
    (c.in-Ok.ensures.within text (length text) c.self.invariant.1 c.self.invariant.0)

-- Pieces of text, one behind another.
use Rattle.std.proofs.Common.{List, ℕ, ◌++◌, append_assoc, ap, ◌∙◌}
use Rattle.told_text.specs.Written.{Written, Wrote}

pub two : (a b : List ℕ) (start old new : Written) → Wrote start old a → Wrote old new b → Wrote start new (a ++ b)
two a b start old new first second whole =
    let m = second whole in
    let n = first m.0 in
    (n.0, m.1 ∙ ap (λ t. t ++ b) n.1 ∙ append_assoc start.text a b)

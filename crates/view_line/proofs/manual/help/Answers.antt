-- The help, behind nothing.
use Rattle.std.proofs.Common.{◌≡◌, ℕ, List, [], ◌++◌, refl}
use Rattle.view_line.specs.HelpText.{help_text}
use Rattle.view_line.proofs.manual.help.Goals as goal

one : (a x z : List ℕ) → x ≡ [] → z ≡ x ++ a → z ≡ a
one a x z p q = rw (q, p) refl

pub returns : goal.returns
unfolding help_text
returns c = one help_text _ _ c.new-out.ensures.items c.in_ok-push_text.ensures.pushed

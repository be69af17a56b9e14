-- The help, behind the line that these words are none.
use Rattle.std.proofs.Common.{◌≡◌, ℕ, List, [], ◌++◌, codes, refl}
use Rattle.view_line.specs.HelpText.{help_text, usage_text}
use Rattle.view_line.proofs.manual.usage.Goals as goal

two : (a b x y z : List ℕ) → x ≡ [] → y ≡ x ++ a → z ≡ y ++ b → z ≡ a ++ b
two a b x y z p q r = rw (r, q, p) refl

pub returns : goal.returns
unfolding help_text usage_text
returns c =
    two (codes "ivyview: these words are no command line\n\n") help_text _ _ _ c.new-out.ensures.items
    c.in_ok-push_text.ensures.pushed c.in_ok-push_text-2.ensures.pushed

use Rattle.std.proofs.Common.{◌≡◌, ℕ, ◌<◌, ◌≤◌, Bool, true, false, IsTrue, length, refl, arith}
use Rattle.std.proofs.Math.Dec.{leb}
use Rattle.std.proofs.lemmas.Bool.{leb-true, leb-false}
use Rattle.rml_command.specs.View.{command}
use Rattle.rml_command.specs.Paths.{paths_of}
use Rattle.rml_command.proofs.Counting.{length-counts}
use Rattle.rml_command.proofs.listing.has_few_paths.Goals as goal

told : (s n : ℕ) (b : Bool) → leb s 4096 ≡ b → (s ≤ 4096 → n ≤ 4096) → (n ≤ 4096 → s ≤ 4096)
    → (IsTrue b → n ≤ 4096) × (n ≤ 4096 → IsTrue b)
told s n true e there back = (λ t. there (leb-true s 4096 e), λ le. refl)
told s n false e there back =
    (λ t. cc t, λ le. let more : 4096 < s = leb-false s 4096 e in let less : s ≤ 4096 = back le in absurd (omega arith))

pub returns : goal.returns
returns c =
    told c.sum.result (length (paths_of (command c.args.command.now))) (leb c.sum.result 4096) refl
    (λ le. omega (
      arith,
      length-counts (paths_of (command c.args.command.now)),
      c.count-counts.ensures.onward,
      c.count-counts.ensures.stopped,
      c.sum.ensures,
    ))
    (λ le. omega (
      arith,
      length-counts (paths_of (command c.args.command.now)),
      c.count-counts.ensures.onward,
      c.count-counts.ensures.stopped,
      c.sum.ensures,
    ))

use Rattle.std.proofs.Common.{◌≡◌, ℕ, ◌<◌, ◌≤◌, nat_lt, Bool, true, false, length, refl, sym, ◌∙◌}
use Rattle.std.proofs.lemmas.Bool.{ltb-true, ltb-false}
use Rattle.rml_command.specs.View.{command}
use Rattle.rml_command.specs.Paths.{paths_of}
use Rattle.rml_command.proofs.listing.paths.Goals as goal

more : (n : ℕ) (x : Bool) → nat_lt 4096 n ≡ x → (n ≤ 4096 → ⊥) → 4096 < n
more n true e never = ltb-true 4096 n e
more n false e never = absurd (never (ltb-false 4096 n e))

pub returns-then-not-has_few_paths-clause-many : goal.returns-then-not-has_few_paths-clause-many
returns-then-not-has_few_paths-clause-many c =
    let n = length (paths_of (command c.args.command.now)) in
    more n (nat_lt 4096 n) refl (λ le. let has : true ≡ false = sym (c.has_few_paths.ensures.1 le)
    ∙ c.if-not-has_few_paths.true in cc)

pub returns-clause-few : goal.returns-clause-few
returns-clause-few c = c.has_few_paths.ensures.0 c.if-not-has_few_paths.false

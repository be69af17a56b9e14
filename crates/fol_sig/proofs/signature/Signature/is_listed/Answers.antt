use Rattle.std.proofs.Common.{◌≡◌, ◌∷◌, ◌||◌, ℕ, Bool, List, [], nat_eq, refl, ap, ◌∙◌}
use Rattle.std.specs.List.{list_any}
use Rattle.fol_sig.specs.declared.FunId.{FunId}
use Rattle.fol_sig.specs.Tables.{Declared, function_numbers, is_listed}
use Rattle.fol_sig.proofs.signature.Signature.is_listed.Goals as goal

some-number : (p : ℕ → Bool) (fs : List FunId) → list_any (λ (f : FunId). p f.0) fs ≡ list_any p (function_numbers fs)
some-number p [] = refl
some-number p (f ∷ fs) = ap (λ b. p f.0 || b) (some-number p fs)

pub returns : goal.returns
returns c =
    let f = c.args.fun.0 in
    c.contains.ensures.value
    ∙ ap (list_any (λ (g : FunId). nat_eq g.0 f)) c.deref.ensures.value
    ∙ some-number (λ g. nat_eq g f) c.self.inside.listed.items
    ∙ ap (λ (sig : Declared). is_listed sig f) c.self.view_is

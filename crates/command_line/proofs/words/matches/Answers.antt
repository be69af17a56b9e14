use Rattle.std.proofs.Common.{◌≡◌, ◌==◌, ◌&&◌, Bool, true, false, if◌then◌else◌, List, [], ◌∷◌, length, Some, None}
use Rattle.std.proofs.Common.{refl, ap}
use Rattle.clap.specs.Words.{Row, Kinds, app_of, is_simple}
use Rattle.command_line.proofs.words.matches.Goals as goal

left : (a b : Bool) → (a && b) ≡ true → a ≡ true
left true b h = refl
left false b h = h

no_fault : (kinds : Kinds) (xs ys : List Row) → kinds ≡ [] → xs ≡ ys
    → Some xs ≡ (if length kinds == 0 then Some ys else None)
no_fault [] xs ys none same = ap Some same
no_fault (k ∷ kinds) xs ys none same = absurd (cc)

pub returns-in-Ok : goal.returns-in-Ok
returns-in-Ok c =
    let simple : is_simple (app_of c.args.command) ≡ true = left (is_simple (app_of c.args.command)) _ c.requires in
    no_fault _ _ _ (c.in-Ok.ensures.kinds c.requires) (c.in-Ok.ensures.matches simple).0

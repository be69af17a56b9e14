-- A thing that has a number, counted from 1, has a place.
use Rattle.std.proofs.Common.{◌≡◌, ℕ, zero, suc, ◌-◌, ◌<◌, List, length, Some, arith}
use Rattle.base.specs.Lists.{numbered}
use Rattle.base.proofs.Lists.{at-below}

pub numbered-below : {A : Type 0} (xs : List A) (n : ℕ) (x : A) → numbered xs n ≡ Some x → n - 1 < length xs
numbered-below xs zero x e = absurd (cc e)
numbered-below xs (suc k) x e = omega (arith, at-below xs k x e)

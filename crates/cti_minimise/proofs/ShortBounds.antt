-- A short bound is one of the two.
use Rattle.std.proofs.Common.{◌≡◌, ℕ, ◌<◌, ◌≤◌, Bool, true, false, [], sym, ap}
use Rattle.std.specs.Prelude.{◌↔◌, nat_le, if◌then◌else◌}
use Rattle.fol_sig.specs.Tables.{size_at}
use Rattle.fol_sig.specs.Symbols.{Symbols}
use Rattle.fol_formula.specs.Syntax.{FormTree}
use Rattle.fol_formula.specs.Fits.{FitsForm}
use Rattle.fol_formula.specs.Fragments.{IsEa}
use Rattle.fol_formula.specs.Sentences.{is_true}
use Rattle.fol_formula.specs.Quantified.{AllBelow, AnyBelow}
use Rattle.cti_minimise.specs.SizeBounds.{most_paired, size_bound, pair_bound, short_bound}
use Rattle.cti_minimise.specs.Laws.{SizesAreBounded}
use Rattle.cti_minimise.proofs.BoundTruth.{bounds-exact}
use Rattle.cti_minimise.proofs.BoundFits.{bounds-ea, bounds-fit}
use Rattle.cti_minimise.proofs.PairTruth.{pairs-exact}
use Rattle.cti_minimise.proofs.PairFits.{pairs-ea, pairs-fit}

pub named-bounds : AllBelow → AnyBelow → SizesAreBounded size_bound
named-bounds all any = bounds-exact all any

-- what holds of both holds of the one that is chosen
chosen : (P : FormTree → Type 0) (b : Bool) (p q : FormTree) → P p → P q → P (if b then p else q)
chosen P true p q hp hq = hp
chosen P false p q hp hq = hq

pub short-bounds : AllBelow → AnyBelow → SizesAreBounded short_bound
short-bounds all any s k n some =
    chosen (λ p. (is_true s p ≡ true) ↔ (size_at s k ≤ n)) (nat_le n most_paired) (pair_bound k n) (size_bound k n)
    (pairs-exact all s k n) (bounds-exact all any s k n some)

pub short-ea : (k n : ℕ) → IsEa (short_bound k n)
short-ea k n = chosen IsEa (nat_le n most_paired) (pair_bound k n) (size_bound k n) (pairs-ea k n) (bounds-ea k n)

pub short-fit : (sig : Symbols) (k n : ℕ) → k < sig.sorts → FitsForm sig [] (short_bound k n)
short-fit sig k n known =
    chosen (FitsForm sig []) (nat_le n most_paired) (pair_bound k n) (size_bound k n) (pairs-fit sig k n known)
    (bounds-fit sig k n known)

-- on few elements it is said by pairs, on more by names
pub few-paired : (k n : ℕ) → nat_le n most_paired ≡ true → pair_bound k n ≡ short_bound k n
few-paired k n is = ap (λ (b : Bool). if b then pair_bound k n else size_bound k n) (sym is)

pub more-named : (k n : ℕ) → nat_le n most_paired ≡ false → size_bound k n ≡ short_bound k n
more-named k n is = ap (λ (b : Bool). if b then pair_bound k n else size_bound k n) (sym is)

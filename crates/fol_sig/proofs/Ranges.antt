-- Tuples in range, from one place to the next.
use Rattle.std.proofs.Common.{zero, suc, [], ◌∷◌, arith}
use Rattle.fol_sig.specs.Ranges.{RangesAreAlong, AlongIsInRange, RangesAppend, RangesSplit}
use Rattle.fol_sig.proofs.Places.{InRange-length, InRange-at}

pub ranges_are_along : RangesAreAlong
ranges_are_along sizes ks xs h =
    record { long = InRange-length sizes ks xs h; each = λ i lt. InRange-at sizes ks xs i h lt }

pub along_is_in_range : AlongIsInRange
along_is_in_range sizes [] [] h = tt
along_is_in_range sizes [] (x ∷ xs) h = absurd (omega (arith, h.long))
along_is_in_range sizes (k ∷ ks) [] h = absurd (omega (arith, h.long))
along_is_in_range sizes (k ∷ ks) (x ∷ xs) h = (
  h.each zero (omega arith),
  along_is_in_range sizes ks xs
      (record { long = omega (arith, h.long); each = λ i lt. h.each (suc i) (omega arith) }),
)

pub ranges_append : RangesAppend
ranges_append sizes [] js [] ys h g = g
ranges_append sizes [] js (x ∷ xs) ys h g = absurd h
ranges_append sizes (k ∷ ks) js [] ys h g = absurd h
ranges_append sizes (k ∷ ks) js (x ∷ xs) ys h g = (h.0, ranges_append sizes ks js xs ys h.1 g)

pub ranges_split : RangesSplit
ranges_split sizes [] js [] ys e h = (tt, h)
ranges_split sizes [] js (x ∷ xs) ys e h = absurd (omega (arith, e))
ranges_split sizes (k ∷ ks) js [] ys e h = absurd (omega (arith, e))
ranges_split sizes (k ∷ ks) js (x ∷ xs) ys e h = let rest = ranges_split sizes ks js xs ys (omega (arith, e)) h.1 in
    ((h.0, rest.0), rest.1)

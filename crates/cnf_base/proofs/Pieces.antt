-- Words, and their pieces up to each 0.
use Rattle.std.proofs.Common.{◌≡◌, Bool, true, false, List, [], ◌∷◌, refl, ap}
use Rattle.cnf_base.specs.Words.{Word}
use Rattle.cnf_base.specs.Pieces.{Pieces, is_zero, put, cut_behind, pieces_of}
use Rattle.cnf_base.specs.Cuts.{EndsAtZero, AreCut}

one_more : (w : Word) (p : List Word) → is_zero w ≡ false → EndsAtZero p → EndsAtZero (w ∷ p)
one_more w [] e h = absurd h
one_more w (v ∷ vs) e h = (e, h)

put_cut : (w : Word) (whole : List (List Word)) (rest ws : List Word) → is_zero w ≡ false
    → AreCut (record { whole = whole; rest = rest }) ws → AreCut (put w whole rest) (w ∷ ws)
put_cut w [] rest ws e h = record { same = ap (λ (vs : List Word). w ∷ vs) h.same; whole = tt; rest = (e, h.rest) }
put_cut w (p ∷ ps) rest ws e h = record
    { same = ap (λ (vs : List Word). w ∷ vs) h.same; whole = (one_more w p e h.whole.0, h.whole.1); rest = h.rest }

cut_more : (b : Bool) (w : Word) (ps : Pieces) (ws : List Word) → is_zero w ≡ b → AreCut ps ws
    → AreCut (cut_behind b w ps) (w ∷ ws)
cut_more true w ps ws e h = record {
  same = ap (λ (vs : List Word). w ∷ vs) h.same;
  whole =
      (e, h.whole);
  rest = h.rest;
}
cut_more false w ps ws e h = put_cut w ps.whole ps.rest ws e h

pub are_cut : (ws : List Word) → AreCut (pieces_of ws) ws
are_cut [] = record { same = refl; whole = tt; rest = tt }
are_cut (w ∷ ws) = cut_more (is_zero w) w (pieces_of ws) ws refl (are_cut ws)

-- Ascending places, and the places of tokens.
use Rattle.std.proofs.Common.{ℕ, ◌≤◌, List, [], ◌∷◌, ◌++◌, subst, arith}
use Rattle.std.proofs.lemmas.List.{map-append}
use Rattle.rml_lex.specs.declared.token.Token.{Token}
use Rattle.rml_phrases.specs.Language.{Tokens}
use Rattle.rml_phrases.specs.Ascending.{AscendBetween, starts}
use Rattle.rml_phrases.proofs.Walk.{Rules}

-- ---- ascending places

pub in_order : (lo hi : ℕ) (ps : List ℕ) → AscendBetween lo hi ps → lo ≤ hi
in_order lo hi [] h = h
in_order lo hi (p ∷ ps) h = omega (arith, h.0, in_order p hi ps h.1)

pub earlier : (from lo hi : ℕ) (ps : List ℕ) → from ≤ lo → AscendBetween lo hi ps → AscendBetween from hi ps
earlier from lo hi [] le h = omega (arith, le, h)
earlier from lo hi (p ∷ ps) le h = (omega (arith, le, h.0), h.1)

-- the places behind the first
pub behind : (lo hi p : ℕ) (ps : List ℕ) → AscendBetween lo hi (p ∷ ps) → AscendBetween lo hi ps
behind lo hi p ps h = earlier lo p hi ps h.0 h.1

pub later : (lo to hi : ℕ) (ps : List ℕ) → AscendBetween lo to ps → to ≤ hi → AscendBetween lo hi ps
later lo to hi [] h le = omega (arith, h, le)
later lo to hi (p ∷ ps) h le = (h.0, later p to hi ps h.1 le)

pub join : (lo mid hi : ℕ) (ps qs : List ℕ) → AscendBetween lo mid ps → AscendBetween mid hi qs
    → AscendBetween lo hi (ps ++ qs)
join lo mid hi [] qs h k = earlier lo mid hi qs h k
join lo mid hi (p ∷ ps) qs h k = (h.0, join p mid hi ps qs h.1 k)

-- ascending places, taken apart
pub cut : (lo hi : ℕ) (ps qs : List ℕ) → AscendBetween lo hi (ps ++ qs)
    → (mid : ℕ) × AscendBetween lo mid ps × AscendBetween mid hi qs
cut lo hi [] qs h = (lo, omega arith, h)
cut lo hi (p ∷ ps) qs h = let r = cut p hi ps qs h.1 in (r.0, (h.0, r.1), r.2)

-- the place of a token in front of others
pub lead : (lo mid hi at : ℕ) (ps : List ℕ) → AscendBetween lo mid (at ∷ []) → AscendBetween mid hi ps
    → AscendBetween lo hi (at ∷ ps)
lead lo mid hi at ps h k = join lo mid hi (at ∷ []) ps h k

-- an operand in front of another, between which stands a token
pub pair : (lo mid sign hi at : ℕ) (ps qs : List ℕ) → AscendBetween lo mid ps → AscendBetween mid sign (at ∷ [])
    → AscendBetween sign hi qs → AscendBetween lo hi (ps ++ qs)
pair lo mid sign hi at ps qs h t k = join lo mid hi ps qs h (behind mid hi at qs (lead mid sign hi at qs t k))

-- ---- tokens

-- ---- tokens

-- the places of two parts of tokens
pub tokens_cut : (lo hi : ℕ) (u v : Tokens) → AscendBetween lo hi (starts (u ++ v))
    → (mid : ℕ) × AscendBetween lo mid (starts u) × AscendBetween mid hi (starts v)
tokens_cut lo hi u v h =
    cut lo hi (starts u) (starts v) (subst (AscendBetween lo hi) (map-append (λ (t : Token). t.start) u v) h)

abbrev pub rules : Rules
rules = record {
  OfTokens = λ lo hi ts. AscendBetween lo hi (starts ts);
  OfPlace = λ lo at. lo ≤ at;
  cut = tokens_cut;
  front =
      λ lo hi u v h. let s = tokens_cut lo hi u v h in
      later lo s.0 hi (starts u) s.1 (in_order s.0 hi (starts v) s.2);
  back =
      λ lo hi u v h. let s = tokens_cut lo hi u v h in
      earlier lo s.0 hi (starts v) (in_order lo s.0 (starts u) s.1) s.2;
  begin = λ lo hi t ts h. (h.0, (omega arith, h.1));
}

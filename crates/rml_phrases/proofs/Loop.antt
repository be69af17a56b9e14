-- A loop over what stands behind signs.
use Rattle.std.proofs.Common.{
  ◌≡◌,
  ℕ,
  zero,
  suc,
  ◌<◌,
  ◌≤◌,
  false,
  List,
  [],
  ◌∷◌,
  ◌++◌,
  length,
  Ok,
  Err,
  refl,
  sym,
  ap,
  subst,
  ◌∙◌,
  append_assoc,
  arith,
}
use Rattle.std.proofs.lemmas.List.{append-nil}
use Rattle.rml_lex.specs.declared.token.Kind.{Kind}
use Rattle.rml_lex.specs.declared.token.Token.{Token}
use Rattle.rml_phrases.specs.declared.front.Stop.{Stop}
use Rattle.rml_phrases.specs.declared.front.Stop.TheVariants as stops
use Rattle.base.specs.declared.refused.Refused.{Refused}
use Rattle.base.specs.declared.refused.Refused.TheVariants as refused
use Rattle.rml_phrases.specs.Language.{Tokens, Phrase}
use Rattle.rml_phrases.specs.Reading.{begins, Follows, Unexpected, TooDeep, Failure, Read, Reader, ◌>>=◌, expect_at}
use Rattle.rml_phrases.specs.Reading.{both_at, made_at, times_at, more_at, Stops}
use Rattle.rml_phrases.specs.Good.{Exact}
use Rattle.rml_phrases.proofs.Exact.{same_number, longer_by}

-- what is read is taken
pub shorter : {A : Type 0} (p : Reader A) (L : Phrase A) (f m : List Kind) → Exact p L f m false
    → (ts : Tokens) (z : A × Tokens) → p ts ≡ Ok z → length z.1 < length ts
shorter p L f m P ts z e = let s =
    P.sound ts z e in omega (arith, ap length s.parts, longer_by p L f m P s.front z.1 z.0 s.means)

-- what was read before, and what the reading of the rest gives, are the whole
pub record Goes {A : Type 0} (k : Kind) (q : Reader A) (front all : List A) (rest tokens : Tokens) : Type 0 where
  pub turns : ℕ
  pub enough : length rest ≤ turns
  pub same : made_at (λ xs. front ++ xs) (times_at turns (k ∷ []) (made_at (λ x. x.1) (both_at (expect_at k) q))) rest
      ≡ made_at (λ xs. all ++ xs) (more_at k q) tokens

module _ {A : Type 0} (k : Kind) (q : Reader A) (all : List A) where
  pub starts_so : (tokens : Tokens) → Goes k q all all tokens tokens
  starts_so tokens = record { turns = length tokens; enough = omega arith; same = refl }

  module _ (front : List A) (tokens : Tokens) where
    abbrev Same : ℕ → Tokens → Type 0
    Same n rest =
        made_at (λ xs. front ++ xs) (times_at n (k ∷ []) (made_at (λ x. x.1) (both_at (expect_at k) q))) rest
        ≡ made_at (λ xs. all ++ xs) (more_at k q) tokens

    regroup : (x : A) (r : Read (List A)) → made_at (λ xs. front ++ xs) (λ ts. r >>= λ xs. Ok (x ∷ xs.0, xs.1)) []
        ≡ made_at (λ xs. (front ++ x ∷ []) ++ xs) (λ ts. r) []
    regroup x (Ok xs) = ap (λ (l : List A). Ok (l, xs.1)) (sym (append_assoc front (x ∷ []) xs.0))
    regroup x (Err w) = refl

    turn : (n : ℕ) (token : Token) (after : Tokens) (x : A) (left : Tokens) → token.kind ≡ k → q after ≡ Ok (x, left)
        → length (token ∷ after) ≤ n → length left < length after → Same n (token ∷ after)
        → Goes k q (front ++ x ∷ []) all left tokens
    turn zero token after x left is e le lt same = absurd (omega arith)
    turn (suc n) token after x left is e le lt same =
        let yes = same_number k token.kind (sym is) in
        let one : made_at (λ xs. front ++ xs) (times_at (suc n) (k ∷ [])
        (made_at (λ x. x.1) (both_at (expect_at k) q))) (token ∷ after)
        ≡ made_at (λ xs. (front ++ x ∷ []) ++ xs) (times_at n (k ∷ []) (made_at (λ x. x.1) (both_at (expect_at k) q)))
        left = rw (yes, e) (regroup x (times_at n (k ∷ []) (made_at (λ x. x.1) (both_at (expect_at k) q)) left)) in
        record { turns = n; enough = omega arith; same = sym one ∙ same }

    pub goes_on : (rest after : Tokens) (x : A) (left : Tokens) → Goes k q front all rest tokens
        → Follows k rest after → q after ≡ Ok (x, left) → length left < length after
        → Goes k q (front ++ x ∷ []) all left tokens
    goes_on rest after x left g f e lt =
        turn g.turns f.token after x left f.kind e (subst (λ (r : Tokens). length r ≤ g.turns) f.parts g.enough) lt
        (subst (Same g.turns) f.parts g.same)

    stop : (n : ℕ) (token : Token) (after : Tokens) (w : Failure) → token.kind ≡ k → q after ≡ Err w
        → length (token ∷ after) ≤ n → Same n (token ∷ after) → made_at (λ xs. all ++ xs) (more_at k q) tokens ≡ Err w
    stop zero token after w is e le same = absurd (omega arith)
    stop (suc n) token after w is e le same =
        let yes = same_number k token.kind (sym is) in
        let one : made_at (λ xs. front ++ xs) (times_at (suc n) (k ∷ [])
        (made_at (λ x. x.1) (both_at (expect_at k) q))) (token ∷ after) ≡ Err w = rw (yes, e) refl in
        sym same ∙ one

    pub ends : (e : Refused Stop) (rest after : Tokens) → Goes k q front all rest tokens → Follows k rest after
        → Stops e (q after) → Stops e (made_at (λ xs. all ++ xs) (more_at k q) tokens)
    ends refused.NoMemory rest after g f h = tt
    ends (refused.For (stops.Unexpected at)) rest after g f h =
        stop g.turns f.token after (record { why = Unexpected; rest = at.now }) f.kind h
        (subst (λ (r : Tokens). length r ≤ g.turns) f.parts g.enough) (subst (Same g.turns) f.parts g.same)
    ends (refused.For (stops.TooDeep at)) rest after g f h =
        stop g.turns f.token after (record { why = TooDeep; rest = at.now }) f.kind h
        (subst (λ (r : Tokens). length r ≤ g.turns) f.parts g.enough) (subst (Same g.turns) f.parts g.same)

    is_done : (n : ℕ) (rest : Tokens) → begins (k ∷ []) rest ≡ false
        → times_at n (k ∷ []) (made_at (λ x. x.1) (both_at (expect_at k) q)) rest ≡ Ok ([], rest)
    is_done zero rest e = refl
    is_done (suc n) rest e = rw e refl

    pub done : (rest : Tokens) → Goes k q front all rest tokens → begins (k ∷ []) rest ≡ false
        → made_at (λ xs. all ++ xs) (more_at k q) tokens ≡ Ok (front, rest)
    done rest g off =
        let one : made_at (λ xs. front ++ xs) (times_at g.turns (k ∷ [])
        (made_at (λ x. x.1) (both_at (expect_at k) q))) rest
        ≡ Ok (front, rest) = rw (is_done g.turns rest off) (ap (λ (l : List A). Ok (l, rest)) (append-nil front)) in
        sym g.same ∙ one

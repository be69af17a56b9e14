-- A loop over items with nothing between them.
use Rattle.std.proofs.Common.{
  ◌≡◌,
  ℕ,
  zero,
  suc,
  ◌<◌,
  ◌≤◌,
  true,
  false,
  List,
  [],
  ◌∷◌,
  ◌++◌,
  length,
  Ok,
  Err,
  refl,
  sym,
  ap,
  ◌∙◌,
  append_assoc,
  arith,
}
use Rattle.std.proofs.lemmas.List.{append-nil}
use Rattle.rml_lex.specs.declared.token.Kind.{Kind}
use Rattle.rml_phrases.specs.declared.front.Stop.{Stop}
use Rattle.rml_phrases.specs.declared.front.Stop.TheVariants as stops
use Rattle.base.specs.declared.refused.Refused.{Refused}
use Rattle.base.specs.declared.refused.Refused.TheVariants as refused
use Rattle.rml_phrases.specs.Language.{Tokens}
use Rattle.rml_phrases.specs.Reading.{begins, Unexpected, TooDeep, Failure, Read, Reader, ◌>>=◌, made_at, times_at}
use Rattle.rml_phrases.specs.Reading.{many_at, Stops}
use Rattle.rml_phrases.proofs.Exact.{begins-nil}

pub record Runs {A : Type 0} (f : List Kind) (q : Reader A) (front : List A) (rest tokens : Tokens) : Type 0 where
  pub turns : ℕ
  pub enough : length rest ≤ turns
  pub same : made_at (λ xs. front ++ xs) (times_at turns f q) rest ≡ many_at f q tokens

module _ {A : Type 0} (f : List Kind) (q : Reader A) where
  made_nil : (r : Read (List A)) → (r >>= λ x. Ok ([] ++ x.0, x.1)) ≡ r
  made_nil (Ok z) = refl
  made_nil (Err w) = refl

  pub run_begins : (tokens : Tokens) → Runs f q [] tokens tokens
  run_begins tokens = record { turns = length tokens; enough = omega arith; same = made_nil (many_at f q tokens) }

  abbrev Same : List A → Tokens → ℕ → Tokens → Type 0
  Same front tokens n rest = made_at (λ xs. front ++ xs) (times_at n f q) rest ≡ many_at f q tokens

  regroup : (front : List A) (x : A) (r : Read (List A))
      → made_at (λ xs. front ++ xs) (λ ts. r >>= λ xs. Ok (x ∷ xs.0, xs.1)) []
      ≡ made_at (λ xs. (front ++ x ∷ []) ++ xs) (λ ts. r) []
  regroup front x (Ok xs) = ap (λ (l : List A). Ok (l, xs.1)) (sym (append_assoc front (x ∷ []) xs.0))
  regroup front x (Err w) = refl

  turn : (front : List A) (tokens : Tokens) (n : ℕ) (rest : Tokens) (x : A) (after : Tokens) → length rest ≤ n
      → Same front tokens n rest → begins f rest ≡ true → q rest ≡ Ok (x, after) → length after < length rest
      → Runs f q (front ++ x ∷ []) after tokens
  turn front tokens zero rest x after le same on e lt = absurd (omega arith)
  turn front tokens (suc n) rest x after le same on e lt =
      let one : made_at (λ xs. front ++ xs) (times_at (suc n) f q) rest
      ≡ made_at (λ xs. (front ++ x ∷ []) ++ xs) (times_at n f q) after =
      rw (on, e) (regroup front x (times_at n f q after)) in
      record { turns = n; enough = omega arith; same = sym one ∙ same }

  pub run_goes_on : (front : List A) (rest tokens : Tokens) → Runs f q front rest tokens → (x : A) (after : Tokens)
      → begins f rest ≡ true → q rest ≡ Ok (x, after) → length after < length rest
      → Runs f q (front ++ x ∷ []) after tokens
  run_goes_on front rest tokens g x after on e lt = turn front tokens g.turns rest x after g.enough g.same on e lt

  stop : (front : List A) (tokens : Tokens) (n : ℕ) (rest : Tokens) (w : Failure) → length rest ≤ n
      → Same front tokens n rest → begins f rest ≡ true → q rest ≡ Err w → many_at f q tokens ≡ Err w
  stop front tokens zero rest w le same on e = absurd (omega (arith, begins-nil f rest on))
  stop front tokens (suc n) rest w le same on e =
      let one : made_at (λ xs. front ++ xs) (times_at (suc n) f q) rest ≡ Err w = rw (on, e) refl in
      sym same ∙ one

  pub run_ends : (front : List A) (rest tokens : Tokens) → Runs f q front rest tokens → (e : Refused Stop)
      → begins f rest ≡ true → Stops e (q rest) → Stops e (many_at f q tokens)
  run_ends front rest tokens g refused.NoMemory on h = tt
  run_ends front rest tokens g (refused.For (stops.Unexpected at)) on h =
      stop front tokens g.turns rest (record { why = Unexpected; rest = at.now }) g.enough g.same on h
  run_ends front rest tokens g (refused.For (stops.TooDeep at)) on h =
      stop front tokens g.turns rest (record { why = TooDeep; rest = at.now }) g.enough g.same on h

  is_done : (n : ℕ) (rest : Tokens) → begins f rest ≡ false → times_at n f q rest ≡ Ok ([], rest)
  is_done zero rest e = refl
  is_done (suc n) rest e = rw e refl

  pub run_done : (front : List A) (rest tokens : Tokens) → Runs f q front rest tokens → begins f rest ≡ false
      → many_at f q tokens ≡ Ok (front, rest)
  run_done front rest tokens g off =
      let one : made_at (λ xs. front ++ xs) (times_at g.turns f q) rest
      ≡ Ok (front, rest) = rw (is_done g.turns rest off) (ap (λ (l : List A). Ok (l, rest)) (append-nil front)) in
      sym g.same ∙ one

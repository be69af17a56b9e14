-- A loop over items with signs between them.
use Rattle.std.proofs.Common.{◌≡◌, ℕ, zero, suc, ◌<◌, ◌≤◌, true, false, List, [], ◌∷◌, ◌++◌, length, Ok, Err}
use Rattle.std.proofs.Common.{refl, sym, ap, subst, ◌∙◌, append_assoc, arith}
use Rattle.std.proofs.lemmas.List.{append-nil}
use Rattle.rml_lex.specs.declared.token.Kind.{Kind}
use Rattle.rml_lex.specs.declared.token.Token.{Token}
use Rattle.rml_phrases.specs.declared.front.Stop.{Stop}
use Rattle.rml_phrases.specs.declared.front.Stop.TheVariants as stops
use Rattle.base.specs.declared.refused.Refused.{Refused}
use Rattle.base.specs.declared.refused.Refused.TheVariants as refused
use Rattle.rml_phrases.specs.Language.{Tokens}
use Rattle.rml_phrases.specs.Reading.{begins, Follows, Unexpected, TooDeep, Failure, Read, Reader, ◌>>=◌, made_at}
use Rattle.rml_phrases.specs.Reading.{listed_for, listed_at, Stops}
use Rattle.rml_phrases.proofs.Listed.{item_last, item_fails, no_item, terminal_begins, terminal_taken}

-- what was read before, and what the reading of the rest gives, are the whole
pub record Lists {A : Type 0} (f : List Kind) (k : Kind) (q : Reader A) (front : List A) (rest tokens : Tokens) : Type
    0 where
  pub turns : ℕ
  pub enough : length rest ≤ turns
  pub same : made_at (λ xs. front ++ xs) (listed_for turns f k q) rest ≡ listed_at f k q tokens

module _ {A : Type 0} (f : List Kind) (k : Kind) (q : Reader A) where
  made_nil : (r : Read (List A)) → (r >>= λ x. Ok ([] ++ x.0, x.1)) ≡ r
  made_nil (Ok z) = refl
  made_nil (Err w) = refl

  pub begun : (tokens : Tokens) → Lists f k q [] tokens tokens
  begun tokens = record { turns = length tokens; enough = omega arith; same = made_nil (listed_at f k q tokens) }

  module _ (front : List A) (rest tokens : Tokens) (g : Lists f k q front rest tokens) where
    pub all_done : begins f rest ≡ false → listed_at f k q tokens ≡ Ok (front, rest)
    all_done off =
        let one : made_at (λ xs. front ++ xs) (listed_for g.turns f k q) rest
        ≡ Ok (front, rest) = rw (no_item k q f g.turns rest off)
        (ap (λ (l : List A). Ok (l, rest)) (append-nil front)) in
        sym g.same ∙ one

    pub item_is_last : (x : A) (left : Tokens) → begins f rest ≡ true → q rest ≡ Ok (x, left) → begins (k ∷ []) left
        ≡ false → listed_at f k q tokens ≡ Ok (front ++ x ∷ [], left)
    item_is_last x left on e off =
        let one : made_at (λ xs. front ++ xs) (listed_for g.turns f k q) rest
        ≡ Ok (front ++ x ∷ [], left) = rw (item_last k q f g.turns rest left x on g.enough e off) refl in
        sym g.same ∙ one

    fails_so : (w : Failure) → begins f rest ≡ true → q rest ≡ Err w → listed_at f k q tokens ≡ Err w
    fails_so w on e =
        let one : made_at (λ xs. front ++ xs) (listed_for g.turns f k q) rest
        ≡ Err w = rw (item_fails k q f g.turns rest w on g.enough e) refl in
        sym g.same ∙ one

    pub item_ends : (e : Refused Stop) → begins f rest ≡ true → Stops e (q rest) → Stops e (listed_at f k q tokens)
    item_ends refused.NoMemory on h = tt
    item_ends (refused.For (stops.Unexpected at)) on h = fails_so (record { why = Unexpected; rest = at.now }) on h
    item_ends (refused.For (stops.TooDeep at)) on h = fails_so (record { why = TooDeep; rest = at.now }) on h

  abbrev Same : List A → Tokens → ℕ → Tokens → Type 0
  Same front tokens n rest = made_at (λ xs. front ++ xs) (listed_for n f k q) rest ≡ listed_at f k q tokens

  regroup : (front : List A) (x : A) (r : Read (List A))
      → made_at (λ xs. front ++ xs) (λ ts. r >>= λ xs. Ok (x ∷ xs.0, xs.1)) []
      ≡ made_at (λ xs. (front ++ x ∷ []) ++ xs) (λ ts. r) []
  regroup front x (Ok xs) = ap (λ (l : List A). Ok (l, xs.1)) (sym (append_assoc front (x ∷ []) xs.0))
  regroup front x (Err w) = refl

  turn : (front : List A) (tokens : Tokens) (n : ℕ) (rest : Tokens) (x : A) (token : Token) (after : Tokens)
      → length rest ≤ n → Same front tokens n rest → begins f rest ≡ true → q rest ≡ Ok (x, token ∷ after)
      → token.kind ≡ k → length (token ∷ after) < length rest → Lists f k q (front ++ x ∷ []) after tokens
  turn front tokens zero rest x token after le same on e is lt = absurd (omega arith)
  turn front tokens (suc n) rest x token after le same on e is lt =
      let one : made_at (λ xs. front ++ xs) (listed_for (suc n) f k q) rest
      ≡ made_at (λ xs. (front ++ x ∷ []) ++ xs) (listed_for n f k q) after =
      rw (on, e, terminal_begins k token after is, terminal_taken k token after is)
      (regroup front x (listed_for n f k q after)) in
      record { turns = n; enough = omega arith; same = sym one ∙ same }

  pub item_goes_on : (front : List A) (rest tokens : Tokens) (g : Lists f k q front rest tokens) (x : A)
      (left after : Tokens) → begins f rest ≡ true → q rest ≡ Ok (x, left) → Follows k left after
      → length left < length rest → Lists f k q (front ++ x ∷ []) after tokens
  item_goes_on front rest tokens g x left after on e h lt =
      turn front tokens g.turns rest x h.token after g.enough g.same on (e ∙ ap (λ (r : Tokens). Ok (x, r)) h.parts)
      h.kind (subst (λ (r : Tokens). length r < length rest) h.parts lt)

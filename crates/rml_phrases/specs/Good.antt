-- What is proved of a reader: that it reads its piece, and nothing else, and how it fails.
use Rattle.std.specs.Prelude.{◌≡◌, ◌≤◌, Bool, true, false, ◌⊎◌, List, [], ◌∷◌, ◌++◌, length, Option, Some, None, Result}
use Rattle.std.specs.Prelude.{Ok, Err}
use Rattle.rml_lex.specs.declared.token.Kind.{Kind}
use Rattle.rml_lex.specs.declared.token.Token.{Token}
use Rattle.rml_phrases.specs.Language.{Tokens, Phrase, Begins}
use Rattle.rml_phrases.specs.Piece.{Piece}
use Rattle.rml_phrases.specs.Reading.{begins, TooDeep, Failure, Read, Reader, fails}

-- ---- exact

-- the next token; at the end there is none
abbrev pub head : Tokens → Option Token
head [] = None
head (t ∷ ts) = Some t

-- it took a front of the tokens that spells its value
pub record Took {A : Type 0} (p : Reader A) (L : Phrase A) (ts : Tokens) (z : A × Tokens) : Type 0 where
  pub front : Tokens
  pub parts : ts ≡ front ++ z.1
  pub means : L front z.0
  -- it looks at one token behind the phrase, and no further
  pub again : (vs : Tokens) → head z.1 ≡ head vs → p (front ++ vs) ≡ Ok (z.0, vs)

-- some tokens spell a value of it
pub record Some_of {A : Type 0} (L : Phrase A) : Type 0 where
  pub tokens : Tokens
  pub value : A
  pub means : L tokens value

-- it stopped behind a front of the tokens
pub record Stuck {A : Type 0} (p : Reader A) (L : Phrase A) (ts : Tokens) (f : Failure) : Type 0 where
  pub front : Tokens
  pub parts : ts ≡ front ++ f.rest
  pub again : (vs : Tokens) → head f.rest ≡ head vs → p (front ++ vs) ≡ fails f.why vs

-- It reads the phrases of L, and nothing else. They begin with the first kinds, and may go on with the others; they may
-- be empty where the last is true.
pub record Exact {A : Type 0} (p : Reader A) (L : Phrase A) (first more : List Kind) (empty : Bool) : Type 0 where
  pub sound : (ts : Tokens) (z : A × Tokens) → p ts ≡ Ok z → Took p L ts z
  pub stuck : (ts : Tokens) (f : Failure) → p ts ≡ Err f → Stuck p L ts f
  pub complete : (ts us : Tokens) (x : A) → L ts x → begins more us ≡ false → p (ts ++ us) ≡ Ok (x, us)
  pub starts : (ts : Tokens) (x : A) → L ts x → (begins first ts ≡ true) ⊎ ((empty ≡ true) × (ts ≡ []))

-- ---- with one level more

-- it failed at a token that opens one level too many
abbrev pub Deepens : {A : Type 0} → Result A Failure → Type 0
Deepens r = (at : Tokens) × (r ≡ fails TooDeep at)

-- the token that opens one level too many goes on, where there is one level more
pub record Opens {A : Type 0} (L : Phrase A) (ts at : Tokens) : Type 0 where
  pub front : Tokens
  pub token : Token
  pub after : Tokens
  pub parts : ts ≡ front ++ at
  pub here : at ≡ token ∷ after
  pub goes_on : Begins L (front ++ token ∷ [])

-- what comes before a fault goes on, where there is one level more
pub record Viable {A : Type 0} (L : Phrase A) (ts rest : Tokens) : Type 0 where
  pub front : Tokens
  pub parts : ts ≡ front ++ rest
  pub begins : (front ≡ []) ⊎ Begins L front

-- q, with one level more than p, answers the same, but where p met its limit
pub record Extends {A : Type 0} (p q : Reader A) (L M : Phrase A) : Type 0 where
  pub viable : (ts : Tokens) (w : Failure) → p ts ≡ Err w → Viable M ts w.rest
  pub same : (ts : Tokens) → (p ts ≡ q ts) ⊎ Deepens (p ts)
  pub wider : (ts : Tokens) (x : A) → L ts x → M ts x
  pub opens : (ts at : Tokens) → p ts ≡ fails TooDeep at → Opens M ts at

-- ---- how a piece may begin

-- the tokens that were not read: those behind the value, or those from the fault on
abbrev pub rest_of : {A : Type 0} → Read A → Tokens
rest_of (Ok z) = z.1
rest_of (Err w) = w.rest

-- it stops nowhere inside tokens that may begin its piece, and what it took before a fault is such
pub record Fronts {A : Type 0} (p : Reader A) (L : Phrase A) (F : Tokens → Type 0) (f : List Kind) : Type 0 where
  pub whole : (ts : Tokens) (x : A) → L ts x → F ts
  pub starts : (ts : Tokens) → F ts → (ts ≡ []) ⊎ (begins f ts ≡ true)
  pub keeps : (us vs : Tokens) → F us → length (rest_of (p (us ++ vs))) ≤ length vs
  pub within : (us : Tokens) (w : Failure) → p (us ++ w.rest) ≡ Err w → F us

-- what begins so, begins so at each token of it
abbrev pub IsClosed : (Tokens → Type 0) → Type 0
IsClosed F = (u v : Tokens) → F (u ++ v) → F u

-- ---- all of it

-- p reads a, and with one level more q reads b. f is what a begins with, m what it may go on with; it may be empty
-- where e is true
pub record Good {A : Type 0} (p q : Reader A) (a b : Piece A) (f m : List Kind) (e : Bool) : Type 0 where
  pub exact : Exact p a.whole f m e
  pub grows : Extends p q a.whole b.whole
  pub fronts : Fronts p a.whole a.front f
  pub some : Some_of b.whole
  pub closed : IsClosed a.front

-- no tokens are of the piece, not even as a beginning
pub record IsNothing {A : Type 0} (a : Piece A) : Type 0 where
  pub whole : (ts : Tokens) (x : A) → a.whole ts x → ⊥
  pub front : (ts : Tokens) → a.front ts → ⊥

-- the same of what lies inside a token that opens a level
abbrev pub Held : {A : Type 0} → Option (Reader A) → Option (Reader A) → Piece A → Piece A → List Kind → List Kind
    → Bool → Type 0
Held None None a b f m e = ⊥
Held None (Some q) a b f m e = IsNothing a × Some_of b.whole
Held (Some p) None a b f m e = ⊥
Held (Some p) (Some q) a b f m e = Good p q a b f m e

-- o reads a and r, with one level more, reads b, inside a token that opens a level; None is where no level is left
pub record Inside {A : Type 0} (o r : Option (Reader A)) (a b : Piece A) (f m : List Kind) (e : Bool) : Type 0 where
  pub held : Held o r a b f m e

-- Reading from left to right, with the first fault that is met: what the functions of a parser give, one reader for
-- each word of a grammar.
use Rattle.std.specs.Prelude.{◌≡◌, ℕ, ◌+◌, zero, suc, Bool, false, ◌||◌, ◌==◌, cond, List, [], ◌∷◌, length, Option}
use Rattle.std.specs.Prelude.{Some, None, Result, Ok, Err}
use Rattle.std.specs.Borrow.{Bor}
use Rattle.base.specs.declared.refused.Refused.{Refused}
use Rattle.base.specs.declared.refused.Refused.TheVariants as refused
use Rattle.rml_lex.specs.declared.token.Token.{Token}
use Rattle.rml_lex.specs.declared.token.Kind.{Kind}
use Rattle.rml_lex.specs.declared.token.Kind.TheVariants.{Word, Sign}
use Rattle.rml_lex.specs.declared.token.Kind.TheVariants as kind
use Rattle.rml_lex.specs.declared.token.Word.{Word as WordType}
use Rattle.rml_lex.specs.declared.token.Sign.{Sign as SignType}
use Rattle.rml_lex.specs.declared.token.Word.TheVariants.{
  Rml,
  Sort,
  Relation,
  Function,
  Variable,
  Axiom,
  Conjecture,
  Init,
  Action,
  Final,
  Skip,
  Abort,
  Assume,
  Assert,
  If,
  Else,
  Choose,
  Or,
  Insert,
  Remove,
  Put,
  Forall,
  Exists,
  True,
  False,
  Ite,
  Define,
}
use Rattle.rml_lex.specs.declared.token.Sign.TheVariants.{
  DoubleArrow,
  Arrow,
  Becomes,
  NotEqual,
  OpenBrace,
  CloseBrace,
  OpenParen,
  CloseParen,
  Comma,
  Semicolon,
  Colon,
  Dot,
  Equal,
  Not as Tilde,
  And as Ampersand,
  Or as Bar,
  Star,
}
use Rattle.rml_phrases.specs.declared.front.Stop.{Stop}
use Rattle.rml_phrases.specs.declared.front.Stop.TheVariants as stops
use Rattle.rml_phrases.specs.Language.{Tokens, place_of}

-- ---- kinds, by number

abbrev pub word_number : WordType → ℕ
word_number Rml = 0
word_number Sort = 1
word_number Relation = 2
word_number Function = 3
word_number Variable = 4
word_number Axiom = 5
word_number Conjecture = 6
word_number Init = 7
word_number Action = 8
word_number Final = 9
word_number Skip = 10
word_number Abort = 11
word_number Assume = 12
word_number Assert = 13
word_number If = 14
word_number Else = 15
word_number Choose = 16
word_number Or = 17
word_number Insert = 18
word_number Remove = 19
word_number Put = 20
word_number Forall = 21
word_number Exists = 22
word_number True = 23
word_number False = 24
word_number Ite = 25
word_number Define = 26

abbrev pub sign_number : SignType → ℕ
sign_number DoubleArrow = 0
sign_number Arrow = 1
sign_number Becomes = 2
sign_number NotEqual = 3
sign_number OpenBrace = 4
sign_number CloseBrace = 5
sign_number OpenParen = 6
sign_number CloseParen = 7
sign_number Comma = 8
sign_number Semicolon = 9
sign_number Colon = 10
sign_number Dot = 11
sign_number Equal = 12
sign_number Tilde = 13
sign_number Ampersand = 14
sign_number Bar = 15
sign_number Star = 16

-- the number of a kind, by which kinds are compared
abbrev pub number : Kind → ℕ
number kind.Name = 0
number kind.Number = 1
number (Word w) = 2 + word_number w
number (Sign s) = 29 + sign_number s

-- the kind is one of these
abbrev pub has : List Kind → Kind → Bool
has [] k = false
has (j ∷ js) k = (number j == number k) || has js k

-- there is a next token, and it is of one of these kinds
abbrev pub begins : List Kind → Tokens → Bool
begins ks [] = false
begins ks (t ∷ ts) = has ks t.kind

-- a token of this kind, and then the others
pub record Follows (k : Kind) (ts us : Tokens) : Type 0 where
  pub token : Token
  pub parts : ts ≡ token ∷ us
  pub kind : token.kind ≡ k

-- ---- the words

-- why reading stops: what comes next cannot stand there, or it opens a level where none is left
pub data Why : Type 0 where
  Unexpected : Why
  TooDeep : Why

-- why the reading stopped, and what it had not read
pub record Failure : Type 0 where
  pub why : Why
  pub rest : Tokens

-- a value and the tokens behind those that spell it, or a failure
abbrev pub Read : Type 0 → Type 0
Read A = Result (A × Tokens) Failure

-- what reads a value off the front of tokens
abbrev pub Reader : Type 0 → Type 0
Reader A = Tokens → Read A

infixl 10 ◌>>=◌
-- goes on with the value, or keeps the failure
abbrev pub ◌>>=◌ : {A B : Type 0} → Result A Failure → (A → Result B Failure) → Result B Failure
(Ok x) >>= f = f x
(Err e) >>= f = Err e

-- the failure that leaves these tokens
abbrev pub fails : {A : Type 0} → Why → Tokens → Result A Failure
fails why ts = Err (record { why = why; rest = ts })

-- one token of this kind
abbrev pub expect_at : Kind → Reader Token
expect_at k [] = fails Unexpected []
expect_at k (t ∷ ts) = cond (number k == number t.kind) (Ok (t, ts)) (fails Unexpected (t ∷ ts))

-- p, and behind it q
abbrev pub both_at : {A B : Type 0} → Reader A → Reader B → Reader (A × B)
both_at p q ts = p ts >>= λ x. q x.1 >>= λ y. Ok ((x.0, y.0), y.1)

-- p, whose value is made into another
abbrev pub made_at : {A B : Type 0} → (A → B) → Reader A → Reader B
made_at f p ts = p ts >>= λ x. Ok (f x.0, x.1)

-- p where the next token is of one of these kinds, and else q
abbrev pub either_at : {A : Type 0} → List Kind → Reader A → Reader A → Reader A
either_at first p q ts = cond (begins first ts) (p ts) (q ts)

-- p where the next token is of one of these kinds, and else nothing
abbrev pub optional_at : {A : Type 0} → List Kind → Reader A → Reader (Option A)
optional_at first p ts = cond (begins first ts) (p ts >>= λ x. Ok (Some x.0, x.1)) (Ok (None, ts))

-- p as long as the next token is of one of these kinds, but no more than so many times
abbrev pub times_at : {A : Type 0} → ℕ → List Kind → Reader A → Reader (List A)
times_at zero first p ts = Ok ([], ts)
times_at (suc n) first p ts =
    cond (begins first ts) (p ts >>= λ x. times_at n first p x.1 >>= λ xs. Ok (x.0 ∷ xs.0, xs.1)) (Ok ([], ts))

-- p as long as the next token is of one of these kinds, but no more often than there are tokens
abbrev pub many_at : {A : Type 0} → List Kind → Reader A → Reader (List A)
many_at first p ts = times_at (length ts) first p ts

-- p, with the place of its first token
abbrev pub placed_at : {A : Type 0} → Reader A → Reader (ℕ × A)
placed_at p ts = p ts >>= λ x. Ok ((place_of ts, x.0), x.1)

-- a token that opens a level, and what lies inside, where there is a level left
abbrev pub opening_at : {A : Type 0} → Kind → Option (Reader A) → Reader (Token × A)
opening_at k None ts = expect_at k ts >>= λ x. fails TooDeep ts
opening_at k (Some p) ts = both_at (expect_at k) p ts

-- items, each but the last with a k behind it; there may be one behind the last
abbrev pub listed_for : {A : Type 0} → ℕ → List Kind → Kind → Reader A → Reader (List A)
listed_for zero first k p ts = Ok ([], ts)
listed_for (suc n) first k p ts = cond (begins first ts)
    (p ts >>= λ x. cond (begins (k ∷ []) x.1)
    (expect_at k x.1 >>= λ y. listed_for n first k p y.1 >>= λ xs. Ok (x.0 ∷ xs.0, xs.1))
    (Ok (x.0 ∷ [], x.1)))
    (Ok ([], ts))

-- [a {k a} [k]], where p reads a, and `first` is what a begins with
abbrev pub listed_at : {A : Type 0} → List Kind → Kind → Reader A → Reader (List A)
listed_at first k p ts = listed_for (length ts) first k p ts

-- j a k, where j opens a level, and a is read where a level is left
abbrev pub between_at : {A : Type 0} → Kind → Option (Reader A) → Kind → Reader A
between_at j p k = made_at (λ x. x.0.1) (both_at (opening_at j p) (expect_at k))

-- k a
abbrev pub after_at : {A : Type 0} → Kind → Reader A → Reader A
after_at k p = made_at (λ x. x.1) (both_at (expect_at k) p)

-- {k a}
abbrev pub more_at : {A : Type 0} → Kind → Reader A → Reader (List A)
more_at k p = many_at (k ∷ []) (after_at k p)

-- a {k a}
abbrev pub separated_at : {A : Type 0} → Kind → Reader A → Reader (List A)
separated_at k p = made_at (λ x. x.0 ∷ x.1) (both_at p (more_at k p))

-- ---- what a function of the parser gives

-- a stop is the failure of reading, and leaves the same tokens; a want of memory says nothing of the reading
abbrev pub Stops : {Y : Type 0} → Refused Stop → Result Y Failure → Type 0
Stops (refused.For (stops.Unexpected rest)) read = read ≡ fails Unexpected rest.now
Stops (refused.For (stops.TooDeep rest)) read = read ≡ fails TooDeep rest.now
Stops refused.NoMemory read = Unit {0}

-- What a function returned, seen by view, is what reading gives, unless memory ran out.
abbrev pub Gives : {X Y : Type 0} → (X → Y) → Result X (Refused Stop) → Result Y Failure → Type 0
Gives view (Ok x) read = read ≡ Ok (view x)
Gives view (Err e) read = Stops e read

-- the same of a value and the tokens behind what spells it
abbrev pub Reads : {X Y : Type 0} → (X → Y) → Result (X × Bor Tokens) (Refused Stop) → Reader Y → Tokens → Type 0
Reads view result read ts = Gives (λ x. (view x.0, x.1.now)) result (read ts)

-- The words of a text. Its bytes are cut into lines at each line feed. A line whose first byte is `c` is a comment; the
-- others are cut into words at each blank.
use Rattle.std.specs.Prelude.{ℕ, ◌+◌, Bool, false, ◌==◌, List, [], ◌∷◌, ◌++◌, map, if◌then◌else◌}
use Rattle.base.specs.Bytes.{is_blank}

-- a byte and its place
pub record Byte : Type 0 where
  pub at : ℕ
  pub byte : ℕ

-- bytes, the first of which stands at this place
abbrev pub placed : ℕ → List ℕ → List Byte
placed at [] = []
placed at (b ∷ bytes) = record { at = at; byte = b } ∷ placed (at + 1) bytes

-- one more byte in front of the first piece
abbrev pub onto : Byte → List (List Byte) → List (List Byte)
onto b [] = (b ∷ []) ∷ []
onto b (piece ∷ pieces) = (b ∷ piece) ∷ pieces

-- the pieces before, between and behind the bytes of a kind
abbrev pub cut : (ℕ → Bool) → List Byte → List (List Byte)
cut is_end [] = [] ∷ []
cut is_end (b ∷ bytes) = if is_end b.byte then [] ∷ cut is_end bytes else onto b (cut is_end bytes)

-- a word and the place of its first byte
pub record Word : Type 0 where
  pub at : ℕ
  pub text : List ℕ

-- a piece is a word, unless it is empty
abbrev pub as_words : List (List Byte) → List Word
as_words [] = []
as_words ([] ∷ pieces) = as_words pieces
as_words ((b ∷ bytes) ∷ pieces) = record { at = b.at; text = b.byte ∷ map (λ x. x.byte) bytes } ∷ as_words pieces

-- whether the line begins with a `c`, 99
abbrev pub is_comment : List Byte → Bool
is_comment [] = false
is_comment (b ∷ bytes) = b.byte == 99

-- the words of these lines that are no comments
abbrev pub words_in : List (List Byte) → List Word
words_in [] = []
words_in (line ∷ lines) = (if is_comment line then [] else as_words (cut is_blank line)) ++ words_in lines

-- the words of a text, in order
unfoldable pub words_of : List ℕ → List Word
words_of text = words_in (cut (λ b. b == 10) (placed 0 text))

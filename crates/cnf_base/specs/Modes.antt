-- How the words of a text are found byte by byte, from what stood before.
use Rattle.std.specs.Prelude.{ℕ, ◌+◌, Bool, false, ◌==◌, not, List, [], ◌∷◌, take, if◌then◌else◌}
use Rattle.std.specs.List.{prefix_len}
use Rattle.cnf_base.specs.declared.text.LineMode.{LineMode}
use Rattle.cnf_base.specs.declared.text.LineMode.TheVariants.{LineStart, InLine, InWord, Comment}
use Rattle.cnf_base.specs.Words.{Word}
use Rattle.base.specs.Bytes.{is_blank}

-- behind a byte that is no part of a comment
abbrev pub behind : ℕ → LineMode
behind b = if b == 10 then LineStart else if is_blank b then InLine else InWord

-- behind any byte; a comment ends at the line feed, 10, and begins at a `c`, 99, at the start of a line
abbrev pub next_mode : LineMode → ℕ → LineMode
next_mode Comment b = if b == 10 then LineStart else Comment
next_mode LineStart b = if b == 99 then Comment else behind b
next_mode InLine b = behind b
next_mode InWord b = behind b

-- whether a word begins with this byte
abbrev pub begins_word : LineMode → ℕ → Bool
begins_word Comment b = false
begins_word LineStart b = if b == 99 then false else not (is_blank b)
begins_word InLine b = not (is_blank b)
begins_word InWord b = false

-- the bytes up to the next blank
abbrev pub word_of : List ℕ → List ℕ
word_of bytes = take (prefix_len (λ b. not (is_blank b)) bytes) bytes

-- the words of these bytes, the first of which stands at this place
abbrev pub words_from : LineMode → ℕ → List ℕ → List Word
words_from mode at [] = []
words_from mode at (b ∷ bytes) =
    if begins_word mode b
    then record { at = at; text = word_of (b ∷ bytes) } ∷ words_from (next_mode mode b) (at + 1) bytes
    else words_from (next_mode mode b) (at + 1) bytes

-- Data as a list of marks, by which proofs tell data apart.
use Rattle.std.specs.Prelude.{◌≡◌, ℕ, ℤ, pos, ◌==◌, if◌then◌else◌, Bool, true, false, List, [], ◌∷◌, refl}
use Rattle.std.specs.Float.{Float, nan}
use Rattle.std.specs.Coded.{Coded, code_by, coded×, coded_ℕ, coded_ℤ, coded_list}
use base.Stored.{coded_float}
use Rattle.std.proofs.Common.{ap, ◌∙◌}
use Rattle.serde_json.specs.Data.{Num, unsigned, negative, float, Data, null, boolean, number, string, array, object}
use Rattle.serde_json.specs.Data.{Items, no_items, item, Members, no_members, member}

-- a kind, and what stands in it: bytes or a number, an integer, a float
abbrev pub Mark : Type 0
Mark = ℕ × (List ℕ × (ℤ × Float))

-- a mark with bytes or a number, and neither integer nor float
abbrev pub plain_mark : ℕ → List ℕ → Mark
plain_mark kind bytes = (kind, (bytes, (pos 0, nan)))

-- each truth value is a kind of its own
abbrev pub truth_mark : Bool → Mark
truth_mark false = plain_mark 1 []
truth_mark true = plain_mark 2 []

-- each sort of number is a kind of its own
abbrev pub number_mark : Num → Mark
number_mark (unsigned n) = plain_mark 3 (n ∷ [])
number_mark (negative z) = (4, ([], (z, nan)))
number_mark (float x) = (5, ([], (pos 0, x)))

-- the marks of data, before others
abbrev mutual
  pub encode : Data → List Mark → List Mark
  encode null rest = plain_mark 0 [] ∷ rest
  encode (boolean b) rest = truth_mark b ∷ rest
  encode (number n) rest = number_mark n ∷ rest
  encode (string s) rest = plain_mark 6 s ∷ rest
  encode (array ds) rest = plain_mark 7 [] ∷ encode_items ds rest
  encode (object ms) rest = plain_mark 8 [] ∷ encode_members ms rest

  pub encode_items : Items → List Mark → List Mark
  encode_items no_items rest = plain_mark 9 [] ∷ rest
  encode_items (item d ds) rest = plain_mark 10 [] ∷ encode d (encode_items ds rest)

  pub encode_members : Members → List Mark → List Mark
  encode_members no_members rest = plain_mark 11 [] ∷ rest
  encode_members (member k d ms) rest = plain_mark 12 k ∷ encode d (encode_members ms rest)

-- what marks stand for: a value, or all items or members from some one on
pub data Piece : Type 0 where
  a_value : Data → Piece
  some_items : Items → Piece
  some_members : Members → Piece

-- pieces that are decoded, that of the first mark on top
abbrev pub Stack : Type 0
Stack = List Piece

-- goes on with the value on top; nothing where there is none
abbrev pub on_value : Stack → (Data → Stack → Stack) → Stack
on_value (a_value d ∷ rest) go = go d rest
on_value _ go = []

-- goes on with the items on top; nothing where there are none
abbrev pub on_items : Stack → (Items → Stack → Stack) → Stack
on_items (some_items ds ∷ rest) go = go ds rest
on_items _ go = []

-- goes on with the members on top; nothing where there are none
abbrev pub on_members : Stack → (Members → Stack → Stack) → Stack
on_members (some_members ms ∷ rest) go = go ms rest
on_members _ go = []

-- the first number, or 0
abbrev pub first_of : List ℕ → ℕ
first_of [] = 0
first_of (n ∷ ns) = n

-- one mark, before what follows it
abbrev pub apply : ℕ → List ℕ → ℤ → Float → Stack → Stack
apply kind s z x rest =
    if kind == 0 then a_value null ∷ rest
    else if kind == 1 then a_value (boolean false) ∷ rest
    else if kind == 2 then a_value (boolean true) ∷ rest
    else if kind == 3 then a_value (number (unsigned (first_of s))) ∷ rest
    else if kind == 4 then a_value (number (negative z)) ∷ rest
    else if kind == 5 then a_value (number (float x)) ∷ rest
    else if kind == 6 then a_value (string s) ∷ rest
    else if kind == 7 then on_items rest (λ ds rest. a_value (array ds) ∷ rest)
    else if kind == 8 then on_members rest (λ ms rest. a_value (object ms) ∷ rest)
    else if kind == 9 then some_items no_items ∷ rest
    else if kind == 10 then on_value rest (λ d rest. on_items rest (λ ds rest. some_items (item d ds) ∷ rest))
    else if kind == 11 then some_members no_members ∷ rest
    else on_value rest (λ d rest. on_members rest (λ ms rest. some_members (member s d ms) ∷ rest))

-- what the marks stand for, from the last to the first
abbrev pub decode : List Mark → Stack
decode [] = []
decode (t ∷ ts) = apply t.0 t.1.0 t.1.1.0 t.1.1.1 (decode ts)

-- decoding gives back what was encoded, on top of what the marks behind it stand for
mutual
  pub decode-value : (d : Data) (rest : List Mark) → decode (encode d rest) ≡ a_value d ∷ decode rest
  decode-value null rest = refl
  decode-value (boolean false) rest = refl
  decode-value (boolean true) rest = refl
  decode-value (number (unsigned n)) rest = refl
  decode-value (number (negative z)) rest = refl
  decode-value (number (float x)) rest = refl
  decode-value (string s) rest = refl
  decode-value (array ds) rest = ap (apply 7 [] (pos 0) nan) (decode-items ds rest)
  decode-value (object ms) rest = ap (apply 8 [] (pos 0) nan) (decode-members ms rest)

  pub decode-items : (ds : Items) (rest : List Mark) → decode (encode_items ds rest) ≡ some_items ds ∷ decode rest
  decode-items no_items rest = refl
  decode-items (item d ds) rest =
      ap (apply 10 [] (pos 0) nan)
      (decode-value d (encode_items ds rest) ∙ ap (λ s. a_value d ∷ s) (decode-items ds rest))

  pub decode-members : (ms : Members) (rest : List Mark)
      → decode (encode_members ms rest) ≡ some_members ms ∷ decode rest
  decode-members no_members rest = refl
  decode-members (member k d ms) rest =
      ap (apply 12 k (pos 0) nan)
      (decode-value d (encode_members ms rest) ∙ ap (λ s. a_value d ∷ s) (decode-members ms rest))

-- the value on top, or null
abbrev pub first_value : Stack → Data
first_value (a_value d ∷ rest) = d
first_value _ = null

-- the members on top, or none
abbrev pub first_members : Stack → Members
first_members (some_members ms ∷ rest) = ms
first_members _ = no_members

abbrev pub marks_code : Coded (List Mark)
marks_code = coded_list (coded× coded_ℕ (coded× (coded_list coded_ℕ) (coded× coded_ℤ coded_float)))

-- data is coded as its marks
abbrev pub data_code : Coded Data
data_code =
    code_by (List Mark) marks_code (λ d. encode d []) (λ ts. first_value (decode ts))
    (λ d. ap first_value (decode-value d []))

-- members are coded as their marks
abbrev pub members_code : Coded Members
members_code =
    code_by (List Mark) marks_code (λ ms. encode_members ms []) (λ ts. first_members (decode ts))
    (λ ms. ap first_members (decode-members ms []))

abbrev pub values_code : Coded (List Data)
values_code = coded_list data_code

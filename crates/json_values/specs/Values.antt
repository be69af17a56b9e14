-- Words for the data of values.
use Rattle.std.specs.Prelude.{ℕ, ◌≡◌, Bool, true, false, List, [], ◌∷◌, ◌++◌, map, codes, encode_utf8_all}
use Rattle.std.specs.Prelude.{Option, Some, None, IfSome, IsSomeAnd}
use Rattle.serde_json.specs.Data.{Data, number, unsigned, string, array, object, Members, no_members, put}
use Rattle.serde_json.specs.View.{items_of}
use Rattle.serde_json.specs.Written.{compact_text}

-- the text whose characters have these numbers; where all are below 128, as in names, it is the text of these bytes
unfoldable pub text_data : List ℕ → Data
text_data bytes = string (encode_utf8_all bytes)

abbrev pub number_data : ℕ → Data
number_data n = number (unsigned n)

unfoldable pub list_data : List Data → Data
list_data ds = array (items_of ds)

-- members with one more, or with another value under a name that is there; they are kept in the order of their names
unfoldable pub with_member : Members → List ℕ → Data → Members
with_member ms name d = put name d ms

-- members with these, set one after another
abbrev pub set_each : Members → List (List ℕ × Data) → Members
set_each ms [] = ms
set_each ms (m ∷ more) = set_each (with_member ms m.0 m.1) more

-- An object that is being built, before and after these members are set. It is none where memory was wanting, and then
-- stays none.
abbrev pub IsBuiltBy : Option Members → List (List ℕ × Data) → Option Members → Type 0
IsBuiltBy before ms after = IfSome after (λ new. IsSomeAnd before (λ old. new ≡ set_each old ms))

-- A list that is being built, before and after these values are added. It is none where memory was wanting, and then
-- stays none.
abbrev pub IsListedBy : Option (List Data) → List Data → Option (List Data) → Type 0
IsListedBy before ds after = IfSome after (λ new. IsSomeAnd before (λ old. new ≡ old ++ ds))

-- what is built, unless memory was wanting for some of it
abbrev pub unless_short : {T : Type 0} → Bool → T → Option T
unless_short true x = None
unless_short false x = Some x

-- an object with these members
abbrev pub object_of : List (List ℕ × Data) → Data
object_of ms = object (set_each no_members ms)

-- {"kind":"init"}
unfoldable pub kind_data : List ℕ → Data
kind_data kind = object_of ((codes "kind", string kind) ∷ [])

-- {"kind":"action","name":"send"}
unfoldable pub named_data : List ℕ → Data → Data
named_data kind name = object_of ((codes "kind", string kind) ∷ (codes "name", name) ∷ [])

-- {"kind":"conflicts","number":100}
unfoldable pub counted_data : List ℕ → ℕ → Data
counted_data kind n = object_of ((codes "kind", string kind) ∷ (codes "number", number_data n) ∷ [])

-- [0,1]
unfoldable pub numbers_data : List ℕ → Data
numbers_data ns = list_data (map number_data ns)

-- a line of a file: the value without blanks, and a line feed
unfoldable pub line_text : Data → List ℕ
line_text d = compact_text d ++ 10 ∷ []

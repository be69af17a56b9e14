-- Paths and models as lists of tokens, by which proofs tell them apart.
use Rattle.std.specs.Prelude.{◌≡◌, ℕ, ◌==◌, if◌then◌else◌, List, [], ◌∷◌, refl}
use Rattle.std.specs.Coded.{Coded, code_by, coded×, coded_ℕ, coded_list}
use Rattle.std.proofs.Common.{ap, ◌∙◌}
use Rattle.fol_formula.specs.Syntax.{FormTree, TermTree, top, bound}
use Rattle.fol_formula.specs.Code.{Token, Stack, a_term, encode_term, decode, decode-term, form_code}
use Rattle.rml_command.specs.Trees.{
  PrimitiveTree,
  assume,
  set_rel,
  set_fun,
  havoc,
  havoc_rel,
  abort,
  CommandTree,
  CommandTrees,
  prim,
  seq,
  choose,
  no_commands,
  command_then,
}

-- the term on top of a stack; where there is none, bound 0
abbrev pub first_term : Stack → TermTree
first_term (a_term t ∷ rest) = t
first_term _ = bound 0

-- terms, by their tokens
abbrev pub term_code : Coded TermTree
term_code =
    code_by (List Token) (coded_list (coded× coded_ℕ coded_ℕ)) (λ t. encode_term t []) (λ ts. first_term (decode ts))
    (λ t. ap first_term (decode-term t []))

-- the parts of a primitive, behind its number
abbrev pub PrimitiveParts : Type 0
PrimitiveParts = ℕ × (ℕ × (FormTree × TermTree))

-- the number of a primitive's kind and its parts; what it does not have is 0, `top` or bound 0
abbrev pub primitive_parts : PrimitiveTree → PrimitiveParts
primitive_parts (assume p) = (0, (0, (p, bound 0)))
primitive_parts (set_rel r by) = (1, (r, (by, bound 0)))
primitive_parts (set_fun f by) = (2, (f, (top, by)))
primitive_parts (havoc v) = (3, (v, (top, bound 0)))
primitive_parts (havoc_rel r) = (4, (r, (top, bound 0)))
primitive_parts abort = (5, (0, (top, bound 0)))

-- the primitive with these parts
abbrev pub primitive_back : PrimitiveParts → PrimitiveTree
primitive_back t =
    if t.0 == 0 then assume t.1.1.0
    else if t.0 == 1 then set_rel t.1.0 t.1.1.0
    else if t.0 == 2 then set_fun t.1.0 t.1.1.1
    else if t.0 == 3 then havoc t.1.0
    else if t.0 == 4 then havoc_rel t.1.0
    else abort

-- a primitive is that of its parts
pub primitive-back : (q : PrimitiveTree) → primitive_back (primitive_parts q) ≡ q
primitive-back (assume p) = refl
primitive-back (set_rel r by) = refl
primitive-back (set_fun f by) = refl
primitive-back (havoc v) = refl
primitive-back (havoc_rel r) = refl
primitive-back abort = refl

-- primitives, by their parts
abbrev pub primitive_code : Coded PrimitiveTree
primitive_code =
    code_by PrimitiveParts (coded× coded_ℕ (coded× coded_ℕ (coded× form_code term_code))) primitive_parts primitive_back
    primitive-back

abbrev pub path_code : Coded (List PrimitiveTree)
path_code = coded_list primitive_code

abbrev pub paths_code : Coded (List (List PrimitiveTree))
paths_code = coded_list path_code

-- a number that says what stands there, and a primitive
abbrev pub CommandToken : Type 0
CommandToken = ℕ × PrimitiveTree

-- A command's tokens in prefix order, before others. The number says what stands there: a primitive, a sequence, a
-- choice, the end of a list, one command more; the primitive counts with the first of these alone.
abbrev mutual
  pub encode_command : CommandTree → List CommandToken → List CommandToken
  encode_command (prim q) rest = (0, q) ∷ rest
  encode_command (seq cs) rest = (1, abort) ∷ encode_commands cs rest
  encode_command (choose cs) rest = (2, abort) ∷ encode_commands cs rest

  pub encode_commands : CommandTrees → List CommandToken → List CommandToken
  encode_commands no_commands rest = (3, abort) ∷ rest
  encode_commands (command_then c cs) rest = (4, abort) ∷ encode_command c (encode_commands cs rest)

-- what stands on the stack that tokens are read with
pub data CommandItem : Type 0 where
  a_command : CommandTree → CommandItem
  some_commands : CommandTrees → CommandItem

-- goes on with the command on top of the stack; where there is none, the stack is emptied
abbrev pub on_command : List CommandItem → (CommandTree → List CommandItem → List CommandItem) → List CommandItem
on_command (a_command c ∷ rest) go = go c rest
on_command _ go = []

-- and so with the list on top of it
abbrev pub on_commands : List CommandItem → (CommandTrees → List CommandItem → List CommandItem) → List CommandItem
on_commands (some_commands cs ∷ rest) go = go cs rest
on_commands _ go = []

-- what one token makes of the stack
abbrev pub apply_command : ℕ → PrimitiveTree → List CommandItem → List CommandItem
apply_command tag q s =
    if tag == 0 then a_command (prim q) ∷ s
    else if tag == 1 then on_commands s (λ cs s. a_command (seq cs) ∷ s)
    else if tag == 2 then on_commands s (λ cs s. a_command (choose cs) ∷ s)
    else if tag == 3 then some_commands no_commands ∷ s
    else on_command s (λ c s. on_commands s (λ cs s. some_commands (command_then c cs) ∷ s))

-- the stack behind tokens, which are read from the last to the first
abbrev pub decode_command : List CommandToken → List CommandItem
decode_command [] = []
decode_command (t ∷ ts) = apply_command t.0 t.1 (decode_command ts)

mutual
  pub decode-command : (c : CommandTree) (rest : List CommandToken)
      → decode_command (encode_command c rest) ≡ a_command c ∷ decode_command rest
  decode-command (prim q) rest = refl
  decode-command (seq cs) rest = ap (apply_command 1 abort) (decode-commands cs rest)
  decode-command (choose cs) rest = ap (apply_command 2 abort) (decode-commands cs rest)

  pub decode-commands : (cs : CommandTrees) (rest : List CommandToken)
      → decode_command (encode_commands cs rest) ≡ some_commands cs ∷ decode_command rest
  decode-commands no_commands rest = refl
  decode-commands (command_then c cs) rest =
      ap (apply_command 4 abort)
      (decode-command c (encode_commands cs rest) ∙ ap (λ s. a_command c ∷ s) (decode-commands cs rest))

-- the command on top of a stack; where there is none, `skip`
abbrev pub first_command : List CommandItem → CommandTree
first_command (a_command c ∷ rest) = c
first_command _ = seq no_commands

-- commands, by their tokens
abbrev pub command_code : Coded CommandTree
command_code =
    code_by (List CommandToken) (coded_list (coded× coded_ℕ primitive_code)) (λ c. encode_command c [])
    (λ ts. first_command (decode_command ts)) (λ c. ap first_command (decode-command c []))

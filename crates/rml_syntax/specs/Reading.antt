-- What the functions of the parser give: one reader for each production of the grammar, and whole texts. No public
-- contract cites it.
use Rattle.std.specs.Prelude.{ℕ, zero, suc, Bool, true, false, cond, List, [], ◌∷◌, drop, Option}
use Rattle.std.specs.Prelude.{Some, None, Result, Ok}
use Rattle.rml_lex.specs.declared.token.Kind.{Kind}
use Rattle.rml_lex.specs.declared.token.Kind.TheVariants.{Word, Sign}
use Rattle.rml_lex.specs.declared.token.Kind.TheVariants as kind
use Rattle.rml_lex.specs.declared.token.Word.TheVariants.{Rml, Sort, Relation, Function, Variable, Axiom, Conjecture}
use Rattle.rml_lex.specs.declared.token.Word.TheVariants.{Init, Action, Final, Skip, Abort, Assume, Assert, If, Else}
use Rattle.rml_lex.specs.declared.token.Word.TheVariants.{Choose, Or, Insert, Remove, Put, Define}
use Rattle.rml_lex.specs.declared.token.Sign.TheVariants.{Arrow, Becomes, OpenBrace, CloseBrace, OpenParen}
use Rattle.rml_lex.specs.declared.token.Sign.TheVariants.{CloseParen, Comma, Semicolon, Colon, Equal, Star}
use Rattle.rml_lex.specs.declared.token.Fault.{Fault}
use Rattle.rml_lex.specs.declared.fault_code.FaultCode.{FaultCode}
use Rattle.rml_lex.specs.declared.fault_code.FaultCode.TheVariants as fault_code
use Rattle.rml_phrases.specs.declared.front.Stop.{Stop}
use Rattle.rml_phrases.specs.declared.front.Stop.TheVariants as stops
use Rattle.rml_phrases.specs.Language.{Tokens, or_none}
use Rattle.rml_phrases.specs.Reading.{Why, Unexpected, TooDeep, Failure, Reader, ◌>>=◌, fails, expect_at}
use Rattle.rml_phrases.specs.Reading.{both_at, made_at, either_at, optional_at, many_at, listed_at, between_at}
use Rattle.rml_phrases.specs.Reading.{after_at, separated_at}
use Rattle.rml_terms.specs.declared.tree.Name.{Name}
use Rattle.rml_terms.specs.declared.tree.Binder.{Binder}
use Rattle.rml_terms.specs.Tree.{ExprTree}
use Rattle.rml_terms.specs.Reading as terms
use Rattle.rml_terms.specs.Reading.{piece, name_at, names_at, parameters_at, enclosed_at, arguments_at, expr_at}
use Rattle.rml_terms.specs.Reading.{binder_at}
use Rattle.rml_syntax.specs.declared.tree.Format.{Format}
use Rattle.rml_syntax.specs.declared.tree.Format.TheVariants.{One, Two}
use Rattle.rml_syntax.specs.Grammar.{max_levels}
use Rattle.rml_syntax.specs.Faults.{format_of, place_at}
use Rattle.rml_syntax.specs.Tree as node
use Rattle.rml_syntax.specs.Tree.{CommandTree, ItemTree, FileTree, assumed, asserted, branched, choice, inserted}
use Rattle.rml_syntax.specs.Tree.{removed, putting, assigned}

-- what reads the pieces one level deeper, of terms and of commands
pub record Inners : Type 0 where
  pub terms : Option terms.Inners
  pub cmds : Option (Reader (List CommandTree))

-- "{" cmds "}"
unfoldable pub block_at : Inners → Reader (List CommandTree)
block_at inner = between_at (Sign OpenBrace) inner.cmds (Sign CloseBrace)

-- ["else" block]: without it, no commands
unfoldable pub else_block_at : Inners → Reader (List CommandTree)
else_block_at inner = made_at or_none (optional_at (Word Else ∷ []) (after_at (Word Else) (block_at inner)))

-- "*" | expr
unfoldable pub value_at : Inners → Reader (Option ExprTree)
value_at inner =
    either_at (Sign Star ∷ []) (made_at (λ t. None) (expect_at (Sign Star)))
    (made_at (λ e. Some e) (expr_at inner.terms))

-- NAME ["(" exprs ")"]
abbrev pub called_at : Inners → Reader (Name × List ExprTree)
called_at inner = both_at name_at (arguments_at inner.terms)

-- expr block ["else" block]: what stands behind `if`
abbrev pub if_at : Inners → Reader ((ExprTree × List CommandTree) × List CommandTree)
if_at inner = both_at (both_at (expr_at inner.terms) (block_at inner)) (else_block_at inner)

-- NAME "(" exprs ")" "=" expr: what stands behind `put`
abbrev pub put_at : Inners → Reader ((Name × List ExprTree) × ExprTree)
put_at inner = both_at (both_at name_at (enclosed_at inner.terms)) (after_at (Sign Equal) (expr_at inner.terms))

-- NAME ["(" names ")"] ":=" ("*" | expr)
abbrev pub assign_at : Inners → Reader CommandTree
assign_at inner =
    made_at assigned (both_at (both_at name_at (parameters_at inner.terms)) (after_at (Sign Becomes) (value_at inner)))

-- one command: by its first word, and where it begins with none of them, an assignment
unfoldable pub cmd_at : Inners → Reader CommandTree
cmd_at inner = either_at (Word Skip ∷ []) (made_at (λ t. node.Skip t.start) (expect_at (Word Skip)))
    (either_at (Word Abort ∷ []) (made_at (λ t. node.Abort t.start) (expect_at (Word Abort)))
    (either_at (Word Assume ∷ []) (made_at assumed (both_at (expect_at (Word Assume)) (expr_at inner.terms)))
    (either_at (Word Assert ∷ []) (made_at asserted (both_at (expect_at (Word Assert)) (expr_at inner.terms)))
    (either_at (Word If ∷ []) (made_at branched (both_at (expect_at (Word If)) (if_at inner)))
    (either_at (Word Choose ∷ [])
    (made_at choice (both_at (expect_at (Word Choose)) (separated_at (Word Or) (block_at inner))))
    (either_at (Word Insert ∷ []) (made_at inserted (both_at (expect_at (Word Insert)) (called_at inner)))
    (either_at (Word Remove ∷ []) (made_at removed (both_at (expect_at (Word Remove)) (called_at inner)))
    (either_at (Word Put ∷ []) (made_at putting (both_at (expect_at (Word Put)) (put_at inner)))
    (assign_at inner)))))))))

-- what a command begins with
abbrev pub cmd_starts : List Kind
cmd_starts =
    Word Skip ∷ Word Abort ∷ Word Assume ∷ Word Assert ∷ Word If ∷ Word Choose ∷ Word Insert ∷ Word Remove ∷ Word Put
    ∷ kind.Name ∷ []

-- [cmd {";" cmd} [";"]]
unfoldable pub cmds_at : Inners → Reader (List CommandTree)
cmds_at inner = listed_at cmd_starts (Sign Semicolon) (cmd_at inner)

-- NAME ":" a
abbrev pub named_at : {A : Type 0} → Reader A → Reader (Name × A)
named_at p = both_at name_at (after_at (Sign Colon) p)

-- an item of both formats, by its first word; `final` is tried last
unfoldable pub plain_item_at : Inners → Reader ItemTree
plain_item_at inner = either_at (Word Relation ∷ [])
    (made_at (λ x. node.Relation x.0 x.1) (after_at (Word Relation) (both_at name_at (parameters_at inner.terms))))
    (either_at (Word Function ∷ [])
    (made_at (λ x. node.Function x.0.0 x.0.1 x.1)
    (after_at (Word Function) (both_at (named_at names_at) (after_at (Sign Arrow) name_at))))
    (either_at (Word Variable ∷ []) (made_at (λ x. node.Variable x.0 x.1) (after_at (Word Variable) (named_at name_at)))
    (either_at (Word Axiom ∷ [])
    (made_at (λ x. node.Axiom x.0 x.1) (after_at (Word Axiom) (named_at (expr_at inner.terms))))
    (either_at (Word Conjecture ∷ [])
    (made_at (λ x. node.Conjecture x.0 x.1) (after_at (Word Conjecture) (named_at (expr_at inner.terms))))
    (either_at (Word Init ∷ [])
    (made_at (λ x. node.Init x.0.start x.1) (both_at (expect_at (Word Init)) (block_at inner)))
    (either_at (Word Action ∷ [])
    (made_at (λ x. node.Action x.0 x.1) (after_at (Word Action) (both_at name_at (block_at inner))))
    (made_at (λ x. node.Final x.0.start x.1) (both_at (expect_at (Word Final)) (block_at inner)))))))))

-- ["=" "{" names "}"]: without it, no names
unfoldable pub elements_at : Inners → Reader (List Name)
elements_at inner =
    made_at or_none
    (optional_at (Sign Equal ∷ [])
    (after_at (Sign Equal) (between_at (Sign OpenBrace) (piece (λ r. r.names) inner.terms) (Sign CloseBrace))))

-- binder {"," binder}
unfoldable pub binders_at : Reader (List Binder)
binders_at = separated_at (Sign Comma) binder_at

-- ["(" binders ")"]: without parentheses, no parameters
unfoldable pub bound_parameters_at : Inners → Reader (List Binder)
bound_parameters_at inner =
    made_at or_none
    (optional_at (Sign OpenParen ∷ [])
    (between_at (Sign OpenParen) (piece (λ r. binders_at) inner.terms) (Sign CloseParen)))

-- "sort" NAME ["=" "{" names "}"]
abbrev pub sort_at : Inners → Reader ItemTree
sort_at inner = made_at (λ x. node.Sort x.0 x.1) (after_at (Word Sort) (both_at name_at (elements_at inner)))

-- "define" NAME ["(" binders ")"] ":=" expr
abbrev pub definition_at : Inners → Reader ItemTree
definition_at inner = made_at (λ x. node.Define x.0.0 x.0.1 x.1)
    (after_at (Word Define)
    (both_at (both_at name_at (bound_parameters_at inner)) (after_at (Sign Becomes) (expr_at inner.terms))))

-- an item; names of elements and definitions are read in format 2 alone
unfoldable pub item_at : Format → Inners → Reader ItemTree
item_at One inner =
    either_at (Word Sort ∷ []) (made_at (λ n. node.Sort n []) (after_at (Word Sort) name_at)) (plain_item_at inner)
item_at Two inner =
    either_at (Word Sort ∷ []) (sort_at inner)
    (either_at (Word Define ∷ []) (definition_at inner) (plain_item_at inner))

-- what an item of both formats begins with, but for `sort`
abbrev pub plain_starts : List Kind
plain_starts =
    Word Relation ∷ Word Function ∷ Word Variable ∷ Word Axiom ∷ Word Conjecture ∷ Word Init ∷ Word Action
    ∷ Word Final ∷ []

-- what an item begins with
abbrev pub item_starts : Format → List Kind
item_starts One = Word Sort ∷ plain_starts
item_starts Two = Word Sort ∷ Word Define ∷ plain_starts

-- ["rml" NUMBER] {item}
unfoldable pub items_at : Format → Inners → Reader (List ItemTree)
items_at format inner =
    either_at (Word Rml ∷ [])
    (made_at (λ x. x.1)
    (after_at (Word Rml)
    (both_at (expect_at kind.Number) (many_at (item_starts format) (item_at format inner)))))
    (many_at (item_starts format) (item_at format inner))

-- what reads the commands in a block in which so many levels may open
abbrev pub inside_at : ℕ → Option (Reader (List CommandTree))
inside_at zero = None
inside_at (suc n) = Some (cmds_at (record { terms = terms.inners n; cmds = inside_at n }))

-- the readers of the pieces in which so many levels may open
abbrev pub inners : ℕ → Inners
inners n = record { terms = terms.inners n; cmds = inside_at n }

-- no token is left
abbrev pub is_end : Tokens → Bool
is_end [] = true
is_end (t ∷ ts) = false

-- all of the tokens, in this format
unfoldable pub all_at : Format → ℕ → Tokens → Result (List ItemTree) Failure
all_at format levels ts =
    items_at format (inners levels) ts >>= λ x. cond (is_end x.1) (Ok x.0) (fails Unexpected x.1)

-- a tree of this format
abbrev pub of_format : Format → Result (List ItemTree) Failure → Result FileTree Failure
of_format format read = read >>= λ items. Ok (record { format = format; items = items })

-- all of the tokens, in the format that is said; where none is, the number of none stops the reading
abbrev pub read_in : Option Format → Tokens → Result FileTree Failure
read_in None ts = fails Unexpected (drop 1 ts)
read_in (Some format) ts = of_format format (all_at format max_levels ts)

-- all of a text's tokens
abbrev pub read_at : List ℕ → Tokens → Result FileTree Failure
read_at text ts = read_in (format_of text ts) ts

-- the code of a fault, by why the reading stopped
abbrev pub code_of : Why → FaultCode
code_of Unexpected = fault_code.UnexpectedToken
code_of TooDeep = fault_code.DeepNesting

-- the fault of a text where reading failed: at the next token, or at the text's end
abbrev pub failure_of : List ℕ → Failure → Fault
failure_of text f = record { code = code_of f.why; at = place_at text f.rest }

-- the fault of a text where a function of the parser stopped, likewise
abbrev pub fault_of : List ℕ → Stop → Fault
fault_of text (stops.Unexpected rest) = record { code = fault_code.UnexpectedToken; at = place_at text rest.now }
fault_of text (stops.TooDeep rest) = record { code = fault_code.DeepNesting; at = place_at text rest.now }

-- Each production's reader is good for its piece: the proof of a production is the production, in the words of Pieces.
use Rattle.std.proofs.Common.{ℕ, zero, suc, true, false, List, [], ◌∷◌, ◌++◌, Some, None, refl}
use Rattle.rml_lex.specs.declared.token.Kind.{Kind}
use Rattle.rml_lex.specs.declared.token.Kind.TheVariants.{Word, Sign}
use Rattle.rml_lex.specs.declared.token.Kind.TheVariants as kind
use Rattle.rml_lex.specs.declared.token.Word.TheVariants.{Rml, Sort, Relation, Function, Variable, Axiom, Conjecture}
use Rattle.rml_lex.specs.declared.token.Word.TheVariants.{Init, Action, Final, Skip, Abort, Assume, Assert, If, Else}
use Rattle.rml_lex.specs.declared.token.Word.TheVariants.{Choose, Or, Insert, Remove, Put, Define}
use Rattle.rml_lex.specs.declared.token.Sign.TheVariants.{Arrow, Becomes, OpenBrace, CloseBrace, OpenParen, Comma}
use Rattle.rml_lex.specs.declared.token.Sign.TheVariants.{CloseParen, Semicolon, Colon, Equal, Star}
use Rattle.rml_phrases.specs.Language.{or_none}
use Rattle.rml_phrases.specs.Piece.{Piece, nothing, ◌⊗◌, ◌⇒◌, after}
use Rattle.rml_phrases.specs.Reading.{Reader}
use Rattle.rml_phrases.specs.Good.{Good, Inside, IsNothing}
use Rattle.rml_phrases.proofs.Pieces.{a_terminal, both, made, either, at_most_once, any_number, a_list, wider}
use Rattle.rml_phrases.proofs.Pieces.{enclosing, leading, separating, no_listed}
use Rattle.rml_terms.specs.Tree.{name_of, binder_of}
use Rattle.rml_terms.specs.Grammar as grammar
use Rattle.rml_terms.specs.Grammar.{name, parameters, enclosed, arguments, expr, binder}
use Rattle.rml_terms.specs.Reading as terms_at
use Rattle.rml_terms.specs.Reading.{piece, parameters_at, enclosed_at, arguments_at, expr_at, binder_at}
use Rattle.rml_terms.specs.Laws.{AreRead, expr_starts, after_expr, after_exprs}
use Rattle.rml_syntax.specs.Tree as node
use Rattle.rml_syntax.specs.Tree.{assumed, asserted, branched, choice, inserted, removed, putting, assigned}
use Rattle.rml_syntax.specs.Grammar as g
use Rattle.rml_syntax.specs.declared.tree.Format.{Format}
use Rattle.rml_syntax.specs.declared.tree.Format.TheVariants.{One, Two}
use Rattle.rml_syntax.specs.Grammar.{Inner, named, inside, binders_inside, level, file}
use Rattle.rml_syntax.specs.Reading.{Inners, inside_at, inners, named_at, block_at, else_block_at, value_at, called_at}
use Rattle.rml_syntax.specs.Reading.{if_at, put_at, assign_at, cmd_at, cmd_starts, cmds_at, plain_item_at, plain_starts}
use Rattle.rml_syntax.specs.Reading.{elements_at, binders_at, bound_parameters_at, definition_at, sort_at, item_at}
use Rattle.rml_syntax.specs.Reading.{item_starts, items_at}

-- ---- what a piece may go on with

abbrev pub after_cmd : List Kind
after_cmd = Word Else ∷ Word Or ∷ after_expr

abbrev pub after_cmds : List Kind
after_cmds = Sign Semicolon ∷ (after_cmd ++ cmd_starts)

-- ---- parameters of definitions

pub binder_good : Good binder_at binder_at binder binder (kind.Name ∷ []) [] false
unfolding binder_at
binder_good =
    let word = made name_of (a_terminal kind.Name) in
    made binder_of (both word (leading (Sign Colon) word) refl)

binders_good : Good binders_at binders_at g.binders g.binders (kind.Name ∷ []) (Sign Comma ∷ []) false
unfolding binders_at
binders_good = separating (Sign Comma) binder_good refl

-- ---- the terms, and what is one level deeper

pub record Deeper (o r : Inners) (I J : Inner) : Type 0 where
  pub parameters : Good (parameters_at o.terms) (parameters_at r.terms) (parameters I.terms) (parameters J.terms)
      (Sign OpenParen ∷ []) (Sign OpenParen ∷ []) true
  pub enclosed : Good (enclosed_at o.terms) (enclosed_at r.terms) (enclosed I.terms) (enclosed J.terms)
      (Sign OpenParen ∷ []) [] false
  pub arguments : Good (arguments_at o.terms) (arguments_at r.terms) (arguments I.terms) (arguments J.terms)
      (Sign OpenParen ∷ []) (Sign OpenParen ∷ []) true
  pub expr : Good (expr_at o.terms) (expr_at r.terms) (expr I.terms) (expr J.terms) expr_starts after_expr false
  pub cmds : Inside o.cmds r.cmds I.cmds J.cmds cmd_starts after_cmds true
  pub names : Inside (piece (λ x. x.names) o.terms) (piece (λ x. x.names) r.terms) I.terms.names J.terms.names
      (kind.Name ∷ []) (Sign Comma ∷ []) false
  pub binders : Inside (piece (λ x. binders_at) o.terms) (piece (λ x. binders_at) r.terms) I.binders J.binders
      (kind.Name ∷ []) (Sign Comma ∷ []) false

module _ (terms : AreRead) where
  -- ---- the productions

  naming : {A : Type 0} {p q : Reader A} {a b : Piece A} {f m : List Kind} → Good p q a b f m false
      → Good (named_at p) (named_at q) (named a) (named b) (kind.Name ∷ []) m false
  naming P = both terms.name (leading (Sign Colon) P) refl

  module _ (o r : Inners) (I J : Inner) (d : Deeper o r I J) where
    pub block_good : Good (block_at o) (block_at r) (g.block I) (g.block J) (Sign OpenBrace ∷ []) [] false
    unfolding block_at
    block_good = enclosing (Sign OpenBrace) (Sign CloseBrace) d.cmds refl

    else_block_good : Good (else_block_at o) (else_block_at r) (g.else_block I) (g.else_block J) (Word Else ∷ [])
        (Word Else ∷ []) true
    unfolding else_block_at
    else_block_good = made or_none (at_most_once (leading (Word Else) block_good))

    value_good : Good (value_at o) (value_at r) (g.value I) (g.value J) (Sign Star ∷ expr_starts) after_expr false
    unfolding value_at
    value_good = either (made (λ t. None) (a_terminal (Sign Star))) (made (λ e. Some e) d.expr) refl

    called_good : Good (called_at o) (called_at r) (name ⊗ arguments I.terms) (name ⊗ arguments J.terms)
        (kind.Name ∷ []) (Sign OpenParen ∷ []) false
    called_good = both terms.name d.arguments refl

    if_good : Good (if_at o) (if_at r) ((expr I.terms ⊗ g.block I) ⊗ g.else_block I)
        ((expr J.terms ⊗ g.block J) ⊗ g.else_block J) expr_starts (Word Else ∷ []) false
    if_good = both (both d.expr block_good refl) else_block_good refl

    put_good : Good (put_at o) (put_at r) ((name ⊗ enclosed I.terms) ⊗ after (Sign Equal) (expr I.terms))
        ((name ⊗ enclosed J.terms) ⊗ after (Sign Equal) (expr J.terms)) (kind.Name ∷ []) after_expr false
    put_good = both (both terms.name d.enclosed refl) (leading (Sign Equal) d.expr) refl

    assign_good : Good (assign_at o) (assign_at r)
        ((name ⊗ parameters I.terms) ⊗ after (Sign Becomes) (g.value I) ⇒ assigned)
        ((name ⊗ parameters J.terms) ⊗ after (Sign Becomes) (g.value J) ⇒ assigned) (kind.Name ∷ []) after_expr false
    assign_good = made assigned (both (both terms.name d.parameters refl) (leading (Sign Becomes) value_good) refl)

    pub cmd_good : Good (cmd_at o) (cmd_at r) (g.cmd I) (g.cmd J) cmd_starts after_cmd false
    unfolding cmd_at
    cmd_good =
        wider (either (made (λ t. node.Skip t.start) (a_terminal (Word Skip)))
        (either (made (λ t. node.Abort t.start) (a_terminal (Word Abort)))
        (either (made assumed (both (a_terminal (Word Assume)) d.expr refl))
        (either (made asserted (both (a_terminal (Word Assert)) d.expr refl))
        (either (made branched (both (a_terminal (Word If)) if_good refl))
        (either (made choice (both (a_terminal (Word Choose)) (separating (Word Or) block_good refl) refl))
        (either (made inserted (both (a_terminal (Word Insert)) called_good refl))
        (either (made removed (both (a_terminal (Word Remove)) called_good refl))
        (either (made putting (both (a_terminal (Word Put)) put_good refl))
        assign_good refl) refl) refl) refl) refl) refl) refl) refl) refl) refl

    pub cmds_good : Good (cmds_at o) (cmds_at r) (g.cmds I) (g.cmds J) cmd_starts after_cmds true
    unfolding cmds_at
    cmds_good = wider (a_list (Sign Semicolon) cmd_good refl) refl

    plain_good : Good (plain_item_at o) (plain_item_at r) (g.plain_item I) (g.plain_item J) plain_starts
        (Sign Comma ∷ after_expr) false
    unfolding plain_item_at
    plain_good =
        wider (either (made (λ x. node.Relation x.0 x.1) (leading (Word Relation) (both terms.name d.parameters refl)))
        (either (made (λ x. node.Function x.0.0 x.0.1 x.1)
        (leading (Word Function) (both (naming terms.names) (leading (Sign Arrow) terms.name) refl)))
        (either (made (λ x. node.Variable x.0 x.1) (leading (Word Variable) (naming terms.name)))
        (either (made (λ x. node.Axiom x.0 x.1) (leading (Word Axiom) (naming d.expr)))
        (either (made (λ x. node.Conjecture x.0 x.1) (leading (Word Conjecture) (naming d.expr)))
        (either (made (λ x. node.Init x.0.start x.1) (both (a_terminal (Word Init)) block_good refl))
        (either (made (λ x. node.Action x.0 x.1) (leading (Word Action) (both terms.name block_good refl)))
        (made (λ x. node.Final x.0.start x.1) (both (a_terminal (Word Final)) block_good refl)) refl) refl) refl) refl)
        refl) refl) refl) refl

    elements_good : Good (elements_at o) (elements_at r) (g.elements I) (g.elements J) (Sign Equal ∷ [])
        (Sign Equal ∷ []) true
    unfolding elements_at
    elements_good = made or_none (at_most_once (leading (Sign Equal)
        (enclosing (Sign OpenBrace) (Sign CloseBrace) d.names refl)))

    sort_good : Good (sort_at o) (sort_at r)
        (after (Word Sort) (name ⊗ g.elements I) ⇒ λ x. node.Sort x.0 x.1)
        (after (Word Sort) (name ⊗ g.elements J) ⇒ λ x. node.Sort x.0 x.1) (Word Sort ∷ []) (Sign Equal ∷ []) false
    sort_good = made (λ x. node.Sort x.0 x.1) (leading (Word Sort) (both terms.name elements_good refl))

    bound_good : Good (bound_parameters_at o) (bound_parameters_at r) (g.bound_parameters I) (g.bound_parameters J)
        (Sign OpenParen ∷ []) (Sign OpenParen ∷ []) true
    unfolding bound_parameters_at
    bound_good = made or_none (at_most_once (enclosing (Sign OpenParen) (Sign CloseParen) d.binders refl))

    definition_good : Good (definition_at o) (definition_at r) (g.definition I) (g.definition J) (Word Define ∷ [])
        after_expr false
    definition_good = made (λ x. node.Define x.0.0 x.0.1 x.1) (leading (Word Define)
        (both (both terms.name bound_good refl) (leading (Sign Becomes) d.expr) refl))

    pub item_good : (f : Format) → Good (item_at f o) (item_at f r) (g.item f I) (g.item f J) (item_starts f)
        (Sign Comma ∷ after_expr) false
    unfolding item_at
    item_good One =
        wider (either (made (λ n. node.Sort n []) (leading (Word Sort) terms.name)) plain_good refl) refl
    item_good Two = wider (either sort_good (either definition_good plain_good refl) refl) refl

    pub items_good : (f : Format) → Good (items_at f o) (items_at f r) (g.items f I) (g.items f J)
        (Word Rml ∷ item_starts f) (Word Rml ∷ (item_starts f ++ after_exprs)) true
    unfolding items_at
    items_good One = wider (either (made (λ x. x.1)
        (leading (Word Rml) (both (a_terminal kind.Number) (any_number (item_good One) refl) refl)))
        (any_number (item_good One) refl) refl) refl
    items_good Two = wider (either (made (λ x. x.1)
        (leading (Word Rml) (both (a_terminal kind.Number) (any_number (item_good Two) refl) refl)))
        (any_number (item_good Two) refl) refl) refl

  -- ---- every level

  is_nothing : {A : Type 0} → IsNothing (nothing {A = A})
  is_nothing = record { whole = λ ts x h. h; front = λ ts h. h }

  names_inside : (n : ℕ)
      → Inside (piece (λ x. x.names) (terms_at.inners n)) (piece (λ x. x.names) (terms_at.inners (suc n)))
      (grammar.level n).names (grammar.level (suc n)).names (kind.Name ∷ []) (Sign Comma ∷ []) false
  names_inside zero = record { held = (is_nothing, terms.names.some) }
  names_inside (suc n) = record { held = terms.names }

  all_binders_inside : (n : ℕ)
      → Inside (piece (λ x. binders_at) (terms_at.inners n)) (piece (λ x. binders_at) (terms_at.inners (suc n)))
      (binders_inside n) (binders_inside (suc n)) (kind.Name ∷ []) (Sign Comma ∷ []) false
  all_binders_inside zero = record { held = (is_nothing, binders_good.some) }
  all_binders_inside (suc n) = record { held = binders_good }

  with_inside : (n : ℕ)
      → Inside (inside_at n) (inside_at (suc n)) (inside n) (inside (suc n)) cmd_starts after_cmds true
      → Deeper (inners n) (inners (suc n)) (level n) (level (suc n))
  with_inside n h = record {
    parameters = terms.parameters n;
    enclosed = terms.enclosed n;
    arguments = terms.arguments n;
    expr = terms.expr n;
    cmds = h;
    names = names_inside n;
    binders = all_binders_inside n;
  }

  inside_good : (n : ℕ)
      → Inside (inside_at n) (inside_at (suc n)) (inside n) (inside (suc n)) cmd_starts after_cmds true
  inside_good zero = record { held = (is_nothing, no_listed (Sign Semicolon) (g.cmd (level 0)).whole) }
  inside_good (suc n) = record { held = cmds_good _ _ _ _ (with_inside n (inside_good n)) }

  pub deeper : (n : ℕ) → Deeper (inners n) (inners (suc n)) (level n) (level (suc n))
  deeper n = with_inside n (inside_good n)

  pub file_good : (f : Format) (n : ℕ)
      → Good (items_at f (inners n)) (items_at f (inners (suc n))) (file f n) (file f (suc n))
      (Word Rml ∷ item_starts f) (Word Rml ∷ (item_starts f ++ after_exprs)) true
  file_good f n = items_good (inners n) (inners (suc n)) (level n) (level (suc n)) (deeper n) f

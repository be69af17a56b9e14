-- The names that items declare are tokens of the text.
use Rattle.std.proofs.Common.{inl, inr, ℕ, zero, suc, Some, None, List, [], ◌∷◌, sym, subst}
use Rattle.std.specs.List.{AllByRecursion}
use Rattle.base.proofs.Lists.{all_front, all_back}
use Rattle.rml_lex.specs.declared.token.Kind.{Kind}
use Rattle.rml_lex.specs.declared.token.Kind.TheVariants.{Word, Sign}
use Rattle.rml_lex.specs.declared.token.Kind.TheVariants as kind
use Rattle.rml_lex.specs.declared.token.Word.TheVariants.{Rml, Sort, Relation, Function, Variable, Axiom, Conjecture}
use Rattle.rml_lex.specs.declared.token.Word.TheVariants.{Action, Define}
use Rattle.rml_lex.specs.declared.token.Sign.TheVariants.{Arrow, Colon, Comma, Equal, OpenBrace, CloseBrace, Becomes}
use Rattle.rml_phrases.specs.Language.{Tokens}
use Rattle.rml_phrases.specs.Piece.{Piece, terminal, ◌⊗◌, after, between, many}
use Rattle.rml_terms.specs.declared.tree.Name.{Name}
use Rattle.rml_terms.specs.Grammar.{name, names, parameters, expr}
use Rattle.rml_syntax.specs.Tree as node
use Rattle.rml_syntax.specs.Tree.{ItemTree}
use Rattle.rml_syntax.specs.declared.tree.Format.{Format}
use Rattle.rml_syntax.specs.declared.tree.Format.TheVariants.{One, Two}
use Rattle.rml_syntax.specs.Grammar.{Inner, level, block, elements, bound_parameters, plain_item, item, items, named}
use Rattle.rml_names.specs.Meanings.{bytes_of}
use Rattle.model_names.specs.ModelNames.{IsWord}
use Rattle.model_names.proofs.Words.{NamesWord}

-- the name that an item declares is a word of the text
abbrev pub DeclaresWord : List ℕ → ItemTree → Type 0
DeclaresWord text (node.Sort n ns) = IsWord (bytes_of text n) × AllByRecursion (λ m. IsWord (bytes_of text m)) ns
DeclaresWord text (node.Relation n sorts) = IsWord (bytes_of text n)
DeclaresWord text (node.Function n sorts sort) = IsWord (bytes_of text n)
DeclaresWord text (node.Variable n sort) = IsWord (bytes_of text n)
DeclaresWord text (node.Axiom n e) = IsWord (bytes_of text n)
DeclaresWord text (node.Conjecture n e) = IsWord (bytes_of text n)
DeclaresWord text (node.Init at cs) = Unit {0}
DeclaresWord text (node.Action n cs) = IsWord (bytes_of text n)
DeclaresWord text (node.Final at cs) = Unit {0}
DeclaresWord text (node.Define n bs e) = IsWord (bytes_of text n)

module _ (text : List ℕ) where
  abbrev Words : Tokens → Type 0
  Words ts = AllByRecursion (NamesWord text) ts

  -- a name
  of_name : (ts : Tokens) (n : Name) → Words ts → name.whole ts n → IsWord (bytes_of text n)
  of_name ts n words (t, is, e) =
      let here : Words (t ∷ []) = subst Words is.0 words in
      subst (λ x. IsWord (bytes_of text x)) (sym e) (here.0 is.1)

  -- behind a word
  behind : {A : Type 0} (k : Kind) (a : Piece A) (ts : Tokens) (x : A) → Words ts → (after k a).whole ts x
      → (back : Tokens) × Words back × a.whole back x
  behind k a ts x words (pair, (front, back, is, word, means), e) =
      (back, all_back (NamesWord text) front back (subst Words is words), subst (a.whole back) (sym e) means)

  -- the first of two
  first : {A : Type 0} (a : Piece A) (ts : Tokens) (x : Name × A) → Words ts → (name ⊗ a).whole ts x
      → IsWord (bytes_of text x.0)
  first a ts x words (front, back, is, means, more) =
      of_name front x.0 (all_front (NamesWord text) front back (subst Words is words)) means

  -- a name, and what it stands for behind a colon
  of_named : {A : Type 0} (a : Piece A) (ts : Tokens) (x : Name × A) → Words ts → (named a).whole ts x
      → IsWord (bytes_of text x.0)
  of_named a ts x words means = first (after (Sign Colon) a) ts x words means

  abbrev NameWords : List Name → Type 0
  NameWords ns = AllByRecursion (λ n. IsWord (bytes_of text n)) ns

  -- names with commas between them
  of_more : (ts : Tokens) (ns : List Name) → Words ts → (many (after (Sign Comma) name)).whole ts ns → NameWords ns
  of_more ts [] words means = tt
  of_more ts (n ∷ ns) words (front, back, is, one, more) =
      let parts = subst Words is words in
      let b = behind (Sign Comma) name front n (all_front (NamesWord text) front back parts) one in
      (of_name b.0 n b.1 b.2, of_more back ns (all_back (NamesWord text) front back parts) more)

  of_names : (ts : Tokens) (ns : List Name) → Words ts → names.whole ts ns → NameWords ns
  of_names ts ns words (y, (front, back, is, one, more), e) =
      let parts = subst Words is words in
      subst NameWords (sym e) (
        of_name front y.0 (all_front (NamesWord text) front back parts) one,
        of_more back y.1 (all_back (NamesWord text) front back parts) more,
      )

  -- as far as levels may open
  of_inner_names : (n : ℕ) (ts : Tokens) (ns : List Name) → Words ts → (level n).terms.names.whole ts ns → NameWords ns
  of_inner_names zero ts ns words means = absurd means
  of_inner_names (suc n) ts ns words means = of_names ts ns words means

  -- the names of a sort's elements
  of_elements : (n : ℕ) (ts : Tokens) (ns : List Name) → Words ts → (elements (level n)).whole ts ns → NameWords ns
  of_elements n ts ns words (None, means, e) = subst NameWords (sym e) tt
  of_elements n ts ns words (Some ms, means, e) =
      let b = behind (Sign Equal) (between (Sign OpenBrace) (level n).terms.names (Sign CloseBrace)) ts ms words means in
      subst NameWords (sym e) (of_between b.0 ms b.1 b.2)
    where
      of_between : (us : Tokens) (ms : List Name) → Words us
          → (between (Sign OpenBrace) (level n).terms.names (Sign CloseBrace)).whole us ms → NameWords ms
      of_between us ms given (y, (front, back, is, (brace, inside, joined, word, names), closed), same) =
          let left = all_front (NamesWord text) front back (subst Words is given) in
          subst NameWords (sym same)
          (of_inner_names n inside y.0.1 (all_back (NamesWord text) brace inside (subst Words joined left)) names)

  of_plain : (inner : Inner) (ts : Tokens) (x : ItemTree) → Words ts → (plain_item inner).whole ts x
      → DeclaresWord text x
  of_plain inner ts x words (inl (y, means, e)) =
      let b = behind (Word Relation) (name ⊗ parameters inner.terms) ts y words means in
      subst (DeclaresWord text) (sym e) (first (parameters inner.terms) b.0 y b.1 b.2)
  of_plain inner ts x words (inr (inl (y, means, e))) =
      let b = behind (Word Function) (named names ⊗ after (Sign Arrow) name) ts y words means in
      let front = all_front (NamesWord text) b.2.0 b.2.1 (subst Words b.2.2 b.1) in
      subst (DeclaresWord text) (sym e) (of_named names b.2.0 y.0 front b.2.3)
  of_plain inner ts x words (inr (inr (inl (y, means, e)))) =
      let b = behind (Word Variable) (named name) ts y words means in
      subst (DeclaresWord text) (sym e) (of_named name b.0 y b.1 b.2)
  of_plain inner ts x words (inr (inr (inr (inl (y, means, e))))) =
      let b = behind (Word Axiom) (named (expr inner.terms)) ts y words means in
      subst (DeclaresWord text) (sym e) (of_named (expr inner.terms) b.0 y b.1 b.2)
  of_plain inner ts x words (inr (inr (inr (inr (inl (y, means, e)))))) =
      let b = behind (Word Conjecture) (named (expr inner.terms)) ts y words means in
      subst (DeclaresWord text) (sym e) (of_named (expr inner.terms) b.0 y b.1 b.2)
  of_plain inner ts x words (inr (inr (inr (inr (inr (inl (y, means, e))))))) =
      subst (DeclaresWord text) (sym e) tt
  of_plain inner ts x words (inr (inr (inr (inr (inr (inr (inl (y, means, e)))))))) =
      let b = behind (Word Action) (name ⊗ block inner) ts y words means in
      subst (DeclaresWord text) (sym e) (first (block inner) b.0 y b.1 b.2)
  of_plain inner ts x words (inr (inr (inr (inr (inr (inr (inr (y, means, e)))))))) =
      subst (DeclaresWord text) (sym e) tt

  of_item : (format : Format) (n : ℕ) (ts : Tokens) (x : ItemTree) → Words ts → (item format (level n)).whole ts x
      → DeclaresWord text x
  of_item One n ts x words (inl (y, means, e)) =
      let b = behind (Word Sort) name ts y words means in
      subst (DeclaresWord text) (sym e) (of_name b.0 y b.1 b.2, tt)
  of_item One n ts x words (inr means) = of_plain (level n) ts x words means
  of_item Two n ts x words (inl (y, means, e)) =
      let b = behind (Word Sort) (name ⊗ elements (level n)) ts y words means in
      let parts = subst Words b.2.2 b.1 in
      subst (DeclaresWord text) (sym e) (
        of_name b.2.0 y.0 (all_front (NamesWord text) b.2.0 b.2.1 parts) b.2.3,
        of_elements n b.2.1 y.1 (all_back (NamesWord text) b.2.0 b.2.1 parts) b.2.4,
      )
  of_item Two n ts x words (inr (inl (y, means, e))) =
      let b = behind (Word Define) ((name ⊗ bound_parameters (level n)) ⊗ after (Sign Becomes) (expr (level n).terms)) ts y
      words means in
      let front = all_front (NamesWord text) b.2.0 b.2.1 (subst Words b.2.2 b.1) in
      subst (DeclaresWord text) (sym e) (first (bound_parameters (level n)) b.2.0 y.0 front b.2.3)
  of_item Two n ts x words (inr (inr means)) = of_plain (level n) ts x words means

  of_many : (format : Format) (n : ℕ) (ts : Tokens) (xs : List ItemTree) → Words ts
      → (many (item format (level n))).whole ts xs → AllByRecursion (DeclaresWord text) xs
  of_many format n ts [] words means = tt
  of_many format n ts (x ∷ xs) words (front, back, is, one, more) =
      let parts = subst Words is words in (
        of_item format n front x (all_front (NamesWord text) front back parts) one,
        of_many format n back xs (all_back (NamesWord text) front back parts) more,
      )

  pub of_items : (format : Format) (n : ℕ) (ts : Tokens) (xs : List ItemTree) → Words ts
      → (items format (level n)).whole ts xs → AllByRecursion (DeclaresWord text) xs
  of_items format n ts xs words (inl (y, means, e)) =
      let b = behind (Word Rml) (terminal kind.Number ⊗ many (item format (level n))) ts y words means in
      let back = all_back (NamesWord text) b.2.0 b.2.1 (subst Words b.2.2 b.1) in
      subst (AllByRecursion (DeclaresWord text)) (sym e) (of_many format n b.2.1 y.1 back b.2.4)
  of_items format n ts xs words (inr means) = of_many format n ts xs words means

-- The places of a tree ascend as those of its tokens do.
use Rattle.std.proofs.Common.{ℕ, false, List, [], ◌∷◌, ◌++◌, drop, Option, Some, None, arith}
use Rattle.rml_lex.specs.Bytes.{gap_len}
use Rattle.rml_lex.specs.Tokens.{Reads, AreTokens}
use Rattle.rml_phrases.specs.Language.{Tokens}
use Rattle.rml_phrases.specs.Ascending.{AscendBetween, Ascend, starts}
use Rattle.rml_phrases.specs.Carries.{Span}
use Rattle.rml_phrases.proofs.Walk.{Maybe, Each, each_of_some}
use Rattle.rml_phrases.proofs.Ascending.{earlier, join, lead, rules}
use Rattle.rml_terms.specs.declared.tree.Binder.{Binder}
use Rattle.rml_terms.specs.Tree.{ExprTree, exprs_of}
use Rattle.rml_terms.specs.Places.{name_places, places_of_exprs, places_of_expr}
use Rattle.rml_terms.specs.Laws.{TermsAscend}
use Rattle.rml_syntax.specs.Tree.{CommandTree, ItemTree, FileTree, block_of, blocks_of}
use Rattle.rml_syntax.specs.Grammar.{max_levels}
use Rattle.rml_syntax.specs.Faults.{IsTree}
use Rattle.rml_syntax.specs.Places.{places_of_side, places_of_command, places_of_block, places_of_blocks}
use Rattle.rml_syntax.specs.Places.{binder_places, places_of_item, places_of_items}
use Rattle.rml_syntax.proofs.Walk.{Trees, file_walks}

-- the tokens of a text begin one behind the other
pub tokens_ascend : (bytes : List ℕ) (at : ℕ) (ts : Tokens) (rest : List ℕ) (end : ℕ) → Reads bytes at ts rest end
    → AscendBetween at end (starts ts)
tokens_ascend bytes at [] rest end h = omega (arith, h.1)
tokens_ascend bytes at (t ∷ ts) rest end h =
    let others = tokens_ascend (drop h.0 (drop (gap_len false bytes) bytes)) t.end ts rest end h.4 in
    (omega (arith, h.2), earlier t.start t.end end (starts ts) (omega (arith, h.3)) others)

-- ---- what holds of trees

abbrev OfExpr : Span ExprTree
OfExpr lo hi e = AscendBetween lo hi (places_of_expr e)

abbrev OfCommand : Span CommandTree
OfCommand lo hi c = AscendBetween lo hi (places_of_command c)

abbrev OfBinder : Span Binder
OfBinder lo hi b = AscendBetween lo hi (b.name.start ∷ b.sort.start ∷ [])

abbrev OfItem : Span ItemTree
OfItem lo hi x = AscendBetween lo hi (places_of_item x)

-- ---- lists

block_ascends : (lo hi : ℕ) (cs : List CommandTree) → Each rules OfCommand lo hi cs
    → AscendBetween lo hi (places_of_block (block_of cs))
block_ascends lo hi [] h = h
block_ascends lo hi (c ∷ cs) h = join lo h.0 hi _ _ h.1 (block_ascends h.0 hi cs h.2)

blocks_ascend : (lo hi : ℕ) (bs : List (List CommandTree)) → Each rules (Each rules OfCommand) lo hi bs
    → AscendBetween lo hi (places_of_blocks (blocks_of bs))
blocks_ascend lo hi [] h = h
blocks_ascend lo hi (b ∷ bs) h = join lo h.0 hi _ _ (block_ascends lo h.0 b h.1) (blocks_ascend h.0 hi bs h.2)

items_ascend : (lo hi : ℕ) (xs : List ItemTree) → Each rules OfItem lo hi xs → AscendBetween lo hi (places_of_items xs)
items_ascend lo hi [] h = h
items_ascend lo hi (x ∷ xs) h = join lo h.0 hi _ _ h.1 (items_ascend h.0 hi xs h.2)

binders_ascend : (lo hi : ℕ) (bs : List Binder) → Each rules OfBinder lo hi bs → AscendBetween lo hi (binder_places bs)
binders_ascend lo hi [] h = h
binders_ascend lo hi (b ∷ bs) h =
    join lo h.0 hi (b.name.start ∷ b.sort.start ∷ []) _ h.1 (binders_ascend h.0 hi bs h.2)

side_ascends : (lo hi : ℕ) (e : Option ExprTree) → Maybe rules OfExpr lo hi e → AscendBetween lo hi (places_of_side e)
side_ascends lo hi None h = h
side_ascends lo hi (Some e) h = h

-- ---- the productions

abbrev trees : Trees rules
trees = record {
  OfName = λ lo hi n. AscendBetween lo hi (n.start ∷ []);
  OfNames = λ lo hi ns. AscendBetween lo hi (name_places ns);
  OfExpr = OfExpr;
  OfExprs = λ lo hi es. AscendBetween lo hi (places_of_exprs (exprs_of es));
  OfBinder = OfBinder;
  OfCommand = OfCommand;
  OfItem = OfItem;
  no_names = λ lo hi h. h;
  skip = λ lo hi t h. h;
  abort = λ lo hi t h. h;
  assumption = λ lo hi x h. lead lo h.0 hi x.0.start _ h.1 h.2;
  assertion = λ lo hi x h. lead lo h.0 hi x.0.start _ h.1 h.2;
  branching =
      λ lo hi x h. lead lo h.0 hi x.0.start _ h.1 (join h.0 h.2.1.0 hi _ _ h.2.1.1
      (join h.2.1.0 h.2.0 hi _ _ (block_ascends h.2.1.0 h.2.0 x.1.0.1 h.2.1.2) (block_ascends h.2.0 hi x.1.1 h.2.2)));
  choosing =
      λ lo hi x h. lead lo h.0 hi x.0.start _ h.1
      (blocks_ascend h.0 hi x.1 (each_of_some rules (Each rules OfCommand) h.0 hi x.1 h.2));
  insertion =
      λ lo hi x h. lead lo h.0 hi x.0.start (x.1.0.start ∷ places_of_exprs (exprs_of x.1.1)) h.1
      (lead h.0 h.2.0 hi x.1.0.start _ h.2.1 h.2.2);
  removal =
      λ lo hi x h. lead lo h.0 hi x.0.start (x.1.0.start ∷ places_of_exprs (exprs_of x.1.1)) h.1
      (lead h.0 h.2.0 hi x.1.0.start _ h.2.1 h.2.2);
  placement =
      λ lo hi x h. lead lo h.0 hi x.0.start
      (x.1.0.0.start ∷ (places_of_exprs (exprs_of x.1.0.1) ++ places_of_expr x.1.1)) h.1
      (lead h.0 h.2.1.0 hi x.1.0.0.start _ h.2.1.1 (join h.2.1.0 h.2.0 hi _ _ h.2.1.2 h.2.2));
  assignment =
      λ lo hi x h. lead lo h.1.0 hi x.0.0.start _ h.1.1
      (join h.1.0 h.0 hi _ _ h.1.2 (side_ascends h.0 hi x.1 h.2));
  binder = λ lo hi x h. lead lo h.0 hi x.0.start (x.1.start ∷ []) h.1 h.2;
  plain_sort = λ lo hi n h. h;
  sort = λ lo hi x h. lead lo h.0 hi x.0.start _ h.1 h.2;
  relation = λ lo hi x h. lead lo h.0 hi x.0.start _ h.1 h.2;
  function = λ lo hi x h. lead lo h.1.0 hi x.0.0.start _ h.1.1 (join h.1.0 h.0 hi _ _ h.1.2 h.2);
  variable = λ lo hi x h. lead lo h.0 hi x.0.start (x.1.start ∷ []) h.1 h.2;
  premise = λ lo hi x h. lead lo h.0 hi x.0.start _ h.1 h.2;
  conjecture = λ lo hi x h. lead lo h.0 hi x.0.start _ h.1 h.2;
  first = λ lo hi x h. lead lo h.0 hi x.0.start _ h.1 (block_ascends h.0 hi x.1 h.2);
  action = λ lo hi x h. lead lo h.0 hi x.0.start _ h.1 (block_ascends h.0 hi x.1 h.2);
  last = λ lo hi x h. lead lo h.0 hi x.0.start _ h.1 (block_ascends h.0 hi x.1 h.2);
  definition =
      λ lo hi x h. lead lo h.1.0 hi x.0.0.start _ h.1.1
      (join h.1.0 h.0 hi _ _ (binders_ascend h.1.0 h.0 x.0.1 h.1.2) h.2);
}

pub tree_in_order : TermsAscend → (text : List ℕ) (ts : Tokens) (tree : FileTree) → AreTokens text ts
    → IsTree text ts tree → Ascend (places_of_items tree.items)
tree_in_order terms text ts tree are is =
    let read = (file_walks rules (λ m. trees) (λ m. record {
      name = terms.name;
      names = terms.names;
      parameters = terms.parameters m;
      enclosed = terms.enclosed m;
      arguments = terms.arguments m;
      expr = terms.expr m;
    }) (λ m lo hi x h. h) tree.format max_levels).holds 0 are.0 ts tree.items is.1
    (tokens_ascend text 0 ts [] are.0 are.1) in
    (are.0, items_ascend 0 are.0 tree.items read)

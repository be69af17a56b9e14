-- Turns of the loops over a block.
use Rattle.std.proofs.Common.{◌≡◌, ℕ, suc, ◌+◌, ◌<◌, List, [], ◌∷◌, ◌++◌, length, get_or, take, drop, refl, sym, ap}
use Rattle.std.proofs.Common.{◌∙◌}
use Rattle.std.specs.Global.{Vec}
use Rattle.std.proofs.lemmas.List.{map-append, take_more}
use Rattle.base.proofs.Lists.{drop_read}
use Rattle.rml_syntax.specs.declared.tree.Command.{Command}
use Rattle.rml_syntax.specs.declared.tree.Command.TheVariants as variants
use Rattle.rml_syntax.specs.Tree.{CommandTree, Block, Blocks, block_of, blocks_of, command_tree, command_trees}
use Rattle.rml_syntax.specs.Tree.{block_trees}
use Rattle.rml_quantifiers.specs.Branches.{tree-choice}
use Rattle.branches.specs.declared.mark.Turn.TheVariants as turns
use Rattle.branches.specs.Marked.{branch_count}
use Rattle.branches.specs.Search.{count_through, count_through_block, counts_behind, behind, mark, along, along_block}
use Rattle.branches.specs.Search.{along_each}
use Rattle.branches.proofs.Picking.{cond_below}

abbrev pub tree_of : List Command → Block
tree_of cs = block_of (command_trees cs)

count-last : (cs : List CommandTree) (c : CommandTree) (n : ℕ)
    → count_through_block (block_of (cs ++ c ∷ [])) n ≡ count_through_block (block_of cs) (count_through c n)
count-last [] c n = refl
count-last (x ∷ cs) c n = ap (count_through x) (count-last cs c n)

counts-last : (cs : List CommandTree) (c : CommandTree) (n : ℕ)
    → counts_behind (block_of (cs ++ c ∷ [])) n ≡ n ∷ counts_behind (block_of cs) (count_through c n)
counts-last [] c n = refl
counts-last (x ∷ cs) c n =
    ap (λ z. z ++ count_through_block (block_of (cs ++ c ∷ [])) n ∷ []) (counts-last cs c n)
    ∙ ap (λ k. n ∷ (counts_behind (block_of cs) (count_through c n) ++ k ∷ [])) (count-last cs c n)

last-tree : (xs : List Command) (i : ℕ) (x : Command) → i < length xs → x ≡ get_or xs i x
    → command_trees (take (i + 1) xs) ≡ command_trees (take i xs) ++ command_tree x ∷ []
last-tree xs i x lt is =
    ap command_trees (take_more xs i x lt)
    ∙ map-append command_tree (take i xs) (get_or xs i x ∷ [])
    ∙ ap (λ (y : Command). command_trees (take i xs) ++ command_tree y ∷ []) (sym is)

pub count_turn : (xs : List Command) (i : ℕ) (x : Command) (n : ℕ) → i < length xs → x ≡ get_or xs i x
    → count_through_block (tree_of (take (i + 1) xs)) n
    ≡ count_through_block (tree_of (take i xs)) (count_through (command_tree x) n)
count_turn xs i x n lt is =
    ap (λ cs. count_through_block (block_of cs) n) (last-tree xs i x lt is)
    ∙ count-last (command_trees (take i xs)) (command_tree x) n

pub counts_turn : (xs : List Command) (i : ℕ) (x : Command) (n : ℕ) → i < length xs → x ≡ get_or xs i x
    → counts_behind (tree_of (take (i + 1) xs)) n
    ≡ n ∷ counts_behind (tree_of (take i xs)) (count_through (command_tree x) n)
counts_turn xs i x n lt is =
    ap (λ cs. counts_behind (block_of cs) n) (last-tree xs i x lt is)
    ∙ counts-last (command_trees (take i xs)) (command_tree x) n

-- ---- branches

abbrev pub trees_of : List (Vec Command) → Blocks
trees_of bs = blocks_of (block_trees bs)

count-is : (bs : List (Vec Command)) → branch_count (trees_of bs) ≡ length bs
count-is [] = refl
count-is (b ∷ bs) = ap suc (count-is bs)

-- the branch at a place is taken
pub chosen : (at i count n k : ℕ) (bs : List (Vec Command)) (j : ℕ) (b : Vec Command) → j < length bs
    → b ≡ get_or bs j b → k < count_through_block (tree_of b.items) n
    → along_each at i count (trees_of (drop j bs)) n k
    ≡ behind (mark at (turns.Takes (record { number = i; count = count }))) (along_block (tree_of b.items) n k)
chosen at i count n k bs j b lt is h =
    ap (λ l. along_each at i count (trees_of l) n k) (drop_read bs j b lt is)
    ∙ cond_below k (count_through_block (tree_of b.items) n) _ _ h

pub whole_choice : (c : Command) (at : ℕ) (all : Vec (Vec Command)) (bs : List (Vec Command)) (count n k : ℕ)
    → c ≡ variants.Choose at all → bs ≡ all.items → count ≡ length all.items
    → along_each at 1 count (trees_of bs) n k ≡ along (command_tree c) n k
whole_choice c at all bs count n k is same counted =
    ap (λ l. along_each at 1 count (trees_of l) n k) same
    ∙ ap (λ m. along_each at 1 m (trees_of all.items) n k) (counted ∙ sym (count-is all.items))
    ∙ ap (λ t. along t n k) (sym (tree-choice c at all is))

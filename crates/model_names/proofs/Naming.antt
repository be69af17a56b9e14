-- The names of the model that items make.
use Rattle.std.proofs.Common.{ℕ, List, [], ◌∷◌, sym, subst}
use Rattle.std.specs.List.{AllByRecursion}
use Rattle.base.proofs.Lists.{all_append, all_push}
use Rattle.rml_command.specs.Models.{ModelTree}
use Rattle.rml_command.specs.declared.names.Names.{Names}
use Rattle.rml_terms.specs.declared.tree.Name.{Name}
use Rattle.rml_syntax.specs.Tree as node
use Rattle.rml_syntax.specs.Tree.{ItemTree}
use Rattle.rml_syntax.specs.Grammar.{max_levels}
use Rattle.rml_names.specs.Vocabulary.{Vocabulary}
use Rattle.rml_names.specs.Meanings.{bytes_of}
use Rattle.rml_names.specs.Growth.{with_sort, with_element, with_elements}
use Rattle.rml_names.specs.Drafts.{DraftTree, empty_draft, model_of_draft}
use Rattle.rml_items.specs.Items.{words_with}
use Rattle.rml_sorts.specs.Items.{draft_with, draft_of}
use Rattle.rml_front.specs.Texts.{IsModelOf}
use Rattle.model_names.specs.ModelNames.{IsWord, AreWords, HasWords, NamesAreWords}
use Rattle.model_names.proofs.Words.{name_tokens_are_words}
use Rattle.model_names.proofs.Declared.{DeclaresWord, of_items}

-- the names of what is declared, and those of the axioms of listed sorts
record Spelled (d : DraftTree) : Type 0 where
  names : HasWords d.vocabulary.names
  listed : AreWords d.listed.names

module _ (text : List ℕ) where
  with_one : (v : Vocabulary) (name : Name) → IsWord (bytes_of text name) → HasWords v.names → (sort : ℕ)
      → HasWords (with_element text v sort name).names
  with_one v name w h sort = record {
    sorts = h.sorts;
    relations = h.relations;
    functions = all_push IsWord v.names.functions (bytes_of text name) h.functions w;
    axioms = h.axioms;
    conjectures = h.conjectures;
    actions = h.actions;
  }

  with_all : (v : Vocabulary) (sort : ℕ) (names : List Name) → HasWords v.names
      → AllByRecursion (λ n. IsWord (bytes_of text n)) names → HasWords (with_elements text v sort names).names
  with_all v sort [] h all = h
  with_all v sort (name ∷ names) h all =
      with_all (with_element text v sort name) sort names (with_one v name all.0 h sort) all.1

  with_sort_name : (v : Vocabulary) (name : Name) → IsWord (bytes_of text name) → HasWords v.names
      → HasWords (with_sort text v name).names
  with_sort_name v name w h = record {
    sorts = all_push IsWord v.names.sorts (bytes_of text name) h.sorts w;
    relations = h.relations;
    functions = h.functions;
    axioms = h.axioms;
    conjectures = h.conjectures;
    actions = h.actions;
  }

  words_grown : (v : Vocabulary) (item : ItemTree) → HasWords v.names → DeclaresWord text item
      → HasWords (words_with text v item).names
  words_grown v (node.Sort n ns) h w =
      with_all (with_sort text v n) v.signature.sorts ns (with_sort_name v n w.0 h) w.1
  words_grown v (node.Relation n sorts) h w = record {
    sorts = h.sorts;
    relations = all_push IsWord v.names.relations (bytes_of text n) h.relations w;
    functions = h.functions;
    axioms = h.axioms;
    conjectures = h.conjectures;
    actions = h.actions;
  }
  words_grown v (node.Function n sorts sort) h w = with_one v n w h 0
  words_grown v (node.Variable n sort) h w = with_one v n w h 0
  words_grown v (node.Axiom n e) h w = record {
    sorts = h.sorts;
    relations = h.relations;
    functions = h.functions;
    axioms = all_push IsWord v.names.axioms (bytes_of text n) h.axioms w;
    conjectures = h.conjectures;
    actions = h.actions;
  }
  words_grown v (node.Conjecture n e) h w = record {
    sorts = h.sorts;
    relations = h.relations;
    functions = h.functions;
    axioms = h.axioms;
    conjectures = all_push IsWord v.names.conjectures (bytes_of text n) h.conjectures w;
    actions = h.actions;
  }
  words_grown v (node.Init at cs) h w = h
  words_grown v (node.Action n cs) h w = record {
    sorts = h.sorts;
    relations = h.relations;
    functions = h.functions;
    axioms = h.axioms;
    conjectures = h.conjectures;
    actions = all_push IsWord v.names.actions (bytes_of text n) h.actions w;
  }
  words_grown v (node.Final at cs) h w = h
  words_grown v (node.Define n bs e) h w = h

  listed_grown : (d : DraftTree) (item : ItemTree) → AreWords d.listed.names → DeclaresWord text item
      → AreWords (draft_with text d item).listed.names
  listed_grown d (node.Sort n []) h w = h
  listed_grown d (node.Sort n (one ∷ ns)) h w = all_push IsWord d.listed.names (bytes_of text n) h w.0
  listed_grown d (node.Relation n sorts) h w = h
  listed_grown d (node.Function n sorts sort) h w = h
  listed_grown d (node.Variable n sort) h w = h
  listed_grown d (node.Axiom n e) h w = h
  listed_grown d (node.Conjecture n e) h w = h
  listed_grown d (node.Init at cs) h w = h
  listed_grown d (node.Action n cs) h w = h
  listed_grown d (node.Final at cs) h w = h
  listed_grown d (node.Define n bs e) h w = h

  all_grown : (d : DraftTree) (items : List ItemTree) → Spelled d → AllByRecursion (DeclaresWord text) items
      → Spelled (draft_of text d items)
  all_grown d [] h all = h
  all_grown d (item ∷ items) h all =
      all_grown (draft_with text d item) items
      (record {
        names = words_grown d.vocabulary item h.names all.0;
        listed = listed_grown d item h.listed all.0;
      }) all.1

-- the axioms of listed sorts stand before the others
whole : (d : DraftTree) → Spelled d → HasWords (model_of_draft d).names
whole d s = record {
  sorts = s.names.sorts;
  relations = s.names.relations;
  functions = s.names.functions;
  axioms = all_append IsWord d.listed.names d.vocabulary.names.axioms s.listed s.names.axioms;
  conjectures = s.names.conjectures;
  actions = s.names.actions;
}

pub names_are_words : NamesAreWords
names_are_words text m is =
    let read = is.resolved.judged.read in
    let declared = of_items text is.tree.format max_levels read.tokens is.tree.items
    (name_tokens_are_words text read.tokens read.are_tokens) read.is_tree.1 in
    subst (λ (x : ModelTree). HasWords x.names) (sym is.model)
    (whole (draft_of text empty_draft is.tree.items)
    (all_grown text empty_draft is.tree.items
    (record {
      names = record { sorts = tt; relations = tt; functions = tt; axioms = tt; conjectures = tt; actions = tt };
      listed = tt;
    }) declared))

-- The model of a tree without a fault of names and sorts is whole.
use Rattle.std.proofs.Common.{◌≡◌, ◌<◌, ◌≤◌, ◌+◌, ◌-◌, ℕ, zero, suc, Bool, true, false, nat_lt, List, [], ◌∷◌, ◌++◌}
use Rattle.std.proofs.Common.{length, map, None, reverse, slice_index_or, refl, sym, subst, ap, ◌∙◌, arith, length-append}
use Rattle.std.specs.List.{AllByRecursion}
use Rattle.std.proofs.lemmas.List.{get_or_append_left, length_push, append-nil}
use Rattle.std.proofs.Math.Seq.{get_or-append_seam}
use Rattle.std.proofs.lemmas.Bool.Decides.{nat_tests}
use Rattle.base.specs.Lists.{count_from}
use Rattle.base.proofs.Lists.{all_more, all_append, all_push}
use Rattle.fol_sig.specs.declared.Sort.{Sort}
use Rattle.fol_sig.specs.Tables.{Declared}
use Rattle.fol_sig.specs.Symbols.{Symbols, symbols, no_function}
use Rattle.fol_formula.specs.Syntax.{FormTree, bottom}
use Rattle.fol_formula.specs.Fits.{FitsForm}
use Rattle.fol_formula.specs.Fragments.{IsQuantifierFree, HasPlainTerms}
use Rattle.fol_subst.specs.Templates.{InstancesFit}
use Rattle.rml_terms.specs.declared.tree.Name.{Name}
use Rattle.rml_terms.specs.declared.tree.Binder.{Binder}
use Rattle.rml_terms.specs.Places.{name_places}
use Rattle.rml_terms.specs.Tree.{ExprTree}
use Rattle.rml_syntax.specs.declared.tree.Format.{Format}
use Rattle.rml_syntax.specs.Tree as syntax
use Rattle.rml_syntax.specs.Tree.{FileTree, ItemTree, Relation, Function, Variable, Axiom, Conjecture, Init, Action}
use Rattle.rml_syntax.specs.Tree.{Final, Define, block_of}
use Rattle.rml_syntax.specs.Shape.{CommandsNest, ItemNests}
use Rattle.rml_command.specs.Trees.{CommandTree, EachPrimitive, HasBranches}
use Rattle.rml_command.specs.Models.{EachBlock, FitsCommand, IsWritten, HasPlainSides, IsPlainModel, IsModel}
use Rattle.rml_command.specs.declared.places.Condition.{Condition}
use Rattle.rml_names.specs.Vocabulary.{Vocabulary, name_count, derived_sorts}
use Rattle.rml_names.specs.Growth.{with_sort, with_element, with_elements}
use Rattle.rml_names.specs.Meanings.{bytes_of, with_binders}
use Rattle.rml_names.specs.Sound.{IsSorted}
use Rattle.rml_names.specs.Drafts.{DraftTree, empty_draft, model_of_draft}
use Rattle.rml_sort_check.specs.declared.wanted.Wanted.TheVariants.{Formula}
use Rattle.rml_sort_check.specs.Demands.{first_fault, demands, block_demands, binders_demands, definition_demands}
use Rattle.rml_sort_check.specs.Firsts.{met_left, met_right}
use Rattle.rml_elaborate.specs.Formulas.{formula_of}
use Rattle.rml_elaborate.specs.Updates.{definition}
use Rattle.rml_quantifiers.specs.Quantifiers.{quantifiers_in, quantifiers_of_block}
use Rattle.rml_items.specs.Items.{head_demands, body_demands, words_with, parameter_sorts}
use Rattle.rml_items.specs.Laws.{WordsStaySorted, DemandsAreMet, HaveMet}
use Rattle.rml_items.specs.Walking.{block_nests}
use Rattle.rml_sorts.specs.Commands.{conditions_of_block}
use Rattle.rml_sorts.specs.Listed.{listed_axiom}
use Rattle.rml_sorts.specs.Items.{block_command, draft_with, draft_of}
use Rattle.rml_sorts.specs.Laws.{ModelsAreWhole, DraftsAreSound}
use Rattle.rml_sorts.specs.Sound.{EachDraftBlock, HasBodies, IsPlainDraft, IsSound}
use Rattle.rml_terms.specs.Shape.{max_nesting}
use Rattle.rml_sorts.proofs.Extending.{Extends, further, form_grows, sentence_grows, command_grows, each_more}
use Rattle.rml_sorts.proofs.Growing.{grown_sorts, grown_relations, grown_functions, grown_elements, element_count}
use Rattle.rml_sorts.proofs.Growing.{elements_are}
use Rattle.rml_sorts.proofs.Sides.{sorts-binders}
use Rattle.rml_sorts.proofs.Fitting.{sorts_of, formula_fits}
use Rattle.rml_sorts.proofs.Plain.{InstancesArePlain, nil_left, nil_right, formula_free, formula_plain}
use Rattle.rml_sorts.proofs.ListedFits.{listed_fits, listed_plain}
use Rattle.rml_sorts.proofs.WholeBlocks.{block_fits, block_conditions_fit, block_branches, written_left, written_right}
use Rattle.rml_sorts.proofs.WholeBlocks.{block_written, block_plain, block_conditions_plain}

-- the laws of lower crates that are taken
pub record AreLaws : Type 0 where
  pub fit : InstancesFit
  pub plain : InstancesArePlain
  pub sorted : WordsStaySorted
  pub met : DemandsAreMet

each_block : (P Q : CommandTree → Type 0) (d : DraftTree) → ((c : CommandTree) → P c → Q c) → EachDraftBlock P d
    → EachDraftBlock Q d
each_block P Q d so h =
    record { init = so d.init h.init; actions = all_more P Q so d.actions h.actions; last = so d.last h.last }

-- a block of the model that a draft becomes
of_model : (P : CommandTree → Type 0) (d : DraftTree) → EachDraftBlock P d → EachBlock P (model_of_draft d)
of_model P d h = record { init = h.init; actions = h.actions; last = h.last }

joined : {A B : Type 0} (xs : List A) (ys : List B) (us : List A) (vs : List B) → length xs ≡ length ys
    → length us ≡ length vs → length (xs ++ us) ≡ length (ys ++ vs)
joined xs ys us vs e f = omega (arith, e, f, length-append xs us, length-append ys vs)

pub whole : (d : DraftTree) → IsSound d → IsModel (model_of_draft d)
whole d s = record {
  fits = record {
    axioms = all_append (FitsForm (symbols d.vocabulary.signature) []) d.listed.sentences d.axioms s.listed s.axioms;
    conjectures = s.conjectures;
    blocks = of_model (FitsCommand (symbols d.vocabulary.signature)) d s.blocks;
  };
  conditions_fit = s.conditions;
  branches = of_model HasBranches d s.branches;
  named = record {
    sorts = s.words.sorts;
    relations = s.words.relations;
    functions = s.words.functions;
    axioms = joined d.listed.names d.listed.sentences d.vocabulary.names.axioms d.axioms s.listed_names s.axiom_names;
    conjectures = s.conjecture_names;
    actions = s.action_names;
  };
  placed = record {
    functions = s.function_places;
    axioms = joined d.listed.places d.listed.sentences d.places.axioms d.axioms s.listed_places s.axiom_places;
    conjectures = s.conjecture_places;
    actions = s.action_places;
  };
  few = omega (
    arith,
    s.words.few,
    s.words.sorts,
    s.words.relations,
    s.words.functions,
    s.conjecture_names,
    s.action_names,
  );
  written = of_model (EachPrimitive (IsWritten d.places.conditions)) d s.written;
  plain = λ none.
      let p = s.plain none in
      record {
        axioms = all_append HasPlainTerms d.listed.sentences d.axioms s.listed_plain p.axioms;
        conjectures = p.conjectures;
        conditions = p.conditions;
        blocks = of_model (EachPrimitive HasPlainSides) d p.blocks;
      };
}

module _ (text : List ℕ) where
  -- what a draft has beside its names stays right with other symbols, among which its own are
  record Grows (d : DraftTree) (v : Vocabulary) : Type 0 where
    symbols : Extends (symbols d.vocabulary.signature) (symbols v.signature)
    derived : v.derived ≡ d.vocabulary.derived
    axioms : length v.names.axioms ≡ length d.vocabulary.names.axioms
    conjectures : length v.names.conjectures ≡ length d.vocabulary.names.conjectures
    actions : length v.names.actions ≡ length d.vocabulary.names.actions

  grown_bodies : (old new : Symbols) → Extends old new → (ks : List (List ℕ)) (bodies : List FormTree)
      → ((k : ℕ) → k < length ks → FitsForm old (reverse (slice_index_or ks k [])) (slice_index_or bodies k bottom))
      → (k : ℕ) → k < length ks → FitsForm new (reverse (slice_index_or ks k [])) (slice_index_or bodies k bottom)
  grown_bodies old new x ks bodies fit k below =
      subst (λ (ss : List ℕ). FitsForm new ss (slice_index_or bodies k bottom))
      (append-nil (reverse (slice_index_or ks k [])))
      (form_grows old new x [] (reverse (slice_index_or ks k [])) (slice_index_or bodies k bottom) (fit k below))

  -- the draft with these words, and these places of functions
  resigned : (d : DraftTree) (v : Vocabulary) (functions : List ℕ) → IsSound d → IsSorted v → Grows d v
      → length functions ≡ length v.signature.functions
      → IsSound (record d { vocabulary = v; places = record d.places { functions = functions } })
  resigned d v functions s sorted g placed =
      let old = symbols d.vocabulary.signature in
      let new = symbols v.signature in
      let sentences = sentence_grows (symbols d.vocabulary.signature) (symbols v.signature) g.symbols in
      let commands = command_grows (symbols d.vocabulary.signature) (symbols v.signature) g.symbols in
      record {
        words = sorted;
        bodies = record {
          counted = s.bodies.counted ∙ ap length (sym g.derived);
          fit = subst (λ (ks : List (List ℕ)). (k : ℕ) → k < length ks
              → FitsForm new (reverse (slice_index_or ks k [])) (slice_index_or d.bodies k bottom)) (sym g.derived)
              (grown_bodies old new g.symbols d.vocabulary.derived d.bodies s.bodies.fit);
        };
        listed = all_more _ _ sentences d.listed.sentences s.listed;
        listed_plain = s.listed_plain;
        axioms = all_more _ _ sentences d.axioms s.axioms;
        conjectures = all_more _ _ sentences d.conjectures s.conjectures;
        blocks = record {
          init = commands d.init s.blocks.init;
          actions = all_more _ _ commands d.actions s.blocks.actions;
          last = commands d.last s.blocks.last;
        };
        conditions = all_more _ _ (λ (c : Condition). sentences c.sentence) d.places.conditions s.conditions;
        branches = record { init = s.branches.init; actions = s.branches.actions; last = s.branches.last };
        axiom_names = g.axioms ∙ s.axiom_names;
        conjecture_names = g.conjectures ∙ s.conjecture_names;
        action_names = g.actions ∙ s.action_names;
        listed_names = s.listed_names;
        function_places = placed;
        axiom_places = s.axiom_places;
        conjecture_places = s.conjecture_places;
        action_places = s.action_places;
        listed_places = s.listed_places;
        written = record { init = s.written.init; actions = s.written.actions; last = s.written.last };
        plain = λ none.
            let p = s.plain none in
            record {
              bodies = p.bodies;
              axioms = p.axioms;
              conjectures = p.conjectures;
              conditions = p.conditions;
              blocks = record { init = p.blocks.init; actions = p.blocks.actions; last = p.blocks.last };
            };
      }

  pushed : {A B : Type 0} (xs : List A) (ys : List B) (x : A) (y : B) → length xs ≡ length ys
      → length (xs ++ x ∷ []) ≡ length (ys ++ y ∷ [])
  pushed xs ys x y e = omega (arith, e, length-append xs (x ∷ []), length-append ys (y ∷ []))

-- names of elements leave all else
record Keeps (v w : Vocabulary) : Type 0 where
  derived : w.derived ≡ v.derived
  axioms : w.names.axioms ≡ v.names.axioms
  conjectures : w.names.conjectures ≡ v.names.conjectures
  actions : w.names.actions ≡ v.names.actions

elements_keep : (text : List ℕ) (v : Vocabulary) (sort : ℕ) (names : List Name)
    → Keeps v (with_elements text v sort names)
elements_keep text v sort [] = record { derived = refl; axioms = refl; conjectures = refl; actions = refl }
elements_keep text v sort (name ∷ names) =
    let k = elements_keep text (with_element text v sort name) sort names in
    record { derived = k.derived; axioms = k.axioms; conjectures = k.conjectures; actions = k.actions }

module _ (laws : AreLaws) (text : List ℕ) (format : Format) (d : DraftTree) (s : IsSound d) where
  -- ---- symbols and names

  -- an item that adds symbols alone
  with_symbols : (item : ItemTree) (functions : List ℕ) → first_fault (head_demands text d.vocabulary item) ≡ None
      → first_fault (body_demands text format d.vocabulary item) ≡ None → Grows text d (words_with text d.vocabulary item)
      → length functions ≡ length (words_with text d.vocabulary item).signature.functions
      → IsSound (record d {
        vocabulary = words_with text d.vocabulary item;
        places = record d.places { functions = functions };
      })
  with_symbols item functions head body g placed =
      resigned text d (words_with text d.vocabulary item) functions s
      (laws.sorted text format d.vocabulary item s.words head body) g placed

  grows_by : (v : Vocabulary) → Extends (symbols d.vocabulary.signature) (symbols v.signature)
      → v.derived ≡ d.vocabulary.derived → v.names.axioms ≡ d.vocabulary.names.axioms
      → v.names.conjectures ≡ d.vocabulary.names.conjectures → v.names.actions ≡ d.vocabulary.names.actions
      → Grows text d v
  grows_by v x derived axioms conjectures actions = record {
    symbols = x;
    derived = derived;
    axioms = ap length axioms;
    conjectures = ap length conjectures;
    actions = ap length actions;
  }

  -- ---- sentences

  with_axiom : (name : Name) (e : ExprTree) → IsSorted (words_with text d.vocabulary (Axiom name e))
      → first_fault (demands text d.vocabulary [] Formula e) ≡ None → IsSound (draft_with text d (Axiom name e))
  with_axiom name e sorted met =
      let p = formula_of text d.vocabulary d.bodies [] e in
      let n = bytes_of text name in
      record {
        words = sorted;
        bodies = record { counted = s.bodies.counted; fit = s.bodies.fit };
        listed = s.listed;
        listed_plain = s.listed_plain;
        axioms = all_push _ d.axioms p s.axioms
            (formula_fits laws.fit text d.vocabulary d.bodies s.words s.bodies [] e met);
        conjectures = s.conjectures;
        blocks = record { init = s.blocks.init; actions = s.blocks.actions; last = s.blocks.last };
        conditions = s.conditions;
        branches = record { init = s.branches.init; actions = s.branches.actions; last = s.branches.last };
        axiom_names = pushed text d.vocabulary.names.axioms d.axioms n p s.axiom_names;
        conjecture_names = s.conjecture_names;
        action_names = s.action_names;
        listed_names = s.listed_names;
        function_places = s.function_places;
        axiom_places = pushed text d.places.axioms d.axioms name.start p s.axiom_places;
        conjecture_places = s.conjecture_places;
        action_places = s.action_places;
        listed_places = s.listed_places;
        written = record { init = s.written.init; actions = s.written.actions; last = s.written.last };
        plain = λ none.
            let q = s.plain (nil_left d.places.quantifiers (quantifiers_in false e) none) in
            record {
              bodies = q.bodies;
              axioms = all_push HasPlainTerms d.axioms p q.axioms
                  (formula_plain laws.plain text d.vocabulary d.bodies q.bodies [] e
                  (nil_right d.places.quantifiers (quantifiers_in false e) none));
              conjectures = q.conjectures;
              conditions = q.conditions;
              blocks = record { init = q.blocks.init; actions = q.blocks.actions; last = q.blocks.last };
            };
      }

  with_conjecture : (name : Name) (e : ExprTree) → IsSorted (words_with text d.vocabulary (Conjecture name e))
      → first_fault (demands text d.vocabulary [] Formula e) ≡ None → IsSound (draft_with text d (Conjecture name e))
  with_conjecture name e sorted met =
      let p = formula_of text d.vocabulary d.bodies [] e in
      let n = bytes_of text name in
      record {
        words = sorted;
        bodies = record { counted = s.bodies.counted; fit = s.bodies.fit };
        listed = s.listed;
        listed_plain = s.listed_plain;
        axioms = s.axioms;
        conjectures = all_push _ d.conjectures p s.conjectures
            (formula_fits laws.fit text d.vocabulary d.bodies s.words s.bodies [] e met);
        blocks = record { init = s.blocks.init; actions = s.blocks.actions; last = s.blocks.last };
        conditions = s.conditions;
        branches = record { init = s.branches.init; actions = s.branches.actions; last = s.branches.last };
        axiom_names = s.axiom_names;
        conjecture_names = pushed text d.vocabulary.names.conjectures d.conjectures n p s.conjecture_names;
        action_names = s.action_names;
        listed_names = s.listed_names;
        function_places = s.function_places;
        axiom_places = s.axiom_places;
        conjecture_places = pushed text d.places.conjectures d.conjectures name.start p s.conjecture_places;
        action_places = s.action_places;
        listed_places = s.listed_places;
        written = record { init = s.written.init; actions = s.written.actions; last = s.written.last };
        plain = λ none.
            let q = s.plain (nil_left d.places.quantifiers (quantifiers_in false e) none) in
            record {
              bodies = q.bodies;
              axioms = q.axioms;
              conjectures = all_push HasPlainTerms d.conjectures p q.conjectures
                  (formula_plain laws.plain text d.vocabulary d.bodies q.bodies [] e
                  (nil_right d.places.quantifiers (quantifiers_in false e) none));
              conditions = q.conditions;
              blocks = record { init = q.blocks.init; actions = q.blocks.actions; last = q.blocks.last };
            };
      }

  -- ---- blocks

  -- what a block adds to a draft
  record AddsBlock (cs : List syntax.CommandTree) : Type 0 where
    fits : FitsCommand (symbols d.vocabulary.signature) (block_command text d cs)
    conditions : AllByRecursion (λ c. FitsForm (symbols d.vocabulary.signature) [] c.sentence)
        (d.places.conditions ++ conditions_of_block text d.vocabulary d.bodies (block_of cs))
    branches : HasBranches (block_command text d cs)
    written : EachPrimitive
        (IsWritten (d.places.conditions ++ conditions_of_block text d.vocabulary d.bodies (block_of cs)))
        (block_command text d cs)
    others : (c : CommandTree) → EachPrimitive (IsWritten d.places.conditions) c → EachPrimitive
        (IsWritten (d.places.conditions ++ conditions_of_block text d.vocabulary d.bodies (block_of cs))) c
    draft_plain : d.places.quantifiers ++ quantifiers_of_block (block_of cs) ≡ [] → IsPlainDraft d
    conditions_plain : d.places.quantifiers ++ quantifiers_of_block (block_of cs) ≡ []
        → AllByRecursion (λ c. HasPlainTerms c.sentence)
        (d.places.conditions ++ conditions_of_block text d.vocabulary d.bodies (block_of cs))
    plain : d.places.quantifiers ++ quantifiers_of_block (block_of cs) ≡ []
        → EachPrimitive HasPlainSides (block_command text d cs)

  adds_block : (cs : List syntax.CommandTree) → CommandsNest max_nesting cs
      → first_fault (block_demands text d.vocabulary format (block_of cs)) ≡ None → AddsBlock cs
  adds_block cs nests met =
      let b = block_of cs in
      let old = d.places.conditions in
      let new = conditions_of_block text d.vocabulary d.bodies (block_of cs) in
      record {
        fits = block_fits laws.fit text format d.vocabulary d.bodies s.words s.bodies b met;
        conditions = all_append (λ (c : Condition). FitsForm (symbols d.vocabulary.signature) [] c.sentence) old new
            s.conditions (block_conditions_fit laws.fit text format d.vocabulary d.bodies s.words s.bodies b met);
        branches = block_branches text d.vocabulary d.bodies max_nesting b (block_nests max_nesting cs nests);
        written = each_more (IsWritten new) (IsWritten (old ++ new)) (written_right old new) (block_command text d cs)
            (block_written text d.vocabulary d.bodies b);
        others = each_more (IsWritten old) (IsWritten (old ++ new)) (written_left old new);
        draft_plain = λ none. s.plain (nil_left d.places.quantifiers (quantifiers_of_block b) none);
        conditions_plain = λ none.
            let q = s.plain (nil_left d.places.quantifiers (quantifiers_of_block b) none) in
            all_append (λ (c : Condition). HasPlainTerms c.sentence) old new q.conditions
            (block_conditions_plain laws.plain text d.vocabulary d.bodies q.bodies b
            (nil_right d.places.quantifiers (quantifiers_of_block b) none));
        plain = λ none.
            let q = s.plain (nil_left d.places.quantifiers (quantifiers_of_block b) none) in
            block_plain laws.plain text d.vocabulary d.bodies q.bodies b
            (nil_right d.places.quantifiers (quantifiers_of_block b) none);
      }

  with_init : (at : ℕ) (cs : List syntax.CommandTree) → AddsBlock cs → IsSound (draft_with text d (Init at cs))
  with_init at cs a = record {
    words = s.words;
    bodies = record { counted = s.bodies.counted; fit = s.bodies.fit };
    listed = s.listed;
    listed_plain = s.listed_plain;
    axioms = s.axioms;
    conjectures = s.conjectures;
    blocks = record { init = a.fits; actions = s.blocks.actions; last = s.blocks.last };
    conditions = a.conditions;
    branches = record { init = a.branches; actions = s.branches.actions; last = s.branches.last };
    axiom_names = s.axiom_names;
    conjecture_names = s.conjecture_names;
    action_names = s.action_names;
    listed_names = s.listed_names;
    function_places = s.function_places;
    axiom_places = s.axiom_places;
    conjecture_places = s.conjecture_places;
    action_places = s.action_places;
    listed_places = s.listed_places;
    written = record {
      init = a.written;
      actions = all_more _ _ a.others d.actions s.written.actions;
      last = a.others d.last s.written.last;
    };
    plain = λ none. let q = a.draft_plain none in record {
      bodies = q.bodies;
      axioms = q.axioms;
      conjectures = q.conjectures;
      conditions = a.conditions_plain none;
      blocks = record { init = a.plain none; actions = q.blocks.actions; last = q.blocks.last };
    };
  }

  with_final : (at : ℕ) (cs : List syntax.CommandTree) → AddsBlock cs → IsSound (draft_with text d (Final at cs))
  with_final at cs a = record {
    words = s.words;
    bodies = record { counted = s.bodies.counted; fit = s.bodies.fit };
    listed = s.listed;
    listed_plain = s.listed_plain;
    axioms = s.axioms;
    conjectures = s.conjectures;
    blocks = record { init = s.blocks.init; actions = s.blocks.actions; last = a.fits };
    conditions = a.conditions;
    branches = record { init = s.branches.init; actions = s.branches.actions; last = a.branches };
    axiom_names = s.axiom_names;
    conjecture_names = s.conjecture_names;
    action_names = s.action_names;
    listed_names = s.listed_names;
    function_places = s.function_places;
    axiom_places = s.axiom_places;
    conjecture_places = s.conjecture_places;
    action_places = s.action_places;
    listed_places = s.listed_places;
    written = record {
      init = a.others d.init s.written.init;
      actions = all_more _ _ a.others d.actions s.written.actions;
      last = a.written;
    };
    plain = λ none. let q = a.draft_plain none in record {
      bodies = q.bodies;
      axioms = q.axioms;
      conjectures = q.conjectures;
      conditions = a.conditions_plain none;
      blocks = record { init = q.blocks.init; actions = q.blocks.actions; last = a.plain none };
    };
  }

  with_action : (name : Name) (cs : List syntax.CommandTree) → IsSorted (words_with text d.vocabulary (Action name cs))
      → AddsBlock cs → IsSound (draft_with text d (Action name cs))
  with_action name cs sorted a =
      let n = bytes_of text name in
      let c = block_command text d cs in
      record {
        words = sorted;
        bodies = record { counted = s.bodies.counted; fit = s.bodies.fit };
        listed = s.listed;
        listed_plain = s.listed_plain;
        axioms = s.axioms;
        conjectures = s.conjectures;
        blocks = record {
          init = s.blocks.init;
          actions = all_push _ d.actions c s.blocks.actions a.fits;
          last = s.blocks.last;
        };
        conditions = a.conditions;
        branches = record {
          init = s.branches.init;
          actions = all_push _ d.actions c s.branches.actions a.branches;
          last = s.branches.last;
        };
        axiom_names = s.axiom_names;
        conjecture_names = s.conjecture_names;
        action_names = pushed text d.vocabulary.names.actions d.actions n c s.action_names;
        listed_names = s.listed_names;
        function_places = s.function_places;
        axiom_places = s.axiom_places;
        conjecture_places = s.conjecture_places;
        action_places = pushed text d.places.actions d.actions name.start c s.action_places;
        listed_places = s.listed_places;
        written = record {
          init = a.others d.init s.written.init;
          actions = all_push _ d.actions c (all_more _ _ a.others d.actions s.written.actions) a.written;
          last = a.others d.last s.written.last;
        };
        plain = λ none. let q = a.draft_plain none in record {
          bodies = q.bodies;
          axioms = q.axioms;
          conjectures = q.conjectures;
          conditions = a.conditions_plain none;
          blocks = record {
            init = q.blocks.init;
            actions = all_push _ d.actions c q.blocks.actions (a.plain none);
            last = q.blocks.last;
          };
        };
      }

  -- ---- definitions

  -- of as many lists as formulas, with one more of each, each formula fits its list
  fit_pushed : (ks : List (List ℕ)) (bodies : List FormTree) (k : List ℕ) (p : FormTree) → length bodies ≡ length ks
      → ((i : ℕ) → i < length ks
      → FitsForm (symbols d.vocabulary.signature) (reverse (slice_index_or ks i [])) (slice_index_or bodies i bottom))
      → FitsForm (symbols d.vocabulary.signature) (reverse k) p → (i : ℕ) → i < length (ks ++ k ∷ [])
      → FitsForm (symbols d.vocabulary.signature) (reverse (slice_index_or (ks ++ k ∷ []) i []))
      (slice_index_or (bodies ++ p ∷ []) i bottom)
  fit_pushed ks bodies k p counted all one i h = by (nat_lt i (length ks)) refl
    where
      by : (b : Bool) → nat_lt i (length ks) ≡ b
          → FitsForm (symbols d.vocabulary.signature) (reverse (slice_index_or (ks ++ k ∷ []) i []))
          (slice_index_or (bodies ++ p ∷ []) i bottom)
      by true e =
          let below : i < length ks = grind (arith, nat_tests, e) in
          let there : i < length bodies = omega (arith, below, counted) in
          rw (get_or_append_left ks (k ∷ []) [] i below, get_or_append_left bodies (p ∷ []) bottom i there) (all i below)
      by false e =
          let above : length ks ≤ i = grind (arith, nat_tests, e) in
          let last : length ks ≡ i = omega (arith, h, above, length-append ks (k ∷ [])) in
          let same : length bodies ≡ i = counted ∙ last in
          let left : slice_index_or (ks ++ k ∷ []) i [] ≡ k =
          subst (λ (j : ℕ). slice_index_or (ks ++ k ∷ []) j [] ≡ k) last (get_or-append_seam ks k [] []) in
          let right : slice_index_or (bodies ++ p ∷ []) i bottom ≡ p =
          subst (λ (j : ℕ). slice_index_or (bodies ++ p ∷ []) j bottom ≡ p) same (get_or-append_seam bodies p [] bottom) in
          rw (left, right) one

  with_definition : (name : Name) (bs : List Binder) (e : ExprTree)
      → IsSorted (words_with text d.vocabulary (Define name bs e))
      → first_fault (definition_demands text d.vocabulary bs e) ≡ None → IsSound (draft_with text d (Define name bs e))
  with_definition name bs e sorted met =
      let p = definition text d.vocabulary d.bodies bs e in
      let ks = parameter_sorts text d.vocabulary bs in
      let inside = with_binders text d.vocabulary [] bs in
      let fits = formula_fits laws.fit text d.vocabulary d.bodies s.words s.bodies inside e
      (met_right (binders_demands text d.vocabulary [] 0 bs) (demands text d.vocabulary inside Formula e) met) in
      record {
        words = sorted;
        bodies = record {
          counted = pushed text d.bodies d.vocabulary.derived p ks s.bodies.counted;
          fit = fit_pushed d.vocabulary.derived d.bodies ks p s.bodies.counted s.bodies.fit
              (subst (λ (ss : List ℕ). FitsForm (symbols d.vocabulary.signature) ss p)
              (sorts-binders text d.vocabulary [] bs ∙ append-nil (reverse ks)) fits);
        };
        listed = s.listed;
        listed_plain = s.listed_plain;
        axioms = s.axioms;
        conjectures = s.conjectures;
        blocks = record { init = s.blocks.init; actions = s.blocks.actions; last = s.blocks.last };
        conditions = s.conditions;
        branches = record { init = s.branches.init; actions = s.branches.actions; last = s.branches.last };
        axiom_names = s.axiom_names;
        conjecture_names = s.conjecture_names;
        action_names = s.action_names;
        listed_names = s.listed_names;
        function_places = s.function_places;
        axiom_places = s.axiom_places;
        conjecture_places = s.conjecture_places;
        action_places = s.action_places;
        listed_places = s.listed_places;
        written = record { init = s.written.init; actions = s.written.actions; last = s.written.last };
        plain = λ none.
            let q = s.plain (nil_left d.places.quantifiers (quantifiers_in true e) none) in
            record {
              bodies = all_push IsQuantifierFree d.bodies p q.bodies
                  (formula_free laws.plain text d.vocabulary d.bodies q.bodies inside e
                  (nil_right d.places.quantifiers (quantifiers_in true e) none));
              axioms = q.axioms;
              conjectures = q.conjectures;
              conditions = q.conditions;
              blocks = record { init = q.blocks.init; actions = q.blocks.actions; last = q.blocks.last };
            };
      }

-- ---- items

-- the axiom of a sort whose elements are listed
with_listed_sort : (text : List ℕ) (d : DraftTree) (name : Name) (names : List Name)
    → IsSound (record d {
      vocabulary = words_with text d.vocabulary (syntax.Sort name names);
      places = record d.places { functions = d.places.functions ++ name_places names };
    }) → IsSound (draft_with text d (syntax.Sort name names))
with_listed_sort text d name [] s = s
with_listed_sort text d name (one ∷ names) s =
    let old = with_sort text d.vocabulary name in
    let k = d.vocabulary.signature.sorts in
    let v = with_elements text old k (one ∷ names) in
    let fs = count_from (length d.vocabulary.signature.functions) (length (one ∷ names)) in
    let grown = grown_elements text old k (one ∷ names) in
    let known : d.vocabulary.signature.sorts < v.signature.sorts = omega (arith, grown.sorts) in
    let p = listed_axiom k fs in
    record {
      words = s.words;
      bodies = record { counted = s.bodies.counted; fit = s.bodies.fit };
      listed = all_push _ d.listed.sentences p s.listed
          (listed_fits v.signature k (length d.vocabulary.signature.functions) (length (one ∷ names)) known
          (element_count text old k (one ∷ names)) (elements_are text old k (one ∷ names)));
      listed_plain = all_push HasPlainTerms d.listed.sentences p s.listed_plain (listed_plain k fs);
      axioms = s.axioms;
      conjectures = s.conjectures;
      blocks = record { init = s.blocks.init; actions = s.blocks.actions; last = s.blocks.last };
      conditions = s.conditions;
      branches = record { init = s.branches.init; actions = s.branches.actions; last = s.branches.last };
      axiom_names = s.axiom_names;
      conjecture_names = s.conjecture_names;
      action_names = s.action_names;
      listed_names = pushed text d.listed.names d.listed.sentences (bytes_of text name) p s.listed_names;
      function_places = s.function_places;
      axiom_places = s.axiom_places;
      conjecture_places = s.conjecture_places;
      action_places = s.action_places;
      listed_places = pushed text d.listed.places d.listed.sentences name.start p s.listed_places;
      written = record { init = s.written.init; actions = s.written.actions; last = s.written.last };
      plain = λ none.
          let q = s.plain none in
          record {
            bodies = q.bodies;
            axioms = q.axioms;
            conjectures = q.conjectures;
            conditions = q.conditions;
            blocks = record { init = q.blocks.init; actions = q.blocks.actions; last = q.blocks.last };
          };
    }

elements_grow : (text : List ℕ) (d : DraftTree) (name : Name) (names : List Name)
    → Grows text d (words_with text d.vocabulary (syntax.Sort name names))
elements_grow text d name names =
    let k = d.vocabulary.signature.sorts in
    let kept = elements_keep text (with_sort text d.vocabulary name) k names in
    record {
      symbols = further (symbols d.vocabulary.signature) (symbols (with_sort text d.vocabulary name).signature)
          (symbols (with_elements text (with_sort text d.vocabulary name) k names).signature)
          (grown_sorts d.vocabulary.signature) (grown_elements text (with_sort text d.vocabulary name) k names);
      derived = kept.derived;
      axioms = ap length kept.axioms;
      conjectures = ap length kept.conjectures;
      actions = ap length kept.actions;
    }

name_count-places : (names : List Name) → length (name_places names) ≡ length names
name_count-places [] = refl
name_count-places (name ∷ names) = ap suc (name_count-places names)

pub step : (laws : AreLaws) (text : List ℕ) (format : Format) (d : DraftTree) (item : ItemTree) → IsSound d
    → ItemNests max_nesting item → first_fault (head_demands text d.vocabulary item) ≡ None
    → first_fault (body_demands text format d.vocabulary item) ≡ None → IsSound (draft_with text d item)
step laws text format d (syntax.Sort name names) s nests head body =
    let v = words_with text d.vocabulary (syntax.Sort name names) in
    let old = with_sort text d.vocabulary name in
    with_listed_sort text d name names
    (with_symbols laws text format d s (syntax.Sort name names) (d.places.functions ++ name_places names) head body
    (elements_grow text d name names)
    (omega (
      arith,
      length-append d.places.functions (name_places names),
      name_count-places names,
      s.function_places,
      element_count text old d.vocabulary.signature.sorts names,
    )))
step laws text format d (Relation name sorts) s nests head body =
    with_symbols laws text format d s (Relation name sorts) d.places.functions head body
    (grows_by laws text format d s (words_with text d.vocabulary (Relation name sorts))
    (grown_relations d.vocabulary.signature _) refl refl refl refl) s.function_places
step laws text format d (Function name sorts sort) s nests head body =
    with_symbols laws text format d s (Function name sorts sort) (d.places.functions ++ name.start ∷ []) head body
    (grows_by laws text format d s (words_with text d.vocabulary (Function name sorts sort))
    (grown_functions d.vocabulary.signature _ d.vocabulary.signature.listed) refl refl refl refl)
    (pushed text d.places.functions d.vocabulary.signature.functions name.start _ s.function_places)
step laws text format d (Variable name sort) s nests head body =
    with_symbols laws text format d s (Variable name sort) (d.places.functions ++ name.start ∷ []) head body
    (grows_by laws text format d s (words_with text d.vocabulary (Variable name sort))
    (grown_functions d.vocabulary.signature _ d.vocabulary.signature.listed) refl refl refl refl)
    (pushed text d.places.functions d.vocabulary.signature.functions name.start _ s.function_places)
step laws text format d (Axiom name e) s nests head body =
    with_axiom laws text format d s name e (laws.sorted text format d.vocabulary (Axiom name e) s.words head body) body
step laws text format d (Conjecture name e) s nests head body =
    with_conjecture laws text format d s name e
    (laws.sorted text format d.vocabulary (Conjecture name e) s.words head body) body
step laws text format d (Init at cs) s nests head body =
    with_init laws text format d s at cs (adds_block laws text format d s cs nests body)
step laws text format d (Action name cs) s nests head body =
    with_action laws text format d s name cs (laws.sorted text format d.vocabulary (Action name cs) s.words head body)
    (adds_block laws text format d s cs nests body)
step laws text format d (Final at cs) s nests head body =
    with_final laws text format d s at cs (adds_block laws text format d s cs nests body)
step laws text format d (Define name bs e) s nests head body =
    with_definition laws text format d s name bs e
    (laws.sorted text format d.vocabulary (Define name bs e) s.words head body) body

steps : (laws : AreLaws) (text : List ℕ) (format : Format) (items : List ItemTree) (d : DraftTree) → IsSound d
    → AllByRecursion (ItemNests max_nesting) items → HaveMet text format d.vocabulary items
    → IsSound (draft_of text d items)
steps laws text format [] d s nests h = s
steps laws text format (item ∷ items) d s nests h =
    steps laws text format items (draft_with text d item) (step laws text format d item s nests.0 h.0 h.1) nests.1 h.2

pub at_start : IsSound empty_draft
at_start = record {
  words = record {
    sorted = record {
      relations = λ r h. absurd (omega arith);
      functions = λ f h. absurd (omega arith);
      into = λ f h. absurd (omega arith);
      relations_short = λ r h. absurd (omega arith);
      functions_short = λ f h. absurd (omega arith);
    };
    derived_sorted = λ k x h. absurd (omega arith);
    derived_short = λ k x h. absurd (omega arith);
    sorts = refl;
    relations = refl;
    functions = refl;
    derived = refl;
    few = omega arith;
  };
  bodies = record { counted = refl; fit = λ k h. absurd (omega arith) };
  listed = tt;
  listed_plain = tt;
  axioms = tt;
  conjectures = tt;
  blocks = record { init = tt; actions = tt; last = tt };
  conditions = tt;
  branches = record { init = tt; actions = tt; last = tt };
  axiom_names = refl;
  conjecture_names = refl;
  action_names = refl;
  listed_names = refl;
  function_places = refl;
  axiom_places = refl;
  conjecture_places = refl;
  action_places = refl;
  listed_places = refl;
  written = record { init = tt; actions = tt; last = tt };
  plain = λ none. record {
    bodies = tt;
    axioms = tt;
    conjectures = tt;
    conditions = tt;
    blocks = record { init = tt; actions = tt; last = tt };
  };
}

pub drafts_are_sound : AreLaws → DraftsAreSound
drafts_are_sound laws text tree shaped h =
    steps laws text tree.format tree.items empty_draft at_start shaped (laws.met text tree h)

pub models_are_whole : AreLaws → ModelsAreWhole
models_are_whole laws text tree shaped h =
    whole (draft_of text empty_draft tree.items) (drafts_are_sound laws text tree shaped h)

-- The commands of blocks whose demands are met: they fit, their assumptions are written in the text, each choice has a
-- branch, and where no quantifier stands where none may, their sides are plain.
use Rattle.std.proofs.Common.{◌≡◌, ℕ, zero, suc, true, false, inl, inr, List, [], ◌∷◌, ◌++◌, Option, Some, None, refl}
use Rattle.std.specs.List.{AllByRecursion}
use Rattle.base.proofs.Lists.{all_append, some_left, some_right}
use Rattle.fol_sig.specs.Symbols.{symbols}
use Rattle.fol_formula.specs.Syntax.{FormTree, TermTree, TermTrees, size_of, no_terms, term_then}
use Rattle.fol_formula.specs.Fits.{FitsForm}
use Rattle.fol_formula.specs.Fragments.{IsQuantifierFree, HasPlainTerms, AreQuantifierFree, IsQuantifierFreeTerm, AreQuantifierFreeTerms}
use Rattle.rml_terms.specs.declared.tree.Name.{Name}
use Rattle.rml_terms.specs.Tree.{ExprTree}
use Rattle.rml_syntax.specs.Tree.{Block, Blocks, Skip, Abort, Assume, Assert, If, Choose, Insert}
use Rattle.rml_syntax.specs.Tree.{Remove, Put, Assign, no_command, and_command, no_block, and_block}
use Rattle.rml_syntax.specs.Tree as syntax
use Rattle.rml_syntax.specs.Shape.{CommandNests, BlockNests, BlocksNest}
use Rattle.rml_command.specs.Trees.{PrimitiveTree, assume, set_rel, set_fun, havoc, havoc_rel, abort, CommandTrees}
use Rattle.rml_command.specs.Trees.{EachPrimitive, EachPrimitiveOf, HasBranches, HaveBranches}
use Rattle.rml_command.specs.Models.{FitsPrimitive, IsWritten, HasPlainSides}
use Rattle.rml_syntax.specs.declared.tree.Format.{Format}
use Rattle.rml_names.specs.Vocabulary.{Vocabulary}
use Rattle.rml_names.specs.Sound.{IsSorted}
use Rattle.rml_sorts.specs.Sound.{HasBodies}
use Rattle.fol_subst.specs.Templates.{InstancesFit}
use Rattle.rml_command.specs.declared.places.Condition.{Condition}
use Rattle.rml_command.specs.declared.places.Word.TheVariants as word
use Rattle.rml_names.specs.declared.meaning.Meaning.{Meaning}
use Rattle.rml_names.specs.declared.meaning.Meaning.TheVariants as meaning
use Rattle.rml_sort_check.specs.declared.wanted.Wanted.TheVariants.{Formula}
use Rattle.rml_names.specs.Meanings.{bytes_of, symbol_of, argument_sorts, with_parameters}
use Rattle.rml_sort_check.specs.Demands.{first_fault, demands, command_demands, block_demands, blocks_demands}
use Rattle.rml_elaborate.specs.Formulas.{formula_of, term_of, terms_of}
use Rattle.rml_quantifiers.specs.Quantifiers.{quantifiers_in, quantifiers_in_each}
use Rattle.rml_command.specs.Fresh.{parameters}
use Rattle.rml_elaborate.specs.Updates.{equations, insertion, removal, placement, assignment}
use Rattle.rml_sorts.specs.Commands.{command_of, commands_of, branches_of, conditions_of, conditions_of_block}
use Rattle.rml_sorts.specs.Commands.{conditions_of_blocks}
use Rattle.rml_quantifiers.specs.Quantifiers.{quantifiers_of_side, quantifiers_of, quantifiers_of_block}
use Rattle.rml_quantifiers.specs.Quantifiers.{quantifiers_of_blocks}
use Rattle.rml_sort_check.specs.Firsts.{met_left, met_right}
use Rattle.rml_sorts.proofs.Extending.{each_more, each_of_more}
use Rattle.rml_sorts.proofs.Fitting.{IsThere, symbol_is_there, formula_fits}
use Rattle.rml_sorts.proofs.Sides.{insert_fits, remove_fits, put_fits, assign_fits}
use Rattle.rml_sorts.proofs.Plain.{InstancesArePlain, nil_left, nil_right, formula_free, formula_plain, term_free, terms_free}

-- ---- they fit

module _ (fit : InstancesFit) (text : List ℕ) (format : Format) (v : Vocabulary) (bodies : List FormTree)
    (s : IsSorted v) (right : HasBodies v bodies) where
  there : (name : Name) → IsThere v 0 [] (symbol_of v (bytes_of text name))
  there name = symbol_is_there v s [] (bytes_of text name)

  mutual
    command_fits : (c : syntax.CommandTree) → first_fault (command_demands text v format c) ≡ None
        → EachPrimitive (FitsPrimitive (symbols v.signature)) (command_of text v bodies c)
    command_fits (Skip at) d = tt
    command_fits (Abort at) d = tt
    command_fits (Assume at e) d = formula_fits fit text v bodies s right [] e d
    command_fits (Assert at e) d = ((formula_fits fit text v bodies s right [] e d, (tt, tt)), (tt, tt))
    command_fits (If at e a b) d =
        let de = demands text v [] Formula e in
        let ab = met_right de (block_demands text v format a ++ block_demands text v format b) d in
        let p = formula_fits fit text v bodies s right [] e (met_left de _ d) in (
          (p, block_fits a (met_left (block_demands text v format a) _ ab)),
          ((p, block_fits b (met_right (block_demands text v format a) _ ab)), tt),
        )
    command_fits (Choose at bs) d = branches_fit bs d
    command_fits (Insert at name args) d =
        insert_fits fit text v bodies s right (symbol_of v (bytes_of text name)) name.start args (there name) d
    command_fits (Remove at name args) d =
        remove_fits fit text v bodies s right (symbol_of v (bytes_of text name)) name.start args (there name) d
    command_fits (Put at name args e) d =
        put_fits fit text v bodies s right (symbol_of v (bytes_of text name)) name.start args e (there name) d
    command_fits (Assign name ps value) d =
        assign_fits fit text v bodies s right format (symbol_of v (bytes_of text name)) name.start ps value (there name) d

    pub block_fits : (b : Block) → first_fault (block_demands text v format b) ≡ None
        → EachPrimitiveOf (FitsPrimitive (symbols v.signature)) (commands_of text v bodies b)
    block_fits no_command d = tt
    block_fits (and_command c cs) d = (
      command_fits c (met_left (command_demands text v format c) _ d),
      block_fits cs
          (met_right (command_demands text v format c) _ d),
    )

    branches_fit : (bs : Blocks) → first_fault (blocks_demands text v format bs) ≡ None
        → EachPrimitiveOf (FitsPrimitive (symbols v.signature)) (branches_of text v bodies bs)
    branches_fit no_block d = tt
    branches_fit (and_block b bs) d =
        (block_fits b (met_left (block_demands text v format b) _ d), branches_fit bs (met_right (block_demands text v format b) _ d))

  -- ---- so do the conditions

  abbrev SentenceFits : Condition → Type 0
  SentenceFits c = FitsForm (symbols v.signature) [] c.sentence

  mutual
    conditions_fit : (c : syntax.CommandTree) → first_fault (command_demands text v format c) ≡ None
        → AllByRecursion SentenceFits (conditions_of text v bodies c)
    conditions_fit (Skip at) d = tt
    conditions_fit (Abort at) d = tt
    conditions_fit (Assume at e) d = (formula_fits fit text v bodies s right [] e d, tt)
    conditions_fit (Assert at e) d = (formula_fits fit text v bodies s right [] e d, tt)
    conditions_fit (If at e a b) d =
        let de = demands text v [] Formula e in
        let ab = met_right de (block_demands text v format a ++ block_demands text v format b) d in (
          formula_fits fit text v bodies s right [] e (met_left de _ d),
          all_append SentenceFits (conditions_of_block text v bodies a) (conditions_of_block text v bodies b)
              (block_conditions_fit a (met_left (block_demands text v format a) _ ab))
              (block_conditions_fit b (met_right (block_demands text v format a) _ ab)),
        )
    conditions_fit (Choose at bs) d = blocks_conditions_fit bs d
    conditions_fit (Insert at name args) d = tt
    conditions_fit (Remove at name args) d = tt
    conditions_fit (Put at name args e) d = tt
    conditions_fit (Assign name ps value) d = tt

    pub block_conditions_fit : (b : Block) → first_fault (block_demands text v format b) ≡ None
        → AllByRecursion SentenceFits (conditions_of_block text v bodies b)
    block_conditions_fit no_command d = tt
    block_conditions_fit (and_command c cs) d =
        all_append SentenceFits (conditions_of text v bodies c) (conditions_of_block text v bodies cs)
        (conditions_fit c (met_left (command_demands text v format c) _ d))
        (block_conditions_fit cs (met_right (command_demands text v format c) _ d))

    blocks_conditions_fit : (bs : Blocks) → first_fault (blocks_demands text v format bs) ≡ None
        → AllByRecursion SentenceFits (conditions_of_blocks text v bodies bs)
    blocks_conditions_fit no_block d = tt
    blocks_conditions_fit (and_block b bs) d =
        all_append SentenceFits (conditions_of_block text v bodies b) (conditions_of_blocks text v bodies bs)
        (block_conditions_fit b (met_left (block_demands text v format b) _ d))
        (blocks_conditions_fit bs (met_right (block_demands text v format b) _ d))

-- ---- each choice has a branch

module _ (text : List ℕ) (v : Vocabulary) (bodies : List FormTree) where
  mutual
    command_branches : (n : ℕ) (c : syntax.CommandTree) → CommandNests n c → HasBranches (command_of text v bodies c)
    command_branches n (Skip at) h = tt
    command_branches n (Abort at) h = tt
    command_branches n (Assume at e) h = tt
    command_branches n (Assert at e) h = ((tt, (tt, tt)), (tt, tt))
    command_branches n (If at e a b) h = ((tt, block_branches n a h.1), ((tt, block_branches n b h.2), tt))
    command_branches n (Choose at no_block) h = absurd h
    command_branches n (Choose at (and_block b bs)) h = (block_branches n b h.0, blocks_branches n bs h.1)
    command_branches n (Insert at name args) h = tt
    command_branches n (Remove at name args) h = tt
    command_branches n (Put at name args e) h = tt
    command_branches n (Assign name ps value) h = tt

    pub block_branches : (n : ℕ) (b : Block) → BlockNests n b → HaveBranches (commands_of text v bodies b)
    block_branches n no_command h = tt
    block_branches n (and_command c cs) h = (command_branches n c h.0, block_branches n cs h.1)

    blocks_branches : (n : ℕ) (bs : Blocks) → BlocksNest n bs → HaveBranches (branches_of text v bodies bs)
    blocks_branches n no_block h = tt
    blocks_branches n (and_block b bs) h = (block_branches n b h.0, blocks_branches n bs h.1)

-- ---- assumptions are written in the text

pub written_left : (xs ys : List Condition) (q : PrimitiveTree) → IsWritten xs q → IsWritten (xs ++ ys) q
written_left xs ys (assume p) h = some_left _ xs ys h
written_left xs ys (set_rel r by) h = tt
written_left xs ys (set_fun f by) h = tt
written_left xs ys (havoc v) h = tt
written_left xs ys (havoc_rel r) h = tt
written_left xs ys abort h = tt

pub written_right : (xs ys : List Condition) (q : PrimitiveTree) → IsWritten ys q → IsWritten (xs ++ ys) q
written_right xs ys (assume p) h = some_right _ xs ys h
written_right xs ys (set_rel r by) h = tt
written_right xs ys (set_fun f by) h = tt
written_right xs ys (havoc v) h = tt
written_right xs ys (havoc_rel r) h = tt
written_right xs ys abort h = tt

insertion_written : (cs : List Condition) (x : Meaning) (ts : TermTrees) → IsWritten cs (insertion x ts)
insertion_written cs (meaning.Bound i k) ts = tt
insertion_written cs (meaning.Relation r) ts = tt
insertion_written cs (meaning.Function f) ts = tt
insertion_written cs (meaning.Derived d) ts = tt
insertion_written cs meaning.Unknown ts = tt

removal_written : (cs : List Condition) (x : Meaning) (ts : TermTrees) → IsWritten cs (removal x ts)
removal_written cs (meaning.Bound i k) ts = tt
removal_written cs (meaning.Relation r) ts = tt
removal_written cs (meaning.Function f) ts = tt
removal_written cs (meaning.Derived d) ts = tt
removal_written cs meaning.Unknown ts = tt

placement_written : (cs : List Condition) (x : Meaning) (ts : TermTrees) (u : TermTree)
    → IsWritten cs (placement x ts u)
placement_written cs (meaning.Bound i k) ts u = tt
placement_written cs (meaning.Relation r) ts u = tt
placement_written cs (meaning.Function f) ts u = tt
placement_written cs (meaning.Derived d) ts u = tt
placement_written cs meaning.Unknown ts u = tt

module _ (text : List ℕ) (v : Vocabulary) (bodies : List FormTree) where
  assignment_written : (cs : List Condition) (x : Meaning) (ps : List Name) (value : Option ExprTree)
      → IsWritten cs (assignment text v bodies x ps value)
  assignment_written cs (meaning.Bound i k) ps value = tt
  assignment_written cs (meaning.Relation r) ps None = tt
  assignment_written cs (meaning.Relation r) ps (Some e) = tt
  assignment_written cs (meaning.Function f) ps None = tt
  assignment_written cs (meaning.Function f) ps (Some e) = tt
  assignment_written cs (meaning.Derived d) ps value = tt
  assignment_written cs meaning.Unknown ps value = tt

  each_left : (xs ys : List Condition) (cs : CommandTrees) → EachPrimitiveOf (IsWritten xs) cs
      → EachPrimitiveOf (IsWritten (xs ++ ys)) cs
  each_left xs ys cs h = each_of_more (IsWritten xs) (IsWritten (xs ++ ys)) (written_left xs ys) cs h

  each_right : (xs ys : List Condition) (cs : CommandTrees) → EachPrimitiveOf (IsWritten ys) cs
      → EachPrimitiveOf (IsWritten (xs ++ ys)) cs
  each_right xs ys cs h = each_of_more (IsWritten ys) (IsWritten (xs ++ ys)) (written_right xs ys) cs h

  mutual
    command_written : (c : syntax.CommandTree)
        → EachPrimitive (IsWritten (conditions_of text v bodies c)) (command_of text v bodies c)
    command_written (Skip at) = tt
    command_written (Abort at) = tt
    command_written (Assume at e) = inl refl
    command_written (Assert at e) = ((inl refl, (tt, tt)), (tt, tt))
    command_written (If at e a b) =
        let x = conditions_of_block text v bodies a in
        let y = conditions_of_block text v bodies b in (
          (
            inl (inl refl),
            each_right (record { word = word.If; at = at; sentence = formula_of text v bodies [] e } ∷ [])
                (x ++ y) (commands_of text v bodies a) (each_left x y (commands_of text v bodies a) (block_written a)),
          ),
          (
            (
              inl (inr refl),
              each_right (record { word = word.If; at = at; sentence = formula_of text v bodies [] e } ∷ [])
                  (x ++ y) (commands_of text v bodies b) (each_right x y (commands_of text v bodies b) (block_written b)),
            ),
            tt,
          ),
        )
    command_written (Choose at bs) = branches_written bs
    command_written (Insert at name args) =
        insertion_written [] (symbol_of v (bytes_of text name)) (terms_of text v bodies [] args)
    command_written (Remove at name args) =
        removal_written [] (symbol_of v (bytes_of text name)) (terms_of text v bodies [] args)
    command_written (Put at name args e) =
        placement_written [] (symbol_of v (bytes_of text name)) (terms_of text v bodies [] args) (term_of text v bodies [] e)
    command_written (Assign name ps value) = assignment_written [] (symbol_of v (bytes_of text name)) ps value

    pub block_written : (b : Block) → EachPrimitiveOf (IsWritten (conditions_of_block text v bodies b)) (commands_of text v bodies b)
    block_written no_command = tt
    block_written (and_command c cs) = (
      each_more (IsWritten (conditions_of text v bodies c))
          (IsWritten (conditions_of text v bodies c ++ conditions_of_block text v bodies cs))
          (written_left (conditions_of text v bodies c) (conditions_of_block text v bodies cs)) (command_of text v bodies c)
          (command_written c),
      each_right (conditions_of text v bodies c) (conditions_of_block text v bodies cs) (commands_of text v bodies cs) (block_written cs),
    )

    branches_written : (bs : Blocks)
        → EachPrimitiveOf (IsWritten (conditions_of_blocks text v bodies bs)) (branches_of text v bodies bs)
    branches_written no_block = tt
    branches_written (and_block b bs) = (
      each_left (conditions_of_block text v bodies b) (conditions_of_blocks text v bodies bs) (commands_of text v bodies b)
          (block_written b),
      each_right (conditions_of_block text v bodies b) (conditions_of_blocks text v bodies bs) (branches_of text v bodies bs)
          (branches_written bs),
    )

-- ---- sides are plain

parameters_free : (n : ℕ) → AreQuantifierFreeTerms (parameters n)
parameters_free zero = tt
parameters_free (suc n) = (tt, parameters_free n)

equations_free : (ts : TermTrees) → AreQuantifierFreeTerms ts → AreQuantifierFree (equations ts)
equations_free no_terms h = tt
equations_free (term_then t ts) h = ((tt, h.0), equations_free ts h.1)

insertion_plain : (x : Meaning) (ts : TermTrees) → AreQuantifierFreeTerms ts → HasPlainSides (insertion x ts)
insertion_plain (meaning.Bound i k) ts h = tt
insertion_plain (meaning.Relation r) ts h = (parameters_free (size_of ts), (equations_free ts h, tt))
insertion_plain (meaning.Function f) ts h = tt
insertion_plain (meaning.Derived d) ts h = tt
insertion_plain meaning.Unknown ts h = tt

removal_plain : (x : Meaning) (ts : TermTrees) → AreQuantifierFreeTerms ts → HasPlainSides (removal x ts)
removal_plain (meaning.Bound i k) ts h = tt
removal_plain (meaning.Relation r) ts h = (parameters_free (size_of ts), (equations_free ts h, tt))
removal_plain (meaning.Function f) ts h = tt
removal_plain (meaning.Derived d) ts h = tt
removal_plain meaning.Unknown ts h = tt

placement_plain : (x : Meaning) (ts : TermTrees) (u : TermTree) → AreQuantifierFreeTerms ts → IsQuantifierFreeTerm u
    → HasPlainSides (placement x ts u)
placement_plain (meaning.Bound i k) ts u h g = tt
placement_plain (meaning.Relation r) ts u h g = tt
placement_plain (meaning.Function f) ts u h g = (equations_free ts h, g, parameters_free (size_of ts))
placement_plain (meaning.Derived d) ts u h g = tt
placement_plain meaning.Unknown ts u h g = tt

module _ (laws : InstancesArePlain) (text : List ℕ) (v : Vocabulary) (bodies : List FormTree)
    (right : AllByRecursion IsQuantifierFree bodies) where
  assignment_plain : (x : Meaning) (ps : List Name) (value : Option ExprTree) → quantifiers_of_side value ≡ []
      → HasPlainSides (assignment text v bodies x ps value)
  assignment_plain (meaning.Bound i k) ps value h = tt
  assignment_plain (meaning.Relation r) ps None h = tt
  assignment_plain (meaning.Relation r) ps (Some e) h =
      formula_free laws text v bodies right (with_parameters text [] ps (argument_sorts v (meaning.Relation r))) e h
  assignment_plain (meaning.Function f) ps None h = tt
  assignment_plain (meaning.Function f) ps (Some e) h =
      term_free laws text v bodies right (with_parameters text [] ps (argument_sorts v (meaning.Function f))) true e h
  assignment_plain (meaning.Derived d) ps value h = tt
  assignment_plain meaning.Unknown ps value h = tt

  mutual
    command_plain : (c : syntax.CommandTree) → quantifiers_of c ≡ [] → EachPrimitive HasPlainSides (command_of text v bodies c)
    command_plain (Skip at) h = tt
    command_plain (Abort at) h = tt
    command_plain (Assume at e) h = formula_plain laws text v bodies right [] e h
    command_plain (Assert at e) h = ((formula_plain laws text v bodies right [] e h, (tt, tt)), (tt, tt))
    command_plain (If at e a b) h =
        let ab = nil_right (quantifiers_in false e) (quantifiers_of_block a ++ quantifiers_of_block b) h in
        let p = formula_plain laws text v bodies right [] e (nil_left (quantifiers_in false e) _ h) in (
          (p, block_plain a (nil_left (quantifiers_of_block a) _ ab)),
          ((p, block_plain b (nil_right (quantifiers_of_block a) _ ab)), tt),
        )
    command_plain (Choose at bs) h = branches_plain bs h
    command_plain (Insert at name args) h =
        insertion_plain (symbol_of v (bytes_of text name)) (terms_of text v bodies [] args) (terms_free laws text v bodies right [] true args h)
    command_plain (Remove at name args) h =
        removal_plain (symbol_of v (bytes_of text name)) (terms_of text v bodies [] args) (terms_free laws text v bodies right [] true args h)
    command_plain (Put at name args e) h =
        placement_plain (symbol_of v (bytes_of text name)) (terms_of text v bodies [] args) (term_of text v bodies [] e)
        (terms_free laws text v bodies right [] true args (nil_left (quantifiers_in_each true args) _ h))
        (term_free laws text v bodies right [] true e (nil_right (quantifiers_in_each true args) _ h))
    command_plain (Assign name ps value) h = assignment_plain (symbol_of v (bytes_of text name)) ps value h

    pub block_plain : (b : Block) → quantifiers_of_block b ≡ [] → EachPrimitiveOf HasPlainSides (commands_of text v bodies b)
    block_plain no_command h = tt
    block_plain (and_command c cs) h =
        (command_plain c (nil_left (quantifiers_of c) _ h), block_plain cs (nil_right (quantifiers_of c) _ h))

    branches_plain : (bs : Blocks) → quantifiers_of_blocks bs ≡ []
        → EachPrimitiveOf HasPlainSides (branches_of text v bodies bs)
    branches_plain no_block h = tt
    branches_plain (and_block b bs) h = (
      block_plain b (nil_left (quantifiers_of_block b) _ h),
      branches_plain bs
          (nil_right (quantifiers_of_block b) _ h),
    )

  abbrev SentencePlain : Condition → Type 0
  SentencePlain c = HasPlainTerms c.sentence

  mutual
    conditions_plain : (c : syntax.CommandTree) → quantifiers_of c ≡ []
        → AllByRecursion SentencePlain (conditions_of text v bodies c)
    conditions_plain (Skip at) h = tt
    conditions_plain (Abort at) h = tt
    conditions_plain (Assume at e) h = (formula_plain laws text v bodies right [] e h, tt)
    conditions_plain (Assert at e) h = (formula_plain laws text v bodies right [] e h, tt)
    conditions_plain (If at e a b) h =
        let ab = nil_right (quantifiers_in false e) (quantifiers_of_block a ++ quantifiers_of_block b) h in (
          formula_plain laws text v bodies right [] e (nil_left (quantifiers_in false e) _ h),
          all_append SentencePlain (conditions_of_block text v bodies a) (conditions_of_block text v bodies b)
              (block_conditions_plain a (nil_left (quantifiers_of_block a) _ ab))
              (block_conditions_plain b (nil_right (quantifiers_of_block a) _ ab)),
        )
    conditions_plain (Choose at bs) h = blocks_conditions_plain bs h
    conditions_plain (Insert at name args) h = tt
    conditions_plain (Remove at name args) h = tt
    conditions_plain (Put at name args e) h = tt
    conditions_plain (Assign name ps value) h = tt

    pub block_conditions_plain : (b : Block) → quantifiers_of_block b ≡ []
        → AllByRecursion SentencePlain (conditions_of_block text v bodies b)
    block_conditions_plain no_command h = tt
    block_conditions_plain (and_command c cs) h =
        all_append SentencePlain (conditions_of text v bodies c) (conditions_of_block text v bodies cs)
        (conditions_plain c (nil_left (quantifiers_of c) _ h))
        (block_conditions_plain cs (nil_right (quantifiers_of c) _ h))

    blocks_conditions_plain : (bs : Blocks) → quantifiers_of_blocks bs ≡ []
        → AllByRecursion SentencePlain (conditions_of_blocks text v bodies bs)
    blocks_conditions_plain no_block h = tt
    blocks_conditions_plain (and_block b bs) h =
        all_append SentencePlain (conditions_of_block text v bodies b) (conditions_of_blocks text v bodies bs)
        (block_conditions_plain b (nil_left (quantifiers_of_block b) _ h))
        (blocks_conditions_plain bs (nil_right (quantifiers_of_block b) _ h))

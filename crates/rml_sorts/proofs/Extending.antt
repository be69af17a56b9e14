-- What fits some symbols fits more of them.
use Rattle.std.proofs.Common.{◌≡◌, ◌<◌, ◌≤◌, ℕ, List, [], ◌∷◌, ◌++◌, length, reverse, length-append, refl, sym, subst, ◌∙◌}
use Rattle.std.proofs.Common.{arith}
use Rattle.std.proofs.lemmas.List.{get_or_append_left, append-nil}
use Rattle.fol_sig.specs.Symbols.{Symbols}
use Rattle.fol_formula.specs.Syntax.{FormTree, FormTrees, TermTree, TermTrees, top, bottom, rel, equal, negation}
use Rattle.fol_formula.specs.Syntax.{conjunction, disjunction, implication, equivalence, for_all, for_some, no_forms}
use Rattle.fol_formula.specs.Syntax.{form_then, bound, app, ite, no_terms, term_then}
use Rattle.fol_formula.specs.Fits.{FitsForm, FitsForms, FitsTerm, FitsTerms}
use Rattle.rml_command.specs.Trees.{PrimitiveTree, assume, set_rel, set_fun, havoc, havoc_rel, abort, CommandTree}
use Rattle.rml_command.specs.Trees.{CommandTrees}
use Rattle.rml_command.specs.Trees.{prim, seq, choose, no_commands, command_then, EachPrimitive, EachPrimitiveOf}
use Rattle.rml_command.specs.Models.{FitsPrimitive, FitsCommand}

-- the symbols are among the others
pub record Extends (old new : Symbols) : Type 0 where
  pub sorts : old.sorts ≤ new.sorts
  pub relations : old.relations ≤ new.relations
  pub functions : old.functions ≤ new.functions
  pub sorts_of : (r : ℕ) → r < old.relations → new.sorts_of r ≡ old.sorts_of r
  pub from_of : (f : ℕ) → f < old.functions → new.from_of f ≡ old.from_of f
  pub into_of : (f : ℕ) → f < old.functions → new.into_of f ≡ old.into_of f

pub same_symbols : (sig : Symbols) → Extends sig sig
same_symbols sig = record {
  sorts = omega arith;
  relations = omega arith;
  functions = omega arith;
  sorts_of = λ r h. refl;
  from_of = λ f h. refl;
  into_of = λ f h. refl;
}

pub further : (a b c : Symbols) → Extends a b → Extends b c → Extends a c
further a b c x y = record {
  sorts = omega (arith, x.sorts, y.sorts);
  relations = omega (arith, x.relations, y.relations);
  functions = omega (arith, x.functions, y.functions);
  sorts_of = λ r h. y.sorts_of r (omega (arith, h, x.relations)) ∙ x.sorts_of r h;
  from_of = λ f h. y.from_of f (omega (arith, h, x.functions)) ∙ x.from_of f h;
  into_of = λ f h. y.into_of f (omega (arith, h, x.functions)) ∙ x.into_of f h;
}

module _ (old new : Symbols) (x : Extends old new) (more : List ℕ) where
  mutual
    pub form_grows : (ks : List ℕ) (p : FormTree) → FitsForm old ks p → FitsForm new (ks ++ more) p
    form_grows ks top h = tt
    form_grows ks bottom h = tt
    form_grows ks (rel r args) h =
        let e : new.sorts_of r ≡ old.sorts_of r = x.sorts_of r h.0 in (
          omega (arith, h.0, x.relations),
          subst (λ (l : List ℕ). length l ≤ 8) (sym e) h.1,
          subst
              (FitsTerms new (ks ++ more) args) (sym e) (terms_grow ks args (old.sorts_of r) h.2),
        )
    form_grows ks (equal a b) h = (h.0, term_grows ks a h.0 h.1, term_grows ks b h.0 h.2)
    form_grows ks (negation p) h = form_grows ks p h
    form_grows ks (conjunction ps) h = forms_grow ks ps h
    form_grows ks (disjunction ps) h = forms_grow ks ps h
    form_grows ks (implication p q) h = (form_grows ks p h.0, form_grows ks q h.1)
    form_grows ks (equivalence p q) h = (form_grows ks p h.0, form_grows ks q h.1)
    form_grows ks (for_all k p) h = (omega (arith, h.0, x.sorts), form_grows (k ∷ ks) p h.1)
    form_grows ks (for_some k p) h = (omega (arith, h.0, x.sorts), form_grows (k ∷ ks) p h.1)

    forms_grow : (ks : List ℕ) (ps : FormTrees) → FitsForms old ks ps → FitsForms new (ks ++ more) ps
    forms_grow ks no_forms h = tt
    forms_grow ks (form_then p ps) h = (form_grows ks p h.0, forms_grow ks ps h.1)

    pub term_grows : (ks : List ℕ) (t : TermTree) (k : ℕ) → FitsTerm old ks t k → FitsTerm new (ks ++ more) t k
    term_grows ks (bound i) k h = (omega (arith, h.0, length-append ks more), get_or_append_left ks more 0 i h.0 ∙ h.1)
    term_grows ks (app f args) k h =
        let e : new.from_of f ≡ old.from_of f = x.from_of f h.0 in (
          omega (arith, h.0, x.functions),
          x.into_of f h.0
              ∙ h.1,
          subst (λ (l : List ℕ). length l ≤ 8) (sym e) h.2,
          subst (FitsTerms new (ks ++ more) args) (sym e)
              (terms_grow ks args (old.from_of f) h.3),
        )
    term_grows ks (ite p a b) k h = (form_grows ks p h.0, term_grows ks a k h.1, term_grows ks b k h.2)

    terms_grow : (ks : List ℕ) (ts : TermTrees) (ls : List ℕ) → FitsTerms old ks ts ls
        → FitsTerms new (ks ++ more) ts ls
    terms_grow ks no_terms [] h = tt
    terms_grow ks no_terms (l ∷ ls) h = absurd h
    terms_grow ks (term_then t ts) [] h = absurd h
    terms_grow ks (term_then t ts) (l ∷ ls) h = (term_grows ks t l h.0, terms_grow ks ts ls h.1)

-- ---- every primitive of a command

mutual
  pub each_more : (P Q : PrimitiveTree → Type 0) → ((q : PrimitiveTree) → P q → Q q) → (c : CommandTree)
      → EachPrimitive P c → EachPrimitive Q c
  each_more P Q so (prim q) h = so q h
  each_more P Q so (seq cs) h = each_of_more P Q so cs h
  each_more P Q so (choose cs) h = each_of_more P Q so cs h

  pub each_of_more : (P Q : PrimitiveTree → Type 0) → ((q : PrimitiveTree) → P q → Q q) → (cs : CommandTrees)
      → EachPrimitiveOf P cs → EachPrimitiveOf Q cs
  each_of_more P Q so no_commands h = tt
  each_of_more P Q so (command_then c cs) h = (each_more P Q so c h.0, each_of_more P Q so cs h.1)

module _ (old new : Symbols) (x : Extends old new) where
  -- a sentence
  pub sentence_grows : (p : FormTree) → FitsForm old [] p → FitsForm new [] p
  sentence_grows p h = form_grows old new x [] [] p h

  primitive_grows : (q : PrimitiveTree) → FitsPrimitive old q → FitsPrimitive new q
  primitive_grows (assume p) h = sentence_grows p h
  primitive_grows (set_rel r by) h =
      let e : new.sorts_of r ≡ old.sorts_of r = x.sorts_of r h.0 in (
        omega (arith, h.0, x.relations),
        rw e
            (subst (λ (ks : List ℕ). FitsForm new ks by) (append-nil (reverse (old.sorts_of r)))
            (form_grows old new x [] (reverse (old.sorts_of r)) by h.1)),
      )
  primitive_grows (set_fun f by) h =
      let e : new.from_of f ≡ old.from_of f = x.from_of f h.0 in
      let i : new.into_of f ≡ old.into_of f = x.into_of f h.0 in (
        omega (arith, h.0, x.functions),
        rw (e, i)
            (subst (λ (ks : List ℕ). FitsTerm new ks by (old.into_of f)) (append-nil (reverse (old.from_of f)))
            (term_grows old new x [] (reverse (old.from_of f)) by (old.into_of f) h.1)),
      )
  primitive_grows (havoc v) h = (
    omega (arith, h.0, x.functions),
    x.from_of v h.0
        ∙ h.1,
    subst (λ (k : ℕ). k < new.sorts) (sym (x.into_of v h.0)) (omega (arith, h.2, x.sorts)),
  )
  primitive_grows (havoc_rel r) h = omega (arith, h, x.relations)
  primitive_grows abort h = tt

  pub command_grows : (c : CommandTree) → FitsCommand old c → FitsCommand new c
  command_grows c h = each_more (FitsPrimitive old) (FitsPrimitive new) primitive_grows c h

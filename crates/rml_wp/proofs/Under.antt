-- A structure over the answered signature and the same without its fresh relations: paths end alike, and fail alike.
use Rattle.std.proofs.Common.{◌≡◌, ℕ, zero, suc, Bool, true, false, cond, Option, Some, None, List, [], ◌∷◌, length}
use Rattle.std.proofs.Common.{map}
use Rattle.std.proofs.Common.{refl, sym, ap, ◌∙◌, subst, arith}
use Rattle.std.specs.Prelude.{reverse, nat_lt, slice_get}
use Rattle.std.specs.List.{AllByRecursion}
use Rattle.std.proofs.lemmas.Bool.{ltb-true}
use Rattle.fol_sig.specs.Tables.{Tables, reading}
use Rattle.fol_sig.specs.Symbols.{Symbols, FitsStructure}
use Rattle.fol_sig.specs.Constants.{reduct}
use Rattle.fol_sig.specs.Growing.{Grows, StructuresReduce}
use Rattle.fol_formula.specs.Syntax.{FormTree, top, bottom, rel, equal, negation, conjunction, disjunction, implication}
use Rattle.fol_formula.specs.Syntax.{equivalence, for_all, for_some}
use Rattle.fol_formula.specs.Fits.{FitsForm}
use Rattle.fol_formula.specs.Growing.{ReadsItsOwn, TruthReadsItsOwn}
use Rattle.rml_command.specs.Trees.{PrimitiveTree, assume, set_rel, set_fun, havoc, havoc_rel, abort}
use Rattle.fol_formula.specs.Sentences.{is_true, satisfies}
use Rattle.rml_command.specs.Outcomes.{Outcome, ended, aborted, follow_path, set_relation}
use Rattle.rml_command.specs.Outcomes.{set_function, set_variable, range_of}
use Rattle.rml_command.specs.Paths.{EndsAtAbort, havoc_count}
use Rattle.rml_command.specs.Models.{ModelTree, FitsPath}
use Rattle.rml_command.specs.Goals.{body_of, FalseUnder, FailsGoal}
use Rattle.rml_command.specs.Laws.{UpdatesKeepSymbols}
use Rattle.rml_command.specs.Fresh.{written, havocs_under, cut_outcome}
use Rattle.rml_command.specs.declared.havoc.Havoc.{Havoc}
use Rattle.rml_command.specs.declared.havoc.Havoc.TheVariants.{Element}
use Rattle.rml_command.specs.declared.goal.About.{About}
use Rattle.rml_command.specs.declared.goal.About.TheVariants as about
use Rattle.rml_command.specs.Models.{FitsSteps}
use Rattle.rml_command.specs.Elements.{TracesAreElements, elements_of, havocs_of}

pub passes : (b : Bool) (x : Option Outcome) (o : Outcome) → cond b x None ≡ Some o → (b ≡ true) × (x ≡ Some o)
passes true x o e = (refl, e)
passes false x o e = absurd (cc e)

-- what is written out has no relation havoc
pub steps-of : (sig more : Symbols) (n : ℕ) (p : List PrimitiveTree) → FitsPath more (written sig n p)
    → FitsSteps more (written sig n p)
steps-of sig more n [] f = tt
steps-of sig more n (assume p ∷ qs) f = (f.0, steps-of sig more n qs f.1)
steps-of sig more n (set_rel r by ∷ qs) f = (f.0, steps-of sig more n qs f.1)
steps-of sig more n (set_fun k by ∷ qs) f = (f.0, steps-of sig more n qs f.1)
steps-of sig more n (havoc v ∷ qs) f = (f.0, steps-of sig more n qs f.1)
steps-of sig more n (havoc_rel r ∷ qs) f = (f.0, steps-of sig more (suc n) qs f.1)
steps-of sig more n (abort ∷ qs) f = (f.0, steps-of sig more n qs f.1)

written-nil : (sig : Symbols) (n : ℕ) (p : List PrimitiveTree) → p ≡ [] → written sig n p ≡ []
written-nil sig n p e = ap (written sig n) e

-- and stops where the path does
pub stops-of : (sig : Symbols) (n : ℕ) (p : List PrimitiveTree) → EndsAtAbort p → EndsAtAbort (written sig n p)
stops-of sig n [] h = tt
stops-of sig n (assume p ∷ qs) h = (λ e. absurd (cc e), stops-of sig n qs h.1)
stops-of sig n (set_rel r by ∷ qs) h = (λ e. absurd (cc e), stops-of sig n qs h.1)
stops-of sig n (set_fun k by ∷ qs) h = (λ e. absurd (cc e), stops-of sig n qs h.1)
stops-of sig n (havoc v ∷ qs) h = (λ e. absurd (cc e), stops-of sig n qs h.1)
stops-of sig n (havoc_rel r ∷ qs) h = (λ e. absurd (cc e), stops-of sig (suc n) qs h.1)
stops-of sig n (abort ∷ qs) h = (λ e. written-nil sig n qs (h.0 e), stops-of sig n qs h.1)

-- one entry for each havoc
pub under-count : (sig : Symbols) (t : Tables) (n : ℕ) (p : List PrimitiveTree) (xs : List ℕ)
    → length xs ≡ havoc_count (written sig n p) → length (havocs_under t n p xs) ≡ havoc_count p
under-count sig t n [] xs e = refl
under-count sig t n (assume p ∷ qs) xs e = under-count sig t n qs xs e
under-count sig t n (set_rel r by ∷ qs) xs e = under-count sig t n qs xs e
under-count sig t n (set_fun k by ∷ qs) xs e = under-count sig t n qs xs e
under-count sig t n (havoc v ∷ qs) [] e = absurd (cc e)
under-count sig t n (havoc v ∷ qs) (x ∷ xs) e = ap suc (under-count sig t n qs xs (omega (arith, e)))
under-count sig t n (havoc_rel r ∷ qs) xs e = ap suc (under-count sig t (suc n) qs xs e)
under-count sig t n (abort ∷ qs) xs e = under-count sig t n qs xs e

-- the entries of a path that is written out are elements
pub elements-taken : TracesAreElements → (axioms : List FormTree) (sig : Symbols) (p : List PrimitiveTree)
    (hs : List Havoc) (s : Tables) (o : Outcome) → FitsSteps sig p → EndsAtAbort p → length hs ≡ havoc_count p
    → follow_path axioms p hs s ≡ Some o → (xs : List ℕ) × (hs ≡ havocs_of xs)
elements-taken law axioms sig p hs s o fits stops long is =
    (elements_of hs, sym (law.taken sig axioms p hs s o fits stops long is))

-- an end of the path is a structure of the same symbols
pub end-fits : (keep : UpdatesKeepSymbols) (axioms : List FormTree) (sig : Symbols) (p : List PrimitiveTree)
    (xs : List ℕ) (s new : Tables) → FitsSteps sig p → FitsStructure sig s
    → follow_path axioms p (map Element xs) s ≡ Some (ended new) → FitsStructure sig new
end-fits keep axioms sig [] xs s new f fits e = let same : s ≡ new = cc e in subst (FitsStructure sig) same fits
end-fits keep axioms sig (assume p ∷ qs) xs s new f fits e =
    end-fits keep axioms sig qs xs s new f.1 fits
    (passes (is_true s p) (follow_path axioms qs (map Element xs) s) (ended new) e).1
end-fits keep axioms sig (set_rel r by ∷ qs) xs s new f fits e =
    let mid = set_relation s r by in
    end-fits keep axioms sig qs xs mid new f.1 (keep.relation sig s r by f.0 fits)
    (passes (satisfies mid axioms) (follow_path axioms qs (map Element xs) mid) (ended new) e).1
end-fits keep axioms sig (set_fun k by ∷ qs) xs s new f fits e =
    let mid = set_function s k by in
    end-fits keep axioms sig qs xs mid new f.1 (keep.function sig s k by f.0 fits)
    (passes (satisfies mid axioms) (follow_path axioms qs (map Element xs) mid) (ended new) e).1
end-fits keep axioms sig (havoc v ∷ qs) [] s new f fits e = absurd (cc e)
end-fits keep axioms sig (havoc v ∷ qs) (x ∷ xs) s new f fits e =
    let mid = set_variable s v x in
    let g = passes (nat_lt x (range_of s v)) (cond (satisfies mid axioms) (follow_path axioms qs (map Element xs) mid)
    None) (ended new) e in
    end-fits keep axioms sig qs xs mid new f.1 (keep.variable sig s v x f.0 (ltb-true x (range_of s v) g.0) fits)
    (passes (satisfies mid axioms) (follow_path axioms qs (map Element xs) mid) (ended new) g.1).1
end-fits keep axioms sig (havoc_rel r ∷ qs) xs s new f fits e = absurd f.0
end-fits keep axioms sig (abort ∷ qs) xs s new f fits e = absurd (cc e)

-- the body of a sentence fits under the sorts of its leading quantifiers
body-fits : (sig : Symbols) (c : FormTree) (sorts : List ℕ) → FitsForm sig sorts c
    → (more : List ℕ) × FitsForm sig more (body_of c)
body-fits sig (for_all k p) sorts h = body-fits sig p (k ∷ sorts) h.1
body-fits sig top sorts h = (sorts, h)
body-fits sig bottom sorts h = (sorts, h)
body-fits sig (rel r args) sorts h = (sorts, h)
body-fits sig (equal a b) sorts h = (sorts, h)
body-fits sig (negation p) sorts h = (sorts, h)
body-fits sig (conjunction ps) sorts h = (sorts, h)
body-fits sig (disjunction ps) sorts h = (sorts, h)
body-fits sig (implication p q) sorts h = (sorts, h)
body-fits sig (equivalence p q) sorts h = (sorts, h)
body-fits sig (for_some k p) sorts h = (sorts, h)

conjecture-fits : (sig : Symbols) (cs : List FormTree) (k : ℕ) (c : FormTree) → AllByRecursion (FitsForm sig []) cs
    → slice_get cs k ≡ Some c → FitsForm sig [] c
conjecture-fits sig [] k c h e = absurd (cc e)
conjecture-fits sig (p ∷ ps) zero c h e = let same : p ≡ c = cc e in subst (FitsForm sig []) same h.0
conjecture-fits sig (p ∷ ps) (suc k) c h e = conjecture-fits sig ps k c h.1 e

module _ (reduces : StructuresReduce) (own : TruthReadsItsOwn) (sig more : Symbols) (g : Grows sig more) where
  pub reads : (t : Tables) → FitsStructure more t → ReadsItsOwn sig (reading t) (reading (reduct sig t))
  reads t f = own sig (reading t) (reading (reduct sig t)) (reduces sig more t g f).alike

  pub same-truth : (t : Tables) (p : FormTree) → FitsStructure more t → FitsForm sig [] p
      → is_true t p ≡ is_true (reduct sig t) p
  same-truth t p f h = (reads t f).formulas p [] [] h

  false-there : (t : Tables) (c : FormTree) (values : List ℕ) → FitsStructure more t → FitsForm sig [] c
      → FalseUnder t c values → FalseUnder (reduct sig t) c values
  false-there t c values f h w = let b = body-fits sig c [] h in
      record { in_range = w.in_range; body = sym ((reads t f).formulas (body_of c) b.0 (reverse values) b.1) ∙ w.body }

  false-here : (t : Tables) (c : FormTree) (values : List ℕ) → FitsStructure more t → FitsForm sig [] c
      → FalseUnder (reduct sig t) c values → FalseUnder t c values
  false-here t c values f h w = let b = body-fits sig c [] h in
      record { in_range = w.in_range; body = (reads t f).formulas (body_of c) b.0 (reverse values) b.1 ∙ w.body }

  -- the goal fails under an outcome exactly where it fails under the one without the fresh relations
  module _ (m : ModelTree) (fit : AllByRecursion (FitsForm sig []) m.conjectures) (values : List ℕ)
      (outcome : Option Outcome) (ends : (t : Tables) → outcome ≡ Some (ended t) → FitsStructure more t) where
    pub fails-there : (a : About) → FailsGoal m a values outcome → FailsGoal m a values (cut_outcome sig outcome)
    fails-there about.Abort h = (ap (cut_outcome sig) h.0, h.1)
    fails-there (about.Conjecture k) h = (
      h.0,
      reduct sig h.1,
      h.2,
      ap (cut_outcome sig) h.3,
      false-there h.1 h.0 values (ends h.1 h.3) (conjecture-fits sig m.conjectures k h.0 fit h.2) h.4,
    )

    cut-aborted : (x : Option Outcome) → cut_outcome sig x ≡ Some aborted → x ≡ Some aborted
    cut-aborted None e = absurd (cc e)
    cut-aborted (Some (ended t)) e = absurd (cc e)
    cut-aborted (Some aborted) e = refl

    cut-ended : (x : Option Outcome) (s : Tables) → cut_outcome sig x ≡ Some (ended s)
        → (t : Tables) × (x ≡ Some (ended t)) × (reduct sig t ≡ s)
    cut-ended None s e = absurd (cc e)
    cut-ended (Some (ended t)) s e = (t, refl, cc e)
    cut-ended (Some aborted) s e = absurd (cc e)

    pub fails-here : (a : About) → FailsGoal m a values (cut_outcome sig outcome) → FailsGoal m a values outcome
    fails-here about.Abort h = (cut-aborted outcome h.0, h.1)
    fails-here (about.Conjecture k) h =
        let t = cut-ended outcome h.1 h.3 in (
          h.0,
          t.0,
          h.2,
          t.1,
          false-here t.0 h.0 values (ends t.0 t.1) (conjecture-fits sig m.conjectures k h.0 fit h.2)
              (subst (λ (s : Tables). FalseUnder s h.0 values) (sym t.2) h.4),
        )

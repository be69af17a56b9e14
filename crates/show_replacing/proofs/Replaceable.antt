-- What the calls replace fits.
use Rattle.std.proofs.Common.{◌≡◌, ℕ, ◌==◌, cond, List, [], ◌∷◌, refl, subst, sym, arith}
use Rattle.fol_sig.specs.Symbols.{Symbols}
use Rattle.fol_formula.specs.Syntax.{FormTree, TermTree, equal, bound}
use Rattle.fol_formula.specs.Fits.{FitsForm}
use Rattle.fol_subst.specs.Replace.{change_rel, change_fun, change_const}
use Rattle.fol_subst.specs.Shift.{shift_form}
use Rattle.fol_formula.specs.Indices.{IndicesFit}
use Rattle.fol_subst.specs.Outcome.{CanReplace}
use Rattle.show_replacing.specs.Samples.{grown, shadowed, image, image_twice, fixed_point}

-- one sort, a relation, a variable and a function
abbrev pub sample : Symbols
sample = record {
  sorts = 1;
  relations = 1;
  functions = 2;
  sorts_of = λ r. 0 ∷ [];
  from_of = λ f. cond (f == 0) [] (0 ∷ []);
  into_of = λ f. 0;
}

grown-fits : (sorts : List ℕ) → FitsForm sample (0 ∷ sorts) grown
grown-fits sorts = (
  (omega arith, omega arith, ((omega arith, refl), tt)),
  ((0, (omega arith, refl), (omega arith, refl, omega arith, tt)), tt),
)

pub relation : (p q : FormTree) → p ≡ grown → q ≡ grown → CanReplace p (change_rel 0 q)
relation p q e f =
    subst (λ z. CanReplace z (change_rel 0 q)) (sym e)
    (subst (λ z. CanReplace grown (change_rel 0 z)) (sym f)
    (record {
      sig = sample;
      sorts = 0 ∷ [];
      within_fits = grown-fits [];
      change_fits = (omega arith, grown-fits []);
      indices = λ small. (((omega arith, tt), ((omega arith, tt), tt)), ((omega arith, tt), tt));
    }))

pub variable : (p : FormTree) → p ≡ shadowed → CanReplace p (change_const 0 0)
variable p e =
    subst (λ z. CanReplace z (change_const 0 0)) (sym e)
    (record {
      sig = sample;
      sorts = 0 ∷ [];
      within_fits = (omega arith, (omega arith, grown-fits (0 ∷ 0 ∷ [])));
      change_fits = (omega arith, refl, omega arith, refl);
      indices = λ small. ((omega arith, tt), ((omega arith, omega arith), tt));
    })

pub function : (p : FormTree) (u : TermTree) → p ≡ fixed_point → u ≡ image_twice → CanReplace p (change_fun 1 u)
function p u e f =
    subst (λ z. CanReplace z (change_fun 1 u)) (sym e)
    (subst (λ z. CanReplace (equal image (bound 0)) (change_fun 1 z)) (sym f)
    (record {
      sig = sample;
      sorts = 0 ∷ [];
      within_fits = (0, (omega arith, refl, omega arith, ((omega arith, refl), tt)), (omega arith, refl));
      change_fits = (
        omega arith,
        (omega arith, refl, omega arith, ((omega arith, refl, omega arith, ((omega arith, refl), tt)), tt)),
      );
      indices = λ small. (((omega arith, tt), tt), omega arith);
    }))

pub raised : (p : FormTree) → p ≡ grown → IndicesFit (shift_form 0 2 p)
raised p e = subst (λ z. IndicesFit (shift_form 0 2 z)) (sym e) ((omega arith, tt), ((omega arith, tt), tt))

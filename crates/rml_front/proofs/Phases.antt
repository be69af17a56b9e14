-- What each phase promises, said of the text.
use Rattle.std.specs.Result.{IsErrAnd}
use Rattle.std.proofs.Common.{◌≡◌, ℕ, inl, inr, List, length, None, Result, Ok, Err, sym, subst, ◌∙◌}
use Rattle.std.specs.Prelude.{IfOk, OnOk, IfErr}
use Rattle.base.specs.declared.refused.Refused.{Refused}
use Rattle.base.specs.declared.refused.Refused.TheVariants.{For, NoMemory}
use Rattle.base.specs.Because.{Because}
use Rattle.rml_lex.specs.declared.token.Fault.{Fault}
use Rattle.rml_lex.specs.declared.token.Token.{Token}
use Rattle.rml_lex.specs.Tokens.{AreTokens, StandsBy}
use Rattle.rml_syntax.specs.Tree.{FileTree}
use Rattle.rml_syntax.specs.Within.{TreeWithin}
use Rattle.rml_syntax.specs.Faults.{IsTree}
use Rattle.rml_command.specs.Models.{ModelTree, ArePlacesWithin}
use Rattle.rml_items.specs.Items.{fault_of}
use Rattle.rml_sorts.specs.Items.{model_of, size_fault_of, IsRefusal}
use Rattle.rml_sorts.specs.Laws.{PlacesStandInText}
use Rattle.rml_fragment.specs.Laws.{FaultsStandInText}
use Rattle.rml_fragment.specs.Faults as fragment
use Rattle.rml_front.specs.Texts.{IsTreeOf, IsResolved, IsModelOf, IsFaultOf}

-- the tokens `ts`, which are those of the text, have this tree
pub tree_by : (text : List ℕ) (tokens ts : List Token) (tree : FileTree) → AreTokens text tokens → ts ≡ tokens
    → IsTree text ts tree → IsTreeOf text tree
tree_by text tokens ts tree are same is = record {
  tokens = tokens;
  are_tokens = are;
  is_tree = subst (λ (us : List Token). IsTree text us tree) same is;
}

-- a tree whose names and sorts are right, and of which nothing is too large
pub resolved_by : (text : List ℕ) (tree : FileTree) → IsTreeOf text tree → fault_of text tree ≡ None
    → size_fault_of text tree ≡ None → IsResolved text tree
resolved_by text tree read right small =
    record { judged = record { read = read; right = right }; small = small }

-- what the third phase and the fourth refuse
pub refusal_is_fault : (text : List ℕ) (tree : FileTree) (f : Fault) → IsTreeOf text tree → IsRefusal text tree f
    → IsFaultOf text f
refusal_is_fault text tree f read (inl is) = inr (inr (inl (record { tree = tree; read = read; fault = is })))
refusal_is_fault text tree f read (inr is) = inr (inr (inr (inl (record {
  tree = tree;
  judged = record { read = read; right = is.0 };
  fault = is.1;
}))))

pub resolve_fault : {X : Type 0} (text : List ℕ) (tree : FileTree) (r : Result X (Refused Fault)) (e : Refused Fault)
    → IsErrAnd r (λ x. x ≡ e) → IsTreeOf text tree → Because (IsRefusal text tree) e
    → IfErr r (Because (IsFaultOf text))
resolve_fault text tree (Ok x) e same read is = absurd same
resolve_fault text tree (Err (For g)) (For f) same read is =
    let here : g ≡ f = cc in subst (IsFaultOf text) (sym here) (refusal_is_fault text tree f read is)
resolve_fault text tree (Err (For g)) NoMemory same read is = cc
resolve_fault text tree (Err NoMemory) e same read is = tt

-- what the last phase answers
module _ (text : List ℕ) (tree : FileTree) (m : ModelTree) (is : m ≡ model_of text tree) where
  pub checked_model : IsResolved text tree → (r : Result ModelTree (Refused Fault)) → IfOk r (λ c. c ≡ m)
      → OnOk r ((f : Fault) → fragment.IsFault m f → ⊥) → IfOk r (IsModelOf text)
  checked_model resolved (Ok c) same faultless = record {
    tree = tree;
    resolved = resolved;
    model = same ∙ is;
    faultless = λ f broken. faultless f (subst (λ (n : ModelTree). fragment.IsFault n f) same broken);
  }
  checked_model resolved (Err e) same faultless = tt

  pub fragment_fault : IsResolved text tree → (r : Result ModelTree (Refused Fault))
      → IfErr r (Because (fragment.IsFault m)) → IfErr r (Because (IsFaultOf text))
  fragment_fault resolved (Ok c) broken = tt
  fragment_fault resolved (Err (For f)) broken =
      inr (inr (inr (inr (record {
        tree = tree;
        resolved = resolved;
        fault = subst (λ (n : ModelTree). fragment.IsFault n f) is broken;
      }))))
  fragment_fault resolved (Err NoMemory) broken = tt

  pub fault_place : PlacesStandInText → FaultsStandInText → TreeWithin (length text) tree
      → (r : Result ModelTree (Refused Fault)) → IfErr r (Because (fragment.IsFault m))
      → IfErr r (Because (StandsBy (length text)))
  fault_place places faults within (Ok c) broken = tt
  fault_place places faults within (Err (For f)) broken =
      let stand = places text (length text) tree within in
      faults m (length text) f (subst (λ (n : ModelTree). ArePlacesWithin (length text) n.places) (sym is) stand) broken
  fault_place places faults within (Err NoMemory) broken = tt

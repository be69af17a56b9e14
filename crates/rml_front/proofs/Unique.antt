-- A text has one answer: the phases have one each.
use Rattle.std.proofs.Common.{◌≡◌, ◌⊎◌, ℕ, inl, inr, List, Option, Some, None, refl, sym, subst, ap, ◌∙◌}
use Rattle.rml_lex.specs.declared.token.Token.{Token}
use Rattle.rml_lex.specs.declared.token.Fault.{Fault}
use Rattle.rml_lex.specs.Tokens.{AreTokens}
use Rattle.rml_lex.specs.Tokens as bytes
use Rattle.rml_syntax.specs.Tree.{FileTree}
use Rattle.rml_syntax.specs.Faults.{IsTree}
use Rattle.rml_syntax.specs.Faults as grammar
use Rattle.rml_items.specs.Items.{fault_of}
use Rattle.rml_sorts.specs.Items.{model_of, size_fault_of}
use Rattle.rml_command.specs.Models.{ModelTree}
use Rattle.rml_fragment.specs.Faults as fragment
use Rattle.rml_front.specs.Texts.{IsTreeOf, IsJudged, IsResolved, IsModelOf, IsGrammarFault, IsNameFault, IsSizeFault}
use Rattle.rml_front.specs.Texts.{IsFaultOf}
use Rattle.rml_front.specs.Laws.{AnswersAreUnique}

-- what the phases promise, each of its own
pub record Phases : Type 0 where
  pub some_tokens : (text : List ℕ) → ((a : List Token) × AreTokens text a) ⊎ ((f : Fault) × bytes.IsFault text f)
  pub one_tokens : (text : List ℕ) (a b : List Token) → AreTokens text a → AreTokens text b → a ≡ b
  pub tokens_or_fault : (text : List ℕ) (a : List Token) (f : Fault) → AreTokens text a → bytes.IsFault text f → ⊥
  pub one_byte_fault : (text : List ℕ) (f g : Fault) → bytes.IsFault text f → bytes.IsFault text g → f ≡ g
  pub some_tree : (text : List ℕ) (ts : List Token)
      → ((tree : FileTree) × IsTree text ts tree) ⊎ ((f : Fault) × grammar.IsFault text ts f)
  pub one_tree : (text : List ℕ) (ts : List Token) (a b : FileTree) → IsTree text ts a → IsTree text ts b → a ≡ b
  pub one_grammar_fault : (text : List ℕ) (ts : List Token) (f g : Fault)
      → grammar.IsFault text ts f → grammar.IsFault text ts g → f ≡ g
  pub tree_or_fault : (text : List ℕ) (ts : List Token) (tree : FileTree) (f : Fault)
      → IsTree text ts tree → grammar.IsFault text ts f → ⊥
  pub some_fragment_fault : (m : ModelTree)
      → ((f : Fault) × fragment.IsFault m f) ⊎ ((f : Fault) → fragment.IsFault m f → ⊥)
  pub one_fragment_fault : (m : ModelTree) (f g : Fault) → fragment.IsFault m f → fragment.IsFault m g → f ≡ g

module _ (p : Phases) (text : List ℕ) where
  abbrev HasAnswer : Type 0
  HasAnswer = ((m : ModelTree) × IsModelOf text m) ⊎ ((f : Fault) × IsFaultOf text f)

  of_model : (t : FileTree) → IsResolved text t
      → ((f : Fault) × fragment.IsFault (model_of text t) f) ⊎ ((f : Fault) → fragment.IsFault (model_of text t) f → ⊥)
      → HasAnswer
  of_model t resolved (inl (f, is)) =
      inr (f, inr (inr (inr (inr (record { tree = t; resolved = resolved; fault = is })))))
  of_model t resolved (inr never) =
      inl (model_of text t, record { tree = t; resolved = resolved; model = refl; faultless = never })

  of_sizes : (t : FileTree) → IsJudged text t → (o : Option Fault) → size_fault_of text t ≡ o → HasAnswer
  of_sizes t judged (Some f) is =
      inr (f, inr (inr (inr (inl (record { tree = t; judged = judged; fault = is })))))
  of_sizes t judged None is =
      of_model t (record { judged = judged; small = is }) (p.some_fragment_fault (model_of text t))

  of_names : (t : FileTree) → IsTreeOf text t → (o : Option Fault) → fault_of text t ≡ o → HasAnswer
  of_names t read (Some f) is = inr (f, inr (inr (inl (record { tree = t; read = read; fault = is }))))
  of_names t read None is = of_sizes t (record { read = read; right = is }) (size_fault_of text t) refl

  of_tree : (ts : List Token) → AreTokens text ts
      → ((t : FileTree) × IsTree text ts t) ⊎ ((f : Fault) × grammar.IsFault text ts f) → HasAnswer
  of_tree ts are (inl (t, is)) =
      of_names t (record { tokens = ts; are_tokens = are; is_tree = is }) (fault_of text t) refl
  of_tree ts are (inr (f, is)) = inr (f, inr (inl (record { tokens = ts; are_tokens = are; fault = is })))

  of_tokens : ((ts : List Token) × AreTokens text ts) ⊎ ((f : Fault) × bytes.IsFault text f) → HasAnswer
  of_tokens (inl (ts, are)) = of_tree ts are (p.some_tree text ts)
  of_tokens (inr (f, is)) = inr (f, inl is)

  some_answer : HasAnswer
  some_answer = of_tokens (p.some_tokens text)

  same_tree : (a b : FileTree) → IsTreeOf text a → IsTreeOf text b → a ≡ b
  same_tree a b x y =
      let tokens = p.one_tokens text x.tokens y.tokens x.are_tokens y.are_tokens in
      p.one_tree text y.tokens a b (subst (λ (ts : List Token). IsTree text ts a) tokens x.is_tree) y.is_tree

  same_fault : (t : FileTree) (f g : Fault) → fault_of text t ≡ Some f → fault_of text t ≡ Some g → f ≡ g
  same_fault t f g x y = cc

  same_size : (t : FileTree) (f g : Fault) → size_fault_of text t ≡ Some f → size_fault_of text t ≡ Some g → f ≡ g
  same_size t f g x y = cc

  -- what has a tree has no fault of its bytes and none of its grammar
  no_bytes : (t : FileTree) (f : Fault) → IsTreeOf text t → bytes.IsFault text f → ⊥
  no_bytes t f x y = p.tokens_or_fault text x.tokens f x.are_tokens y

  no_grammar : (t : FileTree) (f : Fault) → IsTreeOf text t → IsGrammarFault text f → ⊥
  no_grammar t f x y =
      let tokens = p.one_tokens text y.tokens x.tokens y.are_tokens x.are_tokens in
      p.tree_or_fault text x.tokens t f x.is_tree
      (subst (λ (ts : List Token). grammar.IsFault text ts f) tokens y.fault)

  -- what is judged has no fault of its names
  no_name : (t : FileTree) (f : Fault) → IsJudged text t → IsNameFault text f → ⊥
  no_name t f x y =
      let e : y.tree ≡ t = same_tree y.tree t y.read x.read in
      let g : fault_of text t ≡ Some f = subst (λ (u : FileTree). fault_of text u ≡ Some f) e y.fault in
      let h = x.right in cc

  -- what is resolved has nothing that is too large
  no_size : (t : FileTree) (f : Fault) → IsResolved text t → IsSizeFault text f → ⊥
  no_size t f x y =
      let e : y.tree ≡ t = same_tree y.tree t y.judged.read x.judged.read in
      let g : size_fault_of text t ≡ Some f = subst (λ (u : FileTree). size_fault_of text u ≡ Some f) e y.fault in
      let h = x.small in cc

  one_model : (a b : ModelTree) → IsModelOf text a → IsModelOf text b → a ≡ b
  one_model a b x y =
      x.model ∙ ap (model_of text) (same_tree x.tree y.tree x.resolved.judged.read y.resolved.judged.read) ∙ sym y.model

  not_both : (m : ModelTree) (f : Fault) → IsModelOf text m → IsFaultOf text f → ⊥
  not_both m f x (inl y) = no_bytes x.tree f x.resolved.judged.read y
  not_both m f x (inr (inl y)) = no_grammar x.tree f x.resolved.judged.read y
  not_both m f x (inr (inr (inl y))) = no_name x.tree f x.resolved.judged y
  not_both m f x (inr (inr (inr (inl y)))) = no_size x.tree f x.resolved y
  not_both m f x (inr (inr (inr (inr y)))) =
      let trees = same_tree y.tree x.tree y.resolved.judged.read x.resolved.judged.read in
      let e : model_of text y.tree ≡ m = ap (model_of text) trees ∙ sym x.model in
      x.faultless f (subst (λ (n : ModelTree). fragment.IsFault n f) e y.fault)

  one_fault : (f g : Fault) → IsFaultOf text f → IsFaultOf text g → f ≡ g
  one_fault f g (inl x) (inl y) = p.one_byte_fault text f g x y
  one_fault f g (inl x) (inr (inl y)) = absurd (p.tokens_or_fault text y.tokens f y.are_tokens x)
  one_fault f g (inl x) (inr (inr (inl y))) = absurd (no_bytes y.tree f y.read x)
  one_fault f g (inl x) (inr (inr (inr (inl y)))) = absurd (no_bytes y.tree f y.judged.read x)
  one_fault f g (inl x) (inr (inr (inr (inr y)))) = absurd (no_bytes y.tree f y.resolved.judged.read x)
  one_fault f g (inr (inl x)) (inl y) = absurd (p.tokens_or_fault text x.tokens g x.are_tokens y)
  one_fault f g (inr (inl x)) (inr (inl y)) =
      let tokens = p.one_tokens text x.tokens y.tokens x.are_tokens y.are_tokens in
      p.one_grammar_fault text y.tokens f g (subst (λ (ts : List Token). grammar.IsFault text ts f) tokens x.fault)
      y.fault
  one_fault f g (inr (inl x)) (inr (inr (inl y))) = absurd (no_grammar y.tree f y.read x)
  one_fault f g (inr (inl x)) (inr (inr (inr (inl y)))) = absurd (no_grammar y.tree f y.judged.read x)
  one_fault f g (inr (inl x)) (inr (inr (inr (inr y)))) = absurd (no_grammar y.tree f y.resolved.judged.read x)
  one_fault f g (inr (inr (inl x))) (inl y) = absurd (no_bytes x.tree g x.read y)
  one_fault f g (inr (inr (inl x))) (inr (inl y)) = absurd (no_grammar x.tree g x.read y)
  one_fault f g (inr (inr (inl x))) (inr (inr (inl y))) =
      let trees = same_tree x.tree y.tree x.read y.read in
      same_fault y.tree f g (subst (λ (u : FileTree). fault_of text u ≡ Some f) trees x.fault) y.fault
  one_fault f g (inr (inr (inl x))) (inr (inr (inr (inl y)))) = absurd (no_name y.tree f y.judged x)
  one_fault f g (inr (inr (inl x))) (inr (inr (inr (inr y)))) = absurd (no_name y.tree f y.resolved.judged x)
  one_fault f g (inr (inr (inr (inl x)))) (inl y) = absurd (no_bytes x.tree g x.judged.read y)
  one_fault f g (inr (inr (inr (inl x)))) (inr (inl y)) = absurd (no_grammar x.tree g x.judged.read y)
  one_fault f g (inr (inr (inr (inl x)))) (inr (inr (inl y))) = absurd (no_name x.tree g x.judged y)
  one_fault f g (inr (inr (inr (inl x)))) (inr (inr (inr (inl y)))) =
      let trees = same_tree x.tree y.tree x.judged.read y.judged.read in
      same_size y.tree f g (subst (λ (u : FileTree). size_fault_of text u ≡ Some f) trees x.fault) y.fault
  one_fault f g (inr (inr (inr (inl x)))) (inr (inr (inr (inr y)))) = absurd (no_size y.tree f y.resolved x)
  one_fault f g (inr (inr (inr (inr x)))) (inl y) = absurd (no_bytes x.tree g x.resolved.judged.read y)
  one_fault f g (inr (inr (inr (inr x)))) (inr (inl y)) = absurd (no_grammar x.tree g x.resolved.judged.read y)
  one_fault f g (inr (inr (inr (inr x)))) (inr (inr (inl y))) = absurd (no_name x.tree g x.resolved.judged y)
  one_fault f g (inr (inr (inr (inr x)))) (inr (inr (inr (inl y)))) = absurd (no_size x.tree g x.resolved y)
  one_fault f g (inr (inr (inr (inr x)))) (inr (inr (inr (inr y)))) =
      let trees = same_tree x.tree y.tree x.resolved.judged.read y.resolved.judged.read in
      let e : model_of text x.tree ≡ model_of text y.tree = ap (model_of text) trees in
      p.one_fragment_fault (model_of text y.tree) f g (subst (λ (n : ModelTree). fragment.IsFault n f) e x.fault)
      y.fault

pub answers_are_unique : Phases → AnswersAreUnique
answers_are_unique p = record { some = some_answer p; model = one_model p; fault = one_fault p; not_both = not_both p }

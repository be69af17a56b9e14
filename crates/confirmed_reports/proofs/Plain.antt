-- Words have no line feed.
use Rattle.std.proofs.Common.{◌≡◌, ℕ, Bool, true, false, cond, List, [], ◌∷◌, T, eqb→eq, refl, sym, subst}
use Rattle.std.specs.Prelude.{◌==◌}
use Rattle.base.proofs.Lists.{all_more}
use Rattle.rml_lex.specs.Bytes.{goes_on}
use Rattle.rml_command.specs.declared.names.Names.{Names}
use Rattle.report_read.specs.Printing.{is_plain, HasPlainNames}
use Rattle.model_names.specs.ModelNames.{IsWord, HasWords}

-- a line feed does not go on
not_here : (b : ℕ) → (b == 10) ≡ true → goes_on b ≡ true → ⊥
not_here b is on =
    let e : b ≡ 10 = eqb→eq b 10 (subst T (sym is) tt) in
    no (subst (λ (n : ℕ). goes_on n ≡ true) e on)
  where
    no : goes_on 10 ≡ true → ⊥
    no h = cc h

word_is_plain : (name : List ℕ) → IsWord name → is_plain name ≡ true
word_is_plain [] word = refl
word_is_plain (b ∷ bs) word = by (b == 10) refl (word_is_plain bs word.1)
  where
    by : (t : Bool) → (b == 10) ≡ t → is_plain bs ≡ true → cond t false (is_plain bs) ≡ true
    by true is rest = absurd (not_here b is word.0)
    by false is rest = rest

pub plain_names : (names : Names) → HasWords names → HasPlainNames names
plain_names names words = record {
  sorts = all_more IsWord (λ name. is_plain name ≡ true) word_is_plain names.sorts words.sorts;
  relations = all_more IsWord (λ name. is_plain name ≡ true) word_is_plain names.relations words.relations;
  functions = all_more IsWord (λ name. is_plain name ≡ true) word_is_plain names.functions words.functions;
  conjectures = all_more IsWord (λ name. is_plain name ≡ true) word_is_plain names.conjectures words.conjectures;
  actions = all_more IsWord (λ name. is_plain name ≡ true) word_is_plain names.actions words.actions;
}

-- The code of a model.
use Rattle.std.specs.Prelude.{◌≡◌, ℕ, ◌==◌, if◌then◌else◌, List, refl}
use Rattle.std.specs.Coded.{Coded, code_by, coded×, coded_ℕ, coded_list}
use Rattle.fol_sig.specs.Tables.{Declared}
use Rattle.fol_sig.specs.declared.Sort.{Sort}
use Rattle.fol_formula.specs.Syntax.{FormTree}
use Rattle.fol_formula.specs.Code.{form_code}
use Rattle.rml_command.specs.Trees.{CommandTree}
use Rattle.rml_command.specs.Code.{command_code}
use Rattle.rml_command.specs.Models.{ModelTree}
use Rattle.rml_command.specs.declared.names.Names.{Names}
use Rattle.rml_command.specs.declared.places.Word.{Word}
use Rattle.rml_command.specs.declared.places.Word.TheVariants as word
use Rattle.rml_command.specs.declared.places.Condition.{Condition}
use Rattle.rml_command.specs.declared.places.Places.{Places}

abbrev pub sort_code : Coded Sort
sort_code = code_by ℕ coded_ℕ (λ k. k.0) (λ n. record { 0 = n }) (λ k. refl)

abbrev pub declared_code : Coded Declared
declared_code =
    code_by (ℕ × (List (List ℕ) × (List (List ℕ × Sort) × List ℕ)))
    (coded× coded_ℕ (coded× (coded_list (coded_list coded_ℕ))
    (coded× (coded_list (coded× (coded_list coded_ℕ) sort_code)) (coded_list coded_ℕ))))
    (λ d. (d.sorts, (d.relations, (d.functions, d.listed))))
    (λ t. record { sorts = t.0; relations = t.1.0; functions = t.1.1.0; listed = t.1.1.1 }) (λ d. refl)

abbrev pub names_code : Coded Names
names_code =
    let texts = coded_list (coded_list coded_ℕ) in
    code_by (List (List ℕ) × (List (List ℕ) × (List (List ℕ) × (List (List ℕ) × (List (List ℕ) × List (List ℕ))))))
    (coded× texts (coded× texts (coded× texts (coded× texts (coded× texts texts)))))
    (λ n. (n.sorts, (n.relations, (n.functions, (n.axioms, (n.conjectures, n.actions))))))
    (λ t. record {
      sorts = t.0;
      relations = t.1.0;
      functions = t.1.1.0;
      axioms = t.1.1.1.0;
      conjectures = t.1.1.1.1.0;
      actions = t.1.1.1.1.1;
    })
    (λ n. refl)

-- the word of a condition as a number
abbrev pub word_number : Word → ℕ
word_number word.Assume = 0
word_number word.Assert = 1
word_number word.If = 2

-- the word with this number; from 2 on it is `if`
abbrev pub word_back : ℕ → Word
word_back n = if n == 0 then word.Assume else if n == 1 then word.Assert else word.If

pub word-back : (w : Word) → word_back (word_number w) ≡ w
word-back word.Assume = refl
word-back word.Assert = refl
word-back word.If = refl

abbrev pub word_code : Coded Word
word_code = code_by ℕ coded_ℕ word_number word_back word-back

abbrev pub condition_code : Coded Condition
condition_code =
    code_by (Word × (ℕ × FormTree)) (coded× word_code (coded× coded_ℕ form_code))
    (λ c. (c.word, (c.at, c.sentence))) (λ t. record { word = t.0; at = t.1.0; sentence = t.1.1 }) (λ c. refl)

abbrev pub places_code : Coded Places
places_code =
    let numbers = coded_list coded_ℕ in
    code_by (List ℕ × (List ℕ × (List ℕ × (ℕ × (List ℕ × (ℕ × (List Condition × List ℕ)))))))
    (coded× numbers (coded× numbers (coded× numbers (coded× coded_ℕ
    (coded× numbers (coded× coded_ℕ (coded× (coded_list condition_code) numbers)))))))
    (λ p. (p.functions, (p.axioms, (p.conjectures, (p.init, (p.actions, (p.last, (p.conditions, p.quantifiers))))))))
    (λ t. record {
      functions = t.0;
      axioms = t.1.0;
      conjectures = t.1.1.0;
      init = t.1.1.1.0;
      actions = t.1.1.1.1.0;
      last = t.1.1.1.1.1.0;
      conditions = t.1.1.1.1.1.1.0;
      quantifiers = t.1.1.1.1.1.1.1;
    })
    (λ p. refl)

abbrev pub model_code : Coded ModelTree
model_code =
    code_by
    (Declared × (Names × (List FormTree × (List FormTree
    × (CommandTree × (List CommandTree × (CommandTree × Places)))))))
    (coded× declared_code (coded× names_code (coded× (coded_list form_code) (coded× (coded_list form_code)
    (coded× command_code (coded× (coded_list command_code) (coded× command_code places_code)))))))
    (λ m. (m.signature, (m.names, (m.axioms, (m.conjectures, (m.init, (m.actions, (m.last, m.places))))))))
    (λ t. record {
      signature = t.0;
      names = t.1.0;
      axioms = t.1.1.0;
      conjectures = t.1.1.1.0;
      init = t.1.1.1.1.0;
      actions = t.1.1.1.1.1.0;
      last = t.1.1.1.1.1.1.0;
      places = t.1.1.1.1.1.1.1;
    })
    (λ m. refl)

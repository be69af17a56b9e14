-- A model has at most one fault, and none exactly where it can be checked.
use Rattle.std.proofs.Common.{
  ◌≡◌,
  ℕ,
  zero,
  suc,
  ◌+◌,
  ◌<◌,
  ◌≤◌,
  true,
  false,
  List,
  [],
  ◌∷◌,
  length,
  get_or,
  refl,
  sym,
  ◌∙◌,
  ap,
  subst,
  inl,
  inr,
  arith,
}
use Rattle.std.specs.List.{AllByRecursion}
use Rattle.std.proofs.lemmas.Bool.{cases_lt}
use Rattle.std.proofs.lemmas.Option.{slice_get-get_or}
use Rattle.base.proofs.Lists.{all_more, all_both}
use Rattle.fol_sig.specs.Symbols.{Symbols, symbols}
use Rattle.fol_sig.specs.Strata.{IsWalk, IsOnCycle, with_functions}
use Rattle.fol_sig.specs.Cycles.{CycleHasFirst}
use Rattle.fol_formula.specs.Syntax.{FormTree}
use Rattle.fol_formula.specs.Fragments.{IsExistsForall, HasPlainTerms, IsEa, IsPlainUniversal}
use Rattle.fol_formula.specs.Decisions.{FragmentsAreDecided}
use Rattle.rml_lex.specs.declared.token.Fault.{Fault}
use Rattle.rml_lex.specs.declared.fault_code.FaultCode.{FaultCode}
use Rattle.rml_lex.specs.declared.fault_code.FaultCode.TheVariants as fault_code
use Rattle.rml_lex.specs.FaultCodes.{number_of}
use Rattle.rml_command.specs.Trees.{
  PrimitiveTree,
  assume,
  set_rel,
  set_fun,
  havoc,
  havoc_rel,
  abort,
  CommandTree,
  CommandTrees,
  prim,
  seq,
  choose,
  no_commands,
  command_then,
  EachPrimitive,
  EachPrimitiveOf,
}
use Rattle.rml_command.specs.Paths.{paths_of}
use Rattle.base.specs.Lists.{SomeOf}
use Rattle.rml_command.specs.Models.{ModelTree, EachBlock, Assumes, IsWritten, HasPlainSides, IsModel}
use Rattle.rml_command.specs.Fragment.{IsDecidable, IsInFragment, IsInModelFragment, HasFewPaths, IsChecked}
use Rattle.rml_command.specs.declared.places.Word.{Word}
use Rattle.rml_command.specs.declared.places.Word.TheVariants as word
use Rattle.rml_command.specs.declared.places.Condition.{Condition}
use Rattle.rml_fragment.specs.Demands.{Meets, demand_of}
use Rattle.rml_fragment.specs.First.{IsFirst, SomePlaced}
use Rattle.rml_fragment.specs.Faults.{ClosesCycle, Misses, Breaks, HasManyPaths, HasLongBlock, IsFault}
use Rattle.rml_fragment.specs.declared.demand.Demand.{Demand}
use Rattle.rml_fragment.specs.declared.demand.Demand.TheVariants as demand

-- At most one fault.

same : (f g : Fault) → f.at ≡ g.at → f.code ≡ g.code → f ≡ g
same f g a c =
    let with_code : FaultCode → Fault = λ n. record { code = n; at = f.at } in
    let with_at : ℕ → Fault = λ n. record { code = g.code; at = n } in
    ap with_code c ∙ ap with_at a

-- codes of the same number are the same
abbrev CodesAreOne : Type 0
CodesAreOne = (a b : FaultCode) → number_of a ≡ number_of b → a ≡ b

first_is_one : CodesAreOne → (P : Fault → Type 0) (f g : Fault) → IsFirst P f → IsFirst P g → f ≡ g
first_is_one codes P f g p q = elim (p.least g q.is_one) [
  | inl lt ↦ elim (q.least f p.is_one) [
    | inl more ↦ absurd (omega (arith, lt, more))
    | inr s ↦
        absurd (omega (arith, lt, s.0))
  ]
  | inr s ↦ elim (q.least f p.is_one) [
    | inl more ↦ absurd (omega (arith, s.0, more))
    | inr t ↦
        same f g s.0 (codes f.code g.code (omega (arith, s.1, t.1)))
  ]
]

pub one : CodesAreOne → (m : ModelTree) (f g : Fault) → IsFault m f → IsFault m g → f ≡ g
one codes m f g (inl a) (inl b) = first_is_one codes (Breaks m) f g a b
one codes m f g (inl a) (inr b) = absurd (b.0 f a.is_one)
one codes m f g (inr a) (inl b) = absurd (a.0 g b.is_one)
one codes m f g (inr a) (inr b) = first_is_one codes (HasLongBlock m) f g a.1 b.1

-- Lists.

none_placed : {A : Type 0} (B : A → FaultCode → Type 0) (xs : List A) (places : List ℕ) (f : Fault)
    → AllByRecursion (λ x. (code : FaultCode) → B x code → ⊥) xs → SomePlaced B xs places f → ⊥
none_placed B [] places f all h = h
none_placed B (x ∷ xs) [] f all h = h
none_placed B (x ∷ xs) (a ∷ places) f all (inl h) = all.0 f.code h.1
none_placed B (x ∷ xs) (a ∷ places) f all (inr h) = none_placed B xs places f all.1 h

none_some : {A : Type 0} (P : A → Type 0) (xs : List A) → AllByRecursion (λ x. P x → ⊥) xs → SomeOf P xs → ⊥
none_some P [] all h = h
none_some P (x ∷ xs) all (inl h) = all.0 h
none_some P (x ∷ xs) all (inr h) = none_some P xs all.1 h

all_placed : {A : Type 0} (B : A → FaultCode → Type 0) (xs : List A) (places : List ℕ) → length places ≡ length xs
    → ((f : Fault) → SomePlaced B xs places f → ⊥) → AllByRecursion (λ x. (code : FaultCode) → B x code → ⊥) xs
all_placed B [] places len never = tt
all_placed B (x ∷ xs) [] len never = absurd (omega (arith, len))
all_placed B (x ∷ xs) (a ∷ places) len never = (
  λ code b. never (record { code = code; at = a }) (inl (refl, b)),
  all_placed B xs places (omega (arith, len))
      (λ f h. never f (inr h)),
)

-- A checked model has none.

walk_more : (sig : Symbols) (n k : ℕ) (fs : List ℕ) (q : ℕ) → n ≤ sig.functions → IsWalk (with_functions sig n) k fs q
    → IsWalk sig k fs q
walk_more sig n k [] q le w = w
walk_more sig n k (f ∷ fs) q le w = (omega (arith, w.0), w.1, walk_more sig n (sig.into_of f) fs q le w.2)

pub no_cycle : (m : ModelTree) (f : Fault) → ((g : ℕ) → IsOnCycle (symbols m.signature) g → ⊥) → ClosesCycle m f → ⊥
no_cycle m f acyclic h =
    let c = h.first.closes in
    acyclic h.function (record {
      sort = c.sort;
      rest = c.rest;
      closed = walk_more (symbols m.signature) (h.function + 1) c.sort (h.function ∷ c.rest) c.sort
          (omega (arith, h.first.known)) c.closed;
    })

decidable_meets : (w : Word) (p : FormTree) → IsDecidable w p → Meets (demand_of w) p
decidable_meets word.Assume p h = h.0
decidable_meets word.Assert p h = h.0
decidable_meets word.If p h = (h.0.0, h.1.0)

stays : (m : ModelTree) (f : Fault) → IsInModelFragment m → m.places.quantifiers ≡ [] → Breaks m f → ⊥
stays m f h none = elim [
  | inl cycle ↦ no_cycle m f h.functions cycle
  | inr (inl ax) ↦ none_placed (Misses demand.ExistsForall) m.axioms m.places.axioms f
      (all_more IsEa _ (λ p ea code miss. miss.1 ea.0) m.axioms h.axioms) ax
  | inr (inr (inl cj)) ↦
      none_placed (Misses demand.Universal) m.conjectures m.places.conjectures f
      (all_more IsPlainUniversal _ (λ p u code miss. miss.1 u.0) m.conjectures h.conjectures) cj
  | inr (inr (inr (inl condition))) ↦
      none_some _ m.places.conditions (all_more (λ c. IsDecidable c.word c.sentence) _
      (λ c d miss. miss.1.1 (decidable_meets c.word c.sentence d)) m.places.conditions h.conditions) condition
  | inr (inr (inr (inr quantifier))) ↦
      none_some _ m.places.quantifiers (subst (AllByRecursion
      (λ at. (f.at ≡ at) × (f.code ≡ fault_code.NotQuantifierFree) → ⊥)) (sym none) tt) quantifier
]

is_short : (c : CommandTree) (code : FaultCode) → HasFewPaths c → HasManyPaths c code → ⊥
is_short c code few many = omega (arith, few, many.1)

short : (m : ModelTree) (f : Fault) → EachBlock HasFewPaths m → HasLongBlock m f → ⊥
short m f h = elim [
  | inl init ↦ is_short m.init f.code h.init init.1
  | inr (inl action) ↦ none_placed HasManyPaths m.actions m.places.actions f
      (all_more HasFewPaths _ (λ c few code many. is_short c code few many) m.actions h.actions) action
  | inr (inr last) ↦ is_short m.last f.code h.last last.1
]

pub checked : (m : ModelTree) (f : Fault) → IsChecked m → m.places.quantifiers ≡ [] → IsFault m f → ⊥
checked m f h none (inl a) = stays m f h.fragment none a.is_one
checked m f h none (inr a) = short m f h.few_paths a.1.is_one

-- A model without a fault can be checked.

module _ (P : Fault → Type 0) (never : (f : Fault) → IsFirst P f → ⊥) where
  -- where no fault of P has a lesser place, none stands at this place
  none_at : (n : ℕ) → ((f : Fault) → P f → f.at < n → ⊥) → (k : ℕ) (f : Fault) → P f → f.at ≡ n → number_of f.code < k
      → ⊥
  none_at n before zero f p e lt = omega (arith, lt)
  none_at n before (suc k) f p e lt = never f (record {
    is_one = p;
    least = λ o q. elim (cases_lt f.at o.at) [
      | inl less ↦ inl less
      | inr more ↦ elim (cases_lt o.at f.at) [
        | inl less ↦ absurd (before o q (omega (arith, less, e)))
        | inr back ↦ elim (cases_lt (number_of o.code) (number_of f.code)) [
          | inl less ↦ absurd (none_at n before k o q (omega (arith, more, back, e)) (omega (arith, less, lt)))
          | inr le ↦ inr (omega (arith, more, back), le)
        ]
      ]
    ];
  })

  none_before : (n : ℕ) (f : Fault) → P f → f.at < n → ⊥
  none_before zero f p lt = omega (arith, lt)
  none_before (suc n) f p lt = elim (cases_lt f.at n) [
    | inl less ↦ none_before n f p less
    | inr more ↦ none_at n (none_before n) (suc (number_of f.code)) f p (omega (arith, more, lt)) (omega arith)
  ]

  -- where there is no first, there is none
  none : (f : Fault) → P f → ⊥
  none f p = none_before (suc f.at) f p (omega arith)

met : FragmentsAreDecided → (d : Demand) (p : FormTree) → ((code : FaultCode) → Misses d p code → ⊥) → Meets d p
met decided demand.ExistsForall p never =
    elim (decided.exists_forall true p) [
      | inl h ↦ h
      | inr fails ↦
          absurd (never fault_code.NotExistsForall (refl, fails))
    ]
met decided demand.ForallExists p never =
    elim (decided.exists_forall false p) [
      | inl h ↦ h
      | inr fails ↦
          absurd (never fault_code.NotExistsForall (refl, fails))
    ]
met decided demand.Universal p never =
    elim (decided.universal true p) [ inl h ↦ h | inr fails ↦ absurd (never fault_code.NotUniversal (refl, fails)) ]
met decided demand.AlternationFree p never = elim (decided.exists_forall true p) [
  | inl h ↦ elim (decided.exists_forall false p)
      [ inl g ↦ (h, g) | inr fails ↦ absurd (never fault_code.NotAlternationFree (refl, λ both. fails both.1)) ]
  | inr fails ↦ absurd (never fault_code.NotAlternationFree (refl, λ both. fails both.0))
]

no_quantifiers : (places : List ℕ) → ((f : Fault) → SomeOf
    (λ at. (f.at ≡ at) × (f.code ≡ fault_code.NotQuantifierFree)) places → ⊥) → places ≡ []
no_quantifiers [] never = refl
no_quantifiers (at ∷ places) never =
    absurd (never (record { code = fault_code.NotQuantifierFree; at = at }) (inl (refl, refl)))

all_conditions : (cs : List Condition) → ((f : Fault)
    → SomeOf (λ c. (f.at ≡ c.at) × Misses (demand_of c.word) c.sentence f.code) cs → ⊥)
    → AllByRecursion (λ c. (code : FaultCode) → Misses (demand_of c.word) c.sentence code → ⊥) cs
all_conditions [] never = tt
all_conditions (c ∷ cs) never = (
  λ code miss. never (record { code = code; at = c.at }) (inl (refl, miss)),
  all_conditions cs (λ f h. never f (inr h)),
)

decidable : (w : Word) (p : FormTree) → Meets (demand_of w) p → HasPlainTerms p → IsDecidable w p
decidable word.Assume p h plain = (h, plain)
decidable word.Assert p h plain = (h, plain)
decidable word.If p h plain = ((h.0, plain), (h.1, plain))

-- what a condition assumes is exists-forall
assumed : (w : Word) (p q : FormTree) → IsDecidable w p → Assumes w p q → IsExistsForall true q
assumed word.Assume p q d e = subst (IsExistsForall true) (sym e) d.0
assumed word.Assert p q d e = subst (IsExistsForall true) (sym e) d.0
assumed word.If p q d (inl e) = subst (IsExistsForall true) (sym e) d.0.0
assumed word.If p q d (inr e) = subst (IsExistsForall true) (sym e) d.1.0

some_assumed : (cs : List Condition) (q : FormTree) → AllByRecursion (λ c. IsDecidable c.word c.sentence) cs
    → SomeOf (λ c. Assumes c.word c.sentence q) cs → IsExistsForall true q
some_assumed [] q all h = absurd h
some_assumed (c ∷ cs) q all (inl h) = assumed c.word c.sentence q all.0 h
some_assumed (c ∷ cs) q all (inr h) = some_assumed cs q all.1 h

module _ (conditions : List Condition) (all : AllByRecursion (λ c. IsDecidable c.word c.sentence) conditions) where
  in_fragment : (q : PrimitiveTree) → IsWritten conditions q → HasPlainSides q → IsInFragment q
  in_fragment (assume p) written plain = (some_assumed conditions p all written, plain)
  in_fragment (set_rel r by) written plain = plain
  in_fragment (set_fun f by) written plain = plain
  in_fragment (havoc v) written plain = tt
  in_fragment (havoc_rel r) written plain = tt
  in_fragment abort written plain = tt

  mutual
    command_in_fragment : (c : CommandTree) → EachPrimitive (IsWritten conditions) c → EachPrimitive HasPlainSides c
        → EachPrimitive IsInFragment c
    command_in_fragment (prim q) w p = in_fragment q w p
    command_in_fragment (seq cs) w p = commands_in_fragment cs w p
    command_in_fragment (choose cs) w p = commands_in_fragment cs w p

    commands_in_fragment : (cs : CommandTrees) → EachPrimitiveOf (IsWritten conditions) cs
        → EachPrimitiveOf HasPlainSides cs → EachPrimitiveOf IsInFragment cs
    commands_in_fragment no_commands w p = tt
    commands_in_fragment (command_then c cs) w p = (command_in_fragment c w.0 p.0, commands_in_fragment cs w.1 p.1)

fragment : CycleHasFirst → FragmentsAreDecided → (m : ModelTree) → IsModel m → ((f : Fault) → Breaks m f → ⊥)
    → IsInModelFragment m
fragment first decided m h never =
    let plain = h.plain (no_quantifiers m.places.quantifiers (λ f q. never f (inr (inr (inr (inr q)))))) in
    let axioms = all_placed (Misses demand.ExistsForall) m.axioms m.places.axioms h.placed.axioms
    (λ f a. never f (inr (inl a))) in
    let conjectures = all_placed (Misses demand.Universal) m.conjectures m.places.conjectures h.placed.conjectures
    (λ f c. never f (inr (inr (inl c)))) in
    let missed = all_conditions m.places.conditions (λ f c. never f (inr (inr (inr (inl c))))) in
    let conditions : AllByRecursion (λ c. IsDecidable c.word c.sentence) m.places.conditions =
    all_both (λ c. (code : FaultCode) → Misses (demand_of c.word) c.sentence code → ⊥) (λ c. HasPlainTerms c.sentence)
    _ (λ c none plain. decidable c.word c.sentence (met decided (demand_of c.word) c.sentence none) plain)
    m.places.conditions missed plain.conditions in
    record {
      functions = first (symbols m.signature) (λ g is.
          let lt : g < length m.places.functions = omega (arith, is.known, h.placed.functions) in
          never (record { code = fault_code.FunctionCycle; at = get_or m.places.functions g 0 })
          (inl (record {
            code = refl;
            function = g;
            first = is;
            at =
                slice_get-get_or m.places.functions g 0 lt;
          })));
      axioms = all_both _ HasPlainTerms IsEa (λ p none plain. (met decided demand.ExistsForall p none, plain))
          m.axioms axioms plain.axioms;
      conjectures = all_both _ HasPlainTerms IsPlainUniversal
          (λ p none plain. (met decided demand.Universal p none, plain)) m.conjectures conjectures plain.conjectures;
      conditions = conditions;
      blocks = record {
        init = command_in_fragment m.places.conditions conditions m.init h.written.init plain.blocks.init;
        actions = all_both _ _ _ (command_in_fragment m.places.conditions conditions) m.actions h.written.actions
            plain.blocks.actions;
        last = command_in_fragment m.places.conditions conditions m.last h.written.last plain.blocks.last;
      };
    }

few : (c : CommandTree) → ((code : FaultCode) → HasManyPaths c code → ⊥) → HasFewPaths c
few c never = elim (cases_lt 4096 (length (paths_of c)))
    [ inl more ↦ absurd (never fault_code.TooManyPaths (refl, more)) | inr le ↦ le ]

blocks_few : (m : ModelTree) → IsModel m → ((f : Fault) → HasLongBlock m f → ⊥) → EachBlock HasFewPaths m
blocks_few m h never = record {
  init = few m.init (λ code many. never (record { code = code; at = m.places.init }) (inl (refl, many)));
  actions = all_more _ HasFewPaths few m.actions
      (all_placed HasManyPaths m.actions m.places.actions h.placed.actions (λ f a. never f (inr (inl a))));
  last = few m.last (λ code many. never (record { code = code; at = m.places.last }) (inr (inr (refl, many))));
}

-- where no phase gives a fault
pub passed : CycleHasFirst → FragmentsAreDecided → (m : ModelTree) → IsModel m → ((f : Fault) → Breaks m f → ⊥)
    → ((f : Fault) → HasLongBlock m f → ⊥) → IsChecked m
passed first decided m h stays short =
    record { model = h; fragment = fragment first decided m h stays; few_paths = blocks_few m h short }

pub faultless : CycleHasFirst → FragmentsAreDecided → (m : ModelTree) → IsModel m → ((f : Fault) → IsFault m f → ⊥)
    → IsChecked m
faultless first decided m h never =
    let stays = none (Breaks m) (λ f is. never f (inl is)) in
    passed first decided m h stays (none (HasLongBlock m) (λ f is. never f (inr (stays, is))))

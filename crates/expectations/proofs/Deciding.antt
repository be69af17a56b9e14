-- What a try of a kind says: the parser's fault of the tokens in front and one more is at the text's end, at that
-- token, or within the tokens in front; there it would be the first fault of the text, which stands further on.
use Rattle.std.proofs.Common.{
  ◌≡◌,
  ℕ,
  ◌+◌,
  ◌-◌,
  ◌<◌,
  ◌≤◌,
  Bool,
  true,
  false,
  cond,
  ◌⊎◌,
  inl,
  inr,
  List,
  [],
  ◌∷◌,
  ◌++◌,
  length,
  take,
  drop,
  refl,
  sym,
  ap,
  subst,
  ◌∙◌,
  append_assoc,
  arith,
  length-drop,
  length-append,
  le-ltb,
}
use Rattle.std.specs.Prelude.{◌↔◌, Some, if◌then◌else◌, nat_lt, IsTrue}
use Rattle.std.specs.List.{AllByRecursion}
use Rattle.std.proofs.lemmas.Bool.Decides.{nat_tests}
use Rattle.std.proofs.lemmas.List.{append-nil, take-append-le, drop-append-le}
use Rattle.std.proofs.lemmas.List.Sums.{take_while-cons}
use Rattle.rml_lex.specs.declared.token.Token.{Token}
use Rattle.rml_lex.specs.declared.token.Kind.{Kind}
use Rattle.rml_lex.specs.declared.token.Fault.{Fault}
use Rattle.rml_lex.specs.declared.fault_code.FaultCode.TheVariants as fault_code
use Rattle.rml_lex.specs.Tokens.{word_of, EndsBy}
use Rattle.rml_phrases.specs.Language.{Tokens}
use Rattle.rml_syntax.specs.declared.tree.Format.{Format}
use Rattle.rml_syntax.specs.declared.tree.Format.TheVariants.{One}
use Rattle.rml_syntax.specs.Tree.{FileTree}
use Rattle.rml_syntax.specs.Grammar.{file, max_levels}
use Rattle.rml_syntax.specs.Faults.{format_of, IsFormat, IsTree, BeginsFile, IsUnexpected, IsTooDeep, place_at}
use Rattle.rml_syntax.specs.Faults.{IsFault}
use Rattle.expectations.specs.Expectations.{in_front, behind, MayStand}
use Rattle.expectations.specs.Trying.{longer, IsUnexpectedAt, Says, IsFront}

-- ---- lists

below : (a b : ℕ) → nat_lt a b ≡ true → a < b
below a b e = grind (arith, nat_tests, e)

all_front : (P : Token → Type 0) (u v : Tokens) → AllByRecursion P (u ++ v) → AllByRecursion P u
all_front P [] v h = tt
all_front P (t ∷ u) v h = (h.0, all_front P u v h.1)

-- ---- the text with a 1 behind it

longer_length : (text : List ℕ) → length (longer text) ≡ length text + 1
longer_length text = length-append text (49 ∷ [])

wider : (text : List ℕ) (ts : Tokens) → AllByRecursion (EndsBy (length text)) ts
    → AllByRecursion (EndsBy (length (longer text))) ts
wider text [] h = tt
wider text (t ∷ ts) h = ((h.0.0, omega (arith, longer_length text, h.0.1)), wider text ts h.1)

-- the tokens of the text are the same words
same_word : (text : List ℕ) (t : Token) → EndsBy (length text) t → word_of (longer text) t ≡ word_of text t
same_word text t h =
    let begun : t.start ≤ length text = omega (arith, h.0, h.1) in
    let room : t.end - t.start ≤ length (drop t.start text) = omega (arith, length-drop t.start text, h.0, h.1) in
    ap (take (t.end - t.start)) (drop-append-le t.start text (49 ∷ []) begun)
    ∙ take-append-le (t.end - t.start) (drop t.start text) (49 ∷ []) room

-- the one behind it is a 1
behind_word : (text : List ℕ) (k : Kind) → word_of (longer text) (behind text k) ≡ 49 ∷ []
behind_word text k =
    let one : length text + 1 - length text ≡ 1 = omega arith in
    let digit : drop (length text) (longer text) ≡ 49 ∷ [] =
    drop-append-le (length text) text (49 ∷ []) (omega arith) ∙ ap (λ (r : List ℕ). r ++ 49 ∷ []) (none text) in
    rw (one, digit) refl
  where
    none : (xs : List ℕ) → drop (length xs) xs ≡ []
    none [] = refl
    none (x ∷ xs) = none xs

-- ---- the format

-- tokens in front of some that have a format have one
front_has : (text : List ℕ) (u v : Tokens) (f : Format) → IsFormat text (u ++ v) f → (g : Format) × IsFormat text u g
front_has text [] v f h = (One, refl)
front_has text (t ∷ []) v f h = (One, refl)
front_has text (t ∷ w ∷ u) v f h = (f, h)

same_format : (text : List ℕ) (ts : Tokens) → AllByRecursion (EndsBy (length text)) ts
    → format_of (longer text) ts ≡ format_of text ts
same_format text [] all = refl
same_format text (t ∷ []) all = refl
same_format text (t ∷ u ∷ ts) all = rw (same_word text u all.1.0) refl

either_way : (b : Bool) → (if b then Some One else Some One) ≡ Some One
either_way true = refl
either_way false = refl

-- whatever the kind of the last
format_on : (text : List ℕ) (k : Kind) (front : Tokens) (f : Format) → AllByRecursion (EndsBy (length text)) front
    → IsFormat text front f → IsFormat (longer text) (front ++ behind text k ∷ []) f
format_on text k [] f all h = h
format_on text k (t ∷ []) f all h =
    let one : format_of (longer text) (t ∷ behind text k ∷ []) ≡ Some One = rw (behind_word text k) (either_way _) in
    one ∙ h
format_on text k (t ∷ u ∷ ts) f all h = same_format text (t ∷ u ∷ ts) all ∙ h

some_is : (f g : Format) → Some f ≡ Some g → f ≡ g
some_is f g e = cc

-- ---- the tokens in front of a place

-- others stand behind them
in_front_is : (at : ℕ) (ts : Tokens) → (back : Tokens) × (ts ≡ in_front at ts ++ back)
in_front_is at [] = ([], refl)
in_front_is at (t ∷ ts) = by_place (nat_lt t.start at) refl (in_front_is at ts)
  where
    by_place : (b : Bool) → nat_lt t.start at ≡ b → (back : Tokens) × (ts ≡ in_front at ts ++ back)
        → (back : Tokens) × (t ∷ ts ≡ in_front at (t ∷ ts) ++ back)
    by_place true e rest =
        let is : in_front at (t ∷ ts) ≡ t ∷ in_front at ts =
        take_while-cons (λ u. nat_lt u.start at) t ts ∙ ap (λ c. cond c (t ∷ in_front at ts) []) e in
        (rest.0, ap (λ (r : Tokens). t ∷ r) rest.1 ∙ sym (ap (λ (r : Tokens). r ++ rest.0) is))
    by_place false e rest =
        let is : in_front at (t ∷ ts) ≡ [] =
        take_while-cons (λ u. nat_lt u.start at) t ts ∙ ap (λ c. cond c (t ∷ in_front at ts) []) e in
        (t ∷ ts, sym (ap (λ (r : Tokens). r ++ t ∷ ts) is))

-- each begins there
begins_before : (at : ℕ) (ts u : Tokens) (t : Token) (v : Tokens) → in_front at ts ≡ u ++ t ∷ v → t.start < at
begins_before at [] [] t v e = absurd cc
begins_before at [] (w ∷ u) t v e = absurd cc
begins_before at (s ∷ ts) u t v e = by_place (nat_lt s.start at) refl u e (λ u e. begins_before at ts u t v e)
  where
    at_head : (u : Tokens) → nat_lt s.start at ≡ true → s ∷ in_front at ts ≡ u ++ t ∷ v
        → ((u : Tokens) → in_front at ts ≡ u ++ t ∷ v → t.start < at) → t.start < at
    at_head [] f e later =
        let one : s ≡ t = cc in
        subst (λ (w : Token). w.start < at) one (below s.start at f)
    at_head (w ∷ u) f e later =
        let rest : in_front at ts ≡ u ++ t ∷ v = cc in
        later u rest

    none : (u : Tokens) → [] ≡ u ++ t ∷ v → ⊥
    none [] e = cc
    none (w ∷ u) e = cc

    by_place : (b : Bool) → nat_lt s.start at ≡ b → (u : Tokens) → in_front at (s ∷ ts) ≡ u ++ t ∷ v
        → ((u : Tokens) → in_front at ts ≡ u ++ t ∷ v → t.start < at) → t.start < at
    by_place true f u e later =
        let is : in_front at (s ∷ ts) ≡ s ∷ in_front at ts =
        take_while-cons (λ w. nat_lt w.start at) s ts ∙ ap (λ c. cond c (s ∷ in_front at ts) []) f in
        at_head u f (sym is ∙ e) later
    by_place false f u e later =
        let is : in_front at (s ∷ ts) ≡ [] =
        take_while-cons (λ w. nat_lt w.start at) s ts ∙ ap (λ c. cond c (s ∷ in_front at ts) []) f in
        absurd (none u (sym is ∙ e))

-- they are no more than the tokens in front of the fault
no_further : (text : List ℕ) (at : ℕ) (front rest : Tokens) → at ≡ place_at text rest
    → (more : Tokens) × (front ≡ in_front at (front ++ rest) ++ more)
no_further text at [] [] e = ([], refl)
no_further text at [] (t ∷ ts) e =
    let late : nat_lt t.start at ≡ false = le-ltb t.start at (omega (arith, e)) in
    let is : in_front at (t ∷ ts) ≡ [] =
    take_while-cons (λ u. nat_lt u.start at) t ts ∙ ap (λ c. cond c (t ∷ in_front at ts) []) late in
    ([], sym (ap (λ (r : Tokens). r ++ []) is))
no_further text at (t ∷ front) rest e = by_place (nat_lt t.start at) refl (no_further text at front rest e)
  where
    by_place : (b : Bool) → nat_lt t.start at ≡ b → (more : Tokens) × (front ≡ in_front at (front ++ rest) ++ more)
        → (more : Tokens) × (t ∷ front ≡ in_front at (t ∷ front ++ rest) ++ more)
    by_place true f h =
        let is : in_front at (t ∷ front ++ rest) ≡ t ∷ in_front at (front ++ rest) =
        take_while-cons (λ u. nat_lt u.start at) t (front ++ rest)
        ∙ ap (λ c. cond c (t ∷ in_front at (front ++ rest)) []) f in
        (h.0, ap (λ (r : Tokens). t ∷ r) h.1 ∙ sym (ap (λ (r : Tokens). r ++ h.0) is))
    by_place false f h =
        let is : in_front at (t ∷ front ++ rest) ≡ [] =
        take_while-cons (λ u. nat_lt u.start at) t (front ++ rest)
        ∙ ap (λ c. cond c (t ∷ in_front at (front ++ rest)) []) f in
        (t ∷ front, sym (ap (λ (r : Tokens). r ++ t ∷ front) is))

-- ---- where tokens and one more are cut

both : (x y : Token) (a b : Tokens) → x ≡ y → a ≡ b → x ∷ a ≡ y ∷ b
both x y a b p q = rw (p, q) refl

abbrev Cut : Tokens → Token → Tokens → Tokens → Type 0
Cut front t u v = ((u ≡ front ++ t ∷ []) × (v ≡ [])) ⊎ ((u ≡ front) × (v ≡ t ∷ []))
    ⊎ ((s : Token) × (more : Tokens) × (front ≡ u ++ s ∷ more) × (v ≡ s ∷ more ++ t ∷ []))

cut : (front : Tokens) (t : Token) (u v : Tokens) → front ++ t ∷ [] ≡ u ++ v → Cut front t u v
cut [] t [] v e = inr (inl (refl, sym e))
cut [] t (y ∷ []) [] e = inl (sym e, refl)
cut [] t (y ∷ []) (z ∷ v) e = absurd cc
cut [] t (y ∷ z ∷ u) v e = absurd cc
cut (x ∷ front) t [] v e = inr (inr (x, front, refl, sym e))
cut (x ∷ front) t (y ∷ u) v e =
    let one : x ≡ y = cc in
    let rest : front ++ t ∷ [] ≡ u ++ v = cc in
    elim (cut front t u v rest) [
      | inl h ↦ inl (both y x u (front ++ t ∷ []) (sym one) h.0, h.1)
      | inr g ↦ elim g [
        | inl h ↦ inr (inl (both y x u front (sym one) h.0, h.1))
        | inr h ↦ inr (inr (h.0, h.1, both x y front (u ++ h.0 ∷ h.1) one h.2, h.3))
      ]
    ]

-- ---- what is said of a kind

unequal : fault_code.DeepNesting ≡ fault_code.UnexpectedToken → ⊥
unequal e = cc

abbrev OneFault : Type 0
OneFault = (text : List ℕ) (ts : Tokens) (f g : Fault) → IsFault text ts f → IsFault text ts g → f ≡ g

module _ (one_fault : OneFault) (text : List ℕ) (tokens : Tokens) (fault : Fault)
    (all : AllByRecursion (EndsBy (length text)) tokens) (given : IsFault text tokens fault) (k : Kind) where
  abbrev front : Tokens
  front = in_front fault.at tokens

  abbrev back : Tokens
  back = (in_front_is fault.at tokens).0

  abbrev tried : Tokens
  tried = front ++ behind text k ∷ []

  parts : tokens ≡ front ++ back
  parts = (in_front_is fault.at tokens).1

  all_before : AllByRecursion (EndsBy (length text)) front
  all_before = all_front (EndsBy (length text)) front back (subst (AllByRecursion (EndsBy (length text))) parts all)

  front_format : (g : Format) × IsFormat text front g
  front_format =
      let h = no_further text fault.at given.front given.rest given.place in
      let is : given.front ≡ front ++ h.0 =
      h.1 ∙ ap (λ (r : Tokens). in_front fault.at r ++ h.0) (sym given.parts) in
      front_has text front h.0 given.format
      (subst (λ (r : Tokens). IsFormat text r given.format) is given.is_format)

  -- with one more they begin a file of the format that they have then
  to_may : (f : Format) → IsFormat (longer text) tried f → BeginsFile f tried → MayStand text front k
  to_may f is begins =
      let g = front_format in
      let last : IsFormat (longer text) tried g.0 = format_on text k front g.0 all_before g.1 in
      (g.0, g.1, subst (λ (h : Format). BeginsFile h tried) (some_is f g.0 (sym is ∙ last)) begins)

  -- within the tokens in front there is no fault
  not_within : (f : Fault) (h : IsFault (longer text) tried f) (s : Token) (more : Tokens) → front ≡ h.front ++ s ∷ more
      → h.rest ≡ s ∷ more ++ behind text k ∷ [] → ⊥
  not_within f h s more e r =
      let here : AllByRecursion (EndsBy (length text)) (h.front ++ s ∷ []) =
      all_front (EndsBy (length text)) (h.front ++ s ∷ []) more
      (subst (AllByRecursion (EndsBy (length text))) (e ∙ sym (append_assoc h.front (s ∷ []) more)) all_before) in
      let within : AllByRecursion (EndsBy (length text)) h.front =
      all_front (EndsBy (length text)) h.front (s ∷ []) here in
      let cause : ((f.code ≡ fault_code.UnexpectedToken) × IsUnexpected text h.front (s ∷ more ++ back))
      ⊎ ((f.code ≡ fault_code.DeepNesting) × IsTooDeep text h.front (s ∷ more ++ back)) =
      elim h.cause [
        | inl c ↦ inl (
          c.0,
          λ format is begins.
              subst (IsUnexpected (longer text) h.front) r c.1 format (same_format text (h.front ++ s ∷ []) here ∙ is)
              begins,
        )
        | inr c ↦
            let d = subst (IsTooDeep (longer text) h.front) r c.1 in
            inr (c.0, (d.0, sym (same_format text (h.front ++ s ∷ []) here) ∙ d.1, d.2, d.3))
      ] in
      let first : IsFault text tokens f = record {
        front = h.front;
        rest = s ∷ more ++ back;
        parts = parts ∙ ap (λ (u : Tokens). u ++ back) e ∙ append_assoc h.front (s ∷ more) back;
        format = h.format;
        is_format = sym (same_format text h.front within) ∙ h.is_format;
        begins = h.begins;
        within = h.within;
        place = h.place ∙ ap (place_at (longer text)) r;
        cause = cause;
      } in
      let early : s.start < fault.at = begins_before fault.at tokens h.front s more e in
      let there : f.at ≡ s.start = h.place ∙ ap (place_at (longer text)) r in
      let same : f.at ≡ fault.at = ap (λ (g : Fault). g.at) (one_fault text tokens f fault first given) in
      absurd (omega (arith, early, there, same))

  goes_on : (f : Fault) → IsFault (longer text) tried f → (IsUnexpectedAt (length text) f → ⊥)
      → MayStand text front k
  goes_on f h other = elim (cut front (behind text k) h.front h.rest h.parts) [
    | inl a ↦ to_may h.format (subst (λ (u : Tokens). IsFormat (longer text) u h.format) a.0 h.is_format)
        (subst (BeginsFile h.format) a.0 h.begins)
    | inr g ↦ elim g [
      | inl b ↦ elim h.cause [
        | inl c ↦ absurd (other (c.0, h.place ∙ ap (place_at (longer text)) b.1))
        | inr c ↦
            let d = subst (λ (u : Tokens). IsTooDeep (longer text) u (behind text k ∷ [])) b.0
            (subst (IsTooDeep (longer text) h.front) b.1 c.1) in
            to_may d.0 d.1 d.2
      ]
      | inr w ↦ absurd (not_within f h w.0 w.1 w.2 w.3)
    ]
  ]

  stops : (f : Fault) → IsFault (longer text) tried f → IsUnexpectedAt (length text) f → MayStand text front k → ⊥
  stops f h it m = elim (cut front (behind text k) h.front h.rest h.parts) [
    | inl a ↦
        let ends : f.at ≡ length (longer text) = h.place ∙ ap (place_at (longer text)) a.1 in
        absurd (omega (arith, ends, it.1, longer_length text))
    | inr g ↦ elim g [
      | inl b ↦ elim h.cause [
        | inl c ↦
            subst (λ (u : Tokens). IsUnexpected (longer text) u (behind text k ∷ [])) b.0
            (subst (IsUnexpected (longer text) h.front) b.1 c.1) m.0 (format_on text k front m.0 all_before m.1) m.2
        | inr c ↦ unequal (sym c.0 ∙ it.0)
      ]
      | inr w ↦ not_within f h w.0 w.1 w.2 w.3
    ]
  ]

  -- a tree of these tokens begins with them
  whole : (tree : FileTree) → IsTree (longer text) tried tree → MayStand text front k
  whole tree h = to_may tree.format h.0 (
    max_levels,
    record {
      rest = [];
      value = tree.items;
      means = subst (λ (u : Tokens). (file tree.format max_levels).whole u tree.items) (sym (append-nil tried)) h.1;
    },
  )

  says_so : (b : Bool) → Says (longer text) tried (length text) b
      → ((b ≡ true → MayStand text front k) × (MayStand text front k → b ≡ true))
  says_so true (inl h) = (λ e. whole h.0 h.1, λ m. refl)
  says_so true (inr h) = (λ e. goes_on h.0 h.1 h.2, λ m. refl)
  says_so false h = (λ e. absurd cc, λ m. absurd (stops h.0 h.1 h.2 m))

  all_tried : AllByRecursion (EndsBy (length (longer text))) tried
  all_tried = and_last front (wider text front all_before)
    where
      and_last : (ts : Tokens) → AllByRecursion (EndsBy (length (longer text))) ts
          → AllByRecursion (EndsBy (length (longer text))) (ts ++ behind text k ∷ [])
      and_last [] h = ((omega arith, omega (arith, longer_length text)), tt)
      and_last (t ∷ ts) h = (h.0, and_last ts h.1)

-- ---- of the code's own values

pub asked : OneFault → (text beyond : List ℕ) (before tried : Tokens) (k : Kind) → beyond ≡ longer text
    → IsFront text before → tried ≡ before ++ behind text k ∷ [] → AllByRecursion (EndsBy (length beyond)) tried
asked one text beyond before tried k b f t =
    let is : tried ≡ in_front f.1.at f.0 ++ behind text k ∷ [] =
    t ∙ ap (λ (u : Tokens). u ++ behind text k ∷ []) f.4 in
    subst (λ (l : List ℕ). AllByRecursion (EndsBy (length l)) tried) (sym b)
    (subst (AllByRecursion (EndsBy (length (longer text)))) (sym is) (all_tried one text f.0 f.1 f.2 f.3 k))

pub told : OneFault → (text beyond : List ℕ) (before tried : Tokens) (k : Kind) → beyond ≡ longer text
    → IsFront text before → tried ≡ before ++ behind text k ∷ [] → (b : Bool) → Says beyond tried (length text) b
    → IsTrue b ↔ MayStand text before k
told one text beyond before tried k b f t may says =
    let is : tried ≡ in_front f.1.at f.0 ++ behind text k ∷ [] =
    t ∙ ap (λ (u : Tokens). u ++ behind text k ∷ []) f.4 in
    let plain : Says (longer text) (in_front f.1.at f.0 ++ behind text k ∷ []) (length text) may =
    subst (λ (u : Tokens). Says (longer text) u (length text) may) is
    (subst (λ (l : List ℕ). Says l tried (length text) may) b says) in
    subst (λ (u : Tokens). IsTrue may ↔ MayStand text u k) (sym f.4) (says_so one text f.0 f.1 f.2 f.3 k may plain)

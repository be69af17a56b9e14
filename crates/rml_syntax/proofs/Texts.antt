-- The theorem on a text's tokens: with the number behind `rml`, and one tree or one first fault.
use Rattle.std.proofs.Common.{◌≡◌, ℕ, suc, ◌≤◌, Bool, true, false, ◌⊎◌, inl, inr, List, [], ◌∷◌, ◌++◌, length, drop}
use Rattle.std.proofs.Common.{Result, Ok, Err, refl, sym, ap, subst, ◌∙◌, append_assoc, arith}
use Rattle.std.specs.Prelude.{◌==◌, Option, Some, None}
use Rattle.std.specs.List.{AllByRecursion}
use Rattle.std.proofs.lemmas.List.{append-nil, append_cancel_left}
use Rattle.base.specs.declared.refused.Refused.{Refused}
use Rattle.base.specs.declared.refused.Refused.TheVariants as refused
use Rattle.rml_lex.specs.declared.token.Token.{Token}
use Rattle.rml_lex.specs.declared.token.Kind.TheVariants.{Word, Number}
use Rattle.rml_lex.specs.declared.token.Word.TheVariants.{Rml}
use Rattle.rml_lex.specs.declared.token.Fault.{Fault}
use Rattle.rml_lex.specs.Tokens.{EndsBy}
use Rattle.rml_phrases.specs.declared.front.Stop.{Stop}
use Rattle.rml_phrases.specs.declared.front.Stop.TheVariants as stops
use Rattle.rml_phrases.specs.Language.{Tokens}
use Rattle.rml_syntax.specs.declared.tree.Format.{Format}
use Rattle.rml_syntax.specs.declared.tree.Format.TheVariants.{One, Two}
use Rattle.rml_syntax.specs.Tree.{ItemTree, FileTree}
use Rattle.rml_syntax.specs.Grammar.{file, max_levels}
use Rattle.rml_phrases.specs.Language.{Begins}
use Rattle.rml_syntax.specs.Faults.{format_of, IsFormat, IsTree, BeginsFile, IsFile, IsUnexpected, IsTooDeep}
use Rattle.rml_syntax.specs.Faults.{place_at, IsFault}
use Rattle.rml_phrases.specs.Reading.{number, Why, Unexpected, TooDeep, Failure, fails, Stops}
use Rattle.rml_syntax.specs.Reading.{items_at, all_at, of_format, read_in, read_at, failure_of, fault_of}
use Rattle.rml_terms.specs.Tree.{ExprTree, ExprTrees}
use Rattle.rml_terms.specs.Shape.{ExprNests, ExprsNest, max_nesting}
use Rattle.rml_terms.specs.Laws.{AreRead, TermsStand, TermsNest}
use Rattle.rml_phrases.proofs.Exact.{bind_ok, bind_err, ok_is, err_is, same_kind}
use Rattle.rml_phrases.proofs.Fronts.{cut}
use Rattle.rml_syntax.proofs.Grammar.{file_good}
use Rattle.rml_syntax.specs.Within.{TreeWithin}
use Rattle.rml_syntax.specs.Shape.{IsShaped}
use Rattle.rml_syntax.proofs.Shapes.{is_shaped}
use Rattle.rml_syntax.proofs.Within.{tree_within}
use Rattle.rml_syntax.proofs.Whole.{all_found, all_only, unexpected, deep, IsRefused, OpensTooMany}

-- ---- the format

as_nested : max_nesting ≡ max_levels
unfolding max_levels
as_nested = refl

-- ---- what the parser reads

read_is : (text : List ℕ) (ts : Tokens) (f : Format) → format_of text ts ≡ Some f
    → read_at text ts ≡ of_format f (all_at f max_nesting ts)
read_is text ts f is =
    ap (λ (o : Option Format). read_in o ts) is ∙ ap (λ (n : ℕ). of_format f (all_at f n ts)) (sym as_nested)

pub reads_in : (text : List ℕ) (ts : Tokens) (f : Format) (items : List ItemTree) → format_of text ts ≡ Some f
    → all_at f max_nesting ts ≡ Ok items → read_at text ts ≡ Ok (record { format = f; items = items })
reads_in text ts f items is e = read_is text ts f is ∙ ap (of_format f) e

pub stops_in : (text : List ℕ) (ts : Tokens) (f : Format) → format_of text ts ≡ Some f → (e : Refused Stop)
    → Stops e (all_at f max_nesting ts) → Stops e (read_at text ts)
stops_in text ts f is refused.NoMemory h = tt
stops_in text ts f is (refused.For (stops.Unexpected rest)) h = read_is text ts f is ∙ ap (of_format f) h
stops_in text ts f is (refused.For (stops.TooDeep rest)) h = read_is text ts f is ∙ ap (of_format f) h

-- ---- beginnings

module _ (terms : AreRead) where
  -- tokens that begin a file of each format
  record BeginAll (ts : Tokens) : Type 0 where
    begins : (f : Format) → BeginsFile f ts
    within : (f : Format) → (file f max_levels).front ts

  no_tokens : (f : Format) → all_at f max_levels [] ≡ Ok []
  unfolding all_at items_at
  no_tokens One = refl
  no_tokens Two = refl

  none_begin : BeginAll []
  none_begin = record {
    begins = λ f. (max_levels, record { rest = []; value = []; means = whole f });
    within = λ f. (file_good terms f max_levels).fronts.whole [] [] (whole f);
  }
    where
      whole : (f : Format) → (file f max_levels).whole [] []
      whole f = all_found f terms max_levels [] [] (no_tokens f)

  -- `rml` and some number are a file
  rml_file : (f : Format) (t u : Token) → Word Rml ≡ t.kind → Number ≡ u.kind → all_at f max_levels (t ∷ u ∷ []) ≡ Ok []
  unfolding all_at items_at
  rml_file One t u rml is_number = rw (← rml, ← is_number) refl
  rml_file Two t u rml is_number = rw (← rml, ← is_number) refl

  abbrev some_number : Token
  some_number = record { kind = Number; start = 0; end = 0 }

  rml_begins : (t : Token) → Word Rml ≡ t.kind → BeginAll (t ∷ [])
  rml_begins t rml = record {
    begins = λ f. (max_levels, record { rest = some_number ∷ []; value = []; means = whole f });
    within = λ f. (file_good terms f max_levels).closed (t ∷ []) (some_number ∷ [])
        ((file_good terms f max_levels).fronts.whole (t ∷ some_number ∷ []) [] (whole f));
  }
    where
      whole : (f : Format) → (file f max_levels).whole (t ∷ some_number ∷ []) []
      whole f = all_found f terms max_levels (t ∷ some_number ∷ []) [] (rml_file f t some_number rml refl)

  -- whether `rml` comes first
  by_first : (text : List ℕ) (t u : Token) (ts : Tokens) (b : Bool) → (number (Word Rml) == number t.kind) ≡ b
      → (format_of text (t ∷ u ∷ ts) ≡ Some One) ⊎ (Word Rml ≡ t.kind)
  by_first text t u ts true e = inr (same_kind (Word Rml) t.kind e)
  by_first text t u ts false e = inl (rw e refl)

  -- tokens have the format of those in front, or these begin a file of each format
  formats : (text : List ℕ) (u v : Tokens) → (format_of text (u ++ v) ≡ format_of text u)
      ⊎ ((format_of text u ≡ Some One) × BeginAll u)
  formats text [] v = inr (refl, none_begin)
  formats text (t ∷ []) [] = inl refl
  formats text (t ∷ []) (w ∷ v) = elim (by_first text t w v (number (Word Rml) == number t.kind) refl) [
    | inl one ↦ inl one
    | inr rml ↦ inr (refl, rml_begins t rml)
  ]
  formats text (t ∷ w ∷ u) v = inl refl

  -- tokens in front of some that are of this format, and the format that they have
  record Before (text : List ℕ) (f : Format) (u : Tokens) : Type 0 where
    format : Format
    is_format : IsFormat text u format
    begins : BeginsFile f u → BeginsFile format u
    begins_back : BeginsFile format u → BeginsFile f u
    within : (file f max_levels).front u → (file format max_levels).front u
    within_back : (file format max_levels).front u → (file f max_levels).front u

  before : (text : List ℕ) (u v : Tokens) (f : Format) → IsFormat text (u ++ v) f → Before text f u
  before text u v f is = elim (formats text u v) [
    | inl same ↦ record {
      format = f;
      is_format = sym same ∙ is;
      begins = λ h. h;
      begins_back = λ h. h;
      within = λ h. h;
      within_back = λ h. h;
    }
    | inr all ↦ record {
      format = One;
      is_format = all.0;
      begins = λ h. all.1.begins One;
      begins_back = λ h. all.1.begins f;
      within = λ h. all.1.within One;
      within_back = λ h. all.1.within f;
    }
  ]

  -- ---- what is read

  -- `rml` and a number that is of no format
  record Other (ts : Tokens) : Type 0 where
    rml : Token
    digits : Token
    more : Tokens
    parts : ts ≡ rml ∷ digits ∷ more
    is_rml : Word Rml ≡ rml.kind

  some_other : Some One ≡ None → ⊥
  some_other e = cc

  other : (text : List ℕ) (ts : Tokens) → format_of text ts ≡ None → Other ts
  other text [] e = absurd (some_other e)
  other text (t ∷ []) e = absurd (some_other e)
  other text (t ∷ u ∷ ts) e = elim (by_first text t u ts (number (Word Rml) == number t.kind) refl) [
    | inl one ↦ absurd (some_other (sym one ∙ e))
    | inr rml ↦ record { rml = t; digits = u; more = ts; parts = refl; is_rml = rml }
  ]

  no_format : (format : Format) (o : Option Format) → o ≡ None → o ≡ Some format → ⊥
  no_format format o e is = cc

  pub reads_tree : (text : List ℕ) (ts : Tokens) (tree : FileTree) → read_at text ts ≡ Ok tree → IsTree text ts tree
  reads_tree text ts tree e = by_format (format_of text ts) refl e
    where
      by_format : (o : Option Format) → format_of text ts ≡ o → read_in o ts ≡ Ok tree → IsTree text ts tree
      by_format None is e =
          absurd (let no : ◌≡◌ {A = Result FileTree Failure} (fails Unexpected (drop 1 ts)) (Ok tree) = e in cc)
      by_format (Some f) is e =
          let a = bind_ok (all_at f max_levels ts) (λ items. Ok (record { format = f; items = items })) tree e in
          subst (IsTree text ts) (ok_is (record { format = f; items = a.0 }) tree a.2)
          (is, all_found f terms max_levels ts a.0 a.1)

  pub tree_read : (text : List ℕ) (ts : Tokens) (tree : FileTree) → IsTree text ts tree → read_at text ts ≡ Ok tree
  tree_read text ts tree h =
      ap (λ (o : Option Format). read_in o ts) h.0
      ∙ ap (of_format tree.format) (all_only tree.format terms max_levels ts tree.items h.1)

  other_fault : (text : List ℕ) (ts : Tokens) → format_of text ts ≡ None → Other ts
      → IsFault text ts (failure_of text (record { why = Unexpected; rest = drop 1 ts }))
  other_fault text ts none o =
      let all = rml_begins o.rml o.is_rml in
      let not : format_of text (o.rml ∷ o.digits ∷ o.more) ≡ None =
      subst (λ (r : Tokens). format_of text r ≡ None) o.parts none in
      subst (λ (r : Tokens). IsFault text r (failure_of text (record { why = Unexpected; rest = drop 1 r })))
      (sym o.parts) (record {
        front = o.rml ∷ [];
        rest = o.digits ∷ o.more;
        parts = refl;
        format = One;
        is_format = refl;
        begins = all.begins One;
        within = all.within One;
        place = refl;
        cause = inl (refl, λ format is begins. no_format format _ not is);
      })

  some_is : (f g : Format) → Some f ≡ Some g → f ≡ g
  some_is f g e = cc

  lift_refused : (text : List ℕ) (front rest : Tokens) (f : Format) → IsFormat text (front ++ rest) f
      → IsRefused f front rest → IsUnexpected text front rest
  lift_refused text front [] f all h = λ format is file.
      let here : IsFormat text front f = subst (λ (r : Tokens). IsFormat text r f) (append-nil front) all in
      h (subst (λ (k : Format). IsFile k front) (some_is format f (sym is ∙ here)) file)
  lift_refused text front (t ∷ rest) f all h = λ format is begins.
      let b = before text (front ++ t ∷ []) rest f
      (subst (λ (r : Tokens). IsFormat text r f) (sym (append_assoc front (t ∷ []) rest)) all) in
      h (b.begins_back (subst (λ (k : Format). BeginsFile k (front ++ t ∷ []))
      (some_is format b.format (sym is ∙ b.is_format)) begins))

  lift_deep : (text : List ℕ) (front rest : Tokens) (f : Format) → IsFormat text (front ++ rest) f
      → OpensTooMany f max_levels front rest → IsTooDeep text front rest
  lift_deep text front [] f all h = h
  lift_deep text front (t ∷ rest) f all h =
      let b = before text (front ++ t ∷ []) rest f
      (subst (λ (r : Tokens). IsFormat text r f) (sym (append_assoc front (t ∷ []) rest)) all) in
      (b.format, b.is_format, b.begins h.0, λ within. h.1 (b.within_back within))

  grammar_fault : (text : List ℕ) (ts : Tokens) (f : Format) (why : Why) (rest : Tokens) → IsFormat text ts f
      → all_at f max_levels ts ≡ fails why rest → IsFault text ts (failure_of text (record { why = why; rest = rest }))
  grammar_fault text ts f Unexpected rest is e =
      let s = unexpected f terms max_levels ts rest e in
      let all : IsFormat text (s.front ++ rest) f = subst (λ (r : Tokens). IsFormat text r f) s.parts is in
      let b = before text s.front rest f all in
      record {
        front = s.front;
        rest = rest;
        parts = s.parts;
        format = b.format;
        is_format = b.is_format;
        begins = b.begins s.begins;
        within = b.within s.within;
        place = refl;
        cause = inl (refl, lift_refused text s.front rest f all s.wrong);
      }
  grammar_fault text ts f TooDeep rest is e =
      let s = deep f terms max_levels ts rest e in
      let all : IsFormat text (s.front ++ rest) f = subst (λ (r : Tokens). IsFormat text r f) s.parts is in
      let b = before text s.front rest f all in
      record {
        front = s.front;
        rest = rest;
        parts = s.parts;
        format = b.format;
        is_format = b.is_format;
        begins = b.begins s.begins;
        within = b.within s.within;
        place = refl;
        cause = inr (refl, lift_deep text s.front rest f all s.wrong);
      }

  pub reads_fault : (text : List ℕ) (ts : Tokens) (w : Failure) → read_at text ts ≡ Err w
      → IsFault text ts (failure_of text w)
  reads_fault text ts w e = by_format (format_of text ts) refl e
    where
      by_format : (o : Option Format) → format_of text ts ≡ o → read_in o ts ≡ Err w
          → IsFault text ts (failure_of text w)
      by_format None is e =
          subst (λ v. IsFault text ts (failure_of text v))
          (err_is (record { why = Unexpected; rest = drop 1 ts }) w e) (other_fault text ts is (other text ts is))
      by_format (Some f) is e =
          elim (bind_err (all_at f max_levels ts) (λ items. Ok (record { format = f; items = items })) w e) [
            | inl a ↦ grammar_fault text ts f w.why w.rest is a
            | inr a ↦
                let tree : FileTree = record { format = f; items = a.0 } in
                absurd (let no : ◌≡◌ {A = Result FileTree Failure} (Ok tree) (Err w) = a.2 in cc)
          ]

  -- ---- one tree or one fault

  pub one_tree : (text : List ℕ) (ts : Tokens) (a b : FileTree) → IsTree text ts a → IsTree text ts b → a ≡ b
  one_tree text ts a b p q = ok_is a b (sym (tree_read text ts a p) ∙ tree_read text ts b q)

  pub some_reading : (text : List ℕ) (ts : Tokens) → ((tree : FileTree) × IsTree text ts tree)
      ⊎ ((fault : Fault) × IsFault text ts fault)
  some_reading text ts = by_result (read_at text ts) refl
    where
      by_result : (r : Result FileTree Failure) → read_at text ts ≡ r
          → ((tree : FileTree) × IsTree text ts tree) ⊎ ((fault : Fault) × IsFault text ts fault)
      by_result (Ok tree) e = inl (tree, reads_tree text ts tree e)
      by_result (Err w) e = inr (failure_of text w, reads_fault text ts w e)

  -- more tokens that begin a file
  begins_less : (f : Format) (u v : Tokens) → BeginsFile f (u ++ v) → BeginsFile f u
  begins_less f u v h = let b = h.1 in (
    h.0,
    record {
      rest = v ++ b.rest;
      value = b.value;
      means =
          subst (λ (r : Tokens). (file f h.0).whole r b.value) (append_assoc u v b.rest) b.means;
    },
  )

  -- a fault is behind the longest front that is as it should be
  abbrev Ends : List ℕ → Tokens → Tokens → Type 0
  Ends text front rest = (w more : Tokens) (f : Format) → rest ≡ w ++ more → IsFormat text (front ++ w) f
      → BeginsFile f (front ++ w) → (file f max_levels).front (front ++ w) → w ≡ []

  -- the format of the tokens up to the next one
  up_to : (text : List ℕ) (front w : Tokens) (t : Token) (f : Format) → IsFormat text (front ++ t ∷ w) f
      → Before text f (front ++ t ∷ [])
  up_to text front w t f is = before text (front ++ t ∷ []) w f
      (subst (λ (r : Tokens). IsFormat text r f) (sym (append_assoc front (t ∷ []) w)) is)

  unexpected_ends : (text : List ℕ) (front rest : Tokens) → IsUnexpected text front rest → Ends text front rest
  unexpected_ends text front rest h [] more f e is b i = refl
  unexpected_ends text front [] h (t ∷ w) more f e is b i = absurd cc
  unexpected_ends text front (r ∷ rest) h (t ∷ w) more f e is b i =
      let same : r ≡ t = cc in
      let p = up_to text front w t f is in
      let begun : BeginsFile f (front ++ t ∷ []) = begins_less f (front ++ t ∷ []) w
      (subst (BeginsFile f) (sym (append_assoc front (t ∷ []) w)) b) in
      absurd (subst (λ (u : Token). IsUnexpected text front (u ∷ rest)) same h p.format p.is_format (p.begins begun))

  deep_ends : (text : List ℕ) (front rest : Tokens) → IsTooDeep text front rest → Ends text front rest
  deep_ends text front rest h [] more f e is b i = refl
  deep_ends text front [] h (t ∷ w) more f e is b i = absurd h
  deep_ends text front (r ∷ rest) h (t ∷ w) more f e is b i =
      let same : r ≡ t = cc in
      let p = up_to text front w t f is in
      let d : IsTooDeep text front (t ∷ rest) = subst (λ (u : Token). IsTooDeep text front (u ∷ rest)) same h in
      let within : (file f max_levels).front (front ++ t ∷ []) = (file_good terms f max_levels).closed
      (front ++ t ∷ []) w (subst (file f max_levels).front (sym (append_assoc front (t ∷ []) w)) i) in
      absurd (d.3 (subst (λ (k : Format). (file k max_levels).front (front ++ t ∷ []))
      (some_is p.format d.0 (sym p.is_format ∙ d.1)) (p.within within)))

  ends : (text : List ℕ) (ts : Tokens) (f : Fault) (p : IsFault text ts f) → Ends text p.front p.rest
  ends text ts f p = elim p.cause [
    | inl a ↦ unexpected_ends text p.front p.rest a.1
    | inr b ↦
        deep_ends text p.front p.rest b.1
  ]

  one_front : (text : List ℕ) (ts : Tokens) (f g : Fault) (p : IsFault text ts f) (q : IsFault text ts g) → p.front
      ≡ q.front
  one_front text ts f g p q = elim (cut p.front p.rest q.front q.rest (sym p.parts ∙ q.parts)) [
    | inl c ↦
        let e : q.rest ≡ c.0 ++ p.rest =
        append_cancel_left q.front q.rest (c.0 ++ p.rest)
        (sym q.parts ∙ p.parts ∙ ap (λ (r : Tokens). r ++ p.rest) c.1 ∙ append_assoc q.front c.0 p.rest) in
        let none = ends text ts g q c.0 p.rest p.format e
        (subst (λ (r : Tokens). IsFormat text r p.format) c.1 p.is_format) (subst (BeginsFile p.format) c.1 p.begins)
        (subst (file p.format max_levels).front c.1 p.within) in
        c.1 ∙ ap (λ (r : Tokens). q.front ++ r) none ∙ append-nil q.front
    | inr c ↦
        let none = ends text ts f p c.0 q.rest q.format c.2
        (subst (λ (r : Tokens). IsFormat text r q.format) c.1 q.is_format) (subst (BeginsFile q.format) c.1 q.begins)
        (subst (file q.format max_levels).front c.1 q.within) in
        sym (c.1 ∙ ap (λ (r : Tokens). p.front ++ r) none ∙ append-nil p.front)
  ]

  one_rest : (text : List ℕ) (ts : Tokens) (f g : Fault) (p : IsFault text ts f) (q : IsFault text ts g)
      → p.rest ≡ q.rest
  one_rest text ts f g p q =
      append_cancel_left p.front p.rest q.rest (sym p.parts ∙ q.parts
      ∙ ap (λ (r : Tokens). r ++ q.rest) (sym (one_front text ts f g p q)))

  both_wrong : (text : List ℕ) (front rest : Tokens) → IsUnexpected text front rest → IsTooDeep text front rest → ⊥
  both_wrong text front [] r d = d
  both_wrong text front (t ∷ rest) r d = r d.0 d.1 d.2

  same_fault : (f g : Fault) → f.code ≡ g.code → f.at ≡ g.at → f ≡ g
  same_fault f g code at = λ i. record { code = code i; at = at i }

  pub one_fault : (text : List ℕ) (ts : Tokens) (f g : Fault) → IsFault text ts f → IsFault text ts g → f ≡ g
  one_fault text ts f g p q =
      let fronts = one_front text ts f g p q in
      let rests = one_rest text ts f g p q in
      let at : f.at ≡ g.at = p.place ∙ ap (place_at text) rests ∙ sym q.place in
      let clash : (u v : Tokens) (r s : Tokens) → u ≡ v → r ≡ s → IsUnexpected text u r → IsTooDeep text v s
      → ⊥ = λ u v r s e e' a b. both_wrong text u r a
      (subst (λ (w : Tokens). IsTooDeep text u w) (sym e') (subst (λ (w : Tokens). IsTooDeep text w s) (sym e) b)) in
      elim p.cause [
        | inl a ↦ elim q.cause [
          | inl b ↦ same_fault f g (a.0 ∙ sym b.0) at
          | inr b ↦ absurd (clash p.front q.front p.rest q.rest fronts rests a.1 b.1)
        ]
        | inr a ↦ elim q.cause [
          | inl b ↦ absurd (clash q.front p.front q.rest p.rest (sym fronts) (sym rests) b.1 a.1)
          | inr b ↦ same_fault f g (a.0 ∙ sym b.0) at
        ]
      ]

  -- a whole file has no fault
  pub not_both : (text : List ℕ) (ts : Tokens) (tree : FileTree) (f : Fault) → IsTree text ts tree
      → IsFault text ts f → ⊥
  not_both text ts tree f t p =
      let none : p.rest ≡ [] =
      ends text ts f p p.rest [] tree.format (sym (append-nil p.rest))
      (subst (λ (r : Tokens). IsFormat text r tree.format) p.parts t.0) (
        max_levels,
        subst (Begins (file tree.format max_levels).whole) p.parts
            (record { rest = []; value = tree.items; means = rw append-nil t.1 }),
      )
      (subst (file tree.format max_levels).front p.parts
      ((file_good terms tree.format max_levels).fronts.whole ts tree.items t.1)) in
      let all : ts ≡ p.front = p.parts ∙ ap (λ (r : Tokens). p.front ++ r) none ∙ append-nil p.front in
      elim p.cause [
        | inl a ↦ subst (IsUnexpected text p.front) none a.1 tree.format
            (subst (λ (r : Tokens). IsFormat text r tree.format) all t.0)
            (max_levels, tree.items, subst (λ (r : Tokens). (file tree.format max_levels).whole r tree.items) all t.1)
        | inr b ↦ subst (IsTooDeep text p.front) none b.1
      ]

  -- ---- what the parser answers

  pub stop_fault : (text : List ℕ) (ts : Tokens) (s : Stop) → Stops (refused.For s) (read_at text ts)
      → IsFault text ts (fault_of text s)
  stop_fault text ts (stops.Unexpected rest) e = reads_fault text ts (record { why = Unexpected; rest = rest.now }) e
  stop_fault text ts (stops.TooDeep rest) e = reads_fault text ts (record { why = TooDeep; rest = rest.now }) e

-- ---- the place of a fault

first_within : (text : List ℕ) (front rest : Tokens) → AllByRecursion (EndsBy (length text)) (front ++ rest)
    → place_at text rest ≤ length text
first_within text [] [] h = omega arith
first_within text [] (t ∷ rest) h = omega (arith, h.0.0, h.0.1)
first_within text (u ∷ front) rest h = first_within text front rest h.1

pub stands : (text : List ℕ) (ts : Tokens) (f : Fault) → AllByRecursion (EndsBy (length text)) ts → IsFault text ts f
    → f.at ≤ length text
stands text ts f h p = rw p.place (first_within text p.front p.rest
    (subst (AllByRecursion (EndsBy (length text))) p.parts h))

pub within_text : ((n : ℕ) → TermsStand n) → (text : List ℕ) (ts : Tokens) (tree : FileTree) → IsTree text ts tree
    → AllByRecursion (EndsBy (length text)) ts → TreeWithin (length text) tree
within_text terms text ts tree h all = tree_within (length text) (terms (length text)) max_levels ts tree h.1 all

pub shaped_text : TermsNest → ((n : ℕ) (e : ExprTree) → ExprNests n e → ExprNests (suc n) e)
    → ((n : ℕ) (es : ExprTrees) → ExprsNest n es → ExprsNest (suc n) es)
    → (text : List ℕ) (ts : Tokens) (tree : FileTree) → IsTree text ts tree → IsShaped tree
shaped_text terms expr_more exprs_more text ts tree h = is_shaped terms expr_more exprs_more ts tree h.1

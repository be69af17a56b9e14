-- The theorem on whole lists of tokens, whatever the number behind `rml`.
use Rattle.std.proofs.Common.{
  ◌≡◌,
  ℕ,
  zero,
  suc,
  ◌+◌,
  ◌≤◌,
  true,
  false,
  cond,
  ◌⊎◌,
  inl,
  inr,
  List,
  [],
  ◌∷◌,
  ◌++◌,
  length,
  Result,
  Ok,
  Err,
  refl,
  sym,
  ap,
  subst,
  ◌∙◌,
  append_assoc,
  arith,
}
use Rattle.std.proofs.lemmas.List.{append-nil, append_cancel_right}
use Rattle.rml_lex.specs.declared.token.Token.{Token}
use Rattle.rml_phrases.specs.Language.{Tokens}
use Rattle.rml_syntax.specs.declared.tree.Format.{Format}
use Rattle.rml_syntax.specs.Tree.{ItemTree}
use Rattle.rml_syntax.specs.Grammar.{file}
use Rattle.rml_phrases.specs.Language.{Begins}
use Rattle.rml_syntax.specs.Faults.{BeginsFile, IsFile}
use Rattle.rml_phrases.specs.Reading.{Unexpected, TooDeep, Failure, fails}
use Rattle.rml_syntax.specs.Reading.{inners, items_at, is_end, all_at}
use Rattle.rml_phrases.proofs.Exact.{bind_ok, bind_err, chosen, ok_is, err_is, Begins-from}
use Rattle.rml_phrases.specs.Good.{head}
use Rattle.rml_phrases.specs.Good.{Deepens}
use Rattle.rml_phrases.proofs.Levels.{not_deep, bind_same}
use Rattle.rml_phrases.specs.Good.{rest_of}
use Rattle.rml_terms.specs.Laws.{AreRead}
use Rattle.rml_syntax.proofs.Grammar.{file_good}

module _ (f : Format) where
  -- with the next token these begin no file
  abbrev pub IsRefused : Tokens → Tokens → Type 0
  IsRefused front [] = IsFile f front → ⊥
  IsRefused front (token ∷ rest) = BeginsFile f (front ++ token ∷ []) → ⊥

  -- the next token goes on, but opens one level too many
  abbrev pub OpensTooMany : ℕ → Tokens → Tokens → Type 0
  OpensTooMany levels front [] = ⊥
  OpensTooMany levels front (token ∷ rest) = BeginsFile f (front ++ token ∷ [])
      × ((file f levels).front (front ++ token ∷ []) → ⊥)

  pub record StopsAt (levels : ℕ) (tokens rest : Tokens) (IsWrong : Tokens → Type 0) : Type 0 where
    pub front : Tokens
    pub parts : tokens ≡ front ++ rest
    pub begins : BeginsFile f front
    pub within : (file f levels).front front
    pub wrong : IsWrong front

abbrev ended : List ItemTree × Tokens → Result (List ItemTree) Failure
ended x = cond (is_end x.1) (Ok x.0) (fails Unexpected x.1)

none_left : (us : Tokens) → (is_end us) ≡ true → us ≡ []
none_left [] e = refl
none_left (u ∷ us) e = absurd cc

left_over : (us vs : Tokens) → (is_end us) ≡ false → head us ≡ head vs → (is_end vs) ≡ false
left_over [] vs e same = absurd cc
left_over (u ∷ us) [] e same = absurd cc
left_over (u ∷ us) (v ∷ vs) e same = refl

module _ (f : Format) (terms : AreRead) where
  pub all_found : (n : ℕ) (ts : Tokens) (tree : List ItemTree) → all_at f n ts ≡ Ok tree → (file f n).whole ts tree
  unfolding all_at
  all_found n ts tree e =
      let a = bind_ok (items_at f (inners n) ts) ended tree e in
      elim (chosen (is_end a.0.1) (Ok a.0.0) (fails Unexpected a.0.1) (Ok tree) a.2) [
        | inl h ↦
            let s = (file_good terms f n).exact.sound ts a.0 a.1 in
            let whole : ts ≡ s.front = s.parts ∙ ap (λ (r : Tokens). s.front ++ r) (none_left a.0.1 h.0)
            ∙ append-nil s.front in
            subst (λ (t : List ItemTree). (file f n).whole ts t) (ok_is a.0.0 tree h.1)
            (subst (λ (r : Tokens). (file f n).whole r a.0.0) (sym whole) s.means)
        | inr h ↦ absurd cc
      ]

  pub all_only : (n : ℕ) (ts : Tokens) (tree : List ItemTree) → (file f n).whole ts tree → all_at f n ts ≡ Ok tree
  unfolding all_at
  all_only n ts tree h =
      let one = (file_good terms f n).exact.complete ts [] tree h refl in
      let two : items_at f (inners n) ts ≡ Ok (tree, []) = ap (items_at f (inners n)) (sym (append-nil ts)) ∙ one in
      rw two refl

  record Halts (n : ℕ) (ts : Tokens) (w : Failure) : Type 0 where
    front : Tokens
    parts : ts ≡ front ++ w.rest
    begins : BeginsFile f front
    within : (file f n).front front
    again : (vs : Tokens) → head w.rest ≡ head vs → all_at f n (front ++ vs) ≡ fails w.why vs

  over_again : (n : ℕ) (ts vs us : Tokens) (x : List ItemTree) → items_at f (inners n) (ts ++ vs) ≡ Ok (x, vs)
      → (is_end us) ≡ false → head us ≡ head vs → all_at f n (ts ++ vs) ≡ fails Unexpected vs
  unfolding all_at
  over_again n ts vs us x e over same = rw (e, left_over us vs over same) refl

  halts : (n : ℕ) (ts : Tokens) (w : Failure) → all_at f n ts ≡ Err w → Halts n ts w
  unfolding all_at
  halts n ts w e =
      let good = file_good terms f n in
      elim (bind_err (items_at f (inners n) ts) ended w e) [
        | inl a ↦
            let s = good.exact.stuck ts w a in
            let v = good.grows.viable ts w a in
            let same : v.front ≡ s.front = append_cancel_right v.front s.front w.rest (sym v.parts ∙ s.parts) in
            record {
              front = s.front;
              parts = s.parts;
              begins = (
                suc n,
                subst (Begins (file f (suc n)).whole) same
                    (Begins-from (file f (suc n)).whole v.front good.some v.begins),
              );
              within = good.fronts.within s.front w (subst (λ (r : Tokens). items_at f (inners n) r ≡ Err w) s.parts a);
              again = λ vs same. rw (s.again vs same) refl;
            }
        | inr a ↦ elim (chosen (is_end a.0.1) (Ok a.0.0) (fails Unexpected a.0.1) (Err w) a.2) [
          | inl h ↦ absurd cc
          | inr h ↦
              let s = good.exact.sound ts a.0 a.1 in
              subst (λ g. Halts n ts g) (err_is (record { why = Unexpected; rest = a.0.1 }) w h.1) (record {
                front = s.front;
                parts = s.parts;
                begins = (n, record { rest = []; value = a.0.0; means = rw (append-nil s.front) s.means });
                within = good.fronts.whole s.front a.0.0 s.means;
                again = λ vs same. over_again n s.front vs a.0.1 a.0.0 (s.again vs same) h.0 same;
              })
        ]
      ]

  -- ---- any number of levels

  -- n, and k more
  abbrev more : ℕ → ℕ → ℕ
  more zero n = n
  more (suc k) n = suc (more k n)

  more_is : (k n : ℕ) → more k n ≡ k + n
  more_is zero n = omega arith
  more_is (suc k) n = omega (arith, more_is k n)

  all_same : (n : ℕ) (ts : Tokens) → (all_at f n ts ≡ all_at f (suc n) ts) ⊎ Deepens (all_at f n ts)
  unfolding all_at
  all_same n ts = bind_same (items_at f (inners n) ts) (items_at f (inners (suc n)) ts) ended ended
      ((file_good terms f n).grows.same ts) (λ x. inl refl)

  stays_ok : (k n : ℕ) (ts : Tokens) (tree : List ItemTree) → all_at f n ts ≡ Ok tree → all_at f (more k n) ts ≡ Ok tree
  stays_ok zero n ts tree e = e
  stays_ok (suc k) n ts tree e =
      let so_far = stays_ok k n ts tree e in
      elim (all_same (more k n) ts) [
        | inl h ↦ sym h ∙ so_far
        | inr d ↦
            absurd (let no : ◌≡◌ {A = Result (List ItemTree) Failure} (Ok tree) (fails TooDeep d.0) = sym so_far
            ∙ d.1 in cc)
      ]

  stays_unexpected : (k n : ℕ) (ts at : Tokens) → all_at f n ts ≡ fails Unexpected at → all_at f (more k n) ts
      ≡ fails Unexpected at
  stays_unexpected zero n ts at e = e
  stays_unexpected (suc k) n ts at e =
      let so_far = stays_unexpected k n ts at e in
      elim (all_same (more k n) ts) [
        | inl h ↦ sym h ∙ so_far
        | inr d ↦
            absurd (not_deep {A = List ItemTree} at d.0 (sym so_far ∙ d.1))
      ]

  -- what is unexpected at some level is no phrase of any
  never : (n levels : ℕ) (ts at : Tokens) (tree : List ItemTree) → all_at f n ts ≡ fails Unexpected at
      → (file f levels).whole ts tree → ⊥
  never n levels ts at tree e h =
      let one = stays_unexpected levels n ts at e in
      let two = stays_ok n levels ts tree (all_only levels ts tree h) in
      let same : more n levels ≡ more levels n = omega (arith, more_is n levels, more_is levels n) in
      let no : ◌≡◌ {A = Result (List ItemTree) Failure} (fails Unexpected at) (Ok tree) = sym one
      ∙ ap (λ k. all_at f k ts) (sym same) ∙ two in
      absurd cc

  refused : (n : ℕ) (front at : Tokens) → ((vs : Tokens) → head at ≡ head vs → all_at f n (front ++ vs)
      ≡ fails Unexpected vs) → IsRefused f front at
  refused n front [] again =
      λ h. never n h.0 front [] h.1 (ap (all_at f n) (sym (append-nil front)) ∙ again [] refl) h.2
  refused n front (t ∷ rest) again = λ h.
      let b = h.1 in
      never n h.0 (front ++ (t ∷ b.rest)) (t ∷ b.rest) b.value (again (t ∷ b.rest) refl)
      (subst (λ (r : Tokens). (file f h.0).whole r b.value) (append_assoc front (t ∷ []) b.rest) b.means)

  pub unexpected : (n : ℕ) (ts at : Tokens) → all_at f n ts ≡ fails Unexpected at
      → StopsAt f n ts at (λ front. IsRefused f front at)
  unexpected n ts at e =
      let s = halts n ts (record { why = Unexpected; rest = at }) e in
      record {
        front = s.front;
        parts = s.parts;
        begins = s.begins;
        within = s.within;
        wrong =
            refused n s.front at s.again;
      }

  -- ---- one level too many

  deep_below : (n : ℕ) (ts at : Tokens) → all_at f n ts ≡ fails TooDeep at → items_at f (inners n) ts ≡ fails TooDeep at
  unfolding all_at
  deep_below n ts at e =
      elim (bind_err (items_at f (inners n) ts) ended (record { why = TooDeep; rest = at }) e) [
        | inl a ↦ a
        | inr a ↦ elim (chosen (is_end a.0.1) (Ok a.0.0) (fails Unexpected a.0.1) (fails TooDeep at) a.2)
            [ inl h ↦ absurd cc | inr h ↦ absurd (not_deep {A = List ItemTree} a.0.1 at h.1) ]
      ]

  -- a reader does not stop inside what may begin a file
  not_within : (n : ℕ) (front : Tokens) (t : Token) (rest : Tokens) → items_at f (inners n) (front ++ t ∷ rest)
      ≡ fails TooDeep (t ∷ rest) → (file f n).front (front ++ t ∷ []) → ⊥
  not_within n front t rest e h =
      let k : length (rest_of (items_at f (inners n) ((front ++ t ∷ []) ++ rest))) ≤ length rest =
      (file_good terms f n).fronts.keeps (front ++ t ∷ []) rest h in
      let e' : items_at f (inners n) ((front ++ t ∷ []) ++ rest)
      ≡ fails TooDeep (t ∷ rest) = ap (items_at f (inners n)) (append_assoc front (t ∷ []) rest) ∙ e in
      let k' : length (t ∷ rest) ≤ length rest = subst (λ r. length (rest_of r) ≤ length rest) e' k in
      omega arith

  too_deep : (n : ℕ) (front at : Tokens) (token : Token) (after : Tokens) → at ≡ token ∷ after
      → items_at f (inners n) (front ++ at) ≡ fails TooDeep at → Begins (file f (suc n)).whole (front ++ token ∷ [])
      → OpensTooMany f n front at
  too_deep n front [] token after e stop opens = absurd cc
  too_deep n front (t ∷ rest) token after e stop opens =
      let same : token ≡ t = cc in (
        (suc n, subst (λ (u : Token). Begins (file f (suc n)).whole (front ++ u ∷ [])) same opens),
        not_within n front t
            rest stop,
      )

  pub deep : (n : ℕ) (ts at : Tokens) → all_at f n ts ≡ fails TooDeep at
      → StopsAt f n ts at (λ front. OpensTooMany f n front at)
  deep n ts at e =
      let s = halts n ts (record { why = TooDeep; rest = at }) e in
      let below = deep_below n ts at e in
      let o = (file_good terms f n).grows.opens ts at below in
      let same : o.front ≡ s.front = append_cancel_right o.front s.front at (sym o.parts ∙ s.parts) in
      record {
        front = s.front;
        parts = s.parts;
        begins = s.begins;
        within = s.within;
        wrong =
            too_deep n s.front at o.token o.after o.here
            (subst (λ (r : Tokens). items_at f (inners n) r ≡ fails TooDeep at) s.parts below)
            (subst (λ (r : Tokens). Begins (file f (suc n)).whole (r ++ o.token ∷ [])) same o.goes_on);
      }

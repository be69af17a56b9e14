-- Shapes that == finds the same are the same.
use Rattle.std.proofs.Common.{◌≡◌, ℕ, Bool, true, refl, ap}
use Rattle.std.proofs.lemmas.Bool.{and_parts, and_from, eqb-true, eq-eqb}
use Rattle.std.specs.Prelude.{false, ◌==◌, ◌&&◌}
use Rattle.fol_sig.specs.declared.RelId.{RelId}
use Rattle.fol_sig.specs.declared.FunId.{FunId}
use Rattle.fol_sig.specs.declared.Sort.{Sort}
use Rattle.fol_pool.specs.declared.shape.Node.{Node}
use Rattle.fol_pool.specs.declared.shape.Shape.{Shape}
use Rattle.fol_pool.specs.declared.shape.Shape.TheVariants as shape
use Rattle.fol_pool.specs.contracts.shape.ShapePartialEq.TheImpl as shape_eq

abbrev pub equal : Shape → Shape → Bool
equal = (shape_eq.ghosts).eq

-- shapes of two kinds are not
no : {A : Type 0} → false ≡ true → A
no h = absurd (cc h)

a_node : (a b : Node) → (a.0 == b.0) ≡ true → a ≡ b
a_node a b h = ap (λ (n : ℕ). let node : Node = record { 0 = n } in node) (eqb-true a.0 b.0 h)

a_relation : (a b : RelId) → (a.0 == b.0) ≡ true → a ≡ b
a_relation a b h = ap (λ (n : ℕ). let r : RelId = record { 0 = n } in r) (eqb-true a.0 b.0 h)

a_function : (a b : FunId) → (a.0 == b.0) ≡ true → a ≡ b
a_function a b h = ap (λ (n : ℕ). let f : FunId = record { 0 = n } in f) (eqb-true a.0 b.0 h)

a_sort : (a b : Sort) → (a.0 == b.0) ≡ true → a ≡ b
a_sort a b h = ap (λ (n : ℕ). let k : Sort = record { 0 = n } in k) (eqb-true a.0 b.0 h)

self : (n : ℕ) → (n == n) ≡ true
self n = eq-eqb n n refl

-- shapes of two parts, and of three
two : {A B : Type 0} (f : A → B → Shape) (a x : A) (b y : B) (s t : Bool) → (s ≡ true → a ≡ x) → (t ≡ true → b ≡ y)
    → (s && t) ≡ true → f a b ≡ f x y
two f a x b y s t p q h = (λ i. f (p (and_parts s t h).0 i) (q (and_parts s t h).1 i))

three : (a x b y c z : Node) (s t u : Bool) → (s ≡ true → a ≡ x) → (t ≡ true → b ≡ y) → (u ≡ true → c ≡ z)
    → (s && (t && u)) ≡ true → shape.Ite a b c ≡ shape.Ite x y z
three a x b y c z s t u p q r h =
    let front = and_parts s (t && u) h in
    let rest = and_parts t u front.1 in
    (λ i. shape.Ite (p front.0 i) (q rest.0 i) (r rest.1 i))

pub same : (s t : Shape) → equal s t ≡ true → s ≡ t
same shape.True t =
    elim t as (λ t. equal shape.True t ≡ true → shape.True ≡ t) [
      | shape.True ↦ λ h. refl
      | shape.False ↦ λ h. no h
      | shape.Rel x y ↦ λ h. no h
      | shape.Eq x y ↦ λ h. no h
      | shape.Not x ↦ λ h. no h
      | shape.And x ↦ λ h. no h
      | shape.Or x ↦ λ h. no h
      | shape.Implies x y ↦ λ h. no h
      | shape.Iff x y ↦ λ h. no h
      | shape.Forall x y ↦ λ h. no h
      | shape.Exists x y ↦ λ h. no h
      | shape.NoForms
          ↦ λ h. no h
      | shape.FormThen x y ↦ λ h. no h
      | shape.Bound x ↦ λ h. no h
      | shape.App x y ↦ λ h. no h
      | shape.Ite x y z ↦ λ h. no h
      | shape.NoTerms ↦ λ h. no h
      | shape.TermThen x y ↦ λ h. no h
    ]
same shape.False t =
    elim t as (λ t. equal shape.False t ≡ true → shape.False ≡ t) [
      | shape.True ↦ λ h. no h
      | shape.False ↦ λ h. refl
      | shape.Rel x y ↦ λ h. no h
      | shape.Eq x y ↦ λ h. no h
      | shape.Not x ↦ λ h. no h
      | shape.And x ↦ λ h. no h
      | shape.Or x ↦ λ h. no h
      | shape.Implies x y ↦ λ h. no h
      | shape.Iff x y ↦ λ h. no h
      | shape.Forall x y ↦ λ h. no h
      | shape.Exists x y ↦ λ h. no h
      | shape.NoForms
          ↦ λ h. no h
      | shape.FormThen x y ↦ λ h. no h
      | shape.Bound x ↦ λ h. no h
      | shape.App x y ↦ λ h. no h
      | shape.Ite x y z ↦ λ h. no h
      | shape.NoTerms ↦ λ h. no h
      | shape.TermThen x y ↦ λ h. no h
    ]
same (shape.Rel a b) t =
    elim t as (λ t. equal (shape.Rel a b) t ≡ true → shape.Rel a b ≡ t) [
      | shape.True ↦ λ h. no h
      | shape.False ↦ λ h. no h
      | shape.Rel x y ↦ two shape.Rel a x b y _ _ (a_relation a
          x) (a_node b y)
      | shape.Eq x y ↦ λ h. no h
      | shape.Not x ↦ λ h. no h
      | shape.And x ↦ λ h. no h
      | shape.Or
          x ↦ λ h. no h
      | shape.Implies x y ↦ λ h. no h
      | shape.Iff x y ↦ λ h. no h
      | shape.Forall x y ↦ λ h. no h
      | shape.Exists x y ↦ λ h. no h
      | shape.NoForms ↦ λ h. no h
      | shape.FormThen x y ↦ λ h. no h
      | shape.Bound x
          ↦ λ h. no h
      | shape.App x y ↦ λ h. no h
      | shape.Ite x y z ↦ λ h. no h
      | shape.NoTerms ↦ λ h. no h
      | shape.TermThen x y ↦ λ h. no h
    ]
same (shape.Eq a b) t =
    elim t as (λ t. equal (shape.Eq a b) t ≡ true → shape.Eq a b ≡ t) [
      | shape.True ↦ λ h. no h
      | shape.False ↦ λ h. no h
      | shape.Rel x y ↦ λ h. no h
      | shape.Eq x y ↦ two shape.Eq
          a x b y _ _ (a_node a x) (a_node b y)
      | shape.Not x ↦ λ h. no h
      | shape.And x ↦ λ h. no h
      | shape.Or x ↦ λ
          h. no h
      | shape.Implies x y ↦ λ h. no h
      | shape.Iff x y ↦ λ h. no h
      | shape.Forall x y ↦ λ h. no h
      | shape.Exists x y ↦ λ h. no h
      | shape.NoForms ↦ λ h. no h
      | shape.FormThen x y ↦ λ h. no h
      | shape.Bound x
          ↦ λ h. no h
      | shape.App x y ↦ λ h. no h
      | shape.Ite x y z ↦ λ h. no h
      | shape.NoTerms ↦ λ h. no h
      | shape.TermThen x y ↦ λ h. no h
    ]
same (shape.Not a) t =
    elim t as (λ t. equal (shape.Not a) t ≡ true → shape.Not a ≡ t) [
      | shape.True ↦ λ h. no h
      | shape.False ↦ λ h. no h
      | shape.Rel x y ↦ λ h. no h
      | shape.Eq x y ↦ λ h. no h
      | shape.Not x ↦ λ h. ap shape.Not (a_node a x h)
      | shape.And x ↦ λ h. no h
      | shape.Or x ↦ λ h. no h
      | shape.Implies x y ↦ λ h. no h
      | shape.Iff x y ↦ λ h. no h
      | shape.Forall x y ↦ λ h. no h
      | shape.Exists x
          y ↦ λ h. no h
      | shape.NoForms ↦ λ h. no h
      | shape.FormThen x y ↦ λ h. no h
      | shape.Bound x ↦ λ h. no h
      | shape.App x y ↦ λ h. no h
      | shape.Ite x y z ↦ λ h. no h
      | shape.NoTerms ↦ λ h. no h
      | shape.TermThen x y ↦
          λ h. no h
    ]
same (shape.And a) t =
    elim t as (λ t. equal (shape.And a) t ≡ true → shape.And a ≡ t) [
      | shape.True ↦ λ h. no h
      | shape.False ↦ λ h. no h
      | shape.Rel x y ↦ λ h. no h
      | shape.Eq x y ↦ λ h. no h
      | shape.Not x ↦ λ h. no h
      | shape.And x ↦ λ h. ap shape.And (a_node a x h)
      | shape.Or x ↦ λ h. no h
      | shape.Implies x y ↦ λ h. no h
      | shape.Iff x y ↦ λ h. no h
      | shape.Forall x y ↦ λ h. no h
      | shape.Exists x
          y ↦ λ h. no h
      | shape.NoForms ↦ λ h. no h
      | shape.FormThen x y ↦ λ h. no h
      | shape.Bound x ↦ λ h. no h
      | shape.App x y ↦ λ h. no h
      | shape.Ite x y z ↦ λ h. no h
      | shape.NoTerms ↦ λ h. no h
      | shape.TermThen x y ↦
          λ h. no h
    ]
same (shape.Or a) t =
    elim t as (λ t. equal (shape.Or a) t ≡ true → shape.Or a ≡ t) [
      | shape.True ↦ λ h. no h
      | shape.False ↦ λ h. no h
      | shape.Rel x y ↦ λ h. no h
      | shape.Eq x y ↦ λ h. no h
      | shape.Not x ↦ λ h. no h
      | shape.And x ↦ λ h. no h
      | shape.Or x ↦ λ h. ap shape.Or (a_node a x h)
      | shape.Implies x y ↦ λ h. no h
      | shape.Iff x y ↦ λ h. no h
      | shape.Forall x y ↦ λ h. no h
      | shape.Exists x
          y ↦ λ h. no h
      | shape.NoForms ↦ λ h. no h
      | shape.FormThen x y ↦ λ h. no h
      | shape.Bound x ↦ λ h. no h
      | shape.App x y ↦ λ h. no h
      | shape.Ite x y z ↦ λ h. no h
      | shape.NoTerms ↦ λ h. no h
      | shape.TermThen x y ↦
          λ h. no h
    ]
same (shape.Implies a b) t =
    elim t as (λ t. equal (shape.Implies a b) t ≡ true → shape.Implies a b ≡ t) [
      | shape.True ↦ λ h. no h
      | shape.False ↦ λ h. no h
      | shape.Rel x y ↦ λ h. no h
      | shape.Eq x y ↦ λ h. no h
      | shape.Not x ↦ λ h. no h
      | shape.And x ↦ λ h. no h
      | shape.Or x ↦ λ h. no h
      | shape.Implies x y ↦ two
          shape.Implies a x b y _ _ (a_node a x) (a_node b y)
      | shape.Iff x y ↦ λ h. no h
      | shape.Forall x y ↦ λ h.
          no h
      | shape.Exists x y ↦ λ h. no h
      | shape.NoForms ↦ λ h. no h
      | shape.FormThen x y ↦ λ h. no h
      | shape.Bound x ↦ λ h. no h
      | shape.App x y ↦ λ h. no h
      | shape.Ite x y z ↦ λ h. no h
      | shape.NoTerms ↦ λ h.
          no h
      | shape.TermThen x y ↦ λ h. no h
    ]
same (shape.Iff a b) t =
    elim t as (λ t. equal (shape.Iff a b) t ≡ true → shape.Iff a b ≡ t) [
      | shape.True ↦ λ h. no h
      | shape.False ↦ λ h. no h
      | shape.Rel x y ↦ λ h. no h
      | shape.Eq x y ↦ λ h. no h
      | shape.Not x ↦ λ h. no h
      | shape.And x ↦ λ h. no h
      | shape.Or x ↦ λ h. no h
      | shape.Implies x y ↦ λ h. no h
      | shape.Iff x y ↦ two shape.Iff a x b y _ _ (a_node a x) (a_node b y)
      | shape.Forall x y ↦ λ h. no h
      | shape.Exists x y ↦ λ h. no h
      | shape.NoForms ↦ λ h. no h
      | shape.FormThen x y ↦ λ h. no h
      | shape.Bound x
          ↦ λ h. no h
      | shape.App x y ↦ λ h. no h
      | shape.Ite x y z ↦ λ h. no h
      | shape.NoTerms ↦ λ h. no h
      | shape.TermThen x y ↦ λ h. no h
    ]
same (shape.Forall a b) t =
    elim t as (λ t. equal (shape.Forall a b) t ≡ true → shape.Forall a b ≡ t) [
      | shape.True ↦ λ h. no h
      | shape.False ↦ λ h. no h
      | shape.Rel x y ↦ λ h. no h
      | shape.Eq x y ↦ λ h. no h
      | shape.Not x ↦ λ h. no h
      | shape.And x ↦ λ h. no h
      | shape.Or x ↦ λ h. no h
      | shape.Implies x y ↦ λ h. no h
      | shape.Iff x y ↦ λ h. no h
      | shape.Forall x y ↦ two shape.Forall a x b y _ _ (a_sort a x) (a_node b y)
      | shape.Exists x y ↦ λ h. no h
      | shape.NoForms ↦ λ h. no h
      | shape.FormThen x y ↦ λ h. no h
      | shape.Bound x
          ↦ λ h. no h
      | shape.App x y ↦ λ h. no h
      | shape.Ite x y z ↦ λ h. no h
      | shape.NoTerms ↦ λ h. no h
      | shape.TermThen x y ↦ λ h. no h
    ]
same (shape.Exists a b) t =
    elim t as (λ t. equal (shape.Exists a b) t ≡ true → shape.Exists a b ≡ t) [
      | shape.True ↦ λ h. no h
      | shape.False ↦ λ h. no h
      | shape.Rel x y ↦ λ h. no h
      | shape.Eq x y ↦ λ h. no h
      | shape.Not x ↦ λ h. no h
      | shape.And x ↦ λ h. no h
      | shape.Or x ↦ λ h. no h
      | shape.Implies x y ↦ λ h. no h
      | shape.Iff x y ↦ λ h. no h
      | shape.Forall x y ↦ λ h. no h
      | shape.Exists x y ↦ two shape.Exists a x b y _
          _ (a_sort a x) (a_node b y)
      | shape.NoForms ↦ λ h. no h
      | shape.FormThen x y ↦ λ h. no h
      | shape.Bound x ↦
          λ h. no h
      | shape.App x y ↦ λ h. no h
      | shape.Ite x y z ↦ λ h. no h
      | shape.NoTerms ↦ λ h. no h
      | shape.TermThen x y ↦ λ h. no h
    ]
same shape.NoForms t =
    elim t as (λ t. equal shape.NoForms t ≡ true → shape.NoForms ≡ t) [
      | shape.True ↦ λ h. no h
      | shape.False ↦ λ h. no h
      | shape.Rel x y ↦ λ h. no h
      | shape.Eq x y ↦ λ h. no h
      | shape.Not x ↦ λ h. no h
      | shape.And x ↦ λ h. no h
      | shape.Or x ↦ λ h. no h
      | shape.Implies x y ↦ λ h. no h
      | shape.Iff x y ↦ λ h. no h
      | shape.Forall x y ↦ λ h. no h
      | shape.Exists x y ↦ λ h. no h
      | shape.NoForms
          ↦ λ h. refl
      | shape.FormThen x y ↦ λ h. no h
      | shape.Bound x ↦ λ h. no h
      | shape.App x y ↦ λ h. no h
      | shape.Ite x y z ↦ λ h. no h
      | shape.NoTerms ↦ λ h. no h
      | shape.TermThen x y ↦ λ h. no h
    ]
same (shape.FormThen a b) t =
    elim t as (λ t. equal (shape.FormThen a b) t ≡ true → shape.FormThen a b ≡ t) [
      | shape.True ↦ λ h. no h
      | shape.False ↦ λ h. no h
      | shape.Rel x y ↦ λ h. no h
      | shape.Eq x y ↦ λ h. no h
      | shape.Not x ↦ λ h. no h
      | shape.And x ↦ λ h. no h
      | shape.Or x ↦ λ h. no h
      | shape.Implies x y ↦ λ h. no h
      | shape.Iff x y ↦ λ h. no h
      | shape.Forall x y ↦ λ h. no h
      | shape.Exists x y ↦ λ h. no h
      | shape.NoForms
          ↦ λ h. no h
      | shape.FormThen x y ↦ two shape.FormThen a x b y _ _ (a_node a x) (a_node b y)
      | shape.Bound
          x ↦ λ h. no h
      | shape.App x y ↦ λ h. no h
      | shape.Ite x y z ↦ λ h. no h
      | shape.NoTerms ↦ λ h. no h
      | shape.TermThen x y ↦ λ h. no h
    ]
same (shape.Bound a) t =
    elim t as (λ t. equal (shape.Bound a) t ≡ true → shape.Bound a ≡ t) [
      | shape.True ↦ λ h. no h
      | shape.False ↦ λ h. no h
      | shape.Rel x y ↦ λ h. no h
      | shape.Eq x y ↦ λ h. no h
      | shape.Not x ↦ λ h. no h
      | shape.And x ↦ λ h. no h
      | shape.Or x ↦ λ h. no h
      | shape.Implies x y ↦ λ h. no h
      | shape.Iff x y ↦ λ h. no h
      | shape.Forall x y ↦ λ h. no h
      | shape.Exists x y ↦ λ h. no h
      | shape.NoForms
          ↦ λ h. no h
      | shape.FormThen x y ↦ λ h. no h
      | shape.Bound x ↦ λ h. ap shape.Bound (eqb-true a x h)
      | shape.App x y ↦ λ h. no h
      | shape.Ite x y z ↦ λ h. no h
      | shape.NoTerms ↦ λ h. no h
      | shape.TermThen x y ↦
          λ h. no h
    ]
same (shape.App a b) t =
    elim t as (λ t. equal (shape.App a b) t ≡ true → shape.App a b ≡ t) [
      | shape.True ↦ λ h. no h
      | shape.False ↦ λ h. no h
      | shape.Rel x y ↦ λ h. no h
      | shape.Eq x y ↦ λ h. no h
      | shape.Not x ↦ λ h. no h
      | shape.And x ↦ λ h. no h
      | shape.Or x ↦ λ h. no h
      | shape.Implies x y ↦ λ h. no h
      | shape.Iff x y ↦ λ h. no h
      | shape.Forall x y ↦ λ h. no h
      | shape.Exists x y ↦ λ h. no h
      | shape.NoForms
          ↦ λ h. no h
      | shape.FormThen x y ↦ λ h. no h
      | shape.Bound x ↦ λ h. no h
      | shape.App x y ↦ two shape.App a
          x b y _ _ (a_function a x) (a_node b y)
      | shape.Ite x y z ↦ λ h. no h
      | shape.NoTerms ↦ λ h. no h
      | shape.TermThen x y ↦ λ h. no h
    ]
same (shape.Ite a b c) t =
    elim t as (λ t. equal (shape.Ite a b c) t ≡ true → shape.Ite a b c ≡ t) [
      | shape.True ↦ λ h. no h
      | shape.False ↦ λ h. no h
      | shape.Rel x y ↦ λ h. no h
      | shape.Eq x y ↦ λ h. no h
      | shape.Not x ↦ λ h. no h
      | shape.And x ↦ λ h. no h
      | shape.Or x ↦ λ h. no h
      | shape.Implies x y ↦ λ h. no h
      | shape.Iff x y ↦ λ h. no h
      | shape.Forall x y ↦ λ h. no h
      | shape.Exists x y ↦ λ h. no h
      | shape.NoForms
          ↦ λ h. no h
      | shape.FormThen x y ↦ λ h. no h
      | shape.Bound x ↦ λ h. no h
      | shape.App x y ↦ λ h. no h
      | shape.Ite x y z ↦ λ h. three a x b y c z _ _ _ (a_node a x) (a_node b y) (a_node c z) h
      | shape.NoTerms ↦
          λ h. no h
      | shape.TermThen x y ↦ λ h. no h
    ]
same shape.NoTerms t =
    elim t as (λ t. equal shape.NoTerms t ≡ true → shape.NoTerms ≡ t) [
      | shape.True ↦ λ h. no h
      | shape.False ↦ λ h. no h
      | shape.Rel x y ↦ λ h. no h
      | shape.Eq x y ↦ λ h. no h
      | shape.Not x ↦ λ h. no h
      | shape.And x ↦ λ h. no h
      | shape.Or x ↦ λ h. no h
      | shape.Implies x y ↦ λ h. no h
      | shape.Iff x y ↦ λ h. no h
      | shape.Forall x y ↦ λ h. no h
      | shape.Exists x y ↦ λ h. no h
      | shape.NoForms
          ↦ λ h. no h
      | shape.FormThen x y ↦ λ h. no h
      | shape.Bound x ↦ λ h. no h
      | shape.App x y ↦ λ h. no h
      | shape.Ite x y z ↦ λ h. no h
      | shape.NoTerms ↦ λ h. refl
      | shape.TermThen x y ↦ λ h. no h
    ]
same (shape.TermThen a b) t =
    elim t as (λ t. equal (shape.TermThen a b) t ≡ true → shape.TermThen a b ≡ t) [
      | shape.True ↦ λ h. no h
      | shape.False ↦ λ h. no h
      | shape.Rel x y ↦ λ h. no h
      | shape.Eq x y ↦ λ h. no h
      | shape.Not x ↦ λ h. no h
      | shape.And x ↦ λ h. no h
      | shape.Or x ↦ λ h. no h
      | shape.Implies x y ↦ λ h. no h
      | shape.Iff x y ↦ λ h. no h
      | shape.Forall x y ↦ λ h. no h
      | shape.Exists x y ↦ λ h. no h
      | shape.NoForms
          ↦ λ h. no h
      | shape.FormThen x y ↦ λ h. no h
      | shape.Bound x ↦ λ h. no h
      | shape.App x y ↦ λ h. no h
      | shape.Ite x y z ↦ λ h. no h
      | shape.NoTerms ↦ λ h. no h
      | shape.TermThen x y ↦ two shape.TermThen a x b y
          _ _ (a_node a x) (a_node b y)
    ]

pub equal_self : (s : Shape) → equal s s ≡ true
equal_self shape.True = refl
equal_self shape.False = refl
equal_self (shape.Rel a b) = and_from _ _ (self a.0) (self b.0)
equal_self (shape.Eq a b) = and_from _ _ (self a.0) (self b.0)
equal_self (shape.Not a) = self a.0
equal_self (shape.And a) = self a.0
equal_self (shape.Or a) = self a.0
equal_self (shape.Implies a b) = and_from _ _ (self a.0) (self b.0)
equal_self (shape.Iff a b) = and_from _ _ (self a.0) (self b.0)
equal_self (shape.Forall a b) = and_from _ _ (self a.0) (self b.0)
equal_self (shape.Exists a b) = and_from _ _ (self a.0) (self b.0)
equal_self shape.NoForms = refl
equal_self (shape.FormThen a b) = and_from _ _ (self a.0) (self b.0)
equal_self (shape.Bound a) = self a
equal_self (shape.App a b) = and_from _ _ (self a.0) (self b.0)
equal_self (shape.Ite a b c) = and_from _ _ (self a.0) (and_from _ _ (self b.0) (self c.0))
equal_self shape.NoTerms = refl
equal_self (shape.TermThen a b) = and_from _ _ (self a.0) (self b.0)

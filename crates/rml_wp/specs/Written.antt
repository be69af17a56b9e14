-- Paths whose relation havocs are written out; with laws.
use Rattle.std.specs.Prelude.{◌≡◌, ℕ, suc, ◌+◌, List, [], ◌∷◌, ◌++◌, length, get_or}
use Rattle.std.proofs.Common.{refl, sym, ap, ◌∙◌, arith}
use Rattle.std.proofs.lemmas.List.{length-append}
use Rattle.fol_sig.specs.Tables.{Declared}
use Rattle.fol_sig.specs.Symbols.{Symbols, symbols}
use Rattle.rml_command.specs.Trees.{PrimitiveTree, assume, set_rel, set_fun, havoc, havoc_rel, abort}
use Rattle.rml_command.specs.Fresh.{written, havocked, with_fresh}

-- how many relations a path havocs
abbrev pub relation_havocs : List PrimitiveTree → ℕ
relation_havocs [] = 0
relation_havocs (assume p ∷ qs) = relation_havocs qs
relation_havocs (set_rel r by ∷ qs) = relation_havocs qs
relation_havocs (set_fun f by ∷ qs) = relation_havocs qs
relation_havocs (havoc v ∷ qs) = relation_havocs qs
relation_havocs (havoc_rel r ∷ qs) = suc (relation_havocs qs)
relation_havocs (abort ∷ qs) = relation_havocs qs

-- one primitive, written out with the relation n: the first of the path that has no other
abbrev pub written_step : Symbols → ℕ → PrimitiveTree → PrimitiveTree
written_step sig n q = get_or (written sig n (q ∷ [])) 0 abort

-- the relation that a primitive havocs, if it havocs one
abbrev pub havoc_of : PrimitiveTree → List ℕ
havoc_of (assume p) = []
havoc_of (set_rel r by) = []
havoc_of (set_fun f by) = []
havoc_of (havoc v) = []
havoc_of (havoc_rel r) = r ∷ []
havoc_of abort = []

-- ---- laws

-- a path has a fresh relation for each relation that it havocs
pub havocked_count : (sig : Symbols) (p : List PrimitiveTree) → length (havocked sig p) ≡ relation_havocs p
havocked_count sig [] = refl
havocked_count sig (assume p ∷ qs) = havocked_count sig qs
havocked_count sig (set_rel r by ∷ qs) = havocked_count sig qs
havocked_count sig (set_fun f by ∷ qs) = havocked_count sig qs
havocked_count sig (havoc v ∷ qs) = havocked_count sig qs
havocked_count sig (havoc_rel r ∷ qs) = ap suc (havocked_count sig qs)
havocked_count sig (abort ∷ qs) = havocked_count sig qs

-- so many relations the signature with the fresh ones has
pub first_count : (sig : Declared) (p before : List PrimitiveTree) (count : ℕ) → before ≡ p
    → count ≡ length (with_fresh sig p).relations → count ≡ length sig.relations + relation_havocs before
first_count sig p before count whole is =
    is ∙ length-append sig.relations (havocked (symbols sig) p)
    ∙ ap (λ k. length sig.relations + k) (havocked_count (symbols sig) p)
    ∙ ap (λ z. length sig.relations + relation_havocs z) (sym whole)

-- two paths, one behind the other
pub havocs_append : (a b : List PrimitiveTree) → relation_havocs (a ++ b) ≡ relation_havocs a + relation_havocs b
havocs_append [] b = omega arith
havocs_append (assume p ∷ qs) b = havocs_append qs b
havocs_append (set_rel r by ∷ qs) b = havocs_append qs b
havocs_append (set_fun f by ∷ qs) b = havocs_append qs b
havocs_append (havoc v ∷ qs) b = havocs_append qs b
havocs_append (havoc_rel r ∷ qs) b = let h = havocs_append qs b in omega (arith, h)
havocs_append (abort ∷ qs) b = havocs_append qs b

-- so it is where they are written out
pub written_append : (sig : Symbols) (n : ℕ) (a b : List PrimitiveTree)
    → written sig n (a ++ b) ≡ written sig n a ++ written sig (n + relation_havocs a) b
written_append sig n [] b = let e : n ≡ n + 0 = omega arith in ap (λ k. written sig k b) e
written_append sig n (assume p ∷ qs) b = ap (λ z. assume p ∷ z) (written_append sig n qs b)
written_append sig n (set_rel r by ∷ qs) b = ap (λ z. set_rel r by ∷ z) (written_append sig n qs b)
written_append sig n (set_fun f by ∷ qs) b = ap (λ z. set_fun f by ∷ z) (written_append sig n qs b)
written_append sig n (havoc v ∷ qs) b = ap (λ z. havoc v ∷ z) (written_append sig n qs b)
written_append sig n (havoc_rel r ∷ qs) b =
    let e : suc n + relation_havocs qs ≡ n + suc (relation_havocs qs) = omega arith in
    ap (λ z. written_step sig n (havoc_rel r) ∷ z)
    (written_append sig (suc n) qs b ∙ ap (λ k. written sig (suc n) qs ++ written sig k b) e)
written_append sig n (abort ∷ qs) b = ap (λ z. abort ∷ z) (written_append sig n qs b)

-- one primitive, and a path behind it
pub written_first : (sig : Symbols) (n : ℕ) (q : PrimitiveTree) (qs : List PrimitiveTree)
    → written sig n (q ∷ qs) ≡ written_step sig n q ∷ written sig (n + relation_havocs (q ∷ [])) qs
written_first sig n (assume p) qs = let e : n ≡ n + 0 = omega arith in ap (λ k. assume p ∷ written sig k qs) e
written_first sig n (set_rel r by) qs = let e : n ≡ n + 0 = omega arith in ap (λ k. set_rel r by ∷ written sig k qs) e
written_first sig n (set_fun f by) qs = let e : n ≡ n + 0 = omega arith in ap (λ k. set_fun f by ∷ written sig k qs) e
written_first sig n (havoc v) qs = let e : n ≡ n + 0 = omega arith in ap (λ k. havoc v ∷ written sig k qs) e
written_first sig n (havoc_rel r) qs =
    let e : suc n ≡ n + 1 = omega arith in ap (λ k. written_step sig n (havoc_rel r) ∷ written sig k qs) e
written_first sig n abort qs = let e : n ≡ n + 0 = omega arith in ap (λ k. abort ∷ written sig k qs) e

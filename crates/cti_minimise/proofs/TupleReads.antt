-- Tuples among the elements of a list of bound variables.
use Rattle.std.proofs.Common.{◌≡◌, ℕ, zero, suc, ◌+◌, ◌*◌, List, [], ◌∷◌, length, get_or, refl, ap, ◌∙◌}
use Rattle.std.proofs.Common.{arith}
use Rattle.std.proofs.Math.Nat.{suc-mul}

-- the elements of a tuple that is bound after others, its last element nearest
abbrev pub onto : List ℕ → List ℕ → List ℕ
onto [] env = env
onto (x ∷ xs) env = onto xs (x ∷ env)

-- the tuple of m elements behind which so many others were bound
abbrev pub read : List ℕ → ℕ → ℕ → List ℕ
read env behind zero = []
read env behind (suc m) = get_or env (behind + m) 0 ∷ read env behind m

pub length-onto : (xs env : List ℕ) → length (onto xs env) ≡ length xs + length env
length-onto [] env = omega arith
length-onto (x ∷ xs) env = let rest = length-onto xs (x ∷ env) in omega (arith, rest)

pub onto-at : (xs env : List ℕ) (j : ℕ) → get_or (onto xs env) (length xs + j) 0 ≡ get_or env j 0
onto-at [] env j = let none : 0 + j ≡ j = omega arith in ap (λ i. get_or env i 0) none
onto-at (x ∷ xs) env j =
    let next : suc (length xs) + j ≡ length xs + suc j = omega arith in
    ap (λ i. get_or (onto xs (x ∷ env)) i 0) next ∙ onto-at xs (x ∷ env) (suc j)

-- what stands behind a tuple
pub read-behind : (xs env : List ℕ) (b m : ℕ) → read (onto xs env) (length xs + b) m ≡ read env b m
read-behind xs env b zero = refl
read-behind xs env b (suc m) =
    let same : (length xs + b) + m ≡ length xs + (b + m) = omega arith in
    let here : get_or (onto xs env) ((length xs + b) + m) 0 ≡ get_or env (b + m) 0 =
    ap (λ i. get_or (onto xs env) i 0) same ∙ onto-at xs env (b + m) in
    ap (λ x. x ∷ read (onto xs env) (length xs + b) m) here
    ∙ ap (λ ys. get_or env (b + m) 0 ∷ ys) (read-behind xs env b m)

-- the tuple that is bound last
pub read-own : (xs env : List ℕ) → read (onto xs env) 0 (length xs) ≡ xs
read-own [] env = refl
read-own (x ∷ xs) env =
    let same : 0 + length xs ≡ length xs + 0 = omega arith in
    let here : get_or (onto xs (x ∷ env)) (0 + length xs) 0 ≡ x =
    ap (λ i. get_or (onto xs (x ∷ env)) i 0) same ∙ onto-at xs (x ∷ env) 0 in
    ap (λ y. y ∷ read (onto xs (x ∷ env)) 0 (length xs)) here ∙ ap (λ ys. x ∷ ys) (read-own xs (x ∷ env))

-- the tuple of this number behind the one that is bound last
pub read-next : (xs env : List ℕ) (j m : ℕ) → length xs ≡ m → read (onto xs env) (suc j * m) m ≡ read env (j * m) m
read-next xs env j m is =
    let mul = suc-mul j m in
    let same : suc j * m ≡ length xs + j * m = omega (arith, mul, is) in
    ap (λ b. read (onto xs env) b m) same ∙ read-behind xs env (j * m) m

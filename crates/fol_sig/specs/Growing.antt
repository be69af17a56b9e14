-- Signatures that grow by relations and by functions without arguments, and their structures.
use Rattle.std.specs.Prelude.{◌≡◌, ℕ, ◌+◌, ◌<◌, ◌≤◌, ◌^◌, Bool, List, [], ◌++◌, length, map, slice_index}
use Rattle.std.specs.Prelude.{slice_index_or, All}
use Rattle.fol_sig.specs.Arguments.{max_arguments}
use Rattle.fol_sig.specs.declared.Sort.{Sort}
use Rattle.fol_sig.specs.Tables.{Declared, Tables, RelationTable, Reading, IsSignature, IsFullRelation, AreSorts}
use Rattle.fol_sig.specs.Tables.{InRange, reading, relation_at, function_at, fun_at}
use Rattle.fol_sig.specs.Symbols.{Symbols, AreSorted, FitsStructure, symbols}
use Rattle.fol_sig.specs.Strata.{IsStrata}
use Rattle.fol_sig.specs.Constants.{with_constants, with_fresh_tables, reduct}
use Rattle.fol_sig.specs.Updates.{with_relation_cells, with_function_cells}

-- The same sorts and symbols, with relations and functions behind them. The new functions have no arguments, so the
-- sorts have the same orders.
pub record Grows (sig more : Symbols) : Type 0 where
  pub sorts : more.sorts ≡ sig.sorts
  pub relations : sig.relations ≤ more.relations
  pub functions : sig.functions ≤ more.functions
  pub sorts_of : (r : ℕ) → r < sig.relations → more.sorts_of r ≡ sig.sorts_of r
  pub from_of : (f : ℕ) → f < sig.functions → more.from_of f ≡ sig.from_of f
  pub into_of : (f : ℕ) → f < sig.functions → more.into_of f ≡ sig.into_of f
  pub new_sorts : (r : ℕ) → sig.relations ≤ r → r < more.relations → AreSorts sig.sorts (more.sorts_of r)
  pub new_short : (r : ℕ) → sig.relations ≤ r → r < more.relations → length (more.sorts_of r) ≤ max_arguments
  pub new_from : (f : ℕ) → sig.functions ≤ f → f < more.functions → more.from_of f ≡ []
  pub new_into : (f : ℕ) → sig.functions ≤ f → f < more.functions → more.into_of f < sig.sorts

-- the signature grows by functions alone, with values of these sorts, in order
pub record GrowsBy (sig : Symbols) (ks : List ℕ) (more : Symbols) : Type 0 where
  pub grows : Grows sig more
  pub relations : more.relations ≡ sig.relations
  pub count : more.functions ≡ sig.functions + length ks
  pub sort : (i : ℕ) → i < length ks → more.into_of (sig.functions + i) ≡ slice_index ks i

-- the signature grows by relations alone, with arguments of these sorts, in order
pub record GrowsByRelations (sig : Symbols) (rs : List (List ℕ)) (more : Symbols) : Type 0 where
  pub grows : Grows sig more
  pub functions : more.functions ≡ sig.functions
  pub count : more.relations ≡ sig.relations + length rs
  pub sorts : (i : ℕ) → i < length rs → more.sorts_of (sig.relations + i) ≡ slice_index_or rs i []

-- the signature with relations behind its own, with arguments of these sorts
abbrev pub grown_by_relations : Declared → List (List ℕ) → Declared
grown_by_relations sig rs = record sig { relations = sig.relations ++ rs }

-- a function without arguments, with values of this sort
abbrev pub declared_constant : ℕ → List ℕ × Sort
declared_constant k = ([], record { 0 = k })

-- the signature with functions without arguments behind its own, with values of these sorts
abbrev pub grown : Declared → List ℕ → Declared
grown sig ks = record sig { functions = sig.functions ++ map declared_constant ks }

-- both are read alike, but for relations and functions that the symbols do not have
pub record AreReadAlike (sig : Symbols) (a b : Reading) : Type 0 where
  pub size : (k : ℕ) → a.size k ≡ b.size k
  pub rel : (r : ℕ) (xs : List ℕ) → r < sig.relations → a.rel r xs ≡ b.rel r xs
  pub fun : (f : ℕ) (xs : List ℕ) → f < sig.functions → a.fun f xs ≡ b.fun f xs

-- the signature with constants of its sorts is a signature that grew by them
pub record GrowsSignature (sig : Declared) (ks : List ℕ) : Type 0 where
  pub grows : GrowsBy (symbols sig) ks (symbols (grown sig ks))
  pub signature : IsSignature sig → length sig.functions + length ks < 2 ^ 32 → IsSignature (grown sig ks)

-- a signature with functions without arguments behind its own, into its sorts, has grown by them
abbrev pub SignaturesGrow : Type 0
SignaturesGrow = (sig : Declared) (ks : List ℕ) → AreSorts sig.sorts ks → GrowsSignature sig ks

-- the signature with relations over its sorts is a signature that grew by them
pub record GrowsSignatureByRelations (sig : Declared) (rs : List (List ℕ)) : Type 0 where
  pub grows : GrowsByRelations (symbols sig) rs (symbols (grown_by_relations sig rs))
  pub signature : IsSignature sig → length sig.relations + length rs < 2 ^ 32 → IsSignature (grown_by_relations sig rs)

-- a signature with relations of at most 8 arguments over its sorts behind its own has grown by them
abbrev pub SignaturesGrowByRelations : Type 0
SignaturesGrowByRelations = (sig : Declared) (rs : List (List ℕ)) → All (AreSorts sig.sorts) rs
    → All (λ ks. length ks ≤ max_arguments) rs → GrowsSignatureByRelations sig rs

-- the symbols stay sorted, and the orders of the sorts are the same
pub record KeepsSorts (sig more : Symbols) : Type 0 where
  pub sorted : AreSorted sig → AreSorted more
  pub strata : (order : List ℕ) → IsStrata sig order → IsStrata more order
  pub strata_before : (order : List ℕ) → IsStrata more order → IsStrata sig order

-- symbols that grow stay sorted, and their sorts have the same orders
abbrev pub SortsAreKept : Type 0
SortsAreKept = (sig more : Symbols) → Grows sig more → KeepsSorts sig more

-- a structure with constants: it fits the grown symbols, has these elements as their values, is read as before but for
-- them, and is the old structure without them
pub record IsExtension (sig more : Symbols) (s : Tables) (ks xs : List ℕ) : Type 0 where
  pub fits : FitsStructure more (with_constants s ks xs)
  pub constant : (i : ℕ) (ys : List ℕ) → i < length ks
      → fun_at (with_constants s ks xs) (sig.functions + i) ys ≡ slice_index xs i
  pub alike : AreReadAlike sig (reading (with_constants s ks xs)) (reading s)
  pub without : reduct sig (with_constants s ks xs) ≡ s

-- a structure that fits is extended by elements of the sorts of the new constants
abbrev pub StructuresExtend : Type 0
StructuresExtend = (sig more : Symbols) (s : Tables) (ks xs : List ℕ)
    → GrowsBy sig ks more → FitsStructure sig s → InRange s.sizes ks xs → IsExtension sig more s ks xs

-- a structure of the grown symbols without the new ones fits the symbols, and is read as before but for them
pub record IsReduct (sig : Symbols) (t : Tables) : Type 0 where
  pub fits : FitsStructure sig (reduct sig t)
  pub alike : AreReadAlike sig (reading t) (reading (reduct sig t))

-- a structure that fits the grown symbols has a reduct to the symbols
abbrev pub StructuresReduce : Type 0
StructuresReduce = (sig more : Symbols) (t : Tables) → Grows sig more → FitsStructure more t → IsReduct sig t

-- each structure of the symbols with constants is its reduct, extended by some elements
abbrev pub StructuresAreExtensions : Type 0
StructuresAreExtensions = (sig more : Symbols) (ks : List ℕ) (t : Tables) → GrowsBy sig ks more → FitsStructure more t
    → (xs : List ℕ) × InRange t.sizes ks xs × (with_constants (reduct sig t) ks xs ≡ t)

-- full tables, one for each of these lists of argument sorts
pub record AreTablesOf (sizes : List ℕ) (rs : List (List ℕ)) (ts : List RelationTable) : Type 0 where
  pub count : length ts ≡ length rs
  pub sorts : map (λ (t : RelationTable). t.sorts) ts ≡ rs
  pub full : All (IsFullRelation sizes) ts

-- a structure with further tables: it fits the grown symbols, has these tables, is read as before but for them, and is
-- the old structure without them
pub record IsExtensionByTables (sig more : Symbols) (s : Tables) (ts : List RelationTable) : Type 0 where
  pub fits : FitsStructure more (with_fresh_tables s ts)
  pub table : (i : ℕ) → i < length ts → relation_at (with_fresh_tables s ts) (sig.relations + i)
      ≡ slice_index_or ts i (record { sorts = []; cells = [] })
  pub alike : AreReadAlike sig (reading (with_fresh_tables s ts)) (reading s)
  pub without : reduct sig (with_fresh_tables s ts) ≡ s

-- a structure that fits is extended by full tables over the sorts of the new relations
abbrev pub StructuresExtendByTables : Type 0
StructuresExtendByTables = (sig more : Symbols) (s : Tables) (rs : List (List ℕ)) (ts : List RelationTable)
    → GrowsByRelations sig rs more → FitsStructure sig s → AreTablesOf s.sizes rs ts
    → IsExtensionByTables sig more s ts

-- each structure of the symbols with relations is its reduct, extended by some tables
abbrev pub StructuresAreExtensionsByTables : Type 0
StructuresAreExtensionsByTables = (sig more : Symbols) (rs : List (List ℕ)) (t : Tables)
    → GrowsByRelations sig rs more → FitsStructure more t
    → (ts : List RelationTable) × AreTablesOf t.sizes rs ts × (with_fresh_tables (reduct sig t) ts ≡ t)

-- A reduct has the tables of its symbols, and it is the same whether one of these is changed before the other symbols
-- are left out or after.
pub record CommutesWithUpdates (sig : Symbols) (t : Tables) : Type 0 where
  pub relation_table : (r : ℕ) → r < sig.relations → relation_at (reduct sig t) r ≡ relation_at t r
  pub function_table : (f : ℕ) → f < sig.functions → function_at (reduct sig t) f ≡ function_at t f
  pub relation : (r : ℕ) (cells : List Bool) → r < sig.relations
      → reduct sig (with_relation_cells t r cells) ≡ with_relation_cells (reduct sig t) r cells
  pub function : (f : ℕ) (cells : List ℕ) → f < sig.functions
      → reduct sig (with_function_cells t f cells) ≡ with_function_cells (reduct sig t) f cells

-- a reduct to any symbols commutes with a change of the tables of these symbols
abbrev pub ReductsCommuteWithUpdates : Type 0
ReductsCommuteWithUpdates = (sig : Symbols) (t : Tables) → CommutesWithUpdates sig t

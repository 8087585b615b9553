-- "given exactly when" its row of the table says so, and the rows are asked in a stated order: an order is a list of rows, and it settles which
-- refusal is given.
use Rattle.std.specs.Prelude.{◌≡◌, List, [], ◌∷◌, ◌⊎◌, ℕ}
use Rattle.ground.specs.Search.{Least}
use Rattle.refusal.specs.declared.Refusal.{Refusal}

-- a row of the table of numbered refusals: the refusal for each place, and "given exactly when": at which places it is given
pub record Row : Type 1 where
  pub refusal : ℕ → Refusal
  pub given : ℕ → Type 0

-- "Place is 0 unless named": a row that names no place is given where A holds, at place 0
abbrev pub when : Type 0 → Refusal → Row
when A r = record { refusal = λ i. r; given = λ i. A × (i ≡ 0) }

-- "the lowest place", "lowest block": a row that names a place gives f i at each place i where P holds
abbrev pub lowest : (ℕ → Refusal) → (ℕ → Type 0) → Row
lowest f P = record { refusal = f; given = P }

-- the row is given, with the refusal of its lowest place
pub record Gives (row : Row) (r : Refusal) : Type 0 where
  pub at_place : ℕ
  pub least : Least row.given at_place
  pub named : r ≡ row.refusal at_place

-- the row is given at no place
pub record Never (row : Row) : Type 0 where
  pub never : (i : ℕ) → row.given i → ⊥

-- row by row: the row gives r, or it is never given and a later one gives r
abbrev pub FirstOf : List Row → Refusal → Type 0
FirstOf [] r = ⊥
FirstOf (row ∷ rows) r = Gives row r ⊎ (Never row × FirstOf rows r)

-- the refusal that is given: of the first row in the order that is given at all, the refusal of its lowest place. A record, so that a proof
-- need not write the rows.
pub record First (rows : List Row) (r : Refusal) : Type 0 where
  pub first : FirstOf rows r

-- row by row: each is never given
abbrev pub ClearOf : List Row → Type 0
ClearOf [] = Unit
ClearOf (row ∷ rows) = Never row × ClearOf rows

-- no row is given anywhere
pub record Clear (rows : List Row) : Type 0 where
  pub clear : ClearOf rows

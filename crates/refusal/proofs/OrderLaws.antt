-- The first refusal in an order is one alone, and orders may be joined end to end. By induction on the rows.
use mathlib.Core.Path.{◌≡◌, refl, sym, ap, subst, ◌∙◌}
use mathlib.Core.List.{List, [], ◌∷◌, ◌++◌}
use mathlib.Core.Logic.{◌⊎◌, inl, inr, ⊎_elim}
use Prim.Native.Nat.{ℕ, ◌<◌}
use native.Mathlib.Nat.{not-suc-le-zero}
use Rattle.ground.specs.Search.{Least}
use Rattle.ground.proofs.Search.{least_unique}
use Rattle.refusal.specs.declared.Refusal.{Refusal}
use Rattle.refusal.specs.Refusals.{place}
use Rattle.refusal.specs.Order.{Row, when, lowest, Gives, Never, FirstOf, ClearOf, First, Clear}

-- ---- one row: a proof that it is given, or never given

pub gives-when : {A : Type 0} {r : Refusal} → A → Gives (when A r) r
gives-when a = record { at_place = 0; least = record { here = (a, refl); none_below = λ j h. absurd (not-suc-le-zero h) }; named = refl }

pub gives-lowest : {f : ℕ → Refusal} {P : ℕ → Type 0} {i : ℕ} → Least P i → Gives (lowest f P) (f i)
gives-lowest {i = i} l = record { at_place = i; least = l; named = refl }

pub never-when : {A : Type 0} {r : Refusal} → (A → ⊥) → Never (when A r)
never-when none = record { never = λ i g. none g.0 }

pub never-lowest : {f : ℕ → Refusal} {P : ℕ → Type 0} → ((i : ℕ) → P i → ⊥) → Never (lowest f P)
never-lowest none = record { never = none }

-- and what a given row, or one that is never given, says
pub when-gives : {A : Type 0} {r s : Refusal} → Gives (when A r) s → A × (s ≡ r)
when-gives g = (g.least.here.0, g.named)

pub when-never : {A : Type 0} {r : Refusal} → Never (when A r) → A → ⊥
when-never n a = n.never 0 (a, refl)

pub lowest-never : {f : ℕ → Refusal} {P : ℕ → Type 0} → Never (lowest f P) → (i : ℕ) → P i → ⊥
lowest-never n = n.never

pub gives_unique : {row : Row} {r s : Refusal} → Gives row r → Gives row s → r ≡ s
gives_unique {row} a b = a.named ∙ ap row.refusal (least_unique a.least b.least) ∙ sym b.named

pub gives-never : {A : Type 0} {row : Row} {r : Refusal} → Gives row r → Never row → A
gives-never g n = absurd (n.never g.at_place g.least.here)

-- ---- the rows of an order, one by one: a proof of `First` or `Clear` has one of these for each row

pub first-here : {row : Row} {rows : List Row} {r : Refusal} → Gives row r → First (row ∷ rows) r
first-here g = record { first = inl g }

pub first-later : {row : Row} {rows : List Row} {r : Refusal} → Never row → First rows r → First (row ∷ rows) r
first-later n f = record { first = inr (n, f.first) }

pub clear_none : Clear []
clear_none = record { clear = tt }

pub clear_later : {row : Row} {rows : List Row} → Never row → Clear rows → Clear (row ∷ rows)
clear_later n c = record { clear = (n, c.clear) }

pub first-when : {A : Type 0} {rows : List Row} {r : Refusal} → A → First (when A r ∷ rows) r
first-when a = first-here (gives-when a)

pub first-lowest : {f : ℕ → Refusal} {P : ℕ → Type 0} {rows : List Row} {i : ℕ} → Least P i → First (lowest f P ∷ rows) (f i)
first-lowest l = first-here (gives-lowest l)

pub first-later-when : {A : Type 0} {s : Refusal} {rows : List Row} {r : Refusal} → (A → ⊥) → First rows r → First (when A s ∷ rows) r
first-later-when none f = first-later (never-when none) f

pub first-later-lowest : {f : ℕ → Refusal} {P : ℕ → Type 0} {rows : List Row} {r : Refusal} → ((i : ℕ) → P i → ⊥) → First rows r
    → First (lowest f P ∷ rows) r
first-later-lowest none g = first-later (never-lowest none) g

pub clear-when : {A : Type 0} {s : Refusal} {rows : List Row} → (A → ⊥) → Clear rows → Clear (when A s ∷ rows)
clear-when none c = clear_later (never-when none) c

pub clear-lowest : {f : ℕ → Refusal} {P : ℕ → Type 0} {rows : List Row} → ((i : ℕ) → P i → ⊥) → Clear rows → Clear (lowest f P ∷ rows)
clear-lowest none c = clear_later (never-lowest none) c

-- past a row that is given where A fails, since A holds
pub first_past : {A : Type 0} {s : Refusal} {rows : List Row} {r : Refusal} → A → First rows r → First (when (A → ⊥) s ∷ rows) r
first_past a f = first-later-when (λ none. none a) f

pub clear-past : {A : Type 0} {s : Refusal} {rows : List Row} → A → Clear rows → Clear (when (A → ⊥) s ∷ rows)
clear-past a c = clear-when (λ none. none a) c

-- the refusal under another name, where a row's f i is not written as a case
pub first_as : {rows : List Row} {r s : Refusal} → r ≡ s → First rows s → First rows r
first_as {rows} e f = subst (First rows) (sym e) f

-- and what an order says of its first row
pub first_cases : {row : Row} {rows : List Row} {r : Refusal} → First (row ∷ rows) r → Gives row r ⊎ (Never row × First rows r)
first_cases f = ⊎_elim inl (λ g. inr (g.0, record { first = g.1 })) f.first

pub first-none : {A : Type 0} {r : Refusal} → First [] r → A
first-none f = absurd f.first

pub clear-here : {row : Row} {rows : List Row} → Clear (row ∷ rows) → Never row
clear-here c = c.clear.0

pub clear-rest : {row : Row} {rows : List Row} → Clear (row ∷ rows) → Clear rows
clear-rest c = record { clear = c.clear.1 }

-- ---- one refusal alone

unique : (rows : List Row) (r s : Refusal) → FirstOf rows r → FirstOf rows s → r ≡ s
unique (row ∷ rows) r s (inl a) (inl b) = gives_unique a b
unique (row ∷ rows) r s (inl a) (inr b) = gives-never a b.0
unique (row ∷ rows) r s (inr a) (inl b) = gives-never b a.0
unique (row ∷ rows) r s (inr a) (inr b) = unique rows r s a.1 b.1
unique [] r s x'' _ = elim x'' [ ]

-- two refusals that one order allows are equal
pub first_unique : {rows : List Row} {r s : Refusal} → First rows r → First rows s → r ≡ s
first_unique {rows} {r} {s} a b = unique rows r s a.first b.first

some : (rows : List Row) (r : Refusal) → FirstOf rows r → ClearOf rows → ⊥
some (row ∷ rows) r (inl a) c = gives-never a c.0
some (row ∷ rows) r (inr a) c = some rows r a.1 c.1
some [] r x'' c = elim x'' [ ]

-- and one is given only where some row is
pub first-clear : {A : Type 0} {rows : List Row} {r : Refusal} → First rows r → Clear rows → A
first-clear {rows = rows} {r} f c = absurd (some rows r f.first c.clear)

-- ---- orders end to end

pub clear-append : {rows more : List Row} → Clear rows → Clear more → Clear (rows ++ more)
clear-append {rows = []} c d = d
clear-append {rows = row ∷ rows} c d = clear_later (clear-here c) (clear-append (clear-rest c) d)

pub first-right : {rows more : List Row} {r : Refusal} → Clear rows → First more r → First (rows ++ more) r
first-right {rows = []} c f = f
first-right {rows = row ∷ rows} c f = first-later (clear-here c) (first-right (clear-rest c) f)

left : (rows more : List Row) (r : Refusal) → FirstOf rows r → First (rows ++ more) r
left (row ∷ rows) more r (inl a) = first-here a
left (row ∷ rows) more r (inr a) = first-later a.0 (left rows more r a.1)
left [] more r x' = elim x' [ ]

pub first-left : {rows : List Row} (more : List Row) {r : Refusal} → First rows r → First (rows ++ more) r
first-left {rows} more {r} f = left rows more r f.first

pub first-split : (rows more : List Row) {r : Refusal} → First (rows ++ more) r → First rows r ⊎ (Clear rows × First more r)
first-split [] more f = inr (clear_none, f)
first-split (row ∷ rows) more {r} f =
    ⊎_elim
    (λ g. inl (first-here g))
    (λ g. ⊎_elim (λ h. inl (first-later g.0 h)) (λ h. inr (clear_later g.0 h.0, h.1)) (first-split rows more g.1))
    (first_cases f)

-- ---- how far the places of an order go

-- every place of every row is below b. A row's places count only where no row before it is given.
abbrev pub PlacesBelow : ℕ → List Row → Type 0
PlacesBelow b [] = Unit
PlacesBelow b (row ∷ rows) = ((i : ℕ) → row.given i → place (row.refusal i) < b) × (Never row → PlacesBelow b rows)

pub first-place-below : (b : ℕ) (rows : List Row) {r : Refusal} → PlacesBelow b rows → First rows r → place r < b
first-place-below b [] p f = first-none f
first-place-below b (row ∷ rows) p f =
    ⊎_elim
    (λ g. subst (λ (s : Refusal). place s < b) (sym g.named) (p.0 g.at_place g.least.here))
    (λ g. first-place-below b rows (p.1 g.0) g.1)
    (first_cases f)

pub places_append : (b : ℕ) (rows more : List Row) → PlacesBelow b rows → (Clear rows → PlacesBelow b more) → PlacesBelow b (rows ++ more)
places_append b [] more p q = q clear_none
places_append b (row ∷ rows) more p q = (p.0, λ n. places_append b rows more (p.1 n) (λ c. q (clear_later n c)))

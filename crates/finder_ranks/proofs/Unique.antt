-- The certificate settles the table: two tables that it allows are equal. An entry is at most the other table's, by induction on that one: its act leads to
-- lower entries, which are no lower than here, so that the act would give this entry as low a rank.
use mathlib.Core.Path.{◌≡◌, sym, ◌∙◌}
use mathlib.Core.Logic.{◌⊎◌, inl, inr}
use mathlib.Core.List.{List}
use mathlib.Core.Bool.{Bool}
use Prim.Native.Nat.{ℕ, zero, suc, ◌^◌, ◌≤◌, ◌<◌}
use native.Mathlib.Omega.{arith}
use lib.ListN.{length}
use lib.Seq.{ext_get_or}
use Rattle.ground.proofs.Bools.{lt_or_ge}
use Rattle.finder_ranks.specs.Ranks.{rank}
use Rattle.finder_ranks.specs.Fills.{RankTable, FillsRanks, FillsFirst, RanksFit}
use Rattle.finder_ranks.proofs.Stages.{lowers-within}
use Rattle.finder_ranks.proofs.counts.numbers.Reads as numbers
use Rattle.finder_ranks.proofs.apart.side_of.Reads as side_of

module _ {n : ℕ} {goal : ℕ → Bool} {set look : List (List ℕ)} {before a b : List ℕ}
    (x : RankTable n goal set look before a) (y : RankTable n goal set look before b) where
  no_higher : (m k : ℕ) → rank a k < m → k < 7 ^ n → rank b k ≤ rank a k
  no_higher zero k l s = absurd (omega arith)
  no_higher (suc m) k l s = elim (lt_or_ge (rank a k) 255) [
    | inr h ↦ omega (arith, y.most k s)
    | inl h ↦ elim (x.reached k s h) [
      | inl e ↦ omega (arith, y.settled k s e)
      | inr w ↦ y.least k s (rank a k) (lowers-within s (λ z t r. omega (arith, no_higher m z (omega arith) t)) w)
    ]
  ]

pub table_unique : {n : ℕ} {goal : ℕ → Bool} {set look : List (List ℕ)} {before a b : List ℕ}
    → RankTable n goal set look before a → RankTable n goal set look before b → a ≡ b
table_unique {n} {a = a} {b = b} x y =
    ext_get_or 0 a b (x.same_length ∙ sym y.same_length) (λ k l. elim (lt_or_ge k (7 ^ n)) [
      | inl s ↦ omega (arith, no_higher x y (suc (rank a k)) k (omega arith) s, no_higher y x (suc (rank b k)) k (omega arith) s)
      | inr s ↦ x.beyond k s ∙ sym (y.beyond k s)
    ])

-- there is a table to fill, or there is none
room_or : (n : ℕ) (t : List ℕ) → RanksFit n t ⊎ (RanksFit n t → ⊥)
room_or n t = elim (lt_or_ge 0 n) [
  | inr z ↦ inr (λ r. absurd (omega (arith, r.some)))
  | inl z ↦ elim (lt_or_ge 7 n) [
    | inl f ↦ inr (λ r. absurd (omega (arith, r.few)))
    | inr f ↦ elim (lt_or_ge (length t) (7 ^ n)) [
      | inl s ↦ inr (λ r. absurd (omega (arith, r.room)))
      | inr s ↦ inl (record { some = z; few = f; room = s })
    ]
  ]
]

-- `fill_ranks`: all of the table
pub fills_unique : {n : ℕ} {made learnt : List ℕ} {set look : List (List ℕ)} {before a b : List ℕ}
    → FillsRanks n made learnt set look before a → FillsRanks n made learnt set look before b → a ≡ b
fills_unique {n} {before = before} x y = elim (room_or n before) [
  | inl r ↦ table_unique (x.filled r) (y.filled r)
  | inr r ↦ x.kept r ∙ sym (y.kept r)
]

-- `fill_first`: all of the table
pub fills_first_unique : {n : ℕ} {made learnt ranks2 : List ℕ} {set look : List (List ℕ)} {before a b : List ℕ}
    → FillsFirst n made learnt ranks2 set look before a → FillsFirst n made learnt ranks2 set look before b → a ≡ b
fills_first_unique {n} {ranks2 = ranks2} {before = before} x y = elim (room_or n ranks2) [
  | inl r ↦ elim (room_or n before) [
    | inl s ↦ table_unique (x.filled r s) (y.filled r s)
    | inr s ↦ x.kept (λ t. s) ∙ sym (y.kept (λ t. s))
  ]
  | inr r ↦ x.kept (λ t u. r t) ∙ sym (y.kept (λ t u. r t))
]

-- the two that are lent nothing to write to, by their own contracts, as the check reads them, `Post`
pub numbers_unique : (κs : _) (a : _) (x y : _) (s : _) → numbers.Post κs a x s → numbers.Post κs a y s → x ≡ y
numbers_unique κs a x y s p q = p ∙ sym q

pub side_of_unique : (κs : _) (a : _) (x y : _) (s : _) → side_of.Post κs a x s → side_of.Post κs a y s → x ≡ y
side_of_unique κs a x y s p q = p ∙ sym q

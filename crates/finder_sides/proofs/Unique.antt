-- Two results that a function of this crate may give are equal: every entry is given, and every length.
use mathlib.Core.Path.{◌≡◌, sym, ◌∙◌}
use mathlib.Core.Logic.{inl, inr}
use mathlib.Core.List.{List, []}
use mathlib.Core.Bool.{Bool}
use Prim.Native.Nat.{ℕ, ◌^◌, ◌<◌}
use native.Mathlib.Omega.{arith}
use lib.ListN.{get_or}
use lib.Seq.{ext_get_or}
use Rattle.ground.proofs.Bits.{same_bits}
use Rattle.ground.proofs.Bools.{lt_or_ge}
use Rattle.book_block.specs.declared.rule.Right.{Right}
use Rattle.finder_sides.specs.Tables.{entry, PostTables, SideTable}
use Rattle.finder_sides.proofs.counts.up_to_seven.Reads as up-to-seven

-- `made` and `learnt`
pub side_table_unique : {n : ℕ} {f : ℕ → Bool} {t u : List ℕ} → SideTable n f t → SideTable n f u → t ≡ u
side_table_unique {n} {f} {t} {u} a b =
    ext_get_or 0 t u (a.long ∙ sym b.long) (λ s l. elim (lt_or_ge s (3 ^ n)) [
      | inl h ↦ a.each s h ∙ sym (b.each s h)
      | inr h ↦ a.past s h ∙ sym (b.past s h)
    ])

-- `posts_allowed`
module _ {n : ℕ} {acting : ℕ → ℕ} {book : List ℕ} {right : Right} {t u : List (List ℕ)}
    (a : PostTables n book acting right t) (b : PostTables n book acting right u) where
  same-entry : (i s : ℕ) → entry t i s ≡ entry u i s
  same-entry i s = elim (lt_or_ge i n) [
    | inr h ↦ a.no_setting i s h ∙ sym (b.no_setting i s h)
    | inl h ↦ elim (lt_or_ge s (3 ^ n)) [
      | inr l ↦ a.no_side i s l ∙ sym (b.no_side i s l)
      | inl l ↦ same_bits 8 (entry t i s) (entry u i s) (a.bytes i s) (b.bytes i s) (λ q m. a.posts i s q h l m ∙ sym (b.posts i s q h l m))
    ]
  ]

  same_row : (i : ℕ) → i < 7 → get_or t i [] ≡ get_or u i []
  unfolding entry
  same_row i h = ext_get_or 0 (get_or t i []) (get_or u i []) (a.sides i h ∙ sym (b.sides i h)) (λ s l. same-entry i s)

  pub posts_unique : t ≡ u
  posts_unique = ext_get_or [] t u (a.settings ∙ sym b.settings) (λ i l. same_row i (omega (arith, a.settings)))

-- `up_to_seven`, by its own contract, as the check reads it, `Post`
pub up_to_seven_unique : (κs : _) (a : _) (x y : _) (s : _) → up-to-seven.Post κs a x s → up-to-seven.Post κs a y s → x ≡ y
up_to_seven_unique κs a x y s p q = p ∙ sym q

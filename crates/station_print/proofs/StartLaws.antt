-- What the marks of START's words say: whether each setting is named, and the valuation.
use Rattle.std.specs.Prelude.{Option, Some, None}
use mathlib.Core.Path.{◌≡◌, sym, ap, ap₂, ◌∙◌, subst}
use mathlib.Core.Logic.{inl, inr}
use mathlib.Core.Bool.{Bool, true, false, not, ◌&&◌, cond}
use mathlib.Core.List.{List, [], ◌∷◌}
use Prim.Native.Nat.{ℕ, ◌%◌, ◌^◌, ◌≤◌, ◌<◌}
use native.Mathlib.Nat.{mod-lt}
use native.Mathlib.Omega.{arith}
use lib.Dec.{T, eqb, leb, eqb→eq}
use lib.Pow.{pow_pos}
use Rattle.ground.specs.Digits.{bit}
use Rattle.ground.specs.Search.{all}
use Rattle.ground.proofs.Bools.{true→T, T→true, T→false, false→T, and_left, and_right, or_out, decide, both, lt_or_ge}
use Rattle.ground.proofs.Search.{all-at, all_ext}
use Rattle.ground.proofs.Bits.{bit-mod}
use Rattle.ground.proofs.HighBits.{high_bit}
use Rattle.sheet_words.specs.Words.{is_false, is_name, all_names, index_of, indexes, true_indexes, member, twice}
use Rattle.sheet_words.specs.Marks.{Marked, Names, are_names}
use Rattle.sheet_words.specs.declared.names.Marks.{Marks}
use Rattle.sheet_words.proofs.NameForms.{bare-word}
use Rattle.sheet_words.proofs.NameLaws.{stray_names, of_names}
use Rattle.sheet_words.proofs.Unique.{mask_one}
use Rattle.station_print.specs.Start.{names_all, Starts}
use lib.ListN.{length}
use Rattle.std.specs.Bool.{MatchBool}
use Rattle.std.specs.List.{range_with_len, AllWithin, HoldsAt}
use Rattle.std.proofs.lemmas.List.FromFn.{get_or-range_with_len, length-range_with_len}
use native.Mathlib.Nat.{zero-add}
use Rattle.ground.proofs.Search.{all_intro}

-- ---- a test of the first n numbers, one by one

module _ (f : ℕ → Bool) where
  pub all-fails : (n i : ℕ) → i < n → f i ≡ false → all n f ≡ false
  all-fails n i l e = elim (decide (all n f)) [ inl h ↦ both (f i) (all-at n f h i l) (false→T e) | inr h ↦ T→false (all n f) h ]

  -- what std's `all` over the numbers below n finds
  pub all-found : (n : ℕ) (r : Bool) → MatchBool r (AllWithin (λ i. f i ≡ true) (range_with_len 0 n) 0 (length (range_with_len 0 n)))
      ((k : ℕ) × (k < length (range_with_len 0 n)) × HoldsAt (λ i. f i ≡ false) (range_with_len 0 n) k) → r ≡ all n f
  all-found n true each =
      sym (T→true (all n f) (all_intro n f (λ i l. true→T (rw (get_or-range_with_len 0 n i 0 l ∙ zero-add i) at (each i 0 (omega arith) (omega (arith, l, length-range_with_len 0 n)))))))
  all-found n false (k, l, here) =
      let few : k < n = omega (arith, l, length-range_with_len 0 n) in
      sym (all-fails n k few (rw (get_or-range_with_len 0 n k 0 few ∙ zero-add k) at (here 0)))

-- ---- the valuation

-- a setting that is on is one of the n
on-here : (n : ℕ) (w : List ℕ) (others : List ℕ) (i : ℕ) (b : Bool) → T (is_name true 97 n w) → (T (member i others) → i < n)
    → T (member i (cond b others (index_of 97 w ∷ others))) → i < n
unfolding member
on-here n w others i true name later u = later u
on-here n w others i false name later u = elim (or_out (eqb (index_of 97 w) i) (member i others) u) [
  | inl e ↦ (let s : index_of 97 w ≡ i = eqb→eq (index_of 97 w) i e in omega (arith, (bare-word true 97 n w name).1))
  | inr k ↦ later k
]

on_below : (n : ℕ) (words : List (List ℕ)) (i : ℕ) → T (all_names true 97 n words) → T (member i (true_indexes 97 words)) → i < n
unfolding all_names true_indexes member
on_below n [] i h t = absurd t
on_below n (w ∷ ws) i h t =
    on-here n w (true_indexes 97 ws) i (is_false w) (and_left (is_name true 97 n w) (all_names true 97 n ws) h)
    (λ u. on_below n ws i (and_right (is_name true 97 n w) (all_names true 97 n ws) h) u) t

-- a number without a bit from n on is below 2^n
no_high-bits : (n v : ℕ) → ((i : ℕ) → n ≤ i → bit v i ≡ false) → v < 2 ^ n
no_high-bits n v f = subst (λ (x : ℕ). x < 2 ^ n) (sym same) below
  where
    below : v % 2 ^ n < 2 ^ n
    below = mod-lt v (pow_pos n)

    same : v ≡ v % 2 ^ n
    same = mask_one v (v % 2 ^ n) (λ i. elim (lt_or_ge i n) [
      | inl l ↦ sym (bit-mod n v i l)
      | inr g ↦ f i g ∙ sym (high_bit (v % 2 ^ n) n i below g)
    ])

-- ---- what is said, by what the words name

module _ (n : ℕ) (words : List (List ℕ)) (r : Option Marks) (answer : Names (are_names true 97 n words) 97 words r) where
  abbrev name_test : Bool → Bool → Bool → Bool
  name_test a b c = a && not b && c

  nothing : names_all n words ≡ false → Starts n (names_all n words) words None
  nothing e = subst (λ (b : Bool). Starts n b words None) (sym e) tt

  pub stray_nothing : r ≡ None → Starts n (names_all n words) words None
  unfolding names_all
  stray_nothing e =
      nothing (ap (λ (b : Bool). name_test b (twice (λ i. false) (indexes 97 words)) (all n (λ i. member i (indexes 97 words)))) (stray_names (are_names true 97 n words) 97 words r answer e))

  module _ (marks : Marks) (e : r ≡ Some marks) where
    marked : Marked 97 words marks
    marked = (of_names (are_names true 97 n words) 97 words r answer e).1

    are : are_names true 97 n words ≡ true
    are = (of_names (are_names true 97 n words) 97 words r answer e).0

    -- the test as the marks have it
    test_is : names_all n words ≡ name_test true marks.twice (all n (bit marks.named))
    unfolding names_all
    test_is =
        ap (λ (b : Bool). name_test b (twice (λ i. false) (indexes 97 words)) (all n (λ i. member i (indexes 97 words)))) are
        ∙ ap₂ (name_test true) (sym marked.again) (sym (all_ext n (bit marks.named) (λ i. member i (indexes 97 words)) (λ i l. marked.named i)))

    pub twice_nothing : marks.twice ≡ true → Starts n (names_all n words) words None
    twice_nothing h = nothing (test_is ∙ ap (λ (b : Bool). name_test true b (all n (bit marks.named))) h)

    module _ (once : marks.twice ≡ false) where
      pub some_nothing : all n (bit marks.named) ≡ false → Starts n (names_all n words) words None
      some_nothing h = nothing (test_is ∙ ap₂ (name_test true) once h)

      pub all-settings : all n (bit marks.named) ≡ true → Starts n (names_all n words) words (Some marks.values)
      unfolding are_names
      all-settings h = subst (λ (b : Bool). Starts n b words (Some marks.values)) (sym (test_is ∙ ap₂ (name_test true) once h)) (record {
        below = no_high-bits n marks.values (λ i g. marked.values i ∙ off i g);
        on = λ i l. marked.values i;
      })
        where
          off : (i : ℕ) → n ≤ i → member i (true_indexes 97 words) ≡ false
          off i g = elim (decide (member i (true_indexes 97 words))) [
            | inl t ↦ absurd (omega (arith, on_below n words i (and_right (leb n 8) (all_names true 97 n words) (true→T are)) t))
            | inr t ↦ T→false (member i (true_indexes 97 words)) t
          ]

-- The words after `team`, `held` and `known`, both ways: a word that passes the test is the sign of what it names, and that sign names it again. By
-- recursion over the words.
use mathlib.Core.Path.{◌≡◌, refl, sym, ap, ap₂, ◌∙◌}
use mathlib.Core.Logic.{inl, inr}
use mathlib.Core.List.{List, [], ◌∷◌, ◌++◌, map}
use mathlib.Core.Bool.{Bool, true, false, not}
use Prim.Native.Nat.{ℕ, ◌+◌, ◌≤◌, ◌<◌}
use native.Mathlib.Omega.{arith}
use lib.Dec.{T, eqb}
use lib.ListN.{length, get_or}
use Rattle.ground.proofs.Bools.{T→true, T→false, and_in, and_left, and_right, decide}
use Rattle.sheet_words.specs.Words.{space, among, is_false, bare, is_name, all_names, index_of, indexes}
use Rattle.sheet_words.proofs.Split.{marked, Clear, AllClear}
use Rattle.sheet_words.proofs.NameForms.{three, among_in, bare-word, unsigned, signed, plain}
use Rattle.sheet_question.specs.Asked.{Known}
use Rattle.sheet_question.specs.Forms.{known_by}
use Rattle.sheet_reading.specs.Grammar.{names_text, known_word, knowns_text, NamesFit, KnownFit}

-- ---- the words of the lines `team` and `held`: signs from `first` on

abbrev pub name_word : ℕ → ℕ → List ℕ
name_word first i = (first + i) ∷ []

pub names_marked : (first : ℕ) (names : List ℕ) → names_text first names ≡ marked space (map (name_word first) names)
unfolding names_text
names_marked first [] = refl
names_marked first (i ∷ names) = ap (λ (s : List ℕ). space ∷ (first + i) ∷ s) (names_marked first names)

pub names-clear : (first : ℕ) → 32 < first → (names : List ℕ) → AllClear space (map (name_word first) names)
names-clear first l [] = tt
names-clear first l (i ∷ names) = (omega (arith, l), names-clear first l names)

pub names_unbroken : (first : ℕ) → 32 < first → (names : List ℕ) → Clear 10 (names_text first names)
unfolding names_text
names_unbroken first l [] = tt
names_unbroken first l (i ∷ names) = (omega arith, (omega (arith, l), names_unbroken first l names))

pub names-written : (first m : ℕ) (words : List (List ℕ)) → T (all_names false first m words)
    → NamesFit m (indexes first words) × (map (name_word first) (indexes first words) ≡ words)
unfolding all_names indexes is_name
names-written first m [] h = (tt, refl)
names-written first m (word ∷ words) h =
    let here = and_left (is_name false first m word) (all_names false first m words) h in
    let more = names-written first m words (and_right (is_name false first m word) (all_names false first m words) h) in
    let sign = bare-word false first m word here in
    let bare-is = unsigned word (three (not (is_false word)) (eqb (length (bare word)) 1) (among first m (get_or (bare word) 0 0)) here).0 in
    ((sign.1, more.0), ap₂ ◌∷◌ (sym sign.0 ∙ bare-is) more.1)

-- all signs are below `~`
pub names-read : (first m : ℕ) → first + m ≤ 126 → (names : List ℕ) → NamesFit m names
    → T (all_names false first m (map (name_word first) names)) × (indexes first (map (name_word first) names) ≡ names)
unfolding all_names indexes is_name index_of
names-read first m l [] h = (tt, refl)
names-read first m l (i ∷ names) h =
    let more = names-read first m l names h.1 in
    let sign = plain (first + i) (omega (arith, l, h.0)) in
    rw (unsigned (name_word first i) sign, T→false (is_false (name_word first i)) sign) (
      and_in (among first m (first + i)) (all_names false first m (map (name_word first) names)) (among_in first m (first + i) (omega arith) (omega (arith, h.0))) more.0,
      ap₂ ◌∷◌ (omega arith) more.1,
    )

-- ---- the words of the line `known`

pub knowns_text_lem : (ks : List Known) → knowns_text ks ≡ marked space (map known_word ks)
unfolding knowns_text
knowns_text_lem [] = refl
knowns_text_lem (k ∷ ks) = ap (λ (s : List ℕ). space ∷ (known_word k ++ s)) (knowns_text_lem ks)

pub word-clear : (mark : ℕ) → mark < 97 → (k : Known) → Clear mark (known_word k)
unfolding known_word
word-clear mark l k = by_value k.value k.setting
  where
    by_value : (value : Bool) (i : ℕ) → Clear mark (known_word (record { setting = i; value = value }))
    by_value true i = omega arith
    by_value false i = omega arith

pub knowns_clear : (ks : List Known) → AllClear space (map known_word ks)
knowns_clear [] = tt
knowns_clear (k ∷ ks) = (word-clear space (omega arith) k, knowns_clear ks)

pub knowns_written : (n : ℕ) (words : List (List ℕ)) → T (all_names true 97 n words) → KnownFit n (known_by words) × (map known_word (known_by words) ≡ words)
unfolding all_names known_by known_word
knowns_written n [] h = (tt, refl)
knowns_written n (word ∷ words) h =
    let more = knowns_written n words (and_right (is_name true 97 n word) (all_names true 97 n words) h) in
    let sign = bare-word true 97 n word (and_left (is_name true 97 n word) (all_names true 97 n words) h) in (
      (sign.1, more.0),
      ap₂ ◌∷◌ (elim (decide (is_false word)) [
        | inl f ↦ rw (T→true (is_false word) f) (ap (◌∷◌ 126) (sym sign.0) ∙ signed word f)
        | inr f ↦ rw (T→false (is_false word) f) (sym sign.0 ∙ unsigned word f)
      ]) more.1,
    )

-- the word of a setting names it, with its value
Names : ℕ → List ℕ → Known → Type 0
Names n word k = T (is_name true 97 n word) × (◌≡◌ {A = Known} (record { setting = index_of 97 word; value = not (is_false word) }) k)

true_read : (n i : ℕ) → n ≤ 7 → i < n → Names n ((97 + i) ∷ []) (record { setting = i; value = true })
unfolding Names is_name index_of
true_read n i l h =
    let sign = plain (97 + i) (omega arith) in
    rw (unsigned ((97 + i) ∷ []) sign, T→false (is_false ((97 + i) ∷ [])) sign)
    (among_in 97 n (97 + i) (omega arith) (omega arith), ap (λ (x : ℕ). record { setting = x; value = true }) (omega arith))

false_read : (n i : ℕ) → i < n → Names n (126 ∷ (97 + i) ∷ []) (record { setting = i; value = false })
unfolding Names is_name index_of is_false bare
false_read n i h = (among_in 97 n (97 + i) (omega arith) (omega arith), ap (λ (x : ℕ). record { setting = x; value = false }) (omega arith))

pub knowns_read : (n : ℕ) → n ≤ 7 → (ks : List Known) → KnownFit n ks → T (all_names true 97 n (map known_word ks)) × (known_by (map known_word ks) ≡ ks)
unfolding all_names known_by Names known_word
knowns_read n l [] h = (tt, refl)
knowns_read n l (k ∷ ks) h =
    let more = knowns_read n l ks h.1 in
    let here = word_read k.value k.setting h.0 in
    (and_in (is_name true 97 n (known_word k)) (all_names true 97 n (map known_word ks)) here.0 more.0, ap₂ ◌∷◌ here.1 more.1)
  where
    word_read : (value : Bool) (i : ℕ) → i < n → Names n (known_word (record { setting = i; value = value })) (record { setting = i; value = value })
    word_read true i h = true_read n i l h
    word_read false i h = false_read n i h

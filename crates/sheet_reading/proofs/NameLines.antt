-- The lines of names, both ways: a line that passes its test is written as the grammar says, and a line so written passes it and reads back.
use mathlib.Core.Path.{◌≡◌, refl, sym, ap, ◌∙◌}
use mathlib.Core.Logic.{inl, inr}
use mathlib.Core.List.{List, [], ◌∷◌, ◌++◌, map}
use mathlib.Core.Bool.{Bool, true, false, ◌&&◌, ◌||◌}
use Prim.Native.Nat.{ℕ, suc, ◌+◌, ◌≤◌, ◌<◌}
use native.Mathlib.Numerals.{add-one}
use native.Mathlib.Omega.{arith}
use lib.Dec.{T, eqb, eqb→eq, not_T}
use lib.ListN.{length, get_or, drop, drop_of_length-le}
use lib.Seq.{drop-cons}
use Rattle.ground.specs.Text.{bytes}
use Rattle.ground.proofs.Bools.{T→true, T→false, decide}
use Rattle.sheet_words.specs.Words.{space, split, begins, all_names, indexes}
use Rattle.sheet_words.proofs.Split.{marked, Clear, some_piece, marked-some, joined_split, split_joined}
use Rattle.sheet_words.proofs.NameForms.{three}
use Rattle.sheet_question.specs.Asked.{Known}
use Rattle.sheet_question.specs.Forms.{name_words, is_names, is_team, team_of, is_known, known_by, known_of, is_held, held_of}
use Rattle.sheet_reading.specs.Grammar.{names_text, team_line, known_word, knowns_text, known_line, held_line, NamesFit, KnownFit}
use Rattle.sheet_reading.proofs.WordForms.{name_word, names_marked, names-clear, names_unbroken, names-written, names-read}
use Rattle.sheet_reading.proofs.WordForms.{knowns_text_lem, word-clear, knowns_clear, knowns_written, knowns_read}
use Rattle.sheet_reading.proofs.LineForms.{begins-written, there, clear-append}

-- ---- what follows the word

-- the test of what follows the word: nothing, where that may be, or a space
abbrev Follows : List ℕ → Bool → List ℕ → Bool
Follows w alone line = alone && eqb (length line) (length w) || eqb (get_or line (length w) 0) space

spaced : (a b c : Bool) → b ≡ false → T (a && b || c) → T c
spaced true false c e h = h
spaced true true c e h = let z : ◌≡◌ {A = ℕ} 0 1 = cc in absurd (omega arith)
spaced false b c e h = h

names-text : (w line : List ℕ) (alone : Bool) → T (Follows w alone line) → marked space (name_words w line) ≡ drop (length w) line
unfolding name_words
names-text w line alone h =
    elim (decide (eqb (length line) (length w))) [
      | inl e ↦ (let size = eqb→eq (length line) (length w) e in rw (T→true (eqb (length line) (length w)) e) (sym (drop_of_length-le line {i = length w} (omega arith))))
      | inr e ↦ (let long = T→false (eqb (length line) (length w)) e in
          let c = eqb→eq (get_or line (length w) 0) space (spaced alone (eqb (length line) (length w)) (eqb (get_or line (length w) 0) space) long h) in
          rw (long, add-one)
          (marked-some space (drop (suc (length w)) line) ∙ ap (◌∷◌ space) (joined_split space (drop (suc (length w)) line))
          ∙ sym (drop-cons line (length w) 0 (there line (length w) (omega arith)) ∙ ap (λ (x : ℕ). x ∷ drop (suc (length w)) line) c)))
    ]

-- a line of names, taken apart
names_parts : (w : List ℕ) (alone signed : Bool) (first count : ℕ) (line : List ℕ) → T (is_names w alone signed first count line)
    → T (all_names signed first count (name_words w line)) × T (Follows w alone line) × (line ≡ w ++ marked space (name_words w line))
unfolding is_names
names_parts w alone signed first count line h =
    let parts = three (begins w line) (Follows w alone line) (all_names signed first count (name_words w line)) h in
    (parts.2, parts.1, begins-written w line parts.0 ∙ ap (◌++◌ w) (sym (names-text w line alone parts.1)))

-- the names of a line, from the first on
names-split : (first : ℕ) → 32 < first → (i : ℕ) (names : List ℕ) → split space ((first + i) ∷ names_text first names) ≡ map (name_word first) (i ∷ names)
names-split first l i names =
    let clear = names-clear first l (i ∷ names) in
    ap (λ (s : List ℕ). split space ((first + i) ∷ s)) (names_marked first names)
    ∙ split_joined space (name_word first i) (map (name_word first) names) clear.0 clear.1

-- ---- `team G ..`

-- a line that does not stand alone has a word at least
some_word : (w line : List ℕ) → T (Follows w false line) → (P : List (List ℕ) → Type 0) → ((p : List ℕ) (ps : List (List ℕ)) → P (p ∷ ps)) → P (name_words w line)
unfolding name_words
some_word w line h P f =
    let c = eqb→eq (get_or line (length w) 0) space h in
    let inside = there line (length w) (omega arith) in
    let long = T→false (eqb (length line) (length w)) (not_T (eqb (length line) (length w)) (λ e. (let size = eqb→eq (length line) (length w) e in omega arith))) in
    rw long (some_piece space P f (drop (length w + 1) line))

pub team-written : (m : ℕ) (line : List ℕ) → T (is_team m line) → (1 ≤ length (team_of line)) × NamesFit m (team_of line) × (line ≡ team_line (team_of line))
unfolding is_team team_of team_line indexes
team-written m line h =
    let words : List (List ℕ) = name_words (bytes "team") line in
    let parts = names_parts (bytes "team") false false 49 m line h in
    let names = names-written 49 m words parts.0 in (
      some_word (bytes "team") line parts.1 (λ q. 1 ≤ length (indexes 49 q)) some,
      names.0,
      parts.2 ∙ ap (◌++◌ (bytes "team")) (sym (names_marked 49 (indexes 49 words) ∙ ap (marked space) names.1)),
    )
  where
    some : (p : List ℕ) (ps : List (List ℕ)) → 1 ≤ length (indexes 49 (p ∷ ps))
    some p ps = omega arith

pub team-read : (m : ℕ) → m ≤ 8 → (qs : List ℕ) → 1 ≤ length qs → NamesFit m qs → T (is_team m (team_line qs)) × (team_of (team_line qs) ≡ qs)
unfolding is_team is_names team_of team_line name_words names_text begins
team-read m l [] some h = absurd (omega arith)
team-read m l (q ∷ qs) some h =
    let words = names-split 49 (omega arith) q qs in
    let size : ℕ = length (team_line (q ∷ qs)) in
    let long = T→false (eqb size 4) (not_T (eqb size 4) (λ e. (let four_bytes = eqb→eq size 4 e in omega arith))) in
    rw (long, words) (names-read 49 m (omega (arith, l)) (q ∷ qs) h)

pub team-clear : (qs : List ℕ) → Clear 10 (team_line qs)
unfolding team_line
team-clear qs = clear-append 10 (bytes "team") (names_text 49 qs) (omega arith) (names_unbroken 49 (omega arith) qs)

-- ---- `known`, with settings or alone

pub known_written : (n : ℕ) (line : List ℕ) → T (is_known n line) → KnownFit n (known_of line) × (line ≡ known_line (known_of line))
unfolding is_known known_of known_line
known_written n line h =
    let words : List (List ℕ) = name_words (bytes "known") line in
    let parts = names_parts (bytes "known") true true 97 n line h in
    let names = knowns_written n words parts.0 in
    (names.0, parts.2 ∙ ap (◌++◌ (bytes "known")) (sym (knowns_text_lem (known_by words) ∙ ap (marked space) names.1)))

pub known_read : (n : ℕ) → n ≤ 7 → (ks : List Known) → KnownFit n ks → T (is_known n (known_line ks)) × (known_of (known_line ks) ≡ ks)
unfolding is_known is_names known_of known_line knowns_text begins name_words all_names known_by
known_read n l [] h = (tt, refl)
known_read n l (k ∷ ks) h =
    let rest : List ℕ = known_word k ++ knowns_text ks in
    let clear = knowns_clear (k ∷ ks) in
    let words : split space rest ≡ map known_word (k ∷ ks) =
    ap (λ (s : List ℕ). split space (known_word k ++ s)) (knowns_text_lem ks) ∙ split_joined space (known_word k) (map known_word ks) clear.0 clear.1 in
    let size : ℕ = length (known_line (k ∷ ks)) in
    let long = T→false (eqb size 5) (not_T (eqb size 5) (λ e. (let five-bytes = eqb→eq size 5 e in omega arith))) in
    rw (long, words) (knowns_read n l (k ∷ ks) h)

pub known-clear : (ks : List Known) → Clear 10 (known_line ks)
unfolding known_line knowns_text
known-clear ks = clear-append 10 (bytes "known") (knowns_text ks) (omega arith) (knowns ks)
  where
    knowns : (ks : List Known) → Clear 10 (knowns_text ks)
    knowns [] = tt
    knowns (k ∷ ks) = (omega arith, clear-append 10 (known_word k) (knowns_text ks) (word-clear 10 (omega arith) k) (knowns ks))

-- ---- `held`, with settings or alone

pub held-written : (n : ℕ) (line : List ℕ) → T (is_held n line) → NamesFit n (held_of line) × (line ≡ held_line (held_of line))
unfolding is_held held_of held_line
held-written n line h =
    let words : List (List ℕ) = name_words (bytes "held") line in
    let parts = names_parts (bytes "held") true false 97 n line h in
    let names = names-written 97 n words parts.0 in
    (names.0, parts.2 ∙ ap (◌++◌ (bytes "held")) (sym (names_marked 97 (indexes 97 words) ∙ ap (marked space) names.1)))

pub held-read : (n : ℕ) → n ≤ 7 → (names : List ℕ) → NamesFit n names → T (is_held n (held_line names)) × (held_of (held_line names) ≡ names)
unfolding is_held is_names held_of held_line names_text begins name_words all_names indexes
held-read n l [] h = (tt, refl)
held-read n l (i ∷ names) h =
    let words = names-split 97 (omega arith) i names in
    let size : ℕ = length (held_line (i ∷ names)) in
    let long = T→false (eqb size 4) (not_T (eqb size 4) (λ e. (let four_bytes = eqb→eq size 4 e in omega arith))) in
    rw (long, words) (names-read 97 n (omega (arith, l)) (i ∷ names) h)

pub held-clear : (names : List ℕ) → Clear 10 (held_line names)
unfolding held_line
held-clear names = clear-append 10 (bytes "held") (names_text 97 names) (omega arith) (names_unbroken 97 (omega arith) names)

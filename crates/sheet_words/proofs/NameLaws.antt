-- The words after `team` and `known`, one by one: a word with `~` in front is the word behind it, and each name sets its bit.
use mathlib.Core.Path.{◌≡◌, refl, sym, ap, ap₂, ◌∙◌, subst}
use mathlib.Core.Bool.{Bool, true, false, not, ◌&&◌, ◌||◌, cond}
use mathlib.Core.List.{List, [], ◌∷◌}
use Prim.Native.Nat.{ℕ, suc, ◌+◌, ◌-◌, ◌*◌, ◌%◌, ◌^◌, ◌≤◌, ◌<◌}
use native.Mathlib.Omega.{arith}
use native.Mathlib.Nat.{one-mul}
use native.Mathlib.Numerals.{add-one}
use lib.Dec.{T, eqb, eqb→eq, lit<}
use lib.Bits.{bit_or}
use lib.Pow.{shl_exact}
use lib.ListN.{length, get_or, take, drop, length-drop}
use lib.Seq.{take_all, drop-cons, drop-length}
use borrow.Author.Tests.{ne_eqb, eq-eqb, le-leb, lt-leb}
use Rattle.ground.specs.Digits.{bit}
use Rattle.ground.proofs.Bools.{and_right, or_false}
use Rattle.ground.proofs.Bits.{bit-bit_or, bit_of_zero}
use Rattle.ground.proofs.HighBits.{power_bit}
use Rattle.sheet_words.specs.Words.{member, is_false, bare, among, is_name, all_names, index_of, indexes, twice, true_indexes}
use Rattle.sheet_words.specs.Marks.{Marking, Marked, Names, are_names}
use Rattle.sheet_words.specs.declared.names.Marks.{Marks}
use Rattle.std.specs.Prelude.{Option, Some, None}
use Rattle.sheet_words.proofs.NameForms.{three, between}

pub bare_false : (w : List ℕ) → is_false w ≡ true → bare w ≡ drop 1 w
unfolding bare
bare_false w e = ap (λ (b : Bool). cond b (drop 1 w) w) e

pub bare_true : (w : List ℕ) → is_false w ≡ false → bare w ≡ w
unfolding bare
bare_true w e = ap (λ (b : Bool). cond b (drop 1 w) w) e

pub bare_behind : (w : List ℕ) → get_or w 0 0 ≡ 126 → take (length w - 1) (drop 1 w) ≡ bare w
unfolding bare is_false
bare_behind w e = take_all (length w - 1) (drop 1 w) (omega (arith, length-drop 1 w)) ∙ sym (bare_false w (eq-eqb (get_or w 0 0) 126 e))

pub bare_whole : (w : List ℕ) → (get_or w 0 0 ≡ 126 → ⊥) → w ≡ bare w
unfolding bare is_false
bare_whole w ne = sym (bare_true w (ne_eqb (get_or w 0 0) 126 ne))

pub bare_empty : (w : List ℕ) → length w < 1 → w ≡ bare w
unfolding bare is_false
bare_empty [] h = refl
bare_empty (c ∷ w) h = absurd (omega arith)

-- ---- a bit more

pub with_bit : (byte i j : ℕ) → i < 8 → bit (bit_or byte ((1 * 2 ^ i) % 256)) j ≡ (bit byte j || eqb i j)
with_bit byte i j h = bit-bit_or byte ((1 * 2 ^ i) % 256) j ∙ ap (λ (x : Bool). bit byte j || x) (ap (λ (x : ℕ). bit x j) (shl_exact 1 i 8 (lit< tt) (omega arith) ∙ one-mul (2 ^ i)) ∙ power_bit i j)

-- ---- words one after the other

module _ (words : List (List ℕ)) (k : ℕ) (w : List ℕ) (h : k < length words) (e : w ≡ get_or words k w) where
  pub here : drop k words ≡ w ∷ drop (k + 1) words
  here = rw (add-one, drop-cons words k w) (ap (λ (x : List ℕ). x ∷ drop (suc k) words) (sym e))

  module _ (signed : Bool) (first count : ℕ) where
    names_here : all_names signed first count (drop k words) ≡ (is_name signed first count w && all_names signed first count (drop (k + 1) words))
    unfolding all_names
    names_here = ap (all_names signed first count) here

    -- a word that is no name spoils them all
    pub names_fail : is_name signed first count w ≡ false → all_names signed first count (drop k words) ≡ false
    names_fail n = names_here ∙ ap (λ (b : Bool). b && all_names signed first count (drop (k + 1) words)) n

    -- a name leaves it to those that follow
    pub names-on : is_name signed first count w ≡ true → all_names signed first count (drop k words) ≡ all_names signed first count (drop (k + 1) words)
    names-on n = names_here ∙ ap (λ (b : Bool). b && all_names signed first count (drop (k + 1) words)) n

pub names_end : (signed : Bool) (first count : ℕ) (words : List (List ℕ)) (k : ℕ) → k ≡ length words → all_names signed first count (drop k words) ≡ true
unfolding all_names
names_end signed first count words k e = ap (all_names signed first count) (ap (λ (i : ℕ). drop i words) e ∙ drop-length words)

-- what a name shows
name_among : (signed : Bool) (first count : ℕ) (w : List ℕ) → T (is_name signed first count w) → T (among first count (get_or (bare w) 0 0))
unfolding is_name
name_among signed first count w t = and_right ((signed || not (is_false w)) && eqb (length (bare w)) 1) (among first count (get_or (bare w) 0 0)) t

pub name_one : (signed : Bool) (first count : ℕ) (w : List ℕ) → T (is_name signed first count w) → length (bare w) ≡ 1
unfolding is_name
name_one signed first count w t = eqb→eq (length (bare w)) 1 (three (signed || not (is_false w)) (eqb (length (bare w)) 1) (among first count (get_or (bare w) 0 0)) t).1

pub name_least : (signed : Bool) (first count : ℕ) (w : List ℕ) → T (is_name signed first count w) → first ≤ get_or (bare w) 0 0
name_least signed first count w t = (between first count (get_or (bare w) 0 0) (name_among signed first count w t)).0

pub name_most : (signed : Bool) (first count : ℕ) (w : List ℕ) → T (is_name signed first count w) → get_or (bare w) 0 0 < first + count
name_most signed first count w t = (between first count (get_or (bare w) 0 0) (name_among signed first count w t)).1

-- ---- the marks of all words

pub or_assoc : (a b c : Bool) → ((a || b) || c) ≡ (a || (b || c))
or_assoc true b c = refl
or_assoc false b c = refl

twice_ext : (f g : ℕ → Bool) (xs : List ℕ) → ((i : ℕ) → f i ≡ g i) → twice f xs ≡ twice g xs
unfolding twice
twice_ext f g [] h = refl
twice_ext f g (x ∷ xs) h = ap₂ ◌||◌ (h x) (twice_ext (λ i. f i || eqb x i) (λ i. g i || eqb x i) xs (λ i. ap (λ (b : Bool). b || eqb x i) (h i)))

-- some of the words are marked, and the rest is still to come
pub record Marks_to (first : ℕ) (words rest : List (List ℕ)) (m : Marks) : Type 0 where
  pub named : (j : ℕ) → (bit m.named j || member j (indexes first rest)) ≡ member j (indexes first words)
  pub values : (j : ℕ) → (bit m.values j || member j (true_indexes first rest)) ≡ member j (true_indexes first words)
  pub again : (m.twice || twice (bit m.named) (indexes first rest)) ≡ twice (λ i. false) (indexes first words)

pub marks-none : (first : ℕ) (words : List (List ℕ)) → Marks_to first words words (record { named = 0; values = 0; twice = false })
marks-none first words = record {
  named = λ j. ap (λ (b : Bool). b || member j (indexes first words)) (bit_of_zero j);
  values = λ j. ap (λ (b : Bool). b || member j (true_indexes first words)) (bit_of_zero j);
  again = twice_ext (bit 0) (λ i. false) (indexes first words) bit_of_zero;
}

pub marks-all : (first : ℕ) (words : List (List ℕ)) (m : Marks) → Marks_to first words [] m → Marked first words m
unfolding indexes true_indexes member twice
marks-all first words m t = record {
  named = λ j. sym (or_false (bit m.named j)) ∙ t.named j;
  values = λ j. sym (or_false (bit m.values j)) ∙ t.values j;
  again = sym (or_false m.twice) ∙ t.again;
}

module _ (first : ℕ) (words : List (List ℕ)) (w : List ℕ) (rest : List (List ℕ)) (old new : Marks) (t : Marks_to first words (w ∷ rest) old)
    (k : Marking old (index_of first w) (not (is_false w)) new) where
  value-more : (j : ℕ) (b f : Bool) → (f || (not b && eqb (index_of first w) j)) || member j (true_indexes first rest)
      ≡ (f || member j (cond b (true_indexes first rest) (index_of first w ∷ true_indexes first rest)))
  unfolding member
  value-more j true f = ap (λ (x : Bool). x || member j (true_indexes first rest)) (or_false f)
  value-more j false f = or_assoc f (eqb (index_of first w) j) (member j (true_indexes first rest))

  pub marks-more : Marks_to first words rest new
  unfolding indexes true_indexes member twice
  marks-more = record {
    named = λ j. ap (λ (b : Bool). b || member j (indexes first rest)) (k.named j) ∙ or_assoc (bit old.named j) (eqb (index_of first w) j) (member j (indexes first rest)) ∙ t.named j;
    values = λ j. ap (λ (b : Bool). b || member j (true_indexes first rest)) (k.values j) ∙ value-more j (is_false w) (bit old.values j) ∙ t.values j;
    again = ap₂ ◌||◌ k.again (twice_ext (bit new.named) (λ i. bit old.named i || eqb (index_of first w) i) (indexes first rest) k.named)
        ∙ or_assoc old.twice (bit old.named (index_of first w)) (twice (λ i. bit old.named i || eqb (index_of first w) i) (indexes first rest)) ∙ t.again;
  }

-- a mark as the code makes it, by the word's sign and its `~`
pub mark_is : (old new : Marks) (first : ℕ) (w : List ℕ) (sign : ℕ) (f : Bool) → sign ≡ get_or (bare w) 0 0 → f ≡ is_false w
    → Marking old (sign - first) (not f) new → Marking old (index_of first w) (not (is_false w)) new
unfolding index_of
mark_is old new first w sign f e g k = subst (λ (b : Bool). Marking old (get_or (bare w) 0 0 - first) (not b) new) g (subst (λ (x : ℕ). Marking old (x - first) (not f) new) e k)

-- ---- the answer

module _ (signed : Bool) (first count : ℕ) (words : List (List ℕ)) where
  pub too_many : 8 < count → are_names signed first count words ≡ false
  unfolding are_names
  too_many h = ap (λ (b : Bool). b && all_names signed first count words) (lt-leb count 8 h)

  pub few_enough : count ≤ 8 → are_names signed first count words ≡ all_names signed first count words
  unfolding are_names
  few_enough h = ap (λ (b : Bool). b && all_names signed first count words) (le-leb count 8 h)

module _ (are : Bool) (first : ℕ) (words : List (List ℕ)) where
  pub names_stray : are ≡ false → Names are first words None
  names_stray e = subst (λ (b : Bool). Names b first words None) (sym e) tt

  pub names_of : (m : Marks) → are ≡ true → Marked first words m → Names are first words (Some m)
  names_of m e k = subst (λ (b : Bool). Names b first words (Some m)) (sym e) k

  -- and what an answer shows
  module _ (r : Option Marks) (n : Names are first words r) where
    pub stray_names : r ≡ None → are ≡ false
    stray_names e = by_test are (subst (Names are first words) e n)
      where
        by_test : (b : Bool) → Names b first words None → b ≡ false
        by_test true k = absurd k
        by_test false k = refl

    pub of_names : {m : Marks} → r ≡ Some m → (are ≡ true) × Marked first words m
    of_names {m} e = by_test are (subst (Names are first words) e n)
      where
        by_test : (b : Bool) → Names b first words (Some m) → (b ≡ true) × Marked first words m
        by_test true k = (refl, k)
        by_test false k = absurd k

-- no words name nothing
pub marked-none : (first : ℕ) → Marked first [] (record { named = 0; values = 0; twice = false })
marked-none first = marks-all first [] (record { named = 0; values = 0; twice = false }) (marks-none first [])

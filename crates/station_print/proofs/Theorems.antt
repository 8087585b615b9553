-- What the contract of `print` settles: one result alone, by the cases of what the three arguments mean; how long the printed text can be; that the settings it
-- prints are a START for the next shift, by a test of every valuation; and that what it says of a look that disagrees is so.
use Rattle.std.specs.Prelude.{Option, Some, Result, Ok, Err}
use mathlib.Core.Path.{◌≡◌, refl, sym, ap, ap₂, ◌∙◌, subst}
use mathlib.Core.Logic.{inl, inr}
use mathlib.Core.Bool.{Bool, true, false, ◌&&◌, beq}
use mathlib.Core.List.{List}
use Prim.Native.Nat.{ℕ, zero, suc, ◌+◌, ◌*◌, ◌^◌, ◌≤◌, ◌<◌}
use native.Mathlib.Omega.{arith}
use lib.Dec.{T, eqb}
use lib.ListN.{length}
use lib.Pow.{pow_mono}
use Rattle.ground.specs.Digits.{digit, bit}
use Rattle.ground.specs.Search.{all}
use Rattle.ground.proofs.Bools.{and_left, and_right, beq→eq}
use Rattle.ground.proofs.Search.{all-at}
use Rattle.ground.proofs.Bits.{same_bits}
use Rattle.refusal.specs.Refusals.{number}
use Rattle.refusal.proofs.OrderLaws.{first_unique, first-clear}
use Rattle.knowledge_acts.specs.declared.act.Act.{Act}
use Rattle.knowledge_acts.specs.declared.act.Act.TheVariants.{Set, Look}
use Rattle.book_sound.specs.Sound.{in_order}
use Rattle.book_sound.proofs.SoundLaws.{sound-clear}
use Rattle.book_sound.proofs.Theorems.{sound-one}
use Rattle.print_answer.specs.Listed.{value_digit}
use Rattle.print_answer.specs.Printed.{Prints}
use Rattle.print_answer.proofs.Theorems.{prints_unique}
use Rattle.sheet_words.specs.Words.{onto, split, among, is_false, bare, is_name, all_names, index_of, indexes, true_indexes, member, twice}
use Rattle.sheet_words.specs.Marks.{are_names}
use Rattle.station.specs.Station.{seen_as, shown}
use Rattle.station.specs.Shift.{act_byte, seen_byte, disagrees, IsAtFault}
use Rattle.station.specs.Replay.{Replays}
use Rattle.station.specs.declared.shift.Replayed.{Replayed}
use Rattle.station.specs.declared.shift.Replayed.TheVariants.{Whole, Stopped}
use Rattle.station.proofs.OneAnswer.{replays-one}
use Rattle.station_text.specs.Meaning.{Meaning, refused, gives}
use Rattle.station_print.specs.Start.{start_words, names_all, StartIs}
use Rattle.station_print.specs.Settings.{setting_names}
use Rattle.station_print.specs.Printed.{replay_text}
use Rattle.station_print.specs.Prints.{shift_meaning, told_of, PrintsBytes, PrintsShift, PrintsStart, PrintsReplay}
use Rattle.station_print.specs.declared.ReplayTold.{ReplayTold}
use Rattle.station_print.specs.declared.ReplayTold.TheVariants.{Done, Stopped as AtFault}
use Rattle.station_print.specs.declared.ReplayFault.{ReplayFault}
use Rattle.station_print.specs.declared.ReplayFault.TheVariants.{Book, Start, Shift as OfShift}
use Rattle.station_print.proofs.Lengths.{reached-length, stopped-length}
use Rattle.station_print.proofs.ShortLaws.{AreBytes, Short, gives-short}
use Rattle.station_print.proofs.PrintLaws.{whole-count, stopped-next}
use Rattle.refusal.specs.declared.Refusal.{Refusal}

-- ---- one result alone

pub start_one : {n v w : ℕ} {words : List (List ℕ)} → StartIs n words v → StartIs n words w → v ≡ w
start_one {n} {v} {w} a b = same_bits n v w a.below b.below (λ i l. a.on i l ∙ sym (b.on i l))

bytes_one : {n : ℕ} {book : List ℕ} {start : ℕ} {shift bytes old new other : List ℕ} {x y : Result ReplayTold ReplayFault}
    → PrintsBytes n book start shift bytes old x new → PrintsBytes n book start shift bytes old y other → (x ≡ y) × (new ≡ other)
bytes_one {n} {book} {start} {shift} {bytes} {old} {other = other} p q =
    let same = replays-one book start bytes p.answer q.answer p.replays q.replays in
    let e = prints_unique p.printed (subst (λ (a : Result Replayed Refusal). Prints old (replay_text n shift bytes a) q.count other) (sym same) q.printed) in
    (p.told ∙ ap₂ told_of same e.0 ∙ sym q.told, e.1)

shift_one : (n : ℕ) (book : List ℕ) (start : ℕ) (shift : List ℕ) (o : Meaning) (old : List ℕ) (x y : Result ReplayTold ReplayFault) (new other : List ℕ)
    → PrintsShift n book start shift o old x new → PrintsShift n book start shift o old y other → (x ≡ y) × (new ≡ other)
shift_one n book start shift (refused why) old x y new other p q = (p.0 ∙ sym q.0, p.1 ∙ sym q.1)
shift_one n book start shift (gives bytes) old x y new other p q = bytes_one p q

begun-one : (n : ℕ) (book : List ℕ) (test : Bool) (start shift old : List ℕ) (x y : Result ReplayTold ReplayFault) (new other : List ℕ)
    → PrintsStart n book test start shift old x new → PrintsStart n book test start shift old y other → (x ≡ y) × (new ≡ other)
begun-one n book false start shift old x y new other p q = (p.0 ∙ sym q.0, p.1 ∙ sym q.1)
begun-one n book true start shift old x y new other (v, s, p) (w, t, q) =
    shift_one n book v shift (shift_meaning shift) old x y new other p
    (subst (λ (u : ℕ). PrintsShift n book u shift (shift_meaning shift) old y other) (start_one t s) q)

-- any two results for the same arguments and the same room are equal, and so are the two rooms
pub print_unique : (book start shift old : List ℕ) (x y : Result ReplayTold ReplayFault) (new other : List ℕ)
    → PrintsReplay book start shift old x new → PrintsReplay book start shift old y other → (x ≡ y) × (new ≡ other)
print_unique book start shift old x y new other (inl (w, f, e, k)) (inl (v, g, d, l)) = (e ∙ ap (λ (u : Refusal). Err (Book u)) (first_unique f g) ∙ sym d, k ∙ sym l)
print_unique book start shift old x y new other (inl (w, f, e, k)) (inr (n, m, sound, p)) = first-clear f (sound-clear sound)
print_unique book start shift old x y new other (inr (n, m, sound, p)) (inl (w, f, e, k)) = first-clear f (sound-clear sound)
print_unique book start shift old x y new other (inr (n, m, sound, p)) (inr (i, j, also, q)) =
    begun-one n book (names_all n (start_words start)) start shift old x y new other p
    (subst (λ (i : ℕ). PrintsStart i book (names_all i (start_words start)) start shift old y other) (sound-one also sound).0 q)

-- ---- how long the text can be

-- the bytes of the printed text; a refusal prints none
abbrev pub text_bytes : Result ReplayTold ReplayFault → ℕ
text_bytes (Ok (Done count)) = count
text_bytes (Ok (AtFault why count)) = count
text_bytes (Err (Book why)) = 0
text_bytes (Err Start) = 0
text_bytes (Err (OfShift why)) = 0

module _ (n : ℕ) (few : n ≤ 7) (book : List ℕ) (start : ℕ) (shift bytes : List ℕ) (short : Short shift bytes) where
  answer-most : (a : Result Replayed Refusal) (count : ℕ) → Replays book start bytes a → count ≡ length (replay_text n shift bytes a) → text_bytes (told_of a count) ≤ 151
  unfolding act_byte seen_byte
  answer-most (Ok (Whole running)) count h e =
      omega (arith, e, reached-length n running few (whole-count book start shift bytes short.readable running h))
  answer-most (Ok (Stopped why running)) count h e =
      let next = stopped-next book start shift bytes short.readable running why h in
      let k = running.count in
      omega (
        arith,
        e,
        stopped-length n shift bytes (number why) running few short.readable.shift_most (omega (arith, next.more, short.readable.bytes_most))
            (short.are_bytes (2 * k)) (short.are_bytes (2 * k + 1)),
      )
  answer-most (Err why) count h e = omega arith

shift_most : (n : ℕ) → n ≤ 7 → (book : List ℕ) (start : ℕ) (shift : List ℕ) → AreBytes shift → (o : Meaning) → shift_meaning shift ≡ o
    → (old : List ℕ) (r : Result ReplayTold ReplayFault) (new : List ℕ) → PrintsShift n book start shift o old r new → text_bytes r ≤ 151
shift_most n few book start shift are (refused why) e old r new p = subst (λ (t : Result ReplayTold ReplayFault). text_bytes t ≤ 151) (sym p.0) (omega arith)
shift_most n few book start shift are (gives bytes) e old r new p =
    subst (λ (t : Result ReplayTold ReplayFault). text_bytes t ≤ 151) (sym p.told)
    (answer-most n few book start shift bytes (gives-short shift bytes are e) p.answer p.count p.replays p.printed.count)

begun-most : (n : ℕ) → n ≤ 7 → (book : List ℕ) (test : Bool) (start shift : List ℕ) → AreBytes shift → (old : List ℕ) (r : Result ReplayTold ReplayFault) (new : List ℕ)
    → PrintsStart n book test start shift old r new → text_bytes r ≤ 151
begun-most n few book false start shift are old r new p = subst (λ (t : Result ReplayTold ReplayFault). text_bytes t ≤ 151) (sym p.0) (omega arith)
begun-most n few book true start shift are old r new (v, s, p) = shift_most n few book v shift are (shift_meaning shift) refl old r new p

-- a room of 151 bytes holds whatever is printed, for every book, every START and every shift of bytes
pub printed-most : (book start shift : List ℕ) → AreBytes shift → (old : List ℕ) (r : Result ReplayTold ReplayFault) (new : List ℕ) → PrintsReplay book start shift old r new → text_bytes r ≤ 151
printed-most book start shift are old r new (inl (w, f, e, k)) = subst (λ (t : Result ReplayTold ReplayFault). text_bytes t ≤ 151) (sym e) (omega arith)
printed-most book start shift are old r new (inr (n, m, sound, p)) = begun-most n sound.settings.most book (names_all n (start_words start)) start shift are old r new p

-- ---- the settings that are printed are a START for the next shift, and say these settings

next_test : ℕ → ℕ → Bool
next_test n v =
    let words = start_words (setting_names n v) in
    names_all n words && all n (λ i. beq (bit v i) (member i (true_indexes 97 words)))

next_tests : T (all 7 (λ k. all 128 (next_test (suc k))))
unfolding next_test setting_names in_order names_all are_names all_names is_name among is_false bare index_of indexes true_indexes member twice split onto all bit digit
next_tests = tt

pub next_start : (n v : ℕ) → 1 ≤ n → n ≤ 7 → v < 2 ^ n → T (names_all n (start_words (setting_names n v))) × StartIs n (start_words (setting_names n v)) v
unfolding next_test
next_start zero v some few below = absurd (omega arith)
next_start (suc k) v some few below =
    let n = suc k in
    let words = start_words (setting_names n v) in
    let same = all n (λ i. beq (bit v i) (member i (true_indexes 97 words))) in
    let passed = all-at 128 (next_test n) (all-at 7 (λ k. all 128 (next_test (suc k))) next_tests k (omega arith)) v (omega (arith, pow_mono {i = n} {j = 7} few)) in (
      and_left (names_all n words) same passed,
      record {
        below = below;
        on = λ i l. beq→eq (bit v i) (member i (true_indexes 97 words))
            (all-at n (λ i. beq (bit v i) (member i (true_indexes 97 words))) (and_right (names_all n words) same passed) i l);
      },
    )

-- ---- the value that is printed of a look that disagrees is the one that it shows

pub really_shows : (n m : ℕ) (book : List ℕ) (v : ℕ) (named : Option Act) (seen : ℕ) → IsAtFault disagrees n m book v named seen
    → (a : Act) × (named ≡ Some a) × (value_digit (eqb seen 0) ≡ 48 + shown v a)
really_shows n m book v named seen (Set i q b, is, allows, unlike) = absurd (unlike (omega (arith, is.second)))
really_shows n m book v named seen (Look i q, is, allows, unlike) = (Look i q, is.names, by_value (bit v i) seen is.second unlike)
  where
    by_value : (b : Bool) (s : ℕ) → s ≤ 1 → (s ≡ seen_as b → ⊥) → value_digit (eqb s 0) ≡ 48 + seen_as b
    by_value true zero h u = refl
    by_value false zero h u = absurd (u refl)
    by_value true (suc zero) h u = absurd (u refl)
    by_value false (suc zero) h u = refl
    by_value b (suc (suc s)) h u = absurd (omega arith)

-- Each answer of `print` exactly where it is due: the book's refusal where it is not sound; of a sound book the refusal of START where that does not name each
-- setting once; then the shift's where that is refused; and of a shift's bytes what the replay answers. What is given is one thing alone, so it is enough that each
-- is allowed, and that no other case allows it.
use Rattle.std.specs.Prelude.{Result, Ok, Err}
use mathlib.Core.Path.{◌≡◌, refl, sym, ap, ◌∙◌, subst}
use mathlib.Core.Logic.{inl, inr, ◌↔◌}
use mathlib.Core.Bool.{Bool, true, false}
use mathlib.Core.List.{List, ◌++◌}
use Prim.Native.Nat.{ℕ, ◌%◌}
use native.Mathlib.Omega.{arith}
use lib.ListN.{length}
use lib.Seq.{take-nil}
use Rattle.refusal.specs.declared.Refusal.{Refusal}
use Rattle.refusal.specs.declared.Refusal.TheVariants.{Shift}
use Rattle.refusal.specs.Order.{First}
use Rattle.refusal.proofs.OrderLaws.{when-gives, first_cases, first-none, first_unique, first-clear, first-split}
use Rattle.book_sound.specs.Sound.{Sound}
use Rattle.book_sound.specs.Rows.{book_rows}
use Rattle.book_sound.proofs.SoundLaws.{sound-settings, sound-clear}
use Rattle.book_sound.proofs.Theorems.{sound-one}
use Rattle.print_answer.specs.Printed.{Prints}
use Rattle.station.specs.Replay.{ShiftFits, replay_rows, Replays}
use Rattle.station.specs.declared.record.Running.{Running}
use Rattle.station.specs.declared.shift.Replayed.{Replayed}
use Rattle.station.specs.declared.shift.Replayed.TheVariants.{Whole, Stopped}
use Rattle.station.proofs.ReplayLaws.{own_rows}
use Rattle.station.proofs.OneAnswer.{replays-one}
use Rattle.station_text.specs.Meaning.{Meaning, refused, gives, read_meaning}
use Rattle.station_text.specs.Grammar.{ShiftTextOf, ended, passing, saying}
use Rattle.station_text.proofs.Theorems.{taken-only}
use Rattle.station_print.specs.Start.{start_words, names_all, StartIs}
use Rattle.station_print.specs.Printed.{replay_text}
use Rattle.station_print.specs.Prints.{shift_meaning, told_of, PrintsBytes, PrintsShift, PrintsStart, PrintsReplay}
use Rattle.station_print.specs.declared.ReplayTold.{ReplayTold}
use Rattle.station_print.specs.declared.ReplayTold.TheVariants.{Done, Stopped as AtFault}
use Rattle.station_print.specs.declared.ReplayFault.{ReplayFault}
use Rattle.station_print.specs.declared.ReplayFault.TheVariants.{Book, Start, Shift as OfShift}
use Rattle.station_print.proofs.Theorems.{start_one}

text-even : {s b : List ℕ} → ShiftTextOf s b → length b % 2 ≡ 0
text-even ended = refl
text-even (passing l h e p) = text-even p
text-even (saying c v h p) = omega (arith, text-even p)

-- whose it is: 0 for a shift that was run, then in the written order
abbrev pub whose : Result ReplayTold ReplayFault → ℕ
whose (Ok (Done count)) = 0
whose (Ok (AtFault why count)) = 0
whose (Err (Book why)) = 1
whose (Err Start) = 2
whose (Err (OfShift why)) = 3

-- another's is none
other : {A : Type 0} {r s t : Result ReplayTold ReplayFault} → r ≡ s → r ≡ t → (whose s ≡ whose t → ⊥) → A
other d e differ = absurd (differ (ap whose (sym d ∙ e)))

module _ (book start shift old : List ℕ) (r : Result ReplayTold ReplayFault) (new : List ℕ) (told : PrintsReplay book start shift old r new) where
  -- ---- the book's

  module _ (why : Refusal) (e : r ≡ Err (Book why)) where
    no_answer : (a : Result Replayed Refusal) (count : ℕ) → r ≡ told_of a count → ⊥
    no_answer (Ok (Whole running)) count d = other d e (λ z. omega arith)
    no_answer (Ok (Stopped w running)) count d = other d e (λ z. omega arith)
    no_answer (Err w) count d = other d e (λ z. omega arith)

    no_shift : (n v : ℕ) (o : Meaning) → PrintsShift n book v shift o old r new → ⊥
    no_shift n v (refused w) p = other p.0 e (λ z. omega arith)
    no_shift n v (gives b) p = no_answer p.answer p.count p.told

    no_start : (n : ℕ) (test : Bool) → PrintsStart n book test start shift old r new → ⊥
    no_start n false p = other p.0 e (λ z. omega arith)
    no_start n true (v, s, p) = no_shift n v (shift_meaning shift) p

    book_only : PrintsReplay book start shift old r new → First (book_rows book) why
    book_only (inl (w, f, d, k)) = let same : w ≡ why = let z = sym d ∙ e in cc in subst (First (book_rows book)) same f
    book_only (inr (n, m, sound, p)) = absurd (no_start n (names_all n (start_words start)) p)

  book_due : (why : Refusal) → First (book_rows book) why → PrintsReplay book start shift old r new → r ≡ Err (Book why)
  book_due why f (inl (w, g, d, k)) = d ∙ ap (λ (u : Refusal). Err (Book u)) (first_unique g f)
  book_due why f (inr (n, m, sound, p)) = first-clear f (sound-clear sound)

  -- for exactly the books that are not sound
  pub book_exact : (why : Refusal) → (r ≡ Err (Book why)) ↔ First (book_rows book) why
  book_exact why = (λ e. book_only why e told, λ f. book_due why f told)

  module _ {n m : ℕ} (sound : Sound book n m) where
    at_book : PrintsStart n book (names_all n (start_words start)) start shift old r new
    at_book = elim told [
      | inl (why, f, e, k) ↦ first-clear f (sound-clear sound)
      | inr (i, j, also, p) ↦
          subst (λ (i : ℕ). PrintsStart i book (names_all i (start_words start)) start shift old r new) (sound-one also sound).0 p
    ]

    -- ---- START's

    some-answer : (a : Result Replayed Refusal) (count : ℕ) → r ≡ told_of a count → r ≡ (Err Start) → ⊥
    some-answer (Ok (Whole running)) count d e = other d e (λ z. omega arith)
    some-answer (Ok (Stopped w running)) count d e = other d e (λ z. omega arith)
    some-answer (Err w) count d e = other d e (λ z. omega arith)

    some_shift : (v : ℕ) (o : Meaning) → PrintsShift n book v shift o old r new → r ≡ (Err Start) → ⊥
    some_shift v (refused w) p e = other p.0 e (λ z. omega arith)
    some_shift v (gives b) p e = some-answer p.answer p.count p.told e

    start_only : (test : Bool) → PrintsStart n book test start shift old r new → (r ≡ (Err Start)) ↔ (test ≡ false)
    start_only false p = (λ e. refl, λ e. p.0)
    start_only true (v, s, p) = (λ e. absurd (some_shift v (shift_meaning shift) p e), λ e. absurd (let z : ◌≡◌ {A = ℕ} 0 1 = cc in omega arith))

    pub start_exact : (r ≡ (Err Start)) ↔ (names_all n (start_words start) ≡ false)
    start_exact = start_only (names_all n (start_words start)) at_book

    -- ---- of a START that names each setting once, the shift's

    module _ (names : names_all n (start_words start) ≡ true) {v : ℕ} (says : StartIs n (start_words start) v) where
      at_start : PrintsShift n book v shift (shift_meaning shift) old r new
      at_start =
          let (w, s, p) = subst (λ (b : Bool). PrintsStart n book b start shift old r new) names at_book in
          subst (λ (u : ℕ). PrintsShift n book u shift (shift_meaning shift) old r new) (start_one s says) p

      pub shift_refused : (why : Refusal) → shift_meaning shift ≡ refused why → (r ≡ Err (OfShift why)) × (new ≡ old)
      shift_refused why e = subst (λ (o : Meaning). PrintsShift n book v shift o old r new) e at_start

      -- ---- of the bytes of a shift, what the replay answers

      module _ {bytes : List ℕ} (means : shift_meaning shift ≡ gives bytes) where
        at_shift : PrintsBytes n book v shift bytes old r new
        at_shift = subst (λ (o : Meaning). PrintsShift n book v shift o old r new) means at_start

        -- it is told and printed as it is
        pub replay_told : (a : Result Replayed Refusal) → Replays book v bytes a → (count : ℕ) × (r ≡ told_of a count) × Prints old (replay_text n shift bytes a) count new
        replay_told a h =
            let p = at_shift in
            let same = replays-one book v bytes p.answer a p.replays h in (
              p.count,
              p.told ∙ ap (λ (x : Result Replayed Refusal). told_of x p.count) same,
              subst (λ (x : Result Replayed Refusal). Prints old (replay_text n shift bytes x) p.count new) same p.printed,
            )

        module _ (k : ℕ) where
          done_by : (a : Result Replayed Refusal) (count : ℕ) → Replays book v bytes a → r ≡ told_of a k → r ≡ Ok (Done count) → (running : Running) × Replays book v bytes (Ok (Whole running))
          done_by (Ok (Whole running)) count h d e = (running, h)
          done_by (Ok (Stopped w running)) count h d e = absurd (let z : ◌≡◌ {A = ℕ} 0 1 = cc in omega arith)
          done_by (Err w) count h d e = other d e (λ z. omega arith)

          stopped_by : (why : Refusal) (a : Result Replayed Refusal) (count : ℕ) → Replays book v bytes a → r ≡ told_of a k → r ≡ Ok (AtFault why count)
              → (running : Running) × Replays book v bytes (Ok (Stopped why running))
          stopped_by why (Ok (Whole running)) count h d e = absurd (let z : ◌≡◌ {A = ℕ} 0 1 = cc in omega arith)
          stopped_by why (Ok (Stopped w running)) count h d e =
              let same : w ≡ why = cc in
              (running, subst (λ (u : Refusal). Replays book v bytes (Ok (Stopped u running))) same h)
          stopped_by why (Err w) count h d e = other d e (λ z. omega arith)

          refused_by : (why : Refusal) (a : Result Replayed Refusal) → Replays book v bytes a → r ≡ told_of a k → r ≡ Err (OfShift why) → Replays book v bytes (Err why)
          refused_by why (Ok (Whole running)) h d e = other d e (λ z. omega arith)
          refused_by why (Ok (Stopped w running)) h d e = other d e (λ z. omega arith)
          refused_by why (Err w) h d e = let same : w ≡ why = cc in subst (λ (u : Refusal). Replays book v bytes (Err u)) same h

        -- every act was done
        pub done_exact : ((count : ℕ) × (r ≡ Ok (Done count))) ↔ ((running : Running) × Replays book v bytes (Ok (Whole running)))
        done_exact = (
          λ (count, e). (let p = at_shift in done_by p.count p.answer count p.replays p.told e),
          λ (running, h). (let x = replay_told (Ok (Whole running)) h in (x.0, x.1)),
        )

        -- an act was at fault, with this refusal
        pub stopped_exact : (why : Refusal) → ((count : ℕ) × (r ≡ Ok (AtFault why count))) ↔ ((running : Running) × Replays book v bytes (Ok (Stopped why running)))
        stopped_exact why = (
          λ (count, e). (let p = at_shift in stopped_by p.count why p.answer count p.replays p.told e),
          λ (running, h). (let x = replay_told (Ok (Stopped why running)) h in (x.0, x.1)),
        )

        -- the shift cannot be run
        pub refused_exact : (why : Refusal) → (r ≡ Err (OfShift why)) ↔ Replays book v bytes (Err why)
        refused_exact why = (
          λ e. (let p = at_shift in refused_by p.count why p.answer p.replays p.told e),
          λ h. (replay_told (Err why) h).1,
        )

-- ---- where a shift cannot be run

-- 26 alone is left of what a replay refuses, and only for an odd length: the book is sound, and START says a valuation below 2^n
module _ {book : List ℕ} {n m v : ℕ} {words : List (List ℕ)} (sound : Sound book n m) (says : StartIs n words v) (bytes : List ℕ) (why : Refusal)
    (run : Replays book v bytes (Err why)) where
  pub only_odd : (why ≡ Shift) × (length bytes % 2 ≡ 0 → ⊥)
  unfolding replay_rows
  only_odd = elim (first-split (book_rows book) (own_rows book v bytes) run) [
    | inl f ↦ first-clear f (sound-clear sound)
    | inr (clear, f) ↦ elim (first_cases f) [
      | inl g ↦ (let (fails, same) = when-gives g in (
        same,
        λ even. fails (subst (λ (k : ℕ). ShiftFits k v bytes) (sym (sound-settings sound)) (record { even = even; below = says.below })),
      ))
      | inr (never, none) ↦ first-none none
    ]
  ]

  -- so no text is refused with it, since each of its lines gives a whole record
  pub text_runs : (shift : List ℕ) → read_meaning shift ≡ gives bytes → ⊥
  text_runs shift e = only_odd.1 (text-even (taken-only shift bytes e).0)

-- ---- a refusal leaves the room as it was

bytes-kept : {n : ℕ} {book : List ℕ} {v : ℕ} {shift bytes old new : List ℕ} {r : Result ReplayTold ReplayFault} → PrintsBytes n book v shift bytes old r new → (whose r ≡ 0 → ⊥) → new ≡ old
bytes-kept {n} {book} {v} {shift} {bytes} {old} {new} {r} p refusal = by_answer p.answer p.printed p.told
  where
    by_answer : (a : Result Replayed Refusal) → Prints old (replay_text n shift bytes a) p.count new → r ≡ told_of a p.count → new ≡ old
    by_answer (Ok (Whole running)) w d = absurd (refusal (ap whose d))
    by_answer (Ok (Stopped why running)) w d = absurd (refusal (ap whose d))
    by_answer (Err why) w d = w.room ∙ ap (λ (t : List ℕ). t ++ old) (take-nil (length old))

shift_kept : (n : ℕ) (book : List ℕ) (v : ℕ) (shift : List ℕ) (o : Meaning) (old : List ℕ) (r : Result ReplayTold ReplayFault) (new : List ℕ) → PrintsShift n book v shift o old r new
    → (whose r ≡ 0 → ⊥) → new ≡ old
shift_kept n book v shift (refused why) old r new p refusal = p.1
shift_kept n book v shift (gives bytes) old r new p refusal = bytes-kept p refusal

begun_kept : (n : ℕ) (book : List ℕ) (test : Bool) (start shift old : List ℕ) (r : Result ReplayTold ReplayFault) (new : List ℕ) → PrintsStart n book test start shift old r new
    → (whose r ≡ 0 → ⊥) → new ≡ old
begun_kept n book false start shift old r new p refusal = p.1
begun_kept n book true start shift old r new (v, s, p) refusal = shift_kept n book v shift (shift_meaning shift) old r new p refusal

pub refusal_keeps : (book start shift old : List ℕ) (r : Result ReplayTold ReplayFault) (new : List ℕ) → PrintsReplay book start shift old r new → (whose r ≡ 0 → ⊥) → new ≡ old
refusal_keeps book start shift old r new (inl (why, f, e, k)) refusal = k
refusal_keeps book start shift old r new (inr (n, m, sound, p)) refusal = begun_kept n book (names_all n (start_words start)) start shift old r new p refusal

-- From what was read of each leg to what is read of the text: one law for each return.
use mathlib.Core.Path.{◌≡◌, refl, sym, ap, ap₂, ◌∙◌}
use mathlib.Core.Bool.{true}
use mathlib.Core.List.{List}
use Prim.Native.Nat.{ℕ, suc, ◌+◌, ◌-◌, ◌≤◌}
use native.Mathlib.Omega.{arith}
use lib.ListN.{length, take, drop, length-drop}
use lib.Seq.{length-take-le}
use Rattle.std.proofs.Common.{Ok, Err, Some, None}
use Rattle.sheet_words.specs.declared.Fault.{Fault}
use Rattle.sheet_words.specs.Words.{split, newline}
use Rattle.sheet_words.proofs.Pieces.{tail}
use Rattle.sheet_question.specs.Asked.{Asked}
use Rattle.sheet_question.specs.Desk.{AskedOnDesk}
use Rattle.sheet_question.specs.Question.{QuestionMeaning, refused, asked, question_meaning}
use Rattle.sheet_question.specs.Second.{second_from, second_meaning}
use Rattle.sheet_question.specs.Reads.{ReadsQuestion}
use Rattle.sheet_question.specs.declared.desk.AskedDesk.{AskedDesk}
use Rattle.sheet_question.proofs.ReadLaws.{not-long}
use Rattle.sheet_question.proofs.SecondLaws.{second-not-long}
use Rattle.sheet_legs.specs.Legs.{LegsMeaning, refused_at, one, two, first_then, legs_of, legs_meaning}
use Rattle.sheet_legs.specs.Reads.{CutsAt, ReadsLegs}
use Rattle.sheet_legs.specs.declared.ThenLine.{ThenLine}
use Rattle.sheet_legs.proofs.CutLaws.{legs_not-long}

-- ---- what was read of a leg tells what it means

module _ (n : ℕ) where
  pub leg_refused : (o : QuestionMeaning) {f : Fault} → ReadsQuestion n o (Err f) → o ≡ refused f.why f.line
  leg_refused (refused r at) h = ap₂ refused (sym h.0) (sym h.1)
  leg_refused (asked a) h = absurd h

  pub leg_asked : (o : QuestionMeaning) {d : AskedDesk} → ReadsQuestion n o (Ok d) → (a : Asked) × (o ≡ asked a) × AskedOnDesk n a d
  leg_asked (refused r at) h = absurd h
  leg_asked (asked a) h = (a, refl, h)

  -- ---- what is read of the text

  pub legs_refused : {o : LegsMeaning} (f : Fault) → o ≡ refused_at f.why f.line → ReadsLegs n o (Err f)
  legs_refused f e = rw e (refl, refl)

  pub legs_one : {o : LegsMeaning} {a : Asked} {d : AskedDesk} → o ≡ one a → AskedOnDesk n a d → ReadsLegs n o (Ok (record { first = d; second = None }))
  legs_one e h = rw e (h, refl)

  pub legs_two : {o : LegsMeaning} {a b : Asked} {d e : AskedDesk} → o ≡ two a b → AskedOnDesk n a d → AskedOnDesk n b e
      → ReadsLegs n o (Ok (record { first = d; second = Some e }))
  legs_two {e = e} f h k = rw f (h, (e, refl, k))

-- ---- where the text is cut

module _ (n m : ℕ) (s : List ℕ) (then : ThenLine) (cut : CutsAt s (Some then)) (short : length s ≤ 65536) where
  front_long : length (take then.at s) ≤ 65536
  front_long = omega (arith, length-take-le then.at s (omega (arith, cut.0)), cut.0, short)

  behind-long : length (drop (then.at + 5) s) ≤ 65536
  behind-long = omega (arith, length-drop (then.at + 5) s, short)

  pub legs_parted : first_then (question_meaning 0 true n m (take then.at s)) (second_meaning then.number n m (take (length s - (then.at + 5)) (drop (then.at + 5) s))) ≡ legs_meaning n m s
  legs_parted =
      ap₂ first_then (not-long 0 true n m (take then.at s) front_long)
      (ap (second_meaning then.number n m) (tail s (then.at + 5)) ∙ second-not-long then.number n m (drop (then.at + 5) s) behind-long
      ∙ ap (λ (k : ℕ). second_from n m (suc k) (split newline (drop (then.at + 5) s))) (sym cut.2))
      ∙ sym (legs_not-long n m s short ∙ ap (legs_of n m (split newline s)) cut.1)

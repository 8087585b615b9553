-- From what was read of a question text with one leg or two to what is printed for it: one law for each return of `ask_sound`, by what the text means.
use mathlib.Core.Path.{◌≡◌, refl, sym, ap, ap₂, ◌∙◌, subst, subst₂}
use mathlib.Core.List.{List}
use Prim.Native.Nat.{ℕ}
use Rattle.refusal.specs.Refusals.{number}
use Rattle.std.proofs.Common.{Result, Ok, Err, Some, None}
use Rattle.sheet_words.specs.declared.Fault.{Fault}
use Rattle.book_sound.specs.Sound.{Sound}
use Rattle.print_answer.specs.Printed.{refused_text, Prints}
use Rattle.question.specs.Asks.{ValidQuestion}
use Rattle.question.specs.Legs.{ValidLegs}
use Rattle.sheet_question.specs.Asked.{Asked}
use Rattle.sheet_question.specs.Desk.{AskedOnDesk}
use Rattle.sheet_question.specs.Reads.{within}
use Rattle.sheet_question.specs.declared.desk.AskedDesk.{AskedDesk}
use Rattle.sheet_question.proofs.ReadLaws.{within_same}
use Rattle.sheet_legs.specs.Legs.{LegsMeaning, refused_at, one, two, legs_meaning}
use Rattle.sheet_legs.specs.Reads.{ReadsLegs}
use Rattle.sheet_legs.specs.declared.Legs.{Legs}
use Rattle.sheet_legs.proofs.Whole.{LegsFit, legs_fit}
use Rattle.sheet_ask.specs.Asks.{PrintsAsked, PrintsTwo, PrintsLegs}
use Rattle.sheet_ask.specs.Inner.{Learnt, question_in, goal_in}
use Rattle.sheet_ask.proofs.AskedQuestion.{asked-valid, asked_legs, desk_asks, desk_second}

module _ {book : List ℕ} {n m : ℕ} (sound : Sound book n m) (text : List ℕ) where
  -- the book's size is in its bounds
  own : (x : Result Legs Fault) → ReadsLegs (within 7 n) (legs_meaning (within 7 n) (within 8 m) text) x → ReadsLegs n (legs_meaning n m text) x
  own x reads =
      subst₂ (λ (i j : ℕ). ReadsLegs i (legs_meaning i j text) x)
      (within_same 7 n sound.settings.most sound.settings.least) (within_same 8 m sound.posts.most sound.posts.least) reads

  module _ (legs : Legs) (reads : ReadsLegs (within 7 n) (legs_meaning (within 7 n) (within 8 m) text) (Ok legs)) where
    -- ---- one leg

    module _ (f : legs.second ≡ None) where
      one-whole : (a : Asked) × (legs_meaning n m text ≡ one a) × AskedOnDesk n a legs.first
      one-whole = by_meaning (legs_meaning n m text) refl (own (Ok legs) reads)
        where
          by_meaning : (o : LegsMeaning) → legs_meaning n m text ≡ o → ReadsLegs n o (Ok legs) → (a : Asked) × (legs_meaning n m text ≡ one a) × AskedOnDesk n a legs.first
          by_meaning (refused_at x line) s h = absurd h
          by_meaning (one a) s h = (a, s, h.0)
          by_meaning (two a b) s (h, (e, g, k)) = let z : None ≡ Some e = sym f ∙ g in absurd cc

      pub one-learnt : Learnt legs.first
      one-learnt = (one-whole.2.learn_size, one-whole.2.asks_most)

      pub one-valid : ValidQuestion book (question_in legs.first) (goal_in legs.first) n m
      one-valid = asked-valid (subst (LegsFit n m) one-whole.1 (legs_fit n m text)) (desk_asks one-whole.2) sound

      pub one-prints : (ranks out : List ℕ) (r : ℕ) (ranks' out' : List ℕ) → PrintsAsked n book (question_in legs.first) (goal_in legs.first) ranks out r ranks' out'
          → PrintsLegs n book (legs_meaning n m text) ranks out r ranks' out'
      one-prints ranks out r ranks' out' p =
          subst (λ (o : LegsMeaning). PrintsLegs n book o ranks out r ranks' out') (sym one-whole.1) (question_in legs.first, goal_in legs.first, desk_asks one-whole.2, p)

    -- ---- two legs

    module _ {e : AskedDesk} (f : legs.second ≡ Some e) where
      two-whole : (a : Asked) × (b : Asked) × (legs_meaning n m text ≡ two a b) × AskedOnDesk n a legs.first × AskedOnDesk n b e
      two-whole = by_meaning (legs_meaning n m text) refl (own (Ok legs) reads)
        where
          by_meaning : (o : LegsMeaning) → legs_meaning n m text ≡ o → ReadsLegs n o (Ok legs)
              → (a : Asked) × (b : Asked) × (legs_meaning n m text ≡ two a b) × AskedOnDesk n a legs.first × AskedOnDesk n b e
          by_meaning (refused_at x line) s h = absurd h
          by_meaning (one a) s (h, g) = let z : None ≡ Some e = sym g ∙ f in absurd cc
          by_meaning (two a b) s (h, (d, g, k)) = (a, b, s, h, subst (AskedOnDesk n b) (let z : Some d ≡ Some e = sym g ∙ f in cc) k)

      pub two-learnt : Learnt legs.first × Learnt e
      two-learnt = ((two-whole.3.learn_size, two-whole.3.asks_most), (two-whole.4.learn_size, two-whole.4.asks_most))

      pub two-valid : ValidLegs book (question_in legs.first) (goal_in legs.first) e.question.team (goal_in e) n m
      two-valid =
          let fit = subst (LegsFit n m) two-whole.2 (legs_fit n m text) in
          asked_legs fit.0 (desk_asks two-whole.3) fit.1 (desk_second two-whole.4) sound

      pub two-prints : (ranks out : List ℕ) (r : ℕ) (ranks' out' : List ℕ)
          → PrintsTwo n book (question_in legs.first) (goal_in legs.first) e.question.team (goal_in e) ranks out r ranks' out'
          → PrintsLegs n book (legs_meaning n m text) ranks out r ranks' out'
      two-prints ranks out r ranks' out' p =
          subst (λ (o : LegsMeaning). PrintsLegs n book o ranks out r ranks' out') (sym two-whole.2)
          (question_in legs.first, goal_in legs.first, e.question.team, goal_in e, desk_asks two-whole.3, desk_second two-whole.4, p)

  -- ---- a text that is refused

  pub refused-prints : (ranks out : List ℕ) (r : ℕ) (out' : List ℕ) (f : Fault) (x : ℕ) → ReadsLegs (within 7 n) (legs_meaning (within 7 n) (within 8 m) text) (Err f)
      → x ≡ number f.why → Prints out (refused_text x f.line) r out' → PrintsLegs n book (legs_meaning n m text) ranks out r ranks out'
  refused-prints ranks out r out' f x reads g p = by_meaning (legs_meaning n m text) (own (Err f) reads)
    where
      by_meaning : (o : LegsMeaning) → ReadsLegs n o (Err f) → PrintsLegs n book o ranks out r ranks out'
      by_meaning (refused_at y at) h = record {
        ranks_kept = refl;
        printed = subst (λ (t : List ℕ). Prints out t r out') (ap₂ (λ (a b : ℕ). refused_text a b) (g ∙ ap number h.0) h.1) p;
      }
      by_meaning (one a) h = absurd h
      by_meaning (two a b) h = absurd h

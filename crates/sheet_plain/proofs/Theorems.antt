-- What is promised of what the plain finder says of a question text: it is one thing alone; and of a text of one leg it is what `ask` prints of the same
-- book and text, by the first finder: the same reach or cannot, the same height, the same refusals. So the two of `both` are never apart.
use mathlib.Core.Path.{◌≡◌, refl, sym, ap, ◌∙◌, subst, subst₂}
use mathlib.Core.Logic.{inl, inr}
use mathlib.Core.Bool.{true}
use mathlib.Core.List.{List}
use Prim.Native.Nat.{ℕ, ◌^◌, ◌≤◌}
use native.Mathlib.Nat.{pow-le-pow_right}
use native.Mathlib.Omega.{arith}
use lib.Dec.{lit<}
use lib.ListN.{length}
use Rattle.ground.proofs.Search.{least_unique}
use Rattle.refusal.specs.Refusals.{number, place}
use Rattle.refusal.proofs.OrderLaws.{first_unique, first-clear}
use Rattle.book_sound.proofs.SoundLaws.{sound-clear}
use Rattle.book_sound.proofs.Theorems.{sound-one}
use Rattle.knowledge.specs.Goal.{Goal}
use Rattle.plan.specs.Plans.{System}
use Rattle.print_answer.specs.Printed.{reach_text, refused_text, Prints}
use Rattle.question.specs.Question.{system_of, start_of}
use Rattle.question.specs.declared.Question.{Question}
use Rattle.sheet_words.specs.Words.{split, newline}
use Rattle.sheet_question.specs.Question.{QuestionMeaning, refused, asked, question_meaning}
use Rattle.sheet_legs.specs.Legs.{whole, cut_lines}
use Rattle.sheet_ask.specs.Asks.{PrintsFound, PrintsAsked, PrintsQuestion, AsksBook}
use Rattle.sheet_ask.proofs.AskedQuestion.{same-goal, same_question}
use Rattle.sheet_ask.proofs.Theorems.{ask_told}
use Rattle.sheet_plain.specs.Asks.{SaysPlainly, SaysOfText, AsksPlainly, PrintsAs}
use Rattle.std.proofs.Common.{Result, Ok, Err}
use Rattle.refusal.specs.declared.Refusal.{Refusal}
use Rattle.finder_plain.specs.declared.finding.PlainAnswer.{PlainAnswer}
use Rattle.finder_plain.specs.declared.finding.PlainAnswer.TheVariants.{Reach, Cannot}
use Rattle.sheet_plain.specs.declared.AskFault.{AskFault}
use Rattle.sheet_plain.specs.declared.AskFault.TheVariants.{Book as BookRefused}

-- ---- one result alone

says-one : (S : System) (start : ℕ) (x y : Result PlainAnswer AskFault) → SaysPlainly S start x → SaysPlainly S start y → x ≡ y
says-one S start (Ok (Reach h)) (Ok (Reach j)) a b = ap (λ (k : ℕ). Ok (Reach k)) (least_unique a b)
says-one S start (Ok (Reach h)) (Ok Cannot) a b = absurd (b a.here.0 a.here.1)
says-one S start (Ok Cannot) (Ok (Reach j)) a b = absurd (a b.here.0 b.here.1)
says-one S start (Ok Cannot) (Ok Cannot) a b = refl
says-one S start (Ok x) (Err f) a b = absurd b
says-one S start (Err f) y a b = absurd a

question_one : (n : ℕ) (book : List ℕ) (o : QuestionMeaning) (x y : Result PlainAnswer AskFault) → SaysOfText n book o x → SaysOfText n book o y → x ≡ y
question_one n book (refused why line) x y a b = a ∙ sym b
question_one n book (asked v) x y (q, goal, k, a) (q', goal', l, b) =
    says-one (system_of n book q goal) (start_of q) x y a
    (subst₂ (λ (c : Question) (g : Goal). SaysPlainly (system_of n book c g) (start_of c) y) (same_question l k) (same-goal l k) b)

pub told_unique : (book question : List ℕ) (x y : Result PlainAnswer AskFault) → AsksPlainly book question x → AsksPlainly book question y → x ≡ y
told_unique book question x y (inl (w, f, e)) (inl (v, g, d)) = e ∙ ap (λ (r : Refusal). Err (BookRefused r)) (first_unique f g) ∙ sym d
told_unique book question x y (inl (w, f, e)) (inr (n, m, sound, c)) = first-clear f (sound-clear sound)
told_unique book question x y (inr (n, m, sound, c)) (inl (w, f, e)) = first-clear f (sound-clear sound)
told_unique book question x y (inr (n, m, sound, a)) (inr (k, l, other, b)) =
    let e = sound-one other sound in
    question_one n book (question_meaning 0 true n m question) x y a
    (subst₂ (λ (i j : ℕ). SaysOfText i book (question_meaning 0 true i j question) y) e.0 e.1 b)

-- ---- what `ask` prints for what the plain finder says

same-found : (S : System) (start : ℕ) (x : Result PlainAnswer AskFault) (out : List ℕ) (r : ℕ) (out' : List ℕ) → SaysPlainly S start x → PrintsFound S start out r out' → PrintsAs x out r out'
same-found S start (Ok (Reach h)) out r out' a (inl (j, p, l, w, printed)) = (p, subst (λ (i : ℕ). Prints out (reach_text i p) r out') (least_unique l a) printed)
same-found S start (Ok (Reach h)) out r out' a (inr (none, printed)) = absurd (none a.here.0 a.here.1)
same-found S start (Ok Cannot) out r out' a (inl (j, p, l, w, printed)) = absurd (a l.here.0 l.here.1)
same-found S start (Ok Cannot) out r out' a (inr (none, printed)) = printed
same-found S start (Err f) out r out' a k = absurd a

module _ (ranks out : List ℕ) (r : ℕ) (ranks' out' : List ℕ) (enough : 823543 ≤ length ranks) where
  same_asked : {n : ℕ} (book : List ℕ) (q : Question) (goal : Goal) (x : Result PlainAnswer AskFault) → 7 ^ n ≤ 823543 → SaysPlainly (system_of n book q goal) (start_of q) x
      → PrintsAsked n book q goal ranks out r ranks' out' → PrintsAs x out r out'
  same_asked book q goal x few a (inl (short, printed)) = absurd (omega (arith, short, few, enough))
  same_asked {n} book q goal x few a (inr (room, filled, found)) = same-found (system_of n book q goal) (start_of q) x out r out' a found

  same_question_text : (n : ℕ) (book : List ℕ) (o : QuestionMeaning) (x : Result PlainAnswer AskFault) → 7 ^ n ≤ 823543 → SaysOfText n book o x
      → PrintsQuestion n book o ranks out r ranks' out' → PrintsAs x out r out'
  same_question_text n book (refused why line) x few e printed = subst (λ (t : Result PlainAnswer AskFault). PrintsAs t out r out') (sym e) printed.printed
  same_question_text n book (asked v) x few (q, goal, k, a) (q', goal', l, b) =
      same_asked book q goal x few a
      (subst₂ (λ (c : Question) (g : Goal). PrintsAsked n book c g ranks out r ranks' out') (same_question l k) (same-goal l k) b)

  -- with room for the ranks of seven settings, 7^7, and of a text of one leg: one without a line `then`
  pub both_same : (book question : List ℕ) (x : Result PlainAnswer AskFault) → cut_lines (split newline question) ≡ whole → AsksPlainly book question x
      → AsksBook book question ranks out r ranks' out' → PrintsAs x out r out'
  both_same book question x alone (inl (w, f, e)) (inl (v, g, printed)) =
      subst (λ (t : Result PlainAnswer AskFault). PrintsAs t out r out') (sym e)
      (subst (λ (z : _). Prints out (refused_text (number z) (place z)) r out') (first_unique g f) printed.printed)
  both_same book question x alone (inl (w, f, e)) (inr (n, m, sound, c)) = first-clear f (sound-clear sound)
  both_same book question x alone (inr (n, m, sound, c)) (inl (w, f, e)) = first-clear f (sound-clear sound)
  both_same book question x alone (inr (n, m, sound, a)) (inr (k, l, other, b)) =
      same_question_text n book (question_meaning 0 true n m question) x (pow-le-pow_right (lit< tt) sound.settings.most) a
      (ask_told sound question ranks out r ranks' out' (inr (k, l, other, b)) alone)

-- What is asked of a sound book is one question, and it is valid: refusals 10 to 12 deny nothing of it. Name by name, and table by table.
use mathlib.Core.Path.{◌≡◌, sym, ap, ◌∙◌, subst}
use mathlib.Core.Bool.{false}
use mathlib.Core.List.{List}
use Prim.Native.Nat.{ℕ, ◌*◌}
use native.Mathlib.Omega.{arith}
use lib.Dec.{T}
use lib.ListN.{length}
use Rattle.ground.specs.Digits.{bit}
use Rattle.ground.proofs.Bools.{both, false→T}
use Rattle.ground.proofs.Bits.{bit_of_zero}
use Rattle.formula.specs.Read.{Accepts}
use Rattle.book_sound.specs.Sound.{Sound}
use Rattle.knowledge.specs.Goal.{Goal, goal_of}
use Rattle.question.specs.Rows.{TeamFits, KnownFits, HeldFits, GoalFits}
use Rattle.question.specs.Asks.{ValidQuestion}
use Rattle.question.specs.Legs.{ValidLegs}
use Rattle.question.specs.declared.Question.{Question}
use Rattle.sheet_words.specs.Words.{member}
use Rattle.sheet_words.proofs.Unique.{mask_one}
use Rattle.sheet_question.specs.Asked.{Asked}
use Rattle.sheet_question.specs.Desk.{TablesOf, AskedOnDesk}
use Rattle.sheet_question.specs.declared.desk.AskedDesk.{AskedDesk}
use Rattle.sheet_question.proofs.Fits.{AskedFits}
use Rattle.sheet_question.proofs.Stated.{true_known, tables-length, tables-within}
use Rattle.sheet_question.proofs.Unique.{table-one, tables-one}
use Rattle.sheet_ask.specs.Asks.{QuestionAsks, SecondAsks}
use Rattle.sheet_ask.specs.Inner.{learn_in, question_in, goal_in}

-- ---- the question is valid

-- a team and a goal that are asked fit
module _ {n m : ℕ} {a : Asked} (fits : AskedFits n m a) where
  team-fits : {team : ℕ} → ((p : ℕ) → bit team p ≡ member p a.team) → TeamFits m team
  team-fits {team} posts = record {
    someone = λ e.
        let s = fits.someone in
        both (bit team s.0) (subst T (sym (posts s.0)) s.1) (false→T (ap (λ (t : ℕ). bit t s.0) e ∙ bit_of_zero s.0));
    posts = λ p t. fits.team p (subst T (posts p) t);
  }

  goal-fits : {goal : Goal} → Accepts n a.make goal.make → TablesOf n a.asks goal.learn → GoalFits n goal
  goal-fits {goal} made learnt =
      let size : length goal.learn ≡ 16 * length a.asks = tables-length n a.asks goal.learn learnt in
      record {
        make_bytes = made.table.sixteen;
        learn_bytes = omega (arith, size);
        learn_most = omega (arith, size, fits.asks_most);
        make_within = made.table.within;
        learn_within = λ j l. tables-within n a.asks goal.learn j learnt (omega (arith, size, l));
      }

module _ {n m : ℕ} {a : Asked} {q : Question} {goal : Goal} (fits : AskedFits n m a) (x : QuestionAsks n a q goal) where
  asked-known : KnownFits n q.known q.values
  asked-known = record {
    settings = λ i t. fits.known i (subst T (x.settings_known i) t);
    valued = λ i t. subst T (sym (x.settings_known i)) (true_known a.known i (subst T (x.settings_true i) t));
  }

  asked-held : HeldFits n q.held
  asked-held = record { settings = λ i t. fits.held i (subst T (x.settings_held i) t) }

  pub asked-valid : {book : List ℕ} → Sound book n m → ValidQuestion book q goal n m
  asked-valid s = record { sound = s; team = team-fits fits x.posts; known = asked-known; held = asked-held; goal = goal-fits fits x.made x.learnt }

  -- with a second leg
  pub asked_legs : {b : Asked} {second : ℕ} {wanted : Goal} → AskedFits n m b → SecondAsks n b second wanted → {book : List ℕ} → Sound book n m
      → ValidLegs book q goal second wanted n m
  asked_legs more y s = record { first = asked-valid s; second_team = team-fits more y.posts; second_goal = goal-fits more y.made y.learnt }

-- ---- it is one alone

module _ {n : ℕ} {a : Asked} {q q' : Question} {goal goal' : Goal} (x : QuestionAsks n a q goal) (y : QuestionAsks n a q' goal') where
  pub same-goal : goal ≡ goal'
  same-goal =
      let m : goal.make ≡ goal'.make = table-one x.made y.made in
      let l : goal.learn ≡ goal'.learn = tables-one n a.asks goal.learn goal'.learn x.learnt y.learnt in
      let e : goal_of goal.make goal.learn ≡ goal_of goal'.make goal'.learn = cc in
      e

  pub same_question : q ≡ q'
  same_question =
      let t : q.team ≡ q'.team = mask_one q.team q'.team (λ p. x.posts p ∙ sym (y.posts p)) in
      let k : q.known ≡ q'.known = mask_one q.known q'.known (λ i. x.settings_known i ∙ sym (y.settings_known i)) in
      let v : q.values ≡ q'.values = mask_one q.values q'.values (λ i. x.settings_true i ∙ sym (y.settings_true i)) in
      let o : q.held ≡ q'.held = mask_one q.held q'.held (λ i. x.settings_held i ∙ sym (y.settings_held i)) in
      let e : ◌≡◌ {A = Question} (record { team = q.team; known = q.known; values = q.values; held = q.held })
      (record { team = q'.team; known = q'.known; values = q'.values; held = q'.held }) = cc in
      e

module _ {n : ℕ} {b : Asked} {second second' : ℕ} {wanted wanted' : Goal} (x : SecondAsks n b second wanted) (y : SecondAsks n b second' wanted') where
  pub same_second : second ≡ second'
  same_second = mask_one second second' (λ p. x.posts p ∙ sym (y.posts p))

  pub same_wanted : wanted ≡ wanted'
  same_wanted =
      let m : wanted.make ≡ wanted'.make = table-one x.made y.made in
      let l : wanted.learn ≡ wanted'.learn = tables-one n b.asks wanted.learn wanted'.learn x.learnt y.learnt in
      let e : goal_of wanted.make wanted.learn ≡ goal_of wanted'.make wanted'.learn = cc in
      e

-- ---- the question on the desk

pub desk_asks : {n : ℕ} {a : Asked} {d : AskedDesk} → AskedOnDesk n a d → QuestionAsks n a (question_in d) (goal_in d)
unfolding learn_in
desk_asks h = record { made = h.make; learnt = h.learn; posts = h.team; settings_known = h.known; settings_true = h.values; settings_held = h.held }

pub desk_second : {n : ℕ} {b : Asked} {d : AskedDesk} → AskedOnDesk n b d → SecondAsks n b d.question.team (goal_in d)
unfolding learn_in
desk_second h = record { made = h.make; learnt = h.learn; posts = h.team }

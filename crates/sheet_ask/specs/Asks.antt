-- What is printed for a question text, of one leg or of two, that is put to any bytes as a book. "Order of `ask`: the book's 6 to 9, 24 (place 0), the
-- lines, then 13"; then "`cannot`, or `reach H` and a line per plan byte". And what is left in the lent rank table.
use Rattle.std.specs.Prelude.{◌≡◌, ◌⊎◌, List, ℕ, ◌+◌, ◌*◌, ◌^◌, ◌≤◌, ◌<◌, length, get_or}
use Rattle.ground.specs.Digits.{bit}
use Rattle.ground.specs.Search.{Least}
use Rattle.refusal.specs.declared.Refusal.{Refusal}
use Rattle.refusal.specs.declared.Refusal.TheVariants.{RankRoom}
use Rattle.refusal.specs.Refusals.{number, place}
use Rattle.refusal.specs.Order.{First}
use Rattle.formula.specs.Read.{Accepts}
use Rattle.book_sound.specs.Sound.{Sound}
use Rattle.book_sound.specs.Rows.{book_rows}
use Rattle.knowledge.specs.Goal.{Goal}
use Rattle.plan.specs.Plans.{System, Plan}
use Rattle.plan.specs.Ranks.{Reach, Cannot, IsRank, Written}
use Rattle.print_answer.specs.Printed.{refused_text, cannot_text, reach_text, Prints}
use Rattle.question.specs.Question.{system_of, start_of}
use Rattle.question.specs.Legs.{second_system, first_system}
use Rattle.question.specs.declared.Question.{Question}
use Rattle.finder.specs.Finds.{RanksFilled}
use Rattle.sheet_words.specs.Words.{member}
use Rattle.sheet_question.specs.Asked.{Asked, known_settings, known_true, held_settings}
use Rattle.sheet_question.specs.Desk.{TablesOf}
use Rattle.sheet_question.specs.Question.{QuestionMeaning, refused, asked}
use Rattle.sheet_legs.specs.Legs.{LegsMeaning, refused_at, one, two, legs_meaning}

-- the question that is asked over n settings: "Every rule and goal is worked on as a table", and a mask has a bit for each post or setting that is named
pub record QuestionAsks (n : ℕ) (a : Asked) (q : Question) (goal : Goal) : Type 0 where
  pub made : Accepts n a.make goal.make
  pub learnt : TablesOf n a.asks goal.learn
  pub posts : (p : ℕ) → bit q.team p ≡ member p a.team
  pub settings_known : (i : ℕ) → bit q.known i ≡ member i (known_settings a.known)
  pub settings_true : (i : ℕ) → bit q.values i ≡ member i (known_true a.known)
  pub settings_held : (i : ℕ) → bit q.held i ≡ member i (held_settings a.held)

-- the second leg that is asked: a team and a goal of its own
pub record SecondAsks (n : ℕ) (b : Asked) (second : ℕ) (wanted : Goal) : Type 0 where
  pub made : Accepts n b.make wanted.make
  pub learnt : TablesOf n b.asks wanted.learn
  pub posts : (p : ℕ) → bit second p ≡ member p b.team

-- the answer to it, with the room for what is printed before and after, and the length of all of it: "reach" with the least height and the plan
-- written, or "cannot"
abbrev pub PrintsFound : System → ℕ → List ℕ → ℕ → List ℕ → Type 0
PrintsFound S start old r new =
    ((h : ℕ) × (p : Plan) × Least (Reach S start) h × Written S start p × Prints old (reach_text h p) r new)
    ⊎ (Cannot S start × Prints old cannot_text r new)

-- a refusal is printed, and the rank table is left as it was
pub record PrintsRefused (code at : ℕ) (ranks out : List ℕ) (r : ℕ) (ranks' out' : List ℕ) : Type 0 where
  pub ranks_kept : ranks' ≡ ranks
  pub printed : Prints out (refused_text code at) r out'

-- a question over a book of n settings: 13, "rank table under 7^n bytes"; or the answer, and "the first 7^n bytes of the rank table hold all ranks"
abbrev pub PrintsAsked : ℕ → List ℕ → Question → Goal → List ℕ → List ℕ → ℕ → List ℕ → List ℕ → Type 0
PrintsAsked n book q goal ranks out r ranks' out' =
    ((length ranks < 7 ^ n) × PrintsRefused (number (RankRoom 0)) (place (RankRoom 0)) ranks out r ranks' out')
    ⊎ ((7 ^ n ≤ length ranks) × RanksFilled n (system_of n book q goal) ranks ranks' × PrintsFound (system_of n book q goal) (start_of q) out r out')

-- by what a text of one leg means: 24, or a line's refusal with the line; or what is asked
abbrev pub PrintsQuestion : ℕ → List ℕ → QuestionMeaning → List ℕ → List ℕ → ℕ → List ℕ → List ℕ → Type 0
PrintsQuestion n book (refused why line) ranks out r ranks' out' = PrintsRefused (number why) line ranks out r ranks' out'
PrintsQuestion n book (asked a) ranks out r ranks' out' =
    (q : Question) × (goal : Goal) × QuestionAsks n a q goal × PrintsAsked n book q goal ranks out r ranks' out'

-- the ranks of two legs, S the first leg's system and R the second's, in one table: "a rank table of 2 × 7^n bytes, the first leg's first"; later bytes
-- keep what they held
pub record TwoFilled (n : ℕ) (S R : System) (old new : List ℕ) : Type 0 where
  pub size : length new ≡ length old
  pub first : (k : ℕ) → k < 7 ^ n → IsRank S k (get_or new k 0)
  pub second : (k : ℕ) → k < 7 ^ n → IsRank R k (get_or new (7 ^ n + k) 0)
  pub later : (j : ℕ) → 2 * 7 ^ n ≤ j → get_or new j 0 ≡ get_or old j 0

-- a question of two legs over a book of n settings: "below 7^n it prints `refused 13 1`, below 2 × 7^n `refused 13 2`"; or the answer, "the first leg's
-- [..] as for one leg", and the ranks of both
abbrev pub PrintsTwo : ℕ → List ℕ → Question → Goal → ℕ → Goal → List ℕ → List ℕ → ℕ → List ℕ → List ℕ → Type 0
PrintsTwo n book q goal second wanted ranks out r ranks' out' =
    ((length ranks < 7 ^ n) × PrintsRefused (number (RankRoom 1)) (place (RankRoom 1)) ranks out r ranks' out')
    ⊎ ((7 ^ n ≤ length ranks) × (length ranks < 2 * 7 ^ n) × PrintsRefused (number (RankRoom 2)) (place (RankRoom 2)) ranks out r ranks' out')
    ⊎ ((2 * 7 ^ n ≤ length ranks)
    × TwoFilled n (first_system n book q goal second wanted) (second_system n book q second wanted) ranks ranks'
    × PrintsFound (first_system n book q goal second wanted) (start_of q) out r out')

-- by what a text of one leg or two means
abbrev pub PrintsLegs : ℕ → List ℕ → LegsMeaning → List ℕ → List ℕ → ℕ → List ℕ → List ℕ → Type 0
PrintsLegs n book (refused_at why line) ranks out r ranks' out' = PrintsRefused (number why) line ranks out r ranks' out'
PrintsLegs n book (one a) ranks out r ranks' out' = PrintsQuestion n book (asked a) ranks out r ranks' out'
PrintsLegs n book (two a b) ranks out r ranks' out' =
    (q : Question) × (goal : Goal) × (second : ℕ) × (wanted : Goal) × QuestionAsks n a q goal × SecondAsks n b second wanted
    × PrintsTwo n book q goal second wanted ranks out r ranks' out'

-- what `ask` prints: "the book's 6 to 9, printed `refused NUMBER PLACE`"; or, of a sound book, by its size, what the question text gets
abbrev pub AsksBook : List ℕ → List ℕ → List ℕ → List ℕ → ℕ → List ℕ → List ℕ → Type 0
AsksBook book question ranks out r ranks' out' =
    ((why : Refusal) × First (book_rows book) why × PrintsRefused (number why) (place why) ranks out r ranks' out')
    ⊎ ((n : ℕ) × (m : ℕ) × Sound book n m × PrintsLegs n book (legs_meaning n m question) ranks out r ranks' out')

-- Where a text is cut, line by line: the lines in front of what is left, none of them `then`. And that what a text of one leg asks,
-- it asks as ever: in each state the line `then` is a fault, so a text that asks has none.
use mathlib.Core.Path.{◌≡◌, refl, sym, ap, ap₂, ◌∙◌, subst}
use mathlib.Core.Logic.{inl, inr}
use mathlib.Core.Bool.{Bool, true, false, cond}
use mathlib.Core.List.{List, [], ◌∷◌, ◌++◌, append_assoc, append-nil}
use Prim.Native.Nat.{ℕ, suc, ◌+◌, ◌-◌, ◌≤◌, ◌<◌}
use native.Mathlib.Omega.{arith}
use lib.Dec.{T, eqb, eqb→eq}
use lib.ListN.{length, take, drop, length-append}
use lib.Seq.{take_at, drop-append-add}
use borrow.Author.Tests.{le-ltb, lt-ltb}
use Rattle.ground.specs.Text.{bytes}
use Rattle.ground.proofs.Bools.{lt_or_ge, and_left, and_right, true→T}
use Rattle.refusal.specs.declared.Refusal.{Refusal}
use Rattle.refusal.specs.declared.Refusal.TheVariants.{Malformed, SheetLength}
use Rattle.sheet_words.specs.Words.{split, newline, begins, passed_over}
use Rattle.sheet_words.specs.Steps.{fault, next}
use Rattle.sheet_words.proofs.Split.{some_piece, Clear, AllClear, joined, marked-some, joined_split, split-clear, split-marked}
use Rattle.sheet_words.specs.Lines.{LineCut}
use Rattle.sheet_question.specs.Asked.{Asked, nothing_asked}
use Rattle.sheet_question.specs.Forms.{is_names, is_team, is_known, is_held}
use Rattle.sheet_question.specs.LineSteps.{AskedStep, team_step, known_step, held_step, make_step, ask_step, held_or_make, due_step, line_step}
use Rattle.sheet_question.specs.Question.{refused, asked, asked_from, question_meaning}
use Rattle.sheet_question.specs.declared.desk.Due.{Due}
use Rattle.sheet_question.specs.declared.desk.Due.TheVariants.{Team, Known, Held, Make, Asks}
use Rattle.sheet_question.proofs.ReadLaws.{after, asked-after, not-long, too_long}
use Rattle.sheet_legs.specs.Legs.{is_then, Cut, whole, parted, ahead, cut_lines, refused_at, one, one_leg, legs_of, legs_meaning}

-- ---- the cut, one line more in front

abbrev pub then_or : List ℕ → List (List ℕ) → Bool → Cut
then_or line pieces true = parted ([] ∷ []) pieces
then_or line pieces false = ahead line (cut_lines pieces)

pub cut_after : (line another : List ℕ) (more : List (List ℕ)) → cut_lines (line ∷ another ∷ more) ≡ then_or line (another ∷ more) (is_then line)
unfolding cut_lines
cut_after line another more = by_test (is_then line)
  where
    by_test : (b : Bool) → (elim b [ true ↦ parted ([] ∷ []) (another ∷ more) | false ↦ ahead line (cut_lines (another ∷ more)) ]) ≡ then_or line (another ∷ more) b
    by_test true = refl
    by_test false = refl

cut_on : (line rest : List ℕ) → cut_lines (line ∷ split newline rest) ≡ then_or line (split newline rest) (is_then line)
cut_on line rest = some_piece newline (λ q. cut_lines (line ∷ q) ≡ then_or line q (is_then line)) (cut_after line) rest

-- all of some lines in front
abbrev pub ahead_all : List (List ℕ) → Cut → Cut
ahead_all [] c = c
ahead_all (line ∷ lines) c = ahead line (ahead_all lines c)

ahead_snoc : (lines : List (List ℕ)) (line : List ℕ) (c : Cut) → ahead_all (lines ++ (line ∷ [])) c ≡ ahead_all lines (ahead line c)
ahead_snoc [] line c = refl
ahead_snoc (l ∷ lines) line c = ap (ahead l) (ahead_snoc lines line c)

ahead-whole : (lines : List (List ℕ)) → ahead_all lines whole ≡ whole
ahead-whole [] = refl
ahead-whole (l ∷ lines) = ap (ahead l) (ahead-whole lines)

ahead-parted : (lines first second : List (List ℕ)) → ahead_all lines (parted first second) ≡ parted (lines ++ first) second
ahead-parted [] first second = refl
ahead-parted (l ∷ lines) first second = ap (ahead l) (ahead-parted lines first second)

-- ---- a line that is `then`

begun : (w s : List ℕ) → T (begins w s) → length s ≡ length w → s ≡ w
unfolding begins
begun [] [] t e = refl
begun [] (c ∷ s) t e = absurd (omega (arith, e))
begun (c ∷ w) [] t e = absurd t
begun (c ∷ w) (d ∷ s) t e =
    ap₂ ◌∷◌ (sym (eqb→eq c d (and_left (eqb c d) (begins w s) t))) (begun w s (and_right (eqb c d) (begins w s) t) (omega (arith, e)))

-- a line that is `then` has four bytes
module _ (line : List ℕ) (e : is_then line ≡ true) where
  pub then_size : length line ≡ 4
  unfolding is_then
  then_size = eqb→eq (length line) 4 (and_left (eqb (length line) 4) (begins (bytes "then") line) (true→T e))

  -- they are these
  pub then_is : line ≡ bytes "then"
  unfolding is_then
  then_is = begun (bytes "then") line (and_right (eqb (length line) 4) (begins (bytes "then") line) (true→T e)) then_size

-- ---- by the first line of what is left

-- the lines in front of what is left of s, none of which is `then`; and the text before it is these, each with its byte 10
pub record Before (s rest : List ℕ) (lines : List (List ℕ)) : Type 0 where
  pub front : List ℕ
  pub joint : s ≡ front ++ rest
  pub cut : ahead_all lines (cut_lines (split newline rest)) ≡ cut_lines (split newline s)
  pub pieces : (t : List ℕ) → split newline (front ++ t) ≡ lines ++ split newline t

pub before-none : (s : List ℕ) → Before s s []
before-none s = record { front = []; joint = refl; cut = refl; pieces = λ t. refl }

module _ {s rest : List ℕ} {lines : List (List ℕ)} (b : Before s rest lines) where
  front-length : length b.front ≡ length s - length rest
  front-length = let sum = ap length b.joint ∙ length-append b.front rest in omega (arith, sum)

  front_is : take (length s - length rest) s ≡ b.front
  front_is = ap (take (length s - length rest)) b.joint ∙ take_at b.front rest (length s - length rest) front-length

  before_it : split newline (take (length s - length rest) s) ≡ lines ++ ([] ∷ [])
  unfolding split
  before_it = ap (split newline) (front_is ∙ sym (append-nil b.front)) ∙ b.pieces []

  pub before-count : length (split newline (take (length s - length rest) s)) ≡ length lines + 1
  before-count = ap length before_it ∙ length-append lines ([] ∷ [])

  -- the text ends, and no line is `then`
  pub cut_ends : split newline rest ≡ rest ∷ [] → cut_lines (split newline s) ≡ whole
  unfolding cut_lines
  cut_ends e = sym b.cut ∙ ap (λ (q : List (List ℕ)). ahead_all lines (cut_lines q)) e ∙ ahead-whole lines

  module _ {line after : List ℕ} (c : LineCut rest line after) where
    -- a line, its byte 10, and the text behind it
    line_off : rest ≡ line ++ newline ∷ after
    line_off =
        sym (joined_split newline rest) ∙ ap (joined newline) c.pieces
        ∙ ap (λ (t : List ℕ). line ++ t) (marked-some newline after ∙ ap (◌∷◌ newline) (joined_split newline after))

    line_clear : Clear newline line
    line_clear = (subst (AllClear newline) c.pieces (split-clear newline rest)).0

    -- one line more that is not `then`
    pub before_more : is_then line ≡ false → Before s after (lines ++ (line ∷ []))
    before_more e = record {
      front = b.front ++ (line ++ (newline ∷ []));
      joint = b.joint ∙ ap (λ (t : List ℕ). b.front ++ t) (line_off ∙ sym (append_assoc line (newline ∷ []) after))
          ∙ sym (append_assoc b.front (line ++ (newline ∷ [])) after);
      cut = ahead_snoc lines line (cut_lines (split newline after))
          ∙ ap (ahead_all lines) (sym (ap cut_lines c.pieces ∙ cut_on line after ∙ ap (then_or line (split newline after)) e)) ∙ b.cut;
      pieces = λ t. ap (split newline) (append_assoc b.front (line ++ (newline ∷ [])) t ∙ ap (λ (u : List ℕ). b.front ++ u) (append_assoc line (newline ∷ []) t))
          ∙ b.pieces (line ++ newline ∷ t)
          ∙ ap (λ (q : List (List ℕ)). lines ++ q) (split-marked newline line t line_clear)
          ∙ sym (append_assoc lines (line ∷ []) (split newline t));
    }

    -- the line is `then`: five bytes, with its byte 10
    module _ (e : is_then line ≡ true) where
      behind : after ≡ drop (length s - length rest + 5) s
      behind =
          c.rest_is ∙ ap (λ (k : ℕ). drop k rest) {x = length line + 1} {y = 5} (omega (arith, then_size line e))
          ∙ sym (drop-append-add b.front rest 5)
          ∙ ap (λ (k : ℕ). drop k (b.front ++ rest)) {x = length b.front + 5} {y = length s - length rest + 5} (omega (arith, front-length))
          ∙ ap (drop (length s - length rest + 5)) (sym b.joint)

      pub cut_here : cut_lines (split newline s) ≡ parted (split newline (take (length s - length rest) s)) (split newline (drop (length s - length rest + 5) s))
      cut_here =
          sym b.cut ∙ ap (ahead_all lines) (ap cut_lines c.pieces ∙ cut_on line after ∙ ap (then_or line (split newline after)) e)
          ∙ ahead-parted lines ([] ∷ []) (split newline after)
          ∙ ap₂ (λ (q : List (List ℕ)) (t : List ℕ). parted q (split newline t)) (sym before_it) behind

-- ---- a text that asks has no line `then`

-- in each state that line is a fault
then_faults : (n m L : ℕ) (due : Due) (a : Asked) → due_step n m L due a (bytes "then") ≡ fault (Malformed L)
unfolding team_step known_step held_step make_step ask_step held_or_make is_team is_known is_held is_names begins
then_faults n m L Team a = refl
then_faults n m L Known a = refl
then_faults n m L Held a = refl
then_faults n m L Make a = refl
then_faults n m L Asks a = refl

then_line-faults : (n m L : ℕ) (due : Due) (a : Asked) (line : List ℕ) → is_then line ≡ true → line_step true n m L due a line ≡ fault (Malformed L)
unfolding line_step passed_over
then_line-faults n m L due a line e = ap (line_step true n m L due a) (then_is line e) ∙ then_faults n m L due a

refused-asks : {r : Refusal} {L : ℕ} {a : Asked} → refused r L ≡ asked a → ⊥
refused-asks e = let y : ◌≡◌ {A = ℕ} 0 1 = cc in omega arith

module _ (n m : ℕ) where
  one_line : (L : ℕ) (line : List ℕ) (pieces : List (List ℕ)) (b : Asked) (st : AskedStep)
      → ((d : Due) (a : Asked) → asked_from true n m (suc L) d a pieces ≡ asked b → cut_lines pieces ≡ whole)
      → after true n m L pieces st ≡ asked b → cut_lines pieces ≡ whole
  one_line L line pieces b (fault r) more e = absurd (refused-asks e)
  one_line L line pieces b (next (d, a)) more e = more d a e

  asked-whole : (L : ℕ) (due : Due) (a b : Asked) (pieces : List (List ℕ)) → asked_from true n m L due a pieces ≡ asked b → cut_lines pieces ≡ whole
  unfolding asked_from cut_lines
  asked-whole L due a b [] e = refl
  asked-whole L due a b (rest ∷ []) e = refl
  asked-whole L due a b (line ∷ another ∷ more) e =
      by_test (is_then line) refl
      (one_line L line (another ∷ more) b (line_step true n m L due a line) (λ d c. asked-whole (suc L) d c b (another ∷ more)) (sym (asked-after true n m L due a line another more) ∙ e))
    where
      by_test : (t : Bool) → is_then line ≡ t → cut_lines (another ∷ more) ≡ whole → cut_lines (line ∷ another ∷ more) ≡ whole
      by_test true y w =
          absurd (refused-asks (sym (asked-after true n m L due a line another more ∙ ap (after true n m L (another ∷ more)) (then_line-faults n m L due a line y)) ∙ e))
      by_test false y w = cut_after line another more ∙ ap (then_or line (another ∷ more)) y ∙ ap (ahead line) w

-- ---- the whole

module _ (n m : ℕ) (s : List ℕ) where
  pub legs_too_long : 65536 < length s → legs_meaning n m s ≡ refused_at SheetLength 0
  unfolding legs_meaning
  legs_too_long h = ap (λ (b : Bool). cond b (refused_at SheetLength 0) (legs_of n m (split newline s) (cut_lines (split newline s)))) (lt-ltb 65536 (length s) h)

  pub legs_not-long : length s ≤ 65536 → legs_meaning n m s ≡ legs_of n m (split newline s) (cut_lines (split newline s))
  unfolding legs_meaning
  legs_not-long h = ap (λ (b : Bool). cond b (refused_at SheetLength 0) (legs_of n m (split newline s) (cut_lines (split newline s)))) (le-ltb 65536 (length s) h)

  -- a text without a line `then` means what it means with one leg
  pub no_then : cut_lines (split newline s) ≡ whole → legs_meaning n m s ≡ one_leg (question_meaning 0 true n m s)
  no_then e = elim (lt_or_ge 65536 (length s)) [
    | inl h ↦ legs_too_long h ∙ ap one_leg (sym (too_long 0 true n m s h))
    | inr h ↦ legs_not-long h ∙ ap (legs_of n m (split newline s)) e ∙ ap one_leg (sym (not-long 0 true n m s h))
  ]

  -- a text that asks with one leg has no such line
  pub asked_no_then : {a : Asked} → question_meaning 0 true n m s ≡ asked a → cut_lines (split newline s) ≡ whole
  asked_no_then {a} e = elim (lt_or_ge 65536 (length s)) [
    | inl h ↦ absurd (refused-asks (sym (too_long 0 true n m s h) ∙ e))
    | inr h ↦ asked-whole n m 1 Team nothing_asked a (split newline s) (sym (not-long 0 true n m s h) ∙ e)
  ]

  -- so what it asks with one leg, it asks
  pub one-asked : {a : Asked} → question_meaning 0 true n m s ≡ asked a → legs_meaning n m s ≡ one a
  one-asked e = no_then (asked_no_then e) ∙ ap one_leg e

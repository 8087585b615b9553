-- The contract of `question_of` settles all that it gives, and so does that of a line. One desk alone holds what is asked: byte by byte and bit by bit.
use mathlib.Core.Path.{◌≡◌, sym, ap, ap₂, ◌∙◌, subst}
use mathlib.Core.Logic.{inl, inr}
use mathlib.Core.List.{List, [], ◌∷◌, ◌++◌}
use Prim.Native.Nat.{ℕ, ◌*◌}
use native.Mathlib.Omega.{arith}
use lib.ListN.{get_or, take}
use lib.Seq.{ext_get_or, get_or-take}
use Rattle.ground.proofs.Bools.{lt_or_ge}
use Rattle.std.proofs.Common.{Result, Ok, Err}
use Rattle.refusal.specs.declared.Refusal.{Refusal}
use Rattle.knowledge.specs.declared.goal.Goal as Lent
use Rattle.knowledge.specs.Goal.{Goal, goal_of, wanted}
use Rattle.sheet_words.specs.declared.Fault.{Fault}
use Rattle.formula.specs.Read.{Accepts}
use Rattle.formula.proofs.Unique.{read_unique}
use Rattle.sheet_words.specs.Steps.{fault, next}
use Rattle.sheet_words.proofs.Unique.{mask_one, fault_one}
use Rattle.sheet_question.specs.Asked.{Asked}
use Rattle.sheet_question.specs.Desk.{TablesOf, AskedOnDesk, Steps}
use Rattle.sheet_question.specs.LineSteps.{AskedStep}
use Rattle.sheet_question.specs.Places.{asked_laid, naming}
use Rattle.sheet_question.specs.declared.desk.AskedDesk.{AskedDesk}
use Rattle.sheet_question.specs.declared.desk.Turn.{Turn}
use Rattle.sheet_question.specs.Question.{QuestionMeaning, refused, asked}
use Rattle.sheet_question.specs.Reads.{ReadsQuestion}

-- ---- tables

pub table-one : {n : ℕ} {F t u : List ℕ} → Accepts n F t → Accepts n F u → t ≡ u
table-one {n} {F} {t} {u} a b = let e = read_unique n F (Ok t) (Ok u) a b in cc

pub tables-one : (n : ℕ) (Fs : List (List ℕ)) (t u : List ℕ) → TablesOf n Fs t → TablesOf n Fs u → t ≡ u
tables-one n [] t u a b = a ∙ sym b
tables-one n (F ∷ Fs) t u (a, b, x, y, e) (c, d, z, w, f) = e ∙ ap₂ ◌++◌ (table-one x z) (tables-one n Fs b d y w) ∙ sym f

-- ---- what is asked on the desk

module _ (n : ℕ) (asked : Asked) (a b : AskedDesk) (h : AskedOnDesk n asked a) (k : AskedOnDesk n asked b) where
  same-asks : b.asks ≡ a.asks
  same-asks = k.asks ∙ sym h.asks

  same-learnt : take (16 * a.asks) a.learn ≡ take (16 * a.asks) b.learn
  same-learnt = tables-one n asked.asks _ _ h.learn (subst (λ (x : ℕ). TablesOf n asked.asks (take (16 * x) b.learn)) same-asks k.learn)

  same-learn : a.learn ≡ b.learn
  same-learn = ext_get_or 0 a.learn b.learn (h.learn_size ∙ sym k.learn_size) (λ j l. elim (lt_or_ge j (16 * a.asks)) [
    | inl m ↦ sym (get_or-take (16 * a.asks) a.learn j 0 m) ∙ ap (λ (t : List ℕ). get_or t j 0) same-learnt ∙ get_or-take (16 * a.asks) b.learn j 0 m
    | inr m ↦ h.learn_rest j m ∙ sym (k.learn_rest j (omega (arith, same-asks)))
  ])

  pub asked-one : a ≡ b
  asked-one =
      let t : a.question.team ≡ b.question.team = mask_one a.question.team b.question.team (λ q. h.team q ∙ sym (k.team q)) in
      let w : a.question.known ≡ b.question.known = mask_one a.question.known b.question.known (λ i. h.known i ∙ sym (k.known i)) in
      let v : a.question.values ≡ b.question.values = mask_one a.question.values b.question.values (λ i. h.values i ∙ sym (k.values i)) in
      let x : a.question.held ≡ b.question.held = mask_one a.question.held b.question.held (λ i. h.held i ∙ sym (k.held i)) in
      let g : a.make ≡ b.make = table-one h.make k.make in
      let c : a.asks ≡ b.asks = sym same-asks in
      let l : a.learn ≡ b.learn = same-learn in
      let e : asked_laid (naming a.question.team a.question.known a.question.values a.question.held) a.make a.asks a.learn
      ≡ asked_laid (naming b.question.team b.question.known b.question.values b.question.held) b.make b.asks b.learn = cc in
      e

-- ---- the goal that a desk asks for

-- two that `AskedDesk::goal` may give lend the same tables
pub goal_one : (d : AskedDesk) (x y : Lent.Goal) → wanted x ≡ goal_of d.make (take (16 * d.asks) d.learn) → wanted y ≡ goal_of d.make (take (16 * d.asks) d.learn)
    → (x.make.now ≡ y.make.now) × (x.learn.now ≡ y.learn.now)
goal_one d x y a b = let e = a ∙ sym b in (ap (λ (g : Goal). g.make) e, ap (λ (g : Goal). g.learn) e)

-- ---- what comes of a line

pub turn_one : (n : ℕ) (st : AskedStep) (x y : Result Turn Refusal) → Steps n st x → Steps n st y → x ≡ y
turn_one n (fault r) (Err why) (Err else) e f = ap Err (e ∙ sym f)
turn_one n (next (due, v)) (Ok a) (Ok b) (e, h) (f, k) =
    let g : a.due ≡ b.due = e ∙ sym f in
    let o : a.desk ≡ b.desk = asked-one n v a.desk b.desk h k in
    let z : ◌≡◌ {A = Turn} (record { due = a.due; desk = a.desk }) (record { due = b.due; desk = b.desk }) = cc in ap Ok z
turn_one n (fault r) (Ok a) y e f = elim e [ ]
turn_one n (fault r) (Err why) (Ok b) e f = elim f [ ]
turn_one n (next (due, v)) (Ok a) (Err else) e f = elim f [ ]
turn_one n (next (due, v)) (Err why) y e f = elim e [ ]

-- ---- what is read

pub question_one : (n : ℕ) (o : QuestionMeaning) (x y : Result AskedDesk Fault) → ReadsQuestion n o x → ReadsQuestion n o y → x ≡ y
question_one n (refused r line) (Err f) (Err g) h k = ap Err (fault_one h k)
question_one n (asked v) (Ok a) (Ok b) h k = ap Ok (asked-one n v a b h k)
question_one n (refused r line) (Ok a) y h k = elim h [ ]
question_one n (refused r line) (Err f) (Ok b) h k = elim k [ ]
question_one n (asked v) (Ok a) (Err g) h k = elim k [ ]
question_one n (asked v) (Err f) y h k = elim h [ ]

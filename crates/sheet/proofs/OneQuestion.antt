-- A sheet asks one question: its tables are those of its formulas, its masks have the bits that it names, and nothing is left open. Byte by byte and
-- bit by bit. So one thing alone is printed for it.
use mathlib.Core.Path.{◌≡◌, sym, ap, ◌∙◌, subst₂}
use mathlib.Core.Logic.{inl, inr}
use mathlib.Core.List.{List}
use Prim.Native.Nat.{ℕ, ◌+◌, ◌-◌, ◌*◌, ◌/◌, ◌%◌, ◌≤◌, ◌<◌}
use native.Mathlib.Omega.{arith}
use lib.ListN.{length, get_or}
use lib.Seq.{ext_get_or}
use Rattle.ground.proofs.Bools.{lt_or_ge}
use Rattle.ground.proofs.Search.{least_unique}
use Rattle.book_block.specs.Rule.{table_place, table}
use Rattle.book_sound.specs.Sound.{tables_of}
use Rattle.book_block.specs.declared.rule.Right.{Right}
use Rattle.book_block.specs.declared.rule.Right.TheVariants.{Look, Set}
use Rattle.ground.proofs.Lists.{get_d_part}
use Rattle.book_block.proofs.RuleLaws.{place-most}
use Rattle.plan.specs.Plans.{System, Lawful, Plan}
use Rattle.plan.proofs.Written.{written_works, written_unique}
use Rattle.print_answer.specs.Printed.{reach_text, Prints}
use Rattle.print_answer.proofs.Theorems.{prints_unique}
use Rattle.knowledge.specs.Goal.{Goal, goal_of}
use Rattle.question.specs.Question.{system_of, start_of}
use Rattle.question.specs.declared.Question.{Question}
use Rattle.sheet_words.proofs.Unique.{mask_one}
use Rattle.sheet_reading.specs.Sheet.{Sheet}
use Rattle.sheet_question.proofs.Unique.{table-one, tables-one}
use Rattle.sheet.specs.Answer.{SheetAsks, sheet_book, PrintsFound}

-- ---- rights

-- byte o of a right's table, among all
table-byte : (rights : List ℕ) (right : Right) (i q o : ℕ) → q < 8 → o < 16 → get_or (table (tables_of rights i) q right) o 0 ≡ get_or rights (256 * i + (table_place q right + o)) 0
unfolding table tables_of
table-byte rights right i q o hq ho =
    get_d_part (tables_of rights i) (table_place q right) 16 o ho ∙ get_d_part rights (256 * i) 256 (table_place q right + o) (omega (arith, place-most q right hq))

-- each byte is one of a table
byte-place : (j : ℕ) → (right : Right) × (q : ℕ) × (o : ℕ) × (q < 8) × (o < 16) × (256 * (j / 256) + (table_place q right + o) ≡ j)
unfolding table_place
byte-place j = elim (lt_or_ge (j % 32) 16) [
  | inl l ↦ (Look, j % 256 / 32, j % 32, omega arith, l, omega arith)
  | inr l ↦ (Set, j % 256 / 32, j % 32 - 16, omega arith, omega arith, omega arith)
]

module _ (rights others : List ℕ) (n : ℕ) (size : length rights ≡ 256 * n) (same_size : length others ≡ 256 * n)
    (same : (right : Right) (i q : ℕ) → i < n → q < 8 → table (tables_of rights i) q right ≡ table (tables_of others i) q right) where
  rights_one : rights ≡ others
  rights_one = ext_get_or 0 rights others (size ∙ sym same_size) (λ j h. at j (omega arith))
    where
      at : (j : ℕ) → j < 256 * n → get_or rights j 0 ≡ get_or others j 0
      at j h =
          let p = byte-place j in
          let e : 256 * (j / 256) + (table_place p.1 p.0 + p.2) ≡ j = p.5 in
          ap (λ (x : ℕ). get_or rights x 0) (sym e)
          ∙ sym (table-byte rights p.0 (j / 256) p.1 p.2 p.3 p.4)
          ∙ ap (λ (t : List ℕ). get_or t p.2 0) (same p.0 (j / 256) p.1 (omega arith) p.3)
          ∙ table-byte others p.0 (j / 256) p.1 p.2 p.3 p.4
          ∙ ap (λ (x : ℕ). get_or others x 0) e

-- ---- the question

module _ {sheet : Sheet} {R R' : List ℕ} {q q' : Question} {goal goal' : Goal} (a : SheetAsks sheet R q goal) (b : SheetAsks sheet R' q' goal') where
  same-table : (right : Right) (i p : ℕ) → i < sheet.size.settings → p < 8 → table (tables_of R i) p right ≡ table (tables_of R' i) p right
  same-table right i p hi hp = elim (lt_or_ge p sheet.size.posts) [
    | inl l ↦ table-one (a.rules right i p hi l) (b.rules right i p hi l)
    | inr l ↦ a.nobody right i p hi l hp ∙ sym (b.nobody right i p hi l hp)
  ]

  same_rights : R ≡ R'
  same_rights = rights_one R R' sheet.size.settings a.size b.size same-table

  same-goal : goal ≡ goal'
  same-goal =
      let m : goal.make ≡ goal'.make = table-one a.made b.made in
      let l : goal.learn ≡ goal'.learn = tables-one sheet.size.settings sheet.asked.asks goal.learn goal'.learn a.learnt b.learnt in
      let e : goal_of goal.make goal.learn ≡ goal_of goal'.make goal'.learn = cc in
      e

  same_question : q ≡ q'
  same_question =
      let t : q.team ≡ q'.team = mask_one q.team q'.team (λ p. a.posts p ∙ sym (b.posts p)) in
      let k : q.known ≡ q'.known = mask_one q.known q'.known (λ i. a.settings_known i ∙ sym (b.settings_known i)) in
      let v : q.values ≡ q'.values = mask_one q.values q'.values (λ i. a.settings_true i ∙ sym (b.settings_true i)) in
      let o : q.held ≡ q'.held = mask_one q.held q'.held (λ i. a.settings_held i ∙ sym (b.settings_held i)) in
      let e : ◌≡◌ {A = Question} (record { team = q.team; known = q.known; values = q.values; held = q.held })
      (record { team = q'.team; known = q'.known; values = q'.values; held = q'.held }) = cc in
      e

  pub same-system : system_of sheet.size.settings (sheet_book sheet R) q goal ≡ system_of sheet.size.settings (sheet_book sheet R') q' goal'
  same-system =
      let r : R ≡ R' = same_rights in
      let p : q ≡ q' = same_question in
      let g : goal ≡ goal' = same-goal in
      cc

  pub same_start : start_of q ≡ start_of q'
  same_start = ap start_of same_question

-- ---- its answer

pub tells-one : {n : ℕ} {S : System} {k : ℕ} → Lawful n S → n ≤ 7 → {old new new' : List ℕ} {r r' : ℕ} → PrintsFound S k old r new → PrintsFound S k old r' new' → (r ≡ r') × (new ≡ new')
tells-one {n} {S} {k} law few {old} {new} {new'} {r} {r'} (inl (h, p, l, w, x)) (inl (j, s, m, v, y)) =
    prints_unique x (subst₂ (λ (i : ℕ) (t : Plan). Prints old (reach_text i t) r' new') (least_unique m l) (written_unique law few s p k v w) y)
tells-one {n} {S} {k} law few (inl (h, p, l, w, x)) (inr (none, y)) = absurd (none p (written_works S p k w))
tells-one {n} {S} {k} law few (inr (none, x)) (inl (j, s, m, v, y)) = absurd (none s (written_works S s k v))
tells-one law few (inr (none, x)) (inr (also, y)) = prints_unique x y

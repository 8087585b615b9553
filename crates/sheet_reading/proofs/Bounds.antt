-- How far the meaning of a sheet goes: a refusal's line is at most two past the bytes of the longest sheet, and a sheet that is stated has at most 5
-- settings. From how far its rules go, and its question.
use mathlib.Core.Path.{subst}
use mathlib.Core.Logic.{inl, inr}
use mathlib.Core.List.{List}
use mathlib.Core.Bool.{false}
use Prim.Native.Nat.{ℕ, ◌+◌, ◌≤◌}
use native.Mathlib.Omega.{arith}
use lib.Dec.{ltb, nltb→le}
use lib.ListN.{length}
use Rattle.ground.proofs.Bools.{decide, T→true, T→false}
use Rattle.sheet_words.specs.Words.{split, newline}
use Rattle.sheet_words.proofs.Split.{split-length}
use Rattle.sheet_rules.specs.Rules.{Rules}
use Rattle.sheet_rules.specs.Reading.{Reading, up_to, rules_read}
use Rattle.sheet_rules.specs.Reading.{refused as rules-refused}
use Rattle.sheet_rules.proofs.Bounds.{Goes, read_goes}
use Rattle.sheet_question.specs.Asked.{nothing_asked}
use Rattle.sheet_question.specs.Question.{QuestionMeaning, asked, asked_from}
use Rattle.sheet_question.specs.Question.{refused as question_refused}
use Rattle.sheet_question.specs.declared.desk.Due.TheVariants.{Team}
use Rattle.sheet_question.proofs.Counted.{LineMost, lines-most}
use Rattle.sheet_reading.specs.Reading.{Meaning, refused, stated, with_question, after_rules, sheet_meaning}

abbrev pub Small : ℕ → Meaning → Type 0
Small most (refused r line) = line ≤ most
Small most (stated v) = v.size.settings ≤ 5

small_question : (most : ℕ) (rules : Rules) (o : QuestionMeaning) → rules.size.settings ≤ 5 → LineMost most o → Small most (with_question rules o)
small_question most rules (question_refused r line) h k = k
small_question most rules (asked a) h k = h

small-rules : (pieces : List (List ℕ)) (o : Reading) → Goes 5 1 pieces o → Small (1 + length pieces) (after_rules o)
small-rules pieces (rules-refused r line) (a, b, c) = b
small-rules pieces (up_to rules line rest) (a, b, c) =
    let n : ℕ = rules.size.settings in
    let m : ℕ = rules.size.posts in
    subst (λ (k : ℕ). Small k (after_rules (up_to rules line rest))) b
    (small_question (line + length rest) rules (asked_from false n m line Team nothing_asked rest) c.settings-taken (lines-most false n m line Team nothing_asked rest))

small-more : (o : Meaning) (a b : ℕ) → a ≤ b → Small a o → Small b o
small-more (refused r line) a b l h = omega (arith, h)
small-more (stated v) a b l h = h

pub small-meaning : (s : List ℕ) → Small 32770 (sheet_meaning s)
unfolding sheet_meaning
small-meaning s = elim (decide (ltb 32768 (length s))) [
  | inl t ↦ rw (T→true (ltb 32768 (length s)) t) omega arith
  | inr t ↦ rw (T→false (ltb 32768 (length s)) t)
      (small-more (after_rules (rules_read false 5 (split newline s))) (1 + length (split newline s)) 32770
      (omega (arith, nltb→le 32768 (length s) t, split-length newline s)) (small-rules (split newline s) (rules_read false 5 (split newline s)) (read_goes false 5 (split newline s))))
]

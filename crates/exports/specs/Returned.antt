-- What each C function returns for the answer of the crate behind it.
use Rattle.std.specs.Prelude.{List, [], ◌∷◌, ℕ, ◌+◌, ◌*◌, ◌%◌, ◌^◌, Result, Ok, Err}
use Rattle.refusal.specs.declared.Refusal.{Refusal}
use Rattle.book_sound.specs.declared.Size.{Size}
use Rattle.book_salvage.specs.declared.Salvaged.{Salvaged}
use Rattle.finder.specs.declared.answer.Answer.{Answer}
use Rattle.finder.specs.declared.answer.Answer.TheVariants.{Reach, Cannot}
use Rattle.finder_plain.specs.declared.finding.PlainAnswer.{PlainAnswer}
use Rattle.finder_plain.specs.declared.finding.PlainAnswer.TheVariants.{Reach as PlainReach, Cannot as PlainCannot}
use Rattle.sheet_words.specs.declared.Fault.{Fault}
use Rattle.station.specs.declared.record.Running.{Running}
use Rattle.station.specs.declared.shift.Replayed.{Replayed}
use Rattle.station.specs.declared.shift.Replayed.TheVariants.{Whole, Stopped}
use Rattle.exports.specs.Packed.{packed, packed_at}

-- `pj_formula_read`: 0, or the refusal as one number
abbrev pub formula_returned : Result (List ℕ) Refusal → ℕ
formula_returned (Ok table) = 0
formula_returned (Err r) = packed r

-- `pj_book_read`: n times 256 plus m, or the refusal as one number
abbrev pub read_returned : Result Size Refusal → ℕ
read_returned (Ok size) = size.settings * 256 + size.posts
read_returned (Err r) = packed r

-- `pj_book_write`: 0, or the refusal as one number
abbrev pub write_returned : Result (Unit {0}) Refusal → ℕ
write_returned (Ok _) = 0
write_returned (Err r) = packed r

-- `pj_book_salvage`: the count times 256 plus the marks, or the refusal as one number
abbrev pub salvage_returned : Result Salvaged Refusal → ℕ
salvage_returned (Ok s) = s.count * 256 + s.marks
salvage_returned (Err r) = packed r

-- `pj_find` and `pj_find_two`: reach: the height times 2^16 plus the plan's length, which has no more than 16 bits (proofs/Apart); cannot: 0; or the refusal as one number
abbrev pub find_returned : Result Answer Refusal → ℕ
find_returned (Ok (Reach height size)) = height * 2 ^ 16 + size % 2 ^ 16
find_returned (Ok Cannot) = 0
find_returned (Err r) = packed r

-- `pj_find_plain`: reach: the height and one; cannot: 0; or the refusal as one number
abbrev pub plain_returned : Result PlainAnswer Refusal → ℕ
plain_returned (Ok (PlainReach height)) = height + 1
plain_returned (Ok PlainCannot) = 0
plain_returned (Err r) = packed r

-- `pj_plan_check`: yes: 0, or the refusal as one number
abbrev pub check_returned : Result (Unit {0}) Refusal → ℕ
check_returned (Ok _) = 0
check_returned (Err r) = packed r

-- `pj_rules`: the book's length, or the refusal as one number, with the line of the text
abbrev pub rules_returned : Result ℕ Fault → ℕ
rules_returned (Ok size) = size
rules_returned (Err fault) = packed_at fault.why fault.line

-- `pj_replay`: 0 where every act was allowed, or the refusal as one number
abbrev pub replay_returned : Result Replayed Refusal → ℕ
replay_returned (Ok (Whole running)) = 0
replay_returned (Ok (Stopped why running)) = packed why
replay_returned (Err why) = packed why

-- "`reached[0]` the count, `reached[1]` the valuation"
abbrev pub reached_as : Running → List ℕ
reached_as running = running.count ∷ running.present.0 ∷ []

-- "written by success, 27, 28 and 29 alone"
abbrev pub reached_after : Result Replayed Refusal → List ℕ → List ℕ
reached_after (Ok (Whole running)) old = reached_as running
reached_after (Ok (Stopped why running)) old = reached_as running
reached_after (Err why) old = old

-- A record of a shift: "two bytes an act, the act byte and what was seen (0 or 1; 0 for a set)" (request R-1). And its words, which are the sheet's words for an
-- act: `look P G V` with the value seen, `set P G V` with the value set.
use Rattle.std.specs.Prelude.{Bool, false, List, [], ◌∷◌, ◌++◌, ℕ, eqb, leb, Option, Some, None}
use Rattle.ground.specs.Text.{bytes}
use Rattle.knowledge_acts.specs.Acts.{act_of}
use Rattle.knowledge_acts.specs.declared.act.Act.{Act}
use Rattle.knowledge_acts.specs.declared.act.Act.TheVariants.{Set, Look}
use Rattle.print_answer.specs.Listed.{letter, post_digit, value_digit}

-- "what was seen (0 or 1; 0 for a set)"
abbrev pub seen_in : Option Act → ℕ → Bool
seen_in None seen = false
seen_in (Some (Set i q b)) seen = eqb seen 0
seen_in (Some (Look i q)) seen = leb seen 1

-- the two bytes are a record: 27 denies this. Of which book the act is, text does not ask.
unfoldable pub is_record : ℕ → ℕ → Bool
is_record byte seen = seen_in (act_of byte) seen

-- `P G V`: the setting's letter, the post's digit, the value
abbrev pub names : ℕ → ℕ → Bool → List ℕ
names i q v = letter i ∷ 32 ∷ post_digit q ∷ 32 ∷ value_digit v ∷ []

-- V is the value set, or the value seen
abbrev pub words_of : Option Act → ℕ → List ℕ
words_of None seen = []
words_of (Some (Set i q b)) seen = bytes "set " ++ names i q b
words_of (Some (Look i q)) seen = bytes "look " ++ names i q (eqb seen 1)

-- the words of a record
unfoldable pub record_text : ℕ → ℕ → List ℕ
record_text byte seen = words_of (act_of byte) seen

-- The meaning of a whole text of rules: what it states, or its first refusal. "A last line without byte 10 is 22 at that line, a `#` line too"; "a
-- `team` line in rules is 22".
use Rattle.std.specs.Prelude.{true, List, [], ◌∷◌, ℕ}
use Rattle.refusal.specs.declared.Refusal.{Refusal}
use Rattle.refusal.specs.declared.Refusal.TheVariants.{Malformed}
use Rattle.sheet_rules.specs.Rules.{Rules}
use Rattle.sheet_rules.specs.Reading.{Reading, up_to, rules_of}
use Rattle.sheet_rules.specs.Reading.{refused as reading-refused}

-- a refusal and its line; or all that the text states
pub data Meaning : Type 0 where
  refused : Refusal → (line : ℕ) → Meaning
  stated : Rules → Meaning

-- the rules are followed by nothing: what is left is one empty piece
abbrev pub whole : Rules → ℕ → List (List ℕ) → Meaning
whole rules L [] = refused (Malformed L) L
whole rules L ([] ∷ []) = stated rules
whole rules L ([] ∷ another ∷ more) = refused (Malformed L) L
whole rules L ((c ∷ line) ∷ more) = refused (Malformed L) L

abbrev pub whole_reading : Reading → Meaning
whole_reading (reading-refused r L) = refused r L
whole_reading (up_to rules L pieces) = whole rules L pieces

-- "`book` takes N up to 7"
unfoldable pub rules_meaning : List ℕ → Meaning
rules_meaning text = whole_reading (rules_of true 7 text)

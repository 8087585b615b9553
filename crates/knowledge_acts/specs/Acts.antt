-- "Acts, by a post of the team: set a setting false or true, ..; look, .. A look has two outcomes, digits 3 and 6." And "Plans as bytes": the byte
-- of an act. Where an act is permitted is told by what is known of its rule and of its setting (question/specs/Permitted).
use Rattle.std.specs.Prelude.{Bool, true, false, ◌&&◌, ℕ, zero, suc, ◌+◌, ◌*◌, ◌/◌, ◌%◌, ◌-◌, ltb, leb, Option, Some, None}
use Rattle.ground.specs.Digits.{digit, put, bit}
use Rattle.knowledge_acts.specs.Seven.{after_set, after_look}
use Rattle.knowledge_acts.specs.declared.act.Act.{Act}
use Rattle.knowledge_acts.specs.declared.act.Act.TheVariants.{Set, Look}

abbrev pub setting_of : Act → ℕ
setting_of (Set i q b) = i
setting_of (Look i q) = i

abbrev pub post_of : Act → ℕ
post_of (Set i q b) = q
post_of (Look i q) = q

-- "kind 0 set false, 1 set true, 2 look"
abbrev pub kind_of : Act → ℕ
kind_of (Set i q false) = 0
kind_of (Set i q true) = 1
kind_of (Look i q) = 2

-- "An act is 1 + (kind × 7 + setting) × 8 + post index"
unfoldable pub byte_of : Act → ℕ
byte_of a = 1 + (kind_of a * 7 + setting_of a) * 8 + post_of a

abbrev pub or_none : Bool → ℕ → ℕ
or_none true byte = byte
or_none false byte = 0

-- the byte of an act on one of the seven settings by one of the eight posts, and 0, which names no act, for any other
unfoldable pub plan_byte : Act → ℕ
plan_byte a = or_none (ltb (setting_of a) 7 && ltb (post_of a) 8) (byte_of a)

-- the act of a kind, a setting and a post
abbrev pub of_kind : ℕ → ℕ → ℕ → Act
of_kind zero i q = Set i q false
of_kind (suc zero) i q = Set i q true
of_kind (suc (suc kind)) i q = Look i q

abbrev pub named : Bool → Act → Option Act
named true a = Some a
named false a = None

-- the act that a byte names: "168 is the largest", and a stop, 0, is none
unfoldable pub act_of : ℕ → Option Act
act_of byte = named (ltb 0 byte && leb byte 168) (of_kind ((byte - 1) / 56) ((byte - 1) / 8 % 7) ((byte - 1) % 8))

-- "act of this book and team": the setting is one of the book's n, and the post is one of the team's
unfoldable pub offered : ℕ → ℕ → Act → Bool
offered n team a = ltb (setting_of a) n && bit team (post_of a)

-- "An act changes one digit": the knowledge number after setting i was set to b, and after it was looked at and seen to be b
unfoldable pub set_to : ℕ → ℕ → Bool → ℕ
set_to k i b = put 7 k i (after_set (digit 7 k i) b)

unfoldable pub look_at : ℕ → ℕ → Bool → ℕ
look_at k i b = put 7 k i (after_look b)

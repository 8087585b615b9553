-- The station on true settings. A post of the book may do an act where its rule is true at the present valuation: any post, in a team or not, looks at
-- settings that are known too. A set changes its setting; a look shows the present value. No word of knowledge: v is what the settings really are.
use Rattle.std.specs.Prelude.{Bool, true, false, ◌&&◌, List, ℕ, ltb, Option, Some, None}
use Rattle.ground.specs.Digits.{bit}
use Rattle.ground.specs.Table.{truth}
use Rattle.book_block.specs.Rule.{rule}
use Rattle.book_block.specs.declared.rule.Right.{Right}
use Rattle.book_block.specs.declared.rule.Right.TheVariants.{Look as look-rule, Set as set-rule}
use Rattle.knowledge_acts.specs.Acts.{setting_of, post_of}
use Rattle.knowledge_acts.specs.declared.act.Act.{Act}
use Rattle.knowledge_acts.specs.declared.act.Act.TheVariants.{Set, Look}
use Rattle.plan.specs.Runs.{change}

-- an "act of this book": its setting is one of the n, and its post one of the m
unfoldable pub of_book : ℕ → ℕ → Act → Bool
of_book n m a = ltb (setting_of a) n && ltb (post_of a) m

-- the rule that an act stands under: its setting's set rule or look rule for its post
abbrev pub right_of : Act → Right
right_of (Set i q b) = set-rule
right_of (Look i q) = look-rule

unfoldable pub rule_of : List ℕ → Act → List ℕ
rule_of book a = rule book (setting_of a) (post_of a) (right_of a)

-- "allow on the true settings": the act's rule is true at v
unfoldable pub allowed : List ℕ → ℕ → Act → Bool
allowed book v a = truth (rule_of book a) v

-- what the settings are after an act on v: "a set changes its setting" (plan/specs/Runs), a look none
abbrev pub left_by : ℕ → Act → ℕ
left_by v (Set i q b) = change v i b
left_by v (Look i q) = v

-- "what was seen (0 or 1; 0 for a set)"
abbrev pub seen_as : Bool → ℕ
seen_as false = 0
seen_as true = 1

-- what an act on v shows: a look the present value, a set nothing
abbrev pub shown : ℕ → Act → ℕ
shown v (Set i q b) = 0
shown v (Look i q) = seen_as (bit v i)

-- the largest that can be recorded as seen
abbrev pub seen_most : Act → ℕ
seen_most (Set i q b) = 0
seen_most (Look i q) = 1

-- the settings after the act that a byte names; what is no act changes nothing
abbrev pub leaves : ℕ → Option Act → ℕ
leaves v None = v
leaves v (Some a) = left_by v a

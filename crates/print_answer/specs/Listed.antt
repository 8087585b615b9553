-- "A line per plan byte: depth (acts before it on its branch), then `stop`, or `look P G`, or `set P G V` with V 0 or 1." Every line ends
-- in byte 10.
use Rattle.std.specs.Prelude.{Bool, true, false, List, [], ◌∷◌, ◌++◌, ℕ, ◌+◌, ◌<◌}
use Rattle.ground.specs.Text.{bytes}
use Rattle.knowledge_acts.specs.declared.act.Act.{Act}
use Rattle.knowledge_acts.specs.declared.act.Act.TheVariants.{Set, Look}
use Rattle.plan.specs.Plans.{Plan, stop, set_then, look_then}
use Rattle.print_room.specs.Decimal.{decimal}

-- every line ends in byte 10, as a sheet's lines do
abbrev pub line : List ℕ → List ℕ
line text = text ++ 10 ∷ []

-- "P a setting letter": `a`, byte 97, is setting 0
abbrev pub letter : ℕ → ℕ
letter setting = 97 + setting

-- "G a post digit": `1`, byte 49, is the post with index 0
abbrev pub post_digit : ℕ → ℕ
post_digit post = 49 + post

-- "V 0 or 1"
abbrev pub value_digit : Bool → ℕ
value_digit false = 48
value_digit true = 49

-- "`look P G`, or `set P G V`"
abbrev pub act_text : Act → List ℕ
act_text (Set i q b) = bytes "set " ++ letter i ∷ 32 ∷ post_digit q ∷ 32 ∷ value_digit b ∷ []
act_text (Look i q) = bytes "look " ++ letter i ∷ 32 ∷ post_digit q ∷ []

-- "depth .., then" the text
abbrev pub numbered : ℕ → List ℕ → List ℕ
numbered depth text = line (decimal depth ++ bytes " " ++ text)

-- "a line per plan byte": after a look the false outcome's lines, then the true one's, each one act deeper
abbrev pub plan_text : ℕ → Plan → List ℕ
plan_text depth stop = numbered depth (bytes "stop")
plan_text depth (set_then i q b p) = numbered depth (act_text (Set i q b)) ++ plan_text (depth + 1) p
plan_text depth (look_then i q p r) = numbered depth (act_text (Look i q)) ++ plan_text (depth + 1) p ++ plan_text (depth + 1) r

-- each act is on a setting that has a letter, `a` to `g`, by a post that has a digit, `1` to `8`
abbrev pub Lettered : Plan → Type 0
Lettered stop = Unit
Lettered (set_then i q b p) = (i < 7) × (q < 8) × Lettered p
Lettered (look_then i q p r) = (i < 7) × (q < 8) × Lettered p × Lettered r

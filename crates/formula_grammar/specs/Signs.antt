-- The bytes of a formula: "`a`–`g` `0` `1` `~` `&` `|` `(` `)`", the letters of n settings among them; any other byte is foreign, of refusal 2 or 3.
use Rattle.std.specs.Prelude.{List, Bool, cond, not, ◌&&◌, ◌||◌, ℕ, ◌+◌, ◌<◌, T, leb, eqb, length, get_or}
use Rattle.ground.specs.Text.{byte}
use Rattle.refusal.specs.declared.Refusal.{Refusal}
use Rattle.refusal.specs.declared.Refusal.TheVariants.{StrayByte, LetterPast}

-- `a`–`g`
unfoldable pub is_letter : ℕ → Bool
is_letter c = leb (byte "a") c && leb c (byte "g")

-- `0` `1` `~` `&` `|` `(` `)`
unfoldable pub is_sign : ℕ → Bool
is_sign c = eqb c (byte "0") || eqb c (byte "1") || eqb c (byte "~") || eqb c (byte "&") || eqb c (byte "|") || eqb c (byte "(") || eqb c (byte ")")

-- 2: "byte outside `a`–`g` `0` `1` `~` `&` `|` `(` `)`"
unfoldable pub is_stray : ℕ → Bool
is_stray c = not (is_letter c || is_sign c)

-- 3: "letter at or past n"
unfoldable pub is_past : ℕ → ℕ → Bool
is_past n c = is_letter c && leb (byte "a" + n) c

-- i is a place of 2 or 3
abbrev pub Foreign : ℕ → List ℕ → ℕ → Type 0
Foreign n s i = (i < length s) × T (is_stray (get_or s i 0) || is_past n (get_or s i 0))

-- 2 for a byte that no formula has, 3 for a letter at or past n: the refusal of the foreign byte at place i
abbrev pub foreign_byte : List ℕ → ℕ → Refusal
foreign_byte s i = cond (is_stray (get_or s i 0)) (StrayByte i) (LetterPast i)

-- The sentences of paper 01. "A sum is one or more products joined by `|`. A product is one or more units joined by `&`. A unit is `~` and a
-- unit, or a sum in round brackets, or a letter, or `0` or `1`." A sentence is a tree; `text` writes it out, `meaning` is its truth.
use Rattle.std.specs.Prelude.{◌≡◌, List, [], ◌∷◌, ◌++◌, Bool, true, false, not, ◌&&◌, ◌||◌, ℕ, ◌+◌, ◌<◌}
use Rattle.ground.specs.Digits.{bit}
use Rattle.ground.specs.Text.{byte}

pub data Kind : Type 0 where
  sum product unit : Kind

pub data Sentence : Kind → Type 0 where
  -- "a letter": a is letter 0, g is letter 6
  letter : (i : ℕ) → i < 7 → Sentence unit
  -- "`0` or `1`"
  nought one : Sentence unit
  -- "`~` and a unit"
  negated : Sentence unit → Sentence unit
  -- "a sum in round brackets"
  bracketed : Sentence sum → Sentence unit
  -- "one or more units joined by `&`"
  one_unit : Sentence unit → Sentence product
  unit_and : Sentence unit → Sentence product → Sentence product
  -- "one or more products joined by `|`"
  one_product : Sentence product → Sentence sum
  product_or : Sentence product → Sentence sum → Sentence sum

-- the bytes of a sentence: "A formula has no blanks"
unfoldable pub text : {k : Kind} → Sentence k → List ℕ
text (letter i h) = (byte "a" + i) ∷ []
text nought = byte "0" ∷ []
text one = byte "1" ∷ []
text (negated u) = byte "~" ∷ text u
text (bracketed s) = byte "(" ∷ text s ++ (byte ")" ∷ [])
text (one_unit u) = text u
text (unit_and u p) = text u ++ byte "&" ∷ text p
text (one_product p) = text p
text (product_or p s) = text p ++ byte "|" ∷ text s

-- the truth of a sentence at the valuation v, "whose bit i is setting i (a is bit 0)"
unfoldable pub meaning : {k : Kind} → Sentence k → ℕ → Bool
meaning (letter i h) v = bit v i
meaning nought v = false
meaning one v = true
meaning (negated u) v = not (meaning u v)
meaning (bracketed s) v = meaning s v
meaning (one_unit u) v = meaning u v
meaning (unit_and u p) v = meaning u v && meaning p v
meaning (one_product p) v = meaning p v
meaning (product_or p s) v = meaning p v || meaning s v

-- "The reader accepts exactly these sentences": s is the text of a sum
pub record IsSentence (s : List ℕ) : Type 0 where
  pub sentence : Sentence sum
  pub written : text sentence ≡ s

-- s begins a sentence of some length, whatever follows
pub record Begins (s : List ℕ) : Type 0 where
  pub sentence : Sentence sum
  pub rest : List ℕ
  pub written : text sentence ≡ s ++ rest

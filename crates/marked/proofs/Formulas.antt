-- A formula's text is read by the checker: its sentence and its table are computed, and a test says that they are right.
use mathlib.Core.Logic.{inl, inr}
use mathlib.Core.List.{List, [], ◌∷◌}
use mathlib.Core.Bool.{Bool, true, false, ◌&&◌, cond}
use Prim.Native.Nat.{ℕ, zero, suc, ◌+◌, ◌*◌, ◌-◌, ◌^◌}
use lib.Dec.{T, eqb, ltb, ltb→lt, eqb→eq}
use lib.ListN.{length, get_or, drop}
use Rattle.ground.specs.Digits.{bit, digit}
use Rattle.ground.specs.Search.{all}
use Rattle.ground.specs.Table.{truth}
use Rattle.ground.specs.Text.{byte}
use Rattle.formula_grammar.specs.Grammar.{Kind, sum, product, unit, Sentence, letter, nought, one, negated, bracketed, one_unit, unit_and, one_product, product_or, text, meaning}
use Rattle.formula_grammar.specs.Signs.{is_letter, is_sign, is_stray, is_past}
use Rattle.formula.specs.Read.{Accepts}
use Rattle.formula.proofs.ByTest.{foreign, bounds, clean, tabled, accepted}
use Rattle.marked.proofs.Tests.{every, pick, whether, same, same_out}

-- a part of a kind and what follows it, or none
pub data Found (k : Kind) : Type 0 where
  none : Found k
  found : Sentence k → List ℕ → Found k

-- "a letter, or `0` or `1`"
unfoldable atom : ℕ → List ℕ → Found unit
unfolding whether
atom c s = elim (eqb c (byte "0")) [
  | true ↦ found nought s
  | false ↦ elim (eqb c (byte "1")) [
    | true ↦ found one s
    | false ↦ elim (whether (ltb (c - byte "a") 7)) [ inl h ↦ found (letter (c - byte "a") (ltb→lt (c - byte "a") 7 h)) s | inr h ↦ none ]
  ]
]

-- "a sum in round brackets", from its closing bracket on
unfoldable closed : Found sum → Found unit
closed none = none
closed (found e []) = none
closed (found e (c ∷ s)) = found (bracketed e) s

unfoldable denied : Found unit → Found unit
denied none = none
denied (found u s) = found (negated u) s

unfoldable and_then : Sentence unit → Found product → Found product
and_then u none = none
and_then u (found p s) = found (unit_and u p) s

unfoldable or_then : Sentence product → Found sum → Found sum
or_then p none = none
or_then p (found e s) = found (product_or p e) s

-- the part of kind k that s begins with; the first number is for the checker alone, and is large enough
unfoldable parse : ℕ → (k : Kind) → List ℕ → Found k
unfolding atom closed denied and_then or_then
parse zero k s = none
parse (suc f) unit [] = none
parse (suc f) unit (c ∷ s) = elim (eqb c (byte "~")) [
  | true ↦ denied (parse f unit s)
  | false ↦ elim (eqb c (byte "(")) [ true ↦ closed (parse f sum s) | false ↦ atom c s ]
]
parse (suc f) product s = elim (parse f unit s) [
  | none ↦ none
  | found u r ↦ elim (eqb (get_or r 0 0) (byte "&")) [ true ↦ and_then u (parse f product (drop 1 r)) | false ↦ found (one_unit u) r ]
]
parse (suc f) sum s = elim (parse f product s) [
  | none ↦ none
  | found p r ↦ elim (eqb (get_or r 0 0) (byte "|")) [ true ↦ or_then p (parse f sum (drop 1 r)) | false ↦ found (one_product p) r ]
]

unfoldable parsed : List ℕ → Found sum
unfolding parse
parsed s = parse (3 * length s + 3) sum s

-- ---- its table

-- the number whose bits are f 0, f 1, .. below the i-th
unfoldable number_of : (ℕ → Bool) → ℕ → ℕ
number_of f zero = 0
number_of f (suc i) = number_of f i + cond (f i) (2 ^ i) 0

-- `count` bytes, those of the valuations from v on
unfoldable bytes_from : (ℕ → Bool) → ℕ → ℕ → List ℕ
unfolding number_of
bytes_from f v zero = []
bytes_from f v (suc count) = number_of (λ i. f (v + i)) 8 ∷ bytes_from f (v + 8) count

unfoldable table_in : ℕ → Found sum → List ℕ
unfolding bytes_from meaning bit digit
table_in n none = []
table_in n (found e r) = bytes_from (λ v. ltb v (2 ^ n) && meaning e v) 0 16

-- the table of a text
unfoldable pub table_of : ℕ → List ℕ → List ℕ
unfolding parsed table_in
table_of n s = table_in n (parsed s)

-- ---- the test

abbrev tests : ℕ → List ℕ → List ℕ → Sentence sum → List Bool
tests n s t e = bounds n s ∷ clean n s ∷ same (text e) s ∷ eqb (length t) 16 ∷ tabled n e t ∷ []

unfoldable right : ℕ → List ℕ → List ℕ → Found sum → Bool
unfolding every same bounds clean foreign is_stray is_past is_letter is_sign all tabled truth bit digit meaning text
right n s t none = false
right n s t (found e r) = every (tests n s t e)

-- s is a formula over n settings, with the table t (who names it on an `unfolding` line unfolds all of it, so that the test computes)
unfoldable pub takes : ℕ → List ℕ → List ℕ → Bool
unfolding parsed right
takes n s t = right n s t (parsed s)

right_out : (n : ℕ) (s t : List ℕ) (p : Found sum) → T (right n s t p) → Accepts n s t
unfolding right
right_out n s t none h = absurd h
right_out n s t (found e r) h =
    let x = tests n s t e in
    accepted n s (pick x 0 h) (pick x 1 h) e (same_out (text e) s (pick x 2 h)) t (eqb→eq (length t) 16 (pick x 3 h)) (pick x 4 h)

pub taken : (n : ℕ) (s t : List ℕ) → T (takes n s t) → Accepts n s t
unfolding takes
taken n s t h = right_out n s t (parsed s) h

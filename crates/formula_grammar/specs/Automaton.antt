-- Where a text stops being the beginning of a sentence, computed. After each byte a unit is due (`wants`) or done (`has`), with a count of open
-- brackets; a byte that fits neither leaves it dead. The readers' promises speak of this; proofs/Begins shows that it is the grammar.
use Rattle.std.specs.Prelude.{◌≡◌, List, [], ◌∷◌, ◌++◌, Bool, true, not, ◌||◌, cond, ℕ, zero, suc, ◌+◌, T, eqb, length, get_or, drop, Result, Ok, Err}
use Rattle.ground.specs.Text.{byte}
use Rattle.formula_grammar.specs.Grammar.{Kind, sum, product, unit, Sentence, text, meaning}
use Rattle.formula_grammar.specs.Signs.{is_letter}
use Rattle.formula_table.specs.Two.{WordsOf}
use Rattle.formula_table.specs.declared.Truths.{Truths}
use Rattle.formula_grammar.specs.declared.parts.Part.{Part}

pub data State : Type 0 where
  wants has : ℕ → State
  dead : State

-- a unit of one byte
unfoldable pub is_atom : ℕ → Bool
is_atom c = eqb c (byte "0") || eqb c (byte "1") || is_letter c

abbrev pub close : ℕ → State
close zero = dead
close (suc d) = has d

unfoldable pub step : State → ℕ → State
step (wants d) c = cond (eqb c (byte "~")) (wants d) (cond (eqb c (byte "(")) (wants (suc d)) (cond (is_atom c) (has d) dead))
step (has d) c = cond (eqb c (byte "&") || eqb c (byte "|")) (wants d) (cond (eqb c (byte ")")) (close d) dead)
step dead c = dead

pub data Verdict : Type 0 where
  whole : Verdict
  breaks : ℕ → Verdict

-- at the end of the text, at place i
abbrev pub ends : State → ℕ → Verdict
ends (wants d) i = breaks i
ends (has zero) i = whole
ends (has (suc d)) i = breaks i
ends dead i = breaks i

-- the text from place i on: whole, or the place where it breaks
unfoldable pub verdict : State → ℕ → List ℕ → Verdict
verdict st i [] = ends st i
verdict st i (c ∷ s) = elim (step st c) [ wants d ↦ verdict (wants d) (suc i) s | has d ↦ verdict (has d) (suc i) s | dead ↦ breaks i ]

-- the byte after a part that was read goes on with none of its kind
unfoldable pub stops : Kind → ℕ → Bool
stops unit c = true
stops product c = not (eqb c (byte "&"))
stops sum c = not (eqb c (byte "&") || eqb c (byte "|"))

-- a part of the given kind was read from place i up to place next
pub record Parsed (k : Kind) (s : List ℕ) (i : ℕ) (w : Truths) (next : ℕ) : Type 0 where
  pub sentence : Sentence k
  pub spans : drop i s ≡ text sentence ++ drop next s
  pub until : next ≡ i + length (text sentence)
  pub holds : WordsOf w (meaning sentence)
  pub stopped : T (stops k (get_or s next 0))

-- no part of the given kind stands at place i, whatever it would be, and p is the place where no sentence goes on, however many brackets are open
pub record NoPart (k : Kind) (s : List ℕ) (i p : ℕ) : Type 0 where
  pub none : (sentence : Sentence k) (rest : List ℕ) → drop i s ≡ text sentence ++ rest → T (stops k (get_or rest 0 0)) → ⊥
  pub broken : (d : ℕ) → verdict (wants d) i (drop i s) ≡ breaks p

-- what a reader of the given kind finds at place i: a part, or that there is none
abbrev pub Parses : Kind → List ℕ → ℕ → Result Part ℕ → Type 0
Parses k s i (Ok part) = Parsed k s i part.truths part.end
Parses k s i (Err p) = NoPart k s i p

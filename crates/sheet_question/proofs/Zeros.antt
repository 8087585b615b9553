-- The desk when nothing is asked: zeros, which are the table of `0`.
use mathlib.Core.Path.{refl, sym, subst}
use Prim.Native.Nat.{ℕ, zero, suc, ◌≤◌, ◌<◌}
use native.Mathlib.Omega.{arith}
use lib.Dec.{lit<, lit≤}
use lib.ListN.{replicate, length-replicate}
use Rattle.ground.specs.Text.{bytes}
use Rattle.ground.specs.Table.{Within}
use Rattle.ground.proofs.Table.{zero_at, zero_truth}
use Rattle.ground.proofs.Bits.{bit_of_zero}
use Rattle.formula_grammar.specs.Grammar.{nought, one_unit, one_product, text, meaning}
use Rattle.formula_grammar.specs.Signs.{Foreign, is_stray, is_past, is_letter, is_sign}
use Rattle.formula.specs.Read.{Accepts}
use Rattle.sheet_words.specs.Words.{member}
use Rattle.sheet_question.specs.Asked.{nothing_asked, known_settings, known_true}
use Rattle.sheet_question.specs.Desk.{AskedOnDesk}
use Rattle.sheet_question.specs.Places.{asked_laid, naming}

nought-clean : (n j : ℕ) → Foreign n (bytes "0") j → ⊥
unfolding is_stray is_past is_letter is_sign
nought-clean n zero (l, t) = t
nought-clean n (suc j) (l, t) = omega arith

-- zeros are the table of the text `0`
pub nought_accepts : (n : ℕ) → 1 ≤ n → n ≤ 7 → Accepts n (bytes "0") (replicate 16 0)
unfolding Within text meaning
nought_accepts n h k = record {
  settings = record { least = h; most = k };
  size = (lit≤ tt, lit≤ tt);
  clean = nought-clean n;
  parsed = record { sentence = one_product (one_unit nought); written = refl };
  table = record {
    sixteen = refl;
    bytes = λ j. subst (λ (x : ℕ). x < 256) (sym (zero_at 16 j)) (lit< tt);
    tells = λ v l. zero_truth v;
    within = λ v l m. zero_truth v;
  };
}

pub nothing_on_desk : (n : ℕ) → 1 ≤ n → n ≤ 7 → AskedOnDesk n nothing_asked (asked_laid (naming 0 0 0 0) (replicate 16 0) 0 (replicate 64 0))
unfolding member known_settings known_true
nothing_on_desk n h k = record {
  team = bit_of_zero;
  known = bit_of_zero;
  values = bit_of_zero;
  held = bit_of_zero;
  make = nought_accepts n h k;
  asks = refl;
  asks_most = omega arith;
  learn_size = length-replicate {A = ℕ} 64 0;
  learn = refl;
  learn_rest = λ j l. zero_at 64 j;
}

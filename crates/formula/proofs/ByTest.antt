-- `read` on a text that is written out: each part of what it may answer, from a test that the checker computes.
use mathlib.Core.Path.{◌≡◌, sym, ap, ◌∙◌, subst}
use mathlib.Core.Logic.{inl, inr}
use mathlib.Core.List.{List}
use mathlib.Core.Bool.{Bool, not, ◌&&◌, ◌||◌, beq}
use Prim.Native.Nat.{ℕ, ◌^◌, ◌<◌}
use native.Mathlib.Omega.{arith}
use lib.Dec.{T, ltb, leb, ltb→lt, leb→le, lit<}
use lib.ListN.{length, get_or, get_or-eq_default}
use lib.Pow.{pow_mono}
use borrow.Author.Tests.{lt-ltb, le-ltb}
use Rattle.ground.specs.Search.{all}
use Rattle.ground.specs.Table.{truth, Within, TableOf}
use Rattle.ground.proofs.Bools.{and_left, and_right, or_right, beq→eq, both, lt_or_ge}
use Rattle.ground.proofs.Search.{all-at}
use Rattle.formula_grammar.specs.Grammar.{Sentence, sum, text, meaning}
use Rattle.ground.specs.Bounds.{SettingsFit}
use Rattle.formula_grammar.specs.Signs.{is_stray, is_past, Foreign}
use Rattle.formula_grammar.specs.Automaton.{wants, breaks, verdict}
use Rattle.refusal.specs.declared.Refusal.TheVariants.{LetterPast, NotSentence}
use Rattle.refusal.specs.Order.{First}
use Rattle.formula.specs.Read.{LengthFits, formula_rows, Accepts}
use Rattle.formula.proofs.Answers.{broken, past-at}

-- the byte c is of no use over n settings
unfoldable pub foreign : ℕ → ℕ → Bool
foreign n c = is_stray c || is_past n c

-- n and the length are in their bounds
unfoldable pub bounds : ℕ → List ℕ → Bool
bounds n s = (leb 1 n && leb n 7) && (leb 1 (length s) && leb (length s) 255)

-- no byte is foreign
unfoldable pub clean : ℕ → List ℕ → Bool
clean n s = all (length s) (λ i. not (foreign n (get_or s i 0)))

-- t says v by v what the sentence means, and nothing past 2^n
unfoldable pub tabled : ℕ → Sentence sum → List ℕ → Bool
tabled n e t = all 128 (λ v. beq (truth t v) (ltb v (2 ^ n) && meaning e v)) && all 16 (λ j. ltb (get_or t j 0) 256)

module _ (n : ℕ) (s : List ℕ) (b : T (bounds n s)) where
  pub settings_fit : SettingsFit n
  unfolding bounds
  settings_fit =
      (let h = and_left (leb 1 n && leb n 7) (leb 1 (length s) && leb (length s) 255) b in
      record { least = leb→le 1 n (and_left (leb 1 n) (leb n 7) h); most = leb→le n 7 (and_right (leb 1 n) (leb n 7) h) })

  pub length-fits : LengthFits s
  unfolding bounds
  length-fits =
      (let h = and_right (leb 1 n && leb n 7) (leb 1 (length s) && leb (length s) 255) b in
      (leb→le 1 (length s) (and_left (leb 1 (length s)) (leb (length s) 255) h), leb→le (length s) 255 (and_right (leb 1 (length s)) (leb (length s) 255) h)))

  no_foreign : T (clean n s) → (j : ℕ) → Foreign n s j → ⊥
  unfolding clean foreign
  no_foreign c j x = both (is_stray (get_or s j 0) || is_past n (get_or s j 0)) x.1 (all-at (length s) (λ i. not (foreign n (get_or s i 0))) c j x.0)

  table_by : (e : Sentence sum) (t : List ℕ) → length t ≡ 16 → T (tabled n e t) → TableOf n (meaning e) t
  unfolding tabled Within
  table_by e t l h = record {
    sixteen = l;
    bytes = λ j. elim (lt_or_ge j 16) [
      | inl m ↦ ltb→lt (get_or t j 0) 256 (all-at 16 (λ j. ltb (get_or t j 0) 256) small j m)
      | inr m ↦ subst (λ (x : ℕ). x < 256) (sym (get_or-eq_default t 0 (omega (arith, l)))) (lit< tt)
    ];
    tells = λ v m. (let low : v < 128 = omega (arith, pow_mono {i = n} {j = 7} settings_fit.most) in at v low ∙ ap (λ (x : Bool). x && meaning e v) (lt-ltb v (2 ^ n) m));
    within = λ v m low. at v low ∙ ap (λ (x : Bool). x && meaning e v) (le-ltb v (2 ^ n) m);
  }
    where
      says : T (all 128 (λ v. beq (truth t v) (ltb v (2 ^ n) && meaning e v)))
      says = and_left (all 128 (λ v. beq (truth t v) (ltb v (2 ^ n) && meaning e v))) (all 16 (λ j. ltb (get_or t j 0) 256)) h

      small : T (all 16 (λ j. ltb (get_or t j 0) 256))
      small = and_right (all 128 (λ v. beq (truth t v) (ltb v (2 ^ n) && meaning e v))) (all 16 (λ j. ltb (get_or t j 0) 256)) h

      at : (v : ℕ) → v < 128 → truth t v ≡ (ltb v (2 ^ n) && meaning e v)
      at v low = beq→eq (truth t v) (ltb v (2 ^ n) && meaning e v) (all-at 128 (λ v. beq (truth t v) (ltb v (2 ^ n) && meaning e v)) says v low)

  -- the text of the sentence e, with the table t
  pub accepted : T (clean n s) → (e : Sentence sum) → text e ≡ s → (t : List ℕ) → length t ≡ 16 → T (tabled n e t) → Accepts n s t
  accepted c e w t l h =
      record { settings = settings_fit; size = length-fits; clean = no_foreign c; parsed = record { sentence = e; written = w }; table = table_by e t l h }

  -- a text that breaks at the place i
  pub broken-at : T (clean n s) → (i : ℕ) → verdict (wants 0) 0 s ≡ breaks i → First (formula_rows n s) (NotSentence i)
  broken-at c i v = broken n s settings_fit length-fits (no_foreign c) i v

  -- a letter past the settings at the place i, and nothing foreign before it
  pub letter-past-at : (i : ℕ) → i < length s → T (is_past n (get_or s i 0)) → T (all i (λ j. not (foreign n (get_or s j 0))))
      → First (formula_rows n s) (LetterPast i)
  unfolding foreign
  letter-past-at i l p c =
      past-at n s settings_fit length-fits i
      (record {
        here = (l, or_right (is_stray (get_or s i 0)) (is_past n (get_or s i 0)) p);
        none_below = λ j m x. both (is_stray (get_or s j 0) || is_past n (get_or s j 0)) x.1 (all-at i (λ j. not (foreign n (get_or s j 0))) c j m);
      }) p

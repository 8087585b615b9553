-- The rows on formulas, by tests that the checker computes: the table that is read, or the refusal; `read_unique` says that there is no other answer.
use mathlib.Core.Path.{◌≡◌}
use mathlib.Core.Logic.{inl, inr}
use mathlib.Core.List.{List, [], ◌∷◌}
use mathlib.Core.Bool.{Bool, false, not, ◌&&◌, ◌||◌}
use Prim.Native.Nat.{ℕ}
use Prim.Native.String.{String}
use lib.Dec.{T, eqb, ltb, leb, eqb→eq, ltb→lt, leb→le, le→leb}
use lib.ListN.{length, get_or}
use Rattle.std.specs.Prelude.{Result, Ok, Err}
use Rattle.ground.specs.Bounds.{SettingsFit}
use Rattle.ground.specs.Search.{Least, all}
use Rattle.ground.specs.Text.{bytes}
use Rattle.ground.proofs.Bools.{and_in, and_left, and_right, or_out, both}
use Rattle.ground.proofs.Search.{all-at}
use Rattle.formula_grammar.specs.Signs.{is_letter, is_sign, is_stray, is_past, Foreign, foreign_byte}
use Rattle.formula_grammar.specs.Automaton.{is_atom, step, wants, Verdict, whole, breaks, verdict}
use Rattle.refusal.specs.declared.Refusal.{Refusal}
use Rattle.refusal.specs.declared.Refusal.TheVariants.{Settings, FormulaLength, NotSentence}
use Rattle.refusal.specs.Order.{First}
use Rattle.refusal.specs.Refusals.{number, place}
use Rattle.formula.specs.Read.{ReadsFormula, formula_rows}
use Rattle.formula.proofs.Answers.{no_settings, no_length, foreign_at}
use Rattle.formula.proofs.ByTest.{foreign, bounds, clean, settings_fit, length-fits, broken-at}
use Rattle.formula.proofs.Unique.{read_unique}
use Rattle.marked.specs.Row.{Only, RowHolds, reads, refuses}
use Rattle.marked.proofs.Tests.{every, pick}
use Rattle.marked.proofs.Formulas.{table_of, takes, taken}

only : {n : ℕ} {s : List ℕ} (a : Result (List ℕ) Refusal) → ReadsFormula n s a → Only n s a
only {n} {s} a r = record { allowed = r; no_other = λ b q. read_unique n s b a q r }

-- ---- a formula that is taken

-- its table is computed, and so is whether it begins with this byte
unfoldable pub reads_so : ℕ → String → ℕ → Bool
unfolding takes table_of
reads_so n s byte = takes n (bytes s) (table_of n (bytes s)) && eqb (get_or (table_of n (bytes s)) 0 0) byte

pub row_reads : (n : ℕ) (s : String) (byte : ℕ) → T (reads_so n s byte) → RowHolds (reads n s byte)
unfolding reads_so
row_reads n s byte h =
    let t : List ℕ = table_of n (bytes s) in
    let a = and_left (takes n (bytes s) t) (eqb (get_or t 0 0) byte) h in
    (t, only (Ok t) (taken n (bytes s) t a), eqb→eq (get_or t 0 0) byte (and_right (takes n (bytes s) t) (eqb (get_or t 0 0) byte) h))

-- ---- a formula that is refused

abbrev breaks-at : ℕ → Verdict → Bool
breaks-at p whole = false
breaks-at p (breaks i) = eqb i p

breaks_out : (p : ℕ) (v : Verdict) → T (breaks-at p v) → v ≡ breaks p
breaks_out p whole h = absurd h
breaks_out p (breaks i) h = rw (eqb→eq i p h)

abbrev numbered : Refusal → ℕ → ℕ → Bool
numbered r x p = eqb (number r) x && eqb (place r) p

-- 5; 1; 2 or 3 at the place p, and nothing foreign before it; 4 at the place p
abbrev five : ℕ → List ℕ → ℕ → ℕ → List Bool
five n s x p = numbered Settings x p ∷ not (leb 1 n && leb n 7) ∷ []

abbrev first : ℕ → List ℕ → ℕ → ℕ → List Bool
first n s x p = numbered FormulaLength x p ∷ (leb 1 n && leb n 7) ∷ not (leb 1 (length s) && leb (length s) 255) ∷ []

abbrev stray : ℕ → List ℕ → ℕ → ℕ → List Bool
stray n s x p =
    numbered (foreign_byte s p) x p ∷ bounds n s ∷ ltb p (length s) ∷ (is_stray (get_or s p 0) || is_past n (get_or s p 0)) ∷ all p (λ j. not (foreign n (get_or s j 0))) ∷ []

abbrev broken : ℕ → List ℕ → ℕ → ℕ → List Bool
broken n s x p = numbered (NotSentence p) x p ∷ bounds n s ∷ clean n s ∷ breaks-at p (verdict (wants 0) 0 s) ∷ []

unfoldable pub refuses_so : ℕ → String → ℕ → ℕ → Bool
unfolding every bounds clean foreign is_stray is_past is_letter is_sign all verdict step is_atom
refuses_so n s x p = every (five n (bytes s) x p) || (every (first n (bytes s) x p) || (every (stray n (bytes s) x p) || every (broken n (bytes s) x p)))

module _ (n : ℕ) (s : List ℕ) (x p : ℕ) where
  abbrev Row : Type 0
  Row = (r : Refusal) × Only n s (Err r) × (number r ≡ x) × (place r ≡ p)

  with_refusal : (r : Refusal) → First (formula_rows n s) r → T (numbered r x p) → Row
  with_refusal r f h = (
    r,
    only (Err r) f,
    eqb→eq (number r) x (and_left (eqb (number r) x) (eqb (place r) p) h),
    eqb→eq (place r) p (and_right (eqb (number r) x) (eqb (place r) p) h),
  )

  by_five : T (every (five n s x p)) → Row
  by_five h =
      let t = five n s x p in
      with_refusal Settings
      (no_settings n s (λ f. both (leb 1 n && leb n 7) (and_in (leb 1 n) (leb n 7) (le→leb 1 n f.least) (le→leb n 7 f.most)) (pick t 1 h)))
      (pick t 0 h)

  by_length : T (every (first n s x p)) → Row
  by_length h =
      let t = first n s x p in
      let a : Bool = leb 1 (length s) in
      let b : Bool = leb (length s) 255 in
      let fit : SettingsFit n =
      record { least = leb→le 1 n (and_left (leb 1 n) (leb n 7) (pick t 1 h)); most = leb→le n 7 (and_right (leb 1 n) (leb n 7) (pick t 1 h)) }
      in
      with_refusal FormulaLength
      (no_length n s fit (λ f. both (a && b) (and_in a b (le→leb 1 (length s) f.0) (le→leb (length s) 255 f.1)) (pick t 2 h)))
      (pick t 0 h)

  by_stray : T (every (stray n s x p)) → Row
  unfolding foreign
  by_stray h =
      let t = stray n s x p in
      let least : Least (Foreign n s) p =
      record {
        here = (ltb→lt p (length s) (pick t 2 h), pick t 3 h);
        none_below = λ j m y. both (is_stray (get_or s j 0) || is_past n (get_or s j 0)) y.1 (all-at p (λ j. not (foreign n (get_or s j 0))) (pick t 4 h) j m);
      }
      in
      with_refusal (foreign_byte s p) (foreign_at n s (settings_fit n s (pick t 1 h)) (length-fits n s (pick t 1 h)) least) (pick t 0 h)

  by_broken : T (every (broken n s x p)) → Row
  by_broken h =
      let t = broken n s x p in
      with_refusal (NotSentence p) (broken-at n s (pick t 1 h) (pick t 2 h) p (breaks_out p (verdict (wants 0) 0 s) (pick t 3 h))) (pick t 0 h)

pub row-refuses : (n : ℕ) (s : String) (x p : ℕ) → T (refuses_so n s x p) → RowHolds (refuses n s x p)
unfolding refuses_so
row-refuses n s x p h =
    let t = bytes s in
    let a : Bool = every (five n t x p) in
    let b : Bool = every (first n t x p) in
    let c : Bool = every (stray n t x p) in
    let d : Bool = every (broken n t x p) in
    elim (or_out a (b || (c || d)) h) [
      | inl y ↦ by_five n t x p y
      | inr k ↦ elim (or_out b (c || d) k) [
        | inl y ↦ by_length n t x p y
        | inr m ↦ elim (or_out c d m) [ inl y ↦ by_stray n t x p y | inr y ↦ by_broken n t x p y ]
      ]
    ]

-- A line has one fault at most, and a sheet one first fault: what line L of a sheet says is one thing, and its faults exclude one another. So the
-- lines of a sheet are judged in turn: a line without a fault leaves the next one to be judged.
use mathlib.Core.Path.{◌≡◌, refl, sym, ap, ◌∙◌, subst}
use mathlib.Core.Logic.{◌⊎◌, inl, inr}
use mathlib.Core.List.{List, [], ◌∷◌, ◌++◌, append_assoc}
use Prim.Native.Nat.{ℕ, suc, ◌≤◌, ◌<◌}
use native.Mathlib.Omega.{arith}
use lib.ListN.{length, length-append}
use Rattle.ground.proofs.Bools.{lt_or_ge}
use Rattle.refusal.specs.declared.Refusal.{Refusal}
use Rattle.refusal.specs.Refusals.{number}
use Rattle.refusal.specs.Order.{First}
use Rattle.refusal.proofs.OrderLaws.{first_unique}
use Rattle.formula.specs.Read.{formula_rows}
use Rattle.formula.specs.Computed.{formula_answer}
use Rattle.std.proofs.Common.{Ok, Err}
use Rattle.formula.proofs.Computed.{Told, formula_told, read_computed}
use Rattle.sheet_rules.proofs.FormulaLaws.{formula_number}
use Rattle.sheet_reading.specs.Sheet.{Sheet}
use Rattle.sheet_reading.specs.Faults.{Line, size_line, right_line, make_line_case, ask_line, lines_of, held_line_case, known_line_case, team_line_case}
use Rattle.sheet_reading.specs.Faults.{NamesTwice, FormulaRefused, SizeAbove, Fault, above, again, in-formula, LineFault}

-- ---- a formula's refusal is the computed one

pub refused-first : (n : ℕ) (F : List ℕ) (r : Refusal) → formula_answer n F ≡ Err r → First (formula_rows n F) r
refused-first n F r e = subst (Told n F) e (formula_told n F)

first-refused : (n : ℕ) (F : List ℕ) (r : Refusal) → First (formula_rows n F) r → formula_answer n F ≡ Err r
first-refused n F r f = read_computed n F (Err r) f

pub accepted-none : (n : ℕ) (F : List ℕ) → formula_answer n F ≡ Ok tt → (r : Refusal) → First (formula_rows n F) r → ⊥
accepted-none n F e r f = let d = first-refused n F r f in let z : ◌≡◌ {A = ℕ} 0 1 = cc in omega arith

-- ---- a line has one fault: 25, 23 or one of 1 to 5

module _ (n L : ℕ) (before : List Line) where
  above_once : (line : Line) → SizeAbove line → NamesTwice before line → ⊥
  above_once (size_line size) a t = t
  above_once (right_line _) a t = elim a [ ]
  above_once (team_line_case _) a t = elim a [ ]
  above_once (known_line_case _) a t = elim a [ ]
  above_once (held_line_case _) a t = elim a [ ]
  above_once (make_line_case _) a t = elim a [ ]
  above_once (ask_line _) a t = elim a [ ]

  above_formula : (line : Line) (r : Refusal) → SizeAbove line → FormulaRefused n line r → ⊥
  above_formula (size_line size) r a f = f
  above_formula (right_line _) r a f = elim a [ ]
  above_formula (team_line_case _) r a f = elim a [ ]
  above_formula (known_line_case _) r a f = elim a [ ]
  above_formula (held_line_case _) r a f = elim a [ ]
  above_formula (make_line_case _) r a f = elim a [ ]
  above_formula (ask_line _) r a f = elim a [ ]

  formula_one : (line : Line) (r x : Refusal) → FormulaRefused n line r → FormulaRefused n line x → r ≡ x
  formula_one (right_line q) r x f g = first_unique f g
  formula_one (make_line_case F) r x f g = first_unique f g
  formula_one (ask_line F) r x f g = first_unique f g
  formula_one (size_line _) r x f g = elim f [ ]
  formula_one (team_line_case _) r x f g = elim f [ ]
  formula_one (known_line_case _) r x f g = elim f [ ]
  formula_one (held_line_case _) r x f g = elim f [ ]

  fault-one : {line : Line} {r x : Refusal} → Fault n L before line r → Fault n L before line x → r ≡ x
  fault-one (above a) (above b) = refl
  fault-one {line} (above a) (again b) = absurd (above_once line a b)
  fault-one {line} {x = x} (above a) (in-formula b f) = absurd (above_formula line x a f)
  fault-one {line} (again a) (above b) = absurd (above_once line b a)
  fault-one (again a) (again b) = refl
  fault-one (again a) (in-formula b f) = absurd (b a)
  fault-one {line} {r} (in-formula a f) (above b) = absurd (above_formula line r b f)
  fault-one (in-formula a f) (again b) = absurd (a b)
  fault-one {line} {r} {x} (in-formula a f) (in-formula b g) = formula_one line r x f g

  formula_small : (line : Line) (r : Refusal) → FormulaRefused n line r → number r ≤ 5
  formula_small (right_line q) r f = formula_number n q.text r (first-refused n q.text r f)
  formula_small (make_line_case F) r f = formula_number n F r (first-refused n F r f)
  formula_small (ask_line F) r f = formula_number n F r (first-refused n F r f)
  formula_small (size_line _) r f = elim f [ ]
  formula_small (team_line_case _) r f = elim f [ ]
  formula_small (known_line_case _) r f = elim f [ ]
  formula_small (held_line_case _) r f = elim f [ ]

  -- its number tells which
  pub fault-number : {line : Line} {r : Refusal} → Fault n L before line r → (number r ≤ 5) ⊎ ((number r ≡ 23) ⊎ (number r ≡ 25))
  fault-number (above a) = inr (inr refl)
  fault-number (again a) = inr (inl refl)
  fault-number {line} {r} (in-formula a f) = inl (formula_small line r f)

  pub above-only : {line : Line} {r : Refusal} → Fault n L before line r → number r ≡ 25 → SizeAbove line
  above-only (above a) e = a
  above-only (again a) e = absurd (omega (arith, e))
  above-only {line} {r} (in-formula a f) e = absurd (omega (arith, e, formula_small line r f))

  pub again-only : {line : Line} {r : Refusal} → Fault n L before line r → number r ≡ 23 → NamesTwice before line
  again-only (above a) e = absurd (omega (arith, e))
  again-only (again a) e = a
  again-only {line} {r} (in-formula a f) e = absurd (omega (arith, e, formula_small line r f))

  pub formula_only : {line : Line} {r : Refusal} → Fault n L before line r → number r ≤ 5 → (NamesTwice before line → ⊥) × FormulaRefused n line r
  formula_only (above a) h = absurd (omega (arith, h))
  formula_only (again a) h = absurd (omega (arith, h))
  formula_only (in-formula a f) h = (a, f)

-- the first line of w that is refused
pub record FirstFault (w : Sheet) (L : ℕ) (r : Refusal) : Type 0 where
  pub here : LineFault w L r
  pub none_before : (K : ℕ) (x : Refusal) → K < L → LineFault w K x → ⊥

pub first_formed : {w : Sheet} {L : ℕ} {r : Refusal} → FirstFault w L r → number r ≡ 22 → ⊥
first_formed {w} {L} f e = elim (fault-number w.size.settings L f.here.before f.here.holds) [
  | inl h ↦ omega (arith, e, h)
  | inr (inl h) ↦ omega (arith, e, h)
  | inr (inr h) ↦ omega (arith, e, h)
]

-- ---- a sheet has one first fault

same_line : {A : Type 0} (a c : List A) {x y : A} (b d : List A) → a ++ x ∷ b ≡ c ++ y ∷ d → length a ≡ length c → (a ≡ c) × (x ≡ y)
same_line [] [] b d e l = (refl, cc)
same_line [] (c ∷ cs) b d e l = absurd (omega (arith, l))
same_line (a ∷ as') [] b d e l = absurd (omega (arith, l))
same_line (a ∷ as') (c ∷ cs) {x} {y} b d e l =
    let first : a ≡ c = cc in
    let others : as' ++ x ∷ b ≡ cs ++ y ∷ d = cc in
    let more = same_line as' cs b d others (omega (arith, l)) in
    let same : as' ≡ cs = more.0 in
    (cc, more.1)

-- the fault of line L is that of what the line says
fault-there : {w : Sheet} {L : ℕ} {x : Refusal} (before : List Line) {line : Line} (behind : List Line) → lines_of w ≡ before ++ line ∷ behind → L ≡ suc (length before)
    → LineFault w L x → Fault w.size.settings L before line x
fault-there {w} {L} {x} before {line} behind e p f =
    let same = same_line f.before before f.behind behind (sym f.lines ∙ e) (omega (arith, f.place, p)) in
    subst (λ (l : Line). Fault w.size.settings L before l x) same.1
    (subst (λ (b : List Line). Fault w.size.settings L b f.line x) same.0 f.holds)

pub first_one : {w : Sheet} {L K : ℕ} {r x : Refusal} → FirstFault w L r → FirstFault w K x → (L ≡ K) × (r ≡ x)
first_one {w} {L} {K} {r} {x} f g = elim (lt_or_ge L K) [
  | inl l ↦ absurd (g.none_before L r l f.here)
  | inr h ↦ elim (lt_or_ge K L) [
    | inl l ↦ absurd (f.none_before K x l g.here)
    | inr k ↦ (let same : L ≡ K = omega (arith, h, k) in
        let there = subst (λ (J : ℕ). LineFault w J x) (sym same) g.here in
        (same, fault-one w.size.settings L f.here.before f.here.holds (fault-there f.here.before f.here.behind f.here.lines f.here.place there)))
  ]
]

-- ---- line by line

-- line L is to be judged: the lines before it have no fault, and `rest` are the lines from it on
pub record Turn (w : Sheet) (L : ℕ) (before rest : List Line) : Type 0 where
  pub lines : lines_of w ≡ before ++ rest
  pub place : L ≡ suc (length before)
  pub clean : (K : ℕ) (x : Refusal) → K < L → LineFault w K x → ⊥

-- the first line
pub first_turn : (w : Sheet) → Turn w 1 [] (lines_of w)
first_turn w = record { lines = refl; place = refl; clean = λ K x l f. omega (arith, l, f.place) }

module _ {w : Sheet} {L : ℕ} {before : List Line} {line : Line} {behind : List Line} (t : Turn w L before (line ∷ behind)) where
  -- the line has a fault
  pub faulty : {r : Refusal} → Fault w.size.settings L before line r → FirstFault w L r
  faulty f = record {
    here = record { before = before; line = line; behind = behind; lines = t.lines; place = t.place; holds = f };
    none_before = t.clean;
  }

  -- it has none
  pub onward : (SizeAbove line → ⊥) → (NamesTwice before line → ⊥) → ((r : Refusal) → FormulaRefused w.size.settings line r → ⊥)
      → Turn w (suc L) (before ++ line ∷ []) behind
  onward a b c = record {
    lines = t.lines ∙ sym (append_assoc before (line ∷ []) behind);
    place = omega (arith, t.place, length-append before (line ∷ []));
    clean = λ K x l f. elim (lt_or_ge K L) [
      | inl k ↦ t.clean K x k f
      | inr k ↦ (let same : K ≡ L = omega (arith, l, k) in
          none (fault-there before behind t.lines t.place (subst (λ (J : ℕ). LineFault w J x) same f)))
    ];
  }
    where
      none : {x : Refusal} → Fault w.size.settings L before line x → ⊥
      none (above h) = a h
      none (again h) = b h
      none {x} (in-formula o f) = c x f

-- no line is left
pub all-clean : {w : Sheet} {L : ℕ} {before : List Line} → Turn w L before [] → (K : ℕ) (x : Refusal) → LineFault w K x → ⊥
all-clean {before} t K x f =
    let sizes : length (before ++ []) ≡ length (f.before ++ f.line ∷ f.behind) = ap length (sym t.lines ∙ f.lines) in
    t.clean K x (omega (arith, f.place, t.place, sizes, length-append before [], length-append f.before (f.line ∷ f.behind))) f

-- How far a reading goes: the lines it counts are the text's, the size it states is at most the one that is taken, and 25 is given only where fewer than
-- 7 settings are taken. By induction on the pieces of the text; a line that is taken keeps the size.
use mathlib.Core.Path.{◌≡◌, refl, sym, ◌∙◌, subst}
use mathlib.Core.Logic.{inl, inr}
use mathlib.Core.Bool.{Bool, true, false, not, ◌&&◌, cond}
use mathlib.Core.List.{List, [], ◌∷◌}
use Prim.Native.Nat.{ℕ, suc, ◌+◌, ◌≤◌}
use native.Mathlib.Omega.{arith}
use lib.Dec.{T, leb, leb→le}
use borrow.Author.Tests.{le-leb}
use lib.ListN.{length, drop}
use Rattle.ground.specs.Text.{bytes}
use Rattle.ground.proofs.Bools.{decide, T→true, T→false, true→T, lt_or_ge}
use Rattle.refusal.specs.declared.Refusal.{Refusal}
use Rattle.refusal.specs.declared.Refusal.TheVariants.{Malformed, Twice, SheetSettings}
use Rattle.refusal.specs.Refusals.{number}
use Rattle.std.proofs.Common.{Result, Ok, Err}
use Rattle.formula.specs.Computed.{formula_answer}
use Rattle.book_block.specs.declared.rule.Right.TheVariants.{Look, Set}
use Rattle.sheet_words.specs.Words.{split, newline, passed_over}
use Rattle.sheet_words.specs.Steps.{Step, fault, next, unless, unless_answered, unless_refused}
use Rattle.sheet_words.proofs.Split.{some_piece, split-length}
use Rattle.sheet_rules.specs.Rules.{Size, Rule, Rules, sized, with_rule, is_stated}
use Rattle.sheet_rules.specs.Forms.{is_size, digit_at, is_rule, rule_of, is_of_rules}
use Rattle.sheet_rules.specs.Steps.{size_step, rule_step, line_step}
use Rattle.sheet_rules.specs.Reading.{Reading, refused, up_to, rules_from, after_size, size_from, rules_read, rules_of}
use Rattle.sheet_rules.proofs.FormLaws.{size_bounds}
use Rattle.sheet_rules.proofs.FormulaLaws.{formula_number}
use Rattle.sheet_rules.proofs.ReadLaws.{rules-line, rules_end, too_long, from_first}

-- a size that may be taken
pub record Fits (most : ℕ) (size : Size) : Type 0 where
  pub settings_least : 1 ≤ size.settings
  pub settings_most : size.settings ≤ 7
  pub settings-taken : size.settings ≤ most
  pub posts_least : 1 ≤ size.posts
  pub posts_most : size.posts ≤ 8

-- a reading from line L on of some pieces, where sizes up to `most` are taken
abbrev pub Goes : ℕ → ℕ → List (List ℕ) → Reading → Type 0
Goes most L pieces (refused r line) = (L ≤ line) × (line ≤ L + length pieces) × (7 ≤ most → number r ≡ 25 → ⊥)
Goes most L pieces (up_to rules line rest) = (L ≤ line) × (line + length rest ≡ L + length pieces) × Fits most rules.size

-- ---- one line

abbrev Step_goes : ℕ → Step Rules → Type 0
Step_goes most (fault r) = 7 ≤ most → number r ≡ 25 → ⊥
Step_goes most (next rules) = Fits most rules.size

goes_unless : (most : ℕ) (b : Bool) (r : Refusal) (st : Step Rules) → (7 ≤ most → number r ≡ 25 → ⊥) → (T b → Step_goes most st) → Step_goes most (unless b r st)
goes_unless most true r st h k = k tt
goes_unless most false r st h k = h

goes_refused : (most n : ℕ) (F : List ℕ) (st : Step Rules) → Step_goes most st → Step_goes most (unless_refused n F st)
unfolding unless_refused
goes_refused most n F st h = by (formula_answer n F) (λ r e. formula_number n F r e)
  where
    by : (a : Result (Unit {0}) Refusal) → ((r : Refusal) → a ≡ Err r → number r ≤ 5) → Step_goes most (unless_answered a st)
    by (Ok x) f = h
    by (Err r) f = λ few e. omega (arith, f r refl, e)

goes_cond : (most : ℕ) (b : Bool) (x y : Step Rules) → Step_goes most x → Step_goes most y → Step_goes most (cond b x y)
goes_cond most true x y h k = h
goes_cond most false x y h k = k

-- the numbers of a size
pub size-digits : (line : List ℕ) → is_size line ≡ true → (1 ≤ digit_at line 5) × (digit_at line 5 ≤ 7) × (1 ≤ digit_at line 7) × (digit_at line 7 ≤ 8)
unfolding digit_at
size-digits line e = let z = size_bounds line e in (omega (arith, z.0), omega (arith, z.1), omega (arith, z.2), omega (arith, z.3))

module _ (most n m : ℕ) (h : 1 ≤ n) (k : n ≤ 7) (l : 1 ≤ m) (o : m ≤ 8) where
  by_most : (b : Bool) → leb n most ≡ b → Step_goes most (unless b SheetSettings (next (sized n m)))
  by_most true e = record { settings_least = h; settings_most = k; settings-taken = leb→le n most (true→T e); posts_least = l; posts_most = o }
  by_most false e = λ few f. (let z : true ≡ false = sym (le-leb n most (omega arith)) ∙ e in let y : ◌≡◌ {A = ℕ} 0 1 = cc in omega arith)

size_goes : (most L : ℕ) (line : List ℕ) → Step_goes most (size_step most L line)
unfolding size_step
size_goes most L line =
    goes_unless most (is_size line) (Malformed L) _ (λ few e. omega (arith, e)) (λ t.
    let z = size-digits line (T→true (is_size line) t) in by_most most (digit_at line 5) (digit_at line 7) z.0 z.1 z.2 z.3 (leb (digit_at line 5) most) refl)

module _ (most L : ℕ) (rules : Rules) (h : Fits most rules.size) where
  rule_goes : (r : Rule) → Step_goes most (rule_step L rules r)
  unfolding rule_step with_rule
  rule_goes r =
      goes_unless most (not (is_stated rules.rules r.right r.setting r.post)) (Twice L) _ (λ few e. omega (arith, e))
      (λ t. goes_refused most rules.size.settings r.text (next (with_rule rules r)) h)

  line_goes : (passes : Bool) (line : List ℕ) → Step_goes most (line_step passes L rules line)
  unfolding line_step
  line_goes passes line =
      goes_cond most (passes && passed_over line) _ _ h
      (goes_cond most (is_rule (bytes "read ") rules.size.settings rules.size.posts line) _ _ (rule_goes (rule_of (bytes "read ") Look line)) (rule_goes (rule_of (bytes "write ") Set line)))

-- ---- all lines

-- one piece more in front
goes_later : (most L : ℕ) (line : List ℕ) (pieces : List (List ℕ)) (o : Reading) → Goes most (suc L) pieces o → Goes most L (line ∷ pieces) o
goes_later most L line pieces (refused r at) (a, b, c) = (omega arith, omega arith, c)
goes_later most L line pieces (up_to rules at rest) (a, b, c) = (omega arith, omega arith, c)

goes_after : (passes : Bool) (most L : ℕ) (line : List ℕ) (pieces : List (List ℕ)) (st : Step Rules) → Step_goes most st
    → ((rules : Rules) → Fits most rules.size → Goes most (suc L) pieces (rules_from passes (suc L) rules pieces))
    → Goes most L (line ∷ pieces) (after_size passes L st pieces)
goes_after passes most L line pieces (fault r) h f = (omega arith, omega arith, h)
goes_after passes most L line pieces (next rules) h f = goes_later most L line pieces (rules_from passes (suc L) rules pieces) (f rules h)

pub rules_go : (passes : Bool) (most L : ℕ) (rules : Rules) (pieces : List (List ℕ)) → Fits most rules.size → Goes most L pieces (rules_from passes L rules pieces)
unfolding rules_from
rules_go passes most L rules [] h = (omega arith, refl, h)
rules_go passes most L rules (rest ∷ []) h = (omega arith, refl, h)
rules_go passes most L rules (line ∷ another ∷ more) h = elim (decide (is_of_rules passes rules.size.settings rules.size.posts line)) [
  | inl t ↦ subst (Goes most L (line ∷ another ∷ more)) (sym (rules-line passes L rules line another more (T→true (is_of_rules passes rules.size.settings rules.size.posts line) t)))
      (goes_after passes most L line (another ∷ more) (line_step passes L rules line) (line_goes most L rules h passes line)
      (λ v k. rules_go passes most (suc L) v (another ∷ more) k))
  | inr t ↦ subst (Goes most L (line ∷ another ∷ more)) (sym (rules_end passes L rules line another more (T→false (is_of_rules passes rules.size.settings rules.size.posts line) t)))
      (omega arith, refl, h)
]

size_from_goes : (passes : Bool) (most L : ℕ) (pieces : List (List ℕ)) → Goes most L pieces (size_from passes most L pieces)
unfolding size_from
size_from_goes passes most L [] = (omega arith, omega arith, λ few e. omega (arith, e))
size_from_goes passes most L (rest ∷ []) = (omega arith, omega arith, λ few e. omega (arith, e))
size_from_goes passes most L (line ∷ another ∷ more) =
    by_cond (passes && passed_over line) _ _ (goes_later most L line (another ∷ more) (size_from passes most (suc L) (another ∷ more)) (size_from_goes passes most (suc L) (another ∷ more)))
    (goes_after passes most L line (another ∷ more) (size_step most L line) (size_goes most L line) (λ v k. rules_go passes most (suc L) v (another ∷ more) k))
  where
    by_cond : (b : Bool) (x y : Reading) → Goes most L (line ∷ another ∷ more) x → Goes most L (line ∷ another ∷ more) y → Goes most L (line ∷ another ∷ more) (cond b x y)
    by_cond true x y h k = h
    by_cond false x y h k = k

pub read_goes : (passes : Bool) (most : ℕ) (pieces : List (List ℕ)) → Goes most 1 pieces (rules_read passes most pieces)
unfolding rules_read
read_goes passes most pieces = size_from_goes passes most 1 pieces

-- ---- of a text

-- a reading of a text s: lines are counted, and a text that is taken is not too long
abbrev pub TextGoes : ℕ → List ℕ → Reading → Type 0
TextGoes most s (refused r line) = (line ≤ 65538) × (7 ≤ most → number r ≡ 25 → ⊥)
TextGoes most s (up_to rules line rest) = (length s ≤ 65536) × (1 ≤ line) × (line + length rest ≡ suc (length (split newline s))) × Fits most rules.size

text_goes : (most : ℕ) (s : List ℕ) (o : Reading) → length s ≤ 65536 → Goes most 1 (split newline s) o → TextGoes most s o
text_goes most s (refused r line) h (a, b, c) = (omega (arith, split-length newline s, b), c)
text_goes most s (up_to rules line rest) h (a, b, c) = (h, a, omega (arith, b), c)

pub rules_of_goes : (passes : Bool) (most : ℕ) (s : List ℕ) → TextGoes most s (rules_of passes most s)
rules_of_goes passes most s = elim (lt_or_ge 65536 (length s)) [
  | inl h ↦ subst (TextGoes most s) (sym (too_long passes most s h)) (omega arith, λ few e. omega (arith, e))
  | inr h ↦ subst (TextGoes most s) (sym (from_first passes most s h)) (text_goes most s (size_from passes most 1 (split newline s)) h (size_from_goes passes most 1 (split newline s)))
]

some : (s : List ℕ) → 1 ≤ length (split newline s)
some s = some_piece newline (λ q. 1 ≤ length q) (λ p ps. omega arith) s

-- the lines before the byte where rules end are no more than the bytes of the text
pub lines_fit : (most : ℕ) (s : List ℕ) (rules : Rules) (at lines : ℕ) → TextGoes most s (up_to rules (suc lines) (split newline (drop at s)))
    → (lines ≤ length s) × (length s ≤ 65536) × Fits most rules.size
lines_fit most s rules at lines (a, b, c, d) = (omega (arith, split-length newline s, c, some (drop at s)), a, d)

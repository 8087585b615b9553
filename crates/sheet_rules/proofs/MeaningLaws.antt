-- A whole text of rules, from where its rules end: nothing may follow. What follows is cut into one empty piece only where it is empty.
use mathlib.Core.Path.{◌≡◌, refl, ap, ◌∙◌, subst}
use mathlib.Core.List.{List, [], ◌∷◌}
use mathlib.Core.Bool.{true}
use Prim.Native.Nat.{ℕ, suc, ◌≤◌}
use native.Mathlib.Omega.{arith}
use lib.Dec.{lit≤}
use Rattle.std.proofs.Common.{Ok, Err}
use lib.ListN.{length, drop, length-drop}
use lib.Seq.{drop-length}
use Rattle.refusal.specs.declared.Refusal.{Refusal}
use Rattle.refusal.specs.declared.Refusal.TheVariants.{Malformed}
use Rattle.refusal.specs.Refusals.{number}
use Rattle.sheet_words.specs.declared.Fault.{Fault}
use Rattle.sheet_words.specs.Words.{onto, split, newline}
use Rattle.sheet_words.proofs.Split.{by_byte, some_piece, split-length}
use Rattle.sheet_rules.specs.Rules.{Rules}
use Rattle.sheet_rules.specs.Desk.{OnDesk}
use Rattle.sheet_rules.specs.Reading.{Reading, up_to, rules_of}
use Rattle.sheet_rules.specs.Reading.{refused as reading-refused}
use Rattle.sheet_rules.specs.Meaning.{Meaning, refused, stated, whole, whole_reading, rules_meaning}
use Rattle.sheet_rules.specs.Reads.{ReadsUpto, ReadsRules}
use Rattle.sheet_rules.specs.declared.RulesRead.{RulesRead}
use Rattle.sheet_rules.proofs.Bounds.{Fits, TextGoes, rules_of_goes}

-- ---- what is read tells the reading

pub reads-refused : (s : List ℕ) (o : Reading) {f : Fault} → ReadsUpto s o (Err f) → o ≡ reading-refused f.why f.line
reads-refused s (reading-refused r L) {f} (e, g) = let z : reading-refused r L ≡ reading-refused f.why f.line = cc in z
reads-refused s (up_to rules L pieces) h = absurd h

-- the reading of rules that end at byte `at`
pub record EndsAt (s : List ℕ) (o : Reading) (read : RulesRead) : Type 0 where
  pub rules : Rules
  pub reading : o ≡ up_to rules (suc read.lines) (split newline (drop read.at s))
  pub fits : read.at ≤ length s
  pub holds : OnDesk rules read.desk

pub reads_upto : (s : List ℕ) (o : Reading) {read : RulesRead} → ReadsUpto s o (Ok read) → EndsAt s o read
reads_upto s (reading-refused r L) h = absurd h
reads_upto s (up_to rules L pieces) {read} (fits, e, f, h) =
    record { rules = rules; reading = (let z : up_to rules L pieces ≡ up_to rules (suc read.lines) (split newline (drop read.at s)) = cc in z); fits = fits; holds = h }

-- ---- what follows

followed : (rules : Rules) (L : ℕ) (t : List ℕ) → 1 ≤ length t → whole rules L (split newline t) ≡ refused (Malformed L) L
unfolding onto
followed rules L [] h = absurd (omega arith)
followed rules L (c ∷ s) h = by_byte newline (λ c s q. whole rules L q ≡ refused (Malformed L) L)
    (λ s. some_piece newline (λ q. whole rules L ([] ∷ q) ≡ refused (Malformed L) L) (λ p ps. refl) s) (λ c s other. pushed c (split newline s)) c s
  where
    pushed : (c : ℕ) (q : List (List ℕ)) → whole rules L (onto c q) ≡ refused (Malformed L) L
    pushed c [] = refl
    pushed c (p ∷ ps) = refl

module _ (s : List ℕ) where
  pub meaning-refused : {r : Refusal} {L : ℕ} → rules_of true 7 s ≡ reading-refused r L → rules_meaning s ≡ refused r L
  unfolding rules_meaning
  meaning-refused e = ap whole_reading e

  module _ {read : RulesRead} (e : EndsAt s (rules_of true 7 s) read) where
    pub meaning-whole : read.at ≡ length s → rules_meaning s ≡ stated e.rules
    unfolding rules_meaning split
    meaning-whole f =
        ap whole_reading e.reading ∙ ap (λ (t : List ℕ). whole e.rules (suc read.lines) (split newline t)) (ap (λ (i : ℕ). drop i s) f ∙ drop-length s)

    pub meaning-more : (read.at ≡ length s → ⊥) → rules_meaning s ≡ refused (Malformed (suc read.lines)) (suc read.lines)
    unfolding rules_meaning
    meaning-more ne = ap whole_reading e.reading ∙ followed e.rules (suc read.lines) (drop read.at s) (omega (arith, length-drop read.at s, e.fits))

-- ---- what is read of the whole

pub whole-refused-is : {o : Meaning} {why : Refusal} {line : ℕ} → o ≡ refused why line → ReadsRules o (Err (record { why = why; line = line }))
whole-refused-is e = rw e (refl, refl)

-- ---- how far a meaning goes

-- a refusal has a line of the text and is never 25; a size that is stated may be taken
abbrev pub MeaningGoes : Meaning → Type 0
MeaningGoes (refused r line) = (line ≤ 65538) × (number r ≡ 25 → ⊥)
MeaningGoes (stated rules) = Fits 7 rules.size

whole_goes : (rules : Rules) (L : ℕ) (pieces : List (List ℕ)) → L ≤ 65538 → Fits 7 rules.size → MeaningGoes (whole rules L pieces)
whole_goes rules L [] h k = (h, λ e. omega (arith, e))
whole_goes rules L ([] ∷ []) h k = k
whole_goes rules L ([] ∷ another ∷ more) h k = (h, λ e. omega (arith, e))
whole_goes rules L ((c ∷ line) ∷ more) h k = (h, λ e. omega (arith, e))

reading_goes : (s : List ℕ) (o : Reading) → TextGoes 7 s o → MeaningGoes (whole_reading o)
reading_goes s (reading-refused r line) (a, b) = (a, b (lit≤ tt))
reading_goes s (up_to rules line rest) (a, b, c, d) = whole_goes rules line rest (omega (arith, split-length newline s, a, c)) d

pub meaning_goes : (s : List ℕ) → MeaningGoes (rules_meaning s)
unfolding rules_meaning
meaning_goes s = reading_goes s (rules_of true 7 s) (rules_of_goes true 7 s)

-- "`book` takes N up to 7, so 25 is never given there"
pub never-settings : (s : List ℕ) {r : Refusal} {line : ℕ} → rules_meaning s ≡ refused r line → number r ≡ 25 → ⊥
never-settings s e = (subst MeaningGoes e (meaning_goes s)).1

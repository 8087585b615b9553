-- Rules line by line: what is left to be read from a place on is read from the next line on, with what the line leaves stated.
use mathlib.Core.Path.{◌≡◌, refl, sym, ap, ◌∙◌, subst}
use mathlib.Core.Bool.{Bool, true, false, ◌&&◌, cond}
use mathlib.Core.List.{List, [], ◌∷◌}
use Prim.Native.Nat.{ℕ, suc, ◌+◌, ◌-◌, ◌≤◌, ◌<◌}
use lib.ListN.{length, take, drop, length-drop}
use Rattle.sheet_words.proofs.Pieces.{tail}
use borrow.Author.Tests.{lt-ltb, le-ltb}
use Rattle.std.proofs.Common.{Ok, Err, drop-drop}
use Rattle.refusal.specs.declared.Refusal.{Refusal}
use Rattle.refusal.specs.declared.Refusal.TheVariants.{Malformed, SheetLength}
use Rattle.sheet_words.specs.Words.{split, newline, passed_over}
use Rattle.sheet_words.specs.Steps.{Step, fault, next}
use Rattle.sheet_words.proofs.Split.{some_piece}
use Rattle.sheet_words.specs.Lines.{LineCut}
use Rattle.sheet_rules.specs.Turns.{Rest}
use native.Mathlib.Numerals.{add-one}
use native.Mathlib.Omega.{arith}
use Rattle.sheet_rules.specs.Rules.{Rules}
use Rattle.sheet_rules.specs.Forms.{is_of_rules}
use Rattle.sheet_rules.specs.Steps.{size_step, line_step}
use Rattle.sheet_rules.specs.Desk.{OnDesk}
use Rattle.sheet_rules.specs.Reading.{Reading, refused, up_to, rules_from, after_size, size_from, rules_read, rules_of}
use Rattle.sheet_rules.specs.Reads.{ReadsUpto}
use Rattle.sheet_rules.specs.declared.RulesRead.{RulesRead}

-- ---- the lines after the size, a line at a time

module _ (passes : Bool) (L : ℕ) (rules : Rules) (line another : List ℕ) (more : List (List ℕ)) where
  abbrev Comes : Bool → Step Rules → Reading → Type 0
  Comes b st o = (elim b as (λ x. Reading) [
    | true ↦ elim st as (λ x. Reading) [ fault r ↦ refused r L | next then ↦ rules_from passes (suc L) then (another ∷ more) ]
    | false ↦ up_to rules L (line ∷ another ∷ more)
  ]) ≡ o

  by_step : (st : Step Rules) → Comes true st (after_size passes L st (another ∷ more))
  by_step (fault r) = refl
  by_step (next then) = refl

  pub rules-line : is_of_rules passes rules.size.settings rules.size.posts line ≡ true
      → rules_from passes L rules (line ∷ another ∷ more) ≡ after_size passes L (line_step passes L rules line) (another ∷ more)
  unfolding rules_from
  rules-line e =
      subst (λ (b : Bool). Comes b (line_step passes L rules line) (after_size passes L (line_step passes L rules line) (another ∷ more))) (sym e) (by_step (line_step passes L rules line))

  pub rules_end : is_of_rules passes rules.size.settings rules.size.posts line ≡ false
      → rules_from passes L rules (line ∷ another ∷ more) ≡ up_to rules L (line ∷ another ∷ more)
  unfolding rules_from
  rules_end e = subst (λ (b : Bool). Comes b (line_step passes L rules line) (up_to rules L (line ∷ another ∷ more))) (sym e) refl

-- ---- by the first line of what is left

module _ (passes : Bool) (L : ℕ) (s : List ℕ) where
  module _ (rules : Rules) where
    -- what follows the last byte 10 is left
    pub rest-ends : split newline s ≡ s ∷ [] → rules_from passes L rules (split newline s) ≡ up_to rules L (split newline s)
    unfolding rules_from
    rest-ends p = subst (λ (q : List (List ℕ)). rules_from passes L rules q ≡ up_to rules L q) (sym p) refl

    module _ (line rest : List ℕ) (p : split newline s ≡ line ∷ split newline rest) where
      -- so is a line that is none of the rules'
      pub rest-stops : is_of_rules passes rules.size.settings rules.size.posts line ≡ false → rules_from passes L rules (split newline s) ≡ up_to rules L (split newline s)
      rest-stops e =
          subst (λ (q : List (List ℕ)). rules_from passes L rules q ≡ up_to rules L q) (sym p)
          (some_piece newline (λ q. rules_from passes L rules (line ∷ q) ≡ up_to rules L (line ∷ q)) (λ another more. rules_end passes L rules line another more e) rest)

      module _ (e : is_of_rules passes rules.size.settings rules.size.posts line ≡ true) where
        pub rest_goes_on : {st : Step Rules} → line_step passes L rules line ≡ st → rules_from passes L rules (split newline s) ≡ after_size passes L st (split newline rest)
        rest_goes_on {st} f =
            ap (rules_from passes L rules) p
            ∙ some_piece newline (λ q. rules_from passes L rules (line ∷ q) ≡ after_size passes L (line_step passes L rules line) q)
            (λ another more. rules-line passes L rules line another more e) rest
            ∙ ap (λ (x : Step Rules). after_size passes L x (split newline rest)) f

        -- the next line's number, as it is counted on
        pub rest-next : {v : Rules} → line_step passes L rules line ≡ next v → rules_from passes (L + 1) v (split newline rest) ≡ rules_from passes L rules (split newline s)
        rest-next {v} f = ap (λ (k : ℕ). rules_from passes k v (split newline rest)) (add-one L) ∙ sym (rest_goes_on f)

  -- ---- the lines up to the size
  module _ (most : ℕ) where
    pub size-ends : split newline s ≡ s ∷ [] → size_from passes most L (split newline s) ≡ refused (Malformed L) L
    unfolding size_from
    size-ends p = ap (size_from passes most L) p

    module _ (line rest : List ℕ) (p : split newline s ≡ line ∷ split newline rest) where
      size_by : (b : Bool) → (passes && passed_over line) ≡ b
          → size_from passes most L (split newline s) ≡ cond b (size_from passes most (suc L) (split newline rest)) (after_size passes L (size_step most L line) (split newline rest))
      unfolding size_from
      size_by b e =
          ap (size_from passes most L) p
          ∙ some_piece newline (λ q. size_from passes most L (line ∷ q) ≡ cond b (size_from passes most (suc L) q) (after_size passes L (size_step most L line) q))
          (λ another more. ap (λ (b : Bool). cond b (size_from passes most (suc L) (another ∷ more)) (after_size passes L (size_step most L line) (another ∷ more))) e) rest

      -- the next line's number, as it is counted on
      pub size_passed : (passes && passed_over line) ≡ true → size_from passes most (L + 1) (split newline rest) ≡ size_from passes most L (split newline s)
      size_passed e = ap (λ (k : ℕ). size_from passes most k (split newline rest)) (add-one L) ∙ sym (size_by true e)

      pub size-here : (passes && passed_over line) ≡ false → size_from passes most L (split newline s) ≡ after_size passes L (size_step most L line) (split newline rest)
      size-here e = size_by false e

-- ---- what is left of a text

pub rest_from : (s : List ℕ) (a : ℕ) → a ≤ length s → Rest s (take (length s - a) (drop a s))
rest_from s a h =
    let n : length (take (length s - a) (drop a s)) ≡ length s - a = omega (arith, ap length (tail s a), length-drop a s) in
    record { within = omega (arith, n); is = tail s a ∙ ap (λ (k : ℕ). drop k s) (omega (arith, n)) }

pub rest_after : {s rest line after : List ℕ} → Rest s rest → LineCut rest line after → Rest s after
rest_after {s} {rest} {line} {after} r cut =
    let further : length s - length rest + (length line + 1) ≡ length s - length after = omega (arith, r.within, cut.lengths) in
    record {
      within = omega (arith, r.within, cut.lengths);
      is = cut.rest_is ∙ ap (drop (length line + 1)) r.is ∙ drop-drop (length line + 1) (length s - length rest) s ∙ ap (λ (k : ℕ). drop k s) further;
    }

-- the rules leave it, from its byte on
pub up_left : {s rest : List ℕ} {rules : Rules} {L : ℕ} → Rest s rest → up_to rules L (split newline rest) ≡ up_to rules L (split newline (drop (length s - length rest) s))
up_left {s} {rest} {rules} {L} r = ap (λ (t : List ℕ). up_to rules L (split newline t)) r.is

-- ---- the whole

module _ (passes : Bool) (most : ℕ) (s : List ℕ) where
  pub too_long : 65536 < length s → rules_of passes most s ≡ refused SheetLength 0
  unfolding rules_of
  too_long h = ap (λ (b : Bool). cond b (refused SheetLength 0) (rules_read passes most (split newline s))) (lt-ltb 65536 (length s) h)

  pub from_first : length s ≤ 65536 → rules_of passes most s ≡ size_from passes most 1 (split newline s)
  unfolding rules_of rules_read
  from_first h = ap (λ (b : Bool). cond b (refused SheetLength 0) (rules_read passes most (split newline s))) (le-ltb 65536 (length s) h)

-- ---- what is read

pub refused-is : {o : Reading} (s : List ℕ) {why : Refusal} {line : ℕ} → o ≡ refused why line → ReadsUpto s o (Err (record { why = why; line = line }))
refused-is s e = rw e (refl, refl)

pub upto_is : {o : Reading} (s : List ℕ) (read : RulesRead) (rules : Rules) (L : ℕ) → o ≡ up_to rules L (split newline (drop read.at s))
    → read.at ≤ length s → suc read.lines ≡ L → OnDesk rules read.desk → ReadsUpto s o (Ok read)
upto_is s read rules L e fits number h = rw e (fits, refl, number, h)

-- Every public function's contract determines its result: any two results that it allows for the same arguments are equal. Each theorem speaks of the
-- function's own contract, as the check reads it: `Post` at the lifetimes, the arguments, the result and the arguments at exit. No function here writes
-- to what it is lent. A sum that was read has two words of 64 bits, as the type u64 says: formula_table's `InWords`.
use mathlib.Core.Path.{◌≡◌, refl, sym, ap, ap₂, ◌∙◌}
use mathlib.Core.List.{List}
use Rattle.std.specs.Prelude.{Result, Ok, Err}
use Prim.Native.Nat.{ℕ}
use native.Mathlib.Omega.{arith}
use lib.ListN.{length, drop, length-append}
use Rattle.ground.proofs.Search.{least_unique}
use Rattle.formula_table.specs.Two.{WordsOf}
use Rattle.formula_table.specs.declared.Truths.{Truths}
use Rattle.formula_table.proofs.Unique.{InWords, words_unique}
use Rattle.formula_grammar.specs.Grammar.{Kind, sum, letter, one_unit, one_product, text, meaning}
use Rattle.refusal.specs.declared.Refusal.{Refusal}
use Rattle.formula_grammar.specs.Scans.{Scans}
use Rattle.formula_grammar.specs.Signs.{foreign_byte}
use Rattle.ground.specs.Text.{bytes}
use Rattle.formula_grammar.specs.Automaton.{stops, breaks, Parsed, Parses}
use Rattle.formula_grammar.specs.declared.parts.Part.{Part}
use Rattle.formula_grammar.proofs.Meaning.{same}
use Rattle.formula_grammar.proofs.BrokenLaws.{ends_there, stops-there}
use Rattle.formula_grammar.proofs.parts.sum.Reads as sum-reads
use Rattle.formula_grammar.proofs.signs.scan.Reads as scan
use Rattle.formula_grammar.proofs.signs.is_letter.Reads as is-letter

-- ---- the reader of a sum

-- the words of a part that was read are of the type u64
abbrev pub PartInWords : Result Part ℕ → Type 0
PartInWords (Ok part) = InWords part.truths
PartInWords (Err p) = Unit {0}

-- two parts that stand at one place are one
module _ {k : Kind} {s : List ℕ} {i : ℕ} {w x : Truths} {next end : ℕ} (p : Parsed k s i w next) (q : Parsed k s i x end) where
  one_part : ((v : ℕ) → meaning p.sentence v ≡ meaning q.sentence v) × (drop next s ≡ drop end s)
  one_part = same p.sentence q.sentence (drop next s) (drop end s) (ends_there p) (ends_there q) (sym p.spans ∙ q.spans)

  same_end : next ≡ end
  same_end = omega (
    arith,
    p.until,
    q.until,
    ap length (sym p.spans ∙ q.spans),
    length-append (text p.sentence) (drop next s),
    length-append (text q.sentence) (drop end s),
    ap length one_part.1,
  )

  same_words : InWords w → InWords x → w ≡ x
  unfolding WordsOf
  same_words a b = words_unique (meaning q.sentence) w x a b (λ v h. p.holds v h ∙ one_part.0 v) q.holds

one_place : {e f : ℕ} → breaks e ≡ breaks f → e ≡ f
one_place h = cc

part_unique : (k : Kind) (s : List ℕ) (i : ℕ) (x y : Result Part ℕ) → PartInWords x → PartInWords y → Parses k s i x → Parses k s i y → x ≡ y
part_unique k s i (Ok x) (Ok y) a b p q = ap₂ (λ w e. Ok (record { truths = w; end = e })) (same_words p q a b) (same_end p q)
part_unique k s i (Ok x) (Err e) a b p q = absurd (q.none p.sentence (drop x.end s) p.spans (stops-there p))
part_unique k s i (Err e) (Ok y) a b p q = absurd (p.none q.sentence (drop y.end s) q.spans (stops-there q))
part_unique k s i (Err e) (Err f) a b p q = ap Err (one_place (sym (p.broken 0) ∙ q.broken 0))

pub sum_unique : (κs : _) (a : _) (x y : _) (s : _) → PartInWords x → PartInWords y → sum-reads.Post κs a x s → sum-reads.Post κs a y s → x ≡ y
sum_unique κs a x y s i j p q = part_unique _ _ _ x y i j p q

-- the text `ab` begins with the sum `a`, so that its reader may not call it broken, at whatever place
pub ab_is-read : (p : ℕ) → Parses sum (bytes "ab") 0 (Err p) → ⊥
unfolding text stops
ab_is-read p q = q.none (one_product (one_unit (letter 0 (omega arith)))) (bytes "b") refl tt

-- ---- the first look

first_unique : (n : ℕ) (s : List ℕ) (x y : Result (Unit {0}) Refusal) → Scans n s x → Scans n s y → x ≡ y
first_unique n s (Ok _) (Ok _) p q = refl
first_unique n s (Ok _) (Err e) p (j, l, r) = absurd (p j l.here)
first_unique n s (Err e) (Ok _) (i, l, r) q = absurd (q i l.here)
first_unique n s (Err e) (Err f) (i, l, r) (j, m, t) = ap Err (r ∙ ap (foreign_byte s) (least_unique l m) ∙ sym t)

pub scan_unique : (κs : _) (a : _) (x y : _) (s : _) → scan.Post κs a x s → scan.Post κs a y s → x ≡ y
scan_unique κs a x y s p q = first_unique _ _ x y p q

pub is-letter_unique : (κs : _) (a : _) (x y : _) (s : _) → is-letter.Post κs a x s → is-letter.Post κs a y s → x ≡ y
is-letter_unique κs a x y s p q = p ∙ sym q

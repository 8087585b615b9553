-- What a plan's lines and bytes tell. That a plan's bytes are no other's, and that a permitted plan can be printed, is by induction on
-- the plan; the example computes.
-- What settles the contracts, and what a caller makes of a printed room. Each follows from the definitions of specs/ and the laws of a
-- plan's lines.
use mathlib.Core.Path.{◌≡◌, refl, sym, ap, ap₂, ◌∙◌, subst}
use mathlib.Core.Bool.{true, false}
use mathlib.Core.List.{List, [], ◌∷◌, ◌++◌, append-nil}
use Prim.Native.Nat.{ℕ, ◌+◌, ◌*◌, ◌≤◌, ◌^◌, ◌<◌}
use native.Mathlib.Omega.{arith}
use lib.ListN.{length, take, drop, length-append, length-take, length-drop, drop_of_length-le}
use Rattle.ground.specs.Text.{bytes}
use Rattle.knowledge_acts.specs.Acts.{byte_of, set_to, look_at}
use Rattle.knowledge_acts.specs.declared.act.Act.TheVariants.{Set, Look}
use Rattle.plan.specs.Plans.{System, Lawful, Plan, stop, set_then, look_then, Permitted, height}
use Rattle.plan.specs.Bytes.{encode}
use Rattle.print_room.specs.Decimal.{decimal}
use Rattle.print_answer.specs.Listed.{plan_text, Lettered}
use Rattle.print_answer.specs.Inner.{Shows}
use Rattle.print_answer.proofs.Shown.{set_after, false_after, true_after, shown-first, parts}
use Rattle.print_answer.proofs.Lengths.{plan-length, whole-shown}
use lib.Seq.{take_all, take-append_seam}
use Rattle.print_room.proofs.Decimals.{decimal-length}
use Rattle.print_answer.specs.Printed.{refused_text, reach_text, fitted, Prints}
use Rattle.print_answer.proofs.listing.value_digit.Reads as value_digit

-- ---- a lettered plan's bytes determine it

module _ {plan : List ℕ} where
  shown-one : {at : ℕ} (p r : Plan) → Shows plan at p → Shows plan at r → p ≡ r
  shown-one {at} stop r s t = sym (parts r t (shown-first stop s).1)
  shown-one {at} (set_then i q b p) r s t =
      let x = parts r t (shown-first (set_then i q b p) s).1 in
      ap (set_then i q b) (shown-one {at = at + 1} p x.0 (set_after s) x.2) ∙ sym x.1
  shown-one {at} (look_then i q p u) r s t =
      let x = parts r t (shown-first (look_then i q p u) s).1 in
      let e = shown-one {at = at + 1} p x.0 (false_after s) x.3 in
      let d = shown-one {at = at + 1 + length (encode p)} u x.1 (true_after s) (subst (λ (y : Plan). Shows plan (at + 1 + length (encode y)) x.1) (sym e) x.4) in
      ap₂ (look_then i q) e d ∙ sym x.2

pub encode_one : (p r : Plan) → Lettered p → Lettered r → encode p ≡ encode r → p ≡ r
encode_one p r a b e = shown-one p r (whole-shown p refl a) (whole-shown r e b)

-- every permitted plan can be printed: what `reach` requires holds of the plan that a finder writes
pub permitted-lettered : {n : ℕ} {S : System} (law : Lawful n S) → n ≤ 7 → (p : Plan) (k : ℕ) → Permitted S k p → Lettered p
permitted-lettered law few stop k w = tt
permitted-lettered law few (set_then i q b p) k w =
    (omega (arith, law.setting_of_case k (Set i q b) w.0), law.post_of_case k (Set i q b) w.0, permitted-lettered law few p (set_to k i b) w.1)
permitted-lettered law few (look_then i q p r) k w = (
  omega (arith, law.setting_of_case k (Look i q) w.0),
  law.post_of_case k (Look i q) w.0,
  permitted-lettered law few p (look_at k i false) w.1,
  permitted-lettered law few r (look_at k i true) w.2,
)

-- ---- how long the lines are

-- depths of at most three digits: at most 14 bytes a line, `999 set g 8 1` and the end
pub lines-length : (depth : ℕ) (p : Plan) → depth + height p ≤ 999 → length (plan_text depth p) ≤ 14 * length (encode p)
lines-length depth p h = plan-length 2 depth p (omega arith)

-- ---- paper 01's example: its plan's bytes, and their lines

abbrev pub sample : Plan
sample =
    look_then 2 1 (set_then 0 1 true (set_then 1 0 true stop)) (set_then 2 1 false (set_then 0 1 true (set_then 1 0 true stop)))

pub sample_bytes : encode sample ≡ 130 ∷ 58 ∷ 65 ∷ 0 ∷ 18 ∷ 58 ∷ 65 ∷ 0 ∷ []
unfolding byte_of
sample_bytes = refl

pub sample_lines : plan_text 0 sample ≡ bytes "0 look c 2\n1 set a 2 1\n2 set b 1 1\n3 stop\n1 set c 2 0\n2 set a 2 1\n3 set b 1 1\n4 stop\n"
unfolding decimal
sample_lines = refl

-- ---- any two results that a contract allows coincide

pub prints_unique : {old text new new' : List ℕ} {r r' : ℕ} → Prints old text r new → Prints old text r' new' → (r ≡ r') × (new ≡ new')
prints_unique a b = (a.count ∙ sym b.count, a.room ∙ sym b.room)

-- what `reach` promises of its result, and that there is a plan as it requires
abbrev pub Reached : ℕ → List ℕ → List ℕ → ℕ → List ℕ → Type 0
Reached h plan old r new = (p : Plan) → plan ≡ encode p → Lettered p → Prints old (reach_text h p) r new

pub reach_unique : (h : ℕ) {r r' : ℕ} {plan old new new' : List ℕ} → ((p : Plan) × (plan ≡ encode p) × Lettered p) → Reached h plan old r new → Reached h plan old r' new' → (r ≡ r') × (new ≡ new')
reach_unique h x a b = prints_unique (a x.0 x.1 x.2) (b x.0 x.1 x.2)

-- ---- what a caller makes of a printed room

-- a room keeps its length
pub fitted-length : (old text : List ℕ) → length (fitted old text) ≡ length old
fitted-length old text = simp (length-append, length-take, length-drop) (omega arith)

-- where the answer fits, the room begins with it
pub prints-whole : {old text new : List ℕ} {r : ℕ} → Prints old text r new → r ≤ length old → take r new ≡ text
prints-whole {old} {text} w h =
    ap₂ take w.count (w.room ∙ ap (λ (s : List ℕ). s ++ drop (length text) old) (take_all (length old) text (omega (arith, w.count))))
    ∙ take-append_seam text (drop (length text) old)

-- where it does not, the room is full of its beginning
pub prints_part : {old text new : List ℕ} {r : ℕ} → Prints old text r new → length old ≤ r → new ≡ take (length old) text
prints_part {old} {text} w h =
    w.room
    ∙ ap (λ (s : List ℕ). take (length old) text ++ s) (drop_of_length-le old {i = length text} (omega (arith, w.count)))
    ∙ append-nil (take (length old) text)

-- ---- how long the answers are

-- 8 bytes, two numbers of at most 20 digits, a space and the end
pub refused-length : (number place : ℕ) → number < 10 ^ 20 → place < 10 ^ 20 → length (refused_text number place) ≤ 50
refused-length number place h k = simp length-append (omega (arith, decimal-length 19 number h, decimal-length 19 place k))

pub reach_length : (h : ℕ) (p : Plan) → h ≤ 999 → height p ≤ 999 → length (reach_text h p) ≤ 10 + 14 * length (encode p)
reach_length h p few low = simp length-append (omega (arith, decimal-length 2 h (omega arith), lines-length 0 p (omega arith)))

-- ---- paper 01's example: its output, whole

pub sample_text : reach_text 4 sample ≡ bytes "reach 4\n0 look c 2\n1 set a 2 1\n2 set b 1 1\n3 stop\n1 set c 2 0\n2 set a 2 1\n3 set b 1 1\n4 stop\n"
unfolding decimal
sample_text = ap (λ (lines : List ℕ). bytes "reach 4\n" ++ lines) sample_lines

pub value_digit_unique : (κs : _) (a : _) (x y : _) (s : _) → value_digit.Post κs a x s → value_digit.Post κs a y s → x ≡ y
value_digit_unique κs a x y s p q = p ∙ sym q

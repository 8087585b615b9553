-- How long a refusal's line is, and how long a plan's lines are: they have at most a fixed number of bytes for each of its bytes, by induction on the
-- plan.
use mathlib.Core.Path.{◌≡◌, sym, ap, ◌∙◌}
use mathlib.Core.List.{List, [], ◌++◌, append-nil}
use Prim.Native.Nat.{ℕ, suc, ◌+◌, ◌*◌, ◌^◌, ◌≤◌, ◌<◌}
use native.Mathlib.Nat.{mul-suc, mul-add, le-max_left, le-max_right}
use native.Mathlib.Omega.{arith}
use lib.ListN.{length, length-append}
use Rattle.ground.specs.Text.{bytes}
use Rattle.knowledge_acts.specs.declared.act.Act.TheVariants.{Set, Look}
use Rattle.plan.specs.Plans.{Plan, stop, set_then, look_then, height}
use Rattle.plan.specs.Bytes.{encode}
use Rattle.print_room.proofs.Decimals.{decimal-length}
use Rattle.print_answer.specs.Listed.{act_text, numbered, plan_text, Lettered}
use Rattle.print_answer.specs.Printed.{refused_at, height_text}
use Rattle.print_answer.specs.Inner.{Shows, Readable}
use Rattle.print_answer.proofs.Lined.{numbered-length}

-- numbers of up to 20 digits
pub refused-at-length : (number place : ℕ) → number < 10 ^ 20 → place < 10 ^ 20 → length (refused_at number place) ≤ 49
refused-at-length number place h k = simp length-append (omega (arith, decimal-length 19 number h, decimal-length 19 place k))

-- heights of up to three digits
pub height-text-length : (height : ℕ) → height < 10 ^ 3 → length (height_text height) ≤ 10
height-text-length height h = simp length-append (omega (arith, decimal-length 2 height h))

-- depths of at most k + 1 digits: a line has those and at most 11 bytes more
pub plan-length : (k depth : ℕ) (p : Plan) → depth + height p < 10 ^ suc k → length (plan_text depth p) ≤ (12 + k) * length (encode p)
plan-length k depth stop h = omega (arith, decimal-length k depth (omega arith), numbered-length depth (bytes "stop"))
plan-length k depth (set_then i q b p) h =
    let later = plan-length k (depth + 1) p (omega arith) in
    let digits = decimal-length k depth (omega arith) in
    let this = numbered-length depth (act_text (Set i q b)) in
    rw (length-append (numbered depth (act_text (Set i q b))) (plan_text (depth + 1) p), mul-suc) (omega arith)
plan-length k depth (look_then i q p r) h =
    let one = plan-length k (depth + 1) p (omega (arith, le-max_left (height p) (height r))) in
    let two = plan-length k (depth + 1) r (omega (arith, le-max_right (height p) (height r))) in
    let digits = decimal-length k depth (omega arith) in
    let this = numbered-length depth (act_text (Look i q)) in
    rw (mul-suc, length-append (encode p) (encode r), mul-add) (
    omega (
      arith,
      length-append (numbered depth (act_text (Look i q)) ++ plan_text (depth + 1) p) (plan_text (depth + 1) r),
      length-append (numbered depth (act_text (Look i q))) (plan_text (depth + 1) p),
    )
    )

pub height-length : (p : Plan) → height p < length (encode p)
height-length stop = omega arith
height-length (set_then i q b p) = omega (arith, height-length p)
height-length (look_then i q p r) = omega (arith, height-length p, height-length r, length-append (encode p) (encode r))

-- ---- a whole plan, printed from its first byte on

module _ {plan : List ℕ} (p : Plan) (whole : plan ≡ encode p) (lettered : Lettered p) where
  pub whole-shown : Shows plan 0 p
  whole-shown = record { rest = []; there = whole ∙ sym (append-nil (encode p)); lettered = lettered }

  pub whole-readable : {to : ℕ} → length plan ≤ 32640 → to ≤ 10 → Readable plan 0 0 to
  whole-readable most h =
      let size = ap length whole in
      record {
        tree = p;
        shown = whole-shown;
        deep = omega arith;
        ends = record { below = omega (arith, plan-length 4 0 p (omega (arith, height-length p))) };
      }

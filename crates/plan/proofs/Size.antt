-- A permitted plan has at most 2 ^ (unknown settings) × (height + 1) bytes: each look halves what each outcome may take, since it
-- makes a setting known.
use mathlib.Core.Path.{◌≡◌}
use mathlib.Core.List.{◌++◌}
use mathlib.Core.Bool.{true, false}
use Prim.Native.Nat.{ℕ, suc, max, ◌+◌, ◌*◌, ◌^◌, ◌≤◌}
use native.Mathlib.Nat.{pow-succ', mul-suc, mul_assoc, one-le-mul, one-le-pow, mul-le-mul, mul-le-mul_left, mul-le-mul_right, le_trans, le-max_left, le-max_right}
use native.Mathlib.Omega.{arith}
use lib.Dec.{lit<}
use lib.ListN.{length, length-append}
use lib.Pow.{pow_mono}
use Rattle.knowledge_acts.specs.Acts.{set_to, look_at}
use Rattle.knowledge_acts.specs.declared.act.Act.TheVariants.{Set, Look}
use Rattle.plan.specs.Plans.{System, Lawful, Plan, stop, set_then, look_then, Permitted, Works, height}
use Rattle.plan.specs.Bytes.{encode}
use Rattle.plan.specs.Pending.{unknowns}
use Rattle.plan.proofs.Unknowns.{unknowns_le, unknowns-set, unknowns_look}

pub works_permitted : (S : System) (p : Plan) (k : ℕ) → Works S k p → Permitted S k p
works_permitted S stop k w = tt
works_permitted S (set_then i q b p) k w = (w.0, works_permitted S p (set_to k i b) w.1)
works_permitted S (look_then i q p r) k w = (w.0, works_permitted S p (look_at k i false) w.1, works_permitted S r (look_at k i true) w.2)

-- one byte more on a branch that is one act longer
one_more : (x u h : ℕ) → x ≤ 2 ^ u * suc h → suc x ≤ 2 ^ u * suc (suc h)
one_more x u h l = rw (mul-suc (2 ^ u) (suc h)) (omega (arith, one-le-pow u 2 (lit< tt)))

wider : (x u v h : ℕ) → u ≤ v → x ≤ 2 ^ u * suc h → x ≤ 2 ^ v * suc h
wider x u v h l m = le_trans m (mul-le-mul_right (suc h) (pow_mono l))

-- two outcomes, each with one setting less unknown
two-outcomes : (x y u g h : ℕ) → x ≤ 2 ^ u * suc g → y ≤ 2 ^ u * suc h → x + y ≤ 2 ^ suc u * suc (max g h)
two-outcomes x y u g h l m =
    let a = le_trans l (mul-le-mul_left (2 ^ u) (up (le-max_left g h))) in
    let b = le_trans m (mul-le-mul_left (2 ^ u) (up (le-max_right g h))) in
    rw (pow-succ', mul_assoc) (omega arith)
  where
    up : {i j : ℕ} → i ≤ j → suc i ≤ suc j
    up h = omega arith

pub size : {n : ℕ} {S : System} (law : Lawful n S) (p : Plan) (k : ℕ) → Permitted S k p → length (encode p) ≤ 2 ^ unknowns n k * suc (height p)
size {n} law stop k w = one-le-mul (one-le-pow (unknowns n k) 2 (lit< tt)) (omega arith)
size {n} law (set_then i q b p) k w =
    one_more (length (encode p)) (unknowns n k) (height p)
    (wider (length (encode p)) (unknowns n (set_to k i b)) (unknowns n k) (height p)
    (omega (arith, unknowns-set n k i b (law.setting_of_case k (Set i q b) w.0))) (size law p (set_to k i b) w.1))
size {n} law (look_then i q p r) k w =
    let u = unknowns n (look_at k i false) in
    let e : unknowns n k ≡ suc u = omega (arith, unknowns_look n k i false (law.setting_of_case k (Look i q) w.0) (law.looks_at k i q w.0)) in
    let f : unknowns n (look_at k i true) ≡ u = omega (arith, unknowns_look n k i true (law.setting_of_case k (Look i q) w.0) (law.looks_at k i q w.0)) in
    one_more (length (encode p ++ encode r)) (unknowns n k) (max (height p) (height r))
    (rw (length-append, e)
    (two-outcomes (length (encode p)) (length (encode r)) u (height p) (height r) (size law p (look_at k i false) w.1) (rw f at (size law r (look_at k i true) w.2))))

-- "It never has more than 32,640 bytes": 2^7 branches of 254 acts and a stop
pub size-most : {n : ℕ} {S : System} (law : Lawful n S) (p : Plan) (k : ℕ) → n ≤ 7 → Permitted S k p → height p ≤ 254 → length (encode p) ≤ 32640
size-most {n} law p k l w h =
    le_trans (size law p k w)
    (mul-le-mul {n₁ = 2 ^ unknowns n k} {m₁ = suc (height p)} {n₂ = 128} {m₂ = 255}
    (pow_mono {i = unknowns n k} {j = 7} (omega (arith, unknowns_le n k))) (omega arith))

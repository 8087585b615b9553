-- What the test of each number of a range tells, as std's `all` answers it.
use Rattle.std.proofs.Common.{◌≡◌, ℕ, ◌+◌, ◌-◌, ◌<◌, ◌≤◌, Bool, true, false, length, get_or, arith}
use Rattle.std.specs.Bool.{MatchBool}
use Rattle.std.specs.List.{range_with_len, AllWithin, HoldsAt}
use Rattle.std.proofs.lemmas.List.FromFn.{length-range_with_len, get_or-range_with_len}
use Rattle.ground.specs.Tells.{Tells}

pub each_told : (P : ℕ → Type 0) (first end : ℕ) (r : Bool)
    → MatchBool r (AllWithin P (range_with_len first (end - first)) 0 (length (range_with_len first (end - first))))
    ((k : ℕ) × (k < length (range_with_len first (end - first))) × HoldsAt (λ j. P j → ⊥) (range_with_len first (end - first)) k)
    → Tells r ((j : ℕ) → first ≤ j → j < end → P j)
each_told P first end true each = λ j l h.
    let i : j - first < end - first = omega arith in
    let here : get_or (range_with_len first (end - first)) (j - first) 0 ≡ j = omega (arith, get_or-range_with_len first (end - first) (j - first) 0 i) in
    rw here at (each (j - first) 0 (omega arith) (omega (arith, i, length-range_with_len first (end - first))))
each_told P first end false (k, l, none) = λ f.
    let h : k < end - first = omega (arith, l, length-range_with_len first (end - first)) in
    (rw (get_or-range_with_len first (end - first) k 0 h) at (none 0)) (f (first + k) (omega arith) (omega arith))

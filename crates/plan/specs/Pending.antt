-- How many states can be pending while a plan's bytes are read: a look makes an unknown setting known, so n looks at most are open.
-- Inside: what a loop over the bytes keeps, cited by no public contract.
use Rattle.std.specs.Prelude.{List, [], ◌∷◌, ℕ, zero, suc, ◌+◌, ◌/◌, ◌%◌, ◌≤◌, ◌<◌, length}

-- 1 for the digit 0
abbrev pub nought : ℕ → ℕ
nought zero = 1
nought (suc d) = 0

-- how many of the first n digits of k are 0: the settings whose present value is unknown
unfoldable pub unknowns : ℕ → ℕ → ℕ
unknowns zero k = 0
unknowns (suc n) k = nought (k % 7) + unknowns n (k / 7)

-- states that wait for the true outcome of a look: the one with s others below it has fewer than n - s unknown settings
abbrev pub Waiting : ℕ → List ℕ → Type 0
Waiting n [] = Unit
Waiting n (k ∷ ks) = (unknowns n k + length ks < n) × Waiting n ks

-- the state that is read at, and those that wait
abbrev pub Pending : ℕ → ℕ → List ℕ → Type 0
Pending n k ks = (unknowns n k + length ks ≤ n) × Waiting n ks

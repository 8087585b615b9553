-- The verdict on a plan's bytes: "the first fault in reading order, 17 before 18", and 32 after 18. Reading goes on from a list of pending states:
-- the next byte is for the first of them; the true outcome of a look waits behind the false one.
use Rattle.std.specs.Prelude.{Bool, true, false, List, [], ◌∷◌, ◌++◌, ℕ, zero, suc, Option, Some, None}
use Rattle.knowledge_acts.specs.Acts.{act_of, set_to, look_at}
use Rattle.knowledge_acts.specs.declared.act.Act.{Act}
use Rattle.knowledge_acts.specs.declared.act.Act.TheVariants.{Set, Look}
use Rattle.refusal.specs.declared.Why.{Why}
use Rattle.plan.specs.Plans.{System}
use Rattle.plan.specs.declared.Permit.{Permit}
use Rattle.plan.specs.declared.Permit.TheVariants.{Given, Denied, ChangesNothing}

pub data Fault : Type 0 where
  -- 17 "byte names no act of this book and team"
  no_act : Fault
  -- 18 "act not permitted here, or look at a known setting", and why
  not_permitted : Why → Fault
  -- 32 a set to the value that the team knows is there: "32 with the index, after 18 at the same byte"
  changes_nothing_case : Fault
  -- 19 "stop where the goal isn't settled"
  not_settled : Fault
  -- 20 "plan ends too soon", at its length
  too_soon : Fault
  -- 21 "bytes after a whole plan", at the first of them
  left_over : Fault

pub data Verdict : Type 0 where
  -- "acceptance is a bare yes"
  accepted : Verdict
  -- a fault and the index of its byte
  faulty : Fault → ℕ → Verdict

-- what one byte comes to at a state: the states that its plan goes on from, or a fault
pub data Reading : Type 0 where
  goes_on : List ℕ → Reading
  fails : Fault → Reading

-- the states after an act, the false outcome first
abbrev pub outcomes : ℕ → Act → List ℕ
outcomes k (Set i q b) = set_to k i b ∷ []
outcomes k (Look i q) = look_at k i false ∷ look_at k i true ∷ []

-- an act: is it of this book and team, is it permitted here, and does it change something: "17 before 18", and 32 "after 18"
abbrev pub read_act : Bool → Permit → List ℕ → Reading
read_act false permit new = fails no_act
read_act true (Denied why) new = fails (not_permitted why)
read_act true ChangesNothing new = fails changes_nothing_case
read_act true Given new = goes_on new

abbrev pub read_named : System → ℕ → Option Act → Reading
read_named S k None = fails no_act
read_named S k (Some a) = read_act (S.offers a) (S.permits k a) (outcomes k a)

-- a stop: is the goal settled
abbrev pub read_stop : Bool → Reading
read_stop false = fails not_settled
read_stop true = goes_on []

-- a byte at the state k: "A stop is 0", any other names an act or nothing
abbrev pub read_byte : System → ℕ → ℕ → Reading
read_byte S k zero = read_stop (S.goal k)
read_byte S k (suc c) = read_named S k (act_of (suc c))

-- the verdict on the bytes from index at on, where these states are pending
abbrev pub judge : System → List ℕ → ℕ → List ℕ → Verdict
judge S [] at [] = accepted
judge S [] at (c ∷ cs) = faulty left_over at
judge S (k ∷ ks) at [] = faulty too_soon at
judge S (k ∷ ks) at (c ∷ cs) = elim (read_byte S k c) [
  | goes_on new ↦ judge S (new ++ ks) (suc at) cs
  | fails f ↦ faulty f at
]

-- a plan's bytes, judged from the state k
abbrev pub check : System → ℕ → List ℕ → Verdict
check S k bytes = judge S (k ∷ []) 0 bytes

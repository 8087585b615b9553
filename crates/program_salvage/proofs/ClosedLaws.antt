-- The names of the settings that were closed: how long they are, and one more of them written; and a salvaged book fits its room.
use mathlib.Core.Path.{◌≡◌, refl}
use mathlib.Core.Bool.{Bool, true, false}
use mathlib.Core.List.{List, ◌++◌}
use Prim.Native.Nat.{ℕ, zero, suc, ◌+◌, ◌*◌, ◌≤◌}
use native.Mathlib.Numerals.{add-one}
use native.Mathlib.Omega.{arith}
use lib.ListN.{length, length-append}
use Rattle.ground.specs.Digits.{bit}
use Rattle.ground.specs.Text.{bytes}
use Rattle.print_room.specs.Wrote.{Wrote}
use Rattle.print_room.proofs.Writing.{wrote_then, wrote_none}
use Rattle.program_salvage.specs.Closed.{closed_name, closed_names, closed_text}

pub names-none : {old : List ℕ} (marks : ℕ) {to : ℕ} → Wrote old to (closed_names 0 marks) old to
unfolding closed_names
names-none marks = wrote_none

name_length : (closed : Bool) (i : ℕ) → length (closed_name closed i) ≤ 2
name_length true i = omega arith
name_length false i = omega arith

pub names-length : (n marks : ℕ) → length (closed_names n marks) ≤ 2 * n
unfolding closed_names
names-length zero marks = omega arith
names-length (suc n) marks =
    omega (arith, length-append (closed_names n marks) (closed_name (bit marks n) n), names-length n marks, name_length (bit marks n) n)

pub names_more : {a b c : List ℕ} (i marks : ℕ) {to at next : ℕ} → Wrote a to (closed_names i marks) b at → Wrote b at (closed_name (bit marks i) i) c next
    → Wrote a to (closed_names (i + 1) marks) c next
unfolding closed_names
names_more i marks w v = rw (add-one i) (wrote_then w v)

-- the line, by whether there is a mark
pub text-none : (marks : ℕ) → marks ≡ 0 → closed_text marks ≡ bytes "no setting was closed\n"
unfolding closed_text
text-none zero e = refl
text-none (suc marks) e = absurd (omega arith)

pub text-some : (marks : ℕ) → (marks ≡ 0 → ⊥) → closed_text marks ≡ bytes "closed" ++ (closed_names 7 marks ++ bytes ": nobody may look or set there\n")
unfolding closed_text
text-some zero e = absurd (e refl)
text-some (suc marks) e = refl

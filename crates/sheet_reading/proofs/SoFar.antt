-- The text of the lines so far, by what is due, and what they say: from each such place a well-formed sheet goes on, with a team of one, `known`
-- alone, no line `held` and `make 0`.
use mathlib.Core.Path.{◌≡◌, refl, sym, ap, ◌∙◌, subst}
use mathlib.Core.Logic.{◌⊎◌, inl, inr}
use mathlib.Core.List.{List, [], ◌∷◌, ◌++◌, append_assoc, append-nil}
use mathlib.Core.Bool.{Bool, true, false}
use Prim.Native.Nat.{ℕ, ◌≤◌}
use native.Mathlib.Omega.{arith}
use lib.Dec.{T}
use lib.ListN.{length}
use Rattle.ground.specs.Text.{bytes}
use Rattle.refusal.specs.declared.Refusal.{Refusal}
use Rattle.refusal.specs.declared.Refusal.TheVariants.{Malformed}
use Rattle.refusal.specs.Refusals.{number}
use Rattle.std.proofs.Common.{Result, Ok, Err}
use Rattle.formula.specs.Computed.{formula_answer}
use Rattle.sheet_words.specs.Steps.{fault, next, unless, unless_answered, unless_refused}
use Rattle.sheet_rules.proofs.FormulaLaws.{formula_number}
use Rattle.sheet_question.specs.Asked.{HeldLine, left_out, team_as, known_as}
use Rattle.sheet_reading.specs.Sheet.{Sheet}
use Rattle.sheet_reading.proofs.OnePass.{SheetStep, asked_as, with_make}
use Rattle.sheet_question.specs.declared.desk.Due.{Due}
use Rattle.sheet_question.specs.declared.desk.Due.TheVariants.{Team, Known, Held, Make, Asks}
use Rattle.sheet_reading.specs.Grammar.{ended, team_line, known_line, held_text, make_line, ask_lines, rules_text, asked_text, sheet_text}
use Rattle.sheet_reading.specs.Grammar.{InLine, NamesFit, KnownFit, HeldFit, AsksFit, WellRuled, WellFormed}
use Rattle.sheet_reading.specs.Place.{BeginsSheet}

-- ---- the text of the lines so far, by what is due

unfoldable pub to_rights : Sheet → List ℕ
to_rights v = rules_text v.size v.rules

unfoldable pub to_team : Sheet → List ℕ
to_team v = to_rights v ++ ended (team_line v.asked.team)

unfoldable pub to_known : Sheet → List ℕ
to_known v = to_team v ++ ended (known_line v.asked.known)

unfoldable pub to_held : Sheet → List ℕ
to_held v = to_known v ++ held_text v.asked.held

abbrev pub so_far : Due → Sheet → List ℕ
so_far Team v = to_rights v
so_far Known v = to_team v
so_far Held v = to_known v
so_far Make v = to_held v
so_far Asks v = (to_held v ++ ended (make_line v.asked.make)) ++ ask_lines v.asked.asks

-- ---- and what they say

-- well-formed rules, and nothing held or to learn yet
abbrev pub Begun : Sheet → Type 0
Begun v = WellRuled v.size v.rules × (v.asked.asks ≡ []) × (v.asked.held ≡ left_out)

abbrev pub Teamed : Sheet → Type 0
Teamed v = Begun v × (1 ≤ length v.asked.team) × NamesFit v.size.posts v.asked.team

-- all but the make formula, and nothing to learn yet
pub record ToMake (v : Sheet) : Type 0 where
  pub ruled : WellRuled v.size v.rules
  pub no_asks : v.asked.asks ≡ []
  pub someone : 1 ≤ length v.asked.team
  pub team : NamesFit v.size.posts v.asked.team
  pub known : KnownFit v.size.settings v.asked.known
  pub held : HeldFit v.size.settings v.asked.held

abbrev pub WellSoFar : Due → Sheet → Type 0
WellSoFar Team v = Begun v
WellSoFar Known v = Teamed v
WellSoFar Held v = Teamed v × KnownFit v.size.settings v.asked.known
WellSoFar Make v = ToMake v
WellSoFar Asks v = WellFormed v

-- where the line `held` may come it may be left out
pub none-held : (v : Sheet) → WellSoFar Held v → ToMake v
none-held v (((rules, asks, none), one, team), known) =
    record { ruled = rules; no_asks = asks; someone = one; team = team; known = known; held = subst (HeldFit v.size.settings) (sym none) tt }

pub none-text : (v : Sheet) → WellSoFar Held v → to_held v ≡ to_known v
unfolding to_held held_text
none-text v (((rules, asks, none), one, team), known) = ap (λ (x : HeldLine). to_known v ++ held_text x) none ∙ append-nil (to_known v)

-- with a make formula nothing is left that must come
pub made : (v : Sheet) (F : List ℕ) → WellSoFar Make v → InLine F → WellFormed (with_make v F)
unfolding with_make
made v F so i = record {
  ruled = so.ruled;
  well_asked = record {
    someone = so.someone;
    team = so.team;
    known = so.known;
    held = so.held;
    make = i;
    asks = subst AsksFit (sym so.no_asks) tt;
    asks_most = rw so.no_asks (omega arith);
  };
}

pub whole : (v : Sheet) → sheet_text v ≡ so_far Asks v
unfolding sheet_text asked_text to_held to_known to_team to_rights
whole v = sym (simp append_assoc)

-- ---- a well-formed sheet goes on

pub begins_less : (p q : List ℕ) → BeginsSheet (p ++ q) → BeginsSheet p
begins_less p q b = record { sheet = b.sheet; well_formed = b.well_formed; rest = q ++ b.rest; written = b.written ∙ append_assoc p q b.rest }

asks_begin : (v : Sheet) → WellFormed v → BeginsSheet (so_far Asks v)
asks_begin v h = record { sheet = v; well_formed = h; rest = []; written = whole v ∙ sym (append-nil (so_far Asks v)) }

make-begins : (v : Sheet) → WellSoFar Make v → BeginsSheet (to_held v)
unfolding to_held to_known to_team to_rights with_make
make-begins v h =
    begins_less (to_held v) (ended (make_line (bytes "0")))
    (begins_less (to_held v ++ ended (make_line (bytes "0"))) (ask_lines v.asked.asks)
    (asks_begin (with_make v (bytes "0")) (made v (bytes "0") h (omega arith))))

held-begins : (v : Sheet) → WellSoFar Held v → BeginsSheet (to_known v)
held-begins v h = subst BeginsSheet (none-text v h) (make-begins v (none-held v h))

known-begins : (v : Sheet) → WellSoFar Known v → BeginsSheet (to_team v)
unfolding to_known to_team to_rights
known-begins v h =
    begins_less (to_team v) (ended (known_line []))
    (held-begins (asked_as v (known_as v.asked [])) (h, tt))

rights_begin : (v : Sheet) → WellSoFar Team v → BeginsSheet (to_rights v)
unfolding to_team to_rights
rights_begin v h =
    begins_less (to_rights v) (ended (team_line (0 ∷ [])))
    (known-begins (asked_as v (team_as v.asked (0 ∷ []))) (h, omega arith, (h.0.posts_least, tt)))

pub so_far_begins : (due : Due) (v : Sheet) → WellSoFar due v → BeginsSheet (so_far due v)
so_far_begins Team v h = rights_begin v h
so_far_begins Known v h = known-begins v h
so_far_begins Held v h = held-begins v h
so_far_begins Make v h = make-begins v h
so_far_begins Asks v h = asks_begin v h

-- ---- what a line does

-- line L at fault: 22 there, or another refusal, and then the line's form is right
abbrev pub GoodFault : ℕ → List ℕ → Refusal → Type 0
GoodFault L s r = (r ≡ Malformed L) ⊎ ((number r ≡ 22 → ⊥) × BeginsSheet s)

-- where the sheet goes on, s is the text so far, all of it well formed
abbrev pub Good : ℕ → List ℕ → SheetStep → Type 0
Good L s (fault r) = GoodFault L s r
Good L s (next (d, v)) = WellSoFar d v × (so_far d v ≡ s)

module _ (L : ℕ) (s : List ℕ) where
  pub good_begins : (d : Due) (v : Sheet) → Good L s (next (d, v)) → BeginsSheet s
  good_begins d v g = subst BeginsSheet g.1 (so_far_begins d v g.0)

  -- the line's form
  pub good_form : (b : Bool) (later : SheetStep) → (T b → Good L s later) → Good L s (unless b (Malformed L) later)
  good_form true later h = h tt
  good_form false later h = inl refl

  -- and its other faults
  pub good_unless : (b : Bool) (r : Refusal) (later : SheetStep) → (number r ≡ 22 → ⊥) → BeginsSheet s → Good L s later → Good L s (unless b r later)
  good_unless true r later o f h = h
  good_unless false r later o f h = inr (o, f)

  pub good_refused : (n : ℕ) (F : List ℕ) (d : Due) (v : Sheet) → Good L s (next (d, v)) → Good L s (unless_refused n F (next (d, v)))
  unfolding unless_refused
  good_refused n F d v g = by_answer (formula_answer n F) (λ r e z. omega (arith, formula_number n F r e, z))
    where
      by_answer : (a : Result (Unit {0}) Refusal) → ((r : Refusal) → a ≡ Err r → number r ≡ 22 → ⊥) → Good L s (unless_answered a (next (d, v)))
      by_answer (Ok x) o = g
      by_answer (Err r) o = inr (o r refl, good_begins d v g)

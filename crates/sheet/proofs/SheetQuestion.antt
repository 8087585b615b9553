-- The question that a well-formed sheet asks is valid: its rights may be written as a book, and refusals 10 to 12 deny nothing of it. Name by name,
-- and table by table. So its plans are short.
use mathlib.Core.Path.{◌≡◌, sym, ap, ◌∙◌, subst}
use mathlib.Core.Logic.{inl, inr}
use mathlib.Core.Bool.{false}
use mathlib.Core.List.{List, [], ◌∷◌}
use Prim.Native.Nat.{ℕ, suc, ◌*◌, ◌^◌, ◌≤◌, ◌<◌}
use native.Mathlib.Nat.{le_trans, mul-le-mul}
use native.Mathlib.Omega.{arith}
use lib.Dec.{T, eqb, eqb→eq, eqb_refl}
use lib.ListN.{length, get_or}
use lib.Pow.{pow_mono}
use Rattle.ground.specs.Digits.{bit}
use Rattle.ground.specs.Table.{truth, Within}
use Rattle.ground.proofs.Bools.{or_left, or_out, both, false→T, lt_or_ge}
use Rattle.ground.proofs.Bits.{bit_of_zero}
use Rattle.book_block.specs.Kinds.{Zeros}
use Rattle.book_block.specs.Rule.{table}
use Rattle.book_sound.specs.Sound.{tables_of}
use Rattle.book.specs.Written.{Writable}
use Rattle.book_block.specs.declared.rule.Right.{Right}
use Rattle.book.proofs.RoundTrip.{written-sound}
use Rattle.plan.specs.Plans.{System, Lawful, Plan, height}
use Rattle.plan.specs.Ranks.{Written}
use Rattle.plan.specs.Bytes.{encode}
use Rattle.plan.specs.Pending.{unknowns}
use Rattle.plan.proofs.Unknowns.{unknowns_le}
use Rattle.plan.proofs.Ranks.{has-rank, rank_reach, rank_most}
use Rattle.plan.proofs.Written.{written_works, written-height}
use Rattle.plan.proofs.Accepted.{written-size}
use Rattle.knowledge.specs.Goal.{Goal}
use Rattle.question.specs.Question.{system_of}
use Rattle.question.specs.Rows.{TeamFits, KnownFits, HeldFits, GoalFits}
use Rattle.question.specs.Asks.{ValidQuestion}
use Rattle.question.specs.declared.Question.{Question}
use Rattle.question.proofs.SystemLaws.{lawful}
use Rattle.sheet_words.specs.Words.{member}
use Rattle.sheet_question.specs.Asked.{Known, HeldLine, left_out, holding, known_settings, held_settings}
use Rattle.sheet_question.proofs.Stated.{true_known, tables-length, tables-within}
use Rattle.sheet_reading.specs.Sheet.{Sheet}
use Rattle.ground.proofs.Table.{zero_at, zero_truth}
use Rattle.sheet_reading.specs.Grammar.{NamesFit, KnownFit, HeldFit, WellFormed}
use Rattle.sheet.specs.Answer.{SheetAsks, sheet_book}

-- ---- what is named

name_below : (m : ℕ) (ps : List ℕ) (q : ℕ) → NamesFit m ps → T (member q ps) → q < m
unfolding member
name_below m [] q f t = absurd t
name_below m (p ∷ ps) q f t = elim (or_out (eqb p q) (member q ps) t) [
  | inl e ↦ (let s : p ≡ q = eqb→eq p q e in omega (arith, f.0))
  | inr u ↦ name_below m ps q f.1 u
]

setting-below : (n : ℕ) (ks : List Known) (i : ℕ) → KnownFit n ks → T (member i (known_settings ks)) → i < n
unfolding member known_settings
setting-below n [] i f t = absurd t
setting-below n (k ∷ ks) i f t = elim (or_out (eqb k.setting i) (member i (known_settings ks)) t) [
  | inl e ↦ (let s : k.setting ≡ i = eqb→eq k.setting i e in omega (arith, f.0))
  | inr u ↦ setting-below n ks i f.1 u
]

held_below : (n : ℕ) (x : HeldLine) (i : ℕ) → HeldFit n x → T (member i (held_settings x)) → i < n
unfolding member
held_below n left_out i f t = absurd t
held_below n (holding names) i f t = name_below n names i f t

someone-named : (ps : List ℕ) → 1 ≤ length ps → (q : ℕ) × T (member q ps)
unfolding member
someone-named [] l = absurd (omega arith)
someone-named (p ∷ ps) l = (p, or_left (eqb p p) (member p ps) (eqb_refl p))

-- ---- the question

module _ {sheet : Sheet} {rights : List ℕ} {q : Question} {goal : Goal} (w : WellFormed sheet) (a : SheetAsks sheet rights q goal) where
  asked-team : TeamFits sheet.size.posts q.team
  asked-team = record {
    someone = λ e.
        let x = someone-named sheet.asked.team w.well_asked.someone in
        both (bit q.team x.0) (subst T (sym (a.posts x.0)) x.1) (false→T (ap (λ (t : ℕ). bit t x.0) e ∙ bit_of_zero x.0));
    posts = λ p t. name_below sheet.size.posts sheet.asked.team p w.well_asked.team (subst T (a.posts p) t);
  }

  asked-known : KnownFits sheet.size.settings q.known q.values
  asked-known = record {
    settings = λ i t. setting-below sheet.size.settings sheet.asked.known i w.well_asked.known (subst T (a.settings_known i) t);
    valued = λ i t. subst T (sym (a.settings_known i)) (true_known sheet.asked.known i (subst T (a.settings_true i) t));
  }

  asked-held : HeldFits sheet.size.settings q.held
  asked-held = record {
    settings = λ i t. held_below sheet.size.settings sheet.asked.held i w.well_asked.held (subst T (a.settings_held i) t);
  }

  asked-goal : GoalFits sheet.size.settings goal
  asked-goal =
      let Fs = sheet.asked.asks in
      let size : length goal.learn ≡ 16 * length Fs = tables-length sheet.size.settings Fs goal.learn a.learnt in
      record {
        make_bytes = a.made.table.sixteen;
        learn_bytes = omega (arith, size);
        learn_most = omega (arith, size, w.well_asked.asks_most);
        make_within = a.made.table.within;
        learn_within = λ j l. tables-within sheet.size.settings Fs goal.learn j a.learnt (omega (arith, size, l));
      }

  asked-within : (right : Right) (i p : ℕ) → i < sheet.size.settings → p < 8 → Within sheet.size.settings (table (tables_of rights i) p right)
  unfolding Within
  asked-within right i p hi hp = elim (lt_or_ge p sheet.size.posts) [
    | inl l ↦ (a.rules right i p hi l).table.within
    | inr l ↦ (λ v m h. ap (λ (t : List ℕ). truth t v) (a.nobody right i p hi l hp) ∙ zero_truth v)
  ]

  pub asked_writable : Writable sheet.size.settings sheet.size.posts rights
  unfolding Zeros
  asked_writable = record {
    settings = record { least = w.ruled.settings_least; most = w.ruled.settings_most };
    posts = record { least = w.ruled.posts_least; most = w.ruled.posts_most };
    size = a.size;
    tables = λ i hi. record {
      nobody = λ p right l hp j from to. ap (λ (t : List ℕ). get_or t j 0) (a.nobody right i p hi l hp) ∙ zero_at 16 j;
      within = λ p right hp. asked-within right i p hi hp;
    };
  }

  pub asked-valid : ValidQuestion (sheet_book sheet rights) q goal sheet.size.settings sheet.size.posts
  asked-valid = record { sound = written-sound asked_writable; team = asked-team; known = asked-known; held = asked-held; goal = asked-goal }

  pub asked_lawful : Lawful sheet.size.settings (system_of sheet.size.settings (sheet_book sheet rights) q goal)
  asked_lawful = lawful asked-valid

  -- of up to 5 settings: at most 62 acts on a branch, 2^5 branches of those and a stop
  pub asked-most : sheet.size.settings ≤ 5 → (k : ℕ) (p : Plan) → Written (system_of sheet.size.settings (sheet_book sheet rights) q goal) k p
      → (height p ≤ 62) × (length (encode p) ≤ 2016)
  asked-most five k p x =
      let n : ℕ = sheet.size.settings in
      let S : System = system_of n (sheet_book sheet rights) q goal in
      let few = w.ruled.settings_most in
      let r = has-rank asked_lawful k in
      let low : r.0 < 255 = (rank_reach asked_lawful k r.0 few r.1).1 (p, written_works S p k x) in
      let most : r.0 ≤ 62 = omega (arith, rank_most asked_lawful k r.0 r.1 (λ e. omega arith), pow_mono {i = suc n} {j = 6} (omega arith)) in (
        omega (arith, written-height S p k r.0 x r.1),
        le_trans (written-size asked_lawful few k p r.0 x r.1)
            (mul-le-mul {n₁ = 2 ^ unknowns n k} {m₁ = suc r.0} {n₂ = 32} {m₂ = 63} (pow_mono {i = unknowns n k} {j = 5} (omega (arith, unknowns_le n k))) (omega arith)),
      )

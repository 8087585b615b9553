-- The desk asks what the sheet asks: its rights are the tables of their texts, stated or not. Slot by slot.
use mathlib.Core.Path.{◌≡◌, sym, ap, ◌∙◌, subst}
use mathlib.Core.Bool.{Bool, true, false}
use mathlib.Core.List.{List}
use Prim.Native.Nat.{ℕ, ◌+◌, ◌*◌, ◌≤◌, ◌<◌}
use native.Mathlib.Nat.{add_assoc}
use native.Mathlib.Omega.{arith}
use lib.Dec.{ltb}
use lib.ListN.{length, get_or, take, replicate}
use lib.Seq.{length-take-le, get_or-take}
use borrow.Author.Tests.{lt-ltb, le-ltb}
use Rattle.formula.specs.Read.{Accepts}
use Rattle.book_block.specs.Rule.{table_place, table}
use Rattle.book_sound.specs.Sound.{tables_of}
use Rattle.book_block.specs.declared.rule.Right.{Right}
use Rattle.book_block.specs.declared.rule.Right.TheVariants.{Look, Set}
use Rattle.ground.proofs.Lists.{get_d_part, part_same}
use Rattle.ground.proofs.Bools.{and_false}
use Rattle.book_sound.proofs.RightsLaws.{length-tables}
use Rattle.book_block.proofs.RuleLaws.{place-most}
use Rattle.sheet_rules.specs.Rules.{rule_text}
use Rattle.sheet_rules.specs.Desk.{slot_of, table_in, Filled, in_size}
use Rattle.sheet_question.specs.Desk.{TablesOf}
use Rattle.sheet_reading.specs.Sheet.{Sheet}
use Rattle.sheet_reading.specs.Desk.{OnDesk}
use Rattle.sheet_reading.specs.declared.Desk.{Desk}
use Rattle.sheet_reading.specs.Grammar.{WellFormed}
use Rattle.sheet.specs.Answer.{SheetAsks}
use Rattle.sheet.specs.Inner.{rights_in, learn_in, question_in, goal_in}

-- a right is of the size, or its post is past it
in_size_lem : (n m i q : ℕ) → i < n → q < m → in_size n m i q ≡ true
in_size_lem n m i q h k = rw (lt-ltb i n h, lt-ltb q m k)

past-size : (n m i q : ℕ) → m ≤ q → in_size n m i q ≡ false
past-size n m i q h = rw (le-ltb q m h) (and_false (ltb i n))

filled_by : (n : ℕ) (F t : List ℕ) {b : Bool} (c : Bool) → b ≡ c → Filled b n F t → Filled c n F t
filled_by n F t c e f = subst (λ (b : Bool). Filled b n F t) e f

-- ---- the rights

-- a slot's table stands where the block's table does
same_place : (right : Right) (i q : ℕ) → 256 * i + table_place q right ≡ 16 * slot_of right i q
unfolding table_place slot_of
same_place Look i q = omega arith
same_place Set i q = omega arith

module _ {sheet : Sheet} {d : Desk} (h : OnDesk sheet d) where
  pub rights_length : length (rights_in d) ≡ 256 * d.rules.settings
  unfolding rights_in
  rights_length = length-take-le (256 * d.rules.settings) d.rules.rights (omega (arith, h.rules.rights_size, h.rules.settings_most))

  module _ (right : Right) (i q : ℕ) (hi : i < d.rules.settings) (hq : q < 8) where
    desk_table : table (tables_of (rights_in d) i) q right ≡ table_in d.rules.rights (slot_of right i q)
    unfolding table table_in tables_of rights_in
    desk_table =
        let rights = d.rules.rights in
        let u : table_place q right + 16 ≤ 256 = place-most q right hq in
        let e : 256 * i + table_place q right ≡ 16 * slot_of right i q = same_place right i q in
        let l : length (tables_of (rights_in d) i) ≡ 256 = length-tables (rights_in d) i (omega (arith, rights_length)) in
        part_same (tables_of (rights_in d) i) rights (table_place q right) (16 * slot_of right i q) 16 (omega arith)
        (omega (arith, h.rules.rights_size, h.rules.settings_most))
        (λ o k.
        get_d_part (rights_in d) (256 * i) 256 (table_place q right + o) (omega arith)
        ∙ get_or-take (256 * d.rules.settings) rights (256 * i + (table_place q right + o)) 0 (omega arith)
        ∙ ap (λ (x : ℕ). get_or rights x 0) (sym (add_assoc (256 * i) (table_place q right) o) ∙ ap (λ (x : ℕ). x + o) e))

    slot : Filled (in_size d.rules.settings d.rules.posts i q) d.rules.settings (rule_text sheet.rules right i q) (table_in d.rules.rights (slot_of right i q))
    slot = h.rules.tables right i q (omega (arith, h.rules.settings_most)) hq

    desk_accepts : q < d.rules.posts → Accepts d.rules.settings (rule_text sheet.rules right i q) (table (tables_of (rights_in d) i) q right)
    desk_accepts l =
        subst (Accepts d.rules.settings (rule_text sheet.rules right i q)) (sym desk_table)
        (filled_by d.rules.settings _ _ true (in_size_lem d.rules.settings d.rules.posts i q hi l) slot)

    desk_nobody : d.rules.posts ≤ q → table (tables_of (rights_in d) i) q right ≡ replicate 16 0
    desk_nobody l =
        desk_table
        ∙ filled_by d.rules.settings (rule_text sheet.rules right i q) (table_in d.rules.rights (slot_of right i q)) false
        (past-size d.rules.settings d.rules.posts i q l) slot

  -- the question on the desk is the sheet's
  pub desk_question : WellFormed sheet → SheetAsks sheet (rights_in d) (question_in d) (goal_in d)
  unfolding learn_in
  desk_question w =
      let n = h.rules.settings in
      let m = h.rules.posts in
      record {
        size = rights_length ∙ ap (λ (n : ℕ). 256 * n) n;
        rules = λ right i q hi hq.
            subst (λ (n : ℕ). Accepts n (rule_text sheet.rules right i q) (table (tables_of (rights_in d) i) q right)) n
            (desk_accepts right i q (omega (arith, n)) (omega (arith, w.ruled.posts_most)) (omega (arith, m)));
        nobody = λ right i q hi l hq. desk_nobody right i q (omega (arith, n)) hq (omega (arith, m));
        made = subst (λ (n : ℕ). Accepts n sheet.asked.make d.asked.make) n h.asked.make;
        learnt = subst (λ (n : ℕ). TablesOf n sheet.asked.asks (take (16 * d.asked.asks) d.asked.learn)) n h.asked.learn;
        posts = h.asked.team;
        settings_known = h.asked.known;
        settings_true = h.asked.values;
        settings_held = h.asked.held;
      }

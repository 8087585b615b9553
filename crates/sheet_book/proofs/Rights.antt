-- The rights on the desk are the tables of the rules' texts, stated or not; so they may be written as a book. Slot by slot.
use mathlib.Core.Path.{◌≡◌, sym, ap, ◌∙◌, subst}
use mathlib.Core.Logic.{inl, inr}
use mathlib.Core.Bool.{Bool, true, false}
use mathlib.Core.List.{List}
use Prim.Native.Nat.{ℕ, ◌+◌, ◌*◌, ◌≤◌, ◌<◌}
use native.Mathlib.Nat.{add_assoc}
use native.Mathlib.Omega.{arith}
use lib.Dec.{ltb}
use lib.ListN.{length, get_or, take, replicate}
use lib.Seq.{length-take-le, get_or-take}
use borrow.Author.Tests.{lt-ltb, le-ltb}
use Rattle.ground.specs.Table.{truth, Within}
use Rattle.ground.proofs.Lists.{get_d_part, part_same}
use Rattle.ground.proofs.Bools.{and_false, lt_or_ge}
use Rattle.formula.specs.Read.{Accepts}
use Rattle.book_block.specs.Kinds.{Zeros}
use Rattle.book_block.specs.Rule.{table_place, table}
use Rattle.book_block.specs.declared.rule.Right.{Right}
use Rattle.book_block.specs.declared.rule.Right.TheVariants.{Look, Set}
use Rattle.book_block.proofs.RuleLaws.{place-most}
use Rattle.book_sound.specs.Sound.{tables_of}
use Rattle.book_sound.proofs.RightsLaws.{length-tables}
use Rattle.book.specs.Written.{Writable}
use Rattle.sheet_rules.specs.Rules.{Rules, rule_text}
use Rattle.sheet_rules.specs.Desk.{slot_of, table_in, Filled, in_size, OnDesk}
use Rattle.sheet_rules.specs.declared.desk.RulesDesk.{RulesDesk}
use Rattle.sheet_rules.proofs.Bounds.{Fits}
use Rattle.ground.proofs.Table.{zero_at, zero_truth}
use Rattle.sheet_book.specs.Book.{RulesRights}

-- a right is of the size, or its post is past it
in_size_lem : (n m i q : ℕ) → i < n → q < m → in_size n m i q ≡ true
in_size_lem n m i q h k = rw (lt-ltb i n h, lt-ltb q m k)

past-size : (n m i q : ℕ) → m ≤ q → in_size n m i q ≡ false
past-size n m i q h = rw (le-ltb q m h) (and_false (ltb i n))

filled_by : (n : ℕ) (F t : List ℕ) {b : Bool} (c : Bool) → b ≡ c → Filled b n F t → Filled c n F t
filled_by n F t c e f = subst (λ (b : Bool). Filled b n F t) e f

-- a slot's table stands where the block's table does
same_place : (right : Right) (i q : ℕ) → 256 * i + table_place q right ≡ 16 * slot_of right i q
unfolding table_place slot_of
same_place Look i q = omega arith
same_place Set i q = omega arith

-- the rights on the desk, without what its array has past them
unfoldable pub rights_in : RulesDesk → List ℕ
rights_in d = take (256 * d.settings) d.rights

module _ {rules : Rules} {d : RulesDesk} (h : OnDesk rules d) where
  pub rights_length : length (rights_in d) ≡ 256 * d.settings
  unfolding rights_in
  rights_length = length-take-le (256 * d.settings) d.rights (omega (arith, h.rights_size, h.settings_most))

  module _ (right : Right) (i q : ℕ) (hi : i < d.settings) (hq : q < 8) where
    desk_table : table (tables_of (rights_in d) i) q right ≡ table_in d.rights (slot_of right i q)
    unfolding table table_in tables_of rights_in
    desk_table =
        let rights = d.rights in
        let u : table_place q right + 16 ≤ 256 = place-most q right hq in
        let e : 256 * i + table_place q right ≡ 16 * slot_of right i q = same_place right i q in
        let l : length (tables_of (rights_in d) i) ≡ 256 = length-tables (rights_in d) i (omega (arith, rights_length)) in
        part_same (tables_of (rights_in d) i) rights (table_place q right) (16 * slot_of right i q) 16 (omega arith)
        (omega (arith, h.rights_size, h.settings_most))
        (λ o k.
        get_d_part (rights_in d) (256 * i) 256 (table_place q right + o) (omega arith)
        ∙ get_or-take (256 * d.settings) rights (256 * i + (table_place q right + o)) 0 (omega arith)
        ∙ ap (λ (x : ℕ). get_or rights x 0) (sym (add_assoc (256 * i) (table_place q right) o) ∙ ap (λ (x : ℕ). x + o) e))

    slot : Filled (in_size d.settings d.posts i q) d.settings (rule_text rules.rules right i q) (table_in d.rights (slot_of right i q))
    slot = h.tables right i q (omega (arith, h.settings_most)) hq

    desk_accepts : q < d.posts → Accepts d.settings (rule_text rules.rules right i q) (table (tables_of (rights_in d) i) q right)
    desk_accepts l =
        subst (Accepts d.settings (rule_text rules.rules right i q)) (sym desk_table)
        (filled_by d.settings _ _ true (in_size_lem d.settings d.posts i q hi l) slot)

    desk_nobody : d.posts ≤ q → table (tables_of (rights_in d) i) q right ≡ replicate 16 0
    desk_nobody l =
        desk_table
        ∙ filled_by d.settings (rule_text rules.rules right i q) (table_in d.rights (slot_of right i q)) false
        (past-size d.settings d.posts i q l) slot

  -- the rights on the desk are the rules'
  pub desk_rights : RulesRights rules (rights_in d)
  desk_rights =
      let n = h.settings in
      let m = h.posts in
      record {
        size = rights_length ∙ ap (λ (n : ℕ). 256 * n) n;
        tables = λ right i q hi hq.
            subst (λ (n : ℕ). Accepts n (rule_text rules.rules right i q) (table (tables_of (rights_in d) i) q right)) n
            (desk_accepts right i q (omega (arith, n)) (omega (arith, m, h.posts_most)) (omega (arith, m)));
        nobody = λ right i q hi l hq. desk_nobody right i q (omega (arith, n)) hq (omega (arith, m));
      }

  pub desk_fits : Fits 7 rules.size
  desk_fits = record {
    settings_least = omega (arith, h.settings, h.settings_least);
    settings_most = omega (arith, h.settings, h.settings_most);
    settings-taken = omega (arith, h.settings, h.settings_most);
    posts_least = omega (arith, h.posts, h.posts_least);
    posts_most = omega (arith, h.posts, h.posts_most);
  }

-- the rights of rules may be written
module _ {rules : Rules} {rights : List ℕ} (f : Fits 7 rules.size) (a : RulesRights rules rights) where
  rights_within : (right : Right) (i q : ℕ) → i < rules.size.settings → q < 8 → Within rules.size.settings (table (tables_of rights i) q right)
  unfolding Within
  rights_within right i q hi hq = elim (lt_or_ge q rules.size.posts) [
    | inl l ↦ (a.tables right i q hi l).table.within
    | inr l ↦ (λ v m h. ap (λ (t : List ℕ). truth t v) (a.nobody right i q hi l hq) ∙ zero_truth v)
  ]

  pub rights_writable : Writable rules.size.settings rules.size.posts rights
  unfolding Zeros
  rights_writable = record {
    settings = record { least = f.settings_least; most = f.settings_most };
    posts = record { least = f.posts_least; most = f.posts_most };
    size = a.size;
    tables = λ i hi. record {
      nobody = λ q right l hq j from to. ap (λ (t : List ℕ). get_or t j 0) (a.nobody right i q hi l hq) ∙ zero_at 16 j;
      within = λ q right hq. rights_within right i q hi hq;
    };
  }

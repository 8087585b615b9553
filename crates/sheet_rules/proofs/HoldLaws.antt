-- The desk when only the size is stated: the table of an unstated right at each place of the size, and zeros past it.
use mathlib.Core.Path.{◌≡◌, refl, sym, ◌∙◌, subst}
use mathlib.Core.Bool.{Bool, true, false, cond}
use mathlib.Core.List.{List, []}
use Prim.Native.Nat.{ℕ, zero, suc, ◌+◌, ◌*◌, ◌/◌, ◌%◌, ◌≤◌, ◌<◌}
use native.Mathlib.Omega.{arith}
use lib.Dec.{eqb, lit≤}
use lib.ListN.{length, replicate, length-replicate}
use lib.Seq.{sets, length-sets}
use borrow.Author.Tests.{eq-eqb, ne_eqb, lt-ltb, le-ltb}
use Rattle.ground.proofs.Table.{zero_at}
use Rattle.ground.proofs.Search.{below_suc}
use Rattle.refusal.specs.declared.Refusal.{Refusal}
use Rattle.refusal.specs.Order.{Clear}
use Rattle.refusal.proofs.OrderLaws.{clear_none, clear-past, clear-lowest, first-clear}
use Rattle.formula_grammar.specs.Grammar.{nought, one, one_unit, one_product, text, IsSentence}
use Rattle.formula_grammar.specs.Signs.{Foreign, is_stray, is_past, is_letter, is_sign}
use Rattle.formula.specs.Read.{formula_rows, Accepts, ReadsFormula}
use Rattle.std.proofs.Common.{Result, Ok, Err, IsOk}
use Rattle.book_block.specs.declared.rule.Right.{Right}
use Rattle.book_block.specs.declared.rule.Right.TheVariants.{Look, Set}
use Rattle.sheet_rules.specs.Rules.{size_of, is_stated, unstated, rule_text}
use Rattle.sheet_rules.specs.Desk.{slot_of, table_in, Filled, in_size, RulesOnDesk}
use Rattle.sheet_rules.specs.Turns.{rules_laid, unstated_at, Laid, Unstated}
use Rattle.sheet_rules.proofs.SlotLaws.{slot_small, kind, slot_is, own_slot, other_slot}

-- ---- an unstated right is a formula

unstated-clean : (n : ℕ) (right : Right) (j : ℕ) → Foreign n (unstated right) j → ⊥
unfolding unstated is_stray is_past is_letter is_sign
unstated-clean n Look zero (l, t) = t
unstated-clean n Look (suc j) (l, t) = omega arith
unstated-clean n Set zero (l, t) = t
unstated-clean n Set (suc j) (l, t) = omega arith

unstated-sentence : (right : Right) → IsSentence (unstated right)
unfolding unstated text
unstated-sentence Look = record { sentence = one_product (one_unit one); written = refl }
unstated-sentence Set = record { sentence = one_product (one_unit nought); written = refl }

unstated-short : (right : Right) → (1 ≤ length (unstated right)) × (length (unstated right) ≤ 255)
unfolding unstated
unstated-short Look = (lit≤ tt, lit≤ tt)
unstated-short Set = (lit≤ tt, lit≤ tt)

module _ (n : ℕ) (h : 1 ≤ n) (k : n ≤ 7) (right : Right) where
  unstated-clear : Clear (formula_rows n (unstated right))
  unstated-clear =
      clear-past (record { least = h; most = k })
      (clear-past (unstated-short right)
      (clear-lowest (unstated-clean n right) (clear-lowest (λ i x. x.0 (unstated-sentence right)) clear_none)))

  -- so it is taken
  pub unstated-read : (answer : Result (List ℕ) Refusal) → ReadsFormula n (unstated right) answer → IsOk answer
  unstated-read (Ok t) a = refl
  unstated-read (Err r) a = first-clear a unstated-clear

-- ---- one place after the other

module _ (n m : ℕ) (looks sets-table : List ℕ) where
  pub past-settings : (slot : ℕ) → n ≤ slot / 16 → replicate 16 0 ≡ unstated_at n m looks sets-table slot
  unfolding unstated_at
  past-settings slot l = rw (le-ltb (slot / 16) n l)

  pub past-posts : (slot : ℕ) → slot / 16 < n → m ≤ slot % 16 / 2 → replicate 16 0 ≡ unstated_at n m looks sets-table slot
  unfolding unstated_at
  past-posts slot l k = rw (lt-ltb (slot / 16) n l, le-ltb (slot % 16 / 2) m k)

  pub a_look : (slot : ℕ) → slot / 16 < n → slot % 16 / 2 < m → slot % 2 ≡ 0 → looks ≡ unstated_at n m looks sets-table slot
  unfolding unstated_at
  a_look slot l k e = rw (lt-ltb (slot / 16) n l, lt-ltb (slot % 16 / 2) m k, eq-eqb (slot % 2) 0 e)

  pub a_set : (slot : ℕ) → slot / 16 < n → slot % 16 / 2 < m → (slot % 2 ≡ 0 → ⊥) → sets-table ≡ unstated_at n m looks sets-table slot
  unfolding unstated_at
  a_set slot l k e = rw (lt-ltb (slot / 16) n l, lt-ltb (slot % 16 / 2) m k, ne_eqb (slot % 2) 0 e)

  pub laid_none : Laid n m looks sets-table 0 (replicate 1792 0)
  laid_none = record { size = length-replicate {A = ℕ} 1792 0; at = λ slot l. absurd (omega arith) }

  module _ (a : length looks ≡ 16) (b : length sets-table ≡ 16) where
    chosen_length : (x y : Bool) → length (cond x (cond y looks sets-table) (replicate 16 0)) ≡ 16
    chosen_length true true = a
    chosen_length true false = b
    chosen_length false y = refl

    pub unstated-length : (slot : ℕ) → length (unstated_at n m looks sets-table slot) ≡ 16
    unfolding unstated_at
    unstated-length slot = chosen_length (in_size n m (slot / 16) (slot % 16 / 2)) (eqb (slot % 2) 0)

    pub laid_more : (slot : ℕ) (old new : List ℕ) → slot < 112 → Laid n m looks sets-table slot old
        → new ≡ sets old (16 * slot) (unstated_at n m looks sets-table slot) → Laid n m looks sets-table (slot + 1) new
    laid_more slot old new small laid e =
        let t = unstated_at n m looks sets-table slot in
        let sixteen = unstated-length slot in
        rw e (record {
          size = length-sets old (16 * slot) t ∙ laid.size;
          at = λ k l.
              below_suc k slot (omega (arith, l))
              (λ same. rw same (own_slot old t slot sixteen (omega (arith, laid.size))))
              (λ before. other_slot old t slot sixteen k (omega (arith, laid.size, before)) (λ e. omega arith) ∙ laid.at k before);
        })

-- ---- the size alone

abbrev of_kind : Right → List ℕ → List ℕ → List ℕ
of_kind Look looks sets = looks
of_kind Set looks sets = sets

at_right : (n m : ℕ) (looks sets : List ℕ) (right : Right) (i q : ℕ) → q < 8
    → unstated_at n m looks sets (slot_of right i q) ≡ cond (in_size n m i q) (of_kind right looks sets) (replicate 16 0)
unfolding unstated_at kind
at_right n m looks sets Look i q l =
    let s = (slot_is Look i q).0 in
    let a : slot_of Look i q / 16 ≡ i = omega (arith, s) in
    let b : slot_of Look i q % 16 / 2 ≡ q = omega (arith, s) in
    let c : slot_of Look i q % 2 ≡ 0 = omega (arith, s) in rw (a, b, c)
at_right n m looks sets Set i q l =
    let s = (slot_is Set i q).0 in
    let a : slot_of Set i q / 16 ≡ i = omega (arith, s) in
    let b : slot_of Set i q % 16 / 2 ≡ q = omega (arith, s) in
    let c : slot_of Set i q % 2 ≡ 1 = omega (arith, s) in rw (a, b, c)

module _ (n m : ℕ) (h : 1 ≤ n) (k : n ≤ 7) (l : 1 ≤ m) (o : m ≤ 8) (rights : List ℕ) (u : Unstated n m rights) where
  filled-right : (right : Right) → Accepts n (unstated right) (of_kind right u.looks u.sets)
  filled-right Look = u.look_table
  filled-right Set = u.set_table

  filled : (right : Right) (inside : Bool) (t : List ℕ) → t ≡ cond inside (of_kind right u.looks u.sets) (replicate 16 0) → Filled inside n (unstated right) t
  filled right true t e = subst (Accepts n (unstated right)) (sym e) (filled-right right)
  filled right false t e = e

  pub sized-rules : RulesOnDesk (size_of n m) [] (rules_laid n m rights (replicate 112 0))
  unfolding is_stated rule_text
  sized-rules = record {
    settings = refl;
    posts = refl;
    settings_least = h;
    settings_most = k;
    posts_least = l;
    posts_most = o;
    rights_size = u.laid.size;
    stated_size = length-replicate {A = ℕ} 112 0;
    marks = λ right i q a b. zero_at 112 (slot_of right i q);
    tables = λ right i q a b.
        filled right (in_size n m i q) (table_in rights (slot_of right i q))
        (u.laid.at (slot_of right i q) (slot_small right i q a b) ∙ at_right n m u.looks u.sets right i q b);
  }

-- The contracts of `rules_of` and `read_rules` settle all that they give, and so does that of a line. One desk alone holds what rules state: byte by byte. The byte where rules end is settled by what is left of the text, since joining undoes
-- splitting.
use mathlib.Core.Path.{◌≡◌, sym, ap, ◌∙◌, subst}
use mathlib.Core.Logic.{inl, inr}
use mathlib.Core.Bool.{Bool, true, false}
use mathlib.Core.List.{List}
use Prim.Native.Nat.{ℕ, ◌+◌, ◌*◌, ◌/◌, ◌%◌, ◌≤◌, ◌<◌}
use native.Mathlib.Omega.{arith}
use lib.ListN.{length, get_or, drop, length-drop}
use lib.Seq.{ext_get_or}
use Rattle.refusal.specs.declared.Refusal.{Refusal}
use Rattle.sheet_words.specs.declared.Fault.{Fault}
use Rattle.ground.proofs.Bools.{lt_or_ge}
use Rattle.ground.proofs.Lists.{get_d_part}
use Rattle.formula.specs.Read.{Accepts}
use Rattle.std.proofs.Common.{Result, Ok, Err}
use Rattle.formula.proofs.Unique.{read_unique}
use Rattle.book_block.specs.Rule.{table_place}
use Rattle.book_block.specs.declared.rule.Right.{Right}
use Rattle.book_block.specs.declared.rule.Right.TheVariants.{Look, Set}
use Rattle.sheet_words.specs.Words.{split, newline}
use Rattle.sheet_words.specs.Steps.{Step, fault, next}
use Rattle.sheet_words.proofs.Split.{joined, joined_split}
use Rattle.sheet_words.proofs.Unique.{fault_one}
use Rattle.sheet_rules.specs.Rules.{Size, Rule, Rules, rule_text}
use Rattle.sheet_rules.specs.Desk.{slot_of, table_in, Filled, in_size, RulesOnDesk}
use Rattle.sheet_rules.specs.Turns.{rules_laid, Turns}
use Rattle.sheet_rules.specs.Reading.{Reading, refused, up_to}
use Rattle.sheet_rules.specs.Meaning.{Meaning, stated}
use Rattle.sheet_rules.specs.Meaning.{refused as whole-refused}
use Rattle.sheet_rules.specs.Reads.{ReadsUpto, ReadsRules}
use Rattle.sheet_rules.specs.declared.desk.RulesDesk.{RulesDesk}
use Rattle.sheet_rules.specs.declared.RulesRead.{RulesRead}

-- ---- tables

pub table-one : {n : ℕ} {F t u : List ℕ} → Accepts n F t → Accepts n F u → t ≡ u
table-one {n} {F} {t} {u} a b = let e = read_unique n F (Ok t) (Ok u) a b in cc

-- ---- the rules on the desk

filled-one : (inside : Bool) (n : ℕ) (F : List ℕ) {t u : List ℕ} → Filled inside n F t → Filled inside n F u → t ≡ u
filled-one true n F a b = table-one a b
filled-one false n F a b = a ∙ sym b

-- each slot is a right's
right-at : (s : ℕ) → s < 112 → (right : Right) × (i : ℕ) × (q : ℕ) × (i < 7) × (q < 8) × (slot_of right i q ≡ s)
unfolding slot_of table_place
right-at s h = elim (lt_or_ge (s % 2) 1) [
  | inl l ↦ (Look, s / 16, s % 16 / 2, omega arith, omega arith, omega arith)
  | inr l ↦ (Set, s / 16, s % 16 / 2, omega arith, omega arith, omega arith)
]

module _ (size : Size) (rules : List Rule) (a b : RulesDesk) (h : RulesOnDesk size rules a) (k : RulesOnDesk size rules b) where
  same-settings : b.settings ≡ a.settings
  same-settings = k.settings ∙ sym h.settings

  same-posts : b.posts ≡ a.posts
  same-posts = k.posts ∙ sym h.posts

  same_slot : (s : ℕ) → s < 112 → (get_or a.stated s 0 ≡ get_or b.stated s 0) × (table_in a.rights s ≡ table_in b.rights s)
  same_slot s l =
      let (right, i, q, x, y, e) = right-at s l in
      let other = subst (λ (n : ℕ). Filled (in_size n a.posts i q) n (rule_text rules right i q) (table_in b.rights (slot_of right i q))) same-settings
      (subst (λ (m : ℕ). Filled (in_size b.settings m i q) b.settings (rule_text rules right i q) (table_in b.rights (slot_of right i q))) same-posts (k.tables right i q x y)) in
      subst (λ (s : ℕ). (get_or a.stated s 0 ≡ get_or b.stated s 0) × (table_in a.rights s ≡ table_in b.rights s)) e
      (h.marks right i q x y ∙ sym (k.marks right i q x y), filled-one (in_size a.settings a.posts i q) a.settings (rule_text rules right i q) (h.tables right i q x y) other)

  same_rights : a.rights ≡ b.rights
  unfolding table_in
  same_rights = ext_get_or 0 a.rights b.rights (h.rights_size ∙ sym k.rights_size) (λ j l.
      let e : 16 * (j / 16) + j % 16 ≡ j = omega arith in
      ap (λ (x : ℕ). get_or a.rights x 0) (sym e)
      ∙ sym (get_d_part a.rights (16 * (j / 16)) 16 (j % 16) (omega arith))
      ∙ ap (λ (t : List ℕ). get_or t (j % 16) 0) (same_slot (j / 16) (omega (arith, h.rights_size))).1
      ∙ get_d_part b.rights (16 * (j / 16)) 16 (j % 16) (omega arith)
      ∙ ap (λ (x : ℕ). get_or b.rights x 0) e)

  same-marks : a.stated ≡ b.stated
  same-marks = ext_get_or 0 a.stated b.stated (h.stated_size ∙ sym k.stated_size) (λ s l. (same_slot s (omega (arith, h.stated_size))).0)

  pub rules-one : a ≡ b
  rules-one =
      let n : a.settings ≡ b.settings = sym same-settings in
      let m : a.posts ≡ b.posts = sym same-posts in
      let r : a.rights ≡ b.rights = same_rights in
      let s : a.stated ≡ b.stated = same-marks in
      let e : rules_laid a.settings a.posts a.rights a.stated ≡ rules_laid b.settings b.posts b.rights b.stated = cc in
      e

-- ---- what comes of a line

pub turn_one : (st : Step Rules) (x y : Result RulesDesk Refusal) → Turns st x → Turns st y → x ≡ y
turn_one (fault r) (Err why) (Err else) e f = ap Err (e ∙ sym f)
turn_one (next v) (Ok a) (Ok b) h k = ap Ok (rules-one v.size v.rules a b h k)
turn_one (fault r) (Ok a) y e f = elim e [ ]
turn_one (fault r) (Err why) (Ok b) e f = elim f [ ]
turn_one (next v) (Ok a) (Err else) h k = elim k [ ]
turn_one (next v) (Err why) y h k = elim h [ ]

-- ---- the byte where rules end

end_one : (s : List ℕ) (a b : ℕ) → a ≤ length s → b ≤ length s → split newline (drop a s) ≡ split newline (drop b s) → a ≡ b
end_one s a b h k e =
    let f : drop a s ≡ drop b s = sym (joined_split newline (drop a s)) ∙ ap (joined newline) e ∙ joined_split newline (drop b s) in
    omega (arith, ap length f, length-drop a s, length-drop b s)

-- ---- one result alone

-- `rules_of`
pub upto_one : (s : List ℕ) (o : Reading) (x y : Result RulesRead Fault) → ReadsUpto s o x → ReadsUpto s o y → x ≡ y
upto_one s (refused r line) (Err f) (Err g) h k = ap Err (fault_one h k)
upto_one s (up_to rules line pieces) (Ok a) (Ok b) (e, f, g, h) (i, j, l, k) =
    let at : a.at ≡ b.at = end_one s a.at b.at e i (f ∙ sym j) in
    let lines : a.lines ≡ b.lines = omega (arith, g, l) in
    let desk : a.desk ≡ b.desk = rules-one rules.size rules.rules a.desk b.desk h k in
    let z : ◌≡◌ {A = RulesRead} (record { desk = a.desk; at = a.at; lines = a.lines }) (record { desk = b.desk; at = b.at; lines = b.lines }) = cc in ap Ok z
upto_one s (refused r line) (Ok a) y h k = elim h [ ]
upto_one s (refused r line) (Err f) (Ok b) h k = elim k [ ]
upto_one s (up_to rules line pieces) (Ok a) (Err g) h k = elim k [ ]
upto_one s (up_to rules line pieces) (Err f) y h k = elim h [ ]

-- `read_rules`
pub rules-read-one : (o : Meaning) (x y : Result RulesDesk Fault) → ReadsRules o x → ReadsRules o y → x ≡ y
rules-read-one (whole-refused r line) (Err f) (Err g) h k = ap Err (fault_one h k)
rules-read-one (stated rules) (Ok a) (Ok b) h k = ap Ok (rules-one rules.size rules.rules a b h k)
rules-read-one (whole-refused r line) (Ok a) y h k = elim h [ ]
rules-read-one (whole-refused r line) (Err f) (Ok b) h k = elim k [ ]
rules-read-one (stated rules) (Ok a) (Err g) h k = elim k [ ]
rules-read-one (stated rules) (Err f) y h k = elim h [ ]

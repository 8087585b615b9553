-- What is promised of a book that is made of a text of rules, in one place: one result alone, the room included; 25 is never given; and the book reads
-- back as the rights of the rules.
use mathlib.Core.Path.{◌≡◌, refl, sym, ap, ◌∙◌, subst}
use mathlib.Core.Logic.{inl, inr}
use mathlib.Core.List.{List, ◌++◌}
use Prim.Native.Nat.{ℕ, ◌+◌, ◌-◌, ◌*◌, ◌/◌, ◌%◌, ◌≤◌, ◌<◌}
use native.Mathlib.Omega.{arith}
use lib.ListN.{length, get_or, take, drop}
use lib.Seq.{ext_get_or}
use Rattle.ground.proofs.Bools.{lt_or_ge}
use Rattle.ground.proofs.Lists.{get_d_part}
use Rattle.refusal.specs.declared.Refusal.{Refusal}
use Rattle.refusal.specs.Refusals.{number}
use Rattle.book_block.specs.Rule.{table_place, table}
use Rattle.book_block.specs.declared.rule.Right.{Right}
use Rattle.book_block.specs.declared.rule.Right.TheVariants.{Look, Set}
use Rattle.book_block.proofs.RuleLaws.{place-most}
use Rattle.book_sound.specs.Sound.{tables_of}
use Rattle.book.specs.Promise.{ReadsBook}
use Rattle.book.proofs.Theorems.{write_then_read}
use Rattle.std.proofs.Common.{Result, Ok, Err}
use Rattle.book_sound.specs.declared.Size.{Size}
use Rattle.sheet_words.specs.declared.Fault.{Fault}
use Rattle.sheet_words.proofs.Unique.{fault_one}
use Rattle.sheet_rules.specs.Rules.{Rules}
use Rattle.sheet_rules.specs.Meaning.{Meaning, refused, stated, rules_meaning}
use Rattle.sheet_rules.proofs.Bounds.{Fits}
use Rattle.sheet_rules.proofs.MeaningLaws.{MeaningGoes, meaning_goes, never-settings}
use Rattle.sheet_rules.proofs.Unique.{table-one}
use Rattle.sheet_book.specs.Book.{RulesRights, rules_book, book_length, MakesOf, MakesBook}
use Rattle.sheet_book.proofs.Rights.{rights_writable}

-- ---- the rights of rules: byte by byte, each is one of a table

table-byte : (rights : List ℕ) (right : Right) (i q o : ℕ) → q < 8 → o < 16 → get_or (table (tables_of rights i) q right) o 0 ≡ get_or rights (256 * i + (table_place q right + o)) 0
unfolding table tables_of
table-byte rights right i q o hq ho =
    get_d_part (tables_of rights i) (table_place q right) 16 o ho ∙ get_d_part rights (256 * i) 256 (table_place q right + o) (omega (arith, place-most q right hq))

byte-place : (j : ℕ) → (right : Right) × (q : ℕ) × (o : ℕ) × (q < 8) × (o < 16) × (256 * (j / 256) + (table_place q right + o) ≡ j)
unfolding table_place
byte-place j = elim (lt_or_ge (j % 32) 16) [
  | inl l ↦ (Look, j % 256 / 32, j % 32, omega arith, l, omega arith)
  | inr l ↦ (Set, j % 256 / 32, j % 32 - 16, omega arith, omega arith, omega arith)
]

pub rights_one : (rules : Rules) (x y : List ℕ) → RulesRights rules x → RulesRights rules y → x ≡ y
rights_one rules x y a b = ext_get_or 0 x y (a.size ∙ sym b.size) (λ j h. at j (omega (arith, a.size)))
  where
    same : (right : Right) (i q : ℕ) → i < rules.size.settings → q < 8 → table (tables_of x i) q right ≡ table (tables_of y i) q right
    same right i q hi hq = elim (lt_or_ge q rules.size.posts) [
      | inl l ↦ table-one (a.tables right i q hi l) (b.tables right i q hi l)
      | inr l ↦ a.nobody right i q hi l hq ∙ sym (b.nobody right i q hi l hq)
    ]

    at : (j : ℕ) → j < 256 * rules.size.settings → get_or x j 0 ≡ get_or y j 0
    at j h =
        let p = byte-place j in
        let e : 256 * (j / 256) + (table_place p.1 p.0 + p.2) ≡ j = p.5 in
        ap (λ (k : ℕ). get_or x k 0) (sym e)
        ∙ sym (table-byte x p.0 (j / 256) p.1 p.2 p.3 p.4)
        ∙ ap (λ (t : List ℕ). get_or t p.2 0) (same p.0 (j / 256) p.1 (omega arith) p.3)
        ∙ table-byte y p.0 (j / 256) p.1 p.2 p.3 p.4
        ∙ ap (λ (k : ℕ). get_or y k 0) e

-- ---- one result alone

makes_of_one : (rules : Rules) (room : List ℕ) (a b : Result ℕ Fault) (x y : List ℕ) → MakesOf rules room a x → MakesOf rules room b y → (a ≡ b) × (x ≡ y)
makes_of_one rules room (Ok n) (Ok m) x y (e, f, (r, h, s)) (i, j, (t, k, u)) =
    (ap Ok (e ∙ sym i), s ∙ ap (λ (rights : List ℕ). rules_book rules rights ++ drop (book_length rules) room) (rights_one rules r t h k) ∙ sym u)
makes_of_one rules room (Ok n) (Err z) x y (e, f, g) (i, j, short, l) = absurd (omega arith)
makes_of_one rules room (Err z) (Ok n) x y (e, f, short, h) (i, j, k) = absurd (omega arith)
makes_of_one rules room (Err z) (Err w) x y (e, f, g, h) (i, j, k, l) = (ap Err (fault_one (e, f) (i, j)), h ∙ sym l)

pub makes_one : (o : Meaning) (room : List ℕ) (a b : Result ℕ Fault) (x y : List ℕ) → MakesBook o room a x → MakesBook o room b y → (a ≡ b) × (x ≡ y)
makes_one (refused r at) room (Err z) (Err w) x y (e, f, g) (h, i, j) = (ap Err (fault_one (e, f) (h, i)), g ∙ sym j)
makes_one (stated rules) room a b x y h k = makes_of_one rules room a b x y h k
makes_one (refused r at) room (Ok _) b x y h k = elim h [ ]
makes_one (refused r at) room (Err z) (Ok _) x y h k = elim k [ ]

-- ---- 25 is never given: not by the lines, and the room's refusal is 15

pub never_25 : (s room : List ℕ) (f : Fault) (after : List ℕ) → MakesBook (rules_meaning s) room (Err f) after → number f.why ≡ 25 → ⊥
never_25 s room f after h = by (rules_meaning s) (λ r at e. never-settings s e) h
  where
    by : (o : Meaning) → ((r : Refusal) (at : ℕ) → o ≡ refused r at → number r ≡ 25 → ⊥) → MakesBook o room (Err f) after → number f.why ≡ 25 → ⊥
    by (refused r at) k (e, g, l) n = k r at refl (sym (ap number e) ∙ n)
    by (stated rules) k (e, g, l, m) n = omega (arith, ap number e, n)

-- ---- the book reads back

pub made_reads : (s room : List ℕ) (rules : Rules) (size : ℕ) (after out : List ℕ) (answer : Result Size Refusal) (out' : List ℕ) → rules_meaning s ≡ stated rules
    → MakesBook (rules_meaning s) room (Ok size) after → ReadsBook (take size after) out answer out' → 256 * rules.size.settings ≤ length out
    → (answer ≡ Ok (record { settings = rules.size.settings; posts = rules.size.posts }))
    × ((rights : List ℕ) × RulesRights rules rights × (out' ≡ rights ++ drop (256 * rules.size.settings) out))
made_reads s room rules size after out answer out' e h read enough =
    let m : MakesOf rules room (Ok size) after = subst (λ (o : Meaning). MakesBook o room (Ok size) after) e h in
    let f : Fits 7 rules.size = subst MeaningGoes e (meaning_goes s) in
    let rights = m.2.0 in
    let z = write_then_read rules.size.settings rules.size.posts rights room after out answer out' (rights_writable f m.2.1, m.1, m.2.2)
    (subst (λ (k : ℕ). ReadsBook (take k after) out answer out') m.0 read) enough in
    (z.0, (rights, m.2.1, z.1))

-- a book that is made fits its room
pub made-fits : (o : Meaning) (room : List ℕ) (size : ℕ) (after : List ℕ) → MakesBook o room (Ok size) after → size ≤ length room
made-fits (refused r at) room size after m = absurd m
made-fits (stated rules) room size after m = omega (arith, m.0, m.1)

-- the line of a refusal is small: "rules and question texts have at most 65,536 bytes"
line-within : (o : Meaning) (room : List ℕ) (f : Fault) (after : List ℕ) → MeaningGoes o → MakesBook o room (Err f) after → f.line ≤ 65538
line-within (refused r at) room f after goes m = omega (arith, m.1, goes.0)
line-within (stated rules) room f after goes m = omega (arith, m.1)

pub line-most : (s room : List ℕ) (f : Fault) (after : List ℕ) → MakesBook (rules_meaning s) room (Err f) after → f.line ≤ 65538
line-most s room f after m = line-within (rules_meaning s) room f after (meaning_goes s) m

-- and so is a book's length
length-within : (o : Meaning) (room : List ℕ) (size : ℕ) (after : List ℕ) → MeaningGoes o → MakesBook o room (Ok size) after → size ≤ 4096
length-within (refused r at) room size after goes m = absurd m
length-within (stated rules) room size after goes m = omega (arith, m.0, goes.settings_most)

pub length_most : (s room : List ℕ) (size : ℕ) (after : List ℕ) → MakesBook (rules_meaning s) room (Ok size) after → size ≤ 4096
length_most s room size after m = length-within (rules_meaning s) room size after (meaning_goes s) m

-- Each way out of the functions: what the writer of books answers is what is made, since rights that may be written are refused for the room alone.
use mathlib.Core.Path.{◌≡◌, refl, sym, ap, subst}
use mathlib.Core.Logic.{inl, inr}
use mathlib.Core.List.{List}
use Prim.Native.Nat.{ℕ, ◌+◌, ◌-◌, ◌*◌, ◌<◌}
use lib.ListN.{length}
use Rattle.std.proofs.Common.{Result, Ok, Err}
use Rattle.sheet_words.specs.declared.Fault.{Fault}
use Rattle.ground.proofs.Bools.{lt_or_ge}
use Rattle.refusal.specs.declared.Refusal.{Refusal}
use Rattle.refusal.specs.declared.Refusal.TheVariants.{Room}
use Rattle.refusal.specs.Order.{First}
use Rattle.refusal.proofs.OrderLaws.{first_past, first-later-lowest, first-when, first_unique, first-clear}
use Rattle.book_block.specs.Kinds.{Tables}
use Rattle.book_sound.specs.Sound.{tables_of}
use Rattle.book_sound.proofs.BlockRows.{none-block, down}
use Rattle.book.specs.Written.{Writable}
use Rattle.book.specs.Rows.{write_rows}
use Rattle.book.specs.Promise.{WritesBook}
use Rattle.book.proofs.RoomLaws.{writable_clear}
use Rattle.sheet_rules.specs.Rules.{Rules}
use Rattle.sheet_rules.specs.Desk.{OnDesk}
use Rattle.sheet_rules.specs.Meaning.{Meaning, refused, stated}
use Rattle.sheet_rules.specs.Reads.{ReadsRules}
use Rattle.sheet_rules.specs.declared.desk.RulesDesk.{RulesDesk}
use Rattle.sheet_book.specs.Book.{book_length, MakesOf, MakesBook}
use Rattle.sheet_book.proofs.Rights.{rights_in, desk_rights, desk_fits, rights_writable}

-- rights that may be written, and a room that is too short for their book
short-room : {n m : ℕ} {rights : List ℕ} (room : List ℕ) → Writable n m rights → length room < 512 * (1 + n) → First (write_rows n m rights room) Room
unfolding write_rows
short-room {n} {m} {rights} room w h =
    first_past w.settings
    (first_past w.posts
    (first_past w.size
    (first-later-lowest
    (none-block (λ k. Tables n m (tables_of rights (k - 1))) (λ i l. subst (λ x. Tables n m (tables_of rights x)) (sym (down i)) (w.tables i l)))
    (first-when h))))

module _ {rules : Rules} {d : RulesDesk} (h : OnDesk rules d) (room after : List ℕ) where
  -- the writer is asked for the rules' size
  asked : (a : Result (Unit {0}) Refusal) → WritesBook d.settings d.posts (rights_in d) room a after → WritesBook rules.size.settings rules.size.posts (rights_in d) room a after
  asked a w =
      subst (λ (m : ℕ). WritesBook rules.size.settings m (rights_in d) room a after) h.posts
      (subst (λ (n : ℕ). WritesBook n d.posts (rights_in d) room a after) h.settings w)

  pub book_made : WritesBook d.settings d.posts (rights_in d) room (Ok tt) after → MakesOf rules room (Ok (512 * (1 + d.settings))) after
  book_made w = let z = asked (Ok tt) w in (ap (λ (n : ℕ). 512 * (1 + n)) h.settings, z.1, (rights_in d, desk_rights h, z.2))

  -- where the writer refuses, the room is too short: if it were not, the book would be written
  pub book_refused : (why : Refusal) → WritesBook d.settings d.posts (rights_in d) room (Err why) after → MakesOf rules room (Err (record { why = why; line = 0 })) after
  book_refused why w =
      let z = asked (Err why) w in
      let may = rights_writable (desk_fits h) (desk_rights h) in
      elim (lt_or_ge (length room) (book_length rules)) [
        | inl short ↦ (first_unique z.0 (short-room room may short), refl, short, z.1)
        | inr long ↦ first-clear z.0 (writable_clear room may long)
      ]

-- ---- what the text means, and what is made

module _ (room : List ℕ) where
  pub not-stated : (o : Meaning) (f : Fault) → ReadsRules o (Err f) → MakesBook o room (Err f) room
  not-stated (refused r at) f (e, g) = (e, g, refl)
  not-stated (stated rules) f k = absurd k

  pub all-stated : (o : Meaning) (d : RulesDesk) → ReadsRules o (Ok d) → (rules : Rules) × OnDesk rules d × (o ≡ stated rules)
  all-stated (refused r at) d k = absurd k
  all-stated (stated rules) d k = (rules, k, refl)

  pub made_of : (o : Meaning) (d : RulesDesk) (answer : Result ℕ Fault) (after : List ℕ) → ReadsRules o (Ok d)
      → ((rules : Rules) → OnDesk rules d → MakesOf rules room answer after) → MakesBook o room answer after
  made_of o d answer after h f =
      let z = all-stated o d h in
      subst (λ (o : Meaning). MakesBook o room answer after) (sym z.2) (f z.0 z.1)

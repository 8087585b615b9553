-- The refusals of `find_two` in their order: those of both legs come first, then 13 for the first short table; and a valid question with room for
-- both leaves none.
use mathlib.Core.Path.{◌≡◌, sym, subst}
use mathlib.Core.List.{List}
use Prim.Native.Nat.{ℕ, ◌^◌, ◌≤◌, ◌<◌}
use native.Mathlib.Omega.{arith}
use lib.ListN.{length}
use Rattle.refusal.specs.declared.Refusal.{Refusal}
use Rattle.refusal.specs.declared.Refusal.TheVariants.{RankRoom}
use Rattle.refusal.specs.Order.{First, Clear}
use Rattle.refusal.proofs.OrderLaws.{first-left, first-right, first-when, first-later-when, clear-append, clear-when, clear_none}
use Rattle.book_sound.specs.Rows.{settings_of}
use Rattle.book_sound.proofs.SoundLaws.{sound-settings}
use Rattle.knowledge.specs.Goal.{Goal}
use Rattle.question.specs.Legs.{ValidLegs, leg_rows}
use Rattle.question.specs.declared.Question.{Question}
use Rattle.question.proofs.LegLaws.{legs_clear}
use Rattle.finder.specs.FindsTwo.{Rooms, room_rows, find_two_rows, RoomForTwo}

module _ (book : List ℕ) (q : Question) (goal : Goal) (team2 : ℕ) (goal2 : Goal) (old : Rooms) where
  pub leg_row : {r : Refusal} → First (leg_rows book q goal team2 goal2) r → First (find_two_rows book q goal team2 goal2 old) r
  unfolding find_two_rows
  leg_row f = first-left (room_rows book old) f

  module _ {n m : ℕ} (v : ValidLegs book q goal team2 goal2 n m) where
    size_is : settings_of book ≡ n
    size_is = sound-settings v.first.sound

    pub short-first : length old.ranks < 7 ^ n → First (find_two_rows book q goal team2 goal2 old) (RankRoom 1)
    unfolding find_two_rows
    short-first l =
        first-right (legs_clear book q goal team2 goal2 v) (first-when (subst (λ (n : ℕ). length old.ranks < 7 ^ n) (sym size_is) l))

    long-first : 7 ^ n ≤ length old.ranks → length old.ranks < 7 ^ settings_of book → ⊥
    long-first h l = omega (arith, h, subst (λ (x : ℕ). length old.ranks < 7 ^ x) size_is l)

    pub short-second : 7 ^ n ≤ length old.ranks → length old.ranks2 < 7 ^ n → First (find_two_rows book q goal team2 goal2 old) (RankRoom 2)
    unfolding find_two_rows
    short-second h l =
        first-right (legs_clear book q goal team2 goal2 v)
        (first-later-when (long-first h) (first-when (subst (λ (n : ℕ). length old.ranks2 < 7 ^ n) (sym size_is) l)))

    pub two-clear : RoomForTwo n old → Clear (find_two_rows book q goal team2 goal2 old)
    unfolding find_two_rows
    two-clear room =
        clear-append (legs_clear book q goal team2 goal2 v)
        (clear-when (long-first room.first_room)
        (clear-when (λ l. omega (arith, room.second_room, subst (λ (x : ℕ). length old.ranks2 < 7 ^ x) size_is l)) clear_none))

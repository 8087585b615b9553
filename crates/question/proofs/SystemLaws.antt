-- A question's system is the one that its rules alone fix, without the sets that change nothing; and it is lawful: an act of this book and team has a
-- setting below n and a post with a bit in the team's byte, and a look is permitted at the digit 0 alone. And its start is one of the 7^n knowledge
-- numbers: a setting that is not known has the digit 0.
use mathlib.Core.Path.{◌≡◌, refl, sym, subst}
use mathlib.Core.Logic.{inl, inr, ◌↔◌}
use mathlib.Core.List.{List}
use mathlib.Core.Bool.{not, ◌&&◌}
use Prim.Native.Nat.{ℕ, ◌^◌, ◌≤◌, ◌<◌}
use native.Mathlib.Omega.{arith}
use lib.Dec.{T, eqb, ltb, eqb→eq, ltb→lt, lit<}
use lib.Pow.{pow_mono}
use Rattle.ground.specs.Digits.{digit, bit}
use Rattle.ground.proofs.Bools.{and_left, and_right, decide, T→false}
use Rattle.ground.proofs.Bits.{below_power}
use Rattle.book_block.specs.Rule.{rule}
use Rattle.book_block.specs.declared.rule.Right.TheVariants.{Look as look-rule}
use Rattle.knowledge_acts.specs.Seven.{first_digit}
use Rattle.knowledge_acts.specs.Acts.{setting_of, post_of, offered}
use Rattle.knowledge_acts.specs.declared.act.Act.{Act}
use Rattle.knowledge_acts.specs.declared.act.Act.TheVariants.{Look}
use Rattle.knowledge_acts.proofs.Seven.{first_lt}
use Rattle.knowledge.specs.Number.{first_at}
use Rattle.knowledge.specs.Goal.{Goal}
use Rattle.knowledge.proofs.Number.{sum_lt, sum-short}
use Rattle.knowledge.specs.Judgement.{known}
use Rattle.plan.specs.Plans.{System, given, may, Lawful}
use Rattle.plan.specs.Without.{changes_nothing, without}
use Rattle.plan.proofs.Unchanged.{may_exactly, without_lawful}
use Rattle.question.specs.Permitted.{ruled, permitted}
use Rattle.question.specs.Question.{system_of, ruled_system, start_of}
use Rattle.question.specs.Rows.{TeamFits, KnownFits}
use Rattle.question.specs.Asks.{ValidQuestion}
use Rattle.question.specs.declared.Question.{Question}
use Rattle.question.proofs.PermitLaws.{look_given}
use Rattle.question.proofs.QuestionLaws.{low_bits, bits-low}

-- ---- the system

module _ (n : ℕ) (book : List ℕ) (q : Question) (goal : Goal) where
  pub system-without : system_of n book q goal ≡ without (ruled_system n book q goal)
  unfolding system_of ruled_system permitted
  system-without = refl

  -- so that what holds without such sets holds of the question's system
  pub from_ruled : (P : System → Type 0) → P (without (ruled_system n book q goal)) → P (system_of n book q goal)
  from_ruled P h = subst P (sym system-without) h

  -- an act may be done where the rules and the held settings permit it and it changes something
  pub may-ruled : (k : ℕ) (a : Act) → T (may (system_of n book q goal) k a) ↔ (T (may (ruled_system n book q goal) k a) × T (not (changes_nothing (digit 7 k) a)))
  may-ruled k a =
      from_ruled (λ (S : System). T (may S k a) ↔ (T (may (ruled_system n book q goal) k a) × T (not (changes_nothing (digit 7 k) a))))
      (may_exactly (ruled_system n book q goal) k a)

module _ (n : ℕ) (book : List ℕ) (q : Question) (goal : Goal) (byte : q.team < 256) where
  offer : (k : ℕ) (a : Act) → T (may (ruled_system n book q goal) k a) → T (ltb (setting_of a) n && bit q.team (post_of a))
  unfolding offered ruled_system
  offer k a m = and_left (offered n q.team a) (given (ruled n book q.held (digit 7 k) a)) m

  digit-nought : (k i p : ℕ) → T (may (ruled_system n book q goal) k (Look i p)) → digit 7 k i ≡ 0
  unfolding ruled_system
  digit-nought k i p m =
      let h = and_right (offered n q.team (Look i p)) (given (ruled n book q.held (digit 7 k) (Look i p))) m in
      eqb→eq (digit 7 k i) 0
      (and_right (known n (digit 7 k) (rule book i p look-rule)) (eqb (digit 7 k i) 0) (rw (look_given n book q.held (digit 7 k) i p) at h))

  -- whatever the team's byte is
  team-ruled : Lawful n (ruled_system n book q goal)
  team-ruled = record {
    setting_of_case = λ k a m. ltb→lt (setting_of a) n (and_left (ltb (setting_of a) n) (bit q.team (post_of a)) (offer k a m));
    post_of_case = λ k a m. bits-low 8 q.team byte (post_of a) (and_right (ltb (setting_of a) n) (bit q.team (post_of a)) (offer k a m));
    looks_at = digit-nought;
  }

  pub team_lawful : Lawful n (system_of n book q goal)
  team_lawful = from_ruled n book q goal (Lawful n) (without_lawful (ruled_system n book q goal) team-ruled)

-- a team of the book's posts is a byte
team-byte : {m team : ℕ} → m ≤ 8 → TeamFits m team → team < 256
team-byte {m} {team} h t = omega (arith, low_bits team m team (below_power team) t.posts, pow_mono {i = m} {j = 8} h)

-- ---- the start

pub start_below : (n : ℕ) (q : Question) → n ≤ 7 → KnownFits n q.known q.values → start_of q < 7 ^ n
unfolding start_of first_at first_digit
start_below n q few fits =
    subst (λ (x : ℕ). x < 7 ^ n) (sym (sum-short 7 (first_at q.known q.values) 7 n few past))
    (sum_lt (lit< tt) (first_at q.known q.values) n (λ i h. first_lt (bit q.known i) (bit q.values i)))
  where
    past : (i : ℕ) → n ≤ i → i < 7 → first_at q.known q.values i ≡ 0
    past i l h = elim (decide (bit q.known i)) [
      | inl t ↦ absurd (omega (arith, fits.settings i t))
      | inr t ↦ rw (T→false (bit q.known i) t) refl
    ]

-- whatever the team knows
pub start_small : (q : Question) → start_of q < 7 ^ 7
unfolding start_of first_at
start_small q = sum_lt (lit< tt) (first_at q.known q.values) 7 (λ i l. first_lt (bit q.known i) (bit q.values i))

-- ---- a valid question

module _ {book : List ℕ} {q : Question} {goal : Goal} {n m : ℕ} (v : ValidQuestion book q goal n m) where
  pub few : n ≤ 7
  few = v.sound.settings.most

  pub ruled_lawful : Lawful n (ruled_system n book q goal)
  ruled_lawful = team-ruled n book q goal (team-byte v.sound.posts.most v.team)

  pub lawful : Lawful n (system_of n book q goal)
  lawful = team_lawful n book q goal (team-byte v.sound.posts.most v.team)

  pub valid_start : start_of q < 7 ^ n
  valid_start = start_below n q few v.known

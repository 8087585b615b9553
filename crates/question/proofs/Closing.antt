-- A book with some rules closed, against one that has the others as they are: it permits no more. A closed rule is known to hold nowhere, since some
-- valuation fits whatever is known.
use mathlib.Core.Path.{◌≡◌, subst}
use mathlib.Core.Logic.{◌⊎◌, inl, inr}
use mathlib.Core.Bool.{not, ◌&&◌}
use mathlib.Core.List.{List}
use Prim.Native.Nat.{ℕ, ◌<◌}
use lib.Dec.{T, eqb, ltb, ltb→lt}
use lib.ListN.{replicate}
use Rattle.ground.specs.Digits.{digit, bit}
use Rattle.ground.proofs.Table.{zero_truth}
use Rattle.ground.proofs.Bools.{and_in, and_left, and_right}
use Rattle.book_block.specs.Rule.{rule}
use Rattle.book_block.specs.declared.rule.Right.{Right}
use Rattle.book_block.specs.declared.rule.Right.TheVariants.{Look as look-rule, Set as set-rule}
use Rattle.knowledge_acts.specs.Acts.{setting_of, post_of, offered}
use Rattle.knowledge_acts.specs.declared.act.Act.{Act}
use Rattle.knowledge_acts.specs.declared.act.Act.TheVariants.{Set, Look}
use Rattle.knowledge.specs.Fits.{now_side, fits_now}
use Rattle.knowledge.specs.Goal.{Goal}
use Rattle.knowledge.specs.Judgement.{known}
use Rattle.knowledge.proofs.JudgementLaws.{some_fits, now_is}
use Rattle.knowledge.proofs.Known.{known_at}
use Rattle.plan.specs.Plans.{System, given}
use Rattle.plan.specs.Without.{without}
use Rattle.plan.proofs.Compare.{PermitsMore}
use Rattle.plan.proofs.Unchanged.{without_more}
use Rattle.question.specs.Permitted.{ruled}
use Rattle.question.specs.Question.{system_of, ruled_system}
use Rattle.question.specs.Rows.{TeamFits}
use Rattle.question.specs.declared.Question.{Question}
use Rattle.question.proofs.PermitLaws.{set_given, look_given}
use Rattle.question.proofs.SystemLaws.{from_ruled}

-- ---- a closed rule: its 16 bytes are zero

-- it is false at every valuation, and so it is known to hold nowhere
pub closed_unknown : (n : ℕ) (d : ℕ → ℕ) → T (known n d (replicate 16 0)) → ⊥
unfolding fits_now
closed_unknown n d h =
    let (v, l, f) = some_fits n (now_side d) (now_is n d) in
    subst T (zero_truth v) (known_at n d (replicate 16 0) h v l f)

-- ---- a book that has, of n settings and m posts, each rule as the other book has it, or closed

pub record ClosesRules (n m : ℕ) (book other : List ℕ) : Type 0 where
  pub same_or_closed : (i q : ℕ) (right : Right) → i < n → q < m → (rule book i q right ≡ rule other i q right) ⊎ (rule book i q right ≡ replicate 16 0)

module _ {n m : ℕ} {book other : List ℕ} (closes : ClosesRules n m book other) where
  known-other : (d : ℕ → ℕ) (i q : ℕ) (right : Right) → i < n → q < m → T (known n d (rule book i q right)) → T (known n d (rule other i q right))
  known-other d i q right hi hq t = elim (closes.same_or_closed i q right hi hq) [
    | inl e ↦ subst (λ (r : List ℕ). T (known n d r)) e t
    | inr e ↦ absurd (closed_unknown n d (subst (λ (r : List ℕ). T (known n d r)) e t))
  ]

  given-other : (held : ℕ) (d : ℕ → ℕ) (a : Act) → setting_of a < n → post_of a < m → T (given (ruled n book held d a)) → T (given (ruled n other held d a))
  given-other held d (Set i q b) hi hq t =
      let h = rw (set_given n book held d i q b) at t in
      rw (set_given n other held d i q b)
      (and_in (known n d (rule other i q set-rule)) (not (bit held i))
      (known-other d i q set-rule hi hq (and_left (known n d (rule book i q set-rule)) (not (bit held i)) h))
      (and_right (known n d (rule book i q set-rule)) (not (bit held i)) h))
  given-other held d (Look i q) hi hq t =
      let h = rw (look_given n book held d i q) at t in
      rw (look_given n other held d i q)
      (and_in (known n d (rule other i q look-rule)) (eqb (d i) 0)
      (known-other d i q look-rule hi hq (and_left (known n d (rule book i q look-rule)) (eqb (d i) 0) h))
      (and_right (known n d (rule book i q look-rule)) (eqb (d i) 0) h))

  closing_ruled : (q : Question) (goal : Goal) → TeamFits m q.team → PermitsMore (ruled_system n book q goal) (ruled_system n other q goal)
  unfolding ruled_system offered
  closing_ruled q goal team = record {
    acts = λ k a t.
        let offer : T (ltb (setting_of a) n && bit q.team (post_of a)) = and_left (offered n q.team a) (given (ruled n book q.held (digit 7 k) a)) t in
        and_in (offered n q.team a) (given (ruled n other q.held (digit 7 k) a)) offer
        (given-other q.held (digit 7 k) a
        (ltb→lt (setting_of a) n (and_left (ltb (setting_of a) n) (bit q.team (post_of a)) offer))
        (team.posts (post_of a) (and_right (ltb (setting_of a) n) (bit q.team (post_of a)) offer))
        (and_right (offered n q.team a) (given (ruled n book q.held (digit 7 k) a)) t));
    goals = λ k g. g;
  }

  -- closing never opens: the other book permits whatever this one does, to any team of its posts
  pub closing_permits : (q : Question) (goal : Goal) → TeamFits m q.team → PermitsMore (system_of n book q goal) (system_of n other q goal)
  closing_permits q goal team =
      from_ruled n book q goal (λ (S : System). PermitsMore S (system_of n other q goal))
      (from_ruled n other q goal (PermitsMore (without (ruled_system n book q goal))) (without_more (closing_ruled q goal team)))

-- The finder's tables tell the system of the question's rules: a bit of the two tables is a post that may act, the two halves of the goal tell where it
-- is settled, and what `fill_ranks` or `fill_first` leaves is a certified table, so its bytes are the ranks.
use mathlib.Core.Path.{◌≡◌, sym, ap, ap₂, ◌∙◌, subst}
use mathlib.Core.Logic.{inl, inr}
use mathlib.Core.List.{List}
use mathlib.Core.Bool.{Bool, true, false, not, ◌&&◌, cond}
use Prim.Native.Nat.{ℕ, zero, suc, min, ◌^◌, ◌≤◌, ◌<◌}
use native.Mathlib.Nat.{min-eq_left}
use native.Mathlib.Omega.{arith}
use lib.Dec.{T, T_not, eqb}
use lib.ListN.{length, get_or}
use borrow.Author.Tests.{lt-ltb, eq-eqb, ne_eqb}
use Rattle.ground.specs.Digits.{digit, bit}
use Rattle.ground.proofs.Bools.{T→false, false→T, both, and_true, and_false, T_iff, eq→eqb}
use Rattle.ground.proofs.Search.{all_or, all-at}
use Rattle.ground.proofs.Bits.{bit_of_zero}
use Rattle.knowledge_acts.specs.Acts.{offered}
use Rattle.knowledge_acts.specs.declared.act.Act.{Act}
use Rattle.knowledge_acts.specs.declared.act.Act.TheVariants.{Set, Look}
use Rattle.knowledge.specs.Judgement.{known}
use Rattle.knowledge.specs.Goal.{Goal, goal_settled}
use Rattle.book_block.specs.Rule.{rule}
use Rattle.book_block.specs.declared.rule.Right.TheVariants.{Look as look-rule, Set as set-rule}
use Rattle.plan.specs.Plans.{System, may, Lawful, after_set_case, after_look}
use Rattle.plan.specs.Ranks.{IsRank}
use Rattle.plan.specs.Legs.{can_from, with_goal, first_leg}
use Rattle.plan.specs.Certificate.{Leads, Certified}
use Rattle.plan.proofs.Acts.{after_a_set, after_a_look}
use Rattle.plan.proofs.Certificate.{certified, numbers_closed}
use Rattle.plan.proofs.Ranks.{rank-small}
use Rattle.plan.proofs.Legs.{lawful_goal, rank-can}
use Rattle.finder_sides.specs.Sides.{now_side_number}
use Rattle.finder_sides.specs.Tables.{entry, acting_on, PostTables, Made, Learnt, goal_at}
use Rattle.finder_sides.proofs.Tables.{post-known, goal-at}
use Rattle.finder_ranks.specs.Ranks.{rank, May, HasLower, by_set, by_look}
use Rattle.finder_ranks.specs.Fills.{RanksFit, RankTable, FillsRanks, FillsFirst, goal_then}
use Rattle.question.specs.Question.{ruled_system}
use Rattle.question.specs.Asks.{ValidQuestion}
use Rattle.question.specs.declared.Question.{Question}
use Rattle.question.proofs.PermitLaws.{set_given, look_given}
use Rattle.question.proofs.SystemLaws.{few, ruled_lawful}
use Rattle.finder.specs.Finds.{RanksFilled}
use Rattle.finder.specs.Tables.{TablesTell}
use Rattle.finder.proofs.StepLaws.{some-bit}

-- ---- masks

mask_some : (x q : ℕ) → T (bit x q) → 0 < x
mask_some zero q t = both (bit 0 q) t (false→T (bit_of_zero q))
mask_some (suc x) q t = omega arith

mask_post : (x : ℕ) → x < 256 → 0 < x → (q : ℕ) × (q < 8) × T (bit x q)
mask_post x h l = elim (all_or 8 (λ q. not (bit x q))) [
  | inl none ↦ absurd (some-bit x h (λ e. omega arith) (λ q m. T→false (bit x q) (all-at 8 (λ q. not (bit x q)) none q m)))
  | inr w ↦ (w.0, w.1, not-not (bit x w.0) w.2)
]
  where
    not-not : (b : Bool) → T (not (not b)) → T b
    not-not true h = tt
    not-not false h = h

-- ---- who may act on a setting: nobody sets a held one, and all of the team look at any

acting_when : (held known : Bool) (team p : ℕ) → (bit team p && (known && not held)) ≡ (bit (cond held 0 team) p && known)
acting_when true known team p =
    ap (λ (x : Bool). bit team p && x) (and_false known) ∙ and_false (bit team p) ∙ sym (ap (λ (x : Bool). x && known) (bit_of_zero p))
acting_when false known team p = ap (λ (x : Bool). bit team p && x) (and_true known)

acting_set : (team held i p : ℕ) (known : Bool) → (bit team p && (known && not (bit held i))) ≡ (bit (acting_on team held i) p && known)
unfolding acting_on
acting_set team held i p known = acting_when (bit held i) known team p

acting_look : (team i p : ℕ) (known : Bool) → (bit team p && (known && true)) ≡ (bit (acting_on team 0 i) p && known)
unfolding acting_on
acting_look team i p known = rw (bit_of_zero i) (acting_when false known team p)

-- ---- the tables of a valid question

module _ {book : List ℕ} {q : Question} {goal : Goal} {n m : ℕ} (v : ValidQuestion book q goal n m) {made learnt : List ℕ} {set look : List (List ℕ)}
    (hs' : PostTables (min n 7) book (acting_on q.team q.held) set-rule set) (hk' : PostTables (min n 7) book (acting_on q.team 0) look-rule look)
    (hm' : Made (min n 7) goal.make made) (hl' : Learnt (min n 7) goal.learn learnt) where
  -- all its settings count
  counts : min n 7 ≡ n
  counts = min-eq_left (few v)

  hs : PostTables n book (acting_on q.team q.held) set-rule set
  hs = subst (λ (x : ℕ). PostTables x book (acting_on q.team q.held) set-rule set) counts hs'

  hk : PostTables n book (acting_on q.team 0) look-rule look
  hk = subst (λ (x : ℕ). PostTables x book (acting_on q.team 0) look-rule look) counts hk'

  law : Lawful n (ruled_system n book q goal)
  law = ruled_lawful v

  goal-is : (k : ℕ) → goal_at n made learnt k ≡ (ruled_system n book q goal).goal k
  unfolding ruled_system goal_settled
  goal-is k =
      goal-at goal.make goal.learn (subst (λ (x : ℕ). Made x goal.make made) counts hm')
      (subst (λ (x : ℕ). Learnt x goal.learn learnt) counts hl') k

  set-may : (k i p : ℕ) (b : Bool) → i < n → p < 8 → may (ruled_system n book q goal) k (Set i p b) ≡ bit (entry set i (now_side_number n k)) p
  unfolding ruled_system offered
  set-may k i p b h l =
      rw (lt-ltb i n h, set_given n book q.held (digit 7 k) i p b)
      (acting_set q.team q.held i p (known n (digit 7 k) (rule book i p set-rule)) ∙ sym (post-known hs k i p h l))

  look_may : (k i p : ℕ) → i < n → p < 8 → digit 7 k i ≡ 0 → may (ruled_system n book q goal) k (Look i p) ≡ bit (entry look i (now_side_number n k)) p
  unfolding ruled_system offered
  look_may k i p h l z =
      rw (lt-ltb i n h, look_given n book q.held (digit 7 k) i p, eq-eqb (digit 7 k i) 0 z)
      (acting_look q.team i p (known n (digit 7 k) (rule book i p look-rule)) ∙ sym (post-known hk k i p h l))

  set_in : (k i p : ℕ) (b : Bool) → T (may (ruled_system n book q goal) k (Set i p b)) → May set n k i
  set_in k i p b t =
      mask_some (entry set i (now_side_number n k)) p (subst T (set-may k i p b (law.setting_of_case k (Set i p b) t) (law.post_of_case k (Set i p b) t)) t)

  look_in : (k i p : ℕ) → T (may (ruled_system n book q goal) k (Look i p)) → May look n k i
  look_in k i p t =
      mask_some (entry look i (now_side_number n k)) p
      (subst T (look_may k i p (law.setting_of_case k (Look i p) t) (law.post_of_case k (Look i p) t) (law.looks_at k i p t)) t)

  -- whatever the goal is, as long as the table of ranks was filled by it
  module _ {settled wanted : ℕ → Bool} (same : (k : ℕ) → k < 7 ^ n → settled k ≡ wanted k) {old ranks : List ℕ}
      (table : RankTable n settled set look old ranks) where
    abbrev S : System
    S = with_goal (ruled_system n book q goal) wanted

    S_law : Lawful n S
    S_law = lawful_goal wanted law

    act_of : (k h : ℕ) → HasLower n set look ranks k h → (a : Act) × Leads S (rank ranks) k h a
    act_of k h (by_set i b l m r) =
        let p = mask_post (entry set i (now_side_number n k)) (hs.bytes i (now_side_number n k)) m in (
          Set i p.0 b,
          record { allowed = subst T (sym (set-may k i p.0 b l p.1)) p.2; lower = λ x. after_a_set (λ x. rank ranks x < h) r },
        )
    act_of k h (by_look i l m z r s) =
        let p = mask_post (entry look i (now_side_number n k)) (hk.bytes i (now_side_number n k)) m in (
          Look i p.0,
          record { allowed = subst T (sym (look_may k i p.0 l p.1 z)) p.2; lower = λ x. after_a_look (λ x. rank ranks x < h) r s },
        )

    lowers_of : (k h : ℕ) (a : Act) → Leads S (rank ranks) k h a → HasLower n set look ranks k h
    lowers_of k h (Set i p b) l =
        by_set i b (law.setting_of_case k (Set i p b) l.allowed) (set_in k i p b l.allowed) (l.lower _ (after_set_case i p b))
    lowers_of k h (Look i p) l =
        by_look i (law.setting_of_case k (Look i p) l.allowed) (look_in k i p l.allowed) (law.looks_at k i p l.allowed)
        (l.lower _ (after_look i p false)) (l.lower _ (after_look i p true))

    good : Certified (λ k. k < 7 ^ n) S (rank ranks)
    good = record {
      most = table.most;
      settled = λ k h g. table.settled k h (subst T (sym (same k h)) g);
      reached = λ k h l. elim (table.reached k h l) [ inl g ↦ inl (subst T (same k h) g) | inr w ↦ inr (act_of k (rank ranks k) w) ];
      least = λ k h a x l. table.least k h x (lowers_of k x a l);
    }

    told : TablesTell n set look ranks S
    told = record {
      few = few v;
      law = S_law;
      sets = set-may;
      looks = look_may;
      ranked = λ k h. certified S_law (numbers_closed S_law) good (few v) k h;
    }

    counted : RanksFilled n S old ranks
    counted = record { size = table.same_length; ranks = told.ranked; later = table.beyond }

  -- there is a table to fill
  fits : {old : List ℕ} → 7 ^ n ≤ length old → RanksFit n old
  fits room = record { some = omega (arith, v.sound.settings.least); few = few v; room = room }

  -- ---- one leg

  module _ {old ranks : List ℕ} (filled : FillsRanks n made learnt set look old ranks) (room : 7 ^ n ≤ length old) where
    pub tables_tell : TablesTell n set look ranks (ruled_system n book q goal)
    tables_tell = told (λ k h. goal-is k) (filled.filled (fits room))

    pub ranks-filled : RanksFilled n (ruled_system n book q goal) old ranks
    ranks-filled = counted (λ k h. goal-is k) (filled.filled (fits room))

  -- ---- the first of two legs, before the system R of the second, whose ranks are in `ranks2`

  module _ {R : System} (R-law : Lawful n R) {ranks2 : List ℕ} (ranked : (k : ℕ) → k < 7 ^ n → IsRank R k (get_or ranks2 k 0))
      {old ranks : List ℕ} (filled : FillsFirst n made learnt ranks2 set look old ranks) (there : 7 ^ n ≤ length ranks2) (room : 7 ^ n ≤ length old) where
    -- an entry that is not 255 tells that the second team has a working plan
    has : (k : ℕ) → k < 7 ^ n → not (eqb (rank ranks2 k) 255) ≡ can_from n R k
    has k h =
        let can = rank-can R-law k (rank ranks2 k) (few v) (ranked k h) in
        T_iff (not (eqb (rank ranks2 k) 255)) (can_from n R k)
        (λ t. can.0 (elim (ranked k h) [
          | inl least ↦ rank-small R-law k (rank ranks2 k) (few v) least
          | inr none ↦ absurd (T_not (eqb (rank ranks2 k) 255) t (eq→eqb none.0))
        ]))
        (λ t. false→T (ne_eqb (rank ranks2 k) 255 (λ e. omega (arith, can.1 t))))

    goal_then_lem : (k : ℕ) → k < 7 ^ n → goal_then n made learnt ranks2 k ≡ (first_leg n (ruled_system n book q goal) R).goal k
    unfolding goal_then first_leg
    goal_then_lem k h = ap₂ (λ (a b : Bool). a && b) (goal-is k) (has k h)

    pub first-tells : TablesTell n set look ranks (first_leg n (ruled_system n book q goal) R)
    unfolding first_leg
    first-tells = told goal_then_lem (filled.filled (fits there) (fits room))

    pub first-filled : RanksFilled n (first_leg n (ruled_system n book q goal) R) old ranks
    unfolding first_leg
    first-filled = counted goal_then_lem (filled.filled (fits there) (fits room))

-- The same question with other settings held: holding more permits no more, and the plans that count where settings are held are those that count where
-- none is and that set no held setting. From what a set asks for: its rule known to hold, and its setting not held.
use mathlib.Core.Path.{◌≡◌, refl, sym, subst, ◌∙◌}
use mathlib.Core.Logic.{◌↔◌}
use mathlib.Core.Bool.{Bool, true, false, not, ◌&&◌}
use mathlib.Core.List.{List}
use Prim.Native.Nat.{ℕ}
use lib.Dec.{T, not_T}
use Rattle.ground.specs.Digits.{digit, bit}
use Rattle.ground.proofs.Bits.{bit_of_zero}
use Rattle.ground.proofs.Bools.{and_in, and_left, and_right, both}
use Rattle.book_block.specs.Rule.{rule}
use Rattle.book_block.specs.declared.rule.Right.TheVariants.{Set as set-rule}
use Rattle.knowledge_acts.specs.Acts.{set_to, look_at, offered}
use Rattle.knowledge_acts.specs.declared.act.Act.{Act}
use Rattle.knowledge_acts.specs.declared.act.Act.TheVariants.{Set, Look}
use Rattle.knowledge.specs.Goal.{Goal}
use Rattle.knowledge.specs.Judgement.{known}
use Rattle.plan.specs.Plans.{System, given, may, Plan, stop, set_then, look_then, Permitted, Works}
use Rattle.plan.proofs.Size.{works_permitted}
use Rattle.plan.specs.Without.{without}
use Rattle.plan.proofs.Compare.{PermitsMore, works_more, permitted-more}
use Rattle.plan.proofs.Unchanged.{without_more}
use Rattle.question.specs.Permitted.{ruled}
use Rattle.question.specs.Question.{system_of, ruled_system, start_of}
use Rattle.question.specs.Asks.{ValidQuestion}
use Rattle.question.specs.declared.Question.{Question}
use Rattle.question.proofs.PermitLaws.{set_given, look_given}
use Rattle.question.proofs.SystemLaws.{from_ruled, may-ruled}

-- the question with these settings held
abbrev pub holding : Question → ℕ → Question
holding q held = record { team = q.team; known = q.known; values = q.values; held = held }

-- every setting that the first mask holds, the second holds
pub record HoldsMore (less more : ℕ) : Type 0 where
  pub held : (i : ℕ) → T (bit less i) → T (bit more i)

-- from the same start
pub same_start : (q : Question) (less more : ℕ) → start_of (holding q more) ≡ start_of (holding q less)
unfolding start_of
same_start q less more = refl

module _ {less more : ℕ} (holds : HoldsMore less more) where
  -- a valid question stays valid
  pub less_valid : {book : List ℕ} {goal : Goal} {n m : ℕ} (q : Question) → ValidQuestion book (holding q more) goal n m → ValidQuestion book (holding q less) goal n m
  less_valid q v = record {
    sound = v.sound;
    team = v.team;
    known = v.known;
    held = record { settings = λ i t. v.held.settings i (holds.held i t) };
    goal = v.goal;
  }

  given_less : (n : ℕ) (book : List ℕ) (d : ℕ → ℕ) (a : Act) → T (given (ruled n book more d a)) → T (given (ruled n book less d a))
  given_less n book d (Set i s b) t =
      let rules : Bool = known n d (rule book i s set-rule) in
      let h = rw (set_given n book more d i s b) at t in
      rw (set_given n book less d i s b)
      (and_in rules (not (bit less i)) (and_left rules (not (bit more i)) h)
      (not_T (bit less i) (λ on. both (bit more i) (holds.held i on) (and_right rules (not (bit more i)) h))))
  given_less n book d (Look i s) t = subst T (look_given n book more d i s ∙ sym (look_given n book less d i s)) t

  holding-ruled : (n : ℕ) (book : List ℕ) (q : Question) (goal : Goal) → PermitsMore (ruled_system n book (holding q more) goal) (ruled_system n book (holding q less) goal)
  unfolding ruled_system
  holding-ruled n book q goal = record {
    acts = λ k a t.
        and_in (offered n q.team a) (given (ruled n book less (digit 7 k) a))
        (and_left (offered n q.team a) (given (ruled n book more (digit 7 k) a)) t)
        (given_less n book (digit 7 k) a (and_right (offered n q.team a) (given (ruled n book more (digit 7 k) a)) t));
    goals = λ k g. g;
  }

  -- holding less permits whatever holding more does
  pub holding-permits : (n : ℕ) (book : List ℕ) (q : Question) (goal : Goal) → PermitsMore (system_of n book (holding q more) goal) (system_of n book (holding q less) goal)
  holding-permits n book q goal =
      from_ruled n book (holding q more) goal (λ (S : System). PermitsMore S (system_of n book (holding q less) goal))
      (from_ruled n book (holding q less) goal (PermitsMore (without (ruled_system n book (holding q more) goal))) (without_more (holding-ruled n book q goal)))

-- ---- the plans that count

-- the plan sets no held setting
abbrev pub SetsNone : ℕ → Plan → Type 0
SetsNone held stop = Unit
SetsNone held (set_then i s b p) = (T (bit held i) → ⊥) × SetsNone held p
SetsNone held (look_then i s p r) = SetsNone held p × SetsNone held r

-- any mask holds more than none
none-held : (held : ℕ) → HoldsMore 0 held
none-held held = record { held = λ i t. absurd (subst T (bit_of_zero i) t) }

module _ (n : ℕ) (book : List ℕ) (q : Question) (goal : Goal) where
  abbrev holds-some : PermitsMore (system_of n book q goal) (system_of n book (holding q 0) goal)
  holds-some = holding-permits (none-held q.held) n book q goal

  ruled_free : (k i s : ℕ) (b : Bool) → T (may (ruled_system n book q goal) k (Set i s b)) → T (bit q.held i) → ⊥
  unfolding ruled_system
  ruled_free k i s b t on =
      let h = and_right (offered n q.team (Set i s b)) (given (ruled n book q.held (digit 7 k) (Set i s b))) t in
      both (bit q.held i) on
      (and_right (known n (digit 7 k) (rule book i s set-rule)) (not (bit q.held i)) (rw (set_given n book q.held (digit 7 k) i s b) at h))

  ruled-set : (k i s : ℕ) (b : Bool) → (T (bit q.held i) → ⊥) → T (may (ruled_system n book (holding q 0) goal) k (Set i s b)) → T (may (ruled_system n book q goal) k (Set i s b))
  unfolding ruled_system
  ruled-set k i s b free t =
      let rules : Bool = known n (digit 7 k) (rule book i s set-rule) in
      let h = and_right (offered n q.team (Set i s b)) (given (ruled n book 0 (digit 7 k) (Set i s b))) t in
      and_in (offered n q.team (Set i s b)) (given (ruled n book q.held (digit 7 k) (Set i s b)))
      (and_left (offered n q.team (Set i s b)) (given (ruled n book 0 (digit 7 k) (Set i s b))) t)
      (rw (set_given n book q.held (digit 7 k) i s b)
      (and_in rules (not (bit q.held i))
      (and_left rules (not (bit 0 i)) (rw (set_given n book 0 (digit 7 k) i s b) at h)) (not_T (bit q.held i) free)))

  -- looks are as before
  ruled_look : (k i s : ℕ) → T (may (ruled_system n book (holding q 0) goal) k (Look i s)) → T (may (ruled_system n book q goal) k (Look i s))
  unfolding ruled_system
  ruled_look k i s t =
      subst (λ (b : Bool). T (offered n q.team (Look i s) && b)) (look_given n book 0 (digit 7 k) i s ∙ sym (look_given n book q.held (digit 7 k) i s)) t

  -- and so with the acts that change something
  set_free : (k i s : ℕ) (b : Bool) → T (may (system_of n book q goal) k (Set i s b)) → T (bit q.held i) → ⊥
  set_free k i s b t = ruled_free k i s b ((may-ruled n book q goal k (Set i s b)).0 t).0

  set_back : (k i s : ℕ) (b : Bool) → (T (bit q.held i) → ⊥) → T (may (system_of n book (holding q 0) goal) k (Set i s b)) → T (may (system_of n book q goal) k (Set i s b))
  set_back k i s b free t =
      let (m, some) = (may-ruled n book (holding q 0) goal k (Set i s b)).0 t in
      (may-ruled n book q goal k (Set i s b)).1 (ruled-set k i s b free m, some)

  look_back : (k i s : ℕ) → T (may (system_of n book (holding q 0) goal) k (Look i s)) → T (may (system_of n book q goal) k (Look i s))
  look_back k i s t =
      let (m, some) = (may-ruled n book (holding q 0) goal k (Look i s)).0 t in
      (may-ruled n book q goal k (Look i s)).1 (ruled_look k i s m, some)

  permitted_free : (p : Plan) (k : ℕ) → Permitted (system_of n book q goal) k p → SetsNone q.held p
  permitted_free stop k w = tt
  permitted_free (set_then i s b p) k w = (set_free k i s b w.0, permitted_free p (set_to k i b) w.1)
  permitted_free (look_then i s p r) k w = (permitted_free p (look_at k i false) w.1, permitted_free r (look_at k i true) w.2)

  permitted_back : (p : Plan) (k : ℕ) → Permitted (system_of n book (holding q 0) goal) k p → SetsNone q.held p → Permitted (system_of n book q goal) k p
  permitted_back stop k w f = tt
  permitted_back (set_then i s b p) k w f = (set_back k i s b f.0 w.0, permitted_back p (set_to k i b) w.1 f.1)
  permitted_back (look_then i s p r) k w f =
      (look_back k i s w.0, permitted_back p (look_at k i false) w.1 f.0, permitted_back r (look_at k i true) w.2 f.1)

  pub permitted_exactly : (p : Plan) (k : ℕ) → Permitted (system_of n book q goal) k p ↔ (Permitted (system_of n book (holding q 0) goal) k p × SetsNone q.held p)
  permitted_exactly p k = (λ w. (permitted-more holds-some p k w, permitted_free p k w), λ w. permitted_back p k w.0 w.1)

  works_back : (p : Plan) (k : ℕ) → Works (system_of n book (holding q 0) goal) k p → SetsNone q.held p → Works (system_of n book q goal) k p
  unfolding system_of
  works_back stop k w f = w
  works_back (set_then i s b p) k w f = (set_back k i s b f.0 w.0, works_back p (set_to k i b) w.1 f.1)
  works_back (look_then i s p r) k w f =
      (look_back k i s w.0, works_back p (look_at k i false) w.1 f.0, works_back r (look_at k i true) w.2 f.1)

  pub works_exactly : (p : Plan) (k : ℕ) → Works (system_of n book q goal) k p ↔ (Works (system_of n book (holding q 0) goal) k p × SetsNone q.held p)
  works_exactly p k = (λ w. (works_more holds-some p k w, permitted_free p k (works_permitted (system_of n book q goal) p k w)), λ w. works_back p k w.0 w.1)

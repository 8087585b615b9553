-- A damaged book back on its feet (R-6), and what the finder says of it: "a team reaches no more with it than with any sound book of the same n and m
-- that has the same rules for the unmarked settings, and where both reach, that book's height is no greater". The argument: a closed rule is known to
-- hold nowhere, so the other book permits whatever the salvaged one does, and what permits more reaches no less and no later (plan/proofs/Compare).
use mathlib.Core.Path.{◌≡◌, refl, sym, ◌∙◌, subst}
use mathlib.Core.Logic.{◌⊎◌, inl, inr, ◌↔◌}
use mathlib.Core.Bool.{Bool, true, false}
use mathlib.Core.List.{List, ◌++◌}
use Prim.Native.Nat.{ℕ, ◌+◌, ◌*◌, ◌^◌, ◌≤◌, ◌<◌}
use native.Mathlib.Omega.{arith}
use lib.ListN.{length, take, drop, replicate}
use Rattle.std.specs.Prelude.{Result, Ok, Err}
use Rattle.book_sound.specs.declared.Size.{Size}
use Rattle.book_sound.specs.Promise.{size}
use Rattle.book_salvage.specs.declared.Salvaged.{Salvaged}
use Rattle.book_salvage.specs.Promise.{salvaged}
use Rattle.ground.specs.Digits.{bit}
use Rattle.refusal.specs.declared.Refusal.{Refusal}
use Rattle.refusal.specs.Order.{First}
use Rattle.book_block.specs.declared.rule.Right.{Right}
use Rattle.book_block.specs.Rule.{rule}
use Rattle.book_block.specs.Check.{block}
use Rattle.book_sound.specs.Sound.{Sound, rights_of}
use Rattle.book.specs.Promise.{ReadsBook}
use Rattle.book.proofs.Theorems.{reads-one}
use Rattle.book_sound.specs.Rows.{settings_of, posts_of}
use Rattle.book_sound.proofs.Theorems.{sound-one}
use Rattle.book_salvage.specs.Salvaged.{closed_block}
use Rattle.book_salvage.specs.Rows.{salvage_rows}
use Rattle.book_salvage.specs.Promise.{SalvagesTo, Salvages}
use Rattle.book_salvage.proofs.Theorems as Laws
use Rattle.book_salvage.proofs.salvage.Reads as salvage-contract
use Rattle.knowledge.specs.Goal.{Goal}
use Rattle.plan.specs.Plans.{Plan, Works, height}
use Rattle.plan.proofs.Compare.{works_more}
use Rattle.plan.proofs.Ranks.{rank-least}
use Rattle.question.specs.Question.{system_of, start_of}
use Rattle.question.specs.Asks.{ValidQuestion}
use Rattle.question.specs.declared.Question.{Question}
use Rattle.question.proofs.Closing.{ClosesRules, closing_permits}
use Rattle.finder.specs.Finds.{Finds}
use Rattle.finder.specs.declared.answer.Answer.{Answer}
use Rattle.finder.specs.declared.answer.Answer.TheVariants.{Reach, Cannot}
use Rattle.finder.proofs.Theorems.{reach_works, cannot_none, works_reach, none_cannot}
use Rattle.finder_plain.specs.Finds.{FindsPlain}
use Rattle.finder_plain.specs.declared.finding.PlainAnswer.{PlainAnswer}
use Rattle.finder_plain.specs.declared.finding.PlainAnswer.TheVariants.{Reach as PlainReach}
use Rattle.finder_plain.proofs.Theorems as Plain

-- ---- demand 1 of the salvage: one result alone, the room included; a refusal is the first of 6, 30, 15 and leaves the room as it was

pub one_salvage : (book room : List ℕ) (a b : Result Salvaged Refusal) (x y : List ℕ) → Salvages book room a x → Salvages book room b y → (a ≡ b) × (x ≡ y)
one_salvage = Laws.salvage_one

pub refused_salvage : (book room : List ℕ) (r : Refusal) (after : List ℕ) → Salvages book room (Err r) after
    → First (salvage_rows book room) r × (after ≡ room)
refused_salvage book room r after x = x

-- the contract is the function's own, as in Demands
pub tied_salvage : (κs : _) (a : _) (x : _) (s : _) → salvage-contract.Post κs a x s ↔ Salvages a.0.now a.1.0.now x s.1.0.now
tied_salvage κs a x s = (λ p. p, λ p. p)

-- ---- the salvaged book

-- "Salvaging twice gives the same bytes as once", and no mark
pub twice_the_same : {book room after : List ℕ} {marks count : ℕ} (room₂ : List ℕ) (answer : Result Salvaged Refusal) (after₂ : List ℕ)
    → SalvagesTo book room marks count after → length book ≤ length room₂ → Salvages (take (length book) after) room₂ answer after₂
    → (answer ≡ Ok (salvaged 0 0)) × (after₂ ≡ take (length book) after ++ drop (length book) room₂)
twice_the_same = Laws.salvaged_twice

-- a sound book comes back as its own bytes
pub sound_the_same : {book : List ℕ} {n m : ℕ} (room : List ℕ) (answer : Result Salvaged Refusal) (after : List ℕ) → Sound book n m → length book ≤ length room
    → Salvages book room answer after → (answer ≡ Ok (salvaged 0 0)) × (after ≡ book ++ drop (length book) room)
sound_the_same = Laws.sound_salvaged

-- a book that a salvaged one is held against: sound, "of the same n and m", with "the same rules for the unmarked settings"
pub record HasUnmarked (book : List ℕ) (marks : ℕ) (other : List ℕ) : Type 0 where
  pub sound : Sound other (settings_of book) (posts_of book)
  pub rules : (i q : ℕ) (right : Right) → i < settings_of book → q < posts_of book → bit marks i ≡ false → rule other i q right ≡ rule book i q right

module _ {book room after : List ℕ} {marks count : ℕ} (s : SalvagesTo book room marks count after) where
  -- the bytes that were written
  abbrev out : List ℕ
  out = take (length book) after

  -- "The result always reads as a book", of the head's n and m
  pub reads_as_book : Sound out (settings_of book) (posts_of book)
  reads_as_book = Laws.salvaged_reads s

  -- and so `book::read` answers: its n and m, and its rights
  pub read-gives : (rights : List ℕ) (a : Result Size Refusal) (left : List ℕ) → 256 * settings_of book ≤ length rights → ReadsBook out rights a left
      → (a ≡ (Ok (size (settings_of book) (posts_of book)))) × (left ≡ rights_of out (settings_of book) ++ drop (256 * settings_of book) rights)
  read-gives rights a left fits r =
      reads-one out rights a (Ok (size (settings_of book) (posts_of book))) left (rights_of out (settings_of book) ++ drop (256 * settings_of book) rights) r
      (reads_as_book, fits, refl)

  -- "every sound block stays byte for byte", and the others are closed
  pub head_the_same : block out 0 ≡ block book 0
  head_the_same = Laws.head_stays s

  pub unmarked_the_same : (i : ℕ) → i < settings_of book → bit marks i ≡ false → block out (1 + i) ≡ block book (1 + i)
  unmarked_the_same = Laws.unmarked_stays s

  pub marked-is_closed : (i : ℕ) → i < settings_of book → bit marks i ≡ true → block out (1 + i) ≡ closed_block
  marked-is_closed = Laws.marked_closed s

  -- "how many were replaced": none exactly where no setting is marked
  pub none_replaced : (count ≡ 0) ↔ (marks ≡ 0)
  none_replaced = Laws.count_none s

  -- the rules of an unmarked setting are those stored, those of a marked one are all closed
  pub rules-after : (i q : ℕ) (right : Right) → i < settings_of book → q < 8
      → ((bit marks i ≡ false) × (rule out i q right ≡ rule book i q right)) ⊎ ((bit marks i ≡ true) × (rule out i q right ≡ replicate 16 0))
  rules-after i q right hi hq = by (bit marks i) refl
    where
      by : (b : Bool) → bit marks i ≡ b
          → ((bit marks i ≡ false) × (rule out i q right ≡ rule book i q right)) ⊎ ((bit marks i ≡ true) × (rule out i q right ≡ replicate 16 0))
      by false e = inl (e, Laws.unmarked_rule s i q right hi hq e)
      by true e = inr (e, Laws.marked-rule s i q right hi hq e)

  module _ {other : List ℕ} (has : HasUnmarked book marks other) (q : Question) (goal : Goal) where
    closes : ClosesRules (settings_of book) (posts_of book) out other
    closes = record {
      same_or_closed = λ i p right hi hp. elim (rules-after i p right hi (omega (arith, s.head.says.posts.most))) [
        | inl kept ↦ inl (kept.1 ∙ sym (has.rules i p right hi hp kept.0))
        | inr closed ↦ inr closed.1
      ];
    }

    -- the n and m of a valid question are the head's
    valid_salvaged : {n m : ℕ} → ValidQuestion out q goal n m → ValidQuestion out q goal (settings_of book) (posts_of book)
    valid_salvaged {n} {m} v =
        let e = sound-one v.sound reads_as_book in
        subst (λ j. ValidQuestion out q goal j (posts_of book)) e.0 (subst (ValidQuestion out q goal n) e.1 v)

    valid-other : {n m : ℕ} → ValidQuestion other q goal n m → ValidQuestion other q goal (settings_of book) (posts_of book)
    valid-other {n} {m} v =
        let e = sound-one v.sound has.sound in
        subst (λ j. ValidQuestion other q goal j (posts_of book)) e.0 (subst (ValidQuestion other q goal n) e.1 v)

    -- a question that is valid over the one book is valid over the other
    pub over_other : ValidQuestion out q goal (settings_of book) (posts_of book) → ValidQuestion other q goal (settings_of book) (posts_of book)
    over_other v = record { sound = has.sound; team = v.team; known = v.known; held = v.held; goal = v.goal }

    pub over_salvaged : ValidQuestion other q goal (settings_of book) (posts_of book) → ValidQuestion out q goal (settings_of book) (posts_of book)
    over_salvaged v = record { sound = reads_as_book; team = v.team; known = v.known; held = v.held; goal = v.goal }

    -- closing never opens: a plan that works by the salvaged book works by the other, from any state
    pub plan_works_too : ValidQuestion out q goal (settings_of book) (posts_of book) → (p : Plan) (k : ℕ)
        → Works (system_of (settings_of book) out q goal) k p → Works (system_of (settings_of book) other q goal) k p
    plan_works_too v p k w = works_more (closing_permits closes q goal v.team) p k w

    -- of the second finder, which is lent no room: where it says reach of the salvaged book it says reach of the other, with no greater height
    pub plain_reach_too : (h : ℕ) → FindsPlain out q goal (Ok (PlainReach h)) → (b : Result PlainAnswer Refusal) → FindsPlain other q goal b
        → (g : ℕ) × (b ≡ Ok (PlainReach g)) × (g ≤ h)
    plain_reach_too h f b f' =
        let (n, m, v, (p, w, e, least)) = Plain.plain_reach out q goal h f in
        let same = sound-one v.sound reads_as_book in
        let u = over_other (valid_salvaged v) in
        let w' = plan_works_too (valid_salvaged v) p (start_of q) (subst (λ j. Works (system_of j out q goal) (start_of q) p) same.0 w) in
        let (g, is) = Plain.works_reach other q goal u b p w' f' in
        let l = Plain.own_reach other q goal u (subst (FindsPlain other q goal) is f') in
        (g, is, subst (λ j. g ≤ j) e (rank-least (system_of (settings_of book) other q goal) (start_of q) (inl l) p w'))

    module _ (ranks plan r x ranks' plan' r' x' : List ℕ) where
      -- the plan that is found by the salvaged book, with its height
      found : (h size : ℕ) → Finds out q goal ranks plan (Ok (Reach h size)) r x
          → ValidQuestion out q goal (settings_of book) (posts_of book)
          × ((p : Plan) × Works (system_of (settings_of book) other q goal) (start_of q) p × (height p ≡ h))
      found h size f =
          let (n, m, v, (p, w, e, least, size_is, room-is)) = reach_works out q goal ranks plan r x h size f in
          let same = sound-one v.sound reads_as_book in (
            valid_salvaged v,
            (p, plan_works_too (valid_salvaged v) p (start_of q) (subst (λ j. Works (system_of j out q goal) (start_of q) p) same.0 w), e),
          )

      -- where both reach, the other book's height is no greater
      pub height_no_greater : (h size g length' : ℕ) → Finds out q goal ranks plan (Ok (Reach h size)) r x
          → Finds other q goal ranks' plan' (Ok (Reach g length')) r' x' → g ≤ h
      height_no_greater h size g length' f f' =
          let (v, (p, w, e)) = found h size f in
          let (n, m, v', (p', w', e', least, size_is, room-is)) = reach_works other q goal ranks' plan' r' x' g length' f' in
          let same = sound-one v'.sound has.sound in
          subst (λ j. g ≤ j) e (least p (subst (λ j. Works (system_of j other q goal) (start_of q) p) (sym same.0) w))

      -- where the finder says reach of the salvaged book, it says reach of the other, in rooms that it does not refuse, with no greater height
      pub reach_too : (h size : ℕ) → Finds out q goal ranks plan (Ok (Reach h size)) r x → 7 ^ settings_of book ≤ length ranks' → 32640 ≤ length plan'
          → (b : Result Answer Refusal) → Finds other q goal ranks' plan' b r' x' → (g : ℕ) × (length' : ℕ) × (b ≡ Ok (Reach g length')) × (g ≤ h)
      reach_too h size f room big b f' =
          let (v, (p, w, e)) = found h size f in
          let (g, length', is) = works_reach other q goal ranks' plan' r' x' b (over_other v) room big p w f' in
          (g, length', is, height_no_greater h size g length' f (subst (λ (c : Result Answer Refusal). Finds other q goal ranks' plan' c r' x') is f'))

      -- and where it says cannot of the other, it says cannot of the salvaged book
      pub cannot_too : Finds other q goal ranks' plan' (Ok Cannot) r' x' → 7 ^ settings_of book ≤ length ranks
          → (a : Result Answer Refusal) → Finds out q goal ranks plan a r x → a ≡ Ok Cannot
      cannot_too f' room a f =
          let (n, m, v', none, kept) = cannot_none other q goal ranks' plan' r' x' f' in
          let same = sound-one v'.sound has.sound in
          let v = over_salvaged (valid-other v') in
          none_cannot out q goal ranks plan r x a v room
          (λ p w. none p (subst (λ j. Works (system_of j other q goal) (start_of q) p) (sym same.0) (plan_works_too v p (start_of q) w))) f

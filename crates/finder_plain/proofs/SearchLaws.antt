-- A search from a state and a search by one try: one law for each return.
use mathlib.Core.Path.{◌≡◌, sym, ap, ◌∙◌, subst}
use mathlib.Core.Logic.{◌⊎◌, inl, inr}
use mathlib.Core.List.{List}
use mathlib.Core.Bool.{Bool, true, false}
use Prim.Native.Nat.{ℕ, suc, ◌+◌, ◌*◌, ◌/◌, ◌%◌, ◌-◌, ◌≤◌, ◌<◌}
use native.Mathlib.Omega.{arith}
use lib.Dec.{T, not_T}
use lib.ListN.{length, get_or}
use Rattle.std.proofs.Common.{Option}
use lib.Seq.{get_or-set_same}
use Rattle.ground.proofs.Bools.{true→T, T→false, both, false→T, lt_or_ge}
use Rattle.knowledge_acts.specs.Acts.{setting_of, post_of, of_kind}
use Rattle.knowledge_acts.specs.declared.act.Act.{Act}
use Rattle.knowledge.specs.Goal.{Goal, wanted, goal_settled}
use Rattle.plan.specs.Plans.{System, may, Outcome}
use Rattle.plan.specs.Layers.{below}
use Rattle.plan.proofs.Layers.{layer_goal}
use Rattle.plan.proofs.Certificate.{outcome_lt}
use Rattle.question.specs.Question.{ruled_system}
use Rattle.finder_plain.specs.Asked.{asked_system, asked_may}
use Rattle.finder_plain.specs.declared.asked.Asked.{Asked}
use Rattle.finder_plain.specs.Tries.{Asks, Blocked, Opens, Foresees}
use Rattle.finder_plain.specs.Entries.{Bars, Searches, AsksGoal, Grown, Raised, Searched, SearchedBy}
use Rattle.finder_plain.specs.declared.ahead.Ahead.{Ahead}
use Rattle.finder_plain.proofs.TryLaws.{covered, try_setting, blocked_grown, first-fails, second-fails, both_work}
use Rattle.finder_plain.proofs.EntryLaws.{states_most, grown-same, grown-more, grown-set, raised}

-- no is not yes
no_yes : {A : Type 0} → false ≡ true → A
no_yes e = let z : ◌≡◌ {A = ℕ} 0 1 = cc in absurd (omega arith)

yes_no : {A : Type 0} → true ≡ false → A
yes_no e = let z : ◌≡◌ {A = ℕ} 0 1 = cc in absurd (omega arith)

-- ---- the system of the question's rules

module _ (w : Asked) (k : ℕ) where
  -- what lies ahead by the rules lies ahead in the system
  pub in_system : (entries : List ℕ) (a : Act) (h : ℕ) {r : Option Ahead} (s : Option Ahead) → r ≡ s → Foresees (asked_may w k) entries k a h r
      → Foresees (may (asked_system w) k) entries k a h s
  unfolding ruled_system
  in_system entries a h s e f = subst (Foresees (asked_may w k) entries k a h) e f

  pub asks : {entries : List ℕ} {i : ℕ} → Searches w.n (asked_system w) k entries → i < w.n → Asks (asked_may w k) w.n k i entries
  unfolding ruled_system
  asks s l = record { few = s.few; state = s.state; setting = l; size = s.bars.size; posts = λ a t. s.law.post_of_case k a t }

  pub goal_yes : {r : Bool} → r ≡ goal_settled w.n (wanted w.goal) k → r ≡ true → T ((asked_system w).goal k)
  unfolding ruled_system
  goal_yes e f = true→T (sym e ∙ f)

  pub goal_no : {r : Bool} → r ≡ goal_settled w.n (wanted w.goal) k → r ≡ false → T ((asked_system w).goal k) → ⊥
  unfolding ruled_system
  goal_no e f g = both (goal_settled w.n (wanted w.goal) k) g (false→T (sym e ∙ f))

  pub asks-goal : {entries : List ℕ} → Searches w.n (asked_system w) k entries → AsksGoal w.n (wanted w.goal) k entries
  unfolding ruled_system
  asks-goal s = record { few = s.few; there = states_most s.few s.state; unsettled = λ l g. s.bars.unsettled k s.state l g }

pub not_settled : {n k : ℕ} {goal : Goal} {entries : List ℕ} → AsksGoal n goal k entries → 0 < get_or entries k 0 → false ≡ goal_settled n goal k
not_settled {n} {k} {goal} a l = sym (T→false (goal_settled n goal k) (not_T (goal_settled n goal k) (a.unsettled l)))

-- ---- by one try

module _ {n : ℕ} {S : System} {k : ℕ} {entries : List ℕ} (s : Searches n S k entries) where
  pub entry-there : k < 823543
  entry-there = states_most s.few s.state

  module _ {a : Act} {x y : ℕ} (o : Opens (may S k) k a x y) where
    pub from_first : {new : List ℕ} → Bars n S new → Searches n S x new
    from_first b = record {
      few = s.few;
      law = s.law;
      state = outcome_lt s.law o.someone.allowed (o.first o.someone.post) s.state;
      bars = b;
    }

    pub from_second : {new : List ℕ} → Bars n S new → Searches n S y new
    from_second b = record {
      few = s.few;
      law = s.law;
      state = outcome_lt s.law o.someone.allowed (o.second o.someone.post) s.state;
      bars = b;
    }

    pub first_no : {h : ℕ} {new : List ℕ} {r : Bool} → Searched n S x h entries new r → r ≡ false → SearchedBy n S k a h entries new false
    first_no f e = record { bars = f.bars; grown = f.grown; found = λ z. no_yes z; failed = λ z. first-fails o (f.failed e) }

    pub second-says : {h : ℕ} {new last : List ℕ} {r t : Bool} → Searched n S x h entries new r → r ≡ true → Searched n S y h new last t
        → SearchedBy n S k a h entries last t
    second-says {h} f e g = record {
      bars = g.bars;
      grown = grown-more f.grown g.grown;
      found = λ z. both_work s.law h o (f.found e) (g.found z);
      failed = λ z. second-fails o (g.failed z);
    }

  pub one-says : {a : Act} {x h : ℕ} {new : List ℕ} {r : Bool} → Opens (may S k) k a x x → Searched n S x h entries new r → SearchedBy n S k a h entries new r
  one-says {a} {x} {h} o f = record {
    bars = f.bars;
    grown = f.grown;
    found = λ z. both_work s.law h o (f.found z) (f.found z);
    failed = λ z. first-fails o (f.failed z);
  }

  pub nothing_says : {a : Act} {h : ℕ} → Blocked (may S k) entries k a h → SearchedBy n S k a h entries entries false
  nothing_says b = record { bars = s.bars; grown = grown-same entries; found = λ z. no_yes z; failed = λ z. b }

  -- ---- from a state

  pub at-goal : {h : ℕ} → get_or entries k 0 < h → T (S.goal k) → Searched n S k h entries entries true
  at-goal {h} l g =
      let e : suc (h - 1) ≡ h = omega arith in
      record {
        bars = s.bars;
        grown = grown-same entries;
        found = λ z. subst (λ (j : ℕ). T (below n S j k)) e (layer_goal s.law (h - 1) k g);
        failed = λ z. yes_no z;
      }

-- where the tries stand: those below the number are blocked
pub record Trying (n : ℕ) (S : System) (k h : ℕ) (first entries : List ℕ) (number : ℕ) : Type 0 where
  pub bars : Bars n S entries
  pub grown : Grown first entries
  pub blocked : (t : ℕ) → t < number → Blocked (may S k) entries k (of_kind (t % 3) (t / 3) 0) (h - 1)

module _ {n : ℕ} {S : System} {k : ℕ} {first : List ℕ} (s : Searches n S k first) where
  pub trying_none : (h : ℕ) → Trying n S k h first first 0
  trying_none h = record { bars = s.bars; grown = grown-same first; blocked = λ t l. absurd (omega arith) }

  module _ {h : ℕ} {entries : List ℕ} {number : ℕ} (y : Trying n S k h first entries number) where
    pub still_searches : Searches n S k entries
    still_searches = record { few = s.few; law = s.law; state = s.state; bars = y.bars }

    pub try_fits : {a : Act} → a ≡ of_kind (number % 3) (number / 3) 0 → number < 3 * n → setting_of a < n
    try_fits e l = rw (ap setting_of e ∙ try_setting (number % 3) (number / 3) 0) (omega arith)

    module _ {a : Act} {new : List ℕ} {r : Bool} (f : SearchedBy n S k a (h - 1) entries new r) where
      pub try_yes : 0 < h → r ≡ true → Searched n S k h first new true
      try_yes l e =
          let same : suc (h - 1) ≡ h = omega arith in
          record {
            bars = f.bars;
            grown = grown-more y.grown f.grown;
            found = λ z. subst (λ (j : ℕ). T (below n S j k)) same (f.found e);
            failed = λ z. yes_no z;
          }

      pub try_no : number < 3 * n → a ≡ of_kind (number % 3) (number / 3) 0 → r ≡ false → Trying n S k h first new (number + 1)
      try_no l e z = record {
        bars = f.bars;
        grown = grown-more y.grown f.grown;
        blocked = λ t m. elim (lt_or_ge t number) [
          | inl u ↦ blocked_grown f.grown (y.blocked t u)
          | inr u ↦ (let same : t ≡ number = omega arith in
              subst (λ (j : ℕ). Blocked (may S k) new k (of_kind (j % 3) (j / 3) 0) (h - 1)) (sym same)
              (subst (λ (c : Act). Blocked (may S k) new k c (h - 1)) e (f.failed z)))
        ];
      }

    -- no try is left
    module _ (all : 3 * n ≤ number) (goal : T (S.goal k) → ⊥) (low : 0 < h) where
      near : (a : Act) → T (may S k a) → (x : ℕ) × Outcome k a x × ((x ≡ k) ⊎ (h ≤ suc (get_or entries x 0)))
      near a m =
          let t = covered n a (s.law.setting_of_case k a m) in
          let r = (y.blocked t.0 (omega (arith, t.1))).outcome (post_of a) (rw t.2 m) in
          (r.0, rw t.2 at r.1, elim r.2 [ inl e ↦ inl e | inr l ↦ inr (omega arith) ])

      pub none_left : {new : List ℕ} → Raised k h entries new → Searched n S k h first new false
      none_left (inl (e, l)) = rw e record { bars = y.bars; grown = y.grown; found = λ z. no_yes z; failed = λ z. l }
      none_left (inr (e, l)) =
          let room : k < length entries = omega (arith, y.bars.size, states_most s.few s.state) in
          let rises : get_or entries k 0 ≤ h = omega arith in
          rw e record {
            bars = raised s.law y.bars k h s.state room rises goal near;
            grown = grown-more y.grown (grown-set s.law y.bars k h s.state room rises);
            found = λ z. no_yes z;
            failed = λ z. rw (get_or-set_same entries k h 0 room) (omega arith);
          }

-- Inside: a try is an act by whichever post, and what can be told of it before it is tried. m tells which acts may be done at the state k.
use Rattle.std.specs.Prelude.{◌≡◌, ◌⊎◌, Bool, ◌&&◌, List, Option, Some, None, ℕ, ◌^◌, ◌≤◌, ◌<◌, T, length, get_or}
use Rattle.ground.specs.Digits.{digit}
use Rattle.knowledge_acts.specs.Acts.{offered, post_of}
use Rattle.knowledge_acts.specs.declared.act.Act.{Act}
use Rattle.knowledge_acts.specs.declared.act.Act.TheVariants.{Set, Look}
use Rattle.plan.specs.Plans.{given, Outcome}
use Rattle.question.specs.Permitted.{ruled}
use Rattle.finder_plain.specs.declared.ahead.Ahead.{Ahead}
use Rattle.finder_plain.specs.declared.ahead.Ahead.TheVariants.{One, Two}

-- the team may do the act at the state k, by the book's rules and the held settings: what `may` says of the question's rules, `ruled_system`
abbrev pub may_do : ℕ → List ℕ → ℕ → ℕ → ℕ → Act → Bool
may_do n book team held k a = offered n team a && given (ruled n book held (digit 7 k) a)

-- "posts whose acts have the same outcome are one try": the act by another post
abbrev pub by_post : Act → ℕ → Act
by_post (Set i p b) q = Set i q b
by_post (Look i p) q = Look i q

-- a post that may do it
pub record Someone (m : Act → Bool) (a : Act) : Type 0 where
  pub post : ℕ
  pub few : post < 8
  pub allowed : T (m (by_post a post))

-- what is asked of a state, a setting, the entries and the acts that may be done there
pub record Asks (m : Act → Bool) (n k i : ℕ) (entries : List ℕ) : Type 0 where
  pub few : n ≤ 7
  pub state : k < 7 ^ n
  pub setting : i < n
  pub size : length entries ≡ 823543
  pub posts : (a : Act) → T (m a) → post_of a < 8

-- whichever post does it, an outcome is k itself or has an entry of at least h
pub record Blocked (m : Act → Bool) (entries : List ℕ) (k : ℕ) (a : Act) (h : ℕ) : Type 0 where
  pub outcome : (q : ℕ) → T (m (by_post a q)) → (x : ℕ) × Outcome k (by_post a q) x × ((x ≡ k) ⊎ (h ≤ get_or entries x 0))

-- some post may do it, and its outcomes are x and y
pub record Opens (m : Act → Bool) (k : ℕ) (a : Act) (x y : ℕ) : Type 0 where
  pub someone : Someone m a
  pub first : (q : ℕ) → Outcome k (by_post a q) x
  pub second : (q : ℕ) → Outcome k (by_post a q) y
  pub only : (q z : ℕ) → Outcome k (by_post a q) z → (z ≡ x) ⊎ (z ≡ y)

-- what lies ahead of a try: nothing, or its outcomes
abbrev pub Foresees : (Act → Bool) → List ℕ → ℕ → Act → ℕ → Option Ahead → Type 0
Foresees m entries k a h None = Blocked m entries k a h
Foresees m entries k a h (Some (One x)) = Opens m k a x x
Foresees m entries k a h (Some (Two x y)) = Opens m k a x y

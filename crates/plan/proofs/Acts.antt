-- Acts taken together: what holds of an act's outcomes, and a search over all acts of n settings and eight posts. Each by the
-- two kinds of act.
use mathlib.Core.Logic.{inl, inr}
use mathlib.Core.Bool.{Bool, true, false, ◌&&◌, ◌||◌}
use Prim.Native.Nat.{ℕ, ◌<◌}
use lib.Dec.{T}
use Rattle.ground.specs.Search.{all, any}
use Rattle.ground.proofs.Bools.{and_in, and_left, and_right, or_left, or_right, or_out}
use Rattle.ground.proofs.Search.{all-at, any_intro, any_elim}
use Rattle.knowledge_acts.specs.Acts.{setting_of, post_of, set_to, look_at}
use Rattle.knowledge_acts.specs.declared.act.Act.{Act}
use Rattle.knowledge_acts.specs.declared.act.Act.TheVariants.{Set, Look}
use Rattle.plan.specs.Plans.{System, may, Outcome, after_set_case, after_look}
use Rattle.plan.specs.Layers.{leads, can, one_of, some_act}

-- what holds at the states after an act holds at its outcomes
pub after_a_set : (P : ℕ → Type 0) {k i q : ℕ} {b : Bool} {x : ℕ} → P (set_to k i b) → Outcome k (Set i q b) x → P x
after_a_set P h (after_set_case i q b) = h

pub after_a_look : (P : ℕ → Type 0) {k i q x : ℕ} → P (look_at k i false) → P (look_at k i true) → Outcome k (Look i q) x → P x
after_a_look P f t (after_look i q false) = f
after_a_look P f t (after_look i q true) = t

pub leads_to : {k x : ℕ} {a : Act} (f : ℕ → Bool) → T (leads f k a) → Outcome k a x → T (f x)
leads_to f h (after_set_case i q b) = h
leads_to {k} f h (after_look i q false) = and_left (f (look_at k i false)) (f (look_at k i true)) h
leads_to {k} f h (after_look i q true) = and_right (f (look_at k i false)) (f (look_at k i true)) h

pub leads_in : (f : ℕ → Bool) (k : ℕ) (a : Act) → ((x : ℕ) → Outcome k a x → T (f x)) → T (leads f k a)
leads_in f k (Set i q b) h = h (set_to k i b) (after_set_case i q b)
leads_in f k (Look i q) h =
    and_in (f (look_at k i false)) (f (look_at k i true)) (h (look_at k i false) (after_look i q false)) (h (look_at k i true) (after_look i q true))

one_in : (f : Act → Bool) (a : Act) → T (f a) → T (one_of f (setting_of a) (post_of a))
one_in f (Set i q false) h = or_left (f (Set i q false)) (f (Set i q true) || f (Look i q)) h
one_in f (Set i q true) h =
    or_right (f (Set i q false)) (f (Set i q true) || f (Look i q)) (or_left (f (Set i q true)) (f (Look i q)) h)
one_in f (Look i q) h =
    or_right (f (Set i q false)) (f (Set i q true) || f (Look i q)) (or_right (f (Set i q true)) (f (Look i q)) h)

-- an act of n settings and eight posts at which f holds
abbrev pub Found : ℕ → (Act → Bool) → Type 0
Found n f = (a : Act) × T (f a) × (setting_of a < n) × (post_of a < 8)

one_out : (n : ℕ) (f : Act → Bool) (i q : ℕ) → i < n → q < 8 → T (one_of f i q) → Found n f
one_out n f i q hi hq h =
    elim (or_out (f (Set i q false)) (f (Set i q true) || f (Look i q)) h) [
      | inl l ↦ (Set i q false, l, hi, hq)
      | inr l ↦ elim (or_out (f (Set i q true)) (f (Look i q)) l) [
        | inl m ↦ (Set i q true, m, hi, hq)
        | inr m ↦ (Look i q, m, hi, hq)
      ]
    ]

pub some_in : (n : ℕ) (f : Act → Bool) (a : Act) → T (f a) → setting_of a < n → post_of a < 8 → T (some_act n f)
unfolding some_act
some_in n f a h hi hq =
    any_intro n (λ i. any 8 (λ q. one_of f i q)) (setting_of a) hi
    (any_intro 8 (λ q. one_of f (setting_of a) q) (post_of a) hq (one_in f a h))

pub some_out : (n : ℕ) (f : Act → Bool) → T (some_act n f) → Found n f
unfolding some_act
some_out n f h =
    let r = any_elim n (λ i. any 8 (λ q. one_of f i q)) h in
    let s = any_elim 8 (λ q. one_of f r.0 q) r.2 in
    one_out n f r.0 s.0 r.1 s.1 s.2

-- f at every act of n settings and eight posts
unfoldable pub every_act : ℕ → (Act → Bool) → Bool
unfolding all
every_act n f = all n (λ i. all 8 (λ q. f (Set i q false) && (f (Set i q true) && f (Look i q))))

pub every_at : (n : ℕ) (f : Act → Bool) (a : Act) → T (every_act n f) → setting_of a < n → post_of a < 8 → T (f a)
unfolding every_act
every_at n f a h hi hq =
    pick a (all-at 8 (three (setting_of a)) (all-at n (λ i. all 8 (three i)) h (setting_of a) hi) (post_of a) hq)
  where
    three : ℕ → ℕ → Bool
    three i q = f (Set i q false) && (f (Set i q true) && f (Look i q))

    pick : (a : Act) → T (three (setting_of a) (post_of a)) → T (f a)
    pick (Set i q false) t = and_left (f (Set i q false)) (f (Set i q true) && f (Look i q)) t
    pick (Set i q true) t =
        and_left (f (Set i q true)) (f (Look i q)) (and_right (f (Set i q false)) (f (Set i q true) && f (Look i q)) t)
    pick (Look i q) t =
        and_right (f (Set i q true)) (f (Look i q)) (and_right (f (Set i q false)) (f (Set i q true) && f (Look i q)) t)

pub can_in : (S : System) (f : ℕ → Bool) (k : ℕ) (a : Act) → T (may S k a) → ((x : ℕ) → Outcome k a x → T (f x)) → T (can S f k a)
can_in S f k a m h = and_in (may S k a) (leads f k a) m (leads_in f k a h)

pub can-may : (S : System) (f : ℕ → Bool) (k : ℕ) (a : Act) → T (can S f k a) → T (may S k a)
can-may S f k a h = and_left (may S k a) (leads f k a) h

pub can-at : (S : System) (f : ℕ → Bool) (k : ℕ) (a : Act) → T (can S f k a) → {x : ℕ} → Outcome k a x → T (f x)
can-at S f k a h o = leads_to f (and_right (may S k a) (leads f k a) h) o

-- "The rank of a knowledge state is the least height of a working plan from it": the same by computing, height by height, with no plan
-- in it. Layer h has the states from which a plan of height less than h works; that it has exactly these is proved (proofs/Layers).
-- "Less than" and not "at most", so that no state is in layer 0 and each layer comes from the one before by the same step.
use Rattle.std.specs.Prelude.{Bool, true, false, ◌&&◌, ◌||◌, ℕ, zero, suc}
use Rattle.ground.specs.Search.{any}
use Rattle.knowledge_acts.specs.Acts.{set_to, look_at}
use Rattle.knowledge_acts.specs.declared.act.Act.{Act}
use Rattle.knowledge_acts.specs.declared.act.Act.TheVariants.{Set, Look}
use Rattle.plan.specs.Plans.{System, may}

-- f at each outcome of the act: "A look has two outcomes"
abbrev pub leads : (ℕ → Bool) → ℕ → Act → Bool
leads f k (Set i q b) = f (set_to k i b)
leads f k (Look i q) = f (look_at k i false) && f (look_at k i true)

-- the act may be done at k, and f holds at each outcome
abbrev pub can : System → (ℕ → Bool) → ℕ → Act → Bool
can S f k a = may S k a && leads f k a

-- f at one of the three acts on a setting by a post
abbrev pub one_of : (Act → Bool) → ℕ → ℕ → Bool
one_of f i q = f (Set i q false) || (f (Set i q true) || f (Look i q))

-- f at some act of n settings and eight posts
unfoldable pub some_act : ℕ → (Act → Bool) → Bool
unfolding any
some_act n f = any n (λ i. any 8 (λ q. one_of f i q))

-- a working plan of height less than h exists from k: the goal's states, and those with an act whose outcomes are all in the layer before
unfoldable pub below : ℕ → System → ℕ → ℕ → Bool
below n S zero k = false
below n S (suc h) k = S.goal k || some_act n (can S (below n S h) k)

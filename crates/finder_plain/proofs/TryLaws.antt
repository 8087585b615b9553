-- What a try comes to: three tries for each setting cover all acts; where both outcomes have plans, there is a plan one higher; where one has none,
-- the try is blocked, and stays so while entries grow.
use mathlib.Core.Path.{◌≡◌, refl, sym, ap, ◌∙◌}
use mathlib.Core.Logic.{◌⊎◌, inl, inr}
use mathlib.Core.List.{List}
use mathlib.Core.Bool.{Bool, true, false}
use Prim.Native.Nat.{ℕ, zero, suc, ◌+◌, ◌*◌, ◌/◌, ◌%◌, ◌^◌, ◌≤◌, ◌<◌}
use native.Mathlib.Nat.{pow-le-pow_right}
use native.Mathlib.Omega.{arith}
use lib.Dec.{T, eqb, eqb→eq, lit<}
use lib.Arith.{digits_div, digits_mod}
use lib.ListN.{get_or}
use Rattle.ground.specs.Digits.{digit}
use Rattle.ground.proofs.Bools.{and_right}
use Rattle.knowledge_acts.specs.Acts.{setting_of, post_of, kind_of, of_kind, offered, set_to, look_at}
use Rattle.knowledge_acts.specs.declared.act.Act.{Act}
use Rattle.knowledge_acts.specs.declared.act.Act.TheVariants.{Set, Look}
use Rattle.knowledge_acts.proofs.Outcomes.{set_below, look_below}
use Rattle.book_block.specs.Rule.{rule}
use Rattle.book_block.specs.declared.rule.Right.TheVariants.{Look as look-rule}
use Rattle.knowledge.specs.Number.{digit_in, digits_of}
use Rattle.knowledge.specs.Judgement.{known}
use Rattle.knowledge.proofs.Number.{digit_in_lem}
use Rattle.plan.specs.Plans.{System, given, may, Lawful, Outcome, after_set_case, after_look}
use Rattle.plan.specs.Layers.{below}
use Rattle.plan.proofs.Layers.{layer_act}
use Rattle.question.specs.Permitted.{ruled}
use Rattle.question.proofs.PermitLaws.{look_given}
use Rattle.finder_plain.specs.Tries.{may_do, by_post, Someone, Asks, Blocked, Opens}
use Rattle.finder_plain.specs.Entries.{Grown}

-- ---- tries by number

-- the number of the try of an act
abbrev try_number : Act → ℕ
try_number a = setting_of a * 3 + kind_of a

kind_lt : (a : Act) → kind_of a < 3
kind_lt (Set i q false) = omega arith
kind_lt (Set i q true) = omega arith
kind_lt (Look i q) = omega arith

of_kind_lem : (a : Act) → by_post (of_kind (kind_of a) (setting_of a) 0) (post_of a) ≡ a
of_kind_lem (Set i q false) = refl
of_kind_lem (Set i q true) = refl
of_kind_lem (Look i q) = refl

-- every act on n settings is one of the 3 × n tries, by its post
pub covered : (n : ℕ) (a : Act) → setting_of a < n → (t : ℕ) × (t < 3 * n) × (by_post (of_kind (t % 3) (t / 3) 0) (post_of a) ≡ a)
covered n a l = (
  try_number a,
  omega (arith, kind_lt a),
  ap (λ (j : ℕ). by_post (of_kind j (try_number a / 3) 0) (post_of a)) (digits_mod (setting_of a) (kind_lt a))
      ∙ ap (λ (j : ℕ). by_post (of_kind (kind_of a) j 0) (post_of a)) (digits_div (setting_of a) (kind_lt a))
      ∙ of_kind_lem a,
)

-- a try's setting
pub try_setting : (kind i q : ℕ) → setting_of (of_kind kind i q) ≡ i
try_setting zero i q = refl
try_setting (suc zero) i q = refl
try_setting (suc (suc kind)) i q = refl

-- ---- what lies ahead

module _ {m : Act → Bool} {k : ℕ} {a : Act} {h : ℕ} where
  pub blocked_grown : {old new : List ℕ} → Grown old new → Blocked m old k a h → Blocked m new k a h
  blocked_grown g b = record {
    outcome = λ q t. let r = b.outcome q t in
        (r.0, r.1, elim r.2 [ inl e ↦ inl e | inr l ↦ inr (omega (arith, l, g.up r.0)) ]);
  }

  -- no post may
  pub nobody : {entries : List ℕ} → (Someone m a → ⊥) → ((q : ℕ) → T (m (by_post a q)) → q < 8) → Blocked m entries k a h
  nobody none few = record { outcome = λ q t. absurd (none record { post = q; few = few q t; allowed = t }) }

  module _ {x y : ℕ} (o : Opens m k a x y) where
    pub first-fails : {entries : List ℕ} → h ≤ get_or entries x 0 → Blocked m entries k a h
    first-fails l = record { outcome = λ q t. (x, o.first q, inr l) }

    pub second-fails : {entries : List ℕ} → h ≤ get_or entries y 0 → Blocked m entries k a h
    second-fails l = record { outcome = λ q t. (y, o.second q, inr l) }

pub both_work : {n : ℕ} {S : System} (law : Lawful n S) (h : ℕ) {k x y : ℕ} {a : Act} → Opens (may S k) k a x y → T (below n S h x) → T (below n S h y)
    → T (below n S (suc h) k)
both_work {n} {S} law h {k} {x} {y} {a} o s t =
    layer_act law h k (by_post a o.someone.post) o.someone.allowed (λ z e. elim (o.only o.someone.post z e) [
      | inl f ↦ rw f s
      | inr f ↦ rw f t
    ])

module _ {m : Act → Bool} {k i : ℕ} {entries : List ℕ} {h : ℕ} where
  -- an act that leads back to its own state is none
  pub set_back : (b : Bool) {x : ℕ} → x ≡ set_to k i b → x ≡ k → Blocked m entries k (Set i 0 b) h
  set_back b e s = record { outcome = λ q t. (set_to k i b, after_set_case i q b, inl (sym e ∙ s)) }

  pub set_far : (b : Bool) {x : ℕ} → x ≡ set_to k i b → h ≤ get_or entries x 0 → Blocked m entries k (Set i 0 b) h
  set_far b e l = record { outcome = λ q t. (set_to k i b, after_set_case i q b, inr (rw e at l)) }

  pub look_far : (b : Bool) {x : ℕ} → x ≡ look_at k i b → h ≤ get_or entries x 0 → Blocked m entries k (Look i 0) h
  look_far b e l = record { outcome = λ q t. (look_at k i b, after_look i q b, inr (rw e at l)) }

set-only : {k i q : ℕ} {b : Bool} {z : ℕ} → Outcome k (Set i q b) z → z ≡ set_to k i b
set-only (after_set_case i q b) = refl

look_only : {k i q z : ℕ} → Outcome k (Look i q) z → (z ≡ look_at k i false) ⊎ (z ≡ look_at k i true)
look_only (after_look i q false) = inl refl
look_only (after_look i q true) = inr refl

pub set_opens : {m : Act → Bool} {k i x : ℕ} (b : Bool) → x ≡ set_to k i b → Someone m (Set i 0 b) → Opens m k (Set i 0 b) x x
set_opens b e s = record {
  someone = s;
  first = λ q. rw e (after_set_case _ q b);
  second = λ q. rw e (after_set_case _ q b);
  only = λ q z o. inl (set-only o ∙ sym e);
}

pub look_opens : {m : Act → Bool} {k i x y : ℕ} → x ≡ look_at k i false → y ≡ look_at k i true → Someone m (Look i 0) → Opens m k (Look i 0) x y
look_opens e f s = record {
  someone = s;
  first = λ q. rw e (after_look _ q false);
  second = λ q. rw f (after_look _ q true);
  only = λ q z o. elim (look_only o) [ inl d ↦ inl (d ∙ sym e) | inr d ↦ inr (d ∙ sym f) ];
}

-- "look, where .. the digit is 0"
pub look_known : (n : ℕ) (book : List ℕ) (team held : ℕ) {k i h : ℕ} {entries : List ℕ} → (digit 7 k i ≡ 0 → ⊥) → Blocked (may_do n book team held k) entries k (Look i 0) h
look_known n book team held {k} {i} ne = record {
  outcome = λ q t.
      let g = and_right (offered n team (Look i q)) (given (ruled n book held (digit 7 k) (Look i q))) t in
      absurd (ne (eqb→eq (digit 7 k i) 0
      (and_right (known n (digit 7 k) (rule book i q look-rule)) (eqb (digit 7 k i) 0) (rw (look_given n book held (digit 7 k) i q) at g))));
}

-- ---- what is asked of a state and a setting

module _ {m : Act → Bool} {n k i : ℕ} {entries : List ℕ} (a : Asks m n k i entries) where
  pub small : k < 7 ^ 7
  small = omega (arith, a.state, pow-le-pow_right {n = 7} (lit< tt) {i = n} {j = 7} a.few)

  pub may-asks : (n ≤ 7) × (k < 7 ^ 7)
  may-asks = (a.few, small)

  -- what an act on the setting hands back is the number after it
  pub after_act : {x y : ℕ} → (k < 7 ^ 7 → i < 7 → x ≡ y) → x ≡ y
  after_act f = f small (omega (arith, a.few, a.setting))

  entry_of : {x : ℕ} → x < 7 ^ n → x < 823543
  entry_of l = omega (arith, l, pow-le-pow_right {n = 7} (lit< tt) {i = n} {j = 7} a.few)

  pub set-entry : (b : Bool) {x : ℕ} → x ≡ set_to k i b → x < 823543
  set-entry b e = rw e (entry_of (set_below k i b n a.state a.setting))

  pub look_entry : (b : Bool) {x : ℕ} → x ≡ look_at k i b → x < 823543
  look_entry b e = rw e (entry_of (look_below k i b n a.state a.setting))

  pub digit-here : {ds : List ℕ} {d : ℕ} → ds ≡ digits_of k → d ≡ digit_in ds i → d ≡ digit 7 k i
  digit-here e f = f ∙ ap (λ (l : List ℕ). digit_in l i) e ∙ digit_in_lem k i (omega (arith, a.few, a.setting))

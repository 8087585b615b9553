-- The desk after a line that states a right holds what the rules then state: one slot changes, and the rest stays.
use mathlib.Core.Path.{◌≡◌, refl, sym, ap, ◌∙◌, subst}
use mathlib.Core.Logic.{inl, inr}
use mathlib.Core.Bool.{Bool, true, false, not, ◌&&◌, ◌||◌, cond}
use mathlib.Core.List.{List, [], ◌∷◌, ◌++◌}
use Prim.Native.Nat.{ℕ, ◌+◌, ◌*◌, ◌≤◌, ◌<◌}
use native.Mathlib.Omega.{arith}
use lib.Dec.{T, eqb, ltb, eqb→eq, lt→ltb}
use lib.ListN.{length, get_or, set, length-set}
use lib.Seq.{sets, length-sets, get_or-set_same, get_or-set_other}
use Rattle.ground.proofs.Bools.{and_in, and_left, and_right, decide, both, T→true, T→false, eq→eqb, or_true, or_false}
use Rattle.formula.specs.Read.{Accepts}
use Rattle.book_block.specs.declared.rule.Right.{Right}
use Rattle.book_block.specs.declared.rule.Right.TheVariants.{Look, Set}
use Rattle.sheet_words.proofs.NameLaws.{or_assoc}
use Rattle.sheet_rules.specs.Rules.{Size, Rule, Rules, with_rule, same_right, concerns, is_stated, unstated, rule_text}
use Rattle.sheet_rules.specs.Desk.{slot_of, table_in, mark_of, Filled, in_size, RulesOnDesk, OnDesk}
use Rattle.sheet_rules.specs.Turns.{rules_laid, ruled_desk}
use Rattle.sheet_rules.specs.declared.desk.RulesDesk.{RulesDesk}
use Rattle.sheet_rules.proofs.SlotLaws.{slot_small, slot_one, own_slot, other_slot}

-- ---- one right more

stated_snoc : (rs : List Rule) (r : Rule) (right : Right) (i q : ℕ) → is_stated (rs ++ (r ∷ [])) right i q ≡ (is_stated rs right i q || concerns r right i q)
unfolding is_stated
stated_snoc [] r right i q = or_false (concerns r right i q)
stated_snoc (s ∷ rs) r right i q = ap (λ (b : Bool). concerns s right i q || b) (stated_snoc rs r right i q) ∙ sym (or_assoc (concerns s right i q) (is_stated rs right i q) (concerns r right i q))

text-other : (rs : List Rule) (r : Rule) (right : Right) (i q : ℕ) → concerns r right i q ≡ false → rule_text (rs ++ (r ∷ [])) right i q ≡ rule_text rs right i q
unfolding rule_text
text-other [] r right i q e = ap (λ (b : Bool). cond b r.text (unstated right)) e
text-other (s ∷ rs) r right i q e = ap (λ (t : List ℕ). cond (concerns s right i q) s.text t) (text-other rs r right i q e)

or_none : (a b : Bool) → (a || b) ≡ false → (a ≡ false) × (b ≡ false)
or_none true b e = let z : ◌≡◌ {A = ℕ} 0 1 = cc in absurd (omega arith)
or_none false b e = (refl, e)

text_same : (rs : List Rule) (r : Rule) (right : Right) (i q : ℕ) → is_stated rs right i q ≡ false → concerns r right i q ≡ true → rule_text (rs ++ (r ∷ [])) right i q ≡ r.text
unfolding rule_text is_stated
text_same [] r right i q n e = ap (λ (b : Bool). cond b r.text (unstated right)) e
text_same (s ∷ rs) r right i q n e =
    let z = or_none (concerns s right i q) (is_stated rs right i q) n in
    ap (λ (b : Bool). cond b s.text (rule_text (rs ++ (r ∷ [])) right i q)) z.0 ∙ text_same rs r right i q z.1 e

same-right : (a b : Right) → T (same_right a b) → a ≡ b
unfolding same_right
same-right Look Look t = refl
same-right Set Set t = refl
same-right Look Set t = elim t [ ]
same-right Set Look t = elim t [ ]

-- two rights that a rule concerns are one
concerned : (rs : List Rule) (r : Rule) (right : Right) (i q : ℕ) → T (concerns r right i q) → is_stated rs r.right r.setting r.post ≡ is_stated rs right i q
unfolding concerns
concerned rs r right i q t =
    let u = and_left (same_right r.right right && eqb r.setting i) (eqb r.post q) t in
    let e = same-right r.right right (and_left (same_right r.right right) (eqb r.setting i) u) in
    let f = eqb→eq r.setting i (and_right (same_right r.right right) (eqb r.setting i) u) in
    let g = eqb→eq r.post q (and_right (same_right r.right right && eqb r.setting i) (eqb r.post q) t) in
    cc

slot_concerns : (r : Rule) (right : Right) (i q : ℕ) → r.post < 8 → q < 8 → slot_of r.right r.setting r.post ≡ slot_of right i q → T (concerns r right i q)
unfolding concerns
slot_concerns r right i q h k e =
    let s = slot_one r.right right r.setting i r.post q h k e in
    and_in (same_right r.right right && eqb r.setting i) (eqb r.post q)
    (and_in (same_right r.right right) (eqb r.setting i) s.0 (eq→eqb s.1))
    (eq→eqb s.2)

slot_same : (r : Rule) (right : Right) (i q : ℕ) → T (concerns r right i q) → slot_of right i q ≡ slot_of r.right r.setting r.post
unfolding concerns
slot_same r right i q t =
    let u = and_left (same_right r.right right && eqb r.setting i) (eqb r.post q) t in
    let e = same-right r.right right (and_left (same_right r.right right) (eqb r.setting i) u) in
    let f = eqb→eq r.setting i (and_right (same_right r.right right) (eqb r.setting i) u) in
    let g = eqb→eq r.post q (and_right (same_right r.right right && eqb r.setting i) (eqb r.post q) t) in
    cc

-- a right's setting and post, where a rule concerns it
concerned_size : (r : Rule) (right : Right) (i q : ℕ) → T (concerns r right i q) → (r.setting ≡ i) × (r.post ≡ q)
unfolding concerns
concerned_size r right i q t =
    let u = and_left (same_right r.right right && eqb r.setting i) (eqb r.post q) t in
    (eqb→eq r.setting i (and_right (same_right r.right right) (eqb r.setting i) u), eqb→eq r.post q (and_right (same_right r.right right && eqb r.setting i) (eqb r.post q) t))

in_size_lem : (n m i q : ℕ) → i < n → q < m → in_size n m i q ≡ true
in_size_lem n m i q h k = T→true (in_size n m i q) (and_in (ltb i n) (ltb q m) (lt→ltb i n h) (lt→ltb q m k))

-- a table that is known by equations
filled_as : (inside : Bool) (n : ℕ) {F G t u : List ℕ} → F ≡ G → t ≡ u → Filled inside n G u → Filled inside n F t
filled_as inside n {F} {G} {t} {u} e f s = subst (λ (X : List ℕ). Filled inside n X t) (sym e) (subst (Filled inside n G) (sym f) s)

module _ (rules : List Rule) (d : RulesDesk) (size : Size) (h : RulesOnDesk size rules d) (r : Rule) (t : List ℕ) (setting : r.setting < d.settings) (post : r.post < d.posts)
    (new : is_stated rules r.right r.setting r.post ≡ false) (sixteen : length t ≡ 16) (a : Accepts d.settings r.text t) where
  own : ℕ
  own = slot_of r.right r.setting r.post

  small : own < 112
  unfolding own
  small = slot_small r.right r.setting r.post (omega (arith, setting, h.settings_most)) (omega (arith, post, h.posts_most))

  room : 16 * own + length t ≤ length d.rights
  room = omega (arith, small, h.rights_size, sixteen)

  not_yet : (right : Right) (i q : ℕ) → T (concerns r right i q) → is_stated rules right i q ≡ false
  not_yet right i q c = subst (λ (x : Bool). x ≡ false) (concerned rules r right i q c) new

  own-table : table_in (sets d.rights (16 * own) t) own ≡ t
  own-table = own_slot d.rights t own sixteen (omega (arith, small, h.rights_size))

  apart : (right : Right) (i q : ℕ) → q < 8 → T (not (concerns r right i q)) → own ≡ slot_of right i q → ⊥
  unfolding own
  apart right i q y c e = both (concerns r right i q) (slot_concerns r right i q (omega (arith, post, h.posts_most)) y e) c

  other-table : (right : Right) (i q : ℕ) → i < 7 → q < 8 → T (not (concerns r right i q))
      → table_in (sets d.rights (16 * own) t) (slot_of right i q) ≡ table_in d.rights (slot_of right i q)
  other-table right i q x y c =
      other_slot d.rights t own sixteen (slot_of right i q) (omega (arith, slot_small right i q x y, h.rights_size)) (λ e. apart right i q y c (sym e))

  -- the right that the rule concerns, or another
  stated-after : (right : Right) (i q : ℕ) (b : Bool) → concerns r right i q ≡ b → is_stated (rules ++ (r ∷ [])) right i q ≡ (is_stated rules right i q || b)
  stated-after right i q b e = stated_snoc rules r right i q ∙ ap (λ (b : Bool). is_stated rules right i q || b) e

  marks-after : (right : Right) (i q : ℕ) → i < 7 → q < 8 → get_or (set d.stated own 1) (slot_of right i q) 0 ≡ mark_of (is_stated (rules ++ (r ∷ [])) right i q)
  unfolding own
  marks-after right i q x y = elim (decide (concerns r right i q)) [
    | inl c ↦ ap (λ (k : ℕ). get_or (set d.stated own 1) k 0) (slot_same r right i q c)
        ∙ get_or-set_same d.stated own 1 0 (subst (λ (k : ℕ). own < k) (sym h.stated_size) small)
        ∙ ap mark_of (sym (stated-after right i q true (T→true (concerns r right i q) c) ∙ or_true (is_stated rules right i q)))
    | inr c ↦ get_or-set_other d.stated own (slot_of right i q) 1 0 (λ e. apart right i q y c (sym e))
        ∙ h.marks right i q x y
        ∙ ap mark_of (sym (stated-after right i q false (T→false (concerns r right i q) c) ∙ or_false (is_stated rules right i q)))
  ]

  own-filled : (right : Right) (i q : ℕ) → T (concerns r right i q)
      → Filled (in_size d.settings d.posts i q) d.settings (rule_text (rules ++ (r ∷ [])) right i q) (table_in (sets d.rights (16 * own) t) (slot_of right i q))
  unfolding own
  own-filled right i q c =
      let s = concerned_size r right i q c in
      let inside = in_size_lem d.settings d.posts i q (omega (arith, setting, s.0)) (omega (arith, post, s.1)) in
      subst (λ (b : Bool). Filled b d.settings (rule_text (rules ++ (r ∷ [])) right i q) (table_in (sets d.rights (16 * own) t) (slot_of right i q))) (sym inside)
      (filled_as true d.settings (text_same rules r right i q (not_yet right i q c) (T→true (concerns r right i q) c))
      (ap (table_in (sets d.rights (16 * own) t)) (slot_same r right i q c) ∙ own-table) a)

  tables_after : (right : Right) (i q : ℕ) → i < 7 → q < 8
      → Filled (in_size d.settings d.posts i q) d.settings (rule_text (rules ++ (r ∷ [])) right i q) (table_in (sets d.rights (16 * own) t) (slot_of right i q))
  tables_after right i q x y = elim (decide (concerns r right i q)) [
    | inl c ↦ own-filled right i q c
    | inr c ↦ filled_as (in_size d.settings d.posts i q) d.settings (text-other rules r right i q (T→false (concerns r right i q) c)) (other-table right i q x y c)
        (h.tables right i q x y)
  ]

  rules-after : RulesOnDesk size (rules ++ (r ∷ []))
      (rules_laid d.settings d.posts (sets d.rights (16 * slot_of r.right r.setting r.post) t)
      (set d.stated (slot_of r.right r.setting r.post) 1))
  unfolding own
  rules-after = record {
    settings = h.settings;
    posts = h.posts;
    settings_least = h.settings_least;
    settings_most = h.settings_most;
    posts_least = h.posts_least;
    posts_most = h.posts_most;
    rights_size = length-sets d.rights (16 * own) t ∙ h.rights_size;
    stated_size = length-set d.stated own 1 ∙ h.stated_size;
    marks = marks-after;
    tables = tables_after;
  }

-- the desk with the rule's table holds the rules with the rule
pub holds-rule : (rules : Rules) (d : RulesDesk) → OnDesk rules d → (r : Rule) (t : List ℕ) → r.setting < d.settings → r.post < d.posts
    → is_stated rules.rules r.right r.setting r.post ≡ false → length t ≡ 16 → Accepts d.settings r.text t
    → OnDesk (with_rule rules r) (ruled_desk d (slot_of r.right r.setting r.post) t)
unfolding with_rule ruled_desk
holds-rule rules d h r t setting post new sixteen a = rules-after rules.rules d rules.size h r t setting post new sixteen a

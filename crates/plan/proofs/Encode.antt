-- The bytes of a plan tell the plan, and no plan's bytes begin another's: the first byte tells the act, and so where what follows
-- begins.
use mathlib.Core.Path.{◌≡◌, refl, sym, ap, ◌∙◌}
use mathlib.Core.List.{List, [], ◌∷◌, ◌++◌, append_assoc}
use mathlib.Core.Bool.{true, false}
use Prim.Native.Nat.{ℕ, ◌≤◌}
use native.Mathlib.Omega.{arith}
use lib.Dec.{T}
use Rattle.knowledge_acts.specs.Acts.{byte_of, set_to, look_at}
use Rattle.knowledge_acts.specs.declared.act.Act.{Act}
use Rattle.knowledge_acts.specs.declared.act.Act.TheVariants.{Set, Look}
use Rattle.plan.specs.Plans.{System, may, Lawful, Plan, stop, set_then, look_then, Permitted}
use Rattle.plan.specs.Bytes.{encode}
use Rattle.plan.proofs.Bytes.{byte_injective, byte_positive}

module _ {n : ℕ} {S : System} (law : Lawful n S) (few : n ≤ 7) where
  one_act : (k : ℕ) (a c : Act) → T (may S k a) → T (may S k c) → byte_of a ≡ byte_of c → a ≡ c
  one_act k a c m l e =
      byte_injective a c (omega (arith, law.setting_of_case k a m)) (law.post_of_case k a m) (omega (arith, law.setting_of_case k c l)) (law.post_of_case k c l) e

  no_act : {A : Type 0} {s t : List ℕ} (a : Act) → 0 ∷ s ≡ byte_of a ∷ t → A
  no_act a e = let z : 0 ≡ byte_of a = cc in absurd (omega (arith, byte_positive a))

  pub prefix_free : (p r : Plan) (k : ℕ) → Permitted S k p → Permitted S k r → (s t : List ℕ) → encode p ++ s ≡ encode r ++ t → (p ≡ r) × (s ≡ t)
  prefix_free stop stop k a b s t e = (refl, cc)
  prefix_free stop (set_then j m d y) k a b s t e = no_act (Set j m d) e
  prefix_free stop (look_then j m y z) k a b s t e = no_act (Look j m) e
  prefix_free (set_then i q c p) stop k a b s t e = no_act (Set i q c) (sym e)
  prefix_free (set_then i q c p) (set_then j m d y) k a b s t e =
      let byte : byte_of (Set i q c) ≡ byte_of (Set j m d) = cc in
      let f = one_act k (Set i q c) (Set j m d) a.0 b.0 byte in
      let ei : i ≡ j = cc f in
      let ec : c ≡ d = cc f in
      let tail : encode p ++ s ≡ encode y ++ t = cc in
      let ih = prefix_free p y (set_to k i c) a.1 (rw (ei, ec) b.1) s t tail in
      (cc (f, ih.0), ih.1)
  prefix_free (set_then i q c p) (look_then j m y z) k a b s t e =
      let byte : byte_of (Set i q c) ≡ byte_of (Look j m) = cc in
      let f = one_act k (Set i q c) (Look j m) a.0 b.0 byte in
      (cc f, cc f)
  prefix_free (look_then i q p r) stop k a b s t e = no_act (Look i q) (sym e)
  prefix_free (look_then i q p r) (set_then j m d y) k a b s t e =
      let byte : byte_of (Look i q) ≡ byte_of (Set j m d) = cc in
      let f = one_act k (Look i q) (Set j m d) a.0 b.0 byte in
      (cc f, cc f)
  prefix_free (look_then i q p r) (look_then j m y z) k a b s t e =
      let byte : byte_of (Look i q) ≡ byte_of (Look j m) = cc in
      let f = one_act k (Look i q) (Look j m) a.0 b.0 byte in
      let ei : i ≡ j = cc f in
      let tail : encode p ++ encode r ++ s ≡ encode y ++ encode z ++ t = cc in
      let left = prefix_free p y (look_at k i false) a.1 (rw ei b.1) (encode r ++ s) (encode z ++ t)
      (sym (append_assoc (encode p) (encode r) s) ∙ tail ∙ append_assoc (encode y) (encode z) t) in
      let right = prefix_free r z (look_at k i true) a.2 (rw ei b.2) s t left.1 in
      (cc (f, left.0, right.0), right.1)

  pub encode_injective : (p r : Plan) (k : ℕ) → Permitted S k p → Permitted S k r → encode p ≡ encode r → p ≡ r
  encode_injective p r k a b e = (prefix_free p r k a b [] [] (ap (λ (x : List ℕ). x ++ []) e)).0

-- The grammar is unambiguous in meaning: a unit is delimited by its own bytes, a product ends where no `&` follows and a sum where neither `&` nor
-- `|` does. So two sentences that begin one text and end at such places end at the same place and mean the same, by recursion on the sentence.
use mathlib.Core.Path.{◌≡◌, refl, sym, ap, ap₂, ◌∙◌}
use mathlib.Core.List.{List, [], ◌∷◌, ◌++◌, append_assoc}
use mathlib.Core.Bool.{not, ◌&&◌, ◌||◌}
use Prim.Native.Nat.{ℕ}
use native.Mathlib.Omega.{arith}
use lib.ListN.{get_or, drop}
use Rattle.ground.specs.Digits.{bit}
use Rattle.formula_grammar.specs.Grammar.{Kind, sum, product, unit, Sentence, letter, nought, one, negated, bracketed, one_unit, unit_and, one_product, product_or, text, meaning}

-- no `&`, no `|` at the head
abbrev pub Apart : ℕ → List ℕ → Type 0
Apart c s = get_or s 0 0 ≡ c → ⊥

-- what may follow a part of each kind
abbrev pub Ends : Kind → List ℕ → Type 0
Ends unit s = Unit {0}
Ends product s = Apart 38 s
Ends sum s = Apart 38 s × Apart 124 s

pub heads : {a b : ℕ} {s t : List ℕ} → a ∷ s ≡ b ∷ t → a ≡ b
heads e = ap (λ (l : List ℕ). get_or l 0 0) e

pub tails : {a b : ℕ} {s t : List ℕ} → a ∷ s ≡ b ∷ t → s ≡ t
tails e = ap (λ (l : List ℕ). drop 1 l) e

abbrev pub Same : (k : Kind) → Sentence k → Sentence k → List ℕ → List ℕ → Type 0
Same k a b x y = ((v : ℕ) → meaning a v ≡ meaning b v) × (x ≡ y)

-- with the bracket that closes it put to what follows
closing : (a b : Sentence sum) (x y : List ℕ) → (text a ++ 41 ∷ []) ++ x ≡ (text b ++ 41 ∷ []) ++ y → text a ++ 41 ∷ x ≡ text b ++ 41 ∷ y
closing a b x y e = sym (append_assoc (text a) (41 ∷ []) x) ∙ e ∙ append_assoc (text b) (41 ∷ []) y

pub same : {k : Kind} (a b : Sentence k) (x y : List ℕ) → Ends k x → Ends k y → text a ++ x ≡ text b ++ y → Same k a b x y
unfolding text meaning
same (letter i h) (letter j k) x y m n e = (λ v. ap (bit v) (omega (arith, heads e)), tails e)
same (letter i h) nought x y m n e = absurd (omega (arith, heads e))
same (letter i h) one x y m n e = absurd (omega (arith, heads e))
same (letter i h) (negated b) x y m n e = absurd (omega (arith, heads e))
same (letter i h) (bracketed b) x y m n e = absurd (omega (arith, heads e))
same nought (letter j k) x y m n e = absurd (omega (arith, heads e))
same nought nought x y m n e = (λ v. refl, tails e)
same nought one x y m n e = absurd (omega (arith, heads e))
same nought (negated b) x y m n e = absurd (omega (arith, heads e))
same nought (bracketed b) x y m n e = absurd (omega (arith, heads e))
same one (letter j k) x y m n e = absurd (omega (arith, heads e))
same one nought x y m n e = absurd (omega (arith, heads e))
same one one x y m n e = (λ v. refl, tails e)
same one (negated b) x y m n e = absurd (omega (arith, heads e))
same one (bracketed b) x y m n e = absurd (omega (arith, heads e))
same (negated a) (letter j k) x y m n e = absurd (omega (arith, heads e))
same (negated a) nought x y m n e = absurd (omega (arith, heads e))
same (negated a) one x y m n e = absurd (omega (arith, heads e))
same (negated a) (negated b) x y m n e = (let r = same a b x y m n (tails e) in (λ v. ap not (r.0 v), r.1))
same (negated a) (bracketed b) x y m n e = absurd (omega (arith, heads e))
same (bracketed a) (letter j k) x y m n e = absurd (omega (arith, heads e))
same (bracketed a) nought x y m n e = absurd (omega (arith, heads e))
same (bracketed a) one x y m n e = absurd (omega (arith, heads e))
same (bracketed a) (negated b) x y m n e = absurd (omega (arith, heads e))
same (bracketed a) (bracketed b) x y m n e =
    (let r = same a b (41 ∷ x) (41 ∷ y) (λ q. omega (arith, q), λ q. omega (arith, q)) (λ q. omega (arith, q), λ q. omega (arith, q)) (closing a b x y (tails e)) in (r.0, tails r.1))
same (one_unit a) (one_unit b) x y m n e = same a b x y tt tt e
same (one_unit a) (unit_and b q) x y m n e =
    absurd (m (ap (λ (l : List ℕ). get_or l 0 0) (same a b x (38 ∷ text q ++ y) tt tt (e ∙ append_assoc (text b) (38 ∷ text q) y)).1))
same (unit_and a p) (one_unit b) x y m n e =
    absurd (n (ap (λ (l : List ℕ). get_or l 0 0) (sym (same a b (38 ∷ text p ++ x) y tt tt (sym (append_assoc (text a) (38 ∷ text p) x) ∙ e)).1)))
same (unit_and a p) (unit_and b q) x y m n e =
    (let r = same a b (38 ∷ text p ++ x) (38 ∷ text q ++ y) tt tt (sym (append_assoc (text a) (38 ∷ text p) x) ∙ e ∙ append_assoc (text b) (38 ∷ text q) y) in
    let s = same p q x y m n (tails r.1) in (λ v. ap₂ ◌&&◌ (r.0 v) (s.0 v), s.1))
same (one_product a) (one_product b) x y m n e = same a b x y m.0 n.0 e
same (one_product a) (product_or b q) x y m n e =
    absurd (m.1 (ap (λ (l : List ℕ). get_or l 0 0) (same a b x (124 ∷ text q ++ y) m.0 (λ z. omega (arith, z)) (e ∙ append_assoc (text b) (124 ∷ text q) y)).1))
same (product_or a p) (one_product b) x y m n e =
    absurd (n.1 (ap (λ (l : List ℕ). get_or l 0 0) (sym (same a b (124 ∷ text p ++ x) y (λ z. omega (arith, z)) n.0 (sym (append_assoc (text a) (124 ∷ text p) x) ∙ e)).1)))
same (product_or a p) (product_or b q) x y m n e =
    (let r = same a b (124 ∷ text p ++ x) (124 ∷ text q ++ y) (λ z. omega (arith, z)) (λ z. omega (arith, z))
    (sym (append_assoc (text a) (124 ∷ text p) x) ∙ e ∙ append_assoc (text b) (124 ∷ text q) y) in
    let s = same p q x y m n (tails r.1) in (λ v. ap₂ ◌||◌ (r.0 v) (s.0 v), s.1))

-- two sentences with one text have one meaning
pub unambiguous : (a b : Sentence sum) → text a ≡ text b → (v : ℕ) → meaning a v ≡ meaning b v
unambiguous a b e = (same a b [] [] (λ q. omega (arith, q), λ q. omega (arith, q)) (λ q. omega (arith, q), λ q. omega (arith, q)) (ap (λ (t : List ℕ). t ++ []) e)).0

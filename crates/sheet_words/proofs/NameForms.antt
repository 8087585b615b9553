-- A name taken apart: a word that passes the test is the sign of what it names, with or without `~` in front.
use mathlib.Core.Path.{◌≡◌, refl, sym, ap, ◌∙◌}
use mathlib.Core.List.{List, [], ◌∷◌}
use mathlib.Core.Bool.{Bool, true, not, ◌&&◌, ◌||◌}
use Prim.Native.Nat.{ℕ, ◌+◌, ◌-◌, ◌≤◌, ◌<◌}
use native.Mathlib.Omega.{arith}
use lib.Dec.{T, eqb, leb, ltb, eqb→eq, leb→le, le→leb, ltb→lt, lt→ltb, not_T}
use lib.ListN.{length, get_or}
use Rattle.ground.proofs.Bools.{T→true, T→false, and_in, and_left, and_right}
use Rattle.sheet_words.specs.Words.{among, is_false, bare, is_name, index_of}

-- ---- tests of three and of five parts, taken apart

pub three : (a b c : Bool) → T (a && b && c) → T a × T b × T c
three true true c h = (tt, tt, h)
three mathlib.Core.Bool.false b c h = elim h [ ]
three true mathlib.Core.Bool.false c h = elim h [ ]

pub five : (a b c d e : Bool) → T (a && b && c && d && e) → T a × T b × T c × T d × T e
five true true true true e h = (tt, tt, tt, tt, h)
five mathlib.Core.Bool.false b c d e h = elim h [ ]
five true mathlib.Core.Bool.false c d e h = elim h [ ]
five true true mathlib.Core.Bool.false d e h = elim h [ ]
five true true true mathlib.Core.Bool.false e h = elim h [ ]

-- ---- one sign

pub among_in : (first count c : ℕ) → first ≤ c → c < first + count → T (among first count c)
unfolding among
among_in first count c low high = and_in (leb first c) (ltb c (first + count)) (le→leb first c low) (lt→ltb c (first + count) high)

pub between : (first count c : ℕ) → T (among first count c) → (first ≤ c) × (c < first + count)
unfolding among
between first count c h =
    (leb→le first c (and_left (leb first c) (ltb c (first + count)) h), ltb→lt c (first + count) (and_right (leb first c) (ltb c (first + count)) h))

pub among_out : (first count c : ℕ) → T (among first count c) → (first + (c - first) ≡ c) × (c - first < count)
among_out first count c h = let b = between first count c h in (omega (arith, b.0), omega (arith, b.0, b.1))

-- ---- one word

one_byte : (s : List ℕ) → length s ≡ 1 → s ≡ get_or s 0 0 ∷ []
one_byte [] e = absurd (omega arith)
one_byte (c ∷ []) e = refl
one_byte (c ∷ d ∷ s) e = absurd (omega arith)

-- what a word is but for a `~` in front
pub bare-word : (signed : Bool) (first count : ℕ) (word : List ℕ) → T (is_name signed first count word) → (bare word ≡ (first + index_of first word) ∷ []) × (index_of first word < count)
unfolding is_name index_of
bare-word signed first count word h =
    let parts = three (signed || not (is_false word)) (eqb (length (bare word)) 1) (among first count (get_or (bare word) 0 0)) h in
    let sign = among_out first count (get_or (bare word) 0 0) parts.2 in
    (one_byte (bare word) (eqb→eq (length (bare word)) 1 parts.1) ∙ ap (λ (c : ℕ). c ∷ []) (sym sign.0), sign.1)

-- a word without it, and one with it
pub unsigned : (word : List ℕ) → T (not (is_false word)) → bare word ≡ word
unfolding bare
unsigned word h = rw (T→false (is_false word) h)

pub signed : (word : List ℕ) → T (is_false word) → 126 ∷ bare word ≡ word
unfolding bare is_false
signed [] h = absurd h
signed (c ∷ word) h = rw (T→true (eqb c 126) h) (ap (λ (x : ℕ). x ∷ word) (sym (eqb→eq c 126 h)))

-- a sign alone has no `~`
pub plain : (c : ℕ) → c < 126 → T (not (is_false (c ∷ [])))
unfolding is_false
plain c h = not_T (eqb c 126) (λ k. (let e = eqb→eq c 126 k in omega arith))

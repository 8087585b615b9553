-- Runs of bytes written one after the other: `sets` composes along `++`, and what was written is read back. By induction on the first run.
use mathlib.Core.Path.{◌≡◌, refl, sym, ap, ◌∙◌, subst}
use mathlib.Core.Logic.{⊎_elim}
use mathlib.Core.List.{List, [], ◌∷◌, ◌++◌, append_assoc}
use Prim.Native.Nat.{ℕ, zero, suc, ◌+◌, ◌-◌, ◌≤◌, ◌<◌, min}
use native.Mathlib.Nat.{add-zero, add-suc, suc-add, zero-add, min-eq_left, min-eq_right, not-suc-le-zero, le_of_suc-le-suc}
use native.Mathlib.Omega.{arith}
use native.Mathlib.Numerals.{add-one}
use Rattle.ground.proofs.Bools.{lt_or_ge}
use borrow.Rule.Slice.PartMut.{put_mid}
use Rattle.std.proofs.lemmas.Slice.{put_mid-paste}
use lib.ListN.{length, get_or, take, drop, set, length-take, length-drop, replicate, length-replicate, take-append-drop, get_or-append}
use lib.Seq.{ext_get_or, sets, sets-eq, length-take-le, take_all, take-take, take-suc, set_out, length-sets, get_or-append-add, get_or-take, get_or-drop}

pub sets-append : (l : List ℕ) (i : ℕ) (a b : List ℕ) → sets l i (a ++ b) ≡ sets (sets l i a) (i + length a) b
sets-append l i [] b = rw add-zero
sets-append l i (x ∷ a) b = rw (add-suc, ← suc-add) (sets-append (set l i x) (suc i) a b)

-- a run of k bytes, and one byte more
pub sets_snoc : (l : List ℕ) (i : ℕ) (a : List ℕ) (k v : ℕ) → length a ≡ k → set (sets l i a) (i + k) v ≡ sets l i (a ++ v ∷ [])
sets_snoc l i a k v e = ap (λ (n : ℕ). set (sets l i a) (i + n) v) (sym e) ∙ sym (sets-append l i a (v ∷ []))

-- what was written is there
pub get_d_sets : (l : List ℕ) (i : ℕ) (vs : List ℕ) (j : ℕ) → i + length vs ≤ length l → j < length vs → get_or (sets l i vs) (i + j) 0 ≡ get_or vs j 0
get_d_sets l i vs j h k =
    let e : length (take i l) ≡ i = length-take-le i l (omega arith) in
    ap (λ (s : List ℕ). get_or s (i + j) 0) (sets-eq vs l i h ∙ append_assoc (take i l) vs (drop (i + length vs) l))
    ∙ ap (λ (n : ℕ). get_or (take i l ++ (vs ++ drop (i + length vs) l)) (n + j) 0) (sym e)
    ∙ get_or-append-add (take i l) (vs ++ drop (i + length vs) l) j 0
    ∙ get_or-append vs (drop (i + length vs) l) 0 j k

-- a run from the start of a room: the run, and then what the room held past it
pub sets_front : (l vs : List ℕ) → length vs ≤ length l → sets l 0 vs ≡ vs ++ drop (length vs) l
sets_front l vs h = sets-eq vs l 0 (omega arith) ∙ rw zero-add

-- a room that is filled from its first byte, k bytes far
pub filled : (room after text : List ℕ) (k : ℕ) → length text ≡ k → k ≤ length room → after ≡ sets room 0 text → after ≡ text ++ drop k room
filled room after text k e h p =
    p ∙ sets_front room text (omega arith) ∙ ap (λ (n : ℕ). text ++ drop n room) e

-- byte j of a part
pub get_d_part : (l : List ℕ) (from n j : ℕ) → j < n → get_or (take n (drop from l)) j 0 ≡ get_or l (from + j) 0
get_d_part l from n j h = get_or-take n (drop from l) j 0 h ∙ get_or-drop from l j 0

-- one turn of a loop that writes `text` byte by byte, and its end
pub write_step : (room₀ room text : List ℕ) (to i v : ℕ) → i < length text → get_or text i 0 ≡ v → room ≡ sets room₀ to (take i text) → set room (to + i) v ≡ sets room₀ to (take (i + 1) text)
write_step room₀ room text to i v h e inv =
    ap (λ (s : List ℕ). set s (to + i) v) inv
    ∙ sets_snoc room₀ to (take i text) i v (length-take-le i text (omega arith))
    ∙ ap (λ (x : ℕ). sets room₀ to (take i text ++ x ∷ [])) (sym e)
    ∙ ap (sets room₀ to) (sym (take-suc text i 0 h) ∙ ap (λ (k : ℕ). take k text) (sym (add-one i)))

pub write_done : (room₀ room text : List ℕ) (to i : ℕ) → length text ≤ i → room ≡ sets room₀ to (take i text) → room ≡ sets room₀ to text
write_done room₀ room text to i h inv = inv ∙ ap (sets room₀ to) (take_all i text h)

-- what is written to a part of a room that is lent as a slice of its own: k bytes from `at` on
pub put_sets : (at k : ℕ) (room after run : List ℕ) → after ≡ run → length run ≡ k → at + k ≤ length room → put_mid at k room after ≡ sets room at run
put_sets at k room after run e len h =
    put_mid-paste at k room after run k e refl (sym len)
    ∙ ap (λ (s : List ℕ). take at room ++ s ++ drop (at + k) room) (take_all k run (omega arith))
    ∙ ap (λ (n : ℕ). take at room ++ run ++ drop (at + n) room) (sym len)
    ∙ sym (sets-eq run room at (omega arith))

-- the length of a part that is there
pub length_part : (l : List ℕ) (from n : ℕ) → from + n ≤ length l → length (take n (drop from l)) ≡ n
length_part l from n h = simp (length-take, length-drop) (omega arith)

pub length_part_there : (l : List ℕ) (from n : ℕ) → n ≤ length l - from → length (take n (drop from l)) ≡ n
length_part_there l from n h = simp (length-take, length-drop) (omega arith)

-- what would be written past the end of a room is not
pub sets-past : (l : List ℕ) (i : ℕ) (vs : List ℕ) → length l ≤ i → sets l i vs ≡ l
sets-past l i [] h = refl
sets-past l i (x ∷ vs) h = ap (λ (s : List ℕ). sets s (suc i) vs) (set_out l i x h) ∙ sets-past l (suc i) vs (omega arith)

-- so the bytes of a run that fit are as good as all of it
pub sets_clipped : (l : List ℕ) (i : ℕ) (vs : List ℕ) → sets l i (take (min (length vs) (length l - i)) vs) ≡ sets l i vs
sets_clipped l i vs =
    ⊎_elim
    (λ h. ap (λ k. sets l i (take k vs)) (min-eq_left {m = length l - i} (omega (arith, h))) ∙ ap (sets l i) (take_all (length vs) vs (omega arith)))
    (λ h. ap (λ k. sets l i (take k vs)) (min-eq_right h) ∙ sym (rest-past h))
    (lt_or_ge (length vs) (length l - i))
  where
    rest-past : length l - i ≤ length vs → sets l i vs ≡ sets l i (take (length l - i) vs)
    rest-past h =
        let k = length l - i in
        let e : length (take k vs) ≡ k = length-take-le k vs h in
        ap (sets l i) (sym (take-append-drop k vs))
        ∙ sets-append l i (take k vs) (drop k vs)
        ∙ sets-past (sets l i (take k vs)) (i + length (take k vs)) (drop k vs) (rw (length-sets, e) (omega arith))

take-replicate : (k count : ℕ) → k ≤ count → take {A = ℕ} k (replicate count 0) ≡ replicate k 0
take-replicate zero count h = refl
take-replicate (suc k) zero h = absurd (not-suc-le-zero h)
take-replicate (suc k) (suc count) h = ap (λ (s : List ℕ). 0 ∷ s) (take-replicate k count (le_of_suc-le-suc h))

-- a run that is taken as far as it is there and as it fits
pub copy_clipped : (source room : List ℕ) (from count to : ℕ)
    → sets room to (take (min (min count (length source - from)) (length room - to)) (drop from source)) ≡ sets room to (take count (drop from source))
copy_clipped source room from count to =
    let vs = take count (drop from source) in
    let e : length vs ≡ min count (length source - from) = simp (length-take, length-drop) refl in
    let k = min (min count (length source - from)) (length room - to) in
    ap (sets room to) (sym (take-take k count (drop from source) (omega arith)))
    ∙ ap (λ n. sets room to (take (min n (length room - to)) vs)) (sym e)
    ∙ sets_clipped room to vs

pub zeros_clipped : (room : List ℕ) (count to : ℕ) → sets room to (replicate (min count (length room - to)) 0) ≡ sets room to (replicate count 0)
zeros_clipped room count to =
    let vs : List ℕ = replicate count 0 in
    let k = min count (length room - to) in
    ap (sets room to) (sym (take-replicate k count (omega arith)))
    ∙ ap (λ n. sets room to (take (min n (length room - to)) vs)) (sym (length-replicate count 0))
    ∙ sets_clipped room to vs

-- two parts are equal where their bytes are
pub part_same : (a b : List ℕ) (i j w : ℕ) → i + w ≤ length a → j + w ≤ length b → ((o : ℕ) → o < w → get_or a (i + o) 0 ≡ get_or b (j + o) 0) → take w (drop i a) ≡ take w (drop j b)
part_same a b i j w ha hb same =
    let la : length (take w (drop i a)) ≡ w = length_part a i w ha in
    let lb : length (take w (drop j b)) ≡ w = length_part b j w hb in
    ext_get_or 0 _ _ (la ∙ sym lb)
    (λ o k.
    let low : o < w = subst (λ n. o < n) la k in
    get_d_part a i w o low ∙ same o low ∙ sym (get_d_part b j w o low))

-- ---- lists in order

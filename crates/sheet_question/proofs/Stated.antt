-- What a question's lines say of what is made of them: a setting that is known to be true is known; and the tables of its `ask` lines are as long as they are
-- many, each within the settings.
use mathlib.Core.Path.{◌≡◌, sym, ap, ◌∙◌, subst}
use mathlib.Core.Logic.{inl, inr}
use mathlib.Core.Bool.{Bool, true, false, cond}
use mathlib.Core.List.{List, [], ◌∷◌, ◌++◌}
use Prim.Native.Nat.{ℕ, zero, suc, ◌+◌, ◌*◌, ◌<◌}
use native.Mathlib.Omega.{arith}
use lib.Dec.{T, eqb}
use lib.ListN.{length, take, drop, length-append}
use lib.Seq.{take_at, drop-append-add}
use Rattle.ground.specs.Table.{Within}
use Rattle.ground.proofs.Bools.{or_left, or_right, or_out}
use Rattle.knowledge.specs.Goal.{learn_table}
use Rattle.sheet_words.specs.Words.{member}
use Rattle.sheet_question.specs.Asked.{Known, known_settings, known_true}
use Rattle.sheet_question.specs.Desk.{TablesOf}

-- a setting that is known to be true is known
true_step : (b : Bool) (s i : ℕ) (xs ys : List ℕ) → (T (member i xs) → T (member i ys)) → T (member i (cond b (s ∷ xs) xs)) → T (member i (s ∷ ys))
unfolding member
true_step true s i xs ys f t = elim (or_out (eqb s i) (member i xs) t) [
  | inl e ↦ or_left (eqb s i) (member i ys) e
  | inr u ↦ or_right (eqb s i) (member i ys) (f u)
]
true_step false s i xs ys f t = or_right (eqb s i) (member i ys) (f t)

pub true_known : (ks : List Known) (i : ℕ) → T (member i (known_true ks)) → T (member i (known_settings ks))
unfolding known_true known_settings
true_known [] i t = t
true_known (k ∷ ks) i t = true_step k.value k.setting i (known_true ks) (known_settings ks) (true_known ks i) t

pub tables-length : (n : ℕ) (Fs : List (List ℕ)) (t : List ℕ) → TablesOf n Fs t → length t ≡ 16 * length Fs
tables-length n [] t e = omega (arith, ap length e)
tables-length n (F ∷ Fs) t (a, b, x, y, e) = omega (arith, ap length e, length-append a b, x.table.sixteen, tables-length n Fs b y)

pub tables-within : (n : ℕ) (Fs : List (List ℕ)) (t : List ℕ) (j : ℕ) → TablesOf n Fs t → j < length Fs → Within n (learn_table t j)
unfolding learn_table
tables-within n [] t j e l = absurd (omega arith)
tables-within n (F ∷ Fs) t zero (a, b, x, y, e) l =
    subst (Within n) (sym (ap (take 16) e ∙ take_at a b 16 x.table.sixteen)) x.table.within
tables-within n (F ∷ Fs) t (suc j) (a, b, x, y, e) l =
    let past : 16 * suc j ≡ length a + 16 * j = omega (arith, x.table.sixteen) in
    subst (λ (s : List ℕ). Within n (take 16 s))
    (sym (ap (drop (16 * suc j)) e ∙ ap (λ (k : ℕ). drop k (a ++ b)) past ∙ drop-append-add a b (16 * j)))
    (tables-within n Fs b j y (omega arith))

-- Cutting a text at its marks and joining the pieces with the mark undo one another: by induction on the text, a byte at a time.
use mathlib.Core.Path.{◌≡◌, refl, sym, ap, ◌∙◌, subst}
use mathlib.Core.Logic.{inl, inr}
use mathlib.Core.List.{List, [], ◌∷◌, ◌++◌, append-nil}
use Prim.Native.Nat.{ℕ, suc, ◌≤◌}
use native.Mathlib.Omega.{arith}
use lib.Dec.{eqb, eqb→eq, eqb_refl, not_T}
use lib.ListN.{length}
use mathlib.Core.Bool.{Bool, false, cond}
use denote.Param.Members.{Mut}
use denote.Ref.{Bor}
use Rattle.std.specs.Fn.{CalledAt}
use Rattle.std.specs.declared.slice.Split.{Split}
use Rattle.std.specs.Slice.Iter.{split_steps, split_rest, split_done, split_callee}
use Rattle.std.proofs.lemmas.Iterator.{YieldsList}
use Rattle.std.proofs.lemmas.Iterator.Consumers.{YieldsList-at}
use Rattle.std.proofs.lemmas.Iterator.Splits.{YieldsList-from_slice_split}
use Rattle.std.specs.List.{slice_split, onto_first}
use Rattle.ground.proofs.Bools.{T→true, T→false, eq→eqb, decide, both}
use Rattle.sheet_words.specs.Words.{onto, split}

-- the pieces after the first, each behind its mark
abbrev pub marked : ℕ → List (List ℕ) → List ℕ
marked mark [] = []
marked mark (p ∷ ps) = mark ∷ (p ++ marked mark ps)

-- all the pieces, with the mark between them
abbrev pub joined : ℕ → List (List ℕ) → List ℕ
joined mark [] = []
joined mark (p ∷ ps) = p ++ marked mark ps

-- no byte of s is the mark; no piece has one
abbrev pub Clear : ℕ → List ℕ → Type 0
Clear mark [] = Unit
Clear mark (c ∷ s) = (c ≡ mark → ⊥) × Clear mark s

abbrev pub AllClear : ℕ → List (List ℕ) → Type 0
AllClear mark [] = Unit
AllClear mark (p ∷ ps) = Clear mark p × AllClear mark ps

module _ (mark : ℕ) where
  -- one byte more in front: the mark begins a piece of its own, and any other goes onto the first piece
  pub split_mark : (s : List ℕ) → split mark (mark ∷ s) ≡ [] ∷ split mark s
  unfolding split
  split_mark s = rw (T→true (eqb mark mark) (eqb_refl mark))

  pub split-other : (c : ℕ) (s : List ℕ) → (c ≡ mark → ⊥) → split mark (c ∷ s) ≡ onto c (split mark s)
  unfolding split
  split-other c s other = rw (T→false (eqb c mark) (not_T (eqb c mark) (λ h. other (eqb→eq c mark h))))

  pub by_byte : (P : ℕ → List ℕ → List (List ℕ) → Type 0) → ((s : List ℕ) → P mark s ([] ∷ split mark s)) →
      ((c : ℕ) (s : List ℕ) → (c ≡ mark → ⊥) → P c s (onto c (split mark s))) → (c : ℕ) (s : List ℕ) → P c s (split mark (c ∷ s))
  by_byte P at_mark at_other c s =
      elim (decide (eqb c mark)) [
        | inl h ↦ subst (λ (x : ℕ). P x s (split mark (x ∷ s))) (sym (eqb→eq c mark h)) (subst (P mark s) (sym (split_mark s)) (at_mark s))
        | inr h ↦ (let other : c ≡ mark → ⊥ = λ e. both (eqb c mark) (eq→eqb e) h in subst (P c s) (sym (split-other c s other)) (at_other c s other))
      ]

  -- there is always a first piece
  pub some_piece : (P : List (List ℕ) → Type 0) → ((p : List ℕ) (ps : List (List ℕ)) → P (p ∷ ps)) → (s : List ℕ) → P (split mark s)
  unfolding split onto
  some_piece P f [] = f [] []
  some_piece P f (c ∷ s) = by_byte (λ c s q. P q) (λ s. f [] (split mark s)) (λ c s other. pushed c (split mark s)) c s
    where
      pushed : (c : ℕ) (q : List (List ℕ)) → P (onto c q)
      pushed c [] = f (c ∷ []) []
      pushed c (p ∷ ps) = f (c ∷ p) ps

  pub marked-some : (s : List ℕ) → marked mark (split mark s) ≡ mark ∷ joined mark (split mark s)
  marked-some s = some_piece (λ q. marked mark q ≡ mark ∷ joined mark q) (λ p ps. refl) s

  -- joining undoes splitting
  pub joined_split : (s : List ℕ) → joined mark (split mark s) ≡ s
  unfolding split onto
  joined_split [] = refl
  joined_split (c ∷ s) =
      by_byte (λ c s q. joined mark (split mark s) ≡ s → joined mark q ≡ c ∷ s)
      (λ s e. marked-some s ∙ ap (◌∷◌ mark) e)
      (λ c s other e. pushed c (split mark s) ∙ ap (◌∷◌ c) e)
      c s (joined_split s)
    where
      pushed : (c : ℕ) (q : List (List ℕ)) → joined mark (onto c q) ≡ c ∷ joined mark q
      pushed c [] = refl
      pushed c (p ∷ ps) = refl

  -- no piece has the mark
  pub split-clear : (s : List ℕ) → AllClear mark (split mark s)
  unfolding split onto
  split-clear [] = (tt, tt)
  split-clear (c ∷ s) =
      by_byte (λ c s q. AllClear mark (split mark s) → AllClear mark q)
      (λ s h. (tt, h))
      (λ c s other h. pushed c other (split mark s) h)
      c s (split-clear s)
    where
      pushed : (c : ℕ) → (c ≡ mark → ⊥) → (q : List (List ℕ)) → AllClear mark q → AllClear mark (onto c q)
      pushed c other [] h = ((other, tt), tt)
      pushed c other (p ∷ ps) h = ((other, h.0), h.1)

  -- and splitting undoes joining: a piece, its mark, and what follows; and a last piece
  pub split-marked : (p s : List ℕ) → Clear mark p → split mark (p ++ mark ∷ s) ≡ p ∷ split mark s
  unfolding onto
  split-marked [] s h = split_mark s
  split-marked (c ∷ p) s h = split-other c (p ++ mark ∷ s) h.0 ∙ ap (onto c) (split-marked p s h.1)

  split_last : (p : List ℕ) → Clear mark p → split mark p ≡ p ∷ []
  unfolding split onto
  split_last [] h = refl
  split_last (c ∷ p) h = split-other c p h.0 ∙ ap (onto c) (split_last p h.1)

  pub split_joined : (p : List ℕ) (ps : List (List ℕ)) → Clear mark p → AllClear mark ps → split mark (joined mark (p ∷ ps)) ≡ p ∷ ps
  split_joined p [] h k = ap (split mark) (append-nil p) ∙ split_last p h
  split_joined p (q ∷ ps) h k = split-marked p (joined mark (q ∷ ps)) h ∙ ap (◌∷◌ p) (split_joined q ps k.0 k.1)

-- there are no more pieces than bytes, and one
onto-length : (c : ℕ) (pieces : List (List ℕ)) → length (onto c pieces) ≤ suc (length pieces)
unfolding onto
onto-length c [] = omega arith
onto-length c (piece ∷ pieces) = omega arith

pub split-length : (mark : ℕ) (s : List ℕ) → length (split mark s) ≤ suc (length s)
unfolding split
split-length mark [] = omega arith
split-length mark (c ∷ s) =
    by_byte mark (λ c s q. length (split mark s) ≤ suc (length s) → length q ≤ suc (suc (length s))) (λ s l. omega arith)
    (λ c s other l. omega (arith, onto-length c (split mark s))) c s (split-length mark s)

-- what std's `split` gives, at a closure that finds the mark
onto-slice : (c : ℕ) (q : List (List ℕ)) → onto_first c q ≡ onto c q
unfolding onto
onto-slice c [] = refl
onto-slice c (p ∷ q) = refl

pub split-slice : (mark : ℕ) (s : List ℕ) → slice_split (λ b. eqb b mark) s ≡ split mark s
unfolding split
split-slice mark [] = refl
split-slice mark (c ∷ s) = ap (λ (q : List (List ℕ)). cond (eqb c mark) ([] ∷ q) (onto_first c q)) (split-slice mark s)
    ∙ ap (cond (eqb c mark) ([] ∷ split mark s)) (onto-slice c (split mark s))

-- so that is what a `for` over it meets
pub YieldsList-from_split : {F : Type 0} {s i : Split ℕ F} (g : Mut F (Bor ℕ × Unit {0}) Bool) (mark : ℕ) {f : F} (t : List ℕ) →
    split_rest s ≡ t → split_done s ≡ false → split_callee s ≡ f → ((x : ℕ) (b : Bool) (q : F) → CalledAt g f x b q → (q ≡ f) × (b ≡ eqb x mark)) →
    i ≡ s → YieldsList (split_steps g) (λ x. x.now) i (split mark t)
YieldsList-from_split g mark t rest done callee test same =
    rw (← split-slice mark t) (YieldsList-at same (YieldsList-from_slice_split g (λ b. eqb b mark) t rest done callee test))

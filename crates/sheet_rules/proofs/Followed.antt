-- A text followed by another: its lines are the same, and what follows its last byte 10 begins with the other. So where rules are whole, the reading of
-- both goes on with the other; and a line that is at fault is at fault in both. By induction on the pieces.
use mathlib.Core.Path.{◌≡◌, refl, sym, ap, ◌∙◌, subst}
use mathlib.Core.Logic.{inl, inr}
use mathlib.Core.Bool.{Bool, true, false, ◌&&◌, cond}
use mathlib.Core.List.{List, [], ◌∷◌, ◌++◌}
use Prim.Native.Nat.{ℕ, suc, ◌+◌, ◌<◌}
use native.Mathlib.Omega.{arith}
use lib.Dec.{eqb}
use lib.ListN.{length, length-append}
use Rattle.ground.proofs.Bools.{decide, T→true, T→false}
use Rattle.refusal.specs.declared.Refusal.{Refusal}
use Rattle.sheet_words.specs.Words.{onto, split, newline, passed_over}
use Rattle.sheet_words.specs.Steps.{Step, fault, next}
use Rattle.sheet_words.proofs.Split.{some_piece}
use Rattle.sheet_rules.specs.Rules.{Rules}
use Rattle.sheet_rules.specs.Forms.{is_of_rules}
use Rattle.sheet_rules.specs.Steps.{size_step, line_step}
use Rattle.sheet_rules.specs.Reading.{Reading, refused, up_to, rules_from, after_size, size_from, rules_read}
use Rattle.sheet_rules.proofs.ReadLaws.{rules-line, rules_end}

-- ---- the pieces of a text that is followed by another

-- bytes in front of the first of some pieces
abbrev pub glue : List ℕ → List (List ℕ) → List (List ℕ)
glue last [] = last ∷ []
glue last (p ∷ ps) = (last ++ p) ∷ ps

-- the lines of s, what follows its last byte 10, and the pieces of s and any t
pub record Pieces (s : List ℕ) : Type 0 where
  pub lines : List (List ℕ)
  pub last : List ℕ
  pub alone : split newline s ≡ lines ++ (last ∷ [])
  pub followed : (t : List ℕ) → split newline (s ++ t) ≡ lines ++ glue last (split newline t)

glue_none : (t : List ℕ) → split newline t ≡ glue [] (split newline t)
glue_none t = some_piece newline (λ q. q ≡ glue [] q) (λ p ps. refl) t

onto_glue : (c : ℕ) (last : List ℕ) (q : List (List ℕ)) → onto c (glue last q) ≡ glue (c ∷ last) q
unfolding onto
onto_glue c last [] = refl
onto_glue c last (p ∷ ps) = refl

on_mark : {s : List ℕ} → Pieces s → {c : ℕ} → ((t : List ℕ) → split newline (c ∷ t) ≡ [] ∷ split newline t) → Pieces (c ∷ s)
on_mark p f = record {
  lines = [] ∷ p.lines;
  last = p.last;
  alone = f _ ∙ ap (◌∷◌ []) p.alone;
  followed = λ t. f _ ∙ ap (◌∷◌ []) (p.followed t);
}

on-other : {s : List ℕ} (c : ℕ) → ((t : List ℕ) → split newline (c ∷ t) ≡ onto c (split newline t)) → (lines : List (List ℕ)) (last : List ℕ)
    → split newline s ≡ lines ++ (last ∷ []) → ((t : List ℕ) → split newline (s ++ t) ≡ lines ++ glue last (split newline t)) → Pieces (c ∷ s)
unfolding onto
on-other c f [] last e g = record {
  lines = [];
  last = c ∷ last;
  alone = f _ ∙ ap (onto c) e;
  followed = λ t. f _ ∙ ap (onto c) (g t) ∙ onto_glue c last (split newline t);
}
on-other c f (line ∷ lines) last e g = record {
  lines = (c ∷ line) ∷ lines;
  last = last;
  alone = f _ ∙ ap (onto c) e;
  followed = λ t. f _ ∙ ap (onto c) (g t);
}

pub pieces : (s : List ℕ) → Pieces s
unfolding split
pieces [] = record { lines = []; last = []; alone = refl; followed = glue_none }
pieces (c ∷ s) = elim (decide (eqb c newline)) [
  | inl h ↦ on_mark (pieces s) (λ t. ap (λ (b : Bool). cond b ([] ∷ split newline t) (onto c (split newline t))) (T→true (eqb c newline) h))
  | inr h ↦ (let p = pieces s in
      on-other c (λ t. ap (λ (b : Bool). cond b ([] ∷ split newline t) (onto c (split newline t))) (T→false (eqb c newline) h)) p.lines p.last p.alone p.followed)
]

-- ---- a reading, and that of the text followed by another

-- q are the other's pieces: where nothing is left of the first, the reading goes on with them; a refusal of a line before number B stays
abbrev On : Bool → ℕ → List (List ℕ) → Reading → Reading → Type 0
On passes B q (refused r L) o = L < B → o ≡ refused r L
On passes B q (up_to rules L []) o = Unit
On passes B q (up_to rules L ([] ∷ [])) o = o ≡ rules_from passes L rules q
On passes B q (up_to rules L ([] ∷ another ∷ more)) o = Unit
On passes B q (up_to rules L ((c ∷ line) ∷ more)) o = Unit

-- a line that is none of the rules' is left in any case
on-stopped : (passes : Bool) (B : ℕ) (q : List (List ℕ)) (rules : Rules) (L : ℕ) (line another : List ℕ) (more : List (List ℕ)) (o : Reading)
    → On passes B q (up_to rules L (line ∷ another ∷ more)) o
on-stopped passes B q rules L [] another more o = tt
on-stopped passes B q rules L (c ∷ line) another more o = tt

on_last : (passes : Bool) (B : ℕ) (rules : Rules) (L : ℕ) (last p : List ℕ) (ps : List (List ℕ))
    → On passes B (p ∷ ps) (up_to rules L (last ∷ [])) (rules_from passes L rules (glue last (p ∷ ps)))
on_last passes B rules L [] p ps = refl
on_last passes B rules L (c ∷ last) p ps = tt

-- the pieces after a line are some
Some : (List (List ℕ) → Type 0) → List (List ℕ) → Type 0
Some P q = ((another : List ℕ) (more : List (List ℕ)) → P (another ∷ more)) → P q

some_last : (P : List (List ℕ) → Type 0) (lines : List (List ℕ)) (last : List ℕ) → Some P (lines ++ (last ∷ []))
unfolding Some
some_last P [] last f = f last []
some_last P (line ∷ lines) last f = f line (lines ++ (last ∷ []))

some_glue : (P : List (List ℕ) → Type 0) (lines : List (List ℕ)) (last p : List ℕ) (ps : List (List ℕ)) → Some P (lines ++ glue last (p ∷ ps))
unfolding Some
some_glue P [] last p ps f = f (last ++ p) ps
some_glue P (line ∷ lines) last p ps f = f line (lines ++ glue last (p ∷ ps))

module _ (passes : Bool) (p : List ℕ) (ps : List (List ℕ)) (last : List ℕ) where
  -- the pieces alone, and followed
  abbrev alone : List (List ℕ) → List (List ℕ)
  alone lines = lines ++ (last ∷ [])

  abbrev both : List (List ℕ) → List (List ℕ)
  both lines = lines ++ glue last (p ∷ ps)

  on-after : (B L : ℕ) (st : Step Rules) (lines : List (List ℕ))
      → ((v : Rules) → On passes B (p ∷ ps) (rules_from passes (suc L) v (alone lines)) (rules_from passes (suc L) v (both lines)))
      → On passes B (p ∷ ps) (after_size passes L st (alone lines)) (after_size passes L st (both lines))
  on-after B L (fault r) lines f = λ h. refl
  on-after B L (next v) lines f = f v

  rules-on : (B L : ℕ) (rules : Rules) (lines : List (List ℕ)) → On passes B (p ∷ ps) (rules_from passes L rules (alone lines)) (rules_from passes L rules (both lines))
  unfolding rules_from Some
  rules-on B L rules [] = on_last passes B rules L last p ps
  rules-on B L rules (line ∷ lines) = elim (decide (is_of_rules passes rules.size.settings rules.size.posts line)) [
    | inl t ↦ (let e = T→true (is_of_rules passes rules.size.settings rules.size.posts line) t in
        subst (λ (o : Reading). On passes B (p ∷ ps) o (rules_from passes L rules (line ∷ both lines)))
        (sym (some_last (λ q. rules_from passes L rules (line ∷ q) ≡ after_size passes L (line_step passes L rules line) q) lines last (λ another more. rules-line passes L rules line another more e)))
        (subst (On passes B (p ∷ ps) (after_size passes L (line_step passes L rules line) (alone lines)))
        (sym (some_glue (λ q. rules_from passes L rules (line ∷ q) ≡ after_size passes L (line_step passes L rules line) q) lines last p ps
        (λ another more. rules-line passes L rules line another more e)))
        (on-after B L (line_step passes L rules line) lines (λ v. rules-on B (suc L) v lines))))
    | inr t ↦ (let e = T→false (is_of_rules passes rules.size.settings rules.size.posts line) t in
        some_last (λ q. On passes B (p ∷ ps) (rules_from passes L rules (line ∷ q)) (rules_from passes L rules (line ∷ both lines))) lines last (λ another more.
        subst (λ (o : Reading). On passes B (p ∷ ps) o (rules_from passes L rules (line ∷ both lines))) (sym (rules_end passes L rules line another more e))
        (on-stopped passes B (p ∷ ps) rules L line another more (rules_from passes L rules (line ∷ both lines)))))
  ]

  size-line_by : (most L : ℕ) (line another : List ℕ) (more : List (List ℕ))
      → size_from passes most L (line ∷ another ∷ more)
      ≡ cond (passes && passed_over line) (size_from passes most (suc L) (another ∷ more)) (after_size passes L (size_step most L line) (another ∷ more))
  unfolding size_from
  size-line_by most L line another more = refl

  on-cond : (B : ℕ) (b : Bool) (x y u v : Reading) → On passes B (p ∷ ps) x u → On passes B (p ∷ ps) y v → On passes B (p ∷ ps) (cond b x y) (cond b u v)
  on-cond B true x y u v h k = h
  on-cond B false x y u v h k = k

  size-on : (B most L : ℕ) (lines : List (List ℕ)) → L + length lines ≡ B → On passes B (p ∷ ps) (size_from passes most L (alone lines)) (size_from passes most L (both lines))
  unfolding size_from Some
  size-on B most L [] h = λ k. absurd (omega arith)
  size-on B most L (line ∷ lines) h =
      let By : List (List ℕ) → Type 0 = λ q. size_from passes most L (line ∷ q)
      ≡ cond (passes && passed_over line) (size_from passes most (suc L) q) (after_size passes L (size_step most L line) q) in
      subst (λ (o : Reading). On passes B (p ∷ ps) o (size_from passes most L (line ∷ both lines))) (sym (some_last By lines last (size-line_by most L line)))
      (subst (On passes B (p ∷ ps) (cond (passes && passed_over line) (size_from passes most (suc L) (alone lines)) (after_size passes L (size_step most L line) (alone lines))))
      (sym (some_glue By lines last p ps (size-line_by most L line)))
      (on-cond B (passes && passed_over line) _ _ _ _ (size-on B most (suc L) lines (omega arith)) (on-after B L (size_step most L line) lines (λ v. rules-on B (suc L) v lines))))

-- ---- of texts

module _ (passes : Bool) (most : ℕ) (s t : List ℕ) where
  read-on : On passes (length (split newline s)) (split newline t) (rules_read passes most (split newline s)) (rules_read passes most (split newline (s ++ t)))
  unfolding rules_read
  read-on =
      let x = pieces s in
      subst (λ (q : List (List ℕ)). On passes (length q) (split newline t) (size_from passes most 1 q) (size_from passes most 1 (split newline (s ++ t)))) (sym x.alone)
      (subst (λ (q : List (List ℕ)). On passes (length (x.lines ++ (x.last ∷ []))) (split newline t) (size_from passes most 1 (x.lines ++ (x.last ∷ []))) (size_from passes most 1 q))
      (sym (x.followed t))
      (some_piece newline
      (λ q. On passes (length (x.lines ++ (x.last ∷ []))) q (size_from passes most 1 (x.lines ++ (x.last ∷ []))) (size_from passes most 1 (x.lines ++ glue x.last q)))
      (λ p ps. size-on passes p ps x.last (length (x.lines ++ (x.last ∷ []))) most 1 x.lines (omega (arith, length-append x.lines (x.last ∷ [])))) t))

  -- rules that are whole are followed by what the other text says
  pub whole_followed : (rules : Rules) (L : ℕ) → rules_read passes most (split newline s) ≡ up_to rules L ([] ∷ [])
      → rules_read passes most (split newline (s ++ t)) ≡ rules_from passes L rules (split newline t)
  whole_followed rules L e = subst (λ (o : Reading). On passes (length (split newline s)) (split newline t) o (rules_read passes most (split newline (s ++ t)))) e read-on

  -- a line that is at fault, and ends in byte 10, is at fault in both
  pub fault_followed : (r : Refusal) (L : ℕ) → rules_read passes most (split newline s) ≡ refused r L → L < length (split newline s)
      → rules_read passes most (split newline (s ++ t)) ≡ refused r L
  fault_followed r L e = subst (λ (o : Reading). On passes (length (split newline s)) (split newline t) o (rules_read passes most (split newline (s ++ t)))) e read-on

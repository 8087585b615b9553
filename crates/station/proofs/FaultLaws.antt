-- What each fault is, as the request lists it: the causes of 27, and that 29 is of looks alone.
use Rattle.std.specs.Prelude.{Option, Some, None}
use mathlib.Core.Path.{◌≡◌, refl, sym, ap, ◌∙◌}
use mathlib.Core.Logic.{inl, inr}
use mathlib.Core.List.{List}
use Prim.Native.Nat.{ℕ, ◌-◌, ◌/◌, ◌%◌, ◌^◌, ◌≤◌, ◌<◌}
use native.Mathlib.Nat.{mod-lt}
use native.Mathlib.Omega.{arith}
use lib.Dec.{T}
use borrow.Author.Tests.{lt-ltb, le-leb, lt-leb}
use Rattle.ground.proofs.Bits.{below_2}
use Rattle.ground.proofs.Bools.{lt_or_ge}
use Rattle.knowledge_acts.specs.Acts.{setting_of, post_of, of_kind, act_of}
use Rattle.knowledge_acts.specs.declared.act.Act.{Act}
use Rattle.knowledge_acts.specs.declared.act.Act.TheVariants.{Set, Look}
use Rattle.knowledge_acts.proofs.Acts.{setting_of_kind, post_of_kind, kind_look}
use Rattle.station.specs.Station.{allowed, seen_most}
use Rattle.station.specs.Shift.{IsRecord, no_record, disagrees, IsAtFault}
use Rattle.station.proofs.Laws.{of_book_case, book_has, look_shows}
use Rattle.station.proofs.RecordLaws.{one_act, names-none}

-- the act of a byte from 1 to 168
abbrev act_at : ℕ → Act
act_at c = of_kind ((c - 1) / 56) ((c - 1) / 8 % 7) ((c - 1) % 8)

named-at : (c : ℕ) → 1 ≤ c → c ≤ 168 → act_of c ≡ Some (act_at c)
unfolding act_of
named-at c h k = rw (lt-ltb 0 c h, le-leb c 168 k)

none-low : act_of 0 ≡ None
unfolding act_of
none-low = refl

none-high : (c : ℕ) → 168 < c → act_of c ≡ None
unfolding act_of
none-high c h = rw (lt-ltb 0 c (omega arith), lt-leb c 168 h)

seen_most_lem : (a : Act) → seen_most a ≤ 1
seen_most_lem (Set i q b) = omega arith
seen_most_lem (Look i q) = omega arith

-- bytes up to 112 are sets
seen_set : (c : ℕ) → 1 ≤ c → c ≤ 112 → seen_most (act_at c) ≡ 0
seen_set c h k = below_2 (λ kind. seen_most (of_kind kind ((c - 1) / 8 % 7) ((c - 1) % 8)) ≡ 0) refl refl ((c - 1) / 56) (omega arith)

seen_look : (c : ℕ) → 112 < c → seen_most (act_at c) ≡ 1
seen_look c h = ap seen_most (kind_look ((c - 1) / 56) ((c - 1) / 8 % 7) ((c - 1) % 8) (λ e. omega arith) (λ e. omega arith))

-- ---- 27: "byte 0, a byte over 168, a setting at or past n, a post at or past m, a second byte over 1, or not 0 for a set"

-- the causes, of a record with the bytes c and s
pub data NoRecordSince (n m c s : ℕ) : Type 0 where
  byte_0 : c ≡ 0 → NoRecordSince n m c s
  byte_over_168 : 168 < c → NoRecordSince n m c s
  setting-past-n : n ≤ (c - 1) / 8 % 7 → NoRecordSince n m c s
  post-past-m : m ≤ (c - 1) % 8 → NoRecordSince n m c s
  seen_over_1 : 1 < s → NoRecordSince n m c s
  set-not_0 : c ≤ 112 → 0 < s → NoRecordSince n m c s

module _ (n m : ℕ) (book : List ℕ) (v c s : ℕ) where
  abbrev Unrecorded : Type 0
  Unrecorded = IsAtFault no_record n m book v (act_of c) s

  -- a byte from 1 to 168 names its own act and no other
  own_act : 1 ≤ c → c ≤ 168 → (a : Act) → IsRecord n m (act_of c) s a → (setting_of a ≡ (c - 1) / 8 % 7) × (post_of a ≡ (c - 1) % 8) × (seen_most a ≡ seen_most (act_at c))
  own_act h k a r =
      let same : a ≡ act_at c = one_act (sym r.names ∙ named-at c h k) in (
        ap setting_of same ∙ setting_of_kind ((c - 1) / 56) ((c - 1) / 8 % 7) ((c - 1) % 8),
        ap post_of same ∙ post_of_kind ((c - 1) / 56) ((c - 1) / 8 % 7) ((c - 1) % 8),
        ap seen_most same,
      )

  no_act : act_of c ≡ None → Unrecorded
  no_act e a r = names-none (sym e ∙ r.names)

  -- within 1 to 168, each other cause
  since_act : 1 ≤ c → c ≤ 168 → NoRecordSince n m c s → Unrecorded
  since_act h k (byte_0 e) a r = omega arith
  since_act h k (byte_over_168 l) a r = omega arith
  since_act h k (setting-past-n l) a r = let o = own_act h k a r in omega (arith, o.0, l, (book_has n m a r.of_book_case).0)
  since_act h k (post-past-m l) a r = let o = own_act h k a r in omega (arith, o.1, l, (book_has n m a r.of_book_case).1)
  since_act h k (seen_over_1 l) a r = omega (arith, l, r.second, seen_most_lem a)
  since_act h k (set-not_0 i l) a r = let o = own_act h k a r in omega (arith, o.2, l, r.second, seen_set c h i)

  pub since_none : NoRecordSince n m c s → Unrecorded
  since_none x = elim (lt_or_ge 0 c) [
    | inl h ↦ (elim (lt_or_ge 168 c) [ inl l ↦ no_act (none-high c l) | inr k ↦ since_act h k x ])
    | inr h ↦ (let e : c ≡ 0 = omega arith in no_act (ap act_of e ∙ none-low))
  ]

  record_at : 1 ≤ c → c ≤ 168 → (c - 1) / 8 % 7 < n → (c - 1) % 8 < m → s ≤ seen_most (act_at c) → IsRecord n m (act_of c) s (act_at c)
  record_at h k i q l = record {
    names = named-at c h k;
    of_book_case = of_book_case n m (act_at c)
        (rw (setting_of_kind ((c - 1) / 56) ((c - 1) / 8 % 7) ((c - 1) % 8)) i)
        (rw (post_of_kind ((c - 1) / 56) ((c - 1) / 8 % 7) ((c - 1) % 8)) q);
    second = l;
  }

  pub none_since : Unrecorded → NoRecordSince n m c s
  none_since none = elim (lt_or_ge 0 c) [
    | inr h ↦ byte_0 (omega arith)
    | inl h ↦ (elim (lt_or_ge 168 c) [
      | inl l ↦ byte_over_168 l
      | inr k ↦ (elim (lt_or_ge ((c - 1) / 8 % 7) n) [
        | inr l ↦ setting-past-n l
        | inl i ↦ (elim (lt_or_ge ((c - 1) % 8) m) [
          | inr l ↦ post-past-m l
          | inl q ↦ (elim (lt_or_ge 112 c) [
            | inl look ↦ (elim (lt_or_ge 1 s) [
              | inl l ↦ seen_over_1 l
              | inr l ↦ absurd (none (act_at c) (record_at h k i q (omega (arith, l, seen_look c look))))
            ])
            | inr set ↦ (elim (lt_or_ge 0 s) [
              | inl l ↦ set-not_0 set l
              | inr l ↦ absurd (none (act_at c) (record_at h k i q (omega (arith, l))))
            ])
          ])
        ])
      ])
    ])
  ]

-- ---- 29: "a look that disagrees", on a setting whose value is the other one

pub disagrees_look : (n m : ℕ) (book : List ℕ) (v : ℕ) (named : Option Act) (s : ℕ) → IsAtFault disagrees n m book v named s
    → (i : ℕ) × (q : ℕ) × (named ≡ Some (Look i q)) × T (allowed book v (Look i q)) × (s ≡ 1 - v / 2 ^ i % 2)
disagrees_look n m book v named s (Set i q b, r, t, unlike) = absurd (unlike (omega (arith, r.second)))
disagrees_look n m book v named s (Look i q, r, t, unlike) =
    let shows = look_shows v i q in
    let small : v / 2 ^ i % 2 < 2 = mod-lt (v / 2 ^ i) (omega arith) in
    (i, q, r.names, t, other (v / 2 ^ i % 2) s small r.second (λ e. unlike (e ∙ sym shows)))
  where
    other : (x s : ℕ) → x < 2 → s ≤ 1 → (s ≡ x → ⊥) → s ≡ 1 - x
    other x s h k u = elim (lt_or_ge s x) [ inl l ↦ omega arith | inr g ↦ (elim (lt_or_ge x s) [ inl l ↦ omega arith | inr l ↦ absurd (u (omega arith)) ]) ]

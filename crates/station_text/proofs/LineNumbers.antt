-- The line of a record: it is the first line, or one line more in front moves its number by one. By induction on the lines.
use Rattle.std.specs.Prelude.{Some, None}
use mathlib.Core.Path.{◌≡◌, refl, sym, ap, ap₂, ◌∙◌, subst}
use mathlib.Core.Bool.{Bool, true, false, cond}
use mathlib.Core.List.{List, [], ◌∷◌, ◌++◌}
use Prim.Native.Nat.{ℕ, suc, ◌+◌, ◌*◌, ◌-◌, ◌≤◌, ◌<◌}
use native.Mathlib.Omega.{arith}
use lib.Dec.{ltb}
use lib.ListN.{length, get_or, take, length-append, get_or-append}
use lib.Seq.{get_or-append-add}
use borrow.Author.Tests.{ltb-true, ltb-false, le-ltb}
use Rattle.station_text.specs.Lines.{records_in, line_record}
use Rattle.station_text.specs.Meaning.{lines_bytes, line_of}
use Rattle.station_text.specs.Grammar.{GivesAt}
use Rattle.station_text.proofs.LineLaws.{record_length}

-- `GivesAt`, where the first piece is line L
record Found (L : ℕ) (pieces : List (List ℕ)) (k M : ℕ) : Type 0 where
  index : ℕ
  number : M ≡ L + index
  there : suc index < length pieces
  before : length (lines_bytes (take (suc index) pieces)) ≡ 2 * k
  own : line_record (get_or pieces index []) ≡ get_or (lines_bytes pieces) (2 * k) 0 ∷ get_or (lines_bytes pieces) (2 * k + 1) 0 ∷ []

module _ (L : ℕ) (l another : List ℕ) (more : List (List ℕ)) where
  -- the first line gives the record: it is the only one of that line
  at_once : (k : ℕ) → k < records_in l → Found L (l ∷ another ∷ more) k L
  unfolding lines_bytes
  at_once k h =
      let x = record_length l in
      let z : k ≡ 0 = omega arith in
      let two = pair (line_record l) (omega (arith, x.0, x.1, h)) in
      subst (λ (i : ℕ). Found L (l ∷ another ∷ more) i L) (sym z) (record {
        index = 0;
        number = omega arith;
        there = omega arith;
        before = refl;
        own = two ∙ sym (ap₂ (λ (a b : ℕ). a ∷ b ∷ [])
            (get_or-append (line_record l) (lines_bytes (another ∷ more)) 0 0 (omega (arith, x.0, x.1, h)))
            (get_or-append (line_record l) (lines_bytes (another ∷ more)) 0 1 (omega (arith, x.0, x.1, h))));
      })
    where
      pair : (t : List ℕ) → length t ≡ 2 → t ≡ get_or t 0 0 ∷ get_or t 1 0 ∷ []
      pair [] e = absurd (omega arith)
      pair (a ∷ []) e = absurd (omega arith)
      pair (a ∷ b ∷ []) e = refl
      pair (a ∷ b ∷ c ∷ t) e = absurd (omega (arith, e))

  -- a later line does
  later : (k : ℕ) {M : ℕ} → records_in l ≤ k → Found (suc L) (another ∷ more) (k - records_in l) M → Found L (l ∷ another ∷ more) k M
  unfolding lines_bytes
  later k h f =
      let x = record_length l in
      let b = lines_bytes (another ∷ more) in
      let at : (i : ℕ) (j : ℕ) → i ≡ length (line_record l) + j → get_or b j 0 ≡ get_or (line_record l ++ b) i 0 =
      λ i j e. sym (ap (λ (n : ℕ). get_or (line_record l ++ b) n 0) e ∙ get_or-append-add (line_record l) b j 0) in
      record {
        index = suc f.index;
        number = omega (arith, f.number);
        there = omega (arith, f.there);
        before = length-append (line_record l) (lines_bytes (another ∷ take f.index more)) ∙ omega (arith, x.0, f.before, h);
        own = f.own
            ∙ ap₂ (λ (c v : ℕ). c ∷ v ∷ []) (at (2 * k) (2 * (k - records_in l)) (omega (arith, x.0, h))) (at (2 * k + 1) (2 * (k - records_in l) + 1) (omega (arith, x.0, h)));
      }

  -- how many bytes the lines give
  pub lines-length : length (lines_bytes (l ∷ another ∷ more)) ≡ 2 * records_in l + length (lines_bytes (another ∷ more))
  unfolding lines_bytes
  lines-length = length-append (line_record l) (lines_bytes (another ∷ more)) ∙ omega (arith, (record_length l).0)

find : (pieces : List (List ℕ)) (L k : ℕ) → 2 * k < length (lines_bytes pieces) → (M : ℕ) × (line_of L k pieces ≡ Some M) × Found L pieces k M
unfolding lines_bytes line_of
find [] L k h = absurd (omega arith)
find (rest ∷ []) L k h = absurd (omega arith)
find (l ∷ another ∷ more) L k h =
    by_test (ltb k (records_in l)) refl (find (another ∷ more) (suc L) (k - records_in l))
  where
    by_test : (b : Bool) → ltb k (records_in l) ≡ b
        → (2 * (k - records_in l) < length (lines_bytes (another ∷ more))
        → (M : ℕ) × (line_of (suc L) (k - records_in l) (another ∷ more) ≡ Some M) × Found (suc L) (another ∷ more) (k - records_in l) M)
        → (M : ℕ) × (cond b (Some L) (line_of (suc L) (k - records_in l) (another ∷ more)) ≡ Some M) × Found L (l ∷ another ∷ more) k M
    by_test true e f = (L, refl, at_once L l another more k (ltb-true k (records_in l) e))
    by_test false e f =
        let past = ltb-false k (records_in l) e in
        let g = f (omega (arith, h, past, lines-length L l another more)) in
        (g.0, g.1, later L l another more k past g.2)

pub find_none : (pieces : List (List ℕ)) (L k : ℕ) → length (lines_bytes pieces) ≤ 2 * k → line_of L k pieces ≡ None
unfolding lines_bytes line_of
find_none [] L k h = refl
find_none (rest ∷ []) L k h = refl
find_none (l ∷ another ∷ more) L k h =
    let all = lines-length L l another more in
    ap (λ (b : Bool). cond b (Some L) (line_of (suc L) (k - records_in l) (another ∷ more))) (le-ltb k (records_in l) (omega (arith, h, all)))
    ∙ find_none (another ∷ more) (suc L) (k - records_in l) (omega (arith, h, all))

pub gives_at : (pieces : List (List ℕ)) (k : ℕ) → 2 * k < length (lines_bytes pieces) → (M : ℕ) × (line_of 1 k pieces ≡ Some M) × GivesAt pieces k M
gives_at pieces k h =
    let g = find pieces 1 k h in
    let f = g.2 in
    (g.0, g.1, record { index = f.index; number = f.number ∙ omega arith; there = f.there; before = f.before; own = f.own })

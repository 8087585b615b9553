-- A sheet that is a text of rules followed by a text of a question, both without lines that are passed over, means what the two mean: whole rules are read
-- on into the question, and its lines are counted on from theirs; a line that is refused in the text of rules is refused in the sheet.
use mathlib.Core.Path.{◌≡◌, refl, sym, ap, ◌∙◌, subst}
use mathlib.Core.Logic.{inl, inr}
use mathlib.Core.Bool.{Bool, true, false, not, cond}
use mathlib.Core.List.{List, [], ◌∷◌, ◌++◌, append_assoc}
use Prim.Native.Nat.{ℕ, suc, ◌+◌, ◌-◌, ◌≤◌, ◌<◌}
use native.Mathlib.Omega.{arith}
use lib.Dec.{T}
use lib.ListN.{length, take, drop, length-append}
use borrow.Author.Tests.{le-ltb}
use Rattle.ground.proofs.Bools.{decide, T→true, T→false, lt_or_ge}
use Rattle.refusal.specs.declared.Refusal.{Refusal}
use Rattle.refusal.specs.declared.Refusal.TheVariants.{Malformed, Twice, SheetLength, SheetSettings}
use Rattle.refusal.specs.Refusals.{number}
use Rattle.sheet_words.specs.Words.{first_piece, split, newline, begins, twice, none_passed}
use Rattle.sheet_words.specs.Steps.{Step, next, unless}
use Rattle.sheet_words.proofs.Split.{joined, some_piece}
use Rattle.sheet_rules.specs.Rules.{Size, Rules, sized}
use Rattle.sheet_rules.specs.Forms.{is_size, digit_at, is_rule, is_of_rules}
use Rattle.sheet_rules.specs.Reading.{Reading, up_to, rules_from, after_size, size_from, rules_read, rules_of}
use Rattle.sheet_rules.specs.Reading.{refused as rules-refused}
use Rattle.sheet_rules.specs.Meaning.{whole, whole_reading, rules_meaning}
use Rattle.sheet_rules.specs.Meaning.{refused as text-refused, stated as rules-stated}
use Rattle.sheet_rules.proofs.StepLaws.{size-malformed, size_large, size-next}
use Rattle.sheet_rules.proofs.ReadLaws.{from_first, rules_end}
use Rattle.sheet_rules.proofs.Bounds.{Goes, read_goes, size-digits}
use Rattle.sheet_rules.proofs.Passing.{same_read}
use Rattle.sheet_rules.proofs.Sizes.{Kept, size-kept, Up, read_up}
use Rattle.sheet_rules.proofs.Followed.{whole_followed, fault_followed}
use Rattle.sheet_question.specs.Asked.{Asked, nothing_asked}
use Rattle.sheet_question.specs.Forms.{is_team, team_of}
use Rattle.sheet_question.specs.LineSteps.{with_team, team_step}
use Rattle.sheet_question.specs.Question.{QuestionMeaning, asked, asked_from, question_meaning}
use Rattle.sheet_question.specs.Question.{refused as question_refused}
use Rattle.sheet_question.specs.declared.desk.Due.TheVariants.{Team, Known}
use Rattle.sheet_question.proofs.StepLaws.{line_by}
use Rattle.sheet_question.proofs.ReadLaws.{asked-after, not-long}
use Rattle.sheet_question.proofs.ReadLaws.{after as askedNext}
use Rattle.sheet_question.proofs.Passed.{none_passed_same}
use Rattle.sheet_question.proofs.Counted.{CountedOn, counted-on}
use Rattle.sheet_reading.specs.Sheet.{sheet_of}
use Rattle.sheet_reading.specs.Reading.{refused, stated, with_question, after_rules, sheet_meaning}
use Rattle.sheet_reading.specs.Grammar.{ended, size_text, team_line}
use Rattle.sheet_reading.specs.Place.{all_ended, first_lines}
use Rattle.sheet_reading.proofs.OnePass.{first_line}
use Rattle.sheet_reading.proofs.NameLines.{team-written}
use Rattle.sheet_reading.proofs.Lines.{first-lines}
use Rattle.sheet_reading.proofs.Place.{refusal, meaning-lines}
use Rattle.sheet_reading.proofs.ByNumber.{settings_exactly}

-- how many lines of a text end in byte 10
abbrev pub ended_lines : List ℕ → ℕ
ended_lines s = length (split newline s) - 1

-- ---- rules that are whole leave one empty piece

whole-left : (rules v : Rules) (L : ℕ) (left : List (List ℕ)) → whole rules L left ≡ rules-stated v → (left ≡ [] ∷ []) × (rules ≡ v)
whole-left rules v L ([] ∷ []) e = (refl, cc)
whole-left rules v L [] e = let z : ◌≡◌ {A = ℕ} 0 1 = cc in absurd (omega arith)
whole-left rules v L ([] ∷ another ∷ more) e = let z : ◌≡◌ {A = ℕ} 0 1 = cc in absurd (omega arith)
whole-left rules v L ((c ∷ line) ∷ more) e = let z : ◌≡◌ {A = ℕ} 0 1 = cc in absurd (omega arith)

whole-up_to : (o : Reading) (v : Rules) → whole_reading o ≡ rules-stated v → (L : ℕ) × (o ≡ up_to v L ([] ∷ []))
whole-up_to (rules-refused r L) v e = let z : ◌≡◌ {A = ℕ} 0 1 = cc in absurd (omega arith)
whole-up_to (up_to rules L left) v e = let z = whole-left rules v L left e in let a : left ≡ [] ∷ [] = z.0 in let b : rules ≡ v = z.1 in (L, cc)

-- ---- a sheet that is refused at a line with its byte 10 is refused so, whatever follows

fault_stays : (s t : List ℕ) {w : Refusal} {L : ℕ} → sheet_meaning s ≡ refused w L → 1 ≤ L → L < length (split newline s) → length (s ++ t) ≤ 32768
    → sheet_meaning (s ++ t) ≡ refused w L
unfolding first_lines
fault_stays s t {w} {L} e least ends short = elim (refusal s w L e) [
  | inl (over, is, none) ↦ absurd (omega (arith, least, none))
  | inr (fits, a) ↦ (let up_to_lem : suc a.taken ≡ L = omega (arith, a.place) in
      let rest : List ℕ = joined newline (drop L (split newline s)) in
      meaning-lines (s ++ t) short
      ∙ ap (λ (x : List ℕ). first_line (split newline x))
      (ap (λ (x : List ℕ). x ++ t) (first-lines s L ends ∙ ap (λ (k : ℕ). all_ended (take k (split newline s)) ++ rest) (sym up_to_lem))
      ∙ append_assoc (all_ended (take (suc a.taken) (split newline s))) rest t)
      ∙ a.same (omega (arith, up_to_lem, ends)) (rest ++ t))
]

-- ---- a line that is no `team` is 22 where a question begins, and one that is states no right

no_team : (n m L : ℕ) (line another : List ℕ) (more : List (List ℕ)) → is_team m line ≡ false
    → asked_from false n m L Team nothing_asked (line ∷ another ∷ more) ≡ question_refused (Malformed L) L
unfolding team_step
no_team n m L line another more other =
    asked-after false n m L Team nothing_asked line another more
    ∙ ap (askedNext false n m L (another ∷ more))
    (line_by n m L Team nothing_asked line false false refl
    ∙ ap (λ (b : Bool). unless b (Malformed L) (unless (not (twice (λ i. false) (team_of line))) (Twice L) (next (Known, with_team nothing_asked line)))) other)

team_no_rule : (n m : ℕ) (line : List ℕ) → T (is_team m line) → is_of_rules false n m line ≡ false
unfolding is_of_rules is_rule begins team_line
team_no_rule n m line t = subst (λ (l : List ℕ). is_of_rules false n m l ≡ false) (sym (team-written m line t).2) refl

-- so the first line of what asks something is none of the rules'
asks-first : (n m : ℕ) (pieces : List (List ℕ)) {a : Asked} → asked_from false n m 1 Team nothing_asked pieces ≡ asked a → is_of_rules false n m (first_piece pieces) ≡ false
unfolding asked_from first_piece
asks-first n m [] e = let z : ◌≡◌ {A = ℕ} 0 1 = cc in absurd (omega arith)
asks-first n m (rest ∷ []) e = let z : ◌≡◌ {A = ℕ} 0 1 = cc in absurd (omega arith)
asks-first n m (line ∷ another ∷ more) {a} e = elim (decide (is_team m line)) [
  | inl t ↦ team_no_rule n m line t
  | inr t ↦ (let d : asked a ≡ question_refused (Malformed 1) 1 = sym e ∙ no_team n m 1 line another more (T→false (is_team m line) t) in
      let z : ◌≡◌ {A = ℕ} 0 1 = cc in absurd (omega arith))
]

-- ---- where more settings are stated than are taken, they are refused

above_five : (pieces : List (List ℕ)) (rules : Rules) (L : ℕ) (left : List (List ℕ)) → rules_read false 7 pieces ≡ up_to rules L left → 5 < rules.size.settings
    → rules_read false 5 pieces ≡ rules-refused SheetSettings 1
unfolding rules_read size_from
above_five [] rules L left e high = let z : ◌≡◌ {A = ℕ} 0 1 = cc in absurd (omega arith)
above_five (rest ∷ []) rules L left e high = let z : ◌≡◌ {A = ℕ} 0 1 = cc in absurd (omega arith)
above_five (line ∷ another ∷ more) rules L left e high = elim (decide (is_size line)) [
  | inl t ↦ (let is = T→true (is_size line) t in
      let states = sized (digit_at line 5) (digit_at line 7) in
      let after : rules_from false 2 states (another ∷ more) ≡ up_to rules L left =
      sym (ap (λ (st : Step Rules). after_size false 1 st (another ∷ more)) (size-next 7 1 line is (size-digits line is).1)) ∙ e in
      let kept : rules.size ≡ states.size = subst (Kept states.size) after (size-kept false 2 states (another ∷ more)) in
      ap (λ (st : Step Rules). after_size false 1 st (another ∷ more)) (size_large 5 1 line is (omega (arith, high, ap (λ (x : Size). x.settings) kept))))
  | inr t ↦ (let d : rules-refused (Malformed 1) 1 ≡ up_to rules L left =
      sym (ap (λ (st : Step Rules). after_size false 1 st (another ∷ more)) (size-malformed 7 1 line (T→false (is_size line) t))) ∙ e in
      let z : ◌≡◌ {A = ℕ} 0 1 = cc in absurd (omega arith))
]

-- ---- the two texts

module _ (R Q : List ℕ) (short : length (R ++ Q) ≤ 32768) (none : T (none_passed (split newline R))) where
  rules-short : length R ≤ 32768
  rules-short = omega (arith, short, length-append R Q)

  -- a text of rules without lines that are passed over
  rules_plain : rules_of true 7 R ≡ rules_read false 7 (split newline R)
  unfolding rules_read
  rules_plain = from_first true 7 R (omega (arith, rules-short)) ∙ same_read 7 (split newline R) none

  of_sheet : (s : List ℕ) → length s ≤ 32768 → sheet_meaning s ≡ after_rules (rules_read false 5 (split newline s))
  unfolding sheet_meaning
  of_sheet s h = ap (λ (b : Bool). cond b (refused SheetLength 0) (after_rules (rules_read false 5 (split newline s)))) (le-ltb 32768 (length s) h)

  -- where the text begins with a size, it has at most 5 settings
  abbrev Few : Type 0
  Few = (n m : ℕ) (rest : List ℕ) → n ≤ 7 → 1 ≤ m → m ≤ 8 → R ≡ ended (size_text n m) ++ rest → n ≤ 5

  -- A LINE OF THE RULES THAT IS REFUSED: the sheet is refused there too. The line ends in byte 10, and N is at most 5.
  module _ {w : Refusal} {L : ℕ} (e : rules_of true 7 R ≡ rules-refused w L) (ends : L < length (split newline R)) (few : Few) where
    rules_five : rules_read false 5 (split newline R) ≡ rules-refused w L
    rules_five = elim (subst (λ (o : Reading). Up 5 o (rules_read false 5 (split newline R))) (sym rules_plain ∙ e) (read_up false 5 (split newline R))) [
      | inl same ↦ same
      | inr (K, above) ↦ (let z = (settings_exactly R K).0 (of_sheet R rules-short ∙ ap after_rules above) in
          let (n, m, rest, large, few-n, m1, m8, written) = z.2 in
          absurd (omega (arith, large, few n m rest few-n m1 m8 written)))
    ]

    rules-at-fault : sheet_meaning (R ++ Q) ≡ refused w L
    rules-at-fault = of_sheet (R ++ Q) short ∙ ap after_rules (fault_followed false 5 R Q w L rules_five ends)

  -- A LINE THAT IS NONE OF THE RULES', and no `team` either: the sheet is refused there too
  module _ {rules : Rules} {L : ℕ} {line another : List ℕ} {more : List (List ℕ)} (e : rules_of true 7 R ≡ up_to rules L (line ∷ another ∷ more))
      (few : rules.size.settings ≤ 5) (other : is_team rules.size.posts line ≡ false) where
    stray_five : rules_read false 5 (split newline R) ≡ up_to rules L (line ∷ another ∷ more)
    stray_five = subst (λ (o : Reading). Up 5 o (rules_read false 5 (split newline R))) (sym rules_plain ∙ e) (read_up false 5 (split newline R)) few

    rules_stray : sheet_meaning (R ++ Q) ≡ refused (Malformed L) L
    rules_stray =
        let z = subst (Goes 5 1 (split newline R)) stray_five (read_goes false 5 (split newline R)) in
        fault_stays R Q
        (of_sheet R rules-short ∙ ap after_rules stray_five ∙ ap (with_question rules) (no_team rules.size.settings rules.size.posts L line another more other))
        z.0 (omega (arith, z.1)) short

  -- the rules state that size
  size_few : Few → (rules : Rules) (L : ℕ) (left : List (List ℕ)) → rules_read false 7 (split newline R) ≡ up_to rules L left → rules.size.settings ≤ 5
  size_few few rules L left is = elim (lt_or_ge 5 rules.size.settings) [
    | inl high ↦ (let z = (settings_exactly R 1).0 (of_sheet R rules-short ∙ ap after_rules (above_five (split newline R) rules L left is high)) in
        let (n, m, rest, large, few-n, m1, m8, written) = z.2 in
        absurd (omega (arith, large, few n m rest few-n m1 m8 written)))
    | inr low ↦ low
  ]

  -- A TEXT OF RULES THAT IS REFUSED at line L, which ends in byte 10: one of the two above. Where the lines before L are rules and line L is none of
  -- theirs, it is no `team` line.
  module _ {w : Refusal} {L : ℕ} (ends : L < length (split newline R)) (few : Few)
      (other : (rules : Rules) (left : List (List ℕ)) → rules_of true 7 R ≡ up_to rules L left → is_team rules.size.posts (first_piece left) ≡ false) where
    not_last : (rules : Rules) (K : ℕ) (left : List (List ℕ)) → rules_of true 7 R ≡ up_to rules K left → length left ≤ 1 → K ≡ L → sheet_meaning (R ++ Q) ≡ refused w L
    not_last rules K left is one at =
        let z = subst (Goes 7 1 (split newline R)) (sym rules_plain ∙ is) (read_goes false 7 (split newline R)) in
        absurd (omega (arith, z.1, one, at, ends))

    by_line : (rules : Rules) (K : ℕ) (line another : List ℕ) (more : List (List ℕ)) → rules_of true 7 R ≡ up_to rules K (line ∷ another ∷ more)
        → text-refused (Malformed K) K ≡ text-refused w L → sheet_meaning (R ++ Q) ≡ refused w L
    unfolding first_piece
    by_line rules K line another more is e =
        let at : K ≡ L = cc in
        let why : Malformed K ≡ w = cc in
        let here : rules_of true 7 R ≡ up_to rules L (line ∷ another ∷ more) = is ∙ ap (λ (k : ℕ). up_to rules k (line ∷ another ∷ more)) at in
        rules_stray here (size_few few rules L (line ∷ another ∷ more) (sym rules_plain ∙ here)) (other rules (line ∷ another ∷ more) here)
        ∙ ap (λ (x : Refusal). refused x L) (ap Malformed (sym at) ∙ why)

    by_left : (rules : Rules) (K : ℕ) (left : List (List ℕ)) → rules_of true 7 R ≡ up_to rules K left → whole rules K left ≡ text-refused w L
        → sheet_meaning (R ++ Q) ≡ refused w L
    by_left rules K [] is e = not_last rules K [] is (omega arith) cc
    by_left rules K ([] ∷ []) is e = let z : ◌≡◌ {A = ℕ} 0 1 = cc in absurd (omega arith)
    by_left rules K ((c ∷ line) ∷ []) is e = not_last rules K ((c ∷ line) ∷ []) is (omega arith) cc
    by_left rules K ([] ∷ another ∷ more) is e = by_line rules K [] another more is e
    by_left rules K ((c ∷ line) ∷ another ∷ more) is e = by_line rules K (c ∷ line) another more is e

    by_reading : (o : Reading) → rules_of true 7 R ≡ o → whole_reading o ≡ text-refused w L → sheet_meaning (R ++ Q) ≡ refused w L
    by_reading (rules-refused r K) is e =
        let at : K ≡ L = cc in
        let why : r ≡ w = cc in
        rules-at-fault (is ∙ ap (λ (x : Refusal). rules-refused x K) why ∙ ap (rules-refused w) at) ends few
    by_reading (up_to rules K left) is e = by_left rules K left is e

    pub rules-refused_so : rules_meaning R ≡ text-refused w L → sheet_meaning (R ++ Q) ≡ refused w L
    unfolding rules_meaning
    rules-refused_so e = by_reading (rules_of true 7 R) refl e

  -- WHOLE RULES, of at most 5 settings, and a question
  module _ {rules : Rules} (e : rules_meaning R ≡ rules-stated rules) (few : rules.size.settings ≤ 5) (without : T (none_passed (split newline Q))) where
    abbrev n : ℕ
    n = rules.size.settings

    abbrev m : ℕ
    m = rules.size.posts

    read_whole : (L : ℕ) × (rules_read false 7 (split newline R) ≡ up_to rules L ([] ∷ []))
    unfolding rules_meaning
    read_whole = let z = whole-up_to (rules_of true 7 R) rules e in (z.0, sym rules_plain ∙ z.1)

    read_five : (L : ℕ) → rules_read false 7 (split newline R) ≡ up_to rules L ([] ∷ []) → rules_read false 5 (split newline R) ≡ up_to rules L ([] ∷ [])
    read_five L same = subst (λ (o : Reading). Up 5 o (rules_read false 5 (split newline R))) same (read_up false 5 (split newline R)) few

    -- the rules are followed by the question's lines
    line_after : (L : ℕ) → rules_read false 5 (split newline R) ≡ up_to rules L ([] ∷ []) → L ≡ suc (ended_lines R)
    line_after L same =
        let z = subst (Goes 5 1 (split newline R)) same (read_goes false 5 (split newline R)) in
        let some = some_piece newline (λ q. 1 ≤ length q) (λ p ps. omega arith) R in
        omega (arith, z.1, some)

    stops : (L : ℕ) (pieces : List (List ℕ)) → (1 < length pieces → is_of_rules false n m (first_piece pieces) ≡ false) → rules_from false L rules pieces ≡ up_to rules L pieces
    unfolding rules_from first_piece
    stops L [] h = refl
    stops L (rest ∷ []) h = refl
    stops L (line ∷ another ∷ more) h = rules_end false L rules line another more (h (omega arith))

    question_short : length Q ≤ 65536
    question_short = omega (arith, short, length-append R Q)

    -- the first line of the question, where it ends in byte 10, is none of the rules'
    abbrev First : Type 0
    First = 1 < length (split newline Q) → is_of_rules false n m (first_piece (split newline Q)) ≡ false

    two_texts : First → sheet_meaning (R ++ Q) ≡ with_question rules (question_meaning (ended_lines R) true n m Q)
    two_texts first =
        let at = read_whole in
        let five = read_five at.0 at.1 in
        of_sheet (R ++ Q) short
        ∙ ap after_rules (whole_followed false 5 R Q rules at.0 five ∙ stops at.0 (split newline Q) first)
        ∙ ap (λ (L : ℕ). with_question rules (asked_from false n m L Team nothing_asked (split newline Q))) (line_after at.0 five)
        ∙ ap (with_question rules) (sym (none_passed_same (ended_lines R) n m Q without ∙ not-long (ended_lines R) false n m Q question_short))

    counted : CountedOn (ended_lines R) (question_meaning 0 true n m Q) (question_meaning (ended_lines R) true n m Q)
    counted = counted-on (ended_lines R) true n m Q question_short

    -- what is asked is asked in the sheet
    pub texts_stated : {a : Asked} → question_meaning 0 true n m Q ≡ asked a → sheet_meaning (R ++ Q) ≡ stated (sheet_of rules a)
    texts_stated {a} is =
        two_texts (λ some. asks-first n m (split newline Q) (sym (none_passed_same 0 n m Q without ∙ not-long 0 false n m Q question_short) ∙ is))
        ∙ by_meaning (question_meaning (ended_lines R) true n m Q)
        (subst (λ (o : QuestionMeaning). CountedOn (ended_lines R) o (question_meaning (ended_lines R) true n m Q)) is counted)
      where
        by_meaning : (o : QuestionMeaning) → CountedOn (ended_lines R) (asked a) o → with_question rules o ≡ stated (sheet_of rules a)
        by_meaning (question_refused r L) c = absurd c
        by_meaning (asked b) c = ap (λ (x : Asked). stated (sheet_of rules x)) c

    -- a refusal of the question is the sheet's, by its number, and its line is counted on
    pub texts_refused : {w : Refusal} {L : ℕ} → First → question_meaning 0 true n m Q ≡ question_refused w L
        → (x : Refusal) × (sheet_meaning (R ++ Q) ≡ refused x (ended_lines R + L)) × (number x ≡ number w)
    texts_refused {w} {L} first is =
        let z = by_meaning (question_meaning (ended_lines R) true n m Q)
        (subst (λ (o : QuestionMeaning). CountedOn (ended_lines R) o (question_meaning (ended_lines R) true n m Q)) is counted) in
        (z.0, two_texts first ∙ z.1, z.2)
      where
        by_meaning : (o : QuestionMeaning) → CountedOn (ended_lines R) (question_refused w L) o
            → (x : Refusal) × (with_question rules o ≡ refused x (ended_lines R + L)) × (number x ≡ number w)
        by_meaning (question_refused r K) (same, line) = (r, ap (refused r) line, same)
        by_meaning (asked b) c = absurd c

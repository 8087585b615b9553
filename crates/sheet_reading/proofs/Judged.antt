-- A well-formed sheet is taken as what it is, or refused for the first fault of its lines: each line passes the test of its form and reads back,
-- and the tests that are left find exactly the faults that Faults tells.
use mathlib.Core.Path.{◌≡◌, refl, sym, ap, ◌∙◌, subst}
use mathlib.Core.Logic.{inl, inr}
use mathlib.Core.List.{List, [], ◌∷◌, ◌++◌, append_assoc, append-nil, map, map-append}
use mathlib.Core.Bool.{Bool, true, false, not}
use Prim.Native.Nat.{ℕ, suc, ◌<◌}
use native.Mathlib.Omega.{arith}
use lib.Dec.{T, leb, ltb, lt→ltb, leb→le, le→leb}
use lib.ListN.{length, length-append}
use Rattle.ground.specs.Text.{bytes}
use Rattle.ground.proofs.Bools.{T→true, both, lt_or_ge}
use Rattle.refusal.specs.declared.Refusal.{Refusal}
use Rattle.refusal.specs.declared.Refusal.TheVariants.{Twice, SheetSettings}
use Rattle.refusal.specs.Order.{First}
use Rattle.formula.specs.Read.{formula_rows}
use Rattle.std.proofs.Common.{Result, Ok, Err}
use Rattle.formula.specs.Computed.{formula_answer}
use Rattle.book_block.specs.declared.rule.Right.{Right}
use Rattle.book_block.specs.declared.rule.Right.TheVariants.{Look, Set}
use Rattle.sheet_words.specs.Words.{split, newline, begins, twice}
use Rattle.sheet_words.specs.Steps.{next, unless, unless_answered, unless_refused}
use Rattle.sheet_words.proofs.Split.{Clear}
use Rattle.sheet_rules.specs.Rules.{Rule, is_stated}
use Rattle.sheet_rules.specs.Forms.{is_rule, rule_of, is_size}
use Rattle.sheet_question.specs.Asked.{HeldLine, left_out, holding, nothing_asked, team_as, known_as, held_as, asks_as, known_settings}
use Rattle.sheet_question.specs.Forms.{is_team, is_known, is_held}
use Rattle.sheet_reading.specs.Sheet.{Sheet, sized}
use Rattle.sheet_reading.specs.Reading.{Meaning, refused, stated}
use Rattle.sheet_reading.proofs.OnePass.{SheetStep, asked_as, with_rule, rule_step, with_team, with_known, with_held, with_make, with_ask, size_step, team_step, known_step}
use Rattle.sheet_reading.proofs.OnePass.{held_step, make_step, held_or_make, ask_step, rights_step, lines, first_line, after}
use Rattle.sheet_question.specs.declared.desk.Due.TheVariants.{Team, Known, Held, Make, Asks}
use Rattle.sheet_reading.specs.Grammar.{ended, size_text, word, rule_line, rule_lines, team_line, known_line, held_line, held_text, make_line, ask_lines}
use Rattle.sheet_reading.specs.Grammar.{rules_text, asked_text, sheet_text, RulesFit, HeldFit, AsksFit, WellFormed}
use Rattle.sheet_reading.specs.Faults.{Line, size_line, right_line, team_line_case, known_line_case, held_line_case, make_line_case, ask_line, held_in, lines_of}
use Rattle.sheet_reading.specs.Faults.{NamesTwice, FormulaRefused, Fault, above, again, in-formula, LineFault}
use Rattle.sheet_reading.proofs.Named.{repeats_out, repeats_in, stated_out, stated_in}
use Rattle.sheet_reading.proofs.FaultLaws.{refused-first, accepted-none, FirstFault, Turn, first_turn, faulty, onward, all-clean}
use Rattle.sheet_reading.proofs.LineForms.{clear-append, size-read, size-clear, rule-read, rule-clear}
use Rattle.sheet_reading.proofs.NameLines.{team-read, team-clear, known_read, known-clear, held-read, held-clear}
use Rattle.sheet_reading.proofs.LineByLine.{line_clear, lines_split, first-split}

-- ---- what becomes of a well-formed sheet

abbrev pub Judged : Sheet → Meaning → Type 0
Judged w (refused r L) = FirstFault w L r
Judged w (stated v) = (v ≡ w) × ((K : ℕ) (x : Refusal) → LineFault w K x → ⊥)

not-not : (b : Bool) → T (not (not b)) → T b
not-not true h = tt
not-not false h = elim h [ ]

not-most : (n : ℕ) → T (not (leb n 5)) → 5 < n
not-most n h = elim (lt_or_ge 5 n) [ inl l ↦ l | inr l ↦ both (leb n 5) (le→leb n 5 l) h ]

module _ {w : Sheet} {L : ℕ} {before : List Line} {line : Line} {behind : List Line} (t : Turn w L before (line ∷ behind)) (pieces : List (List ℕ)) where
  judged-unless : (b : Bool) (r : Refusal) (later : SheetStep) → (T (not b) → Fault w.size.settings L before line r) → (T b → Judged w (after L pieces later))
      → Judged w (after L pieces (unless b r later))
  judged-unless true r later f h = h tt
  judged-unless false r later f h = faulty t (f tt)

  judged-names : (b : Bool) (later : SheetStep) → (T b → NamesTwice before line) → (NamesTwice before line → T b)
      → ((NamesTwice before line → ⊥) → Judged w (after L pieces later)) → Judged w (after L pieces (unless (not b) (Twice L) later))
  judged-names b later f g h = judged-unless (not b) (Twice L) later (λ k. again (f (not-not b k))) (λ k. h (λ x. both b (g x) k))

  judged_formula : (F : List ℕ) (later : SheetStep) → ((r : Refusal) → First (formula_rows w.size.settings F) r → FormulaRefused w.size.settings line r)
      → (NamesTwice before line → ⊥) → (((r : Refusal) → First (formula_rows w.size.settings F) r → ⊥) → Judged w (after L pieces later))
      → Judged w (after L pieces (unless_refused w.size.settings F later))
  unfolding unless_refused
  judged_formula F later f once h = by_answer (formula_answer w.size.settings F) refl
    where
      by_answer : (a : Result (Unit {0}) Refusal) → formula_answer w.size.settings F ≡ a → Judged w (after L pieces (unless_answered a later))
      by_answer (Ok x) e = h (accepted-none w.size.settings F e)
      by_answer (Err r) e = faulty t (in-formula once (f r (refused-first w.size.settings F r e)))

-- ---- the sheet as it is stated so far

abbrev ruled : Sheet → List Rule → Sheet
ruled w rs = record { size = w.size; rules = rs; asked = nothing_asked }

abbrev teamed : Sheet → Sheet
teamed w = asked_as w (team_as nothing_asked w.asked.team)

abbrev knowing : Sheet → HeldLine → Sheet
knowing w x = asked_as w (held_as (known_as (team_as nothing_asked w.asked.team) w.asked.known) x)

abbrev asking : Sheet → List (List ℕ) → Sheet
asking w Fs = asked_as w (asks_as w.asked Fs)

-- the line of a right is read as a right, by its first word
right-step : (L : ℕ) (v : Sheet) (r : Rule) → r.setting < v.size.settings → r.post < v.size.posts → rights_step L v (rule_line r) ≡ rule_step L v r
unfolding rights_step rule_line word is_rule begins
right-step L v r i q = let form = rule-read v.size.settings v.size.posts r i q in by_right r.right r.setting r.post r.text form.0 form.1
  where
    by_right : (right : Right) (i q : ℕ) (F : List ℕ) →
        (let r : Rule = record { right = right; setting = i; post = q; text = F } in
        T (is_rule (word right) v.size.settings v.size.posts (rule_line r)) → rule_of (word right) right (rule_line r) ≡ r →
        rights_step L v (rule_line r) ≡ rule_step L v r)
    by_right Look i q F t e =
        rw (T→true (is_rule (bytes "read ") v.size.settings v.size.posts (rule_line (record { right = Look; setting = i; post = q; text = F }))) t) (ap (rule_step L v) e)
    by_right Set i q F t e =
        rw (T→true (is_rule (bytes "write ") v.size.settings v.size.posts (rule_line (record { right = Set; setting = i; post = q; text = F }))) t) (ap (rule_step L v) e)

module _ (w : Sheet) (h : WellFormed w) where
  asks-judged : (Fs done : List (List ℕ)) (L : ℕ) (before : List Line) → AsksFit Fs → done ++ Fs ≡ w.asked.asks → Turn w L before (map ask_line Fs)
      → Judged w (lines L Asks (asking w done) (split newline (ask_lines Fs)))
  unfolding ask_lines split lines ask_step begins with_ask
  asks-judged [] done L before i e t = (ap (asking w) (sym (append-nil done) ∙ e), all-clean t)
  asks-judged (F ∷ Fs) done L before i e t =
      let fewer : length done < 4 = omega (arith, h.well_asked.asks_most, ap length e, length-append done (F ∷ Fs)) in
      let line : List ℕ = bytes "ask " ++ F in
      subst (Judged w) (sym (lines_split L Asks (asking w done) line (ask_lines Fs) (clear-append 10 (bytes "ask ") F (omega arith) (line_clear F i.0))))
      (rw (T→true (ltb (length done) 4) (lt→ltb (length done) 4 fewer))
      (judged_formula t (split newline (ask_lines Fs)) F (next (Asks, asking w (done ++ F ∷ []))) (λ r f. f) (λ x. x) (λ none.
      asks-judged Fs (done ++ F ∷ []) (suc L) (before ++ ask_line F ∷ []) i.1 (append_assoc done (F ∷ []) Fs ∙ e) (onward t (λ x. x) (λ x. x) none))))

  -- the lines from `make` on
  abbrev making : List Line
  making = make_line_case w.asked.make ∷ map ask_line w.asked.asks

  abbrev make_text : List ℕ
  make_text = ended (make_line w.asked.make) ++ ask_lines w.asked.asks

  -- whether the line `held` came before it or not
  make-judged : (x : HeldLine) → w.asked.held ≡ x → (L : ℕ) (before : List Line) → Turn w L before making
      → Judged w (after L (split newline (ask_lines w.asked.asks)) (make_step L (knowing w x) (make_line w.asked.make)))
  unfolding make_step begins with_make make_line
  make-judged x e L before t =
      subst (λ (x : HeldLine). Judged w (after L (split newline (ask_lines w.asked.asks)) (make_step L (knowing w x) (make_line w.asked.make)))) e
      (judged_formula t (split newline (ask_lines w.asked.asks)) w.asked.make (next (Asks, asking w [])) (λ r f. f) (λ x. x) (λ none.
      asks-judged w.asked.asks [] (suc L) (before ++ make_line_case w.asked.make ∷ []) h.well_asked.asks refl (onward t (λ x. x) (λ x. x) none)))

  make-clear : Clear 10 (make_line w.asked.make)
  unfolding make_line
  make-clear = clear-append 10 (bytes "make ") w.asked.make (omega arith) (line_clear w.asked.make h.well_asked.make)

  -- the line `held`, or `make` where it is left out
  held-judged : (x : HeldLine) → w.asked.held ≡ x → HeldFit w.size.settings x → (L : ℕ) (before : List Line) → Turn w L before (held_in x ++ making)
      → Judged w (lines L Held (knowing w left_out) (split newline (held_text x ++ make_text)))
  unfolding held_in held_text held_or_make held_step with_held begins held_line make_line
  held-judged left_out e fit L before t =
      subst (Judged w) (sym (lines_split L Held (knowing w left_out) (make_line w.asked.make) (ask_lines w.asked.asks) make-clear)) (make-judged left_out e L before t)
  held-judged (holding names) e fit L before t =
      let form = held-read w.size.settings h.ruled.settings_most names fit in
      subst (Judged w) (sym (lines_split L Held (knowing w left_out) (held_line names) make_text (held-clear names)))
      (rw (T→true (is_held w.size.settings (held_line names)) form.0, form.1)
      (judged-names t (split newline make_text) (twice (λ i. false) names) (next (Make, knowing w (holding names))) (repeats_out names) (repeats_in names) (λ once.
      subst (Judged w) (sym (lines_split (suc L) Make (knowing w (holding names)) (make_line w.asked.make) (ask_lines w.asked.asks) make-clear))
      (make-judged (holding names) e (suc L) (before ++ held_line_case names ∷ []) (onward t (λ x. x) once (λ r x. x))))))

  -- the lines from `held` on
  abbrev later : List Line
  later = held_in w.asked.held ++ making

  abbrev later_text : List ℕ
  later_text = held_text w.asked.held ++ make_text

  known-judged : (L : ℕ) (before : List Line) → Turn w L before (known_line_case w.asked.known ∷ later)
      → Judged w (lines L Known (teamed w) (split newline (ended (known_line w.asked.known) ++ later_text)))
  unfolding known_step with_known
  known-judged L before t =
      let names : List ℕ = known_settings w.asked.known in
      let form = known_read w.size.settings h.ruled.settings_most w.asked.known h.well_asked.known in
      subst (Judged w) (sym (lines_split L Known (teamed w) (known_line w.asked.known) later_text (known-clear w.asked.known)))
      (rw (T→true (is_known w.size.settings (known_line w.asked.known)) form.0, form.1)
      (judged-names t (split newline later_text) (twice (λ i. false) names) (next (Held, knowing w left_out)) (repeats_out names) (repeats_in names) (λ once.
      held-judged w.asked.held refl h.well_asked.held (suc L) (before ++ known_line_case w.asked.known ∷ []) (onward t (λ x. x) once (λ r x. x)))))

  team-judged : (L : ℕ) (before : List Line) → Turn w L before (team_line_case w.asked.team ∷ known_line_case w.asked.known ∷ later)
      → Judged w
      (lines L Team (ruled w w.rules) (split newline (ended (team_line w.asked.team) ++ (ended (known_line w.asked.known) ++ later_text))))
  unfolding rights_step is_rule begins team_line team_step with_team
  team-judged L before t =
      let rest : List ℕ = ended (known_line w.asked.known) ++ later_text in
      let names : List ℕ = w.asked.team in
      let form = team-read w.size.posts h.ruled.posts_most w.asked.team h.well_asked.someone h.well_asked.team in
      subst (Judged w) (sym (lines_split L Team (ruled w w.rules) (team_line w.asked.team) rest (team-clear w.asked.team)))
      (rw (T→true (is_team w.size.posts (team_line w.asked.team)) form.0, form.1)
      (judged-names t (split newline rest) (twice (λ i. false) names) (next (Known, teamed w)) (repeats_out names) (repeats_in names) (λ once.
      known-judged (suc L) (before ++ team_line_case w.asked.team ∷ []) (onward t (λ x. x) once (λ r x. x)))))

  -- the lines before a right: the size and the rights that are stated
  abbrev stating : List Rule → List Line
  stating done = size_line w.size ∷ map right_line done

  rules-judged : (rs done : List Rule) (L : ℕ) (rest : List ℕ) (behind : List Line) → RulesFit w.size.settings w.size.posts rs → done ++ rs ≡ w.rules →
      Turn w L (stating done) (map right_line rs ++ behind) →
      ((K : ℕ) → Turn w K (stating w.rules) behind → Judged w (lines K Team (ruled w w.rules) (split newline rest))) →
      Judged w (lines L Team (ruled w done) (split newline (rule_lines rs ++ rest)))
  unfolding rule_lines rule_step with_rule
  rules-judged [] done L rest behind i e t f =
      let all : w.rules ≡ done = sym e ∙ append-nil done in
      subst (λ (rs : List Rule). Judged w (lines L Team (ruled w rs) (split newline rest))) all
      (f L (subst (λ (rs : List Rule). Turn w L (stating rs) behind) (sym all) t))
  rules-judged (r ∷ rs) done L rest behind i e t f =
      let others : List ℕ = rule_lines rs ++ rest in
      let v : Sheet = ruled w done in
      subst (Judged w)
      (sym (ap (λ (s : List ℕ). lines L Team v (split newline s)) (append_assoc (ended (rule_line r)) (rule_lines rs) rest)
      ∙ lines_split L Team v (rule_line r) others (rule-clear r (line_clear r.text i.0.2))
      ∙ ap (after L (split newline others)) (right-step L v r i.0.0 i.0.1)))
      (judged-names t (split newline others) (is_stated done r.right r.setting r.post)
      (unless_refused w.size.settings r.text (next (Team, with_rule v r)))
      (λ k. inr (stated_out r done k)) (λ k. elim k [ inl x ↦ absurd x | inr x ↦ stated_in r done x ]) (λ once.
      judged_formula t (split newline others) r.text (next (Team, with_rule v r)) (λ x k. k) once (λ none.
      rules-judged rs (done ++ r ∷ []) (suc L) rest behind i.1 (append_assoc done (r ∷ []) rs ∙ e)
      (subst (λ (b : List Line). Turn w (suc L) (size_line w.size ∷ b) (map right_line rs ++ behind)) (sym (map-append right_line done (r ∷ [])))
      (onward t (λ x. x) once none))
      f)))

  -- all of it, but for its length
  pub lines-judged : Judged w (first_line (split newline (sheet_text w)))
  unfolding size_step sized sheet_text rules_text asked_text lines_of
  lines-judged =
      let line : List ℕ = size_text w.size.settings w.size.posts in
      let form = size-read w.size.settings w.size.posts (h.ruled.settings_least, h.ruled.settings_most, h.ruled.posts_least, h.ruled.posts_most) in
      let rest : List ℕ = asked_text w.asked in
      let whole : List ℕ = rule_lines w.rules ++ rest in
      let behind : List Line = team_line_case w.asked.team ∷ known_line_case w.asked.known ∷ later in
      subst (Judged w)
      (sym (ap (λ (s : List ℕ). first_line (split newline s)) (append_assoc (ended line) (rule_lines w.rules) rest) ∙ first-split line whole (size-clear w.size.settings w.size.posts)))
      (rw (T→true (is_size line) form.0, form.1, form.2)
      (judged-unless (first_turn w) (split newline whole) (leb w.size.settings 5) SheetSettings (next (Team, ruled w [])) (λ k. above (not-most w.size.settings k)) (λ k.
      rules-judged w.rules [] 2 rest behind h.ruled.rules refl
      (onward (first_turn w) (λ x. omega (arith, x, leb→le w.size.settings 5 k)) (λ x. x) (λ r x. x))
      (λ K t. team-judged K (stating w.rules) t))))

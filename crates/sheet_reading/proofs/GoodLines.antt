-- Each line that is taken adds its own text to the text of the lines before it, and keeps what they say well formed: by the form of the line.
use mathlib.Core.Path.{◌≡◌, refl, sym, ap, ◌∙◌, subst}
use mathlib.Core.List.{List, [], ◌∷◌, ◌++◌, append_assoc, append-nil}
use mathlib.Core.Bool.{Bool, true, false, not, ◌&&◌}
use Prim.Native.Nat.{ℕ, zero, suc, ◌+◌, ◌<◌}
use native.Mathlib.Omega.{arith}
use lib.Dec.{T, leb, ltb, ltb→lt}
use lib.ListN.{length, drop, length-append}
use Rattle.ground.specs.Text.{bytes}
use Rattle.ground.proofs.Bools.{and_left, and_right}
use Rattle.refusal.specs.declared.Refusal.TheVariants.{Twice, SheetSettings}
use Rattle.book_block.specs.declared.rule.Right.{Right}
use Rattle.book_block.specs.declared.rule.Right.TheVariants.{Look, Set}
use Rattle.sheet_words.specs.Words.{begins, twice}
use Rattle.sheet_words.specs.Steps.{next, unless, unless_refused}
use Rattle.sheet_rules.specs.Rules.{Rule, is_stated}
use Rattle.sheet_rules.specs.Forms.{is_rule, rule_of, is_size, digit_at}
use Rattle.sheet_question.specs.Asked.{known_settings}
use Rattle.sheet_question.specs.Forms.{is_team, team_of, is_known, known_of, is_held, held_of}
use Rattle.sheet_question.specs.LineSteps.{held_or}
use Rattle.sheet_reading.specs.Sheet.{Sheet, sized}
use Rattle.sheet_reading.proofs.OnePass.{SheetStep, with_rule, rule_step, with_team, with_known, with_held, with_make, with_ask, size_step, team_step, known_step}
use Rattle.sheet_reading.proofs.OnePass.{held_step, make_step, held_or_make, ask_step, right_or_team, rights_step, step}
use Rattle.sheet_question.specs.declared.desk.Due.{Due}
use Rattle.sheet_question.specs.declared.desk.Due.TheVariants.{Team, Known, Held, Make, Asks}
use Rattle.sheet_reading.specs.Grammar.{ended, size_text, word, rule_line, rule_lines, held_text, make_line, ask_lines, rules_text, InLine, RulesFit, AsksFit, WellFormed}
use Rattle.sheet_reading.proofs.LineForms.{begins-written, size-written, rule-written}
use Rattle.sheet_reading.proofs.NameLines.{team-written, known_written, held-written}
use Rattle.sheet_reading.proofs.SoFar.{to_rights, to_team, to_known, to_held, so_far, Begun, Teamed, WellSoFar, none-held, none-text, made, Good, good_begins, good_form, good_unless, good_refused}

-- ---- each line keeps it

pub size_good : (line : List ℕ) → Good 1 (ended line) (size_step line)
unfolding size_step sized to_rights rules_text rule_lines
size_good line =
    let n : ℕ = digit_at line 5 in
    let m : ℕ = digit_at line 7 in
    good_form 1 (ended line) (is_size line) (unless (leb n 5) SheetSettings (next (Team, sized n m))) (λ h.
    let form = size-written line h in
    let good : Good 1 (ended line) (next (Team, sized n m)) = (
      (record { settings_least = form.0.0; settings_most = form.0.1; posts_least = form.0.2; posts_most = form.0.3; rules = tt }, refl, refl),
      append-nil (ended (size_text n m)) ∙ ap ended (sym form.1),
    ) in
    good_unless 1 (ended line) (leb n 5) SheetSettings (next (Team, sized n m)) (λ e. omega (arith, e)) (good_begins 1 (ended line) Team (sized n m) good) good)

in-drop : (k : ℕ) (s : List ℕ) → InLine s → InLine (drop k s)
in-drop zero s h = h
in-drop (suc k) [] h = tt
in-drop (suc k) (c ∷ s) h = in-drop k s h.1

rules_snoc : (rs : List Rule) (r : Rule) → rule_lines (rs ++ r ∷ []) ≡ rule_lines rs ++ ended (rule_line r)
unfolding rule_lines
rules_snoc [] r = append-nil (ended (rule_line r))
rules_snoc (x ∷ rs) r = ap (◌++◌ (ended (rule_line x))) (rules_snoc rs r) ∙ sym (append_assoc (ended (rule_line x)) (rule_lines rs) (ended (rule_line r)))

rules_fit_snoc : (n m : ℕ) (rs : List Rule) (r : Rule) → RulesFit n m rs → (r.setting < n) × (r.post < m) × InLine r.text → RulesFit n m (rs ++ r ∷ [])
rules_fit_snoc n m [] r h k = (k, tt)
rules_fit_snoc n m (x ∷ rs) r h k = (h.0, rules_fit_snoc n m rs r h.1 k)

rule_good : (L : ℕ) (v : Sheet) (right : Right) (line : List ℕ) → Begun v → InLine line →
    T (is_rule (word right) v.size.settings v.size.posts line) →
    Good L (to_rights v ++ ended line) (rule_step L v (rule_of (word right) right line))
unfolding rule_step with_rule to_rights rules_text rule_of
rule_good L v right line b i h =
    let s : List ℕ = to_rights v ++ ended line in
    let r : Rule = rule_of (word right) right line in
    let form = rule-written right v.size.settings v.size.posts line h in
    let good : Good L s (next (Team, with_rule v r)) = (
      (
        record {
          settings_least = b.0.settings_least;
          settings_most = b.0.settings_most;
          posts_least = b.0.posts_least;
          posts_most = b.0.posts_most;
          rules = rules_fit_snoc v.size.settings v.size.posts v.rules r b.0.rules (form.0, form.1, in-drop (length (word right) + 4) line i);
        },
        b.1,
        b.2,
      ),
      ap (◌++◌ (ended (size_text v.size.settings v.size.posts))) (rules_snoc v.rules r ∙ ap (λ (l : List ℕ). rule_lines v.rules ++ ended l) (sym form.2))
          ∙ sym (append_assoc (ended (size_text v.size.settings v.size.posts)) (rule_lines v.rules) (ended line)),
    ) in
    good_unless L s (not (is_stated v.rules r.right r.setting r.post)) (Twice L) (unless_refused v.size.settings r.text (next (Team, with_rule v r))) (λ e. omega (arith, e))
    (good_begins L s Team (with_rule v r) good) (good_refused L s v.size.settings r.text Team (with_rule v r) good)

team_good : (L : ℕ) (v : Sheet) (line : List ℕ) → Begun v → Good L (to_rights v ++ ended line) (team_step L v line)
unfolding team_step with_team to_team to_rights
team_good L v line b =
    let s : List ℕ = to_rights v ++ ended line in
    good_form L s (is_team v.size.posts line) (unless (not (twice (λ i. false) (team_of line))) (Twice L) (next (Known, with_team v line))) (λ h.
    let form = team-written v.size.posts line h in
    let good : Good L s (next (Known, with_team v line)) = ((b, form.0, form.1), ap (λ (l : List ℕ). to_rights v ++ ended l) (sym form.2)) in
    good_unless L s (not (twice (λ i. false) (team_of line))) (Twice L) (next (Known, with_team v line)) (λ e. omega (arith, e)) (good_begins L s Known (with_team v line) good) good)

rights_good : (L : ℕ) (v : Sheet) (line : List ℕ) → Begun v → InLine line → Good L (to_rights v ++ ended line) (rights_step L v line)
unfolding rights_step word
rights_good L v line b i =
    by_form (is_rule (bytes "read ") v.size.settings v.size.posts line) (is_rule (bytes "write ") v.size.settings v.size.posts line)
    (rule_step L v (rule_of (bytes "read ") Look line)) (rule_step L v (rule_of (bytes "write ") Set line)) (team_step L v line)
    (rule_good L v Look line b i) (rule_good L v Set line b i) (team_good L v line b)
  where
    by_form :
        (look set? : Bool) (x y z : SheetStep) → (T look → Good L (to_rights v ++ ended line) x) → (T set? → Good L (to_rights v ++ ended line) y) →
        Good L (to_rights v ++ ended line) z → Good L (to_rights v ++ ended line) (right_or_team look x set? y z)
    by_form true set? x y z f g h = f tt
    by_form false true x y z f g h = g tt
    by_form false false x y z f g h = h

known_good : (L : ℕ) (v : Sheet) (line : List ℕ) → Teamed v → Good L (to_team v ++ ended line) (known_step L v line)
unfolding known_step with_known to_known to_team to_rights
known_good L v line begun =
    let s : List ℕ = to_team v ++ ended line in
    let once? : Bool = not (twice (λ i. false) (known_settings (known_of line))) in
    good_form L s (is_known v.size.settings line) (unless once? (Twice L) (next (Held, with_known v line))) (λ h.
    let form = known_written v.size.settings line h in
    let good : Good L s (next (Held, with_known v line)) = ((begun, form.0), ap (λ (l : List ℕ). to_team v ++ ended l) (sym form.1)) in
    good_unless L s once? (Twice L) (next (Held, with_known v line)) (λ e. omega (arith, e)) (good_begins L s Held (with_known v line) good) good)

make_good : (L : ℕ) (v : Sheet) (line : List ℕ) → WellSoFar Make v → InLine line → Good L (to_held v ++ ended line) (make_step L v line)
unfolding make_step with_make to_held to_known to_team to_rights make_line ask_lines
make_good L v line so i =
    let s : List ℕ = to_held v ++ ended line in
    let F : List ℕ = drop 5 line in
    good_form L s (begins (bytes "make ") line) (unless_refused v.size.settings F (next (Asks, with_make v F))) (λ h.
    good_refused L s v.size.settings F Asks (with_make v F) (
      made v F so (in-drop 5 line i),
      ap (λ (Fs : List (List ℕ)). (to_held v ++ ended (bytes "make " ++ F)) ++ ask_lines Fs) so.no_asks
          ∙ append-nil (to_held v ++ ended (bytes "make " ++ F))
          ∙ ap (λ (l : List ℕ). to_held v ++ ended l) (sym (begins-written (bytes "make ") line h)),
    ))

held_good : (L : ℕ) (v : Sheet) (line : List ℕ) → WellSoFar Held v → Good L (to_known v ++ ended line) (held_step L v line)
unfolding held_step with_held to_held to_known to_team to_rights held_text
held_good L v line so =
    let s : List ℕ = to_known v ++ ended line in
    let once? : Bool = not (twice (λ i. false) (held_of line)) in
    good_form L s (is_held v.size.settings line) (unless once? (Twice L) (next (Make, with_held v line))) (λ h.
    let form = held-written v.size.settings line h in
    let free = none-held v so in
    let good : Good L s (next (Make, with_held v line)) = (
      record { ruled = free.ruled; no_asks = free.no_asks; someone = free.someone; team = free.team; known = free.known; held = form.0 },
      ap (λ (l : List ℕ). to_known v ++ ended l) (sym form.1),
    ) in
    good_unless L s once? (Twice L) (next (Make, with_held v line)) (λ e. omega (arith, e)) (good_begins L s Make (with_held v line) good) good)

-- the line `held`, or `make` where it is left out
held_or_make_good : (L : ℕ) (v : Sheet) (line : List ℕ) → WellSoFar Held v → InLine line → Good L (to_known v ++ ended line) (held_or_make L v line)
unfolding held_or_make
held_or_make_good L v line so i =
    by_form (begins (bytes "held") line) (held_step L v line) (make_step L v line) (held_good L v line so)
    (subst (λ (s : List ℕ). Good L (s ++ ended line) (make_step L v line)) (none-text v so) (make_good L v line (none-held v so) i))
  where
    by_form : (b : Bool) (x y : SheetStep) → Good L (to_known v ++ ended line) x → Good L (to_known v ++ ended line) y → Good L (to_known v ++ ended line) (held_or b x y)
    by_form true x y g h = g
    by_form false x y g h = h

asks_snoc : (Fs : List (List ℕ)) (F : List ℕ) → ask_lines (Fs ++ F ∷ []) ≡ ask_lines Fs ++ ended (bytes "ask " ++ F)
unfolding ask_lines
asks_snoc [] F = append-nil (ended (bytes "ask " ++ F))
asks_snoc (G ∷ Fs) F = ap (◌++◌ (ended (bytes "ask " ++ G))) (asks_snoc Fs F) ∙ sym (append_assoc (ended (bytes "ask " ++ G)) (ask_lines Fs) (ended (bytes "ask " ++ F)))

asks_fit_snoc : (Fs : List (List ℕ)) (F : List ℕ) → AsksFit Fs → InLine F → AsksFit (Fs ++ F ∷ [])
asks_fit_snoc [] F h k = (k, tt)
asks_fit_snoc (G ∷ Fs) F h k = (h.0, asks_fit_snoc Fs F h.1 k)

ask_good : (L : ℕ) (v : Sheet) (line : List ℕ) → WellFormed v → InLine line → Good L (so_far Asks v ++ ended line) (ask_step L v line)
unfolding ask_step with_ask to_held to_known to_team to_rights
ask_good L v line b i =
    let before : List ℕ = to_held v ++ ended (make_line v.asked.make) in
    let s : List ℕ = (before ++ ask_lines v.asked.asks) ++ ended line in
    let F : List ℕ = drop 4 line in
    good_form L s (begins (bytes "ask ") line && ltb (length v.asked.asks) 4) (unless_refused v.size.settings F (next (Asks, with_ask v F))) (λ h.
    let fewer = ltb→lt (length v.asked.asks) 4 (and_right (begins (bytes "ask ") line) (ltb (length v.asked.asks) 4) h) in
    good_refused L s v.size.settings F Asks (with_ask v F) (
      record {
        ruled = b.ruled;
        well_asked = record {
          someone = b.well_asked.someone;
          team = b.well_asked.team;
          known = b.well_asked.known;
          held = b.well_asked.held;
          make = b.well_asked.make;
          asks = asks_fit_snoc v.asked.asks F b.well_asked.asks (in-drop 4 line i);
          asks_most = rw (length-append v.asked.asks (F ∷ [])) (omega arith);
        };
      },
      ap (◌++◌ before)
          (asks_snoc v.asked.asks F
          ∙ ap (λ (l : List ℕ). ask_lines v.asked.asks ++ ended l)
          (sym (begins-written (bytes "ask ") line (and_left (begins (bytes "ask ") line) (ltb (length v.asked.asks) 4) h))))
          ∙ sym (append_assoc before (ask_lines v.asked.asks) (ended line)),
    ))

pub step_good : (L : ℕ) (due : Due) (v : Sheet) (line : List ℕ) → WellSoFar due v → InLine line → Good L (so_far due v ++ ended line) (step L due v line)
step_good L Team v line h i = rights_good L v line h i
step_good L Known v line h i = known_good L v line h
step_good L Held v line h i = held_or_make_good L v line h i
step_good L Make v line h i = make_good L v line h i
step_good L Asks v line h i = ask_good L v line h i

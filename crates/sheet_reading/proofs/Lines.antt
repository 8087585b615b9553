-- The first lines of a text: what follows them, that a text which begins with them has the same, and that a sheet's text is its lines.
use mathlib.Core.Path.{◌≡◌, refl, sym, ap, ap₂, ◌∙◌}
use mathlib.Core.List.{List, [], ◌∷◌, ◌++◌, append_assoc, append-nil, map, map-append}
use Prim.Native.Nat.{ℕ, zero, suc, ◌≤◌, ◌<◌}
use native.Mathlib.Omega.{arith}
use lib.ListN.{length, take, drop}
use lib.Seq.{length-take-le, take_at}
use Rattle.ground.specs.Text.{bytes}
use Rattle.sheet_words.specs.Words.{split, newline}
use Rattle.sheet_words.proofs.Split.{AllClear, joined, joined_split, split-clear}
use Rattle.sheet_rules.specs.Rules.{Rule}
use Rattle.sheet_question.specs.Asked.{HeldLine, left_out, holding}
use Rattle.sheet_reading.specs.Sheet.{Sheet}
use Rattle.sheet_reading.specs.Grammar.{ended, rule_line, rule_lines, team_line, known_line, held_line, held_text, make_line, ask_lines, rules_text, asked_text, sheet_text}
use Rattle.sheet_reading.specs.Place.{all_ended, first_lines}
use Rattle.sheet_reading.specs.Faults.{Line, size_line, right_line, team_line_case, known_line_case, make_line_case, ask_line, line_text, held_in, lines_of}
use Rattle.sheet_reading.proofs.LineByLine.{split-ended}

pub ended-append : (p q : List (List ℕ)) → all_ended (p ++ q) ≡ all_ended p ++ all_ended q
unfolding all_ended
ended-append [] q = refl
ended-append (line ∷ p) q = ap (◌++◌ (ended line)) (ended-append p q) ∙ sym (append_assoc (ended line) (all_ended p) (all_ended q))

-- ---- the first L lines and what follows them

joined_take : (L : ℕ) (pieces : List (List ℕ)) → L < length pieces → joined newline pieces ≡ all_ended (take L pieces) ++ joined newline (drop L pieces)
unfolding all_ended ended
joined_take zero pieces h = refl
joined_take (suc L) [] h = absurd (omega arith)
joined_take (suc L) (line ∷ []) h = absurd (omega arith)
joined_take (suc L) (line ∷ another ∷ more) h =
    ap (λ (t : List ℕ). line ++ newline ∷ t) (joined_take L (another ∷ more) (omega arith)) ∙ sym (simp append_assoc)

pub first-lines : (s : List ℕ) (L : ℕ) → L < length (split newline s) → s ≡ first_lines L s ++ joined newline (drop L (split newline s))
unfolding first_lines
first-lines s L h = sym (joined_split newline s) ∙ joined_take L (split newline s) h

-- ---- a text that begins with them has the same first L lines

clear-take : (L : ℕ) (pieces : List (List ℕ)) → AllClear newline pieces → AllClear newline (take L pieces)
clear-take zero pieces c = tt
clear-take (suc L) [] c = tt
clear-take (suc L) (line ∷ more) c = (c.0, clear-take L more c.1)

split-all-ended : (pieces : List (List ℕ)) (rest : List ℕ) → AllClear newline pieces → split newline (all_ended pieces ++ rest) ≡ pieces ++ split newline rest
unfolding all_ended
split-all-ended [] rest c = refl
split-all-ended (line ∷ more) rest c =
    ap (split newline) (append_assoc (ended line) (all_ended more) rest)
    ∙ split-ended line (all_ended more ++ rest) c.0
    ∙ ap (◌∷◌ line) (split-all-ended more rest c.1)

pub same_lines : (s rest : List ℕ) (L : ℕ) → L ≤ length (split newline s) → take L (split newline (first_lines L s ++ rest)) ≡ take L (split newline s)
unfolding first_lines
same_lines s rest L h =
    let pieces : List (List ℕ) = take L (split newline s) in
    ap (take L) (split-all-ended pieces rest (clear-take L (split newline s) (split-clear newline s)))
    ∙ take_at pieces (split newline rest) L (length-take-le L (split newline s) h)

-- ---- a sheet's text is its lines, each with its byte 10

rules-text : (rules : List Rule) → rule_lines rules ≡ all_ended (map line_text (map right_line rules))
unfolding rule_lines all_ended line_text
rules-text [] = refl
rules-text (r ∷ rules) = ap (◌++◌ (ended (rule_line r))) (rules-text rules)

asks-text : (Fs : List (List ℕ)) → ask_lines Fs ≡ all_ended (map line_text (map ask_line Fs))
unfolding ask_lines all_ended line_text
asks-text [] = refl
asks-text (F ∷ Fs) = ap (◌++◌ (ended (bytes "ask " ++ F))) (asks-text Fs)

held-text : (x : HeldLine) → held_text x ≡ all_ended (map line_text (held_in x))
unfolding held_text held_in all_ended line_text
held-text left_out = refl
held-text (holding names) = sym (append-nil (ended (held_line names)))

-- some lines, and then others
lines-append : (xs ys : List Line) → all_ended (map line_text (xs ++ ys)) ≡ all_ended (map line_text xs) ++ all_ended (map line_text ys)
lines-append xs ys = ap all_ended (map-append line_text xs ys) ∙ ended-append (map line_text xs) (map line_text ys)

pub sheet-lines : (w : Sheet) → sheet_text w ≡ all_ended (map line_text (lines_of w))
unfolding sheet_text rules_text asked_text lines_of line_text all_ended
sheet-lines w =
    let a = w.asked in
    let making : List Line = make_line_case a.make ∷ map ask_line a.asks in
    let asking : List Line = team_line_case a.team ∷ known_line_case a.known ∷ held_in a.held ++ making in
    let head : List ℕ = ended (line_text (size_line w.size)) in
    let make : ended (make_line a.make) ++ ask_lines a.asks ≡ all_ended (map line_text making) = ap (◌++◌ (ended (make_line a.make))) (asks-text a.asks) in
    append_assoc head (rule_lines w.rules) (asked_text a)
    ∙ ap (◌++◌ head)
    (ap₂ ◌++◌ (rules-text w.rules)
    (ap (λ (t : List ℕ). ended (team_line a.team) ++ (ended (known_line a.known) ++ t)) (ap₂ ◌++◌ (held-text a.held) make ∙ sym (lines-append (held_in a.held) making)))
    ∙ sym (lines-append (map right_line w.rules) asking))

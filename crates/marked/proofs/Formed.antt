-- A sheet that is written out is well formed, by a test.
use mathlib.Core.List.{List, [], ◌∷◌}
use mathlib.Core.Bool.{Bool, true, not, ◌&&◌}
use Prim.Native.Nat.{ℕ}
use lib.Dec.{T, eqb, leb, ltb, leb→le, ltb→lt}
use lib.ListN.{length}
use Rattle.ground.proofs.Bools.{and_left, and_right, eq→eqb, both}
use Rattle.sheet_words.specs.Words.{newline}
use Rattle.sheet_rules.specs.Rules.{Rule}
use Rattle.sheet_question.specs.Asked.{Known, HeldLine, left_out, holding, held_settings}
use Rattle.sheet_reading.specs.Sheet.{Sheet}
use Rattle.sheet_reading.specs.Grammar.{InLine, RulesFit, NamesFit, KnownFit, HeldFit, AsksFit, WellFormed}
use Rattle.marked.proofs.Tests.{every, pick}

unfoldable in_line : List ℕ → Bool
in_line [] = true
in_line (c ∷ F) = not (eqb c newline) && in_line F

in-line-out : (F : List ℕ) → T (in_line F) → InLine F
unfolding in_line
in-line-out [] h = tt
in-line-out (c ∷ F) h =
    let a : Bool = not (eqb c newline) in
    (λ e. both (eqb c newline) (eq→eqb e) (and_left a (in_line F) h), in-line-out F (and_right a (in_line F) h))

unfoldable rules_fit : ℕ → ℕ → List Rule → Bool
rules_fit n m [] = true
rules_fit n m (r ∷ rs) = every (ltb r.setting n ∷ ltb r.post m ∷ in_line r.text ∷ rules_fit n m rs ∷ [])

rules_fit_out : (n m : ℕ) (rs : List Rule) → T (rules_fit n m rs) → RulesFit n m rs
unfolding rules_fit
rules_fit_out n m [] h = tt
rules_fit_out n m (r ∷ rs) h =
    let t : List Bool = ltb r.setting n ∷ ltb r.post m ∷ in_line r.text ∷ rules_fit n m rs ∷ [] in
    ((ltb→lt r.setting n (pick t 0 h), ltb→lt r.post m (pick t 1 h), in-line-out r.text (pick t 2 h)), rules_fit_out n m rs (pick t 3 h))

unfoldable names_fit : ℕ → List ℕ → Bool
names_fit m [] = true
names_fit m (q ∷ qs) = ltb q m && names_fit m qs

names_fit_out : (m : ℕ) (qs : List ℕ) → T (names_fit m qs) → NamesFit m qs
unfolding names_fit
names_fit_out m [] h = tt
names_fit_out m (q ∷ qs) h = (ltb→lt q m (and_left (ltb q m) (names_fit m qs) h), names_fit_out m qs (and_right (ltb q m) (names_fit m qs) h))

unfoldable known_fit : ℕ → List Known → Bool
known_fit n [] = true
known_fit n (k ∷ ks) = ltb k.setting n && known_fit n ks

known_fit_out : (n : ℕ) (ks : List Known) → T (known_fit n ks) → KnownFit n ks
unfolding known_fit
known_fit_out n [] h = tt
known_fit_out n (k ∷ ks) h =
    (ltb→lt k.setting n (and_left (ltb k.setting n) (known_fit n ks) h), known_fit_out n ks (and_right (ltb k.setting n) (known_fit n ks) h))

held_fit_out : (n : ℕ) (x : HeldLine) → T (names_fit n (held_settings x)) → HeldFit n x
held_fit_out n left_out h = tt
held_fit_out n (holding names) h = names_fit_out n names h

unfoldable asks_fit : List (List ℕ) → Bool
asks_fit [] = true
asks_fit (F ∷ Fs) = in_line F && asks_fit Fs

asks_fit_out : (Fs : List (List ℕ)) → T (asks_fit Fs) → AsksFit Fs
unfolding asks_fit
asks_fit_out [] h = tt
asks_fit_out (F ∷ Fs) h = (in-line-out F (and_left (in_line F) (asks_fit Fs) h), asks_fit_out Fs (and_right (in_line F) (asks_fit Fs) h))

abbrev tests : Sheet → List Bool
tests s =
    leb 1 s.size.settings
    ∷ leb s.size.settings 7
    ∷ leb 1 s.size.posts
    ∷ leb s.size.posts 8
    ∷ rules_fit s.size.settings s.size.posts s.rules
    ∷ leb 1 (length s.asked.team)
    ∷ names_fit s.size.posts s.asked.team
    ∷ known_fit s.size.settings s.asked.known
    ∷ names_fit s.size.settings (held_settings s.asked.held)
    ∷ in_line s.asked.make
    ∷ asks_fit s.asked.asks
    ∷ leb (length s.asked.asks) 4
    ∷ []

unfoldable pub formed : Sheet → Bool
unfolding every in_line rules_fit names_fit known_fit asks_fit
formed s = every (tests s)

pub well_formed : (s : Sheet) → T (formed s) → WellFormed s
unfolding formed
well_formed s h =
    let t : List Bool = tests s in
    let n : ℕ = s.size.settings in
    let m : ℕ = s.size.posts in
    record {
      ruled = record {
        settings_least = leb→le 1 n (pick t 0 h);
        settings_most = leb→le n 7 (pick t 1 h);
        posts_least = leb→le 1 m (pick t 2 h);
        posts_most = leb→le m 8 (pick t 3 h);
        rules = rules_fit_out n m s.rules (pick t 4 h);
      };
      well_asked = record {
        someone = leb→le 1 (length s.asked.team) (pick t 5 h);
        team = names_fit_out m s.asked.team (pick t 6 h);
        known = known_fit_out n s.asked.known (pick t 7 h);
        held = held_fit_out n s.asked.held (pick t 8 h);
        make = in-line-out s.asked.make (pick t 9 h);
        asks = asks_fit_out s.asked.asks (pick t 10 h);
        asks_most = leb→le (length s.asked.asks) 4 (pick t 11 h);
      };
    }

-- The desk after the lines `team`, `known`, `held`, `make` and `ask`: each changes its own part.
use mathlib.Core.Path.{◌≡◌, refl, sym, ap, ◌∙◌, subst}
use mathlib.Core.Logic.{◌⊎◌, inl, inr}
use mathlib.Core.Bool.{Bool, true, false, not, cond}
use mathlib.Core.List.{List, [], ◌∷◌, ◌++◌, append-nil, append_assoc}
use Prim.Native.Nat.{ℕ, suc, ◌+◌, ◌*◌, ◌≤◌, ◌<◌}
use native.Mathlib.Omega.{arith}
use lib.ListN.{length, get_or, set, take, drop, length-append}
use lib.Seq.{sets, sets-eq, length-sets, length-take-le, take_at, get_or-set_other}
use Rattle.ground.specs.Digits.{bit}
use Rattle.formula.specs.Read.{Accepts}
use Rattle.sheet_words.specs.Words.{member, is_false, index_of, indexes, true_indexes}
use Rattle.sheet_question.specs.Asked.{Asked, known_settings, known_true}
use Rattle.sheet_question.specs.Desk.{TablesOf, AskedOnDesk}
use Rattle.sheet_question.specs.Places.{team_desk, known_desk, held_desk, make_desk, learn_desk}
use Rattle.sheet_question.specs.declared.desk.AskedDesk.{AskedDesk}
use Rattle.sheet_question.specs.Forms.{team_of, known_by, known_of, held_of}
use Rattle.sheet_question.specs.LineSteps.{with_team, with_known, with_held, with_make, with_ask}

pub get_d_sets-other : (l : List ℕ) (i : ℕ) (vs : List ℕ) (j : ℕ) → (j < i) ⊎ (i + length vs ≤ j) → get_or (sets l i vs) j 0 ≡ get_or l j 0
get_d_sets-other l i [] j h = refl
get_d_sets-other l i (v ∷ vs) j (inl h) = get_d_sets-other (set l i v) (suc i) vs j (inl (omega arith)) ∙ get_or-set_other l i j v 0 (λ e. omega arith)
get_d_sets-other l i (v ∷ vs) j (inr h) = get_d_sets-other (set l i v) (suc i) vs j (inr (omega arith)) ∙ get_or-set_other l i j v 0 (λ e. omega arith)

-- the words of `known` as they are marked, and as they are read
pub known-settings : (ws : List (List ℕ)) → known_settings (known_by ws) ≡ indexes 97 ws
unfolding known_settings known_by indexes
known-settings [] = refl
known-settings (w ∷ ws) = ap (λ (xs : List ℕ). index_of 97 w ∷ xs) (known-settings ws)

pub known_true_lem : (ws : List (List ℕ)) → known_true (known_by ws) ≡ true_indexes 97 ws
unfolding known_true known_by true_indexes
known_true_lem [] = refl
known_true_lem (w ∷ ws) = swapped (is_false w) ∙ ap (λ (xs : List ℕ). cond (is_false w) xs (index_of 97 w ∷ xs)) (known_true_lem ws)
  where
    swapped : (b : Bool) → cond (not b) (index_of 97 w ∷ known_true (known_by ws)) (known_true (known_by ws)) ≡ cond b (known_true (known_by ws)) (index_of 97 w ∷ known_true (known_by ws))
    swapped true = refl
    swapped false = refl

-- the tables of some formulas, and of one more
tables_snoc : (n : ℕ) (Fs : List (List ℕ)) (F t u : List ℕ) → TablesOf n Fs t → Accepts n F u → TablesOf n (Fs ++ (F ∷ [])) (t ++ u)
tables_snoc n [] F t u e a = (u, [], a, refl, ap (λ (x : List ℕ). x ++ u) e ∙ sym (append-nil u))
tables_snoc n (G ∷ Fs) F t u (x, y, b, c, e) a = (x, y ++ u, b, tables_snoc n Fs F y u c a, ap (λ (z : List ℕ). z ++ u) e ∙ append_assoc x y u)

module _ (n : ℕ) (a : Asked) (d : AskedDesk) (o : AskedOnDesk n a d) where
  pub holds-team : (line : List ℕ) (mask : ℕ) → ((q : ℕ) → bit mask q ≡ member q (team_of line)) → AskedOnDesk n (with_team a line) (team_desk d mask)
  unfolding with_team
  holds-team line mask m = record {
    team = m;
    known = o.known;
    values = o.values;
    held = o.held;
    make = o.make;
    asks = o.asks;
    asks_most = o.asks_most;
    learn_size = o.learn_size;
    learn = o.learn;
    learn_rest = o.learn_rest;
  }

  pub holds-known : (line : List ℕ) (mask values : ℕ) → ((i : ℕ) → bit mask i ≡ member i (known_settings (known_of line)))
      → ((i : ℕ) → bit values i ≡ member i (known_true (known_of line))) → AskedOnDesk n (with_known a line) (known_desk d mask values)
  unfolding with_known
  holds-known line mask values m v = record {
    team = o.team;
    known = m;
    values = v;
    held = o.held;
    make = o.make;
    asks = o.asks;
    asks_most = o.asks_most;
    learn_size = o.learn_size;
    learn = o.learn;
    learn_rest = o.learn_rest;
  }

  pub holds-held : (line : List ℕ) (mask : ℕ) → ((i : ℕ) → bit mask i ≡ member i (held_of line)) → AskedOnDesk n (with_held a line) (held_desk d mask)
  unfolding with_held
  holds-held line mask m = record {
    team = o.team;
    known = o.known;
    values = o.values;
    held = m;
    make = o.make;
    asks = o.asks;
    asks_most = o.asks_most;
    learn_size = o.learn_size;
    learn = o.learn;
    learn_rest = o.learn_rest;
  }

  pub holds-make : (F t : List ℕ) → Accepts n F t → AskedOnDesk n (with_make a F) (make_desk d t)
  unfolding with_make
  holds-make F t x = record {
    team = o.team;
    known = o.known;
    values = o.values;
    held = o.held;
    make = x;
    asks = o.asks;
    asks_most = o.asks_most;
    learn_size = o.learn_size;
    learn = o.learn;
    learn_rest = o.learn_rest;
  }

  module _ (F t : List ℕ) (few : d.asks < 4) (sixteen : length t ≡ 16) (x : Accepts n F t) where
    abbrev count : ℕ
    count = d.asks

    learn-more : take (16 * (count + 1)) (sets d.learn (16 * count) t) ≡ take (16 * count) d.learn ++ t
    learn-more =
        ap (take (16 * (count + 1))) (sets-eq t d.learn (16 * count) (omega (arith, o.learn_size, sixteen)))
        ∙ take_at (take (16 * count) d.learn ++ t) (drop (16 * count + length t) d.learn) (16 * (count + 1))
        (length-append (take (16 * count) d.learn) t ∙ omega (arith, length-take-le (16 * count) d.learn (omega (arith, o.learn_size)), sixteen))

    pub holds_ask : AskedOnDesk n (with_ask a F) (learn_desk d t)
    unfolding with_ask learn_desk
    holds_ask = record {
      team = o.team;
      known = o.known;
      values = o.values;
      held = o.held;
      make = o.make;
      asks = sym (length-append a.asks (F ∷ []) ∙ omega (arith, o.asks));
      asks_most = omega arith;
      learn_size = length-sets d.learn (16 * count) t ∙ o.learn_size;
      learn = subst (TablesOf n (a.asks ++ (F ∷ []))) (sym learn-more) (tables_snoc n a.asks F (take (16 * count) d.learn) t o.learn x);
      learn_rest = λ j l. get_d_sets-other d.learn (16 * count) t j (inr (omega (arith, sixteen))) ∙ o.learn_rest j (omega arith);
    }

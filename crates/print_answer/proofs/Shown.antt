-- Where a plan's bytes begin, the act that the first of them names tells the plan's form and where its parts begin: by the cases of
-- the plan, since an act and its byte name one another.
use mathlib.Core.Path.{◌≡◌, refl, sym, ap, ◌∙◌, subst}
use mathlib.Core.Bool.{Bool}
use mathlib.Core.List.{List, ◌∷◌, ◌++◌, append_assoc}
use Prim.Native.Nat.{ℕ, ◌+◌, ◌<◌}
use native.Mathlib.Numerals.{add-one}
use native.Mathlib.Omega.{arith}
use lib.ListN.{length, get_or, drop, length-drop}
use lib.Seq.{drop-cons, drop-drop, drop-append_seam}
use Rattle.knowledge_acts.specs.Acts.{act_of}
use Rattle.knowledge_acts.specs.declared.act.Act.TheVariants.{Set, Look}
use Rattle.knowledge_acts.specs.declared.act.Act.{Act}
use Rattle.std.specs.Prelude.{Option, Some, None}
use Rattle.knowledge_acts.proofs.Acts.{act_of_byte}
use Rattle.plan.specs.Plans.{Plan, stop, set_then, look_then}
use Rattle.plan.specs.Bytes.{encode}
use Rattle.print_answer.specs.Inner.{Shows}

abbrev pub named_by : Plan → Option Act
named_by stop = None
named_by (set_then i q b p) = Some (Set i q b)
named_by (look_then i q p r) = Some (Look i q)

-- the plan's form, by what its first byte names, and where its parts begin
abbrev pub Parts : List ℕ → ℕ → Plan → Option Act → Type 0
Parts plan at p None = p ≡ stop
Parts plan at p (Some (Set i q b)) = (t : Plan) × (p ≡ set_then i q b t) × Shows plan (at + 1) t
Parts plan at p (Some (Look i q)) =
    (t : Plan) × (u : Plan) × (p ≡ look_then i q t u) × Shows plan (at + 1) t × Shows plan (at + 1 + length (encode t)) u

drop-first : (plan : List ℕ) (at : ℕ) {c : ℕ} {rest : List ℕ} → drop at plan ≡ c ∷ rest → (at < length plan) × (get_or plan at 0 ≡ c) × (drop (at + 1) plan ≡ rest)
drop-first plan at e =
    let h : at < length plan = omega (arith, length-drop at plan, ap length e) in
    let d = sym (drop-cons plan at 0 h) ∙ e in
    (h, cc, rw add-one (cc))

module _ {plan : List ℕ} {at : ℕ} where
  pub set_after : {i q : ℕ} {b : Bool} {p : Plan} → Shows plan at (set_then i q b p) → Shows plan (at + 1) p
  set_after s = record { rest = s.rest; there = (drop-first plan at s.there).2; lettered = s.lettered.2 }

  module _ {i q : ℕ} {p r : Plan} (s : Shows plan at (look_then i q p r)) where
    both : drop (at + 1) plan ≡ encode p ++ (encode r ++ s.rest)
    both = (drop-first plan at s.there).2 ∙ append_assoc (encode p) (encode r) s.rest

    pub false_after : Shows plan (at + 1) p
    false_after = record { rest = encode r ++ s.rest; there = both; lettered = s.lettered.2 }

    pub true_after : Shows plan (at + 1 + length (encode p)) r
    true_after = record {
      rest = s.rest;
      there = sym (drop-drop (length (encode p)) (at + 1) plan) ∙ ap (drop (length (encode p))) both ∙ drop-append_seam (encode p) (encode r ++ s.rest);
      lettered = s.lettered.3;
    }

  -- the first byte is there, and names what the plan begins with
  pub shown-first : (p : Plan) → Shows plan at p → (at < length plan) × (act_of (get_or plan at 0) ≡ named_by p)
  unfolding act_of
  shown-first stop s = let f = drop-first plan at s.there in (f.0, ap act_of f.1)
  shown-first (set_then i q b p) s =
      let f = drop-first plan at s.there in (f.0, ap act_of f.1 ∙ act_of_byte (Set i q b) s.lettered.0 s.lettered.1)
  shown-first (look_then i q p r) s =
      let f = drop-first plan at s.there in (f.0, ap act_of f.1 ∙ act_of_byte (Look i q) s.lettered.0 s.lettered.1)

  pub shown-here : {p : Plan} → Shows plan at p → at < length plan
  shown-here {p} s = (shown-first p s).0

  own : (p : Plan) → Shows plan at p → Parts plan at p (named_by p)
  own stop s = refl
  own (set_then i q b p) s = (p, refl, set_after s)
  own (look_then i q p r) s = (p, r, refl, false_after s, true_after s)

  pub parts : (p : Plan) {named : Option Act} → Shows plan at p → act_of (get_or plan at 0) ≡ named → Parts plan at p named
  parts p s e = subst (Parts plan at p) (sym (shown-first p s).1 ∙ e) (own p s)

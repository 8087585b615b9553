-- What `lines` asks and gives at each call, from the plan's form where its bytes begin.
use mathlib.Core.Path.{◌≡◌, refl, sym, subst}
use mathlib.Core.Bool.{Bool}
use mathlib.Core.List.{List}
use Prim.Native.Nat.{ℕ, ◌+◌, ◌^◌, ◌<◌}
use native.Mathlib.Omega.{arith}
use lib.ListN.{length, get_or, length-append}
use Rattle.ground.specs.Text.{bytes}
use Rattle.knowledge_acts.specs.Acts.{act_of}
use Rattle.knowledge_acts.specs.declared.act.Act.{Act}
use Rattle.knowledge_acts.specs.declared.act.Act.TheVariants.{Set, Look}
use Rattle.std.specs.Prelude.{Some, None}
use Rattle.plan.specs.Plans.{Plan}
use Rattle.plan.specs.Bytes.{encode}
use Rattle.print_room.specs.Decimal.{decimal}
use Rattle.print_room.specs.Wrote.{Ends, Wrote}
use Rattle.print_room.proofs.Writing.{ends-left, ends-right, wrote_then}
use Rattle.print_answer.specs.Listed.{act_text, numbered, plan_text}
use Rattle.print_answer.specs.Inner.{Shows, Readable, Lined, Lines}
use Rattle.print_answer.specs.declared.listing.Next.{Next}
use Rattle.print_answer.proofs.Shown.{parts}

pub numbered-length : (depth : ℕ) (text : List ℕ) → length (numbered depth text) ≡ length (decimal depth) + length text + 2
numbered-length depth text = simp length-append (omega arith)

-- the line of an act that was told apart
pub wrote_act : (depth : ℕ) {a c : Act} {to next : ℕ} {old new : List ℕ} → a ≡ c → Wrote old to (numbered depth (act_text a)) new next → Wrote old to (numbered depth (act_text c)) new next
wrote_act depth {to = to} {next = next} {old = old} {new = new} e w = subst (λ (x : Act). Wrote old to (numbered depth (act_text x)) new next) e w

module _ {plan : List ℕ} {at depth to : ℕ} where
  bounds : (r : Readable plan at depth to) {p : Plan} → r.tree ≡ p → (depth + length (encode p) < 2 ^ 64) × Ends to (plan_text depth p)
  bounds r e = subst (λ (p : Plan). (depth + length (encode p) < 2 ^ 64) × Ends to (plan_text depth p)) e (r.deep, r.ends)

  module _ (named : act_of (get_or plan at 0) ≡ None) where
    pub stop-ends : Readable plan at depth to → Ends to (numbered depth (bytes "stop"))
    stop-ends r = (bounds r (parts r.tree r.shown named)).1

    pub stop_lined : {old new : List ℕ} {next : ℕ} → Wrote old to (numbered depth (bytes "stop")) new next → Lines plan at depth old to (record { at = at + 1; to = next }) new
    stop_lined w p s = subst (Lined plan at depth _ to _ _) (sym (parts p s named)) (record { wrote = w; read = refl })

  module _ {i q : ℕ} {b : Bool} {old between : List ℕ} {next : ℕ} (named : act_of (get_or plan at 0) ≡ Some (Set i q b)) (w : Wrote old to (numbered depth (act_text (Set i q b))) between next) where
    pub set_next : Readable plan at depth to → Readable plan (at + 1) (depth + 1) next
    set_next r =
        let s = parts r.tree r.shown named in
        record {
          tree = s.0;
          shown = s.2;
          deep = omega (arith, (bounds r s.1).0);
          ends = ends-right w (bounds r s.1).1;
        }

    pub set_lined : {r : Next} {new : List ℕ} → Lines plan (at + 1) (depth + 1) between next r new → Lines plan at depth old to r new
    set_lined {r} {new} later p s =
        let x = parts p s named in
        let l = later x.0 x.2 in
        subst (Lined plan at depth old to r new) (sym x.1) (record { wrote = wrote_then w l.wrote; read = omega (arith, l.read) })

  module _ {i q : ℕ} {old between : List ℕ} {next : ℕ} (named : act_of (get_or plan at 0) ≡ Some (Look i q)) (w : Wrote old to (numbered depth (act_text (Look i q))) between next) where
    pub false_next : Readable plan at depth to → Readable plan (at + 1) (depth + 1) next
    false_next r =
        let s = parts r.tree r.shown named in
        record {
          tree = s.0;
          shown = s.3;
          deep = omega (arith, (bounds r s.2).0, length-append (encode s.0) (encode s.1));
          ends = ends-right w (ends-left _ (plan_text (depth + 1) s.1) (bounds r s.2).1);
        }

    module _ {seen : Next} {after : List ℕ} (first : Lines plan (at + 1) (depth + 1) between next seen after) where
      pub true_next : Readable plan at depth to → Readable plan seen.at (depth + 1) seen.to × (at < seen.at)
      true_next r =
          let s = parts r.tree r.shown named in
          let l = first s.0 s.3 in (
            record {
              tree = s.1;
              shown = subst (λ (i : ℕ). Shows plan i s.1) (sym l.read) s.4;
              deep = omega (arith, (bounds r s.2).0, length-append (encode s.0) (encode s.1));
              ends = ends-right (wrote_then w l.wrote) (bounds r s.2).1;
            },
            omega (arith, l.read),
          )

      pub look_lined : {r : Next} {new : List ℕ} → Lines plan seen.at (depth + 1) after seen.to r new → Lines plan at depth old to r new
      look_lined {r} {new} second p s =
          let x = parts p s named in
          let f = first x.0 x.3 in
          let t = second x.1 (subst (λ (i : ℕ). Shows plan i x.1) (sym f.read) x.4) in
          subst (Lined plan at depth old to r new) (sym x.2) (record {
            wrote = wrote_then (wrote_then w f.wrote) t.wrote;
            read = omega (arith, f.read, t.read, length-append (encode x.0) (encode x.1));
          })

  -- a line that the room's places have a number for
  pub act_ends : (a : Act) → act_of (get_or plan at 0) ≡ Some a → Readable plan at depth to → Ends to (numbered depth (act_text a))
  act_ends (Set i q b) named r =
      let s = parts r.tree r.shown named in
      ends-left _ (plan_text (depth + 1) s.0) (bounds r s.1).1
  act_ends (Look i q) named r =
      let s = parts r.tree r.shown named in
      ends-left _ (plan_text (depth + 1) s.0) (ends-left _ (plan_text (depth + 1) s.1) (bounds r s.2).1)

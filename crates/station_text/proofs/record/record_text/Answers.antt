-- `record_text` meets its contract: the word of the act that the byte names, then its names.
use Rattle.std.proofs.Common.{◌≡◌, Option, Some, arith, refl, sym, ap, subst, ◌∙◌}
use Rattle.ground.specs.Text.{bytes}
use Rattle.knowledge_acts.specs.Acts.{act_of}
use Rattle.knowledge_acts.specs.declared.act.Act.{Act}
use Rattle.knowledge_acts.specs.declared.act.Act.TheVariants.{Set, Look}
use Rattle.knowledge_acts.proofs.Acts.{byte_of_act}
use Rattle.print_room.specs.Wrote.{Ends}
use Rattle.print_room.proofs.Writing.{wrote_then, ends-left, ends-right}
use Rattle.station_text.specs.Records.{words_of, record_text}
use Rattle.station_text.proofs.ToldLaws.{wrote_as}
use Rattle.station_text.proofs.record.record_text.Goals as goal
use Rattle.station_text.proofs.record.record_text.Goals.{In-Some-Set, In-Some-Look}

-- the act that the byte names
set_named : (c : In-Some-Set) → act_of c.args.byte ≡ Some (Set c.in-Some-Set.setting c.in-Some-Set.post c.in-Some-Set.value)
set_named c = sym c.of_byte.ensures ∙ c.in-Some-Set.is ∙ ap Some c.in-Some-Set.field-0-is

look_named : (c : In-Some-Look) → act_of c.args.byte ≡ Some (Look c.in-Some-Look.setting c.in-Some-Look.post)
look_named c = sym c.of_byte.ensures ∙ c.in-Some-Look.is ∙ ap Some c.in-Some-Look.field-0-is

pub word-to-requires : goal.word-to-requires
unfolding record_text
word-to-requires c =
    ends-left (bytes "set ") _ (subst (λ (n : Option Act). Ends c.args.to (words_of n c.args.seen)) (set_named (goal.at.word-to-requires c).In-Some-Set) c.requires)

pub write_names-requires : goal.write_names-requires
unfolding record_text
write_names-requires c =
    let e = set_named (goal.at.write_names-requires c).In-Some-Set in
    let x = byte_of_act c.args.byte _ e in
    (x.1, x.2, ends-right c.word-to.ensures (subst (λ (n : Option Act). Ends c.args.to (words_of n c.args.seen)) e c.requires))

pub word-to-requires-in-Some-Look : goal.word-to-requires-in-Some-Look
unfolding record_text
word-to-requires-in-Some-Look c =
    ends-left (bytes "look ") _ (subst (λ (n : Option Act). Ends c.args.to (words_of n c.args.seen)) (look_named (goal.at.word-to-requires-in-Some-Look c).In-Some-Look) c.requires)

pub write_names-requires-in-Some-Look : goal.write_names-requires-in-Some-Look
unfolding record_text
write_names-requires-in-Some-Look c =
    let e = look_named (goal.at.write_names-requires-in-Some-Look c).In-Some-Look in
    let x = byte_of_act c.args.byte _ e in
    (x.1, x.2, ends-right c.word-to-in-Some-Look.ensures (subst (λ (n : Option Act). Ends c.args.to (words_of n c.args.seen)) e c.requires))

pub returns-in-None : goal.returns-in-None
unfolding record_text
returns-in-None c =
    let e = sym c.of_byte.ensures ∙ c.in-None.is in
    record { room = rw e refl; next_place = rw e (omega arith) }

pub returns-in-Some-Set : goal.returns-in-Some-Set
unfolding record_text
returns-in-Some-Set c =
    wrote_as (ap (λ (n : Option Act). words_of n c.args.seen) (sym (set_named (goal.at.returns-in-Some-Set c).In-Some-Set)))
    (wrote_then c.word-to.ensures c.write_names.ensures)

pub returns-in-Some-Look : goal.returns-in-Some-Look
unfolding record_text
returns-in-Some-Look c =
    wrote_as (ap (λ (n : Option Act). words_of n c.args.seen) (sym (look_named (goal.at.returns-in-Some-Look c).In-Some-Look)))
    (wrote_then c.word-to-in-Some-Look.ensures c.write_names-in-Some-Look.ensures)

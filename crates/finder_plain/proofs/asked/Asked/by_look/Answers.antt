-- `by_look` meets its contract: what is remembered of both outcomes is asked before the rules are.
use mathlib.Core.Path.{◌∙◌}
use mathlib.Core.Bool.{false, true}
use Rattle.knowledge_acts.specs.declared.act.Act.TheVariants.{Look}
use Rattle.finder_plain.proofs.TryLaws.{after_act, may-asks, look_entry, digit-here, look_known, look_far, look_opens, nobody}
use Rattle.finder_plain.proofs.asked.Asked.by_look.Goals as goal

pub returns-then-digit-ne0 : goal.returns-then-digit-ne0
returns-then-digit-ne0 c =
    let a = c.args in
    look_known a.self.now.n a.self.now.book.now a.self.now.question.team a.self.now.question.held
    (λ e. c.if-digit-ne0.true (digit-here c.requires c.from_number.ensures c.digit.ensures ∙ e))

pub bounds-entries-no : goal.bounds-entries-no
bounds-entries-no c = look_entry c.requires false (after_act c.requires c.look_at-no.ensures.number)

pub returns-then-h-entries : goal.returns-then-h-entries
returns-then-h-entries c = look_far false (after_act c.requires c.look_at-no.ensures.number) c.if-h-entries.true

pub bounds-entries-yes : goal.bounds-entries-yes
bounds-entries-yes c = look_entry c.requires true (after_act c.requires c.look_at-yes.ensures.number)

pub returns-then-h-entries-2 : goal.returns-then-h-entries-2
returns-then-h-entries-2 c = look_far true (after_act c.requires c.look_at-yes.ensures.number) c.if-h-entries-2.true

pub someone_may-requires : goal.someone_may-requires
someone_may-requires c = may-asks c.requires

pub returns-then-not-someone_may : goal.returns-then-not-someone_may
returns-then-not-someone_may c = nobody c.if-not-someone_may.ensures (λ q t. c.requires.posts (Look c.args.i q) t)

pub returns : goal.returns
returns c =
    look_opens (after_act c.requires c.look_at-no.ensures.number) (after_act c.requires c.look_at-yes.ensures.number) c.if-not-someone_may.ensures

-- `by_set` meets its contract: what is remembered of the outcome is asked before the rules are.
use Rattle.knowledge_acts.specs.declared.act.Act.TheVariants.{Set}
use Rattle.finder_plain.proofs.TryLaws.{after_act, may-asks, set-entry, set_back, set_far, set_opens, nobody}
use Rattle.finder_plain.proofs.asked.Asked.by_set.Goals as goal
use Rattle.finder_plain.proofs.asked.Asked.by_set.Goals.{then-x-k-via-then-x-k, then-x-k-via-else-x-k+then-h-entries}

pub bounds-entries-x : goal.bounds-entries-x
bounds-entries-x c = set-entry c.requires c.args.value (after_act c.requires c.set_to-x.ensures.number)

pub returns-then-x-k : goal.returns-then-x-k
returns-then-x-k c =
    let after = after_act c.requires c.set_to-x.ensures.number in
    elim c.then-x-k.branch [
      | then-x-k-via-then-x-k w ↦ set_back c.args.value after w.if-x-k.true
      | then-x-k-via-else-x-k+then-h-entries w ↦ set_far c.args.value after w.if-h-entries.true
    ]

pub someone_may-requires : goal.someone_may-requires
someone_may-requires c = may-asks c.requires

pub returns-then-not-someone_may : goal.returns-then-not-someone_may
returns-then-not-someone_may c = nobody c.if-not-someone_may.ensures (λ q t. c.requires.posts (Set c.args.i q c.args.value) t)

pub returns : goal.returns
returns c = set_opens c.args.value (after_act c.requires c.set_to-x.ensures.number) c.if-not-someone_may.ensures

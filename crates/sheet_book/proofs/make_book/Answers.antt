-- `make_book` meets its contract: the text's refusal, or the book of what it states.
use Rattle.std.proofs.lemmas.Result.{err_from_is_err_and}
use Rattle.sheet_rules.specs.Meaning.{rules_meaning}
use Rattle.sheet_book.proofs.MakeLaws.{not-stated, all-stated, made_of}
use Rattle.sheet_book.proofs.make_book.Goals as goal

pub write_book-requires : goal.write_book-requires
write_book-requires c =
    let z = all-stated c.args.room.now (rules_meaning c.args.rules.now) c.in_ok-desk.desk c.in_ok-desk.ensures in
    (z.0, z.1)

pub returns-in_err-desk : goal.returns-in_err-desk
returns-in_err-desk c =
    let p = err_from_is_err_and c.from_residual.result c.from_residual.ensures.1 in
    rw (p.1, p.2) (not-stated c.args.room.now (rules_meaning c.args.rules.now) c.in_err-desk.field-0.0 c.in_err-desk.ensures)

pub returns : goal.returns
returns c =
    made_of c.args.room.now (rules_meaning c.args.rules.now) c.in_ok-desk.desk c.write_book.result _ c.in_ok-desk.ensures c.write_book.ensures

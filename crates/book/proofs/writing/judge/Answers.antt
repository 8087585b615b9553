-- `book::writing::judge` meets its contract: each way out is the first refusal in the order, or none, by what was tested before it.
use borrow.Author.Rules.{rules}
use native.Mathlib.Omega.{arith}
use Rattle.ground.specs.Bounds.{SettingsFit, PostsFit}
use Rattle.book.proofs.RefusalLaws.{refuse_settings, refuse_posts, refuse_size, refuse_tables, refuse_room}
use Rattle.book.proofs.writing.judge.Goals as goal
use Rattle.book.proofs.writing.judge.Goals.{Else-n-gt-SETTINGS_MOST, Else-m-gt-POSTS_MOST}

settings : (c : Else-n-gt-SETTINGS_MOST) → SettingsFit c.args.n
settings c = record { least = omega arith; most = omega arith }

posts : (c : Else-m-gt-POSTS_MOST) → PostsFit c.args.m
posts c = record { least = omega arith; most = omega arith }

pub returns-then-n-lt1 : goal.returns-then-n-lt1
returns-then-n-lt1 c =
    let a = c.args in
    refuse_settings a.n a.m a.rights.now a.room.now (λ s. omega (arith, s.least, s.most, c.then-n-lt1.either))

pub returns-then-m-lt1 : goal.returns-then-m-lt1
returns-then-m-lt1 c =
    let a = c.args in
    refuse_posts a.n a.m a.rights.now a.room.now (record { least = omega arith; most = omega arith }) (λ p. omega (arith, p.least, p.most, c.then-m-lt1.either))

pub returns-then-rights-n : goal.returns-then-rights-n
returns-then-rights-n c =
    let a = c.args in
    let at = goal.at.returns-then-rights-n c in
    refuse_size a.n a.m a.rights.now a.room.now (settings at.Else-n-gt-SETTINGS_MOST) (posts at.Else-m-gt-POSTS_MOST) c.if-rights-n.true

pub returns-in-Some : goal.returns-in-Some
returns-in-Some c =
    let a = c.args in
    let at = goal.at.returns-in-Some c in
    refuse_tables a.n a.m a.rights.now a.room.now (settings at.Else-n-gt-SETTINGS_MOST) (posts at.Else-m-gt-POSTS_MOST) (omega arith) c.in-Some.ensures

pub returns-then-room-n : goal.returns-then-room-n
returns-then-room-n c =
    let a = c.args in
    let at = goal.at.returns-then-room-n c in
    refuse_room a.n a.m a.rights.now a.room.now (settings at.Else-n-gt-SETTINGS_MOST) (posts at.Else-m-gt-POSTS_MOST) (omega arith) (search rules)
    (omega (arith, c.if-room-n))

pub returns : goal.returns
returns c =
    let at = goal.at.returns c in (
      record {
        settings = settings at.Else-n-gt-SETTINGS_MOST;
        posts = posts at.Else-m-gt-POSTS_MOST;
        size = omega arith;
        tables = c.in_default.ensures;
      },
      omega (arith, c.if-room-n),
    )

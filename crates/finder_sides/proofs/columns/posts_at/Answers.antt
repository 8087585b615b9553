-- `finder_sides::columns::posts_at` meets its contract. The loop has read the posts from the last down.
use Rattle.finder_sides.proofs.PostLaws.{bits-more}
use Rattle.finder_sides.proofs.columns.posts_at.Goals as goal

pub loop-post-preserved : goal.loop-post-preserved
loop-post-preserved c = rw c.push-bits.ensures (bits-more c.loop-post.invariant c.loop-post-test.true c.post_at.result c.post_at.ensures)

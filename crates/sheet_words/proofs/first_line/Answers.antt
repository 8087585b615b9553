-- `first_line` meets its contract: the line ends where its piece does.
use Rattle.sheet_words.proofs.Pieces.{line_cut, no_line}
use Rattle.sheet_words.proofs.first_line.Goals as goal

pub returns-then-end-text : goal.returns-then-end-text
returns-then-end-text c = line_cut c.args.text.now c.piece_end-end.result c.piece_end-end.ensures c.if-end-text.true

pub returns-else-end-text : goal.returns-else-end-text
returns-else-end-text c = no_line c.args.text.now c.piece_end-end.result c.piece_end-end.ensures c.if-end-text.false

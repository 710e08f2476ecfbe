use Rattle.glk_ar.proofs.WholeWalks.{walk_start, walk_more, walk_end, walk_refused}
use Rattle.glk_ar.proofs.laws.walks_are_whole.Goals as goal

pub returns-clause-start : goal.returns-clause-start
returns-clause-start c = walk_start

pub returns-clause-more : goal.returns-clause-more
returns-clause-more c = walk_more

pub returns-clause-ends : goal.returns-clause-ends
returns-clause-ends c = walk_end

pub returns-clause-refused : goal.returns-clause-refused
returns-clause-refused c = walk_refused

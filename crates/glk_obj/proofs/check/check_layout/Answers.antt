use Rattle.std.proofs.Common.{arith}
use Rattle.glk_obj.proofs.Intact.{room, ordered, layout}
use Rattle.glk_obj.proofs.check.check_layout.Goals as goal

pub other_magic-requires : goal.other_magic-requires
other_magic-requires c = room _ 1 (omega arith) c.in_ok-stop_if_broken.ensures.ok

pub misplaced_block-requires : goal.misplaced_block-requires
misplaced_block-requires c = room _ 1 (omega arith) c.in_ok-stop_if_broken.ensures.ok

pub late_end-requires : goal.late_end-requires
late_end-requires c = room _ 1 (omega arith) c.in_ok-stop_if_broken.ensures.ok

pub uneven_block-requires-clause-room : goal.uneven_block-requires-clause-room
uneven_block-requires-clause-room c = room _ 1 (omega arith) c.in_ok-stop_if_broken.ensures.ok

pub uneven_block-requires-clause-ordered : goal.uneven_block-requires-clause-ordered
uneven_block-requires-clause-ordered c = λ k inside. ordered _ 3 k (omega arith) c.in_ok-stop_if_broken-3.ensures.ok inside

pub returns-clause-layout : goal.returns-clause-layout
returns-clause-layout c = layout _ 5 (omega arith) c.in_ok-stop_if_broken-5.ensures.ok

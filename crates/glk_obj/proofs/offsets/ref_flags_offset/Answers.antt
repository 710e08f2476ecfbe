use Rattle.glk_obj.proofs.Laws.{ref_flags_target}
use Rattle.glk_obj.proofs.offsets.ref_flags_offset.Goals as goal

pub returns-clause-target : goal.returns-clause-target
returns-clause-target c = ref_flags_target c.args.bytes.now c.args.k c.requires.object c.requires.index

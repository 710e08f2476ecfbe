use Rattle.glk_frames_reader.proofs.ByteLemmas.{byte_number}
use Rattle.glk_frames_reader.proofs.record.byte_at.Goals as goal

pub returns : goal.returns
returns c = byte_number c.args.bytes.now c.args.at

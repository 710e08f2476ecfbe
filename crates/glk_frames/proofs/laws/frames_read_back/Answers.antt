use Rattle.glk_frames.proofs.FrameLemmas.{reads_back}
use Rattle.glk_frames.proofs.laws.frames_read_back.Goals as goal

pub returns : goal.returns
returns c = λ m i f x is. reads_back c.tables_end_themselves.ensures m i f x is

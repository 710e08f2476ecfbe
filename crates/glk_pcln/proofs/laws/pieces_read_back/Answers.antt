use Rattle.glk_pcln.proofs.Memories.{reads_back}
use Rattle.glk_pcln.proofs.laws.pieces_read_back.Goals as goal

pub returns : goal.returns
returns c = λ t a sound apart short. reads_back c.frames_read_back.ensures t a sound apart short

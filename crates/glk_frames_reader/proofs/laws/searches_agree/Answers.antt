use Rattle.glk_frames_reader.proofs.BucketLemmas.{searches_law}
use Rattle.glk_frames_reader.proofs.laws.searches_agree.Goals as goal

pub returns : goal.returns
returns c = searches_law

use Rattle.glk_frames.proofs.BucketLemmas.{bucket_is}
use Rattle.glk_frames.proofs.laws.bucket_finds.Goals as goal

pub returns : goal.returns
returns c = λ r address bytes others at size has off. bucket_is r address bytes others at size has off

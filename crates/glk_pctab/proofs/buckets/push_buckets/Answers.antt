use Rattle.std.proofs.Common.{length, arith}
use Rattle.glk_frames.specs.Buckets.{index_at}
use Rattle.glk_pctab.specs.Views.{start_by}
use Rattle.glk_pctab.proofs.BucketSteps.{buckets_more, buckets_first, buckets_done}
use Rattle.glk_pctab.proofs.buckets.push_buckets.Goals as goal

pub loop-bucket-init : goal.loop-bucket-init
loop-bucket-init c = record {
  inside = c.requires.inside;
  low = omega (arith, c.requires.low);
  bytes = buckets_first (index_at (start_by c.args.starts.now) (length c.args.starts.now)) c.args.count c.args.out.now.items;
}

pub loop-bucket-preserved : goal.loop-bucket-preserved
loop-bucket-preserved c = record {
  inside = c.in_ok-index.ensures.inside;
  low = omega (arith, c.in_ok-index.ensures.low);
  bytes = buckets_more (index_at (start_by c.args.starts.now) (length c.args.starts.now)) c.loop-bucket.bucket c.args.count c.loop-bucket.out.items c.push_bucket.new.out.items _ (omega arith) c.in_ok-index.ensures.bytes c.loop-bucket.invariant.bytes;
}

pub returns : goal.returns
returns c = buckets_done (index_at (start_by c.args.starts.now) (length c.args.starts.now)) c.loop-bucket.bucket c.args.count c.loop-bucket.out.items _ (omega arith) c.loop-bucket.invariant.bytes

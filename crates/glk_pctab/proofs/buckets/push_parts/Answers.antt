use Rattle.std.proofs.Common.{◌≡◌, ◌++◌, ◌+◌, ◌-◌, ◌*◌, ℕ, [], ◌∷◌, length, arith, subst}
use Rattle.glk_base.specs.Fields.{fields_bytes, byte}
use Rattle.glk_frames.specs.Buckets.{index_at}
use Rattle.glk_frames.proofs.SearchLemmas.{index_rises, index_near}
use Rattle.glk_pctab.specs.Views.{start_by}
use Rattle.glk_pctab.proofs.BucketSteps.{parts_more, parts_first, parts_done}
use Rattle.glk_pctab.proofs.buckets.push_parts.Goals as goal

pub loop-k-init : goal.loop-k-init
loop-k-init c = record {
  inside = c.requires.inside;
  low = omega (arith, c.requires.low);
  bytes = parts_first (index_at (start_by c.args.starts.now) (length c.args.starts.now)) c.args.first c.args.off c.args.out.now.items;
}

pub overflow_sub-index : goal.overflow_sub-index
overflow_sub-index c =
    omega (arith, index_rises (start_by c.args.starts.now) (length c.args.starts.now) c.args.off (c.args.off + 256 * c.loop-k.k) (omega arith), c.requires.value, c.index_from-index.ensures.value)

pub overflow_cast-index : goal.overflow_cast-index
overflow_cast-index c =
    omega (arith, index_near (start_by c.args.starts.now) (length c.args.starts.now) c.args.off (c.args.off + 256 * c.loop-k.k) c.requires.apart (omega arith), c.requires.value, c.index_from-index.ensures.value)

pub loop-k-preserved : goal.loop-k-preserved
loop-k-preserved c = record {
  inside = c.index_from-index.ensures.inside;
  low = omega (arith, c.index_from-index.ensures.low);
  bytes = parts_more (index_at (start_by c.args.starts.now) (length c.args.starts.now)) c.args.first c.args.off c.loop-k.k c.loop-k.out.items c.push_fields.new.out.items _ (omega arith)
      (subst (λ (n : ℕ). c.push_fields.new.out.items ≡ c.loop-k.out.items ++ fields_bytes (byte (n - c.args.first) ∷ [])) c.index_from-index.ensures.value c.in_ok-push_fields.ensures.whole)
      c.loop-k.invariant.bytes;
}

pub returns-clause-bytes : goal.returns-clause-bytes
returns-clause-bytes c = parts_done (index_at (start_by c.args.starts.now) (length c.args.starts.now)) c.args.first c.args.off c.loop-k.k c.loop-k.out.items _ (omega arith) c.loop-k.invariant.bytes

pub returns-clause-inside : goal.returns-clause-inside
returns-clause-inside c = c.loop-k.invariant.inside

pub returns-clause-low : goal.returns-clause-low
returns-clause-low c = omega (arith, c.loop-k.invariant.low)

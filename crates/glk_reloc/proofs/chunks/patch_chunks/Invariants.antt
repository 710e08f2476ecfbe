use Rattle.std.proofs.Common.{length}
use Rattle.glk_reloc.proofs.ChunkSteps.{IsPatchedTo}
use Rattle.glk_reloc.proofs.chunks.patch_chunks.Given as goal

abbrev pub invariant-loop-chunk : goal.invariant-loop-chunk
invariant-loop-chunk g l =
    IsPatchedTo (g.C.FieldChunks.fields l.fn.chunks) (g.C.FieldChunks.fields l.chunks) l.count l.fn.image l.image

abbrev pub decreases-loop-chunk : goal.decreases-loop-chunk
decreases-loop-chunk g l = length (g.C.FieldChunks.fields l.chunks)

use Rattle.std.proofs.Common.{◌≡◌, ◌+◌, length, All}
use Rattle.glk_image.specs.Contents.{HasRoom, IsWithin, with_contents}
use Rattle.glk_image.proofs.contents.put_contents.Given as goal

abbrev pub invariant-loop-rest : goal.invariant-loop-rest
invariant-loop-rest l = record {
  rooms : All HasRoom l.rest;
  inside : All (IsWithin l.start (l.start + length l.part)) l.rest;
  written : with_contents l.start l.part l.rest ≡ with_contents l.start l.fn.part l.contents;
}

abbrev pub decreases-loop-rest : goal.decreases-loop-rest
decreases-loop-rest l = length l.rest

use Rattle.std.proofs.Common.{◌≡◌, drop}
use Rattle.glk_keys.specs.KeyHashes.{bytes_hash}
use Rattle.glk_keys.proofs.keys.bytes_hash.Given as goal

abbrev pub invariant-loop-byte : goal.invariant-loop-byte
invariant-loop-byte l = bytes_hash l.hash (drop l.byte-index l.bytes) ≡ bytes_hash l.start l.bytes

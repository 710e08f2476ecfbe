use Rattle.std.proofs.Common.{◌≡◌, ◌-◌, ◌/◌, length, min}
use Rattle.glk_keys.specs.KeyHashes.{ends_hash, end_size, word_size}
use Rattle.glk_keys.proofs.keys.ends_hash.Given as goal

abbrev pub invariant-loop-k : goal.invariant-loop-k
invariant-loop-k l = record {
  words : l.words ≡ min (length l.name) end_size / word_size;
  hashes : ends_hash l.name l.k (l.words - l.k) l.hash ≡ ends_hash l.name 0 (min (length l.name) end_size / word_size) l.start;
}

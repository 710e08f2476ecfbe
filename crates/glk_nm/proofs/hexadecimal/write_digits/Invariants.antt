use Rattle.std.proofs.Common.{◌≡◌, ◌<◌, ◌+◌, ◌^◌, ◌%◌, length, drop, false, get_or}
use Rattle.std.specs.Fmt.{digit_glyph}
use Rattle.glk_nm.specs.Lines.{hexadecimal}
use Rattle.glk_nm.proofs.HexadecimalLemmas.{digits_before}
use Rattle.glk_nm.proofs.hexadecimal.write_digits.Given as goal

abbrev pub invariant-loop-rest : goal.invariant-loop-rest
invariant-loop-rest l = record {
  whole : length l.room ≡ 16;
  inside : l.start < 16;
  below : l.rest < 16 ^ (l.start + 1);
  last : get_or l.room l.start 0 ≡ digit_glyph false (l.rest % 16);
  behind : digits_before (49 + l.start) l.rest (drop (l.start + 1) l.room) ≡ hexadecimal l.number;
}

abbrev pub decreases-loop-rest : goal.decreases-loop-rest
decreases-loop-rest l = l.rest

use Rattle.std.proofs.Common.{◌≡◌, ◌<◌, ◌^◌, take, true}
use Rattle.std.specs.Str.Parse.{digits_value}
use Rattle.glk_addr2line.specs.Addresses.{are_digits}
use Rattle.glk_addr2line.proofs.address.digits_value.Given as goal

abbrev pub invariant-loop-digit : goal.invariant-loop-digit
invariant-loop-digit l = record {
  value : l.value ≡ digits_value 16 (take l.digit-index l.digits);
  digits : are_digits (take l.digit-index l.digits) ≡ true;
  below : l.value < 16 ^ l.digit-index;
}

use Rattle.std.proofs.Common.{◌≡◌, ◌-◌, ◌^◌, min, take}
use Rattle.std.specs.Str.Parse.{AllDigits, digits_value}
use Rattle.glk_objtext.proofs.numbers.capped_value.Given as goal

abbrev pub invariant-loop-b : goal.invariant-loop-b
invariant-loop-b l = record {
  digits : AllDigits 10 (take l.b-index l.digits);
  value : l.value ≡ min (digits_value 10 (take l.b-index l.digits)) (2 ^ 64 - 1);
}

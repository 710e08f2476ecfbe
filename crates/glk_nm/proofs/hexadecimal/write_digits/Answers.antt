use Rattle.std.proofs.Common.{◌≡◌, ◌<◌, ◌+◌, ◌-◌, ◌/◌, ◌^◌, ℕ, length, drop, [], sym, ap, subst, ◌∙◌, arith, rules, get_or-set_same}
use Rattle.std.proofs.Math.ListN.{set, length-set}
use Rattle.std.proofs.lemmas.List.{drop_all}
use Rattle.glk_nm.proofs.HexadecimalLemmas.{digits_before, digits_all, more_room, ends, goes_on}
use Rattle.glk_nm.proofs.hexadecimal.write_digits.Goals as goal

pub loop-rest-init : goal.loop-rest-init
loop-rest-init c =
    let room = c.args.room.now in
    let whole : length room ≡ 16 = search rules in
    let digit = c.hex_digit.result in
    let none : drop 16 (set room 15 digit) ≡ [] = drop_all 16 (set room 15 digit) (omega (arith, length-set room 15 digit, whole)) in
    record {
      whole = length-set room 15 digit ∙ whole;
      inside = omega arith;
      below = omega arith;
      last = get_or-set_same room 15 digit 0 (omega (arith, whole)) ∙ c.hex_digit.ensures;
      behind = ap (digits_before 64 c.args.number) none ∙ digits_all c.args.number;
    }

pub loop-rest-preserved : goal.loop-rest-preserved
loop-rest-preserved c =
    let l = c.loop-rest in
    let room = more_room l.rest l.start c.loop-rest-test.true l.invariant.below in
    record {
      whole = length-set l.room (l.start - 1) c.hex_digit-in-loop-rest.result ∙ l.invariant.whole;
      inside = omega arith;
      below = let s : l.start - 1 + 1 ≡ l.start = omega (arith, room.0) in subst (λ (n : ℕ). l.rest / 16 < 16 ^ n) (sym s) room.1;
      last = get_or-set_same l.room (l.start - 1) c.hex_digit-in-loop-rest.result 0 (omega (arith, l.invariant.whole, l.invariant.inside)) ∙ c.hex_digit-in-loop-rest.ensures;
      behind = goes_on l.room l.start l.rest c.args.number c.hex_digit-in-loop-rest.result (omega (arith, l.invariant.whole, l.invariant.inside)) room.0 c.loop-rest-test.true l.invariant.last l.invariant.behind;
    }

pub returns-clause-digits : goal.returns-clause-digits
returns-clause-digits c =
    let l = c.loop-rest in
    ends l.room l.start l.rest c.args.number (omega (arith, l.invariant.whole, l.invariant.inside)) c.loop-rest-test.false l.invariant.last l.invariant.behind

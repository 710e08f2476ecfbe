use Rattle.std.proofs.Common.{arith, ◌<◌, get_or, length, sym, []}
use denote.Ref.{Bor}
use Rattle.std.specs.Prelude.{List, ℕ}
use Rattle.glk_pctab.specs.Views.{units_view}
use Rattle.glk_pctab.proofs.FileSteps.{blank, firsts_long, first_is, unit_room, unit_length, unit_first, function_next, function_end}
use Rattle.glk_pctab.proofs.files.mark_all.Goals as goal

none : Bor (List (Bor (List ℕ)))
none = record { ref_ptr = (0, 0); now = [] }

pub bounds-firsts-unit : goal.bounds-firsts-unit
bounds-firsts-unit c =
    let low : (get_or c.loop-rest.rest.now 0 blank).unit < length c.args.units.now = (unit_first (length c.args.units.now) c.loop-rest.rest.now blank c.in-len1-up.len_at_least c.loop-rest.invariant.units).0 in
    omega (arith, low, firsts_long c.args.units.now c.args.firsts.now c.requires.firsts)

pub overflow_cast-units : goal.overflow_cast-units
unfolding none
overflow_cast-units c =
    let low : (get_or c.loop-rest.rest.now 0 blank).unit < length c.args.units.now = (unit_first (length c.args.units.now) c.loop-rest.rest.now blank c.in-len1-up.len_at_least c.loop-rest.invariant.units).0 in
    let room = unit_room c.args.units.now c.args.firsts.now (get_or c.loop-rest.rest.now 0 blank).unit (length c.args.named.now) none low c.requires.firsts c.requires.length in
    omega (arith, room, c.requires.small)

pub mark_values-requires : goal.mark_values-requires
unfolding none
mark_values-requires c =
    let low : (get_or c.loop-rest.rest.now 0 blank).unit < length c.args.units.now = (unit_first (length c.args.units.now) c.loop-rest.rest.now blank c.in-len1-up.len_at_least c.loop-rest.invariant.units).0 in
    let room = unit_room c.args.units.now c.args.firsts.now (get_or c.loop-rest.rest.now 0 blank).unit (length c.args.named.now) none low c.requires.firsts c.requires.length in
    record {
      inside = omega (arith, room, c.loop-rest.auto.named);
      small = omega (arith, room, c.requires.small);
    }

pub loop-rest-preserved : goal.loop-rest-preserved
unfolding none
loop-rest-preserved c =
    let us = c.args.units.now in
    let fs = c.loop-rest.rest.now in
    let both = unit_first (length us) fs blank c.in-len1-up.len_at_least c.loop-rest.invariant.units in
    let u = (get_or fs 0 blank).unit in
    record {
      units = both.1;
      marks = function_next (units_view us) c.loop-rest.named c.mark_values.new.named c.args.named.now fs blank (get_or c.args.firsts.now u 0) (length (get_or us u none).now) _ c.in-len1-up.len_at_least
          c.mark_values.ensures (first_is us c.args.firsts.now u both.0 c.requires.firsts) (sym (unit_length us u none both.0)) c.loop-rest.invariant.marks;
    }

pub returns : goal.returns
returns c = function_end (units_view c.args.units.now) c.loop-rest.named c.args.named.now c.loop-rest.rest.now _ c.in_default.len_below c.loop-rest.invariant.marks

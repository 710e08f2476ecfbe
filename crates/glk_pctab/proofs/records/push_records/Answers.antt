use Rattle.std.proofs.Common.{arith, refl, get_or, length, ◌<◌}
use Rattle.glk_pctab.specs.Views.{units_view}
use Rattle.glk_pctab.proofs.RecordSteps.{record_next, record_end, can_first, can_next}
use Rattle.glk_pctab.proofs.FileSteps.{blank, first_is, firsts_long}
use Rattle.glk_pctab.proofs.records.push_records.Goals as goal

pub bounds-firsts-function : goal.bounds-firsts-function
bounds-firsts-function c =
    let low : (get_or c.loop-rest.rest.now 0 blank).unit < length c.args.units.now = (can_first (length c.args.units.now) c.loop-rest.tree c.loop-rest.rest.now blank c.in-len1-up.len_at_least c.loop-rest.invariant.can_write).unit in
    omega (arith, low, firsts_long c.args.units.now c.args.firsts.now c.requires.firsts)

pub loop-rest-preserved : goal.loop-rest-preserved
loop-rest-preserved c =
    let us = c.args.units.now in
    let fs = c.loop-rest.rest.now in
    let some = c.in-len1-up.len_at_least in
    let can = can_first (length us) c.loop-rest.tree fs blank some c.loop-rest.invariant.can_write in
    let u = (get_or fs 0 blank).unit in
    record {
      can_write = can_next (length us) c.loop-rest.tree _ fs blank some refl c.loop-rest.invariant.can_write;
      bytes = record_next (units_view us) c.args.names.now.elements c.args.tables.now.elements c.loop-rest.tree _ (get_or c.args.firsts.now u 0) fs blank c.loop-rest.out.items c.pad_to_8.new.out.items c.push_record.new.out.items _ some
          c.in_ok-pad_to_8.ensures c.in_ok-push_record.ensures (first_is us c.args.firsts.now u can.unit c.requires.firsts) refl c.loop-rest.invariant.bytes;
    }

pub returns : goal.returns
returns c = record_end (units_view c.args.units.now) c.args.names.now.elements c.args.tables.now.elements c.loop-rest.tree c.loop-rest.rest.now c.loop-rest.out.items _ c.in_default.len_below c.loop-rest.invariant.bytes

use Rattle.std.proofs.Common.{arith}
use Rattle.glk_pcval.proofs.EncodeLemmas.{on_ok, appends_one, appends_more, room}
use Rattle.glk_pcval.proofs.encoder.+push_varint_within.Goals as goal

pub returns-then-number-lt-GROUP : goal.returns-then-number-lt-GROUP
returns-then-number-lt-GROUP t c = appends_one c.args.most c.args.number _ _ (omega arith) c.requires.some c.in_ok-push.ensures.items

pub push_varint_within-requires : goal.push_varint_within-requires
push_varint_within-requires t c =
    let r = room c.args.most c.args.number c.requires.some (omega arith) c.requires.room in (omega (arith, c.decreases), r)

pub returns : goal.returns
returns t c = on_ok c.push_varint_within.result (λ more. appends_more c.args.most c.args.number c.args.out.now.items c.push-2.new.self.items c.push_varint_within.new.out.items c.requires.some (omega arith) (omega (arith, c.ranges.number.fits)) c.in_ok-push-2.ensures.items more) c.push_varint_within.ensures

use Rattle.glk_objdesc.proofs.RoundTrip.{round_trip}
use Rattle.glk_objdesc.proofs.law.written_is_described.Goals as goal

pub returns : goal.returns
returns c = round_trip c.args.d.now c.requires.printable c.see_types.ensures c.requires.small

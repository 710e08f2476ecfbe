use Rattle.std.proofs.Common.{arith}
use Rattle.glk_ar.proofs.WrittenLemmas.{length_archive, read_back}
use Rattle.glk_ar.proofs.write.one_member.Goals as goal

pub returns-clause-length : goal.returns-clause-length
returns-clause-length c = rw (c.in_ok-write_archive.ensures) (length_archive c.args.goobj.now (omega arith))

pub returns-clause-read_back : goal.returns-clause-read_back
returns-clause-read_back c = rw (c.in_ok-write_archive.ensures) (read_back c.args.goobj.now (omega arith))

use Rattle.std.proofs.Common.{rules, ◌≡◌, length}
use Rattle.glk_objdesc.proofs.SizeLemmas.{number_is, small_is}
use Rattle.glk_objdesc.proofs.write.object_length.Goals as goal

pub returns-clause-value : goal.returns-clause-value
returns-clause-value c =
    let eight : length c.args.d.now.fingerprint ≡ 8 = search rules in
    number_is c.args.d.now c.sum_from.result c.saturating_add.result c.args.strings c.args.lengths.now eight c.sum_from.ensures
    c.saturating_add.ensures c.requires.strings c.requires.lengths

pub returns-clause-small : goal.returns-clause-small
returns-clause-small c small =
    let eight : length c.args.d.now.fingerprint ≡ 8 = search rules in
    small_is c.args.d.now c.sum_from.result eight (returns-clause-value c) small

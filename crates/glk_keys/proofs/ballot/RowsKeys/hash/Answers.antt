use Rattle.std.proofs.Common.{◌<◌, sym, ap, ◌∙◌, arith}
use Rattle.glk_keys.specs.GroupLaws.{long_keys}
use Rattle.glk_keys.specs.KeyHashes.{key_hash}
use Rattle.glk_keys.specs.KeyLaws.{nth_hash}
use Rattle.glk_keys.specs.Rows.{row_count}
use Rattle.glk_keys.proofs.ballot.RowsKeys.hash.Goals as goal

pub returns : goal.returns
returns c =
    let h : c.args.id < row_count c.args.self.now = let l = long_keys c.args.self.now in let r = c.requires in omega arith in
    c.hash_key.ensures ∙ ap key_hash c.key_in.ensures ∙ sym (nth_hash c.args.self.now c.args.id h)

use Rattle.std.proofs.Common.{sym, subst}
use Rattle.glk_merge.specs.Mergings.{IsTargetKey}
use Rattle.glk_functions.proofs.Named.{first_key}
use Rattle.glk_functions.proofs.auxes.first_bytes.Goals as goal

pub bytes_of-requires : goal.bytes_of-requires
bytes_of-requires c =
    let p = c.args.merged.now.program in
    subst (λ t. IsTargetKey p t) (sym c.first_named.ensures) (first_key p c.args.kind c.args.auxes.now c.requires)

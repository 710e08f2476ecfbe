use Rattle.std.proofs.Common.{◌≡◌, ap, arith}
use Rattle.glk_keys.specs.Blocks.{starts_of}
use Rattle.glk_keys.specs.LocalIndices.{first_hashed64}
use Rattle.glk_keys.specs.declared.blocks.BlockStarts.{BlockStarts}
use Rattle.glk_keys.proofs.blocks.BlockStarts.symdef.Goals as goal

pub returns-clause-range : goal.returns-clause-range
unfolding starts_of
returns-clause-range c =
    let size : c.args.self.hashed64 ≡ first_hashed64 c.args.object.now = ap (λ (s : BlockStarts). s.hashed64) c.requires in
    (λ z. record { first = 0; size = size z })

pub returns-clause-within : goal.returns-clause-within
unfolding starts_of
returns-clause-within c =
    let b = c.args.object.now in
    let size : c.args.self.hashed64 ≡ first_hashed64 b = ap (λ (s : BlockStarts). s.hashed64) c.requires in
    omega arith

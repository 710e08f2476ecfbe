use Rattle.std.proofs.Common.{◌≡◌, ◌-◌, ap, arith}
use Rattle.glk_obj.specs.Blocks.{count, hashed64def}
use Rattle.glk_keys.specs.Blocks.{starts_of}
use Rattle.glk_keys.specs.LocalIndices.{first_hashed64, first_hashed}
use Rattle.glk_keys.specs.declared.blocks.BlockStarts.{BlockStarts}
use Rattle.glk_keys.proofs.blocks.BlockStarts.short_hashed.Goals as goal

pub overflow_sub-result : goal.overflow_sub-result
unfolding starts_of
overflow_sub-result c =
    let b = c.args.object.now in
    let first : c.args.self.hashed64 ≡ first_hashed64 b = ap (λ (s : BlockStarts). s.hashed64) c.requires in
    let last : c.args.self.hashed ≡ first_hashed b = ap (λ (s : BlockStarts). s.hashed) c.requires in
    omega arith

pub returns-clause-range : goal.returns-clause-range
unfolding starts_of
returns-clause-range c =
    let b = c.args.object.now in
    let first : c.args.self.hashed64 ≡ first_hashed64 b = ap (λ (s : BlockStarts). s.hashed64) c.requires in
    let last : c.args.self.hashed ≡ first_hashed b = ap (λ (s : BlockStarts). s.hashed) c.requires in
    let size : c.args.self.hashed - c.args.self.hashed64 ≡ count b hashed64def = omega arith in
    (λ z. record { first = first z; size = size z })

pub returns-clause-within : goal.returns-clause-within
unfolding starts_of
returns-clause-within c =
    let b = c.args.object.now in
    let first : c.args.self.hashed64 ≡ first_hashed64 b = ap (λ (s : BlockStarts). s.hashed64) c.requires in
    let last : c.args.self.hashed ≡ first_hashed b = ap (λ (s : BlockStarts). s.hashed) c.requires in
    omega arith

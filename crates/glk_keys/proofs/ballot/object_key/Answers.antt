use Rattle.std.proofs.Common.{◌≡◌, ◌-◌, sym, ap, ◌∙◌, arith}
use Rattle.glk_obj.specs.Records.{hash64_at, hash_at}
use Rattle.glk_keys.proofs.BlockLaws.{key_at, short_hashes}
use Rattle.glk_keys.specs.Blocks.{starts_of}
use Rattle.glk_keys.specs.Keys.{short, long}
use Rattle.glk_keys.specs.LocalIndices.{first_hashed64, first_hashed}
use Rattle.glk_keys.specs.declared.blocks.BlockStarts.{BlockStarts}
use Rattle.glk_keys.specs.declared.blocks.SymbolBlock.TheVariants.{Hashed64def, Hasheddef}
use Rattle.glk_keys.proofs.ballot.object_key.Goals as goal

pub overflow_sub-i : goal.overflow_sub-i
unfolding starts_of
overflow_sub-i c =
    let e : c.args.starts.hashed64 ≡ first_hashed64 c.args.object.now = ap (λ (s : BlockStarts). s.hashed64) c.requires.starts in
    let low = c.in-Hashed64def.ensures.inside.0 in
    omega arith

pub hash64-requires : goal.hash64-requires
unfolding starts_of
hash64-requires c =
    let e : c.args.starts.hashed64 ≡ first_hashed64 c.args.object.now = ap (λ (s : BlockStarts). s.hashed64) c.requires.starts in
    let inside = c.in-Hashed64def.ensures.inside in
    let counted = short_hashes c.args.object.now c.requires.object in
    omega (arith, inside.0, inside.1, counted, e)

pub overflow_sub-i-in-Hasheddef : goal.overflow_sub-i-in-Hasheddef
unfolding starts_of
overflow_sub-i-in-Hasheddef c =
    let e : c.args.starts.hashed ≡ first_hashed c.args.object.now = ap (λ (s : BlockStarts). s.hashed) c.requires.starts in
    let low = c.in-Hasheddef.ensures.inside.0 in
    omega arith

pub hash-requires : goal.hash-requires
unfolding starts_of
hash-requires c =
    let e : c.args.starts.hashed ≡ first_hashed c.args.object.now = ap (λ (s : BlockStarts). s.hashed) c.requires.starts in
    let inside = c.in-Hasheddef.ensures.inside in
    omega (arith, inside.0, inside.1, e)

pub returns-in-Hashed64def : goal.returns-in-Hashed64def
unfolding starts_of
returns-in-Hashed64def c =
    let b = c.args.object.now in
    let i = c.args.i in
    let e : c.args.starts.hashed64 ≡ first_hashed64 b = ap (λ (s : BlockStarts). s.hashed64) c.requires.starts in
    ap short (c.hash64.ensures ∙ ap (λ k. hash64_at b (i - k)) e) ∙ sym (key_at c.args.n i b Hashed64def c.in-Hashed64def.ensures.origin)

pub returns-in-Hasheddef : goal.returns-in-Hasheddef
unfolding starts_of
returns-in-Hasheddef c =
    let b = c.args.object.now in
    let i = c.args.i in
    let e : c.args.starts.hashed ≡ first_hashed b = ap (λ (s : BlockStarts). s.hashed) c.requires.starts in
    ap long (c.hash.ensures ∙ ap (λ k. hash_at b (i - k)) e) ∙ sym (key_at c.args.n i b Hasheddef c.in-Hasheddef.ensures.origin)

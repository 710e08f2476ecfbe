use Rattle.std.proofs.Common.{◌≡◌, ◌-◌, ◌∙◌, List, [], ℕ, ◌++◌, length, take, replicate, ap, vec_len, rules}
use Rattle.glk_ar.specs.Archive.{magic}
use Rattle.glk_ar.specs.Part.{newline}
use Rattle.glk_ar.specs.Written.{header_with, body_with}
use Rattle.glk_ar.proofs.WrittenLemmas.{archive_pieces}
use Rattle.glk_ar.proofs.write.write_archive.Goals as goal

pub returns : goal.returns
returns c =
    let goobj : List ℕ = c.args.goobj.now in
    let n : ℕ = c.args.length in
    let begun : List ℕ = c.extend_from_slice.new.self.items in
    let headed : List ℕ = c.push_header.new.out.items in
    let out : List ℕ = c.push_body.new.out.items in
    let start : c.in_ok-archive.archive.items ≡ [] = c.in_ok-archive.ensures.items in
    let first : begun ≡ c.in_ok-archive.archive.items ++ magic = (c.in_ok-extend_from_slice.ensures).items in
    let second : headed ≡ begun ++ header_with c.body_size.result = c.in_ok-push_header.ensures in
    let third : out ≡ headed ++ body_with goobj = c.in_ok-push_body.ensures in
    let whole : vec_len c.push_body.new.out ≡ length out = search rules in
    let last : c.resize.new.self.items ≡ take n out ++ replicate (n - vec_len c.push_body.new.out) newline = (c.in_ok-resize.ensures).items in
    let filled : c.resize.new.self.items ≡ take n out ++ replicate (n - length out) newline = last ∙ ap (λ k. take n out ++ replicate (n - k) newline) whole in
    filled ∙ archive_pieces c.in_ok-archive.archive.items begun headed out goobj c.body_size.result n start first second third c.body_size.ensures.size c.requires.whole c.requires.small

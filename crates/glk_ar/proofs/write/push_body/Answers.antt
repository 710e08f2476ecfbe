use Rattle.std.proofs.Common.{◌≡◌, ◌++◌, List, ℕ}
use Rattle.glk_ar.specs.Part.{mark}
use Rattle.glk_ar.specs.Written.{object_line}
use Rattle.glk_ar.proofs.WrittenLemmas.{body_pieces}
use Rattle.glk_ar.proofs.write.push_body.Goals as goal

pub returns : goal.returns
returns c =
    let goobj : List ℕ = c.args.goobj.now in
    let out : List ℕ = c.args.out.now.items in
    let lined : List ℕ = c.extend_from_slice.new.self.items in
    let marked : List ℕ = c.extend_from_slice-2.new.self.items in
    let first : lined ≡ out ++ object_line = (c.in_ok-extend_from_slice.ensures).items in
    let second : marked ≡ lined ++ mark = (c.in_ok-extend_from_slice-2.ensures).items in
    let third : c.extend_from_slice-3.new.self.items ≡ marked ++ goobj = (c.in_ok-extend_from_slice-3.ensures).items in
    body_pieces out lined marked c.extend_from_slice-3.new.self.items goobj first second third

use Rattle.std.proofs.Common.{◌≡◌, ◌<◌, length, ap, sym, ◌∙◌, arith}
use Rattle.std.proofs.lemmas.List.{get_or_default}
use Rattle.std.proofs.lemmas.Slice.Eq.{bytes_eq-Decides}
use Rattle.glk_io.proofs.PathLemmas.{found, not_found}
use Rattle.glk_io.proofs.paths.index_of.Goals as goal

pub returns-then-eq : goal.returns-then-eq
returns-then-eq c =
    let lt : c.loop-i.i < length c.args.files.now = omega arith in
    let same : c.args.path.now ≡ c.as_str.result.now =
    (bytes_eq-Decides c.args.path.now c.as_str.result.now).0 (sym c.if-eq.ensures) in
    found c.args.files.now c.args.path.now c.loop-i.i lt c.loop-i.invariant
    (λ d. ap (λ e. e.0) (get_or_default c.args.files.now c.loop-i.i d c.index-files-i.result lt ∙ sym c.index-files-i.is)
    ∙ sym c.as_str.ensures ∙ sym same)

pub returns : goal.returns
returns c = not_found c.args.files.now c.args.path.now (λ k d h. c.loop-i.invariant k d (omega arith))

use Rattle.std.proofs.Common.{◌≡◌, [], sym, ap, ◌∙◌}
use Rattle.std.proofs.lemmas.List.{nil_from_length}
use Rattle.glk_base.specs.Varint.{varint_of}
use Rattle.glk_base.proofs.VarintLemmas.{varint_of-nil}
use Rattle.glk_base.proofs.varint.+read_varint.Goals as goal

pub returns-in_err-first-clause-value : goal.returns-in_err-first-clause-value
returns-in_err-first-clause-value t c =
    let empty : c.args.bytes.now ≡ [] = nil_from_length c.args.bytes.now c.in_err-first.ensures.cases in
    c.from_residual.ensures ∙ sym (ap (λ bytes. varint_of c.args.most c.args.limit bytes) empty ∙ varint_of-nil c.args.most c.args.limit)

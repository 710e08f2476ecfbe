use Rattle.std.proofs.Common.{ℕ, List, ◌++◌, ap, ◌∙◌}
use Rattle.glk_base.specs.Lines.{left_lines}
use Rattle.glk_addr2line.specs.Lines.{without_empty_end}
use Rattle.glk_addr2line.specs.Texts.{input_text, lines_text}
use Rattle.glk_addr2line.proofs.LineLemmas.{first_lines, text_left}
use Rattle.glk_pending.proofs.WritingLemmas.{left_more, left_fails, fails_after}
use Rattle.glk_addr2line.proofs.print.write_answers.Goals as goal

pub loop-rest-preserved : goal.loop-rest-preserved
loop-rest-preserved g c =
    let m = c.args.functions.now in
    let text_of = λ (ls : List (List ℕ)). lines_text m c.args.inline ls in
    left_more _ _ _ (c.args.pending.now ++ input_text m c.args.inline c.args.input.now) c.loop-rest.pending (text_of (without_empty_end (left_lines c.loop-rest.rest)))
    (text_of (first_lines c.cut_line.result.0.now c.is_none.result)) (text_of (without_empty_end (left_lines c.cut_line.result.1)))
    (ap (λ r. text_of (without_empty_end (left_lines r))) c.in-Some.is
    ∙ text_left m c.args.inline c.in-Some.text.now c.cut_line.result.0.now c.cut_line.result.1 c.is_none.result c.is_none.ensures c.cut_line.ensures)
    c.loop-rest.invariant c.write_first_line.new.pending c.in_ok-write_first_line.ensures

pub returns-in_err-write_first_line : goal.returns-in_err-write_first_line
returns-in_err-write_first_line g c =
    let m = c.args.functions.now in
    let text_of = λ (ls : List (List ℕ)). lines_text m c.args.inline ls in
    fails_after _ _ c.args.pending.now c.write_first_line.new.pending (input_text m c.args.inline c.args.input.now) c.from_residual.result _ c.from_residual.ensures.1
    (left_fails _ _ _ (c.args.pending.now ++ input_text m c.args.inline c.args.input.now) c.loop-rest.pending (text_of (without_empty_end (left_lines c.loop-rest.rest)))
    (text_of (first_lines c.cut_line.result.0.now c.is_none.result)) (text_of (without_empty_end (left_lines c.cut_line.result.1)))
    (ap (λ r. text_of (without_empty_end (left_lines r))) c.in-Some.is
    ∙ text_left m c.args.inline c.in-Some.text.now c.cut_line.result.0.now c.cut_line.result.1 c.is_none.result c.is_none.ensures c.cut_line.ensures)
    c.loop-rest.invariant c.in_err-write_first_line.ensures)

use Rattle.glk_run.proofs.cmd_addr2line.addr2line_command.Goals as goal

pub returns : goal.returns
returns g c = record {
  inline = c.with_inlined-inline.result;
  asked = c.with_inlined-inline.ensures;
  answer = c.addr2line.result;
  outcome_is = c.of_answer.ensures;
  means = c.addr2line.ensures.answer;
  must = c.addr2line.ensures.must;
}

use Rattle.glk_run.proofs.cmd_nm.nm_command.Goals as goal

pub returns : goal.returns
returns g c = record {
  opts = c.nm_options-opts.result;
  asked = c.nm_options-opts.ensures;
  answer = c.nm.result;
  outcome_is = c.of_answer.ensures;
  means = c.nm.ensures.answer;
  must = c.nm.ensures.must;
}

use Rattle.glk_run.proofs.cmd_dump.dump_command.Goals as goal

pub returns : goal.returns
returns g c = record {
  answer = c.dump.result;
  outcome_is = c.of_answer.ensures;
  means = c.dump.ensures.answer;
  must = c.dump.ensures.must;
}

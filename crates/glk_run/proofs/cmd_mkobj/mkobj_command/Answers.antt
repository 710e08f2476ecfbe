use Rattle.glk_run.proofs.cmd_mkobj.mkobj_command.Goals as goal

pub returns : goal.returns
returns g c = record {
  out = c.archive_path-out.result.now;
  is_out = c.archive_path-out.ensures;
  answer = c.mkobj.result;
  outcome_is = c.of_answer.ensures;
  means = c.mkobj.ensures.answer;
  must = c.mkobj.ensures.must;
}

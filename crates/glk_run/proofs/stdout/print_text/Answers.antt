use Rattle.glk_run.proofs.stdout.print_text.Goals as goal

pub returns : goal.returns
returns g c = record {
  answer = c.print.result;
  outcome_is = c.of_answer.ensures;
  prints = c.print.ensures;
}

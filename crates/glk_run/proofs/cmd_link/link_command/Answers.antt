use Rattle.std.proofs.Common.{inr, ap, ◌∙◌}
use Rattle.glk_messages.specs.Outcomes.{outcome_of}
use Rattle.glk_run.proofs.cmd_link.link_command.Goals as goal

pub returns : goal.returns
returns g c =
    inr (
      c.in-Ok.opts,
      c.in-Ok.ensures.link,
      record {
        answer = c.link.result;
        outcome_is = c.of_answer.ensures;
        means = c.link.ensures.means;
        must = c.link.ensures.due;
        unbuilt = λ asks. let h = c.link.ensures.unbuilt asks in (c.of_answer.ensures ∙ ap outcome_of h.0, ap g.F.Files.state h.1);
      },
    )

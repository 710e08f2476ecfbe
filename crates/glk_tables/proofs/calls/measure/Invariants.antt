use Rattle.std.proofs.Common.{◌≡◌, ◌<◌, length, Some}
use Rattle.glk_tables.specs.Calls.{after_calls}
use Rattle.glk_tables.specs.Chains.{link}
use Rattle.glk_tables.proofs.calls.measure.Given as goal

abbrev pub invariant-loop-steps : goal.invariant-loop-steps
invariant-loop-steps l = record {
  inside : l.at < length l.callers;
  reached : after_calls (link l.callers) l.steps (Some l.from) ≡ Some l.at;
}

use Rattle.std.proofs.Common.{◌≡◌, ◌+◌, ◌-◌, length}
use Rattle.std.specs.Io.KnownBytes.{Consumes}
use Rattle.glk_tools.specs.Stdin.{stdin, input_limit}
use Rattle.glk_tools.proofs.stdin.read_input.Given as goal

abbrev pub invariant-loop-room : goal.invariant-loop-room
invariant-loop-room g l = record {
  path : l.path ≡ stdin;
  faults : (g.I.Source.state l.input).faults ≡ (g.I.Source.state l.fn.input).faults;
  taken : Consumes (g.I.Source.state l.fn.input).left (g.I.Source.state l.input).left l.bytes.items;
}

abbrev pub decreases-loop-room : goal.decreases-loop-room
decreases-loop-room g l = input_limit + 1 - length l.bytes.items

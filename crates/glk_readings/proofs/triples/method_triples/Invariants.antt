use Rattle.std.proofs.Common.{◌≡◌, ◌%◌}
use Rattle.std.specs.List.{filter_map, range_with_len}
use Rattle.glk_readings.specs.Triples.{run_before, triple_from}
use Rattle.glk_readings.proofs.triples.method_triples.Given as goal

abbrev pub invariant-loop-i : goal.invariant-loop-i
invariant-loop-i g l = record {
  phase : l.phase ≡ run_before ((g.S.Symbols.table l.symbols).relocs l.key) l.i % 3;
  triples : l.out.items ≡ filter_map (triple_from ((g.S.Symbols.table l.symbols).relocs l.key)) (range_with_len 0 l.i);
}

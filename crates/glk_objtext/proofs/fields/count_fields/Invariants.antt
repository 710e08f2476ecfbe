use Rattle.std.proofs.Common.{◌≡◌, ◌+◌, ◌≤◌, [], length, drop}
use Rattle.glk_objtext.specs.Fields.{fields_from, fields}
use Rattle.glk_objtext.specs.Fields.{open_count}
use Rattle.glk_objtext.proofs.fields.count_fields.Given as goal

abbrev pub invariant-loop-b : goal.invariant-loop-b
invariant-loop-b l = record {
  few : l.count + open_count l.mode ≤ l.b-index;
  same : l.count + length (fields_from l.mode [] (drop l.b-index l.line)) ≡ length (fields l.line);
}

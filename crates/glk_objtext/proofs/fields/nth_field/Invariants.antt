use Rattle.std.proofs.Common.{◌≡◌, ◌≤◌, drop}
use Rattle.glk_objtext.specs.Fields.{fields_from, fields, field_at}
use Rattle.glk_objtext.proofs.FieldSteps.{so_far}
use Rattle.glk_objtext.proofs.fields.nth_field.Given as goal

abbrev pub invariant-loop-i : goal.invariant-loop-i
invariant-loop-i l = record {
  started : l.start ≤ l.i;
  same : field_at (fields_from l.mode (so_far l.mode l.start l.i l.line) (drop l.i l.line)) l.before ≡ field_at (fields l.line) l.n;
}

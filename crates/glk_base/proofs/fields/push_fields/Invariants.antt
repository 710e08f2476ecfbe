use Rattle.std.proofs.Common.{◌≡◌, ◌++◌, map, length, ℕ, List}
use Rattle.glk_base.specs.Fields.{fields_bytes, field_view}
use Rattle.glk_base.proofs.fields.push_fields.Given as goal

abbrev pub invariant-loop-rest : goal.invariant-loop-rest
invariant-loop-rest l = record {
  whole : l.out.items ++ fields_bytes (map field_view l.rest) ≡ l.fn.out.items ++ fields_bytes (map field_view l.fields);
  stays : (behind : List ℕ) × (l.out.items ≡ l.fn.out.items ++ behind);
}

abbrev pub decreases-loop-rest : goal.decreases-loop-rest
decreases-loop-rest l = length l.rest

use Rattle.glk_ar.proofs.WrittenLemmas.{length_digits}
use Rattle.glk_ar.proofs.write.push_header.Goals as goal

pub push_field-requires-6-clause-fits : goal.push_field-requires-6-clause-fits
push_field-requires-6-clause-fits c = rw (c.as_bytes.ensures.value, c.format.ensures.text) (length_digits c.args.size c.requires)

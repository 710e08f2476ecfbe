use Rattle.std.proofs.Common.{arith, refl}
use Rattle.std.proofs.lemmas.Bool.{false≢true}
use Rattle.glk_obj.proofs.LeastOffsets.{none_more, none_at_all}
use Rattle.glk_obj.proofs.FieldOffsets.{first_field, field_block, by_record}
use Rattle.glk_obj.proofs.fields.first_failing.Goals.{then-has_field+in-None, else-has_field}
use Rattle.glk_obj.proofs.fields.first_failing.Goals as goal

pub returns-in-Some : goal.returns-in-Some
returns-in-Some g c = first_field c.args.bytes.now c.args.field (g.T.FieldTest.bad c.args.bytes.now) c.loop-t.t c.in-Some.found c.requires.layout (c.if-has_field.ensures.0 refl) c.loop-t.invariant c.in-Some.ensures

pub loop-t-preserved : goal.loop-t-preserved
loop-t-preserved g c = none_more _ _ c.loop-t.t c.loop-t.invariant (λ offset among fault. elim c.if-has_field.branch [
  | then-has_field+in-None w ↦ w.in-None.ensures offset fault
  | else-has_field w ↦ absurd (false≢true (w.if-has_field.ensures.1 among))
])

pub returns : goal.returns
returns g c = λ p fails. none_at_all _ _ c.loop-t.t c.loop-t.invariant (λ j among. omega (arith, (field_block c.args.field j among).0)) p (by_record c.args.bytes.now c.args.field (g.T.FieldTest.bad c.args.bytes.now) p fails)

pub first_in_block-requires-clause-fixed : goal.first_in_block-requires-clause-fixed
first_in_block-requires-clause-fixed g c = (field_block c.args.field c.loop-t.t (c.if-has_field.ensures.0 refl)).1

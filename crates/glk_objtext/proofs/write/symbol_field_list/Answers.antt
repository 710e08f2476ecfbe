use Rattle.glk_objtext.proofs.Joins.{seven_fields}
use Rattle.glk_objtext.proofs.write.symbol_field_list.Goals as goal

pub returns : goal.returns
returns c = rw (c.in_ok-number_field-6.ensures, c.in_ok-number_field-5.ensures, c.in_ok-number_field-4.ensures, c.in_ok-number_field-3.ensures, c.in_ok-number_field-2.ensures, c.in_ok-number_field.ensures, c.in_ok-string_field.ensures) (seven_fields c.args.out.now.items _ _ _ _ _ _ _)

use Rattle.std.proofs.Common.{refl}
use Rattle.std.proofs.lemmas.Bool.{false≢true}
use Rattle.glk_base.proofs.Decimals.{begins_decimal, decimal_read, decimal_unread, decimal_utf8}
use Rattle.glk_base.proofs.lines.small_number.Goals as goal

pub returns-then-not-begins_number : goal.returns-then-not-begins_number
returns-then-not-begins_number c = λ n small spelled. absurd (false≢true (c.if-not-begins_number.ensures.1 (begins_decimal c.args.digits.now n small spelled)))

pub returns-in-Ok-parse : goal.returns-in-Ok-parse
returns-in-Ok-parse c = decimal_read c.args.digits.now c.in-Ok.text.now c.in-Ok-parse.number c.parse.result (c.if-not-begins_number.ensures.0 refl) c.in-Ok.ensures.cases.0 c.in-Ok-parse.is c.parse.ensures.value.0

pub returns-in-Err-parse : goal.returns-in-Err-parse
returns-in-Err-parse c = λ n small spelled. decimal_unread c.args.digits.now c.in-Ok.text.now n c.in-Err-parse.field-0 c.parse.result small c.in-Ok.ensures.cases.0 c.in-Err-parse.is c.parse.ensures.value.0 spelled

pub returns-in-Err : goal.returns-in-Err
returns-in-Err c = λ n small spelled. c.in-Err.ensures.cases.0 (decimal_utf8 c.args.digits.now n small spelled)

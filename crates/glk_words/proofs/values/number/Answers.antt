use Rattle.std.proofs.Common.{◌≡◌, true, rules}
use Rattle.glk_words.specs.Values.{is_spelled}
use Rattle.glk_words.proofs.Spellings.{some_number, no_number}
use Rattle.glk_words.proofs.values.number.Goals as goal

pub returns-in-Ok : goal.returns-in-Ok
returns-in-Ok c =
    let is : is_spelled c.args.text.now ≡ true = search rules in
    some_number _ c.args.text.now c.parse.result c.in-Ok.n is c.parse.ensures.value.0 c.in-Ok.is

pub returns-in-Err : goal.returns-in-Err
returns-in-Err c =
    let is : is_spelled c.args.text.now ≡ true = search rules in
    no_number _ c.args.text.now c.parse.result c.in-Err.field-0 is c.parse.ensures.value.0 c.in-Err.is

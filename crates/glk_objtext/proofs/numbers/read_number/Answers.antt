use Rattle.std.proofs.Common.{arith, ◌≡◌, ◌<◌, ◌≤◌, ◌^◌, refl}
use Rattle.std.proofs.lemmas.Bool.{false≢true}
use Rattle.std.specs.Str.Parse.{digits_value}
use Rattle.glk_objtext.proofs.NumberFacts.{spelled, unspelled_long, unspelled_digits, unspelled_great}
use Rattle.glk_objtext.proofs.numbers.read_number.Goals as goal

pub returns-then-not-is_short-clause-means : goal.returns-then-not-is_short-clause-means
returns-then-not-is_short-clause-means c = let few : c.args.limit ≤ 2 ^ 64 = omega arith in unspelled_long c.args.limit c.args.field.now few (λ h. false≢true (c.if-not-is_short.ensures.1 h))

pub returns-then-value-limit-clause-means : goal.returns-then-value-limit-clause-means
returns-then-value-limit-clause-means c =
    let few : c.args.limit ≤ 2 ^ 64 = omega arith in
    let is = c.in-Some.ensures.1 in
    let exact : c.in-Some.value ≡ digits_value 10 c.args.field.now = omega arith in
    let low : digits_value 10 c.args.field.now < c.args.limit = omega arith in
    let short = c.if-not-is_short.ensures in
    rw exact (spelled c.args.limit c.args.field.now few c.in-Some.ensures.0 (short.0 refl) low)

pub returns-else-value-limit-clause-means : goal.returns-else-value-limit-clause-means
returns-else-value-limit-clause-means c = let few : c.args.limit < 2 ^ 64 = omega arith in unspelled_great c.args.limit c.in-Some.value c.args.field.now few c.in-Some.ensures.1 c.if-value-limit.false

pub returns-in-None-clause-means : goal.returns-in-None-clause-means
returns-in-None-clause-means c = let few : c.args.limit ≤ 2 ^ 64 = omega arith in unspelled_digits c.args.limit c.args.field.now few c.in-None.ensures

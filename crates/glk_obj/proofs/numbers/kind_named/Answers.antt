use Rattle.std.proofs.Common.{◌≡◌, ◌<◌, ◌∙◌, true, false, sym, ap, arith}
use Rattle.std.specs.Cmp.Lexicographic.{bytes_decides}
use Rattle.std.specs.Str.{bytes_eq}
use borrow.Author.Count.{below_more}
use Rattle.glk_obj.specs.Numbers.{name_of, index_of}
use Rattle.glk_obj.proofs.KindNumbers.{at_index, index_small}
use Rattle.glk_obj.proofs.numbers.kind_named.Goals as goal

pub loop-index-preserved : goal.loop-index-preserved
loop-index-preserved c = below_more _ _ c.loop-index.invariant (λ kind at is.
    let same : c.at-kind.result ≡ kind = cc in
    let equal : c.name.result.now ≡ c.args.name.now = c.name.ensures ∙ ap name_of same ∙ sym is in
    let yes_ : bytes_eq c.name.result.now c.args.name.now ≡ true = (bytes_decides c.name.result.now c.args.name.now).1 equal in
    let no_ : false ≡ bytes_eq c.name.result.now c.args.name.now = c.if-eq.ensures in
    cc)

pub returns : goal.returns
returns c = λ kind is. let low : index_of kind < c.loop-index.index = omega (arith, index_small kind) in c.loop-index.invariant (index_of kind) low kind (at_index kind) is

use Rattle.std.proofs.Common.{◌≡◌, sym, subst, arith}
use Rattle.std.specs.Prelude.{Bool, IsTrue, ◌↔◌}
use Rattle.glk_table.specs.Keys.{key_of}
use Rattle.glk_keys.specs.GroupLaws.{long_keys}
use Rattle.glk_keys.specs.KeyLaws.{nth_same}
use Rattle.glk_keys.specs.KeyNumbers.{keys_of}
use Rattle.glk_keys.proofs.ballot.RowsKeys.same.Goals as goal

pub returns-else-a-b : goal.returns-else-a-b
returns-else-a-b c =
    let p = c.args.self.now in
    let a = c.args.a in
    let b = c.args.b in
    let l = long_keys p in
    let r = c.requires in
    let P : Bool → Type 0 = λ t. IsTrue t ↔ (key_of (keys_of p) a ≡ key_of (keys_of p) b) in
    subst P (sym c.same_rows.ensures) (nth_same p a b (omega arith) (omega arith))

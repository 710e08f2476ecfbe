use Rattle.std.proofs.Common.{◌≡◌, Some, sym, ap, ◌∙◌}
use Rattle.glk_keys.specs.Keys.{key_id, find_key}
use Rattle.glk_keys.specs.Programs.{Program}
use Rattle.glk_merge.proofs.FindLaws.{found_by}
use Rattle.glk_merge.specs.Mergings.{Merging}
use Rattle.glk_merge.proofs.merged.Merged.find.Goals as goal

pub returns-in-Some-clause-value : goal.returns-in-Some-clause-value
returns-in-Some-clause-value c =
    let p : Program = c.args.self.now.program in
    let rows : Program = c.self.inside.rows in
    let same : rows ≡ p = ap (λ (m : Merging). m.program) c.self.view_is in
    let id = c.in-Some.id in
    let by : find_key rows c.args.name.now c.args.abi ≡ Some (key_id rows id) = found_by rows c.args.name.now c.args.abi id c.in-Some.ensures in
    let moved : find_key p c.args.name.now c.args.abi ≡ Some (key_id p id) = ap (λ (q : Program). find_key q c.args.name.now c.args.abi) (sym same) ∙ by ∙ ap (λ (q : Program). Some (key_id q id)) same in
    ap (λ k. Some k) c.key.ensures.value ∙ sym moved

use Rattle.std.proofs.Common.{◌≡◌, ℕ, ◌-◌, ◌≤◌, length, get_or, sym, ap, ◌∙◌, arith}
use Rattle.std.specs.List.{sum_by}
use Rattle.glk_arena.specs.World.{objects_of}
use Rattle.glk_obj.specs.Records.{symbols}
use Rattle.glk_keys.specs.RowLaws.{all_rows, row_of_own}
use Rattle.glk_keys.specs.Rows.{row_at, own_symbols, no_symbol}
use Rattle.glk_keys.specs.Keys.{Key, name_key, row_key}
use Rattle.glk_keys.proofs.rows.Rows.key_in.Goals as goal

pub own-requires : goal.own-requires
own-requires c =
    let a = all_rows c.args.self.now in
    let b = c.of_objects-of_objects.ensures.value in
    let e = c.if-id-of_objects.false in
    let h = c.requires in
    omega arith

pub returns-else-id-of_objects : goal.returns-else-id-of_objects
returns-else-id-of_objects c =
    let p = c.args.self.now in
    let b = c.of_objects-of_objects.ensures.value in
    let e = c.if-id-of_objects.false in
    let low : sum_by symbols (objects_of p.world) ≤ c.args.id.0 = omega arith in
    let i : ℕ = c.args.id.0 - c.of_objects-of_objects.result in
    let n = c.objects.ensures.value in
    let symbol = c.own.ensures in
    let key : Key = name_key (length (objects_of p.world)) i (get_or (own_symbols p) i no_symbol) in
    let is : key ≡ row_key (row_at p c.args.id.0) = ap row_key (sym (row_of_own p c.args.id.0 i low c.requires (ap (λ k. c.args.id.0 - k) b))) in
    c.name_key.ensures ∙ (λ z. name_key (n z) i (symbol z)) ∙ is

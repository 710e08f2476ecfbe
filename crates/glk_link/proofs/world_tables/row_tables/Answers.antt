use Rattle.std.proofs.Common.{◌≡◌, ◌<◌, ◌≤◌, ◌-◌, ◌∷◌, ◌++◌, [], ℕ, List, length, get_or, take, replicate, vec_len, ap, ◌∙◌, arith}
use Rattle.glk_obj.specs.Records.{symbols}
use Rattle.glk_arena.specs.World.{objects_of}
use Rattle.glk_link.specs.World.{rows, row_of}
use Rattle.glk_link.proofs.Rows.{row_most, tables_none, tables_more, tables_all}
use Rattle.glk_link.proofs.world_tables.row_tables.Goals as goal

pub loop-n-init : goal.loop-n-init
loop-n-init c = tables_none (objects_of c.args.loaded.now) _ _ c.new-owners.ensures.items c.in_ok-firsts.ensures.items

pub overflow_cast-first : goal.overflow_cast-first
overflow_cast-first c =
    let most : row_of (objects_of c.args.loaded.now) c.loop-n.n 0 ≤ rows (objects_of c.args.loaded.now) = row_most (objects_of c.args.loaded.now) c.loop-n.n in
    let len : c.len-first.result ≡ length c.loop-n.owners.items = omega (arith, c.len-first.ensures, c.loop-n.owners.ok.0) in
    omega (arith, most, len, c.loop-n.invariant.owned, c.requires)

pub loop-n-preserved : goal.loop-n-preserved
loop-n-preserved c =
    let world : List (List ℕ) = (objects_of c.args.loaded.now) in
    let n : ℕ = c.loop-n.n in
    let owners : List ℕ = c.loop-n.owners.items in
    let within : n < length world = omega (arith, c.objects-count.ensures) in
    let len : c.len-first.result ≡ length owners = omega (arith, c.len-first.ensures, c.loop-n.owners.ok.0) in
    let count : c.symbols.result ≡ symbols (get_or world n []) = c.symbols.ensures.value ∙ ap (λ (o : List ℕ). symbols o) c.object.ensures.value in
    tables_more world owners c.loop-n.firsts.items c.resize.new.self.items c.push.new.self.items n (vec_len c.loop-n.owners) c.loop-n.invariant within
    c.object.ensures.object (omega (arith, c.loop-n.owners.ok.0))
    (c.in_ok-push.ensures.items ∙ ap (λ (k : ℕ). c.loop-n.firsts.items ++ k ∷ []) len)
    (c.in_ok-resize.ensures.items ∙ ap (λ (k : ℕ). take k owners ++ replicate (k - vec_len c.loop-n.owners) n) (omega (arith, len, count)))

pub returns : goal.returns
returns c = tables_all (objects_of c.args.loaded.now) _ _ c.loop-n.n c.loop-n.invariant (omega (arith, c.objects-count.ensures)) c.requires

use Rattle.std.proofs.Common.{◌≡◌, ℕ, ◌∷◌, ◌++◌, take, replicate, vec_len, ◌+◌, ◌-◌, ◌<◌, ◌≤◌, List, [], length, get_or, ap, ◌∙◌, arith}
use Rattle.std.proofs.lemmas.List.{take_all}
use Rattle.std.proofs.lemmas.List.Sums.{sum_by-take-le}
use Rattle.glk_arena.specs.World.{objects_of}
use Rattle.glk_obj.specs.Records.{symbols}
use Rattle.glk_keys.proofs.Rising.{tables_next, views_next}
use Rattle.glk_keys.specs.Blocks.{starts_of}
use Rattle.glk_keys.specs.declared.blocks.BlockStarts.{BlockStarts}
use Rattle.glk_keys.proofs.objects.Objects.new.Goals as goal

pub overflow_cast-first : goal.overflow_cast-first
overflow_cast-first c =
    let most = sum_by-take-le symbols (objects_of c.args.loaded.now) c.loop-n.n in
    let owned = c.loop-n.invariant.tables.owned in
    let len : c.len-first.result ≡ length c.loop-n.owners.items = omega (arith, c.len-first.ensures, c.loop-n.owners.ok.0) in
    let few = c.requires in
    omega arith

pub loop-n-preserved : goal.loop-n-preserved
loop-n-preserved c =
    let world : List (List ℕ) = objects_of c.args.loaded.now in
    let n : ℕ = c.loop-n.n in
    let owners : List ℕ = c.loop-n.owners.items in
    let within : n < length world = omega (arith, c.objects-count.ensures) in
    let len : c.len-first.result ≡ length owners = omega (arith, c.len-first.ensures, c.loop-n.owners.ok.0) in
    let count : c.symbols.result ≡ symbols (get_or world n []) = c.symbols.ensures.value ∙ ap (λ (o : List ℕ). symbols o) c.object-view.ensures.value in
    let room : vec_len c.loop-n.owners ≡ length owners = omega (arith, c.loop-n.owners.ok.0) in
    let k : ℕ = c.len-first.result + c.symbols.result in
    let more : take k owners ++ replicate (k - vec_len c.loop-n.owners) n ≡ owners ++ replicate (symbols (get_or world n [])) n =
    let long : length owners ≤ k = omega (arith, len) in
    let rest : k - vec_len c.loop-n.owners ≡ symbols (get_or world n []) = omega (arith, len, room, count) in
    (λ z. take_all k owners long z ++ replicate (rest z) n) in
    let starts : c.of.result ≡ starts_of (get_or world n []) = c.of.ensures ∙ ap starts_of c.object-view.ensures.value in
    record {
      views = c.in_ok-push-3.ensures.items ∙ ap (λ (l : List (List ℕ)). l ++ c.object-view.result ∷ []) c.loop-n.invariant.views ∙ views_next world n c.object-view.result within c.object-view.ensures.value;
      tables = tables_next world c.loop-n.blocks.items c.push.new.self.items c.loop-n.firsts.items owners c.push-in-loop-n.new.self.items c.resize.new.self.items n within c.object-view.ensures.object c.loop-n.invariant.tables
          (c.in_ok-push.ensures.items ∙ ap (λ (s : BlockStarts). c.loop-n.blocks.items ++ s ∷ []) starts)
          (c.in_ok-push-2.ensures.items ∙ ap (λ (j : ℕ). c.loop-n.firsts.items ++ j ∷ []) len)
          (c.in_ok-resize.ensures.items ∙ more);
    }

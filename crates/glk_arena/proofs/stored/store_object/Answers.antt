use Rattle.std.proofs.Common.{◌≡◌, ◌∙◌, ◌+◌, ℕ, List, length, slice_range, ap, sym, subst, arith}
use Rattle.glk_base.proofs.BytesAt.{range_read}
use Rattle.glk_obj.specs.Views.{IsShapeOf}
use Rattle.glk_package.proofs.BodiesAt.{is_at_end}
use Rattle.glk_arena.proofs.stored.store_object.Goals as goal

pub returns-clause-stored : goal.returns-clause-stored
returns-clause-stored c =
    let file : List ℕ = c.args.file.now in
    let goobj : List ℕ = c.args.object.now.goobj in
    let at : c.at-at.result ≡ c.args.object.now.at = c.at-at.ensures in
    let same : c.goobj.result.now ≡ goobj = c.goobj.ensures in
    let end = is_at_end file c.args.object.now.at goobj c.requires in
    let read : slice_range file c.at-at.result (c.at-at.result + length c.goobj.result.now) ≡ goobj =
    ap (λ (k : ℕ). slice_range file k (k + length c.goobj.result.now)) at ∙ range_read file c.args.object.now.at _ goobj c.requires (ap (λ (xs : List ℕ). c.args.object.now.at + length xs) same) in
    record {
      order = omega arith;
      inside = omega (arith, at, ap length same, end);
      fits = subst (λ (xs : List ℕ). IsShapeOf xs c.shape.result) (sym read) c.shape.ensures;
    }

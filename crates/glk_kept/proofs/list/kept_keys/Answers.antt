use Rattle.std.proofs.Common.{◌++◌, ◌∷◌, [], ◌∙◌, sym, refl, false}
use Rattle.std.specs.Prelude.{slice_index_or}
use Rattle.std.proofs.lemmas.List.Elements.{All-push, All-same}
use Rattle.glk_merge.specs.Mergings.{IsKey}
use Rattle.glk_reach.specs.KeptLists.{kept_at}
use Rattle.glk_kept.proofs.Rows.{row_more, row_same}
use Rattle.glk_kept.proofs.list.kept_keys.Goals as goal

pub loop-row-preserved-in_default : goal.loop-row-preserved-in_default
loop-row-preserved-in_default c =
    let f = kept_at c.args.merged.now.program (λ k. slice_index_or c.args.kept.now.kept k false) in
    record {
      listed = c.loop-row.invariant.listed ∙ sym (row_same f c.loop-row.row (sym c.kept_at.ensures.value ∙ c.in_default.is));
      keys = c.loop-row.invariant.keys;
    }

pub loop-row-preserved : goal.loop-row-preserved
loop-row-preserved c =
    let p = c.args.merged.now.program in
    let f = kept_at p (λ k. slice_index_or c.args.kept.now.kept k false) in
    let key = c.in-Some.key in
    let old = c.loop-row.list.items in
    record {
      listed = rw (c.in_ok-push.ensures.items, c.loop-row.invariant.listed, row_more f c.loop-row.row key (sym c.in-Some.ensures.value)) refl;
      keys = All-same (IsKey p) c.push.new.self.items (old ++ key ∷ []) c.in_ok-push.ensures.items (All-push (IsKey p) old key c.loop-row.invariant.keys c.in-Some.ensures.key);
    }

use Rattle.std.proofs.Common.{◌∙◌, sym, refl}
use Rattle.std.proofs.lemmas.List.Elements.{All-push}
use Rattle.glk_init.specs.Graph.{IsWithin}
use Rattle.glk_keys.specs.Rows.{row_count}
use Rattle.glk_tasks.proofs.Edges.{edges_more, edges_same}
use Rattle.glk_tasks.proofs.program.fill_edges.Goals as goal

pub loop-i-preserved-in_default : goal.loop-i-preserved-in_default
loop-i-preserved-in_default c = record {
  edges = c.loop-i.invariant.edges ∙ sym (edges_same c.args.merged.now.program c.args.id.0 c.loop-i.i (sym c.edge_at.ensures.value ∙ c.in_default.is));
  within = c.loop-i.invariant.within;
}

pub loop-i-preserved : goal.loop-i-preserved
loop-i-preserved c =
    let p = c.args.merged.now.program in
    record {
      edges = rw (c.in_ok-push.ensures.items, c.loop-i.invariant.edges, edges_more p c.args.id.0 c.loop-i.i c.in-Some.edge (sym c.in-Some.ensures.value)) refl;
      within = rw c.in_ok-push.ensures.items (All-push (IsWithin (row_count p)) c.loop-i.out.items c.in-Some.edge c.loop-i.invariant.within c.in-Some.ensures.within);
    }

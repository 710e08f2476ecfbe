use Rattle.std.proofs.Common.{◌<◌, length, sym, ap, ◌∙◌, arith}
use Rattle.std.specs.Prelude.{◌||◌}
use Rattle.glk_arena.specs.World.{objects_of}
use Rattle.glk_keys.specs.Interfaces.{is_marked_in}
use Rattle.glk_keys.specs.Rows.{row_count}
use Rattle.glk_merge.proofs.MarkLaws.{flag_is}
use Rattle.glk_merge.specs.Marks.{some_below, row_marks}
use Rattle.glk_merge.proofs.iface_flags.mark_all.Goals as goal

pub returns : goal.returns
returns c =
    let p = c.args.rows.now in
    let long = c.requires.long in record {
      long = omega arith;
      each = λ k h.
          let here : k < length c.args.flags.now = omega arith in
          let there : k < length c.mark_rows.new.flags = omega arith in
          let marked = some_below (is_marked_in p k) (length (objects_of p.world)) in
          c.mark_objects.ensures k there
          ∙ ap (λ b. b || marked) (c.mark_rows.ensures k here ∙ ap (λ b. b || some_below (row_marks p k) (row_count p)) (c.requires.none k here))
          ∙ sym (flag_is p k);
    }

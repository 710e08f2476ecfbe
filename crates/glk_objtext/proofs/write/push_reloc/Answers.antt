use Rattle.std.proofs.Common.{◌≡◌, to_z, of_z, w32, w64, rules}
use Rattle.glk_objtext.specs.Text.{whole_line}
use Rattle.glk_objtext.proofs.Joins.{five_field_line}
use Rattle.glk_objtext.proofs.write.push_reloc.Goals as goal

pub returns : goal.returns
unfolding whole_line
returns c =
    let narrow : to_z w32 (of_z w32 c.args.r.off) ≡ c.args.r.off = search rules in
    let off : to_z w64 (of_z w64 c.args.r.off) ≡ c.args.r.off = search rules in
    let add : to_z w64 (of_z w64 c.args.r.add) ≡ c.args.r.add = search rules in
    rw (c.in_ok-end_line.ensures, c.in_ok-target_field.ensures, c.in_ok-signed_field-2.ensures, c.in_ok-number_field-2.ensures, c.in_ok-number_field.ensures, c.in_ok-signed_field.ensures, c.in_ok-push_word.ensures, narrow, off, add) (five_field_line c.args.out.now.items _ _ _ _ _ _ _)
